use Rattle.std.proofs.Common.{ℕ, ◌↔◌, map}
use Rattle.std.specs.Prelude.{All, Contains}
use Rattle.std.proofs.lemmas.Result.{IfOk-weaker}
use Rattle.spl_quotient.specs.Fnv.{fingerprint_of}
use Rattle.spl_quotient.proofs.Hashes.{key_bits, spot_bits, cut_from, each_has}
use Rattle.spl_quotient.proofs.filter.Filter.build.Goals as goal

pub filter_of-requires-clause-bits : goal.filter_of-requires-clause-bits
filter_of-requires-clause-bits c = spot_bits (fingerprint_of c.exponent_of-q.result) c.args.keys.now c.exponent_of-q.result c.in_ok-spots.spots.items c.in_ok-spots.ensures

pub returns-clause-prints : goal.returns-clause-prints
returns-clause-prints c =
    let q = c.exponent_of-q.result in
    let most = c.exponent_of-q.ensures.most in
    cut_from fingerprint_of c.args.keys.now q c.in_ok-spots.spots.items c.filter_of.result most (key_bits q most c.args.keys.now) c.in_ok-spots.ensures c.filter_of.ensures.exponent c.filter_of.ensures.prints

pub returns-clause-keys : goal.returns-clause-keys
returns-clause-keys c = IfOk-weaker c.filter_of.result (λ filter. (print : ℕ) → Contains filter.prints print ↔ Contains (map (fingerprint_of filter.q) c.args.keys.now) print)
    (λ filter. All (λ key. Contains filter.prints (fingerprint_of filter.q key)) c.args.keys.now)
    (λ filter. each_has (fingerprint_of filter.q) c.args.keys.now filter.prints)
    (returns-clause-prints c)
