use Rattle.spl_quotient.specs.Fnv.{print_of}
use Rattle.spl_quotient.proofs.Hashes.{hash_bits, spot_bits, cut_from}
use Rattle.spl_quotient.proofs.filter.Filter.of_hashes.Goals as goal

pub filter_of-requires-clause-bits : goal.filter_of-requires-clause-bits
filter_of-requires-clause-bits c = spot_bits (print_of c.exponent_of-q.result) c.args.hashes.now c.exponent_of-q.result c.in_ok-spots.spots.items c.in_ok-spots.ensures

pub returns-clause-prints : goal.returns-clause-prints
returns-clause-prints c =
    let q = c.exponent_of-q.result in
    let most = c.exponent_of-q.ensures.most in
    cut_from print_of c.args.hashes.now q c.in_ok-spots.spots.items c.filter_of.result most (hash_bits q most c.args.hashes.now c.type_inv.hashes) c.in_ok-spots.ensures c.filter_of.ensures.exponent c.filter_of.ensures.prints
