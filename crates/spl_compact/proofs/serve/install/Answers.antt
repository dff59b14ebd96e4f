use Rattle.std.proofs.Common.{rules, ◌≡◌, ℕ, ◌+◌, ◌<◌, ◌≤◌, Bool, true, false, List, ◌++◌, Option, Some, None, option_to_list, flat_map, length, set, refl, sym, ap, subst, ◌∙◌, arith}
use Rattle.std.specs.Prelude.{IfSome, position}
use Rattle.std.proofs.lemmas.Bool.{false≢true}
use Rattle.std.proofs.lemmas.List.Quantifiers.{position-Some}
use Rattle.std.proofs.lemmas.Option.{same_Some}
use Rattle.spl_node.specs.Node.{NodeData, bare}
use Rattle.spl_node.specs.Steps.{fresh}
use Rattle.spl_trunk.specs.Tree.{named}
use Rattle.spl_trunk.specs.Trunk.{node_at}
use Rattle.spl_state.specs.declared.actor.Actor.{Actor}
use Rattle.spl_state.specs.declared.reply.Reply.{Reply}
use Rattle.spl_state.specs.declared.reply.Reply.TheVariants.{Elsewhere}
use Rattle.spl_state.specs.Actor.{actor_in}
use Rattle.spl_state.specs.Extents.{inputs_of, named_by, mentioned}
use Rattle.spl_state.specs.Frame.{IsFramed}
use Rattle.spl_state.specs.Names.{AreAccounted}
use Rattle.spl_state.specs.Sound.{IsSound, AreDrafts}
use Rattle.spl_state.specs.View.{branch_data, whole_of}
use Rattle.spl_state.specs.Whole.{Whole, counts}
use Rattle.spl_state.proofs.Accounts.{accounts_there}
use Rattle.spl_state.proofs.Views.{count_seen}
use Rattle.spl_compact.specs.declared.merging.Outcome.{Outcome}
use Rattle.spl_compact.specs.Installing.{Installs, MergesToNothing, carries, first_heir, goes_on, install_answer, is_heir, next_answer, ready_in, served, told_in, told_next}
use Rattle.spl_compact.specs.Starting.{HasRoom}
use Rattle.spl_compact.proofs.Accounting.{goes_on_twice}
use Rattle.spl_compact.proofs.Inputs.{all_there}
use Rattle.spl_compact.proofs.Installed.{Leaves, IsReady, accounted_ended, accounted_on, actors_left, carries_is, elsewhere_answer, ended_all, first_here, first_left, inputs_here, inputs_stand, is_served, leaves, nodes_left, output_stands, ready_whole, served_answer, trunk_is}
use Rattle.spl_compact.proofs.Told.{told_sound, told_framed}
use Rattle.spl_compact.proofs.serve.install.Given.{Over}
use Rattle.spl_compact.proofs.serve.install.Goals as goal
use Rattle.spl_compact.proofs.serve.install.Goals.{After-tell, After-tell-in-Some-first_heir, After-set_job}

-- a node where a test passes exists
found_below : (p : NodeData → Bool) (nodes : List NodeData) (next : Option ℕ) → next ≡ position p nodes → (n : ℕ) → next ≡ Some n → n < length nodes
found_below p nodes next told n is = (position-Some p nodes n (fresh 0 bare) (sym told ∙ is)).0

all_below : (o : Option ℕ) (bound limit : ℕ) → bound ≤ limit → ((n : ℕ) → o ≡ Some n → n < bound) → IfSome o (λ n. n < limit)
all_below None bound limit fits below = tt
all_below (Some n) bound limit fits below = omega (arith, below n refl)

-- the actor is told of another node that holds the run
told_is : (whole : Whole) (actors : List Actor) (actor : ℕ) (next : Option ℕ) → actors ≡ told_in whole.actors actor next → record whole { actors = actors } ≡ told_next whole actor next
told_is whole actors actor next are = ap (λ (a : List Actor). record whole { actors = a }) are

abbrev before : (g : Over) → After-tell g → Whole
before g c = whole_of (branch_data g.B.Content.extents g.B.Content.entries g.B.Content.cuts g.B.Content.table) c.parts.inside

below_here : (g : Over) (c : After-tell g) → (n : ℕ) → c.first_heir-next.result ≡ Some n → n < length (before g c).nodes
below_here g c = found_below (is_heir c.in-Some.outcome.last c.args.actor) c.parts.inside.trunk c.first_heir-next.result c.first_heir-next.ensures

pub invariant_of-parts : goal.invariant_of-parts
invariant_of-parts g c =
    subst (λ (w : Whole). IsSound w) (sym (told_is (before g c) c.tell.new.actors c.args.actor c.first_heir-next.result c.tell.ensures))
    (told_sound (before g c) c.parts.invariant c.args.actor c.requires.known c.first_heir-next.result (below_here g c))

pub returns-then-not-is_heir-clause-framed : goal.returns-then-not-is_heir-clause-framed
returns-then-not-is_heir-clause-framed g c = λ rule drafts nothing.
    subst (λ (w : Whole). IsFramed rule g.B.Content.TELLS w (record (before g c) { actors = c.tell.new.actors }) c.args.actor) c.parts.view_is
    (subst (λ (w : Whole). IsFramed rule g.B.Content.TELLS (before g c) w c.args.actor) (sym (told_is (before g c) c.tell.new.actors c.args.actor c.first_heir-next.result c.tell.ensures))
    (told_framed (before g c) c.parts.invariant c.args.actor c.requires.known c.first_heir-next.result (below_here g c) rule g.B.Content.TELLS (λ told. subst (λ (w : Whole). AreDrafts rule w) (sym c.parts.view_is) (drafts told))))

not_carried : (g : Over) (c : After-tell g) → carries c.args.actor (node_at (before g c).nodes c.args.node) ≡ false
not_carried g c =
    let ready = ready_whole (before g c) _ c.parts.view_is c.args.actor c.args.node c.args.output c.ready.result c.in-Some.outcome c.ready.ensures c.in-Some.is in
    carries_is (before g c) c.parts.invariant c.args.actor c.args.node c.args.output c.in-Some.outcome ready c.is_heir.result false c.is_heir.ensures c.if-not-is_heir.true

pub returns-then-not-is_heir-clause-answer : goal.returns-then-not-is_heir-clause-answer
returns-then-not-is_heir-clause-answer g c =
    let whole = before g c in
    let ready = ready_whole whole _ c.parts.view_is c.args.actor c.args.node c.args.output c.ready.result c.in-Some.outcome c.ready.ensures c.in-Some.is in
    let first = c.first_heir-next.ensures ∙ first_here whole c.parts.invariant c.args.actor c.args.node c.args.output c.in-Some.outcome ready in
    let told = subst (λ (w : Whole). ready_in w c.args.actor c.args.node c.args.output ≡ Some c.in-Some.outcome) (sym c.parts.view_is) (sym c.ready.ensures ∙ c.in-Some.is) in
    ap (λ (o : Option ℕ). let r : Reply g.row.B.Denot = Elsewhere o in r) first
    ∙ sym (elsewhere_answer {B = g.row.B.Denot} whole c.args.actor c.args.node c.args.output c.in-Some.outcome told (not_carried g c))
    ∙ ap (λ (w : Whole). install_answer {B = g.row.B.Denot} w c.args.actor c.args.node c.args.output) c.parts.view_is

pub returns-then-not-is_heir-clause-served : goal.returns-then-not-is_heir-clause-served
returns-then-not-is_heir-clause-served g c = λ outcome is_ready carried.
    absurd (false≢true (sym (not_carried g c) ∙ ap (λ (w : Whole). carries c.args.actor (node_at w.nodes c.args.node)) c.parts.view_is ∙ carried))

pub replace_run-requires-clause-inputs : goal.replace_run-requires-clause-inputs
replace_run-requires-clause-inputs g c =
    let whole = whole_of (branch_data g.B.Content.extents g.B.Content.entries g.B.Content.cuts g.B.Content.table) c.parts.inside in
    let ready = ready_whole whole _ c.parts.view_is c.args.actor c.args.node c.args.output c.ready.result c.in-Some.outcome c.ready.ensures c.in-Some.is in
    let carried = carries_is whole c.parts.invariant c.args.actor c.args.node c.args.output c.in-Some.outcome ready c.is_heir.result true c.is_heir.ensures c.if-not-is_heir.false in
    inputs_stand whole c.parts.invariant c.args.actor c.args.node c.args.output c.in-Some.outcome ready carried c.inputs_of-inputs.result.now (c.inputs_of-inputs.ensures ∙ ap (λ (a : Actor). inputs_of a.job) c.at.ensures.value)

pub replace_run-requires-clause-output : goal.replace_run-requires-clause-output
replace_run-requires-clause-output g c =
    let data_of = branch_data g.B.Content.extents g.B.Content.entries g.B.Content.cuts g.B.Content.table in
    let whole = whole_of data_of c.parts.inside in
    let ready = ready_whole whole _ c.parts.view_is c.args.actor c.args.node c.args.output c.ready.result c.in-Some.outcome c.ready.ensures c.in-Some.is in
    all_there data_of c.parts.inside.refs _ (output_stands whole c.parts.invariant c.args.actor c.args.node c.args.output c.in-Some.outcome ready)

pub replace_run-requires-clause-room : goal.replace_run-requires-clause-room
replace_run-requires-clause-room g c = λ number.
    let data_of = branch_data g.B.Content.extents g.B.Content.entries g.B.Content.cuts g.B.Content.table in
    let room = subst (λ (w : Whole). HasRoom w) (sym c.parts.view_is) c.requires.room number in
    let seen = count_seen data_of c.parts.inside.refs number in
    omega arith

pub replace_run-requires-clause-accounted : goal.replace_run-requires-clause-accounted
replace_run-requires-clause-accounted g c =
    let data_of = branch_data g.B.Content.extents g.B.Content.entries g.B.Content.cuts g.B.Content.table in
    (flat_map named_by c.parts.inside.actors, accounts_there g.B.Content.extents data_of (λ branch. refl) (mentioned c.parts.inside.trunk c.parts.inside.actors) c.parts.inside.refs c.parts.inside.pool c.parts.invariant.extents)

pub trim-requires-clause-accounted : goal.trim-requires-clause-accounted
trim-requires-clause-accounted g c =
    let data_of = branch_data g.B.Content.extents g.B.Content.entries g.B.Content.cuts g.B.Content.table in
    let rest = flat_map named_by c.parts.inside.actors in
    let first = accounts_there g.B.Content.extents data_of (λ branch. refl) (mentioned c.parts.inside.trunk c.parts.inside.actors) c.parts.inside.refs c.parts.inside.pool c.parts.invariant.extents in
    (rest, c.replace_run.ensures.accounted rest first)

pub tell-requires-in-Some-first_heir-clause-number : goal.tell-requires-in-Some-first_heir-clause-number
tell-requires-in-Some-first_heir-clause-number g c =
    let below = found_below (is_heir c.in-Some.outcome.last c.args.actor) c.trim.new.trunk c.first_heir.result c.first_heir.ensures c.in-Some-first_heir.next c.in-Some-first_heir.is in
    let few = (c.trim.ensures.shaped (c.replace_run.ensures.shaped c.parts.invariant.shaped)).few in
    omega arith

abbrev after_on : (g : Over) → After-tell-in-Some-first_heir g → Whole
after_on g c =
    whole_of (branch_data g.B.Content.extents g.B.Content.entries g.B.Content.cuts g.B.Content.table)
    (record c.parts.inside { trunk = c.trim.new.trunk; refs = c.trim.new.refs; pool = c.trim.new.pool; actors = c.tell-in-Some-first_heir.new.self })

leaves_on : (g : Over) (c : After-tell-in-Some-first_heir g) → Leaves (whole_of (branch_data g.B.Content.extents g.B.Content.entries g.B.Content.cuts g.B.Content.table) c.parts.inside) (after_on g c) c.args.actor c.args.node c.args.output c.in-Some.outcome
leaves_on g c =
    let data_of = branch_data g.B.Content.extents g.B.Content.entries g.B.Content.cuts g.B.Content.table in
    let whole = whole_of data_of c.parts.inside in
    let sound = c.parts.invariant in
    let actor = c.args.actor in
    let node = c.args.node in
    let output = c.args.output in
    let outcome = c.in-Some.outcome in
    let ready = ready_whole whole _ c.parts.view_is actor node output c.ready.result outcome c.ready.ensures c.in-Some.is in
    let carried = carries_is whole sound actor node output outcome ready c.is_heir.result true c.is_heir.ensures c.if-not-is_heir.false in
    let rest = flat_map named_by c.parts.inside.actors in
    let first = accounts_there g.B.Content.extents data_of (λ branch. refl) (mentioned c.parts.inside.trunk c.parts.inside.actors) c.parts.inside.refs c.parts.inside.pool sound.extents in
    let trimmed = c.trim.ensures.accounted rest (c.replace_run.ensures.accounted rest first) in
    let nodes = trunk_is whole sound actor node output outcome ready carried c.replace_run.new.trunk c.trim.new.trunk c.replace_run.ensures.value c.trim.ensures.value in
    let here = sym (first_left whole sound actor node output outcome ready carried c.trim.new.trunk nodes) ∙ sym c.first_heir.ensures ∙ c.in-Some-first_heir.is in
    let left = subst (λ (t : List NodeData). AreAccounted g.B.Content.extents (named t ++ rest) c.trim.new.refs c.trim.new.pool) nodes trimmed in
    let accounted = accounted_on whole sound actor node output outcome ready carried g.B.Content.extents data_of (λ branch. refl) c.parts.inside.refs refl c.trim.new.refs c.trim.new.pool c.in-Some-first_heir.next here left in
    let names = goes_on_twice _ _ _ _ _ _ (option_to_list outcome.output) c.replace_run.ensures.names c.trim.ensures.names in
    let actors = c.tell-in-Some-first_heir.ensures ∙ ap (λ (h : Option ℕ). set c.parts.inside.actors actor (goes_on (actor_in c.parts.inside.actors actor) h)) (sym here) in
    leaves whole sound actor node output outcome ready carried g.B.Content.extents data_of (λ branch. refl) c.parts.inside.refs refl c.trim.new.refs c.trim.new.pool c.trim.new.trunk c.tell-in-Some-first_heir.new.self accounted names nodes (c.trim.ensures.shaped (c.replace_run.ensures.shaped sound.shaped)) actors

pub invariant_of-parts-in-Some-first_heir : goal.invariant_of-parts-in-Some-first_heir
invariant_of-parts-in-Some-first_heir g c = (leaves_on g c).sound

-- what is answered where the node was served
served_now : (g : Over) (whole now : Whole) → whole ≡ now → (actor node : ℕ) (output : Bool) (outcome : Outcome) (ready : ready_in now actor node output ≡ Some outcome) → carries actor (node_at whole.nodes node) ≡ true → (left : List NodeData) → served whole.nodes node outcome ≡ left → (h : Option ℕ) → first_heir left actor ≡ h → next_answer {B = g.row.B.Denot} h ≡ install_answer {B = g.row.B.Denot} now actor node output
served_now g whole now view actor node output outcome ready carried left is_left h is_h =
    ap (next_answer {B = g.row.B.Denot}) (sym (ap (λ (t : List NodeData). first_heir t actor) is_left ∙ is_h))
    ∙ sym (served_answer {B = g.row.B.Denot} whole actor node output outcome (subst (λ (w : Whole). ready_in w actor node output ≡ Some outcome) (sym view) ready) carried)
    ∙ ap (λ (w : Whole). install_answer {B = g.row.B.Denot} w actor node output) view

-- an outcome is the only one
one_outcome : (o : Option Outcome) (a b : Outcome) → o ≡ Some a → o ≡ Some b → a ≡ b
one_outcome o a b is_a is_b = same_Some a b (sym is_a ∙ is_b)

pub returns-in-Some-first_heir-clause-answer : goal.returns-in-Some-first_heir-clause-answer
returns-in-Some-first_heir-clause-answer g c =
    let whole = whole_of (branch_data g.B.Content.extents g.B.Content.entries g.B.Content.cuts g.B.Content.table) c.parts.inside in
    let sound = c.parts.invariant in
    let actor = c.args.actor in
    let node = c.args.node in
    let output = c.args.output in
    let outcome = c.in-Some.outcome in
    let ready = ready_whole whole _ c.parts.view_is actor node output c.ready.result outcome c.ready.ensures c.in-Some.is in
    let carried = carries_is whole sound actor node output outcome ready c.is_heir.result true c.is_heir.ensures c.if-not-is_heir.false in
    let nodes = trunk_is whole sound actor node output outcome ready carried c.replace_run.new.trunk c.trim.new.trunk c.replace_run.ensures.value c.trim.ensures.value in
    let here = sym (first_left whole sound actor node output outcome ready carried c.trim.new.trunk nodes) ∙ sym c.first_heir.ensures ∙ c.in-Some-first_heir.is in
    served_now g whole _ c.parts.view_is actor node output outcome (sym c.ready.ensures ∙ c.in-Some.is) carried (nodes_left whole sound actor node output outcome ready) (is_served whole sound actor node output outcome ready) (Some c.in-Some-first_heir.next) here

pub returns-in-Some-first_heir-clause-served : goal.returns-in-Some-first_heir-clause-served
returns-in-Some-first_heir-clause-served g c = λ outcome is_ready carried.
    let same = one_outcome _ c.in-Some.outcome outcome (sym c.ready.ensures ∙ c.in-Some.is) is_ready in
    subst (λ (o : Outcome). Installs c.args.parts.now (after_on g c) c.args.actor c.args.node o) same
    (subst (λ (w : Whole). Installs w (after_on g c) c.args.actor c.args.node c.in-Some.outcome) c.parts.view_is (leaves_on g c).done)

pub returns-in-Some-first_heir-clause-counts : goal.returns-in-Some-first_heir-clause-counts
returns-in-Some-first_heir-clause-counts g c = λ number.
    subst (λ (w : Whole). counts (after_on g c) number ≤ counts w number + 1) c.parts.view_is ((leaves_on g c).few number)

pub returns-in-Some-first_heir-clause-framed : goal.returns-in-Some-first_heir-clause-framed
returns-in-Some-first_heir-clause-framed g c = λ rule drafts nothing.
    subst (λ (w : Whole). IsFramed rule g.B.Content.TELLS w (after_on g c) c.args.actor) c.parts.view_is
    ((leaves_on g c).framed rule g.B.Content.TELLS (λ told. subst (λ (w : Whole). AreDrafts rule w) (sym c.parts.view_is) (drafts told))
    (λ told none. subst (λ (w : Whole). MergesToNothing rule w c.args.actor) (sym c.parts.view_is) (nothing told none)))

pub end_names-requires : goal.end_names-requires
end_names-requires g c =
    let data_of = branch_data g.B.Content.extents g.B.Content.entries g.B.Content.cuts g.B.Content.table in
    let whole = whole_of data_of c.parts.inside in
    let sound = c.parts.invariant in
    let actor = c.args.actor in
    let node = c.args.node in
    let output = c.args.output in
    let outcome = c.in-Some.outcome in
    let ready = ready_whole whole _ c.parts.view_is actor node output c.ready.result outcome c.ready.ensures c.in-Some.is in
    let carried = carries_is whole sound actor node output outcome ready c.is_heir.result true c.is_heir.ensures c.if-not-is_heir.false in
    let rest = flat_map named_by c.parts.inside.actors in
    let first = accounts_there g.B.Content.extents data_of (λ branch. refl) (mentioned c.parts.inside.trunk c.parts.inside.actors) c.parts.inside.refs c.parts.inside.pool sound.extents in
    let trimmed = c.trim.ensures.accounted rest (c.replace_run.ensures.accounted rest first) in
    let nodes = trunk_is whole sound actor node output outcome ready carried c.replace_run.new.trunk c.trim.new.trunk c.replace_run.ensures.value c.trim.ensures.value in
    let none : c.first_heir.result ≡ None = search rules in
    let here = sym (first_left whole sound actor node output outcome ready carried c.trim.new.trunk nodes) ∙ sym c.first_heir.ensures ∙ none in
    let left = subst (λ (t : List NodeData). AreAccounted g.B.Content.extents (named t ++ rest) c.trim.new.refs c.trim.new.pool) nodes trimmed in
    let all = accounted_ended whole sound actor node output outcome ready carried g.B.Content.extents data_of (λ branch. refl) c.parts.inside.refs refl c.trim.new.refs c.trim.new.pool here left in
    let inputs = inputs_here whole sound actor node output outcome ready c.inputs_of-inputs-in-None.result.now (c.inputs_of-inputs-in-None.ensures ∙ ap (λ (a : Actor). inputs_of a.job) c.at-in-None.ensures.value) in
    let last = mentioned (nodes_left whole sound actor node output outcome ready) (actors_left whole sound actor node output outcome ready carried) in
    let with_output = subst (λ (o : Option ℕ). AreAccounted g.B.Content.extents (ready.run.inputs ++ (option_to_list o ++ last)) c.trim.new.refs c.trim.new.pool) (sym (ap (λ (o : Outcome). o.output) ready.is)) all in
    record { accounted = (last, subst (λ (ns : List ℕ). AreAccounted g.B.Content.extents (ns ++ (option_to_list outcome.output ++ last)) c.trim.new.refs c.trim.new.pool) (sym inputs) with_output) }

abbrev after_end : (g : Over) → After-set_job g → Whole
after_end g c =
    whole_of (branch_data g.B.Content.extents g.B.Content.entries g.B.Content.cuts g.B.Content.table)
    (record c.parts.inside { trunk = c.trim.new.trunk; refs = c.end_names.new.refs; pool = c.end_names.new.pool; actors = c.set_job.new.self })

heir_none : (g : Over) (c : After-set_job g) (ready : IsReady (whole_of (branch_data g.B.Content.extents g.B.Content.entries g.B.Content.cuts g.B.Content.table) c.parts.inside) c.args.actor c.args.node c.args.output c.in-Some.outcome) → first_heir (nodes_left (whole_of (branch_data g.B.Content.extents g.B.Content.entries g.B.Content.cuts g.B.Content.table) c.parts.inside) c.parts.invariant c.args.actor c.args.node c.args.output c.in-Some.outcome ready) c.args.actor ≡ None
heir_none g c ready =
    let whole = whole_of (branch_data g.B.Content.extents g.B.Content.entries g.B.Content.cuts g.B.Content.table) c.parts.inside in
    let carried = carries_is whole c.parts.invariant c.args.actor c.args.node c.args.output c.in-Some.outcome ready c.is_heir.result true c.is_heir.ensures c.if-not-is_heir.false in
    let nodes = trunk_is whole c.parts.invariant c.args.actor c.args.node c.args.output c.in-Some.outcome ready carried c.replace_run.new.trunk c.trim.new.trunk c.replace_run.ensures.value c.trim.ensures.value in
    let none : c.first_heir.result ≡ None = search rules in
    sym (first_left whole c.parts.invariant c.args.actor c.args.node c.args.output c.in-Some.outcome ready carried c.trim.new.trunk nodes) ∙ sym c.first_heir.ensures ∙ none

leaves_end : (g : Over) (c : After-set_job g) → Leaves (whole_of (branch_data g.B.Content.extents g.B.Content.entries g.B.Content.cuts g.B.Content.table) c.parts.inside) (after_end g c) c.args.actor c.args.node c.args.output c.in-Some.outcome
leaves_end g c =
    let data_of = branch_data g.B.Content.extents g.B.Content.entries g.B.Content.cuts g.B.Content.table in
    let whole = whole_of data_of c.parts.inside in
    let sound = c.parts.invariant in
    let actor = c.args.actor in
    let node = c.args.node in
    let output = c.args.output in
    let outcome = c.in-Some.outcome in
    let ready = ready_whole whole _ c.parts.view_is actor node output c.ready.result outcome c.ready.ensures c.in-Some.is in
    let carried = carries_is whole sound actor node output outcome ready c.is_heir.result true c.is_heir.ensures c.if-not-is_heir.false in
    let rest = flat_map named_by c.parts.inside.actors in
    let first = accounts_there g.B.Content.extents data_of (λ branch. refl) (mentioned c.parts.inside.trunk c.parts.inside.actors) c.parts.inside.refs c.parts.inside.pool sound.extents in
    let trimmed = c.trim.ensures.accounted rest (c.replace_run.ensures.accounted rest first) in
    let nodes = trunk_is whole sound actor node output outcome ready carried c.replace_run.new.trunk c.trim.new.trunk c.replace_run.ensures.value c.trim.ensures.value in
    let here = heir_none g c ready in
    let left = subst (λ (t : List NodeData). AreAccounted g.B.Content.extents (named t ++ rest) c.trim.new.refs c.trim.new.pool) nodes trimmed in
    let all = accounted_ended whole sound actor node output outcome ready carried g.B.Content.extents data_of (λ branch. refl) c.parts.inside.refs refl c.trim.new.refs c.trim.new.pool here left in
    let inputs = inputs_here whole sound actor node output outcome ready c.inputs_of-inputs-in-None.result.now (c.inputs_of-inputs-in-None.ensures ∙ ap (λ (a : Actor). inputs_of a.job) c.at-in-None.ensures.value) in
    let last = mentioned (nodes_left whole sound actor node output outcome ready) (actors_left whole sound actor node output outcome ready carried) in
    let with_output = subst (λ (o : Option ℕ). AreAccounted g.B.Content.extents (ready.run.inputs ++ (option_to_list o ++ last)) c.trim.new.refs c.trim.new.pool) (sym (ap (λ (o : Outcome). o.output) ready.is)) all in
    let named_so = subst (λ (ns : List ℕ). AreAccounted g.B.Content.extents (ns ++ (option_to_list outcome.output ++ last)) c.trim.new.refs c.trim.new.pool) (sym inputs) with_output in
    let accounted = c.end_names.ensures.accounted last named_so in
    let names = goes_on_twice _ _ _ _ _ _ (option_to_list outcome.output) (goes_on_twice _ _ _ _ _ _ (option_to_list outcome.output) c.replace_run.ensures.names c.trim.ensures.names) c.end_names.ensures.names in
    let actors = c.set_job.ensures ∙ ap (λ (h : Option ℕ). set c.parts.inside.actors actor (goes_on (actor_in c.parts.inside.actors actor) h)) (sym here) in
    leaves whole sound actor node output outcome ready carried g.B.Content.extents data_of (λ branch. refl) c.parts.inside.refs refl c.end_names.new.refs c.end_names.new.pool c.trim.new.trunk c.set_job.new.self accounted names nodes (c.trim.ensures.shaped (c.replace_run.ensures.shaped sound.shaped)) actors

pub invariant_of-parts-in-None : goal.invariant_of-parts-in-None
invariant_of-parts-in-None g c = (leaves_end g c).sound

pub returns-in-None-clause-answer : goal.returns-in-None-clause-answer
returns-in-None-clause-answer g c =
    let whole = whole_of (branch_data g.B.Content.extents g.B.Content.entries g.B.Content.cuts g.B.Content.table) c.parts.inside in
    let sound = c.parts.invariant in
    let actor = c.args.actor in
    let node = c.args.node in
    let output = c.args.output in
    let outcome = c.in-Some.outcome in
    let ready = ready_whole whole _ c.parts.view_is actor node output c.ready.result outcome c.ready.ensures c.in-Some.is in
    let carried = carries_is whole sound actor node output outcome ready c.is_heir.result true c.is_heir.ensures c.if-not-is_heir.false in
    served_now g whole _ c.parts.view_is actor node output outcome (sym c.ready.ensures ∙ c.in-Some.is) carried (nodes_left whole sound actor node output outcome ready) (is_served whole sound actor node output outcome ready) None (heir_none g c ready)

pub returns-in-None-clause-served : goal.returns-in-None-clause-served
returns-in-None-clause-served g c = λ outcome is_ready carried.
    let same = one_outcome _ c.in-Some.outcome outcome (sym c.ready.ensures ∙ c.in-Some.is) is_ready in
    subst (λ (o : Outcome). Installs c.args.parts.now (after_end g c) c.args.actor c.args.node o) same
    (subst (λ (w : Whole). Installs w (after_end g c) c.args.actor c.args.node c.in-Some.outcome) c.parts.view_is (leaves_end g c).done)

pub returns-in-None-clause-ended : goal.returns-in-None-clause-ended
returns-in-None-clause-ended g c = λ is number.
    let whole = whole_of (branch_data g.B.Content.extents g.B.Content.entries g.B.Content.cuts g.B.Content.table) c.parts.inside in
    let ready = ready_whole whole _ c.parts.view_is c.args.actor c.args.node c.args.output c.ready.result c.in-Some.outcome c.ready.ensures c.in-Some.is in
    let carried = carries_is whole c.parts.invariant c.args.actor c.args.node c.args.output c.in-Some.outcome ready c.is_heir.result true c.is_heir.ensures c.if-not-is_heir.false in
    let nodes = trunk_is whole c.parts.invariant c.args.actor c.args.node c.args.output c.in-Some.outcome ready carried c.replace_run.new.trunk c.trim.new.trunk c.replace_run.ensures.value c.trim.ensures.value in
    subst (λ (t : List NodeData). carries c.args.actor (node_at t number) ≡ false) (sym nodes) (ended_all (nodes_left whole c.parts.invariant c.args.actor c.args.node c.args.output c.in-Some.outcome ready) c.args.actor (heir_none g c ready) number)

pub returns-in-None-clause-counts : goal.returns-in-None-clause-counts
returns-in-None-clause-counts g c = λ number.
    subst (λ (w : Whole). counts (after_end g c) number ≤ counts w number + 1) c.parts.view_is ((leaves_end g c).few number)

pub returns-in-None-clause-framed : goal.returns-in-None-clause-framed
returns-in-None-clause-framed g c = λ rule drafts nothing.
    subst (λ (w : Whole). IsFramed rule g.B.Content.TELLS w (after_end g c) c.args.actor) c.parts.view_is
    ((leaves_end g c).framed rule g.B.Content.TELLS (λ told. subst (λ (w : Whole). AreDrafts rule w) (sym c.parts.view_is) (drafts told))
    (λ told none. subst (λ (w : Whole). MergesToNothing rule w c.args.actor) (sym c.parts.view_is) (nothing told none)))
