use Rattle.std.proofs.Common.{◌<◌, length, sym, arith}
use Rattle.spl_state.specs.View.{branch_data, whole_of}
use Rattle.spl_survey.proofs.Told.{named_exists, told_sound, told_framed, greatest_where}
use Rattle.spl_survey.proofs.show.survey.Goals as goal

pub tell-requires-clause-number : goal.tell-requires-clause-number
tell-requires-clause-number g c =
    let whole = whole_of (branch_data g.B.Content.extents g.B.Content.entries g.B.Content.cuts g.B.Content.table) c.parts.inside in
    let count = c.count-nodes.ensures.value in
    let exists : c.args.node < length c.parts.inside.trunk = omega arith in
    let is = greatest_where whole _ c.parts.view_is c.args.node _ _ _ c.in-Ok.ensures c.as_slice.ensures c.greatest_named-greatest.ensures in
    let named = named_exists whole c.args.actor c.args.node c.parts.invariant c.requires exists in
    let few = c.parts.invariant.shaped.few in
    omega arith

pub invariant_of-parts : goal.invariant_of-parts
invariant_of-parts g c =
    let whole = whole_of (branch_data g.B.Content.extents g.B.Content.entries g.B.Content.cuts g.B.Content.table) c.parts.inside in
    let count = c.count-nodes.ensures.value in
    let exists : c.args.node < length c.parts.inside.trunk = omega arith in
    let is = greatest_where whole _ c.parts.view_is c.args.node _ _ _ c.in-Ok.ensures c.as_slice.ensures c.greatest_named-greatest.ensures in
    told_sound whole c.args.actor c.args.node c.parts.invariant c.requires exists _ is _ c.tell.ensures

pub returns-in-Ok-clause-framed : goal.returns-in-Ok-clause-framed
returns-in-Ok-clause-framed g c = λ rule drafts.
    let whole = whole_of (branch_data g.B.Content.extents g.B.Content.entries g.B.Content.cuts g.B.Content.table) c.parts.inside in
    let count = c.count-nodes.ensures.value in
    let exists : c.args.node < length c.parts.inside.trunk = omega arith in
    let is = greatest_where whole _ c.parts.view_is c.args.node _ _ _ c.in-Ok.ensures c.as_slice.ensures c.greatest_named-greatest.ensures in
    told_framed whole c.args.actor c.args.node c.parts.invariant c.requires exists _ is _ c.tell.ensures _ (sym c.parts.view_is) rule _ drafts
