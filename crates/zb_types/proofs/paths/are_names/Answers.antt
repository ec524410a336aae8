use Rattle.std.proofs.Common.{sym, ◌∙◌, arith}
use Rattle.zb_types.proofs.Splitting.{at_slash, at_other}
use Rattle.zb_types.proofs.paths.are_names.Goals as goal
use Rattle.zb_types.proofs.paths.are_names.Goals.{then-b-eq47+else-not-is_name, else-b-eq47}

pub loop-i-preserved : goal.loop-i-preserved
loop-i-preserved c = elim c.if-b-eq47.branch [
  | then-b-eq47+else-not-is_name w ↦ rw w.start-is (record {
    within = omega arith;
    rest = at_slash _ _ _ c.loop-i-test.true w.if-b-eq47.true (sym w.is_name.ensures ∙ w.if-not-is_name.false) ∙ c.loop-i.invariant.rest;
  })
  | else-b-eq47 w ↦ rw w.start-is (record {
    within = omega arith;
    rest = at_other _ _ _ c.loop-i.invariant.within c.loop-i-test.true w.if-b-eq47.false ∙ c.loop-i.invariant.rest;
  })
]
