use Rattle.std.proofs.Common.{Some, ap, arith, subst, sym}
use Rattle.zb_types.specs.declared.nodes.Members.{Members}
use Rattle.zb_tables.specs.Taking.{IsState, Sizes, no_batch}
use Rattle.zb_replay.proofs.taking.take_mark.Goals as goal

pub returns-clause-taken : goal.returns-clause-taken
returns-clause-taken c contents before = record {
  batch = no_batch;
  is = tt;
  taken = (subst (λ (z : Sizes). IsState z.servers c.args.members.state) (sym c.requires.sizes) (c.is_state.ensures.0 c.if-not-is_state.false), omega (arith, c.if-members.false, ap (λ (m : Members). m.generation) c.members.ensures), c.if-members-gt-LAST.false);
  folds = ap Some (sym c.set_members.ensures.tables);
}
