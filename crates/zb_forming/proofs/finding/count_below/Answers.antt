use Rattle.std.proofs.Common.{ℕ, rules}
use Rattle.std.specs.Prelude.{nat_lt}
use Rattle.std.proofs.lemmas.Bool.{ltb-true}
use Rattle.std.proofs.lemmas.List.Sorted.{IsPartitionPoint-from_clause}
use Rattle.zb_types.specs.declared.ids.Ptr.{Ptr}
use Rattle.zb_forming.proofs.Looked.{parted, not_below}
use Rattle.zb_forming.proofs.finding.count_below.Goals as goal

pub returns : goal.returns
returns c =
    let point = IsPartitionPoint-from_clause (λ (e : ℕ × Ptr). nat_lt e.0 c.args.k) _ _ c.partition_point.ensures.partitioned (parted c.args.k c.args.blocks.now c.requires) (λ a r q k. search rules) in
    record { below = λ i d z l. ltb-true _ _ (point.0 i d z l); others = λ i d z l. not_below _ _ (point.1 i d z l) }
