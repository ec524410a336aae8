use Rattle.std.proofs.Common.{rules, sym, subst}
use Rattle.std.proofs.lemmas.List.Sorted.{IsPartitionPoint-from_clause}
use Rattle.std.specs.List.Sorted.{IsPartitionedBy}
use Rattle.zb_tables.specs.Fold.{is_before}
use Rattle.zb_log_tables.specs.HeldStripes.{key_of}
use Rattle.zb_log_tables.proofs.Stripes.{rising_from, parts}
use Rattle.zb_log_tables.proofs.held.HeldTable.place.Goals as goal

pub returns-clause-place : goal.returns-clause-place
returns-clause-place c =
    let key = key_of c.args.log c.args.stripe in
    let rising = rising_from c.self.inside.stripes.items c.self.invariant in
    let parted = subst (IsPartitionedBy (λ h. is_before h key)) (sym c.deref.ensures.value) (parts c.self.inside.stripes.items key rising) in
    rw (← c.self.view_is) (rw (← c.deref.ensures.value)
    (IsPartitionPoint-from_clause (λ h. is_before h key) c.deref.result.now c.partition_point.result c.partition_point.ensures.partitioned parted (λ a r q k. search rules)))
