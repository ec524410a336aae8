use Rattle.std.proofs.Common.{rules, length, ltb, sym, ap, subst, arith}
use Rattle.std.specs.List.Sorted.{IsPartitionedBy}
use Rattle.std.proofs.lemmas.List.Sorted.{IsPartitionPoint-from_clause, IsPartitionedBy-ltb}
use Rattle.zb_types.proofs.KeyedLists.{IsRising-from_ordered}
use Rattle.zb_log_tables.specs.Logs.{states_of}
use Rattle.zb_log_tables.proofs.LogPlaces.{numbers_rise, place_found}
use Rattle.zb_log_tables.proofs.logs.LogTable.place.Goals as goal

pub returns-clause-place : goal.returns-clause-place
returns-clause-place c =
    let ls = c.self.inside.logs.items in
    let n = c.args.log.0 in
    let rising = numbers_rise ls (IsRising-from_ordered (states_of ls) c.self.invariant.rising) in
    let parted = subst (IsPartitionedBy (λ l. ltb l.number n)) (sym c.deref.ensures.value) (IsPartitionedBy-ltb (λ l. l.number) ls n rising) in
    let point = IsPartitionPoint-from_clause (λ l. ltb l.number n) c.deref.result.now c.partition_point.result c.partition_point.ensures.partitioned parted (λ a r q k. search rules) in
    rw (← c.self.view_is) (place_found ls n c.partition_point.result (omega (arith, c.partition_point.ensures.bound, ap length c.deref.ensures.value)) (rw (← c.deref.ensures.value) point))
