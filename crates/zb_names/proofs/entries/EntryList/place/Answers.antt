use Rattle.std.proofs.Common.{◌++◌, ◌≤◌, length, subst, rules}
use Rattle.std.specs.Map.{keys_of}
use Rattle.std.proofs.lemmas.List.Sorted.{IsPartitionPoint-from_clause}
use Rattle.zb_names.specs.Placing.{SeenEntries, IsPlace, is_less}
use Rattle.zb_names.proofs.Places.{parted, found_place}
use Rattle.zb_names.proofs.entries.EntryList.place.Goals as goal

pub returns-clause-place : goal.returns-clause-place
returns-clause-place c =
    let items = c.self.inside.items.items in
    let key = c.args.head.now ++ c.args.tail.now in
    let i = c.partition_point.result in
    let within : i ≤ length items = subst (λ xs. i ≤ length xs) c.deref.ensures.value c.partition_point.ensures.bound in
    let point = IsPartitionPoint-from_clause (λ e. is_less e.0 key) _ _ c.partition_point.ensures.partitioned (rw c.deref.ensures.value (parted key items c.self.invariant)) (λ a r q k. search rules) in
    subst (λ (s : SeenEntries). IsPlace key (keys_of s.entries) i) c.self.view_is (found_place key items i within (rw c.deref.ensures.value at point))
