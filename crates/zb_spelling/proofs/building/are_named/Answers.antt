use Rattle.std.proofs.Common.{◌∙◌}
use Rattle.zb_spelling.proofs.Sorting.{named_by}
use Rattle.zb_spelling.proofs.building.are_named.Goals as goal

pub returns : goal.returns
returns c =
    named_by _ c.in_ok-named.named.items _ c.as_slice.result.now _ c.as_slice-2.result.now c.in_ok-named.ensures c.sort_unstable.ensures.permutation c.as_slice.ensures.value c.sort_unstable.ensures.sorted
    (c.as_slice-2.ensures.value ∙ c.in_ok-numbers.ensures) c.requires c.are_same.result c.are_same.ensures
