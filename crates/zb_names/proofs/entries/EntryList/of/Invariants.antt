use Rattle.std.proofs.Common.{◌≡◌, ◌≤◌, true, length, take}
use Rattle.std.specs.Prelude.{vec_capacity}
use Rattle.std.specs.List.{AllByRecursion}
use Rattle.zb_types.specs.Paths.{is_path}
use Rattle.zb_types.specs.Names.{max_names}
use Rattle.zb_names.specs.Shown.{listed}
use Rattle.zb_names.proofs.entries.EntryList.of.Given as goal

abbrev pub invariant-loop-given : goal.invariant-loop-given
invariant-loop-given l = record {
  so_far : l.items.items ≡ take l.given-index l.list;
  most : max_names ≤ vec_capacity l.items;
  fits : length l.list ≤ vec_capacity l.items;
  paths : AllByRecursion (λ e. is_path e.0 ≡ true) (listed (take l.given-index l.list));
}
