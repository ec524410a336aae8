use Rattle.std.proofs.Common.{◌≡◌, ◌<◌, ◌^◌, ◌++◌, length}
use Rattle.std.specs.List.{flat_map, AllByRecursion}
use Rattle.zb_spelling.specs.Spelling.{file_text}
use Rattle.zb_spelling.proofs.files.push_all.Given as goal

abbrev pub invariant-loop-fid : goal.invariant-loop-fid
invariant-loop-fid l = record {
  text : l.to ++ flat_map file_text l.files ≡ l.fn.to ++ flat_map file_text l.pointers.files;
  counts : AllByRecursion (λ e. length (e.1).blocks < 2 ^ 32) l.files → AllByRecursion (λ e. length (e.1).blocks < 2 ^ 32) l.pointers.files;
}

abbrev pub decreases-loop-fid : goal.decreases-loop-fid
decreases-loop-fid l = length l.files
