use Rattle.std.proofs.Common.{◌≡◌, ◌++◌, length}
use Rattle.std.specs.List.{flat_map}
use Rattle.zb_tables.specs.Finding.{live_in}
use Rattle.zb_pointers.proofs.pointers.Pointers.live.Given as goal

abbrev pub invariant-loop-fid : goal.invariant-loop-fid
invariant-loop-fid l = l.found.items ++ flat_map (live_in l.log l.stripe) l.files ≡ flat_map (live_in l.log l.stripe) l.self.files

abbrev pub decreases-loop-fid : goal.decreases-loop-fid
decreases-loop-fid l = length l.files
