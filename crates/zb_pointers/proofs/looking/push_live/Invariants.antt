use Rattle.std.proofs.Common.{◌≡◌, ◌++◌, drop}
use Rattle.zb_tables.specs.Finding.{live_in}
use Rattle.zb_pointers.specs.Seen.{numbered_file}
use Rattle.zb_pointers.proofs.looking.push_live.Given as goal

abbrev pub invariant-loop-block : goal.invariant-loop-block
invariant-loop-block l =
    l.found.items ++ live_in l.log l.stripe (numbered_file l.fid l.head (drop l.block-index l.blocks))
    ≡ l.initial.found.items ++ live_in l.log l.stripe (numbered_file l.fid l.head l.blocks)
