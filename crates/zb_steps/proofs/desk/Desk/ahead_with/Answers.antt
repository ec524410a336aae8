use Rattle.std.proofs.Common.{◌∙◌}
use Rattle.zb_work.proofs.Missing.{missing_below, filled_goes, filled_long}
use Rattle.zb_steps.proofs.Finding.{rests_filled, emptied_is, filled_within, whole_long}
use Rattle.zb_steps.proofs.desk.Desk.ahead_with.Goals as goal

pub with_block-basis-requires : goal.with_block-basis-requires
with_block-basis-requires c = missing_below _ _ _ c.requires.fetching.missing

pub ahead_put-requires-clause-rests : goal.ahead_put-requires-clause-rests
ahead_put-requires-clause-rests c = rw c.with_block-basis.ensures (rests_filled _ _ _ _ _ _ _ _ _ _ c.requires.fetching (whole_long c.args.ptr c.args.bytes c.requires.whole))

pub ahead_put-requires-clause-within : goal.ahead_put-requires-clause-within
ahead_put-requires-clause-within c = rw c.with_block-basis.ensures (filled_within _ _ _ c.args.bytes c.requires.fetching.missing)

pub ahead_put-requires-clause-there : goal.ahead_put-requires-clause-there
ahead_put-requires-clause-there c = rw c.with_block-basis.ensures (filled_goes _ _ _ c.args.bytes c.requires.fetching.missing)

pub with_block-requires : goal.with_block-requires
with_block-requires c = rw c.with_block-basis.ensures (filled_long _ _ _ c.args.bytes c.requires.fetching.missing)

pub returns-in-Err-clause-same : goal.returns-in-Err-clause-same
returns-in-Err-clause-same c = c.with_block.ensures ∙ rw (c.with_block-basis.ensures, c.no_bytes.ensures) (emptied_is c.args.basis _ _ c.args.bytes c.requires.fetching.missing)
