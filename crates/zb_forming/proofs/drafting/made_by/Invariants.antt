use Rattle.std.proofs.Common.{◌≡◌, take}
use Rattle.zb_forming.specs.Drafts.{known, made_by}
use Rattle.zb_forming.proofs.drafting.made_by.Given as goal

abbrev pub invariant-loop-change : goal.invariant-loop-change
invariant-loop-change l = l.made.items ≡ made_by l.block (known l.fetched) l.blocks l.call (take l.change-index l.changes)
