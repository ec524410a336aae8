use Rattle.std.proofs.Common.{ℕ}
use Rattle.zb_slots.specs.Slots.{Slot}
use Rattle.zb_slots.specs.Shown.{AreShownBy}
use Rattle.zb_index.specs.Gathering.{AreHolders}
use Rattle.zb_index.proofs.build.holders_among.Given as goal

abbrev pub invariant-loop-slot : goal.invariant-loop-slot
invariant-loop-slot l = (slots : ℕ → Slot) → AreShownBy l.headers slots → AreHolders l.slot slots l.id l.holders
