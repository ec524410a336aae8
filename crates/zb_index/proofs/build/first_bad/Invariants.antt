use Rattle.std.proofs.Common.{ℕ, ◌<◌, length, IfSome}
use Rattle.zb_slots.specs.Slots.{Slot}
use Rattle.zb_slots.specs.Holding.{IsBad}
use Rattle.zb_index.specs.Gathering.{AreGathered}
use Rattle.zb_slots.specs.Shown.{AreShownBy}
use Rattle.zb_index.proofs.build.first_bad.Given as goal

abbrev pub invariant-loop-slot : goal.invariant-loop-slot
invariant-loop-slot l = (slots : ℕ → Slot) → AreShownBy l.headers slots → IfSome l.names (λ names. AreGathered (length l.headers) slots names.entries)
    → (i : ℕ) → i < l.slot → IsBad slots (length l.headers) i → ⊥
