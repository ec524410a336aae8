use Rattle.std.proofs.Common.{◌≡◌, ℕ, ◌+◌, ◌≤◌, length}
use Rattle.zb_slots.specs.Slots.{Slot}
use Rattle.zb_index.specs.Drafting.{IsDraftOf}
use Rattle.zb_index.specs.Gathering.{AreGathered}
use Rattle.zb_index.specs.Seen.{IsInOrder}
use Rattle.zb_slots.specs.Shown.{AreShownBy}
use Rattle.zb_index.specs.Twins.{NoneIsBad}
use Rattle.zb_index.proofs.build.settled.Given as goal

abbrev pub invariant-loop-slot : goal.invariant-loop-slot
invariant-loop-slot l = record {
  draft : (slots : ℕ → Slot) → AreShownBy l.headers slots → AreGathered (length l.headers) slots l.names.entries → NoneIsBad slots (length l.headers)
      → IsDraftOf l.draft.spots.entries l.draft.free.slots l.draft.older slots (length l.headers) l.slot;
  order : IsInOrder l.draft.spots.entries;
  count : length l.draft.spots.entries + length l.draft.free.slots ≤ l.slot;
  room : l.draft.free.room ≡ length l.headers;
  few : length l.draft.older ≤ l.slot;
}
