use Rattle.std.proofs.Common.{◌≡◌, ◌≤◌, ◌+◌, ◌*◌, ◌-◌, length, slice_index}
use Rattle.zb_journal.specs.Journal.{EntriesStand}
use Rattle.zb_journal.proofs.reading.read_all.Given as goal

abbrev pub invariant-loop-alloc : goal.invariant-loop-alloc
invariant-loop-alloc l = record {
  stand : EntriesStand (slice_index l.bytes) 0 l.first l.entries l.journal.place;
  number : l.journal.number ≡ l.first + length l.entries;
  few : 32 * length l.entries ≤ l.journal.place;
  low : l.journal.place ≤ 65535;
}

abbrev pub decreases-loop-alloc : goal.decreases-loop-alloc
decreases-loop-alloc l = 65536 - l.journal.place
