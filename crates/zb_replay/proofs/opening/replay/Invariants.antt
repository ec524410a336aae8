use Rattle.std.proofs.Common.{◌≡◌, ◌+◌, ℕ, [], min, take}
use Rattle.std.specs.Prelude.{IsTrue}
use Rattle.zb_outside.specs.Counts.{GoesOn}
use Rattle.zb_tables.specs.Tables.{last_value}
use Rattle.zb_tables.specs.Taking.{AreTaken}
use Rattle.zb_replay.specs.Opening.{LeavesTables}
use Rattle.zb_replay.specs.Taking.{SameOwner}
use Rattle.zb_replay.proofs.opening.replay.Given as goal

abbrev pub invariant-loop-i : goal.invariant-loop-i
invariant-loop-i g l = record {
  taken : IsTrue g.B.Bay.tells → AreTaken l.fn.manager.sizes (g.S.ReadPieces.contents l.fn.servers l.fn.bay) [] l.fn.manager.tables (take l.i l.fn.entries) l.manager.tables;
  next : (number : ℕ) → l.fn.manager.tables.next_entry ≡ min number last_value → l.manager.tables.next_entry ≡ min (number + l.i) last_value;
  same : SameOwner l.fn.manager l.manager;
  contents : IsTrue g.B.Bay.tells → g.S.ReadPieces.contents l.servers l.bay ≡ g.S.ReadPieces.contents l.fn.servers l.fn.bay;
  alone : IsTrue g.B.Bay.tells → LeavesTables (g.B.Bay.meaning l.fn.bay) (g.B.Bay.meaning l.bay);
  goes_on : GoesOn g.B.Bay.counts g.B.Bay.follows l.fn.bay l.bay;
}
