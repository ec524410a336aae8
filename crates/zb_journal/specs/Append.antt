-- What an append does, moment by moment.
use Rattle.std.specs.Prelude.{◌≡◌, ◌⊎◌, ℕ, ◌+◌, ◌≤◌, List, [], ◌∷◌, ◌++◌, length, Result, OnOk}
use Rattle.zb_entries.specs.declared.entry.Entry.{Entry}
use Rattle.zb_outside.specs.Meaning.{Meaning, Standing}
use Rattle.zb_outside.specs.Ranges.{SameBeside}
use Rattle.zb_outside.specs.Runs.{Run, IsSettled}
use Rattle.zb_journal.specs.Spelling.{size_of}
use Rattle.zb_journal.specs.Journal.{Says, journal_of}
use Rattle.zb_journal.specs.declared.journal.Journal.{Journal}

-- no write of platter 0 is unsynced, the journal lies within it, and it has these entries and goes on here
pub record AppendReady (journal : Journal) (first : ℕ) (entries : List Entry) (s : Standing) : Type 0 where
  pub settled : IsSettled 0 s
  pub within : 4096 + 65536 ≤ length (s.seen 0)
  pub says : Says (s.seen 0) first entries journal.place
  pub number : journal.number ≡ first + length entries

-- the journal has the entries that it had, or these and the new one, and the other bytes are as before
pub record FormerOrLonger (place first : ℕ) (entries : List Entry) (entry : Entry) (old new : List ℕ) : Type 0 where
  pub outside : SameBeside 4096 65536 old new
  pub either : Says new first entries place ⊎ Says new first (entries ++ entry ∷ []) (place + size_of entry)

-- on the way the entries are those before or with the new one; after Ok they are with it, the gate behind it is closed, and no
-- write is unsynced
pub record AppendTold {T E : Type 0} (journal : Journal) (first : ℕ) (entries : List Entry) (entry : Entry) (result : Result T E) (old new : Meaning) : Type 0 where
  pub run : Run 0 (FormerOrLonger journal.place first entries entry (old.now.seen 0)) old new
  pub settled : OnOk result (IsSettled 0 new.now)
  pub says : OnOk result (Says (new.now.seen 0) first (entries ++ entry ∷ []) (journal.place + size_of entry))
  pub behind : OnOk result (journal_of (new.now.seen 0) (journal.place + size_of entry) ≡ 0)
