-- What platter 0 says of the journal, whose bytes are those from 4096 to 69631.
use Rattle.std.specs.Prelude.{◌≡◌, ℕ, ◌+◌, ◌<◌, ◌≤◌, List, [], ◌∷◌, length, slice_index}
use Rattle.zb_entries.specs.declared.entry.Entry.{Entry}
use Rattle.zb_cell.specs.Cell.{bytes_at}
use Rattle.zb_numbers.specs.Numbers.{number_text}
use Rattle.zb_journal.specs.Spelling.{IsEntry, size_of, entry_text}

-- the journal's bytes on an image of platter 0, by their places
abbrev pub journal_of : List ℕ → ℕ → ℕ
journal_of image = bytes_at image 4096

-- these bytes stand there
abbrev pub Stands : (ℕ → ℕ) → ℕ → List ℕ → Type 0
Stands byte at bytes = (i : ℕ) → i < length bytes → byte (at + i) ≡ slice_index bytes i

-- something with this number begins here: it has room, the gate is open, and the number is this one
pub record Begins (byte : ℕ → ℕ) (at number : ℕ) : Type 0 where
  pub room : at + 32 ≤ 65536
  pub gate : byte at ≡ 1
  pub is_next : Stands byte (at + 24) (number_text 8 number)

-- the entry with this number stands here, and a byte behind it
pub record EntryStands (byte : ℕ → ℕ) (at number : ℕ) (entry : Entry) : Type 0 where
  pub is : IsEntry entry
  pub bytes : Stands byte at (entry_text number entry)
  pub room : at + size_of entry + 1 ≤ 65536

-- these entries, with the numbers from this one on, stand one behind the other from here up to that place
abbrev pub EntriesStand : (ℕ → ℕ) → ℕ → ℕ → List Entry → ℕ → Type 0
EntriesStand byte at number [] end = at ≡ end
EntriesStand byte at number (entry ∷ entries) end = EntryStands byte at number entry × EntriesStand byte (at + size_of entry) (number + 1) entries end

-- from the number first on these bytes have these entries, and the next goes to that place
pub record HasEntries (byte : ℕ → ℕ) (first : ℕ) (entries : List Entry) (end : ℕ) : Type 0 where
  pub stand : EntriesStand byte 0 first entries end
  pub ends : Begins byte end (first + length entries) → ⊥

-- from the number first on the journal has these entries, and the next goes to that place
abbrev pub Says : List ℕ → ℕ → List Entry → ℕ → Type 0
Says image first entries end = HasEntries (journal_of image) first entries end

-- the first that is bad stands at this place: something with the next number begins there, and no entry stands there
pub record HasBad (byte : ℕ → ℕ) (first place : ℕ) : Type 0 where
  pub entries : List Entry
  pub stand : EntriesStand byte 0 first entries place
  pub begins : Begins byte place (first + length entries)
  pub none : (entry : Entry) → EntryStands byte place (first + length entries) entry → ⊥

-- the first bad entry of the journal stands at this place
abbrev pub IsBadAt : List ℕ → ℕ → ℕ → Type 0
IsBadAt image first place = HasBad (journal_of image) first place
