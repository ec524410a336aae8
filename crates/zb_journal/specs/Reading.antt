-- What is found where an entry is read.
use Rattle.std.specs.Prelude.{◌≡◌, ℕ, ◌+◌, ◌≤◌, List, ◌++◌, length, Option, None, Some}
use Rattle.zb_types.specs.declared.ids.Piece.{Piece}
use Rattle.zb_entries.specs.declared.entry.Entry.{Entry}
use Rattle.zb_numbers.specs.Numbers.{IsBelow}
use Rattle.zb_journal.specs.declared.fields.Fields.{Fields}
use Rattle.zb_journal.specs.Spelling.{fields_of, fields_text, pieces_of, IsFields, IsNamed}
use Rattle.zb_journal.specs.Journal.{Stands, EntryStands}

-- the entry with these numbers and pieces, or that there is none
abbrev pub IsEntryOf : Fields → List Piece → Option Entry → Type 0
IsEntryOf fields pieces (Some entry) = (fields_of entry ≡ fields) × ((pieces_of entry ≡ pieces) × IsNamed entry)
IsEntryOf fields pieces None = (entry : Entry) → fields_of entry ≡ fields → pieces_of entry ≡ pieces → IsNamed entry → ⊥

-- a gate stands open here, with room for an entry, and behind it stand these numbers and then these bytes
pub record IsHead (byte : ℕ → ℕ) (at : ℕ) (fields : Fields) (number : ℕ) (behind : List ℕ) : Type 0 where
  pub room : at + 32 + length behind ≡ 65536
  pub gate : byte at ≡ 1
  pub is : IsFields fields
  pub below : IsBelow 8 number
  pub front : Stands byte (at + 1) (fields_text fields number ++ behind)

-- what stands at a place: these numbers behind an open gate, or no gate that is open and has room for an entry
abbrev pub FindsHead : (ℕ → ℕ) → ℕ → Option (Fields × (ℕ × List ℕ)) → Type 0
FindsHead byte at (Some found) = IsHead byte at found.0 found.1.0 found.1.1
FindsHead byte at None = at + 32 ≤ 65536 → byte at ≡ 1 → ⊥

-- no entry with this number stands here
abbrev pub NoneStands : (ℕ → ℕ) → ℕ → ℕ → Type 0
NoneStands byte at number = (entry : Entry) → EntryStands byte at number entry → ⊥
