-- What is so of every journal.
use Rattle.std.specs.Prelude.{◌≡◌, ℕ, ◌+◌, ◌<◌, ◌^◌, List, [], length}
use Rattle.zb_entries.specs.declared.entry.Entry.{Entry}
use Rattle.zb_journal.specs.Journal.{Says, IsBadAt, journal_of}

-- an image says one list of entries, and one place where it goes on
abbrev pub SaysOne : Type 0
SaysOne = (image : List ℕ) (first : ℕ) (entries others : List Entry) (end stop : ℕ) → Says image first entries end → Says image first others stop → (entries ≡ others) × (end ≡ stop)

-- the first bad entry stands at one place
abbrev pub BadOnce : Type 0
BadOnce = (image : List ℕ) (first place other : ℕ) → IsBadAt image first place → IsBadAt image first other → place ≡ other

-- an image that says a journal has no bad entry in it
abbrev pub SaysNoBad : Type 0
SaysNoBad = (image : List ℕ) (first : ℕ) (entries : List Entry) (end place : ℕ) → Says image first entries end → IsBadAt image first place → ⊥

-- from the next number on it has no entries, and the next goes to place 0
abbrev pub CutSays : Type 0
CutSays = (image : List ℕ) (first : ℕ) (entries : List Entry) (end : ℕ) → first + length entries < 2 ^ 64 → Says image first entries end → Says image (first + length entries) [] 0

-- what it says depends on the journal's bytes alone
abbrev pub DependsOnItsBytes : Type 0
DependsOnItsBytes = (image other : List ℕ) (first : ℕ) (entries : List Entry) (end : ℕ) → ((i : ℕ) → i < 65536 → journal_of other i ≡ journal_of image i) → Says image first entries end → Says other first entries end
