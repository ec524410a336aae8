-- The plain file tree.
use Rattle.std.specs.Prelude.{ℕ, List, [], length, map, Option, Some, None}
use Rattle.zb_types.specs.declared.tables.Listed.{Listed}
use Rattle.zb_types.specs.declared.tables.Listed.TheVariants.{Dir, File}
use Rattle.zb_types.specs.declared.tables.TreeEntry.{TreeEntry}
use Rattle.zb_types.specs.Keyed.{look, put, without}
use Rattle.zb_types.specs.Names.{Entry, directory, numbered, Names, first_names, Change, same, makes, drops}

-- names, and the bytes of each file under its number
pub record Tree : Type 0 where
  pub names : Names
  pub files : List (ℕ × List ℕ)

-- the tree before the first update
abbrev pub first_tree : Tree
first_tree = record { names = first_names; files = [] }

-- the files after a change of names; a new one is this
abbrev pub files_after : {A : Type 0} → A → Change → List (ℕ × A) → List (ℕ × A)
files_after fresh same files = files
files_after fresh (makes number) files = put number fresh files
files_after fresh (drops number) files = without number files

-- no bytes where nothing was found
abbrev pub or_none : Option (List ℕ) → List ℕ
or_none None = []
or_none (Some bytes) = bytes

-- the bytes of the file with this number
abbrev pub stored : List (ℕ × List ℕ) → ℕ → List ℕ
stored files number = or_none (look number files)

-- what a listing shows of an entry
abbrev pub listed : List (ℕ × List ℕ) → Entry → Listed
listed files directory = Dir
listed files (numbered number) = File (record { 0 = number }) (length (stored files number))

-- the tree in the order of path bytes, with the files' lengths
abbrev pub listing : Tree → List TreeEntry
listing tree = map (λ e. record { path = e.0; listed = listed tree.files e.1 }) tree.names.entries
