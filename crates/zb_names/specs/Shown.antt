-- Entries that are given or kept, and what contracts see of them.
use Rattle.std.specs.Prelude.{ℕ, Bool, List, map, length, take, Option, Some, None}
use Rattle.std.specs.Str.{bytes_eq}
use Rattle.zb_types.specs.declared.ids.Fid.{Fid}
use Rattle.zb_types.specs.Names.{Entry, directory, numbered, Change, same, drops}
use Rattle.zb_names.specs.declared.entries.Entry.{Entry as Given}
use Rattle.zb_names.specs.declared.entries.Entry.TheVariants.{Dir as GivenDir, File as GivenFile}

-- an entry that is given, kept or answered
abbrev pub seen : Given → Entry
seen GivenDir = directory
seen (GivenFile fid) = numbered fid.0

-- such entries, as the plain tree has them
abbrev pub listed : List (List ℕ × Given) → List (List ℕ × Entry)
listed es = map (λ e. (e.0, seen e.1)) es

-- what becomes of the files where the entry of this one is removed, if it is a file
abbrev pub change_of : Option Fid → Change
change_of None = same
change_of (Some fid) = drops fid.0

-- whether a path begins with these bytes
abbrev pub begins_with : List ℕ → List ℕ → Bool
begins_with front path = bytes_eq (take (length front) path) front
