-- The names of a file tree: what stands at each path, and what an operation on names leaves and answers.
use Rattle.std.specs.Prelude.{ℕ, ◌+◌, Bool, true, false, not, List, [], ◌∷◌, ◌++◌, length, take, drop, filter, map, Option, Some, None, ◌||◌, ◌&&◌, ◌==◌, nat_lt, nat_le, if◌then◌else◌}
use Rattle.std.specs.List.{list_any}
use Rattle.std.specs.Ordering.{nat_cmp, is_lt}
use Rattle.std.specs.Str.{bytes_eq}
use Rattle.std.specs.Cmp.Lexicographic.{slice_cmp}
use Rattle.zb_types.specs.declared.calls.Call.{Call}
use Rattle.zb_types.specs.declared.calls.Call.TheVariants.{Create, Mkdir, Remove, Rename, Write, Truncate, Sync, Read, List as ListOf, Stat, Find}
use Rattle.zb_types.specs.declared.calls.Reply.{Reply}
use Rattle.zb_types.specs.declared.calls.Reply.TheVariants.{Done, Made}
use Rattle.zb_types.specs.declared.calls.Refusal.{Refusal}
use Rattle.zb_types.specs.declared.calls.Refusal.TheVariants.{NoEntry, NotDir, IsDir, Exists, Inside, NotEmpty, TooBig, Full}

-- a directory, or a file by its number
pub data Entry : Type 0 where
  directory : Entry
  numbered : ℕ → Entry

-- the next file number, and each path once with what stands there, in the order of the paths' bytes
pub record Names : Type 0 where
  pub next : ℕ
  pub entries : List (List ℕ × Entry)

-- no names, and the first file gets number 1
abbrev pub first_names : Names
first_names = record { next = 1; entries = [] }

-- the most bytes of a path
abbrev pub max_path : ℕ
max_path = 1024

-- the most entries of a tree
abbrev pub max_names : ℕ
max_names = 4096

-- the last file number, which no file gets
abbrev pub last_number : ℕ
last_number = 4294967295

-- Looking.

-- what stands at a path
abbrev pub find : List ℕ → List (List ℕ × Entry) → Option Entry
find path [] = None
find path (e ∷ es) = if bytes_eq path e.0 then Some e.1 else find path es

-- whether something stands at a path
abbrev pub has : List ℕ → List (List ℕ × Entry) → Bool
has path entries = list_any (λ e. bytes_eq path e.0) entries

-- a path that begins with this path and a slash
abbrev pub is_below : List ℕ → List ℕ → Bool
is_below path other = bytes_eq (take (length path + 1) other) (path ++ 47 ∷ [])

-- this path, or one below it
abbrev pub is_within : List ℕ → List ℕ → Bool
is_within path other = bytes_eq path other || is_below path other

-- the proper fronts of a path that are paths, the shortest first
abbrev pub fronts : List ℕ → List ℕ → List (List ℕ)
fronts before [] = []
fronts before (b ∷ rest) = if b == 47 && nat_lt 0 (length before) then before ∷ fronts (before ++ b ∷ []) rest else fronts (before ++ b ∷ []) rest

-- whether a directory was found
abbrev pub is_dir : Option Entry → Bool
is_dir None = false
is_dir (Some directory) = true
is_dir (Some (numbered number)) = false

-- Refusals: the first of a list that there is.

-- this refusal, where the test holds
abbrev pub when : Bool → Refusal → Option Refusal
when test why = if test then Some why else None

-- the first refusal of a list of them
abbrev pub first : List (Option Refusal) → Option Refusal
first [] = None
first (Some why ∷ rest) = Some why
first (None ∷ rest) = first rest

-- why what was found isn't a directory, where it isn't one
abbrev pub not_dir : Option Entry → Option Refusal
not_dir None = Some NoEntry
not_dir (Some directory) = None
not_dir (Some (numbered number)) = Some NotDir

-- the refusal of the shortest proper front of the path that isn't a directory
abbrev pub walk : List (List ℕ × Entry) → List ℕ → Option Refusal
walk entries path = first (map (λ front. not_dir (find front entries)) (fronts [] path))

-- a path that is moved with what lies below it
abbrev pub moved : List ℕ → List ℕ → List ℕ → List ℕ
moved path to other = to ++ drop (length path) other

-- what refuses a call by the names alone
abbrev pub name_refusal : Names → Call → Option Refusal
name_refusal names (Create path) = first (walk names.entries path ∷ when (has path names.entries) Exists ∷ when (nat_le max_names (length names.entries) || nat_le last_number names.next) Full ∷ [])
name_refusal names (Mkdir path) = first (walk names.entries path ∷ when (has path names.entries) Exists ∷ when (nat_le max_names (length names.entries)) Full ∷ [])
name_refusal names (Remove path) = first (walk names.entries path ∷ when (not (has path names.entries)) NoEntry ∷ when (list_any (λ e. is_below path e.0) names.entries) NotEmpty ∷ [])
name_refusal names (Rename path to) = first (walk names.entries path ∷ when (not (has path names.entries)) NoEntry ∷ walk names.entries to ∷ when (has to names.entries) Exists ∷ when (is_below path to) Inside
    ∷ when (list_any (λ e. is_within path e.0 && nat_lt max_path (length (moved path to e.0))) names.entries) TooBig ∷ [])
name_refusal names (ListOf (Some path)) = first (walk names.entries path ∷ when (not (has path names.entries)) NoEntry ∷ when (not (is_dir (find path names.entries))) NotDir ∷ [])
name_refusal names (Stat path) = first (walk names.entries path ∷ when (not (has path names.entries)) NoEntry ∷ [])
name_refusal names (Find path) = first (walk names.entries path ∷ when (not (has path names.entries)) NoEntry ∷ when (is_dir (find path names.entries)) IsDir ∷ [])
name_refusal names (Write fid offset bytes) = None
name_refusal names (Truncate fid size) = None
name_refusal names Sync = None
name_refusal names (Read fid offset len) = None
name_refusal names (ListOf None) = None

-- Effects, where nothing refuses.

-- with this entry before the first path that is not less
abbrev pub with_entry : List ℕ → Entry → List (List ℕ × Entry) → List (List ℕ × Entry)
with_entry path entry [] = (path, entry) ∷ []
with_entry path entry (e ∷ es) = if is_lt (slice_cmp nat_cmp e.0 path) then e ∷ with_entry path entry es else (path, entry) ∷ e ∷ es

-- with each of these entries in its place
abbrev pub with_entries : List (List ℕ × Entry) → List (List ℕ × Entry) → List (List ℕ × Entry)
with_entries [] entries = entries
with_entries (new ∷ more) entries = with_entry new.0 new.1 (with_entries more entries)

-- the entries at other paths
abbrev pub others : List ℕ → List (List ℕ × Entry) → List (List ℕ × Entry)
others path entries = filter (λ e. not (bytes_eq path e.0)) entries

-- the entries at and below a path, moved; and the rest
abbrev pub renamed : List ℕ → List ℕ → List (List ℕ × Entry) → List (List ℕ × Entry)
renamed path to entries = with_entries (map (λ e. (moved path to e.0, e.1)) (filter (λ e. is_within path e.0) entries)) (filter (λ e. not (is_within path e.0)) entries)

-- what an operation on names that nothing refuses leaves of them
abbrev pub name_effect : Names → Call → Names
name_effect names (Create path) = record { next = names.next + 1; entries = with_entry path (numbered names.next) names.entries }
name_effect names (Mkdir path) = record { next = names.next; entries = with_entry path directory names.entries }
name_effect names (Remove path) = record { next = names.next; entries = others path names.entries }
name_effect names (Rename path to) = record { next = names.next; entries = renamed path to names.entries }
name_effect names call = names

-- what becomes of the files: the same, one more that is empty, or one less
pub data Change : Type 0 where
  same : Change
  makes : ℕ → Change
  drops : ℕ → Change

-- that a file goes with its entry, where the entry is a file's
abbrev pub dropped : Option Entry → Change
dropped None = same
dropped (Some directory) = same
dropped (Some (numbered number)) = drops number

-- what an operation on names that nothing refuses does to the files
abbrev pub name_change : Names → Call → Change
name_change names (Create path) = makes names.next
name_change names (Remove path) = dropped (find path names.entries)
name_change names call = same

-- the reply to an operation on names that nothing refuses
abbrev pub name_reply : Names → Call → Reply
name_reply names (Create path) = Made (record { 0 = names.next })
name_reply names call = Done

-- the names in a directory

-- the name behind a directory's path and its slash
abbrev pub name_in : List ℕ → List ℕ → List ℕ
name_in path other = drop (length path + 1) other

-- a child of this directory, where [] is the root
abbrev pub is_child : List ℕ → List ℕ → Bool
is_child path other = is_below path other && not (list_any (λ b. b == 47) (name_in path other))

-- the names in a directory, in the order of the paths
abbrev pub names_in : List ℕ → List (List ℕ × Entry) → List (List ℕ)
names_in path entries = map (λ e. name_in path e.0) (filter (λ e. is_child path e.0) entries)
