-- What holds of the tables at every time, and of those that a checkpoint may spell.
use Rattle.std.specs.Prelude.{◌≡◌, ◌⊎◌, ℕ, ◌+◌, ◌^◌, ◌<◌, ◌≤◌, true, List, [], ◌∷◌, length, Some, IsSome, IfSome}
use Rattle.std.specs.List.{AllByRecursion, flat_map}
use Rattle.std.specs.List.Sorted.{IsStrictlySortedBy, IsPermutation}
use Rattle.std.specs.Map.{keys_of}
use Rattle.std.specs.Ordering.{nat_cmp, ordering_then}
use Rattle.std.specs.declared.cmp.Ordering.{Ordering}
use Rattle.zb_types.specs.declared.ids.Ptr.{Ptr}
use Rattle.zb_types.specs.declared.calls.Reply.{Reply}
use Rattle.zb_types.specs.declared.calls.Reply.TheVariants.{Done, Made, Bytes, Names as NamesOf, Dir, File, Refused}
use Rattle.zb_types.specs.declared.tables.HeldUse.{HeldUse}
use Rattle.zb_types.specs.Keyed.{look}
use Rattle.zb_types.specs.Names.{Entry, directory, numbered, Names, max_names, last_number}
use Rattle.zb_types.specs.Apply.{max_file}
use Rattle.zb_names.specs.Sound.{IsTree}
use Rattle.zb_tables.specs.Tables.{FileState, LogState, Tables, last_value, held_at}
use Rattle.zb_tables.specs.Taking.{Sizes, IsPointer, IsState, stripe_room}

-- the number of a file that stands at a path
abbrev pub number_of : Entry → List ℕ
number_of directory = []
number_of (numbered number) = number ∷ []

-- the numbers of the files, in the order of their paths
abbrev pub numbers_of : Names → List ℕ
numbers_of names = flat_map (λ e. number_of e.1) names.entries

-- a pointer whose numbers have the bytes of their types
pub record IsPlace (p : Ptr) : Type 0 where
  pub log : p.log.0 < 2 ^ 32
  pub stripe : p.stripe < 2 ^ 64

-- a file has a number that was given, a version, a length within the limit, and its blocks in order
pub record IsFile (z : Sizes) (next : ℕ) (e : ℕ × FileState) : Type 0 where
  pub numbered : (1 ≤ e.0) × (e.0 < next)
  pub version : (1 ≤ (e.1).version) × ((e.1).version ≤ last_value)
  pub short : (e.1).length ≤ max_file
  pub numbers : AllByRecursion (λ k. k.0 < 2 ^ 32) (e.1).blocks
  pub rising : IsStrictlySortedBy nat_cmp (keys_of (e.1).blocks)
  pub pointers : AllByRecursion (λ k. IsPointer z k.1 × IsPlace k.1) (e.1).blocks

-- a reply to an update
abbrev pub IsUpdateReply : Reply → Type 0
IsUpdateReply Done = Unit {0}
IsUpdateReply (Made fid) = fid.0 < 2 ^ 32
IsUpdateReply (Bytes bytes) = ⊥
IsUpdateReply (NamesOf names) = ⊥
IsUpdateReply Dir = ⊥
IsUpdateReply (File fid size) = ⊥
IsUpdateReply (Refused why) = Unit {0}

-- a log lives or has a held stripe
pub record IsLog (z : Sizes) (next : ℕ) (held : List HeldUse) (e : ℕ × LogState) : Type 0 where
  pub numbered : (1 ≤ e.0) × (e.0 < next)
  pub owner : (e.1).owner ≤ z.clients
  pub batch : (e.1).batch ≤ last_value
  pub last : IfSome (e.1).last (λ stripe. stripe + 1 < 2 ^ 64)
  pub mark : (e.1).mark < 2 ^ 64
  pub replies : AllByRecursion IsUpdateReply (e.1).replies
  pub kept : ((e.1).live ≡ true) ⊎ ((stripe : ℕ) × IsSome (held_at (record { 0 = e.0 }) stripe held))

-- by log and stripe
abbrev pub held_cmp : HeldUse → HeldUse → Ordering
held_cmp a b = ordering_then (nat_cmp a.log.0 b.log.0) (nat_cmp a.stripe b.stripe)

-- a held stripe is of a log that there is
pub record IsHeld (z : Sizes) (logs : List (ℕ × LogState)) (h : HeldUse) : Type 0 where
  pub log : IsSome (look h.log.0 logs)
  pub stripe : h.stripe < 2 ^ 64
  pub end : (1 ≤ h.end) × (h.end ≤ stripe_room z)
  pub born : (1 ≤ h.born) × (h.born ≤ last_value)

-- the files are those of the names, each named by one path; logs and held stripes are in order; numbers are within their limits
pub record AreTables (z : Sizes) (t : Tables) : Type 0 where
  pub names : IsTree t.names.next t.names.entries
  pub next_file : t.names.next ≤ last_number
  pub few : length t.names.entries ≤ max_names
  pub named : IsPermutation (numbers_of t.names) (keys_of t.files)
  pub files_rise : IsStrictlySortedBy nat_cmp (keys_of t.files)
  pub files : AllByRecursion (IsFile z t.names.next) t.files
  pub logs_rise : IsStrictlySortedBy nat_cmp (keys_of t.logs)
  pub logs : AllByRecursion (IsLog z t.next_log t.held) t.logs
  pub one_live : (k j : ℕ) (l m : LogState) → look k t.logs ≡ Some l → look j t.logs ≡ Some m → l.live ≡ true → m.live ≡ true → l.owner ≡ m.owner → k ≡ j
  pub held_rise : IsStrictlySortedBy held_cmp t.held
  pub held : AllByRecursion (IsHeld z t.logs) t.held
  pub state : IsState z.servers t.members.state
  pub generation : (1 ≤ t.members.generation) × (t.members.generation ≤ last_value)
  pub next_log : (1 ≤ t.next_log) × (t.next_log ≤ last_number)
  pub next_entry : (1 ≤ t.next_entry) × (t.next_entry ≤ last_value)

-- The counts of the tables' lists that have four bytes by no rule of the tables have them, so that the tables can be
-- spelled: the blocks of each file, the replies of each log, and the held stripes.
pub record CountsFit (t : Tables) : Type 0 where
  pub blocks : AllByRecursion (λ e. length (e.1).blocks < 2 ^ 32) t.files
  pub replies : AllByRecursion (λ e. length (e.1).replies < 2 ^ 32) t.logs
  pub held : length t.held < 2 ^ 32
