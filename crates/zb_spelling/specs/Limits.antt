-- What is looked at once the bytes of tables are read.
use Rattle.std.specs.Prelude.{◌≡◌, ℕ, ◌≤◌, ◌<◌, Bool, true, false, ◌==◌, ◌&&◌, ◌||◌, if◌then◌else◌, List, [], ◌∷◌, length, Option, Some, None, IsSome}
use Rattle.std.specs.List.{AllByRecursion}
use Rattle.std.specs.List.Sorted.{IsStrictlySortedBy, IsPermutation}
use Rattle.std.specs.Map.{keys_of}
use Rattle.std.specs.Ordering.{nat_cmp, is_lt}
use Rattle.std.specs.declared.cmp.Ordering.{Ordering}
use Rattle.std.specs.declared.cmp.Ordering.TheVariants.{Less}
use Rattle.zb_types.specs.declared.tables.HeldUse.{HeldUse}
use Rattle.zb_types.specs.Keyed.{look}
use Rattle.zb_types.specs.Names.{max_names}
use Rattle.zb_types.specs.Apply.{max_file}
use Rattle.zb_names.specs.Sound.{IsTree}
use Rattle.zb_log_tables.specs.HeldStripes.{holds_any}
use Rattle.zb_tables.specs.Tables.{FileState, LogState, Tables, last_value}
use Rattle.zb_tables.specs.Taking.{IsPointer, IsState, Sizes, stripe_room}
use Rattle.zb_tables.specs.Checkpoint.{held_cmp, numbers_of}
use Rattle.zb_spelling.specs.declared.head.Head.{Head}
use Rattle.zb_spelling.specs.Reading.{head_of}

-- Order.

-- each key is less than the next
abbrev pub rise : {K : Type 0} → (K → K → Ordering) → List K → Bool
rise order [] = true
rise order (key ∷ []) = true
rise order (key ∷ (next ∷ more)) = is_lt (order key next) && rise order (next ∷ more)

-- what is less than a lesser one is less
abbrev pub IsTransitive : {K : Type 0} → (K → K → Ordering) → Type 0
IsTransitive {K} order = (a b c : K) → order a b ≡ Less → order b c ≡ Less → order a c ≡ Less

-- Limits of each item.

-- a number of a version or an entry
abbrev pub IsCount : ℕ → Type 0
IsCount n = (1 ≤ n) × (n ≤ last_value)

-- a file has a number that was given, a version, a length within the limit, and blocks in order with pointers within stripes
pub record FileFits (z : Sizes) (next : ℕ) (e : ℕ × FileState) : Type 0 where
  pub numbered : (1 ≤ e.0) × (e.0 < next)
  pub version : IsCount (e.1).version
  pub short : (e.1).length ≤ max_file
  pub rising : IsStrictlySortedBy nat_cmp (keys_of (e.1).blocks)
  pub pointers : AllByRecursion (λ k. IsPointer z k.1) (e.1).blocks

-- a log has a number that was given, an owner that there is, and the number of a batch
pub record LogFits (z : Sizes) (next : ℕ) (e : ℕ × LogState) : Type 0 where
  pub numbered : (1 ≤ e.0) × (e.0 < next)
  pub owner : (e.1).owner ≤ z.clients
  pub batch : (e.1).batch ≤ last_value

-- a held stripe ends within a stripe, behind its first byte, and was named by an entry
pub record HeldFits (z : Sizes) (h : HeldUse) : Type 0 where
  pub end : (1 ≤ h.end) × (h.end ≤ stripe_room z)
  pub born : IsCount h.born

-- One live log an owner.

-- a live log of this owner
abbrev pub is_live_of : ℕ → LogState → Bool
is_live_of owner l = l.live && l.owner == owner

-- one of these logs lives and is of this owner, or two where none was found before
abbrev pub lives_again : ℕ → Bool → List (ℕ × LogState) → Bool
lives_again owner found [] = false
lives_again owner found (e ∷ es) = if is_live_of owner e.1 then found || lives_again owner true es else lives_again owner found es

-- no owner has two live logs
abbrev pub EachLivesOnce : ℕ → List (ℕ × LogState) → Type 0
EachLivesOnce clients logs = (owner : ℕ) → owner ≤ clients → lives_again owner false logs ≡ false

-- All that is looked at.

-- the members, and the numbers of the next log and the next entry
pub record HeadFits (z : Sizes) (h : Head) : Type 0 where
  pub state : IsState z.servers h.numbers.members.state
  pub generation : IsCount h.numbers.members.generation
  pub log : 1 ≤ h.numbers.next_log
  pub entry : IsCount h.numbers.next_entry

-- files in order, each within its limits
pub record FilesFit (z : Sizes) (next : ℕ) (files : List (ℕ × FileState)) : Type 0 where
  pub rising : IsStrictlySortedBy nat_cmp (keys_of files)
  pub each : AllByRecursion (FileFits z next) files

-- logs in order, each within its limits, and no two live ones of an owner
pub record LogsFit (z : Sizes) (next : ℕ) (logs : List (ℕ × LogState)) : Type 0 where
  pub rising : IsStrictlySortedBy nat_cmp (keys_of logs)
  pub each : AllByRecursion (LogFits z next) logs
  pub once : EachLivesOnce z.clients logs

-- held stripes in order, each within its limits
pub record StripesFit (z : Sizes) (held : List HeldUse) : Type 0 where
  pub rising : IsStrictlySortedBy held_cmp held
  pub each : AllByRecursion (HeldFits z) held

-- what is looked at part by part
pub record AreWithin (z : Sizes) (t : Tables) : Type 0 where
  pub head : HeadFits z (head_of t)
  pub few : length t.names.entries ≤ max_names
  pub files : FilesFit z t.names.next t.files
  pub logs : LogsFit z t.next_log t.logs
  pub held : StripesFit z t.held

-- a log lives or holds a stripe
abbrev pub keeps : List HeldUse → ℕ × LogState → Bool
keeps held e = (e.1).live || holds_any e.0 held

-- What is looked at between the parts: names are a tree, the files are those of the names, each named once, each log
-- lives or holds a stripe, and each held stripe is of a log that there is.
pub record Agree (t : Tables) : Type 0 where
  pub tree : IsTree t.names.next t.names.entries
  pub named : IsPermutation (numbers_of t.names) (keys_of t.files)
  pub kept : AllByRecursion (λ e. keeps t.held e ≡ true) t.logs
  pub there : AllByRecursion (λ h. IsSome (look h.log.0 t.logs)) t.held

-- these tables, whose parts agree, or that they don't
abbrev pub Unites : Tables → Option Tables → Type 0
Unites t (Some found) = (found ≡ t) × Agree t
Unites t None = Agree t → ⊥
