-- What a batch or a read rests on, against the tables and the stripes' contents as they are now.
use Rattle.std.specs.Prelude.{◌≡◌, ℕ, ◌≤◌, List, length, map}
use Rattle.std.specs.List.{AllByRecursion, AllZip}
use Rattle.zb_types.specs.declared.ids.Ptr.{Ptr}
use Rattle.zb_types.specs.declared.calls.Call.{Call}
use Rattle.zb_types.specs.declared.calls.Call.TheVariants.{Create, Mkdir, Remove, Rename, Write, Truncate, Sync, Read, List as ListOf, Stat, Find}
use Rattle.zb_types.specs.declared.tables.Found.{Found}
use Rattle.zb_tables.specs.Tables.{Contents, Tables, bytes_at}
use Rattle.zb_sound.specs.LookupsCurrent.{AreFetched, LookupIsCurrent}
use Rattle.zb_basis.specs.declared.asks.Ask.{Ask}
use Rattle.zb_basis.specs.declared.calls.Numbered.{Numbered}
use Rattle.zb_basis.specs.declared.basis.Fetched.{Fetched}
use Rattle.zb_basis.specs.declared.basis.Basis.{Basis}
use Rattle.zb_basis.specs.Looking.{asks_of}

-- the blocks that were fetched, each beside its pointer
abbrev pub pairs_of : List Fetched → List (Ptr × List ℕ)
pairs_of fetched = map (λ f. (f.ptr, f.bytes)) fetched

-- the calls of a batch without their numbers
abbrev pub updates_of : List Numbered → List Call
updates_of calls = map (λ k. k.call) calls

-- what a call writes has at most 4,096 bytes
abbrev pub IsShort : Call → Type 0
IsShort (Write fid offset bytes) = length bytes ≤ 4096
IsShort (Create path) = Unit {0}
IsShort (Mkdir path) = Unit {0}
IsShort (Remove path) = Unit {0}
IsShort (Rename path to) = Unit {0}
IsShort (Truncate fid size) = Unit {0}
IsShort Sync = Unit {0}
IsShort (Read fid offset len) = Unit {0}
IsShort (ListOf path) = Unit {0}
IsShort (Stat path) = Unit {0}
IsShort (Find path) = Unit {0}

-- so it is with each of some calls
abbrev pub AreShort : List Numbered → Type 0
AreShort calls = AllByRecursion (λ k. IsShort k.call) calls

-- the lookup of what was asked is current
abbrev pub IsCurrentFor : Contents → Tables → Ask → Found → Type 0
IsCurrentFor contents t ask found = LookupIsCurrent contents t ask.fid.0 ask.first ask.count found

-- so is the lookup for each of some calls, where blocks have b bytes
abbrev pub AreCurrent : ℕ → Contents → Tables → List Numbered → List Found → Type 0
AreCurrent b contents t calls founds = AllZip (IsCurrentFor contents t) (asks_of b calls) founds

-- A batch of these calls rests on lookups that are current and on blocks that its pointers name: those that were fetched,
-- and at its new pointers its new blocks. `new` is what the stripes have with these.
pub record Rests (b : ℕ) (new : Contents) (t : Tables) (calls : List Numbered) (basis : Basis) (ptrs : List Ptr) (blocks : List (List ℕ)) : Type 0 where
  pub short : AreShort calls
  pub current : AreCurrent b new t calls basis.found
  pub fetched : AreFetched new (pairs_of basis.fetched)
  pub stand : AllZip (λ p block. bytes_at new p ≡ block) ptrs blocks
