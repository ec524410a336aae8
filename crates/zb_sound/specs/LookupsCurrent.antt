-- What a client, the cleaner or the mender has looked up and fetched, against the tables and stripes as they are now.
use Rattle.std.specs.Prelude.{◌≡◌, ℕ, ◌+◌, ◌*◌, ◌≤◌, ◌<◌, List, length, take, slice_index, Some}
use Rattle.std.specs.List.{AllByRecursion}
use Rattle.zb_types.specs.declared.ids.LogId.{LogId}
use Rattle.zb_types.specs.declared.ids.Ptr.{Ptr}
use Rattle.zb_types.specs.declared.tables.Found.{Found}
use Rattle.zb_types.specs.Keyed.{look}
use Rattle.zb_holding.specs.Holding.{View, StripeRemains}
use Rattle.zb_tables.specs.Tables.{Contents, FileState, Tables, block_byte, bytes_at}
use Rattle.zb_tables.specs.Looking.{SameBlock}
use Rattle.zb_tables.specs.Taking.{Sizes}
use Rattle.zb_recovery.specs.Missing.{Servers}
use Rattle.zb_sound.specs.Standing.{seen}
use Rattle.zb_sound.specs.Delivering.{ForEach, Missing}

-- The file has the length that was found, and each block of the range, the `count` blocks from `first` on, stands where one
-- was found, or is a copy of that one; where none was found there is none.
pub record FileIs (contents : Contents) (first count : ℕ) (found : Found) (file : FileState) : Type 0 where
  pub length : file.length ≡ found.length
  pub blocks : (k : ℕ) → first ≤ k → k < first + count → SameBlock contents (look k found.blocks) (look k file.blocks)

-- A lookup that found a file: the file's number was given, its version never falls, and while it has the version that was
-- found, it is as it was found.
pub record IsCurrentFile (contents : Contents) (t : Tables) (fid first count : ℕ) (found : Found) : Type 0 where
  pub given : fid < t.names.next
  pub rises : (file : FileState) → look fid t.files ≡ Some file → found.version ≤ file.version
  pub same : (file : FileState) → look fid t.files ≡ Some file → file.version ≡ found.version → FileIs contents first count found file

-- a lookup of some blocks of a file is current; of one that found no file, at version 0, nothing is said
abbrev pub LookupIsCurrent : Contents → Tables → ℕ → ℕ → ℕ → Found → Type 0
LookupIsCurrent contents t fid first count found = 1 ≤ found.version → IsCurrentFile contents t fid first count found

-- The blocks that were found, read at these contents, are those of a file with these bytes, whatever becomes of the file:
-- of the range, the `count` blocks of b bytes from `first` on.
pub record ShowsFile (b : ℕ) (contents : Contents) (first count : ℕ) (found : Found) (bytes : List ℕ) : Type 0 where
  pub length_is : found.length ≡ length bytes
  pub blocks : (k y : ℕ) → first ≤ k → k < first + count → y < b → block_byte contents (look k found.blocks) y ≡ slice_index bytes (k * b + y)

-- the pointers of a lookup name the same bytes in both
abbrev pub SameFound : Contents → Contents → Found → Type 0
SameFound contents new found = (k : ℕ) (p : Ptr) → look k found.blocks ≡ Some p → bytes_at contents p ≡ bytes_at new p

-- the blocks that were fetched are the bytes that their pointers name
abbrev pub AreFetched : Contents → List (Ptr × List ℕ) → Type 0
AreFetched contents blocks = AllByRecursion (λ e. e.1 ≡ bytes_at contents e.0) blocks

-- what the servers in view still have of a stripe is of its committed bytes, whether or not it is held
pub record RemainsIn (v : View) (contents : Contents) (log : LogId) (stripe end : ℕ) : Type 0 where
  pub bytes : List ℕ
  pub remains : StripeRemains v log stripe end bytes
  pub same : take end bytes ≡ take end (contents log stripe)

-- so it is whichever server may be missing: a read of the stripe is right or finds nothing
abbrev pub StripeStaysRight : Sizes → Contents → Servers → Missing → LogId → ℕ → ℕ → Type 0
StripeStaysRight z contents st who log stripe end = ForEach z.servers st who (λ x. RemainsIn (seen z st x) contents log stripe end)
