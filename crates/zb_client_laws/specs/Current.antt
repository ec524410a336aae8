-- What a client has looked up, fetched and is reading, against tables, stripes and servers as they are now.
use Rattle.std.specs.Prelude.{◌≡◌, ◌⊎◌, ℕ, ◌+◌, ◌≤◌, ◌<◌, List, [], ◌∷◌, Some, None, false}
use Rattle.std.specs.List.{AllByRecursion}
use Rattle.zb_types.specs.declared.calls.Call.{Call}
use Rattle.zb_types.specs.declared.calls.Call.TheVariants.{Read}
use Rattle.zb_types.specs.declared.ids.Ptr.{Ptr}
use Rattle.zb_types.specs.declared.tables.Found.{Found}
use Rattle.zb_types.specs.declared.tables.HeldUse.{HeldUse}
use Rattle.zb_types.specs.Apply.{max_file}
use Rattle.zb_types.specs.Keyed.{look}
use Rattle.zb_types.specs.Tree.{Tree}
use Rattle.zb_holding.specs.Holding.{Maps}
use Rattle.zb_stripe.specs.declared.progress.Phase.TheVariants.{Direct}
use Rattle.zb_stripe.specs.Reading.{Reading, is_lost}
use Rattle.zb_stripe_laws.specs.ReadAtWork.{ReadAtWork}
use Rattle.zb_tables.specs.Tables.{Contents, LiesIn, Tables, end_at}
use Rattle.zb_tables.specs.Taking.{Sizes}
use Rattle.zb_sound.specs.LookupsCurrent.{ShowsFile}
use Rattle.zb_sound.specs.OldStripes.{CopiesAreCurrent}
use Rattle.zb_basis.specs.declared.basis.Basis.{Basis}
use Rattle.zb_basis.specs.declared.calls.Numbered.{Numbered}
use Rattle.zb_basis.specs.Looking.{ask_of}
use Rattle.zb_basis.specs.Runs.{run_of}
use Rattle.zb_forming_laws.specs.Resting.{AreCurrent}
use Rattle.zb_work.specs.Blocks.{there}
use Rattle.zb_work.specs.Steps.{first_members}

-- the pointers that a lookup found lie in what is held
abbrev pub FoundLies : List HeldUse → Found → Type 0
FoundLies held found = AllByRecursion (λ e. LiesIn held e.1) found.blocks

-- What a batch or a read has: pointers into what is held, blocks that are the bytes at theirs, and the members that the
-- tables have.
pub record RestsOnHeld (contents : Contents) (t : Tables) (basis : Basis) : Type 0 where
  pub lie : AllByRecursion (FoundLies t.held) basis.found
  pub fetched : CopiesAreCurrent contents t.held (there basis.fetched)
  pub members : first_members basis.found ≡ t.members

-- what was looked up for a batch of these calls is current, where blocks have b bytes
pub record BatchIsCurrent (b : ℕ) (contents : Contents) (t : Tables) (calls : List Numbered) (basis : Basis) : Type 0 where
  pub rests : RestsOnHeld contents t basis
  pub current : AreCurrent b contents t calls basis.found

-- what was found for a read of a file is the file of a tree, or none where the tree has none
abbrev pub ShowsFound : ℕ → Contents → Tree → Call → List Found → Type 0
ShowsFound b contents seen (Read fid offset len) (found ∷ []) =
    ((found.version ≡ 0) × (look fid.0 seen.files ≡ None))
    ⊎ ((1 ≤ found.version) × (found.length ≤ max_file)
    × ((bytes : List ℕ) × (look fid.0 seen.files ≡ Some bytes)
    × ShowsFile b contents (ask_of b (Read fid offset len)).first (ask_of b (Read fid offset len)).count found bytes))
ShowsFound b contents seen call found = ⊥

-- what was looked up for a read is of this tree
pub record ReadIsCurrent (b : ℕ) (contents : Contents) (t : Tables) (seen : Tree) (call : Call) (basis : Basis) : Type 0 where
  pub rests : RestsOnHeld contents t basis
  pub shows : ShowsFound b contents seen call basis.found

-- the first queued call is a read, and what was looked up for it is of this tree
abbrev pub FirstIsCurrent : ℕ → Contents → Tables → Tree → List Numbered → Basis → Type 0
FirstIsCurrent b contents t seen [] basis = ⊥
FirstIsCurrent b contents t seen (read ∷ rest) basis = ReadIsCurrent b contents t seen read.call basis

-- so it is with the next batch of the kept calls, or else with the first queued call
abbrev pub WorkIsCurrent : ℕ → Contents → Tables → Tree → List Numbered → List Numbered → Basis → Type 0
WorkIsCurrent b contents t seen [] queue basis = FirstIsCurrent b contents t seen queue basis
WorkIsCurrent b contents t seen (first ∷ others) queue basis = BatchIsCurrent b contents t (run_of (first ∷ others)) basis

-- A pointer into what is held is being read, share by share: what was read so far are the stripe's bytes, and each server
-- has answered.
pub record IsReading (z : Sizes) (contents : Contents) (maps : Maps) (held : List HeldUse) (ptr : Ptr) (plan : Reading) : Type 0 where
  pub servers : plan.servers ≡ z.servers
  pub fragment : plan.fragment ≡ z.fragment
  pub ptr_is : plan.ptr ≡ ptr
  pub some : 0 < ptr.len
  pub end : ℕ
  pub reaches : ptr.offset + ptr.len ≤ end
  pub committed : end ≤ end_at held ptr.log ptr.stripe
  pub seen : Maps
  pub work : ReadAtWork maps seen None end (contents ptr.log ptr.stripe) plan
  pub none_lost : (k : ℕ) → is_lost plan k ≡ false
  pub direct : plan.phase ≡ Direct
