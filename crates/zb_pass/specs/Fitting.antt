-- What is true of a pass at work.
use Rattle.std.specs.Prelude.{◌≡◌, ℕ, ◌<◌, true, List, length, All, Option, Some, None}
use Rattle.std.specs.List.{AllByRecursion}
use Rattle.zb_types.specs.declared.ids.FragId.{FragId}
use Rattle.zb_types.specs.declared.tables.Status.{Status}
use Rattle.zb_stripe.specs.Reading.{Reading}
use Rattle.zb_log.specs.Logs.{SeenLog, ForGiven, IsSealed}
use Rattle.zb_delta.specs.declared.delta.Body.{Body}
use Rattle.zb_basis.specs.declared.basis.Formed.{Formed}
use Rattle.zb_basis.specs.declared.basis.Sealed.{Sealed}
use Rattle.zb_basis.specs.Delivering.{IsAbout}
use Rattle.zb_basis.specs.Looking.{room_of}
use Rattle.zb_work.specs.Fitting.{Stands, IsNewOf}
use Rattle.zb_pass.specs.declared.work.Copies.{Copies}
use Rattle.zb_pass.specs.declared.work.Cleaning.{Cleaning}
use Rattle.zb_pass.specs.declared.work.Next.{Next}
use Rattle.zb_pass.specs.declared.work.Next.TheVariants as next
use Rattle.zb_pass.specs.declared.work.Work.{Work}
use Rattle.zb_pass.specs.declared.work.Work.TheVariants.{Lookup, Fetch, Store, Mark, Commit, Retire, Sweep, Delete}
use Rattle.zb_pass.specs.Copying.{IsLive, AreCopied, next_body}
use Rattle.zb_pass.specs.Forming.{Moves}
use Rattle.zb_pass.specs.Sweeping.{is_stray}
use Rattle.zb_pass.specs.Seen.{SeenWriter}

-- the pointers that a pass has are into its stripe, and the blocks that have come are as long as theirs say
pub record IsCleaning (n f b : ℕ) (cleaning : Cleaning) : Type 0 where
  pub live : AllByRecursion (IsLive (room_of n f) b cleaning.target) cleaning.copies.live
  pub copied : AreCopied cleaning.copies.live cleaning.copies.blocks

-- the first block that hasn't come is being read, and a request of the read stands
pub record IsFetching (copies : Copies) (plan : Reading) : Type 0 where
  pub body : Body
  pub first : next_body copies ≡ Some body
  pub of_block : plan.ptr ≡ body.now
  pub stands : Stands plan

-- the batch of all blocks has its place next in the log, which may go on behind it; some requests are left, and they are
-- about stripes of the batch
pub record IsStoring (n f : ℕ) (log : SeenLog) (cleaning : Cleaning) (formed : Formed) : Type 0 where
  pub moves : Moves log.log cleaning.target.number cleaning.copies.live formed.sealed
  pub all : length cleaning.copies.blocks ≡ length cleaning.copies.live
  pub sealed : IsSealed log formed.sealed.placed formed.fresh
  pub some : 0 < length formed.plan
  pub about : ForGiven log (λ given. All (λ asked. IsAbout log.next.stripe formed.sealed.placed.next.stripe asked.1) formed.plan)
  pub flush : ForGiven log (IsNewOf n f log formed.sealed.placed formed.fresh)

-- the batch of all blocks is stored
pub record IsCommitting (log : SeenLog) (cleaning : Cleaning) (sealed : Sealed) : Type 0 where
  pub moves : Moves log.log cleaning.target.number cleaning.copies.live sealed
  pub all : length cleaning.copies.blocks ≡ length cleaning.copies.live

-- some strays are left
pub record AreStrays (status : Status) (left : List FragId) : Type 0 where
  pub some : 0 < length left
  pub strays : AllByRecursion (λ id. is_stray status id ≡ true) left

-- what is true of the work
abbrev pub Fits : ℕ → ℕ → ℕ → SeenLog → Work → Type 0
Fits n f b log (Lookup cleaning) = IsCleaning n f b cleaning
Fits n f b log (Fetch cleaning plan) = IsCleaning n f b cleaning × IsFetching cleaning.copies plan
Fits n f b log (Store cleaning formed) = IsCleaning n f b cleaning × IsStoring n f log cleaning formed
Fits n f b log (Mark cleaning server generation) = IsCleaning n f b cleaning
Fits n f b log (Commit cleaning sealed) = IsCleaning n f b cleaning × IsCommitting log cleaning sealed
Fits n f b log (Retire target copied rejected) = Unit {0}
Fits n f b log (Sweep sweep after) = Unit {0}
Fits n f b log (Delete sweep left again) = AreStrays sweep.status left

-- what is true of the work, if there is any, with this log
abbrev pub WorkFits : SeenWriter → Option Work → Type 0
WorkFits w None = Unit {0}
WorkFits w (Some work) = Fits w.servers w.fragment w.block w.log work

-- what is true of a pass that goes on so
abbrev pub NextFits : SeenWriter → Next → Type 0
NextFits w (next.Work work) = Fits w.servers w.fragment w.block w.log work
NextFits w (next.End line) = Unit {0}
