-- What the next step of the cleaner wants.
use Rattle.std.specs.Prelude.{ℕ, zero, suc, List, [], ◌∷◌, Option, Some, None}
use Rattle.zb_types.specs.declared.ids.FragId.{FragId}
use Rattle.zb_types.specs.declared.ids.ServerId.{ServerId}
use Rattle.zb_types.specs.declared.requests.Request.{Request}
use Rattle.zb_types.specs.declared.requests.Request.TheVariants as ask
use Rattle.zb_stripe.specs.Reading.{asked}
use Rattle.zb_pass.specs.declared.work.Sweeping.{Sweeping}
use Rattle.zb_pass.specs.declared.work.Work.{Work}
use Rattle.zb_pass.specs.declared.work.Work.TheVariants.{Lookup, Fetch, Store, Mark, Commit, Retire, Sweep, Delete}
use Rattle.zb_cleaner.specs.declared.steps.Turn.TheVariants as turn
use Rattle.zb_cleaner.specs.declared.steps.Wish.{Wish}
use Rattle.zb_cleaner.specs.declared.steps.Wish.TheVariants.{Idle, Server, Turn}
use Rattle.zb_cleaner.specs.Seen.{SeenCleaner}

-- a request of this generation, nothing where there is none
abbrev pub request_wish : ℕ → Option (ServerId × Request) → Wish
request_wish generation None = Idle
request_wish generation (Some (server, request)) = Server server generation request

-- the first of some requests
abbrev pub head_of : List (ServerId × Request) → Option (ServerId × Request)
head_of [] = None
head_of (asked ∷ rest) = Some asked

-- the first of some strays is to be deleted
abbrev pub delete_wish : Sweeping → List FragId → Wish
delete_wish s [] = Idle
delete_wish s (id ∷ ids) = Server s.server s.status.members.generation (ask.Delete id)

-- what the work wants
abbrev pub work_wish : Work → Wish
work_wish (Lookup cleaning) = Turn turn.Lookup
work_wish (Fetch cleaning plan) = request_wish cleaning.members.generation (asked plan)
work_wish (Store cleaning formed) = request_wish formed.sealed.members.generation (head_of formed.plan)
work_wish (Mark cleaning server generation) = Turn (turn.Mark server generation)
work_wish (Commit cleaning sealed) = Turn (turn.Commit sealed.batch sealed.placed.pieces sealed.members.generation)
work_wish (Retire target copied rejected) = Turn (turn.Retire target.log target.stripe)
work_wish (Sweep sweep after) = Server sweep.server sweep.status.members.generation (ask.Identify after)
work_wish (Delete sweep left again) = delete_wish sweep left

-- a pick, where there is a job
abbrev pub jobs_wish : ℕ → Wish
jobs_wish zero = Idle
jobs_wish (suc n) = Turn turn.Pick

-- what the next step wants, by the work
abbrev pub wish_at : ℕ → Option Work → Wish
wish_at jobs None = jobs_wish jobs
wish_at jobs (Some work) = work_wish work

-- what the next step wants
abbrev pub wish_of : SeenCleaner → Wish
wish_of c = wish_at c.jobs c.work
