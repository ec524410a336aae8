-- What a client's work has come to.
use Rattle.std.specs.Prelude.{Bool, true, false, List, [], ◌∷◌, Option, Some, None}
use Rattle.zb_types.specs.declared.lines.Kind.{Kind}
use Rattle.zb_types.specs.declared.lines.Kind.TheVariants as kind
use Rattle.zb_types.specs.declared.nodes.Members.{Members}
use Rattle.zb_types.specs.declared.nodes.State.TheVariants.{Whole}
use Rattle.zb_types.specs.declared.tables.Found.{Found}
use Rattle.zb_work.specs.declared.work.Aim.{Aim}
use Rattle.zb_work.specs.declared.work.Aim.TheVariants.{Read}
use Rattle.zb_work.specs.declared.work.Task.{Task}
use Rattle.zb_work.specs.declared.work.Step.{Step}
use Rattle.zb_work.specs.declared.work.Step.TheVariants.{Lookup, Fetch, Store, Mark, Commit}

-- the kind of a step
abbrev pub kind_of_step : Step → Kind
kind_of_step Lookup = kind.Lookup
kind_of_step (Fetch basis at ptr plan) = kind.Fetch
kind_of_step (Store basis formed) = kind.Store
kind_of_step (Mark server generation) = kind.Mark
kind_of_step (Commit basis sealed) = kind.Commit

-- the same work, at this step
abbrev pub with_step : Step → Option Task → Option Task
with_step step None = None
with_step step (Some task) = Some (record task { step = step })

-- the step of the work, a lookup where there is none
abbrev pub step_of : Option Task → Step
step_of None = Lookup
step_of (Some task) = task.step

-- what the work is for
abbrev pub aim_of : Option Task → Option Aim
aim_of None = None
aim_of (Some task) = Some task.aim

-- new work, which begins with a lookup
abbrev pub new_task : Aim → Option Task
new_task aim = Some (record { aim = aim; tries = 0; step = Lookup })

-- the work that is left behind a batch, where calls are kept still or not: the next batch, or the read
abbrev pub next_task : Option Aim → Bool → Option Task
next_task (Some Read) keeps = new_task Read
next_task (Some aim) true = new_task aim
next_task aim keeps = None

-- a batch is being committed
abbrev pub is_commit : Step → Bool
is_commit (Commit basis sealed) = true
is_commit other = false

-- the members that lookups show: those of the first
abbrev pub first_members : List Found → Members
first_members [] = record { state = Whole; generation = 1 }
first_members (found ∷ others) = found.members
