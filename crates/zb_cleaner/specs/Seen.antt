-- What contracts see of the cleaner.
use Rattle.std.specs.Prelude.{◌≡◌, ℕ, zero, suc, ◌-◌, ◌<◌, ◌≤◌, Bool, false, List, [], ◌∷◌, Option, Some, None, IfSome}
use Rattle.zb_types.specs.declared.ids.LogId.{LogId}
use Rattle.zb_types.specs.declared.lines.Kind.{Kind}
use Rattle.zb_types.specs.declared.lines.Kind.TheVariants as kind
use Rattle.zb_types.specs.declared.lines.Outcome.{Outcome}
use Rattle.zb_types.specs.declared.lines.Outcome.TheVariants.{Clean}
use Rattle.zb_types.specs.declared.lines.Pass.{Pass}
use Rattle.zb_pass.specs.declared.work.Next.{Next}
use Rattle.zb_pass.specs.declared.work.Next.TheVariants as next
use Rattle.zb_pass.specs.declared.work.Work.{Work}
use Rattle.zb_pass.specs.Going.{Onward}
use Rattle.zb_pass.specs.Seen.{SeenWriter, first_writer}
use Rattle.zb_pass.specs.Turning.{kind_of_work}
use Rattle.zb_cleaner.specs.declared.steps.Told.{Told}
use Rattle.zb_cleaner.specs.declared.steps.Told.TheVariants.{Nothing, Lines}

-- The sizes of the system and the log with its last flush, the jobs that haven't ended, what the first of them is at
-- behind its pick, and whether there is the memory for the step that stands.
pub record SeenCleaner : Type 0 where
  pub writer : SeenWriter
  pub jobs : ℕ
  pub work : Option Work
  pub is_ready : Bool

-- a pick stands, where there is a job
abbrev pub kind_of_jobs : ℕ → Kind
kind_of_jobs zero = kind.Idle
kind_of_jobs (suc n) = kind.Pick

-- the kind of the next step, by the work
abbrev pub kind_at : ℕ → Option Work → Kind
kind_at jobs None = kind_of_jobs jobs
kind_at jobs (Some work) = kind_of_work work

-- the kind of the next step
abbrev pub kind_of : SeenCleaner → Kind
kind_of c = kind_at c.jobs c.work

-- the memory for the next step is no longer there
abbrev pub unready : SeenCleaner → SeenCleaner
unready c = record c { is_ready = false }

-- a cleaner without jobs, and whose log begins at stripe 0
abbrev pub first_cleaner : ℕ → ℕ → ℕ → LogId → SeenCleaner
first_cleaner servers fragment block log = record { writer = first_writer servers fragment block log; jobs = 0; work = None; is_ready = false }

-- work is for a job
abbrev pub IsFor : ℕ → Option Work → Type 0
IsFor jobs None = Unit {0}
IsFor jobs (Some work) = 0 < jobs

-- there is room for a line
pub record HasRoom (spare : Option (List Outcome)) (room : Option ℕ) : Type 0 where
  pub empty : IfSome spare (λ lines. lines ≡ [])
  pub lines : IfSome room (λ n. 1 ≤ n)

-- the cleaner after a step, and what it told
pub record Heard : Type 0 where
  pub cleaner : SeenCleaner
  pub told : Told

-- a step after which the pass is at this work
abbrev pub goes_to : SeenCleaner → Work → Heard
goes_to c work = record { cleaner = record (unready c) { work = Some work }; told = Nothing }

-- the pass ends with its line, and with it the first job
abbrev pub ends_pass : SeenCleaner → Pass → Heard
ends_pass c line = record { cleaner = record (unready c) { work = None; jobs = c.jobs - 1 }; told = Lines (Clean line ∷ []) }

-- the pass goes on so
abbrev pub goes_so : SeenCleaner → Next → Heard
goes_so c (next.Work work) = goes_to c work
goes_so c (next.End line) = ends_pass c line

-- it does so with its log
abbrev pub heard_of : SeenCleaner → Onward → Heard
heard_of c on = goes_so (record c { writer = on.writer }) on.next
