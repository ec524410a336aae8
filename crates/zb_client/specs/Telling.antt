-- What a step of a client leaves and tells.
use Rattle.std.specs.Prelude.{ℕ, List, [], ◌∷◌, map, take, Option, Some, None}
use Rattle.zb_types.specs.declared.nodes.Cause.{Cause}
use Rattle.zb_types.specs.declared.calls.Reply.{Reply}
use Rattle.zb_types.specs.declared.lines.Said.{Said}
use Rattle.zb_types.specs.declared.lines.Said.TheVariants as said
use Rattle.zb_types.specs.declared.lines.Outcome.{Outcome}
use Rattle.zb_types.specs.declared.lines.Outcome.TheVariants.{Call as CallLine}
use Rattle.zb_basis.specs.declared.calls.Numbered.{Numbered}
use Rattle.zb_work.specs.declared.work.Task.{Task}
use Rattle.zb_work.specs.declared.work.Aim.{Aim}
use Rattle.zb_work.specs.declared.work.Aim.TheVariants.{Update, Read, Finish}
use Rattle.zb_work.specs.declared.work.Step.TheVariants.{Lookup}
use Rattle.zb_client.specs.declared.steps.Told.{Told}
use Rattle.zb_client.specs.declared.steps.Told.TheVariants.{Nothing, Lines}
use Rattle.zb_client.specs.Seen.{SeenClient, unready, at_step}

-- the client after a step, and what it told
pub record Heard : Type 0 where
  pub client : SeenClient
  pub told : Told

-- a step without a line
abbrev pub silent : SeenClient → Heard
silent c = record { client = unready c; told = Nothing }

-- a step with these lines
abbrev pub tells : SeenClient → List Outcome → Heard
tells c lines = record { client = unready c; told = Lines lines }

-- a line of a call
abbrev pub line : SeenClient → ℕ → Said → Outcome
line c number what = CallLine c.client number what

-- it looks up anew
abbrev pub looks_anew : SeenClient → Heard
looks_anew c = silent (at_step c Lookup)

-- its work is over
abbrev pub resting : SeenClient → SeenClient
resting c = record c { task = None }

-- the first of the queued calls is answered, and leaves the queue
abbrev pub answers_first : SeenClient → List Numbered → Said → Heard
answers_first c [] what = silent (resting c)
answers_first c (read ∷ rest) what = tells (record (resting c) { queue = rest }) (line c read.number what ∷ [])

-- the read at work is answered, and leaves the queue
abbrev pub answers_read : SeenClient → Said → Heard
answers_read c what = answers_first c c.queue what

-- the lines of calls that are unfinished
abbrev pub unfinished_lines : ℕ → Cause → List Numbered → List Outcome
unfinished_lines client cause calls = map (λ k. CallLine client k.number (said.Unfinished cause)) calls

-- the lines that give the first of these calls their replies
abbrev pub reply_lines : ℕ → List Numbered → List Reply → List Outcome
reply_lines client (call ∷ calls) (reply ∷ replies) = CallLine client call.number (said.Reply reply) ∷ reply_lines client calls replies
reply_lines client [] replies = []
reply_lines client (call ∷ calls) [] = []

-- every kept call is told to be unfinished, and ends with that; those in doubt stay kept until the doubt is over
abbrev pub ends_all : SeenClient → Cause → Heard
ends_all c cause = tells (record (resting c) { kept = take c.doubted c.kept }) (unfinished_lines c.client cause c.kept)

-- the call that the work is for is told the cause; an update stays kept
abbrev pub gives_up_aim : SeenClient → Aim → Cause → Heard
gives_up_aim c (Update number) cause = tells (resting c) (line c number (said.Kept cause) ∷ [])
gives_up_aim c Read cause = answers_read c (said.Failed cause)
gives_up_aim c Finish cause = ends_all c cause

-- this work can't go on
abbrev pub gives_up_for : SeenClient → Option Task → Cause → Heard
gives_up_for c None cause = silent c
gives_up_for c (Some task) cause = gives_up_aim c task.aim cause

-- the work can't go on
abbrev pub gives_up : SeenClient → Cause → Heard
gives_up c cause = gives_up_for c c.task cause
