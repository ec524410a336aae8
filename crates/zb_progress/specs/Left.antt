-- How many steps a client may still take before it is idle.
use Rattle.std.specs.Prelude.{ℕ, ◌+◌, ◌-◌, ◌*◌, Bool, true, false, if◌then◌else◌, List, [], ◌∷◌, length, Option, Some, None}
use Rattle.zb_types.specs.Apply.{max_file}
use Rattle.zb_types.specs.Limits.{most_kept}
use Rattle.zb_tables.specs.Tables.{Tables}
use Rattle.zb_tables.specs.Taking.{Sizes}
use Rattle.zb_basis.specs.declared.basis.Fetched.{Fetched}
use Rattle.zb_work.specs.declared.work.Aim.TheVariants.{Update, Read, Finish}
use Rattle.zb_work.specs.declared.work.Step.{Step}
use Rattle.zb_work.specs.declared.work.Step.TheVariants.{Lookup, Fetch, Store, Mark, Commit}
use Rattle.zb_work.specs.declared.work.Aim.{Aim}
use Rattle.zb_work.specs.Blocks.{is_missing}
use Rattle.zb_work.specs.Steps.{aim_of, step_of}
use Rattle.zb_client.specs.Seen.{SeenClient}
use Rattle.zb_progress.specs.Fresh.{is_fresh}

-- the bytes of the blocks that are missing
abbrev pub missing_bytes : List Fetched → ℕ
missing_bytes [] = 0
missing_bytes (block ∷ blocks) = (if is_missing block then block.ptr.len else 0) + missing_bytes blocks

-- at most so many requests store a batch: one to each server for each of its pieces
abbrev pub most_requests : Sizes → ℕ
most_requests z = 4093 * z.servers

-- at most so many bytes are wanted for a batch or a read: of each call the blocks of a whole file
abbrev pub most_wanted : Sizes → ℕ
most_wanted z = most_kept * max_file * z.block

-- at most so many steps are taken from a lookup to what comes of it
abbrev pub steps_from_lookup : Sizes → ℕ
steps_from_lookup z = most_wanted z + most_requests z + 4

-- at most so many steps are taken from this step on to what comes of the work, where no lookup comes between
abbrev pub stage : Sizes → Step → ℕ
stage z Lookup = steps_from_lookup z
stage z (Fetch basis at ptr plan) = missing_bytes basis.fetched - length plan.read + most_requests z + 3
stage z (Store basis formed) = length formed.plan + 2
stage z (Mark server generation) = steps_from_lookup z
stage z (Commit basis sealed) = 1

-- and so many more where its batch is behind a version, and is to be looked up anew
abbrev pub stale_steps : Sizes → Bool → ℕ
stale_steps z true = 0
stale_steps z false = steps_from_lookup z

-- what the work at hand counts beside the calls: for an update or a finish more than none, and for a read less, since its
-- call is queued still
abbrev pub work_rank : Option Aim → ℕ
work_rank None = 1
work_rank (Some (Update number)) = 2
work_rank (Some Read) = 0
work_rank (Some Finish) = 2

-- what is left to be taken up: of a queued call that it is kept, and that it is committed
abbrev pub rank : SeenClient → ℕ
rank c = 3 * length c.queue + length c.kept + work_rank (aim_of c.task)

-- as many steps as one of them may cost: its own, and of each other client's those that its commit adds
abbrev pub round : Sizes → ℕ
round z = (z.clients + 1) * (steps_from_lookup z + 1)

-- a client takes at most so many steps before it is idle, if no other client's batch is committed
abbrev pub steps_left : Sizes → Tables → SeenClient → ℕ
steps_left z t c = rank c * round z + (stage z (step_of c.task) + stale_steps z (is_fresh t c))
