-- What lies ahead of a pass with the blocks that have come.
use Rattle.std.specs.Prelude.{◌≡◌, Option, Some, None}
use Rattle.zb_delta.specs.declared.delta.Body.{Body}
use Rattle.zb_stripe.specs.Reading.{start}
use Rattle.zb_basis.specs.Forming.{readers_out}
use Rattle.zb_pass.specs.declared.work.Ahead.{Ahead}
use Rattle.zb_pass.specs.declared.work.Ahead.TheVariants as ahead
use Rattle.zb_pass.specs.declared.work.Cleaning.{Cleaning}
use Rattle.zb_pass.specs.declared.work.Work.TheVariants.{Fetch, Store}
use Rattle.zb_pass.specs.Copying.{next_body}
use Rattle.zb_pass.specs.Forming.{IsFormed}
use Rattle.zb_pass.specs.Going.{Onward, works}
use Rattle.zb_pass.specs.Seen.{SeenWriter, log_for}

-- this is how the pass goes on where this is the first block that hasn't come
abbrev pub IsAheadAt : SeenWriter → Cleaning → Option Body → Ahead → Type 0
IsAheadAt w cleaning (Some body) (ahead.Fetch plan) = plan ≡ start w.servers w.fragment body.now (readers_out cleaning.members.state)
IsAheadAt w cleaning None (ahead.Store formed) =
    IsFormed w.servers w.fragment (log_for w cleaning.members.generation) cleaning.target.number cleaning.members cleaning.copies formed
IsAheadAt w cleaning body other = ⊥

-- this is how the pass goes on with the blocks that have come
abbrev pub IsAhead : SeenWriter → Cleaning → Ahead → Type 0
IsAhead w cleaning a = IsAheadAt w cleaning (next_body cleaning.copies) a

-- the pass goes on so
abbrev pub goes_on : SeenWriter → Cleaning → Ahead → Onward
goes_on w cleaning (ahead.Fetch plan) = works w (Fetch cleaning plan)
goes_on w cleaning (ahead.Store formed) = works (record w { log = log_for w cleaning.members.generation }) (Store cleaning formed)
