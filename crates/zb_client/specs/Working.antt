-- A client and what it works with.
use Rattle.std.specs.Prelude.{ℕ, Option, Some, None}
use Rattle.zb_types.specs.declared.ids.ServerId.{ServerId}
use Rattle.zb_types.specs.declared.lines.Said.TheVariants as said
use Rattle.zb_types.specs.declared.nodes.Cause.TheVariants.{Down}
use Rattle.zb_types.specs.declared.requests.Response.{Response}
use Rattle.zb_types.specs.declared.tables.MarkFault.{MarkFault}
use Rattle.zb_work.specs.declared.work.Step.{Step}
use Rattle.zb_work.specs.declared.work.Step.TheVariants.{Store, Mark}
use Rattle.zb_work.specs.Fitting.{StepFits}
use Rattle.zb_steps.specs.declared.next.Next.{Next}
use Rattle.zb_steps.specs.declared.next.Next.TheVariants as next
use Rattle.zb_steps.specs.Desks.{SeenDesk}
use Rattle.zb_steps.specs.Going.{Onward}
use Rattle.zb_client.specs.Seen.{SeenClient, at_step}
use Rattle.zb_client.specs.Telling.{Heard, silent, answers_read, gives_up}
use Rattle.zb_client.specs.Hearing.{HearsFetch, HearsStore, WearsFetch, hears_refusal}

-- what a client works with
abbrev pub desk_of : SeenClient → SeenDesk
desk_of c = record {
  servers = c.servers;
  fragment = c.fragment;
  block = c.block;
  log = c.log;
  batch = c.batch;
  flushed = c.flushed;
  cache = c.cache;
}

-- the client works with this
abbrev pub with_desk : SeenClient → SeenDesk → SeenClient
with_desk c d = record c {
  servers = d.servers;
  fragment = d.fragment;
  block = d.block;
  log = d.log;
  batch = d.batch;
  flushed = d.flushed;
  cache = d.cache;
}

-- its work goes on so
abbrev pub goes_so : SeenClient → Next → Heard
goes_so c (next.Step step) = silent (at_step c step)
goes_so c (next.Reply reply) = answers_read c (said.Reply reply)
goes_so c (next.Stuck cause) = gives_up c cause

-- so with its desk
abbrev pub heard_of : SeenClient → Onward → Heard
heard_of c on = goes_so (with_desk c on.desk) on.next

-- its work may go on so
abbrev pub MayGoOn : SeenClient → Next → Type 0
MayGoOn c (next.Step step) = StepFits c.servers c.fragment c.block c.log c.kept c.queue c.doubted step
MayGoOn c (next.Reply reply) = Unit {0}
MayGoOn c (next.Stuck cause) = Unit {0}

-- a fetch or a store is answered
abbrev pub HearsServer : SeenClient → Step → Response → ℕ → Heard → Type 0
HearsServer c (Store basis formed) response serving heard = HearsStore c (Store basis formed) response heard
HearsServer c step response serving heard = HearsFetch c step response serving heard

-- with this response all blocks of the next batch are there, and it cannot go
abbrev pub WearsServer : SeenClient → Step → Response → Type 0
WearsServer c step response = WearsFetch c step response

-- the server that is to be marked
abbrev pub marking : Step → Option ServerId
marking (Mark server generation) = Some server
marking other = None

-- this server isn't marked
abbrev pub hears_refusal_of : SeenClient → Option ServerId → MarkFault → Heard
hears_refusal_of c (Some server) fault = hears_refusal c server fault
hears_refusal_of c None fault = gives_up c Down

-- the server at hand isn't marked
abbrev pub hears_unmarked : SeenClient → Step → MarkFault → Heard
hears_unmarked c step fault = hears_refusal_of c (marking step) fault
