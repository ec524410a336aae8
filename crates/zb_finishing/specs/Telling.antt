-- What the lines say that the steps of clients tell where nothing befalls the nodes.
use Rattle.std.specs.Prelude.{◌≡◌, ◌≤◌, ℕ, length, IsTrue}
use Rattle.zb_types.specs.declared.lines.Outcome.{Outcome}
use Rattle.zb_types.specs.declared.lines.Outcome.TheVariants.{Call as OfCall}
use Rattle.zb_types.specs.declared.lines.Said.{Said}
use Rattle.zb_types.specs.declared.lines.Said.TheVariants.{Reply as Replied, Buffered, Kept, Failed, Dropped, Unfinished}
use Rattle.zb_types.specs.declared.nodes.Cause.{Cause}
use Rattle.zb_types.specs.declared.nodes.Cause.TheVariants.{NoSpace}
use Rattle.zb_types.specs.Limits.{within}
use Rattle.zb_given.specs.Given.{Given, calls_of}

-- one of so many servers has no slot left
abbrev pub IsNoSpace : ℕ → Cause → Type 0
IsNoSpace servers (NoSpace server) = IsTrue (within 1 servers server.0)
IsNoSpace servers other = ⊥

-- a call is replied to, or buffered, or can't go on for want of space
abbrev pub MaySay : ℕ → Said → Type 0
MaySay servers (Replied reply) = Unit {0}
MaySay servers Buffered = Unit {0}
MaySay servers (Kept cause) = IsNoSpace servers cause
MaySay servers (Failed cause) = IsNoSpace servers cause
MaySay servers Dropped = ⊥
MaySay servers (Unfinished cause) = IsNoSpace servers cause

-- so a line says of a call of this client
abbrev pub MayTell : ℕ → ℕ → Outcome → Type 0
MayTell servers client (OfCall c number said) = (c ≡ client) × MaySay servers said
MayTell servers client other = ⊥

-- where it is of a call, it names one that was given to its client, from 1
abbrev pub NamesGiven : Given → Outcome → Type 0
NamesGiven given (OfCall client number said) = (1 ≤ number) × (number ≤ length (calls_of given client))
NamesGiven given other = Unit {0}
