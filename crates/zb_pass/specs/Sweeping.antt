-- Which fragments are strays.
use Rattle.std.specs.Prelude.{ℕ, ◌+◌, Bool, true, false, not, ◌==◌, ◌&&◌, nat_le, nat_lt, if◌then◌else◌, List, [], ◌∷◌, filter, length, Option, Some, None}
use Rattle.std.specs.List.{list_any}
use Rattle.zb_types.specs.declared.ids.FragId.{FragId}
use Rattle.zb_types.specs.declared.lines.Pass.{Pass}
use Rattle.zb_types.specs.declared.requests.Response.{Response}
use Rattle.zb_types.specs.declared.requests.Response.TheVariants as told
use Rattle.zb_types.specs.declared.tables.HeldUse.{HeldUse}
use Rattle.zb_types.specs.declared.tables.LogUse.{LogUse}
use Rattle.zb_types.specs.declared.tables.Status.{Status}
use Rattle.zb_log.specs.Logs.{last_of}
use Rattle.zb_steps.specs.Serving.{serves}
use Rattle.zb_pass.specs.declared.work.Sweeping.{Sweeping}
use Rattle.zb_pass.specs.declared.work.Work.{Work}
use Rattle.zb_pass.specs.declared.work.Work.TheVariants.{Sweep, Delete}
use Rattle.zb_pass.specs.declared.work.Next.{Next}
use Rattle.zb_pass.specs.declared.work.Next.TheVariants as next

-- is it the stripe of this fragment?
abbrev pub holds : FragId → HeldUse → Bool
holds id h = h.log.0 == id.log.0 && h.stripe == id.stripe

-- is a log's last committed stripe at or below this one, or has it none?
abbrev pub is_upto : ℕ → Option ℕ → Bool
is_upto stripe None = true
is_upto stripe (Some last) = nat_le last stripe

-- may this log go on in the fragment's stripe or write it?
abbrev pub may_write : FragId → LogUse → Bool
may_write id l = l.live && (l.log.0 == id.log.0 && is_upto id.stripe l.last)

-- a fragment is a stray: its log was given out, its stripe isn't held, and the log has ended, or has committed a later stripe
abbrev pub is_stray : Status → FragId → Bool
is_stray status id = nat_le 1 id.log.0 && (nat_lt id.log.0 status.next && (not (list_any (holds id) status.held) && not (list_any (may_write id) status.logs)))

-- the strays among fragments
abbrev pub strays : Status → List FragId → List FragId
strays status ids = filter (is_stray status) ids

-- so many fragments at most are named at once
abbrev pub most_named : ℕ
most_named = 256

-- where the same server is asked again, once it named these: behind the last one, where it named as many as it may
abbrev pub again_after : List FragId → Option FragId
again_after ids = if length ids == most_named then last_of ids else None

-- the first server is asked
abbrev pub sweeps : Pass → Status → Work
sweeps line status = Sweep (record { line = line; status = status; server = record { 0 = 1 } }) None

-- the next server is asked, and behind the last one the pass ends
abbrev pub passes_over : ℕ → Sweeping → Next
passes_over servers s = if nat_lt s.server.0 servers then next.Work (Sweep (record s { server = record { 0 = s.server.0 + 1 } }) None) else next.End s.line

-- the same server is asked again behind this fragment, or else the next one
abbrev pub asks_on : ℕ → Sweeping → Option FragId → Next
asks_on servers s None = passes_over servers s
asks_on servers s (Some id) = next.Work (Sweep s (Some id))

-- these strays are deleted, where there are some
abbrev pub deletes : ℕ → Sweeping → List FragId → Option FragId → Next
deletes servers s [] again = asks_on servers s again
deletes servers s (id ∷ ids) again = next.Work (Delete s (id ∷ ids) again)

-- the strays among the fragments that a server named; one that doesn't serve is passed over
abbrev pub swept : ℕ → Sweeping → Response → ℕ → Next
swept servers s (told.Ids ids) serving = if serves serving s.server then deletes servers s (strays s.status ids) (again_after ids) else passes_over servers s
swept servers s other serving = passes_over servers s

-- is it an answer of a server that is up?
abbrev pub is_up : Response → Bool
is_up told.Down = false
is_up told.Blank = false
is_up response = true

-- the rest of some fragments
abbrev pub rest_of : List FragId → List FragId
rest_of [] = []
rest_of (id ∷ ids) = ids

-- one stray was deleted; a server that doesn't answer as up, or doesn't serve, is passed over
abbrev pub deleted : ℕ → Sweeping → List FragId → Option FragId → Response → ℕ → Next
deleted servers s left again response serving = if is_up response && serves serving s.server then deletes servers s (rest_of left) again else passes_over servers s
