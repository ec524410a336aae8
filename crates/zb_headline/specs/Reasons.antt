-- The reason that a line needs, by the lines before it and by what is seen of the run.
use Rattle.std.specs.Prelude.{◌≡◌, ◌⊎◌, ℕ, suc, ◌+◌, Bool, true, false, not, List, [], ◌∷◌, ◌++◌, length, Option, Some, None, is_some, ◌==◌, ◌&&◌, ◌||◌}
use Rattle.std.specs.List.{list_any}
use Rattle.zb_types.specs.declared.nodes.Cause.{Cause}
use Rattle.zb_types.specs.declared.nodes.Cause.TheVariants.{Unreachable, Down, NoSpace}
use Rattle.zb_types.specs.declared.nodes.Node.{Node}
use Rattle.zb_types.specs.declared.nodes.Node.TheVariants.{Server, Client, Manager, Cleaner, Mender}
use Rattle.zb_types.specs.declared.nodes.Event.TheVariants.{Arm as ArmOf}
use Rattle.zb_types.specs.declared.nodes.EventAnswer.{EventAnswer}
use Rattle.zb_types.specs.declared.nodes.EventAnswer.TheVariants.{Done as EventDone, Down as IsDown, ManagerDown, Up as IsUp, Blank, Out, Another, Unreachable as CantReach, Stopped}
use Rattle.zb_types.specs.declared.lines.Line.{Line}
use Rattle.zb_types.specs.declared.lines.Line.TheVariants.{Event as EventLine}
use Rattle.zb_types.specs.declared.lines.Said.{Said}
use Rattle.zb_types.specs.declared.lines.Said.TheVariants.{Kept, Failed, Dropped, Unfinished}
use Rattle.zb_types.specs.declared.lines.Ended.TheVariants.{Retired, Needed, Mending}
use Rattle.zb_types.specs.declared.lines.Pass.{Pass}
use Rattle.zb_types.specs.declared.lines.Pass.TheVariants.{Nothing, Done as PassDone, Failed as PassFailed, Dropped as PassDropped}
use Rattle.zb_types.specs.declared.lines.Mended.{Mended}
use Rattle.zb_types.specs.declared.lines.Mended.TheVariants.{Copied, Another as RefusedFor, Failed as MendFailed, Server as FailedServer, Dropped as MendDropped}
use Rattle.zb_types.specs.declared.lines.Told.{Told}
use Rattle.zb_types.specs.declared.lines.Told.TheVariants.{Arm, Up, Lose}
use Rattle.zb_types.specs.declared.lines.Outcome.{Outcome}
use Rattle.zb_types.specs.declared.lines.Outcome.TheVariants.{Call as OfCall, Clean as OfClean, Rebuild as OfRebuild, Event as OfEvent}
use Rattle.zb_claims.specs.Points.{Subject, calls, cleans, rebuilds, crashes, arms, ups, loses, same_node, told_of, asked, has_plus, is_event, stands}
use Rattle.zb_claims.specs.Fits.{Clock}

-- What is seen of a run where a line stands, or at a moment. Under `threads` counts are taken over the whole run, whatever
-- number of lines is named, and what is asked of a span isn't asked.
pub record Shown : Type 1 where
  -- the platter's count of failed calls rose since the first n lines of the report stood
  pub rose : ℕ → ℕ → Type 0
  -- so many writes came to the platter since then, or their count stands at its last value
  pub wrote : ℕ → ℕ → ℕ → Type 0
  -- the server isn't fit; the stripe of a log isn't held
  pub unfit : ℕ → Type 0
  pub released : ℕ → ℕ → Type 0
  -- the members name the server; a server is mending; the platter has at most so many free slots
  pub named : ℕ → Type 0
  pub mending : Type 0
  pub free : ℕ → ℕ → Type 0
  -- the server was mending, and then the members had a greater generation
  pub overtaken : ℕ → Type 0
  -- the stripe may be cleaned; none may; nothing points into it, and an entry since the checkpoint names it
  pub candidate : ℕ → ℕ → Type 0
  pub none : Type 0
  pub cited : ℕ → ℕ → Type 0

-- a place of a report: the script with its clock, the lines before, and what is seen there
pub record Place : Type 1 where
  pub script : List Line
  pub clock : Clock
  pub before : List Outcome
  pub shown : Shown

-- what is asked only where an order of the script's lines is claimed
abbrev pub InOrder : Place → Type 0 → Type 0
InOrder at P = at.clock.ordered ≡ true → P

-- This holds at a point of the report that none of these marks has followed. Behind the last line of the script marks
-- don't count, since the lines of a finish are printed at once.
pub record Since (at : Place) (marks : Outcome → Bool) (P : List Outcome → Type 0) : Type 0 where
  pub front : List Outcome
  pub rest : List Outcome
  pub split : at.before ≡ front ++ rest
  pub since : (not (list_any marks rest) || at.clock.over front) ≡ true
  pub holds : P front

-- a platter's count of failed calls rose since the last of these marks
abbrev pub Rose : Place → (Outcome → Bool) → ℕ → Type 0
Rose at marks platter = Since at marks (λ front. at.shown.rose platter (length front))

-- the line of the script that was found was begun when these lines stood
abbrev pub begun_in : Clock → List Outcome → Option (ℕ × Line) → Bool
begun_in clock lines None = false
begun_in clock lines (Some found) = clock.begun lines found.0

-- what was found and begun has no line yet: the next of this subject
abbrev pub is_under_way : Place → Subject → Bool
is_under_way at subject = begun_in at.clock at.before (asked at.script subject (suc (told_of subject at.before)))

-- Lines by which a server goes down or comes up.

-- `rebuild` of this server, copied
abbrev pub is_copied : ℕ → Outcome → Bool
is_copied i (OfRebuild server (Copied count)) = server.0 == i
is_copied i line = false

-- it is put up, or rebuilt
abbrev pub puts_up : ℕ → Outcome → Bool
puts_up i line = is_event (ups (Server i)) line || is_copied i line

-- `lose` that was done, or failed in its midst
abbrev pub is_lost : ℕ → Outcome → Bool
is_lost i (OfEvent (Lose server) EventDone) = server.0 == i
is_lost i (OfEvent (Lose server) (Stopped node)) = server.0 == i
is_lost i line = false

-- `up` of this server that ended in its midst, or its `rebuild` at a file manager that was down: its members may be in doubt
abbrev pub is_failed : ℕ → Outcome → Bool
is_failed i (OfEvent (Up (Server s)) (Stopped node)) = s == i
is_failed i (OfRebuild server (MendFailed Down)) = server.0 == i
is_failed i line = false

-- a `rebuild` of this server that ended, maybe in its midst
abbrev pub is_half_mended : ℕ → Outcome → Bool
is_half_mended i (OfRebuild server (MendFailed (Unreachable a b))) = server.0 == i
is_half_mended i (OfRebuild server (MendFailed (NoSpace full))) = server.0 == i
is_half_mended i (OfRebuild server FailedServer) = server.0 == i
is_half_mended i (OfRebuild server MendDropped) = server.0 == i
is_half_mended i line = false

-- it is down from here on
abbrev pub takes_down : ℕ → Outcome → Bool
takes_down i line = is_event (crashes (Server i)) line || is_lost i line || is_failed i line

-- Arms.

-- each `rebuild` of this server in `rest` that was copied is of a line that was begun at `front`
abbrev pub are_begun : Place → List Outcome → ℕ → List Outcome → List Outcome → Bool
are_begun at front i seen [] = true
are_begun at front i seen (line ∷ rest) =
    (not (is_copied i line) || begun_in at.clock front (asked at.script (rebuilds i) (suc (told_of (rebuilds i) seen)))) && are_begun at front i (seen ++ line ∷ []) rest

-- a rebuild disarms once it is begun
abbrev pub copies_begun : Place → List Outcome → Node → List Outcome → Bool
copies_begun at front (Server i) rest = are_begun at front i front rest
copies_begun at front node rest = true

-- it disarms the node's platter, or arms it anew
abbrev pub rearms : Node → Outcome → Bool
rearms node line = is_event (ups node) line || is_event (arms node) line

-- the arm that is told behind `front` is for so many writes, nothing has ended it, and so many have come
pub record IsSpent (at : Place) (node : Node) (platter : ℕ) (front rest : List Outcome) : Type 0 where
  pub since : list_any (rearms node) rest ≡ false
  pub copies : copies_begun at front node rest ≡ true
  pub place : ℕ
  pub count : ℕ
  pub is : asked at.script (arms node) (suc (told_of (arms node) front)) ≡ Some (place, EventLine (ArmOf node count))
  pub spent : at.shown.wrote platter (length front + 1) count

-- a node's platter was armed, and the writes have come that it was armed for
pub record WasArmed (at : Place) (node : Node) (platter : ℕ) : Type 0 where
  pub front : List Outcome
  pub rest : List Outcome
  pub split : at.before ≡ front ++ OfEvent (Arm node) EventDone ∷ rest
  pub spent : InOrder at (IsSpent at node platter front rest)

-- Nodes that are down.

-- a `lose` or a `rebuild` of the server is under way, and its platter isn't fit
pub record IsChanging (at : Place) (i : ℕ) : Type 0 where
  pub unfit : InOrder at (at.shown.unfit i)
  pub begun : (is_under_way at (loses i) || is_under_way at (rebuilds i)) ≡ true

-- a `rebuild` of the server has ended since it was last put up, and its platter isn't fit
pub record IsHalfMended (at : Place) (i : ℕ) : Type 0 where
  pub unfit : InOrder at (at.shown.unfit i)
  pub ended : stands (is_half_mended i) (puts_up i) at.before ≡ true

-- a server doesn't serve
abbrev pub ServerReason : Place → ℕ → Type 0
ServerReason at i = (stands (takes_down i) (puts_up i) at.before ≡ true) ⊎ (Rose at (puts_up i) i ⊎ (WasArmed at (Server i) i ⊎ (IsChanging at i ⊎ IsHalfMended at i)))

-- a node has crashed, and wasn't put up since
abbrev pub is_crashed : Place → Node → Type 0
is_crashed at node = stands (is_event (crashes node)) (is_event (ups node)) at.before ≡ true

-- the file manager doesn't serve
abbrev pub ManagerReason : Place → Type 0
ManagerReason at = is_crashed at Manager ⊎ (WasArmed at Manager 0 ⊎ Rose at (is_event (ups Manager)) 0)

-- a node is down
abbrev pub NodeReason : Place → Node → Type 0
NodeReason at (Server i) = ServerReason at i
NodeReason at Manager = ManagerReason at
NodeReason at node = is_crashed at node

-- a call or a job can't go on; `most` free slots are as good as none to it
abbrev pub CauseReason : Place → ℕ → Cause → Type 0
CauseReason at most (Unreachable a b) = ServerReason at a.0 × ServerReason at b.0
CauseReason at most Down = ManagerReason at
CauseReason at most (NoSpace server) = at.shown.free server.0 most

-- Lines that are dropped.

-- a crash came before, and no `up` after it was printed before the script line at this place was begun
abbrev pub crashed_from : Bool → Place → Node → ℕ → List Outcome → List Outcome → Bool
crashed_from so at node place seen [] = so
crashed_from so at node place seen (line ∷ lines) =
    crashed_from (is_event (crashes node) line || (so && (not (is_event (ups node) line) || at.clock.begun seen place))) at node place (seen ++ line ∷ []) lines

-- what was found is dropped by a crash of this node
abbrev pub dropped_in : Place → Node → Option (ℕ × Line) → Bool
dropped_in at node None = false
dropped_in at node (Some found) = crashed_from false at node found.0 [] at.before

-- Passes and rebuilds.

-- the n-th line of a script with this subject was begun at `front`, and is waited for where it has no plus
pub record BeginsAt (script : List Line) (clock : Clock) (subject : Subject) (n : ℕ) (front rest : List Outcome) : Type 0 where
  pub place : ℕ
  pub line : Line
  pub is : asked script subject n ≡ Some (place, line)
  pub begun : clock.begun front place ≡ true
  pub at_once : has_plus line ≡ false → rest ≡ []

-- This holds in the span of the next line of this subject: behind the begin of its script line, and where that has no plus
-- behind the line before it.
pub record InSpan (at : Place) (subject : Subject) (P : List Outcome → List Outcome → Type 0) : Type 0 where
  pub front : List Outcome
  pub rest : List Outcome
  pub split : at.before ≡ front ++ rest
  pub begins : BeginsAt at.script at.clock subject (suc (told_of subject at.before)) front rest
  pub holds : P front rest

-- it goes down, or is armed
abbrev pub breaks : ℕ → Outcome → Bool
breaks i line = is_event (crashes (Server i)) line || is_event (arms (Server i)) line || is_lost i line

-- the mended server itself failed: it broke within the span of its rebuild, or the rebuild was overtaken
abbrev pub MendedFails : Place → ℕ → Type 0
MendedFails at i = InSpan at (rebuilds i) (λ front rest. (list_any (breaks i) rest ≡ true) ⊎ at.shown.rose i (length front)) ⊎ at.shown.overtaken i

-- what a line says of a pass of the cleaner
abbrev pub PassReason : Place → Pass → Type 0
PassReason at Nothing = at.shown.none
PassReason at (PassDone log stripe copied rejected Retired) = at.shown.candidate log.0 stripe × at.shown.released log.0 stripe
PassReason at (PassDone log stripe copied rejected Needed) = at.shown.candidate log.0 stripe × at.shown.cited log.0 stripe
PassReason at (PassDone log stripe copied rejected Mending) = at.shown.candidate log.0 stripe × at.shown.mending
PassReason at (PassFailed cause) = CauseReason at 0 cause
PassReason at PassDropped = dropped_in at Cleaner (asked at.script cleans (suc (told_of cleans at.before))) ≡ true

-- what a line says of the rebuild of a server
abbrev pub MendReason : Place → ℕ → Mended → Type 0
MendReason at i (Copied count) = Unit {0}
MendReason at i (RefusedFor other) = ServerReason at other.0
MendReason at i (MendFailed cause) = CauseReason at 0 cause
MendReason at i FailedServer = InOrder at (MendedFails at i)
MendReason at i MendDropped = dropped_in at Mender (asked at.script (rebuilds i) (suc (told_of (rebuilds i) at.before))) ≡ true

-- Calls.

-- what a line says of call n of a client, which leaves four slots of a server free
abbrev pub SaidReason : Place → ℕ → ℕ → Said → Type 0
SaidReason at client n (Kept cause) = CauseReason at 4 cause
SaidReason at client n (Failed cause) = CauseReason at 4 cause
SaidReason at client n (Unfinished cause) = CauseReason at 4 cause
SaidReason at client n Dropped = dropped_in at (Client client) (asked at.script (calls client) n) ≡ true
SaidReason at client n said = Unit {0}

-- Events.

-- a node crashes or is lost
abbrev pub falls : Node → Outcome → Bool
falls (Server i) line = is_event (crashes (Server i)) line || is_lost i line
falls node line = is_event (crashes node) line

-- a node is put up, or rebuilt
abbrev pub rises : Node → Outcome → Bool
rises (Server i) line = puts_up i line
rises node line = is_event (ups node) line

-- a rebuild is begun that had no line before the server fell
pub record MendsSince (at : Place) (i : ℕ) : Type 0 where
  pub front : List Outcome
  pub fall : Outcome
  pub rest : List Outcome
  pub split : at.before ≡ front ++ fall ∷ rest
  pub is : falls (Server i) fall ≡ true
  pub last : list_any (falls (Server i)) rest ≡ false
  pub begun : begun_in at.clock at.before (asked at.script (rebuilds i) (suc (told_of (rebuilds i) front))) ≡ true

-- a rebuild may have put the server up; under `threads` any of the script may
abbrev pub MayHaveMended : Place → ℕ → Type 0
MayHaveMended at i = MendsSince at i ⊎ ((not at.clock.ordered && is_some (asked at.script (rebuilds i) 1)) ≡ true)

-- a node is up
abbrev pub UpReason : Place → Node → Type 0
UpReason at (Server i) = (stands (falls (Server i)) (rises (Server i)) at.before ≡ false) ⊎ MayHaveMended at i
UpReason at node = stands (falls node) (rises node) at.before ≡ false

-- the server's platter was lost, and it wasn't rebuilt since
abbrev pub is_blank : Place → ℕ → Type 0
is_blank at i = stands (is_lost i) (is_copied i) at.before ≡ true

-- the platter of a node that has one
abbrev pub platter_of : Node → ℕ
platter_of (Server i) = i
platter_of node = 0

-- `up` of just this node, which disarms its platter first
abbrev pub is_up_of : Told → Node → Bool
is_up_of (Up x) node = same_node x node
is_up_of event node = false

-- a node's platter stopped in an event: a call of it failed since the line before, or an arm is spent that the event left
abbrev pub StoppedReason : Place → Told → Node → Type 0
StoppedReason at event node = at.shown.rose (platter_of node) (length at.before) ⊎ ((is_up_of event node ≡ false) × WasArmed at node (platter_of node))

-- what came of an event
abbrev pub EventReason : Place → Told → EventAnswer → Type 0
EventReason at event EventDone = Unit {0}
EventReason at event (IsDown node) = NodeReason at node
EventReason at event ManagerDown = ManagerReason at
EventReason at event (IsUp node) = UpReason at node
EventReason at event (Blank server) = is_blank at server.0
EventReason at event (Out server) = at.shown.named server.0 ⊎ (is_blank at server.0 ⊎ ManagerReason at)
EventReason at event (Another server) = at.shown.named server.0 ⊎ is_blank at server.0
EventReason at event (CantReach a b) = ServerReason at a.0 × ServerReason at b.0
EventReason at event (Stopped node) = StoppedReason at event node

-- what a line of the report needs
abbrev pub HasReason : Place → Outcome → Type 0
HasReason at (OfCall client n said) = SaidReason at client n said
HasReason at (OfClean pass) = PassReason at pass
HasReason at (OfRebuild server end) = MendReason at server.0 end
HasReason at (OfEvent event answer) = EventReason at event answer

-- each line has its reason at its place behind those before it
abbrev pub ReasonsFrom : (List Outcome → Outcome → Place) → List Outcome → List Outcome → Type 0
ReasonsFrom place_of before [] = Unit {0}
ReasonsFrom place_of before (line ∷ lines) = HasReason (place_of before line) line × ReasonsFrom place_of (before ++ line ∷ []) lines
