-- One line more, by its kind: it fits what was given.
use Rattle.std.specs.Prelude.{◌≡◌, ℕ, true, false, List, [], ◌∷◌, ◌++◌, length, nat_le}
use Rattle.std.specs.List.{list_any}
use Rattle.zb_types.specs.declared.ids.ServerId.{ServerId}
use Rattle.zb_types.specs.declared.calls.Call.{Call}
use Rattle.zb_types.specs.declared.calls.Reply.{Reply}
use Rattle.zb_types.specs.declared.nodes.Cause.{Cause}
use Rattle.zb_types.specs.declared.nodes.EventAnswer.{EventAnswer}
use Rattle.zb_types.specs.declared.lines.Said.{Said}
use Rattle.zb_types.specs.declared.lines.Said.TheVariants.{Reply as Replied, Buffered, Kept, Failed, Dropped, Unfinished}
use Rattle.zb_types.specs.declared.lines.Pass.{Pass}
use Rattle.zb_types.specs.declared.lines.Mended.{Mended}
use Rattle.zb_types.specs.declared.lines.Told.{Told}
use Rattle.zb_types.specs.declared.lines.Outcome.{Outcome}
use Rattle.zb_types.specs.declared.lines.Outcome.TheVariants.{Call as OfCall, Clean as OfClean, Rebuild as OfRebuild, Event as OfEvent}
use Rattle.zb_types.specs.Apply.{is_update, reply_to}
use Rattle.zb_claims.specs.Points.{cleans, rebuilds, subject_of_told, has_line, tree_at}
use Rattle.zb_claims.specs.Fits.{MayNotBuffer, BufferedFits, KeptFits}
use Rattle.zb_given.specs.Given.{Given, script_of, FitGiven}
use Rattle.zb_given.specs.Calls.{IsOpen, MayReply, LookedUp, IsLookedUp, tree_seen, IsOwed}

-- the lines with this one of a call behind them fit
abbrev pub FitWith : Given → List Outcome → ℕ → ℕ → Said → Type 0
FitWith given lines client n said = FitGiven given (lines ++ OfCall client n said ∷ [])

-- `kept buffered`
abbrev pub AddsBuffered : Type 0
AddsBuffered = (given : Given) (lines : List Outcome) (client n : ℕ) (call : Call) → FitGiven given lines → IsOpen given lines client n call → BufferedFits lines client n call → FitWith given lines client n Buffered

-- a reply to an update, that of the tree of now
abbrev pub AddsUpdate : Type 0
AddsUpdate = (given : Given) (lines : List Outcome) (client n : ℕ) (call : Call) (reply : Reply) → FitGiven given lines → IsOpen given lines client n call → MayReply given lines client n → MayNotBuffer lines client n call
    → is_update call ≡ true → reply ≡ reply_to (tree_at (script_of given) lines) call → FitWith given lines client n (Replied reply)

-- a reply to a read, that of the tree that it saw
abbrev pub AddsRead : Type 0
AddsRead = (given : Given) (lines : List Outcome) (client : ℕ) (read : LookedUp) (call : Call) (reply : Reply) → FitGiven given lines → IsLookedUp given lines client read call → MayReply given lines client read.number
    → reply ≡ reply_to (tree_seen given lines read) call → FitWith given lines client read.number (Replied reply)

-- `kept` for a cause
abbrev pub AddsKept : Type 0
AddsKept = (given : Given) (lines : List Outcome) (client n : ℕ) (call : Call) (cause : Cause) → FitGiven given lines → IsOpen given lines client n call → KeptFits lines client n call → FitWith given lines client n (Kept cause)

-- `failed`, of a read
abbrev pub AddsFailed : Type 0
AddsFailed = (given : Given) (lines : List Outcome) (client n : ℕ) (call : Call) (cause : Cause) → FitGiven given lines → IsOpen given lines client n call → is_update call ≡ false → FitWith given lines client n (Failed cause)

-- `dropped`
abbrev pub AddsDropped : Type 0
AddsDropped = (given : Given) (lines : List Outcome) (client n : ℕ) (call : Call) → FitGiven given lines → IsOpen given lines client n call → FitWith given lines client n Dropped

-- `unfinished`, of an update that is kept, once a finish began
abbrev pub AddsUnfinished : Type 0
AddsUnfinished = (given : Given) (lines : List Outcome) (client n : ℕ) (call : Call) (cause : Cause) → FitGiven given lines → IsOpen given lines client n call → is_update call ≡ true → has_line lines client n ≡ true
    → list_any (λ at. nat_le at (length lines)) given.finishes ≡ true → FitWith given lines client n (Unfinished cause)

-- a line of a pass of the cleaner
abbrev pub AddsClean : Type 0
AddsClean = (given : Given) (lines : List Outcome) (pass : Pass) → FitGiven given lines → IsOwed given lines cleans → FitGiven given (lines ++ OfClean pass ∷ [])

-- a line of a rebuild of this server
abbrev pub AddsRebuild : Type 0
AddsRebuild = (given : Given) (lines : List Outcome) (server : ServerId) (end : Mended) → FitGiven given lines → IsOwed given lines (rebuilds server.0) → FitGiven given (lines ++ OfRebuild server end ∷ [])

-- a line of an event
abbrev pub AddsEvent : Type 0
AddsEvent = (given : Given) (lines : List Outcome) (event : Told) (answer : EventAnswer) → FitGiven given lines → IsOwed given lines (subject_of_told event) → FitGiven given (lines ++ OfEvent event answer ∷ [])
