-- When a line may stand in a report, behind the lines before it.
use Rattle.std.specs.Prelude.{◌≡◌, ℕ, zero, suc, ◌+◌, ◌-◌, ◌≤◌, ◌<◌, Bool, true, false, not, List, [], ◌∷◌, ◌++◌, length, Option, Some, None, ◌&&◌, ◌||◌, nat_le}
use Rattle.std.specs.List.{list_any}
use Rattle.zb_types.specs.declared.calls.Call.{Call}
use Rattle.zb_types.specs.declared.calls.Reply.{Reply}
use Rattle.zb_types.specs.declared.lines.Line.{Line}
use Rattle.zb_types.specs.declared.lines.Line.TheVariants.{Call as CallLine}
use Rattle.zb_types.specs.declared.lines.Said.{Said}
use Rattle.zb_types.specs.declared.lines.Said.TheVariants.{Reply as Replied, Buffered, Kept, Failed, Dropped, Unfinished}
use Rattle.zb_types.specs.declared.lines.Outcome.{Outcome}
use Rattle.zb_types.specs.declared.lines.Outcome.TheVariants.{Call as OfCall, Clean as OfClean, Rebuild as OfRebuild, Event as OfEvent}
use Rattle.zb_types.specs.Limits.{most_kept}
use Rattle.zb_types.specs.Apply.{is_update, is_bufferable, reply_to}
use Rattle.zb_claims.specs.Points.{Subject, calls, subject_of, told_of, asked, call_of, has_line, has_final, kept_now, is_of_client, is_begun, is_before_crash, tree_at}

-- an update was found
abbrev pub is_update_in : Option Call → Bool
is_update_in None = false
is_update_in (Some call) = is_update call

-- each update of this client below call n has its final line
abbrev pub are_ended : List Line → List Outcome → ℕ → ℕ → Bool
are_ended script before client zero = true
are_ended script before client (suc m) = (not (is_update_in (call_of script client m)) || has_final before client m) && are_ended script before client m

-- the call before it has a line, or there is none
abbrev pub is_next : List Outcome → ℕ → ℕ → Bool
is_next before client n = nat_le n 1 || has_line before client (n - 1)

-- at a point since the first line of the call before it, with this call eight or more were kept
pub record WasFull (before : List Outcome) (client n : ℕ) : Type 0 where
  pub front : List Outcome
  pub rest : List Outcome
  pub split : before ≡ front ++ rest
  pub next : is_next front client n ≡ true
  pub full : most_kept ≤ kept_now front client + 1

-- a first line that isn't `kept buffered` is that of a write or truncation only where too many were kept
abbrev pub MayNotBuffer : List Outcome → ℕ → ℕ → Call → Type 0
MayNotBuffer before client n call = has_line before client n ≡ false → is_bufferable call ≡ true → WasFull before client n

-- `kept buffered`: the first line of a write or truncation, with which few enough are kept
pub record BufferedFits (before : List Outcome) (client n : ℕ) (call : Call) : Type 0 where
  pub buffer : is_bufferable call ≡ true
  pub new : has_line before client n ≡ false
  pub few : kept_now before client + 1 < most_kept

-- `kept` for a cause: the first line of an update
pub record KeptFits (before : List Outcome) (client n : ℕ) (call : Call) : Type 0 where
  pub update : is_update call ≡ true
  pub new : has_line before client n ≡ false
  pub first : MayNotBuffer before client n call

-- When the lines of a script were begun, by the lines of the report that stood then. Under `threads` no order of the
-- script's lines is claimed.
pub record Clock : Type 0 where
  -- whether an order of the script's lines is claimed; and that a read without a plus is of the last state
  pub ordered : Bool
  pub at_once : Bool
  -- whether the line at this place was begun; whether all were
  pub begun : List Outcome → ℕ → Bool
  pub over : List Outcome → Bool

-- in a run of a script a line is begun where each line before it that has no plus has its line
abbrev pub clock_of_run : Bool → List Line → Clock
clock_of_run ordered script = record {
  ordered = ordered;
  at_once = ordered;
  begun = λ front place. not ordered || is_begun script front place;
  over = λ front. not ordered || is_begun script front (length script);
}

-- the tree at a point of the report gives the reply: after the script line was begun, and after the client's last line
pub record ReadFitsBy (clock : Clock) (script : List Line) (before : List Outcome) (client place : ℕ) (plus : Bool) (call : Call) (reply : Reply) : Type 0 where
  pub front : List Outcome
  pub rest : List Outcome
  pub split : before ≡ front ++ rest
  pub after_begin : clock.begun front place ≡ true
  pub after_own : list_any (is_of_client client) rest ≡ false
  pub at_once : clock.at_once ≡ true → plus ≡ false → rest ≡ []
  pub same : reply ≡ reply_to (tree_at script front) call

-- a reply: behind the client's earlier updates, of a call that no crash of the file manager came before, and that of the tree
pub record ReplyFitsBy (clock : Clock) (script : List Line) (before : List Outcome) (client n place : ℕ) (plus : Bool) (call : Call) (reply : Reply) : Type 0 where
  pub earlier : are_ended script before client n ≡ true
  pub manager : (not clock.ordered || is_before_crash script before place) ≡ true
  pub first : MayNotBuffer before client n call
  pub update : is_update call ≡ true → reply ≡ reply_to (tree_at script before) call
  pub read : is_update call ≡ false → ReadFitsBy clock script before client place plus call reply

-- `unfinished`: an update that is kept, behind the begin of all lines
pub record UnfinishedFitsBy (clock : Clock) (before : List Outcome) (client n : ℕ) (call : Call) : Type 0 where
  pub update : is_update call ≡ true
  pub all : clock.over before ≡ true
  pub kept : has_line before client n ≡ true

-- what a line says of call n of this client, whose line stands at this place of the script
abbrev pub SaidFitsBy : Clock → List Line → List Outcome → ℕ → ℕ → ℕ → Bool → Call → Said → Type 0
SaidFitsBy clock script before client n place plus call (Replied reply) = ReplyFitsBy clock script before client n place plus call reply
SaidFitsBy clock script before client n place plus call Buffered = BufferedFits before client n call
SaidFitsBy clock script before client n place plus call (Kept cause) = KeptFits before client n call
SaidFitsBy clock script before client n place plus call (Failed cause) = is_update call ≡ false
SaidFitsBy clock script before client n place plus call Dropped = Unit {0}
SaidFitsBy clock script before client n place plus call (Unfinished cause) = UnfinishedFitsBy clock before client n call

-- a line of call n of this client
pub record CallFitsBy (clock : Clock) (script : List Line) (before : List Outcome) (client n : ℕ) (said : Said) : Type 0 where
  pub place : ℕ
  pub plus : Bool
  pub call : Call
  pub is : asked script (calls client) n ≡ Some (place, CallLine plus client call)
  pub begun : clock.begun before place ≡ true
  pub unended : has_final before client n ≡ false
  pub next : is_next before client n ≡ true
  pub fits : SaidFitsBy clock script before client n place plus call said

-- a line of an event or a job: the next of its subject
pub record EventFitsBy (clock : Clock) (script : List Line) (before : List Outcome) (subject : Subject) : Type 0 where
  pub place : ℕ
  pub line : Line
  pub is : asked script subject (suc (told_of subject before)) ≡ Some (place, line)
  pub begun : clock.begun before place ≡ true

-- the next line of a report, behind these
abbrev pub FitsNextBy : Clock → List Line → List Outcome → Outcome → Type 0
FitsNextBy clock script before (OfCall client n said) = CallFitsBy clock script before client n said
FitsNextBy clock script before (OfClean pass) = EventFitsBy clock script before (subject_of (OfClean pass))
FitsNextBy clock script before (OfRebuild server end) = EventFitsBy clock script before (subject_of (OfRebuild server end))
FitsNextBy clock script before (OfEvent event answer) = EventFitsBy clock script before (subject_of (OfEvent event answer))

-- each of the lines fits those before it
abbrev pub FitsFromBy : Clock → List Line → List Outcome → List Outcome → Type 0
FitsFromBy clock script before [] = Unit {0}
FitsFromBy clock script before (line ∷ lines) = FitsNextBy clock script before line × FitsFromBy clock script (before ++ line ∷ []) lines

-- so from the first
abbrev pub FitsBy : Clock → List Line → List Outcome → Type 0
FitsBy clock script lines = FitsFromBy clock script [] lines

-- The same by the clock of a run.

-- ReadFitsBy in a run
abbrev pub ReadFits : Bool → List Line → List Outcome → ℕ → ℕ → Bool → Call → Reply → Type 0
ReadFits ordered script = ReadFitsBy (clock_of_run ordered script) script

-- ReplyFitsBy in a run
abbrev pub ReplyFits : Bool → List Line → List Outcome → ℕ → ℕ → ℕ → Bool → Call → Reply → Type 0
ReplyFits ordered script = ReplyFitsBy (clock_of_run ordered script) script

-- UnfinishedFitsBy in a run
abbrev pub UnfinishedFits : Bool → List Line → List Outcome → ℕ → ℕ → Call → Type 0
UnfinishedFits ordered script = UnfinishedFitsBy (clock_of_run ordered script)

-- SaidFitsBy in a run
abbrev pub SaidFits : Bool → List Line → List Outcome → ℕ → ℕ → ℕ → Bool → Call → Said → Type 0
SaidFits ordered script = SaidFitsBy (clock_of_run ordered script) script

-- CallFitsBy in a run
abbrev pub CallFits : Bool → List Line → List Outcome → ℕ → ℕ → Said → Type 0
CallFits ordered script = CallFitsBy (clock_of_run ordered script) script

-- EventFitsBy in a run
abbrev pub EventFits : Bool → List Line → List Outcome → Subject → Type 0
EventFits ordered script = EventFitsBy (clock_of_run ordered script) script

-- FitsNextBy in a run
abbrev pub FitsNext : Bool → List Line → List Outcome → Outcome → Type 0
FitsNext ordered script = FitsNextBy (clock_of_run ordered script) script

-- FitsFromBy in a run
abbrev pub FitsFrom : Bool → List Line → List Outcome → List Outcome → Type 0
FitsFrom ordered script = FitsFromBy (clock_of_run ordered script) script

-- each line of the report fits those before it
abbrev pub FitLines : Bool → List Line → List Outcome → Type 0
FitLines ordered script = FitsBy (clock_of_run ordered script) script
