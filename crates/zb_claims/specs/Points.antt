-- What a line of a report answers, and what stands at a point of a report.
use Rattle.std.specs.Prelude.{ℕ, suc, ◌-◌, Bool, true, false, not, List, [], ◌∷◌, ◌++◌, length, take, filter, Option, Some, None, ◌==◌, ◌&&◌, ◌||◌, nat_lt, nat_le, if◌then◌else◌}
use Rattle.std.specs.List.{list_any, flat_map}
use Rattle.zb_types.specs.declared.calls.Call.{Call}
use Rattle.zb_types.specs.declared.calls.Reply.{Reply}
use Rattle.zb_types.specs.declared.nodes.Node.{Node}
use Rattle.zb_types.specs.declared.nodes.Node.TheVariants.{Server, Client, Manager, Cleaner, Mender}
use Rattle.zb_types.specs.declared.nodes.Event.{Event}
use Rattle.zb_types.specs.declared.nodes.Event.TheVariants.{Crash as CrashOf, Arm as ArmOf, Up as UpOf, Lose as LoseOf, Checkpoint as CheckpointOf}
use Rattle.zb_types.specs.declared.nodes.EventAnswer.TheVariants.{Done as EventDone}
use Rattle.zb_types.specs.declared.lines.Job.TheVariants.{Clean, Rebuild}
use Rattle.zb_types.specs.declared.lines.Line.{Line}
use Rattle.zb_types.specs.declared.lines.Line.TheVariants.{Call as CallLine, Job as JobLine, Steps, StepTo, Event as EventLine}
use Rattle.zb_types.specs.declared.lines.Said.{Said}
use Rattle.zb_types.specs.declared.lines.Said.TheVariants.{Reply as Replied, Buffered, Kept, Failed, Dropped, Unfinished}
use Rattle.zb_types.specs.declared.lines.Told.{Told}
use Rattle.zb_types.specs.declared.lines.Told.TheVariants.{Crash, Arm, Up, Lose, Checkpoint}
use Rattle.zb_types.specs.declared.lines.Outcome.{Outcome}
use Rattle.zb_types.specs.declared.lines.Outcome.TheVariants.{Call as OfCall, Clean as OfClean, Rebuild as OfRebuild, Event as OfEvent}
use Rattle.zb_types.specs.Tree.{Tree}
use Rattle.zb_types.specs.Apply.{is_update}
use Rattle.zb_types.specs.declared.history.Did.{Did}
use Rattle.zb_types.specs.History.{tree_after}

-- Subjects: lines of the report and of the script that belong together are counted by their subject.

-- whose calls, jobs or events
pub data Subject : Type 0 where
  calls : ℕ → Subject
  cleans : Subject
  rebuilds : ℕ → Subject
  crashes : Node → Subject
  arms : Node → Subject
  ups : Node → Subject
  loses : ℕ → Subject
  checkpoints : Subject

-- they are one node
abbrev pub same_node : Node → Node → Bool
same_node (Server a) (Server b) = a == b
same_node (Client a) (Client b) = a == b
same_node Manager Manager = true
same_node Cleaner Cleaner = true
same_node Mender Mender = true
same_node a b = false

-- they are one subject
abbrev pub same_subject : Subject → Subject → Bool
same_subject (calls a) (calls b) = a == b
same_subject cleans cleans = true
same_subject (rebuilds a) (rebuilds b) = a == b
same_subject (crashes a) (crashes b) = same_node a b
same_subject (arms a) (arms b) = same_node a b
same_subject (ups a) (ups b) = same_node a b
same_subject (loses a) (loses b) = a == b
same_subject checkpoints checkpoints = true
same_subject a b = false

-- an event's subject
abbrev pub subject_of_event : Event → Subject
subject_of_event (CrashOf node) = crashes node
subject_of_event (ArmOf node count) = arms node
subject_of_event (UpOf node) = ups node
subject_of_event (LoseOf server) = loses server.0
subject_of_event CheckpointOf = checkpoints

-- the subject of an event as a report tells it
abbrev pub subject_of_told : Told → Subject
subject_of_told (Crash node) = crashes node
subject_of_told (Arm node) = arms node
subject_of_told (Up node) = ups node
subject_of_told (Lose server) = loses server.0
subject_of_told Checkpoint = checkpoints

-- the subject of a line of the report
abbrev pub subject_of : Outcome → Subject
subject_of (OfCall client number said) = calls client
subject_of (OfClean pass) = cleans
subject_of (OfRebuild server end) = rebuilds server.0
subject_of (OfEvent event answer) = subject_of_told event

-- a line of a script has this subject
abbrev pub is_about : Subject → Line → Bool
is_about subject (CallLine plus client call) = same_subject subject (calls client)
is_about subject (JobLine plus Clean) = same_subject subject cleans
is_about subject (JobLine plus (Rebuild server)) = same_subject subject (rebuilds server.0)
is_about subject (Steps actor count) = false
is_about subject (StepTo actor kind) = false
is_about subject (EventLine event) = same_subject subject (subject_of_event event)

-- how many lines of a script have this subject
abbrev pub asked_of : Subject → List Line → ℕ
asked_of subject script = length (filter (is_about subject) script)

-- how many lines of a report have this subject
abbrev pub told_of : Subject → List Outcome → ℕ
told_of subject lines = length (filter (λ line. same_subject subject (subject_of line)) lines)

-- this one where it is the first that is asked for, else one of the later ones
abbrev pub or_later : ℕ → ℕ × Line → (ℕ → Option (ℕ × Line)) → Option (ℕ × Line)
or_later n here later = if n == 1 then Some here else later (n - 1)

-- the n-th of these lines with this subject, and its place, where the first of them stands at this place
abbrev pub asked_from : ℕ → Subject → ℕ → List Line → Option (ℕ × Line)
asked_from place subject n [] = None
asked_from place subject n (line ∷ lines) =
    if is_about subject line then or_later n (place, line) (λ m. asked_from (suc place) subject m lines) else asked_from (suc place) subject n lines

-- the n-th line of the script with this subject, and its place, from 0
abbrev pub asked : List Line → Subject → ℕ → Option (ℕ × Line)
asked script subject n = asked_from 0 subject n script

-- the call of a line that was found
abbrev pub call_in : Option (ℕ × Line) → Option Call
call_in None = None
call_in (Some (place, CallLine plus client call)) = Some call
call_in (Some (place, JobLine plus job)) = None
call_in (Some (place, Steps actor count)) = None
call_in (Some (place, StepTo actor kind)) = None
call_in (Some (place, EventLine event)) = None

-- call n of this client
abbrev pub call_of : List Line → ℕ → ℕ → Option Call
call_of script client n = call_in (asked script (calls client) n)

-- Lines of a call.

-- nothing comes of a call behind such a line
abbrev pub is_final : Said → Bool
is_final (Replied reply) = true
is_final Buffered = false
is_final (Kept cause) = false
is_final (Failed cause) = true
is_final Dropped = true
is_final (Unfinished cause) = true

-- it is a line of this call
abbrev pub names : ℕ → ℕ → Outcome → Bool
names client n (OfCall c m said) = client == c && n == m
names client n (OfClean pass) = false
names client n (OfRebuild server end) = false
names client n (OfEvent event answer) = false

-- it is the final line of this call
abbrev pub ends : ℕ → ℕ → Outcome → Bool
ends client n (OfCall c m said) = client == c && n == m && is_final said
ends client n (OfClean pass) = false
ends client n (OfRebuild server end) = false
ends client n (OfEvent event answer) = false

-- a line of a call of this client
abbrev pub is_of_client : ℕ → Outcome → Bool
is_of_client client line = same_subject (calls client) (subject_of line)

-- a line of this call stands
abbrev pub has_line : List Outcome → ℕ → ℕ → Bool
has_line lines client n = list_any (names client n) lines

-- the final line of this call stands
abbrev pub has_final : List Outcome → ℕ → ℕ → Bool
has_final lines client n = list_any (ends client n) lines

-- the calls of this client that have a `kept` line
abbrev pub kept_in : ℕ → Outcome → List ℕ
kept_in client (OfCall c n Buffered) = if client == c then n ∷ [] else []
kept_in client (OfCall c n (Kept cause)) = if client == c then n ∷ [] else []
kept_in client line = []

-- how many calls of this client have a `kept` line and no final line
abbrev pub kept_now : List Outcome → ℕ → ℕ
kept_now lines client = length (filter (λ n. not (has_final lines client n)) (flat_map (kept_in client) lines))

-- Begun: each earlier line of a call, a job or an event that has no plus has its line.

-- the first line of a client's n-th call stands, or the n-th line of another subject
abbrev pub has_told : List Outcome → Subject → ℕ → Bool
has_told lines (calls client) n = has_line lines client n
has_told lines subject n = nat_le n (told_of subject lines)

-- what a line of a script asks for; a step asks for no line
abbrev pub subject_asked : Line → Option Subject
subject_asked (CallLine plus client call) = Some (calls client)
subject_asked (JobLine plus Clean) = Some cleans
subject_asked (JobLine plus (Rebuild server)) = Some (rebuilds server.0)
subject_asked (Steps actor count) = None
subject_asked (StepTo actor kind) = None
subject_asked (EventLine event) = Some (subject_of_event event)

-- whether it is only put into a queue
abbrev pub has_plus : Line → Bool
has_plus (CallLine plus client call) = plus
has_plus (JobLine plus job) = plus
has_plus (Steps actor count) = false
has_plus (StepTo actor kind) = false
has_plus (EventLine event) = false

-- what it asks for before a later line is begun
abbrev pub subject_in : Line → Option Subject
subject_in line = if has_plus line then None else subject_asked line

-- what a line asks for is there, behind these earlier lines of the script
abbrev pub is_met : (Subject → ℕ → Bool) → List Line → Option Subject → Bool
is_met is_there earlier None = true
is_met is_there earlier (Some subject) = is_there subject (suc (asked_of subject earlier))

-- what each of these lines asks for is there
abbrev pub all_met : (Line → Option Subject) → (Subject → ℕ → Bool) → List Line → List Line → Bool
all_met asks is_there earlier [] = true
all_met asks is_there earlier (line ∷ script) = is_met is_there earlier (asks line) && all_met asks is_there (earlier ++ line ∷ []) script

-- each of these lines that has no plus has its line
abbrev pub all_answered : List Outcome → List Line → List Line → Bool
all_answered lines = all_met subject_in (has_told lines)

-- whether the script line at this place was begun when these lines stood
abbrev pub is_begun : List Line → List Outcome → ℕ → Bool
is_begun script lines place = all_answered lines [] (take place script)

-- The history that a report tells.

-- an update that is answered with this reply
abbrev pub did_if : ℕ → ℕ → Reply → Option Call → List Did
did_if client n reply None = []
did_if client n reply (Some call) = if is_update call then record { client = client; number = n; call = call; reply = reply } ∷ [] else []

-- the update that a line answers with a reply, if it does
abbrev pub did_of : List Line → Outcome → List Did
did_of script (OfCall client n (Replied reply)) = did_if client n reply (call_of script client n)
did_of script line = []

-- the updates that these lines answer with a reply, in the order of the report
abbrev pub dids : List Line → List Outcome → List Did
dids script lines = flat_map (did_of script) lines

-- the tree after the updates that these lines answer
abbrev pub tree_at : List Line → List Outcome → Tree
tree_at script lines = tree_after (dids script lines)

-- Events.

-- `causes` has come, and no mark since
abbrev pub stands_from : Bool → (Outcome → Bool) → (Outcome → Bool) → List Outcome → Bool
stands_from so causes marks [] = so
stands_from so causes marks (line ∷ lines) = stands_from (not (marks line) && (so || causes line)) causes marks lines

-- the last cause has come since the last mark
abbrev pub stands : (Outcome → Bool) → (Outcome → Bool) → List Outcome → Bool
stands causes marks lines = stands_from false causes marks lines

-- it is an event of this subject that was done
abbrev pub is_event : Subject → Outcome → Bool
is_event subject (OfEvent event EventDone) = same_subject subject (subject_of_told event)
is_event subject line = false

-- the file manager crashed in its n-th line of a crash, where it was up before
abbrev pub crash_at : ℕ → ℕ → Outcome → ℕ
crash_at n at line = if is_event (crashes Manager) line && at == 0 then n else at

-- which of its lines the first `crash fm done` is that no `up fm done` has followed, or 0: n came before these, and this one stands
abbrev pub crash_from : ℕ → ℕ → List Outcome → ℕ
crash_from n at [] = at
crash_from n at (line ∷ lines) =
    if is_event (ups Manager) line then crash_from n 0 lines else (
    if same_subject (crashes Manager) (subject_of line) then crash_from (suc n) (crash_at (suc n) at line) lines else crash_from n at lines)

-- the line at this place of the script stands before that of the crash by which the file manager is down, if it is
abbrev pub is_before_crash : List Line → List Outcome → ℕ → Bool
is_before_crash script lines place = crash_from 0 0 lines == 0 || nat_lt (asked_of (crashes Manager) (take place script)) (crash_from 0 0 lines)
