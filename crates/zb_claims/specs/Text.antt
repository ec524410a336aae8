-- The text of a script's lines and of a report's lines, one text for each.
use Rattle.std.specs.Prelude.{ℕ, ◌+◌, ◌/◌, ◌%◌, ◌^◌, ◌<◌, ◌≤◌, Bool, true, false, not, List, [], ◌∷◌, ◌++◌, length, codes, ◌==◌, ◌&&◌, ◌||◌, nat_le, nat_lt, if◌then◌else◌, Some, None, IsTrue}
use Rattle.std.specs.List.{flat_map, AllByRecursion}
use Rattle.std.specs.Fmt.{decimal}
use Rattle.zb_types.specs.declared.calls.Call.{Call}
use Rattle.zb_types.specs.declared.calls.Call.TheVariants.{Create, Mkdir, Remove, Rename, Write, Truncate, Sync, Read, List as ListOf, Stat, Find}
use Rattle.zb_types.specs.declared.calls.Reply.{Reply}
use Rattle.zb_types.specs.declared.calls.Reply.TheVariants.{Done, Made, Bytes, Names, Dir, File, Refused}
use Rattle.zb_types.specs.declared.calls.Refusal.{Refusal}
use Rattle.zb_types.specs.declared.calls.Refusal.TheVariants.{NoEntry, NotDir, IsDir, Exists, Inside, NotEmpty, Gone, TooBig, Full}
use Rattle.zb_types.specs.declared.ids.ServerId.{ServerId}
use Rattle.zb_types.specs.declared.geometry.Geometry.{Geometry}
use Rattle.zb_types.specs.declared.nodes.Cause.{Cause}
use Rattle.zb_types.specs.declared.nodes.Cause.TheVariants.{Unreachable, Down, NoSpace}
use Rattle.zb_types.specs.declared.nodes.Node.{Node}
use Rattle.zb_types.specs.declared.nodes.Node.TheVariants.{Server, Client, Manager, Cleaner, Mender}
use Rattle.zb_types.specs.declared.nodes.Event.TheVariants.{Crash as CrashOf, Arm as ArmOf, Up as UpOf, Lose as LoseOf, Checkpoint as CheckpointOf}
use Rattle.zb_types.specs.declared.nodes.EventAnswer.{EventAnswer}
use Rattle.zb_types.specs.declared.nodes.EventAnswer.TheVariants.{Done as EventDone, Down as IsDown, ManagerDown, Up as IsUp, Blank, Out, Another, Unreachable as CantReach, Stopped}
use Rattle.zb_types.specs.declared.lines.Kind.{Kind}
use Rattle.zb_types.specs.declared.lines.Kind.TheVariants.{Idle, Call as CallKind, Lookup, Fetch, Store, Mark, Commit, Pick, Retire, Sweep, Delete, Begin, Fence, Wipe, Finish}
use Rattle.zb_types.specs.declared.lines.Job.TheVariants.{Clean, Rebuild}
use Rattle.zb_types.specs.declared.lines.Line.{Line}
use Rattle.zb_types.specs.declared.lines.Line.TheVariants.{Call as CallLine, Job as JobLine, Steps, StepTo, Event as EventLine}
use Rattle.zb_types.specs.declared.lines.Said.{Said}
use Rattle.zb_types.specs.declared.lines.Said.TheVariants.{Reply as Replied, Buffered, Kept, Failed, Dropped, Unfinished}
use Rattle.zb_types.specs.declared.lines.Ended.{Ended}
use Rattle.zb_types.specs.declared.lines.Ended.TheVariants.{Retired, Needed, Mending}
use Rattle.zb_types.specs.declared.lines.Pass.{Pass}
use Rattle.zb_types.specs.declared.lines.Pass.TheVariants.{Nothing, Done as PassDone, Failed as PassFailed, Dropped as PassDropped}
use Rattle.zb_types.specs.declared.lines.Mended.{Mended}
use Rattle.zb_types.specs.declared.lines.Mended.TheVariants.{Copied, Another as RefusedFor, Failed as MendFailed, Server as FailedServer, Dropped as MendDropped}
use Rattle.zb_types.specs.declared.lines.Told.{Told}
use Rattle.zb_types.specs.declared.lines.Told.TheVariants.{Crash, Arm, Up, Lose, Checkpoint}
use Rattle.zb_types.specs.declared.lines.Outcome.{Outcome}
use Rattle.zb_types.specs.declared.lines.Outcome.TheVariants.{Call as OfCall, Clean as OfClean, Rebuild as OfRebuild, Event as OfEvent}
use Rattle.zb_types.specs.Limits.{within}
use Rattle.zb_types.specs.Paths.{is_path, is_name}
use Rattle.zb_types.specs.declared.tables.Listed.{Listed}
use Rattle.zb_types.specs.declared.tables.Listed.TheVariants.{Dir as ListedDir, File as ListedFile}
use Rattle.zb_types.specs.declared.tables.TreeEntry.{TreeEntry}
use Rattle.zb_types.specs.Tree.{Tree, listing}
use Rattle.zb_claims.specs.Points.{same_node}

-- the end of a line
abbrev pub newline : List ℕ
newline = 10 ∷ []

-- a digit of base 16, in small letters
abbrev pub hex_digit : ℕ → ℕ
hex_digit d = if nat_lt d 10 then d + 48 else d + 87

-- a printable byte stands for itself, but for a quote and a backslash; any other is `\x` with two digits
abbrev pub byte_text : ℕ → List ℕ
byte_text b = if nat_le 32 b && nat_le b 126 && not (b == 34 || b == 92) then b ∷ [] else 92 ∷ 120 ∷ hex_digit (b / 16) ∷ hex_digit (b % 16) ∷ []

-- bytes between quotes
abbrev pub quoted : List ℕ → List ℕ
quoted bytes = 34 ∷ flat_map byte_text bytes ++ 34 ∷ []

-- a space, and a number
abbrev pub num : ℕ → List ℕ
num n = 32 ∷ decimal n

-- a node by its letters and its number
abbrev pub node_text : Node → List ℕ
node_text (Server i) = codes "s" ++ decimal i
node_text (Client i) = codes "c" ++ decimal i
node_text Manager = codes "fm"
node_text Cleaner = codes "cl"
node_text Mender = codes "me"

-- a server's node
abbrev pub server_text : ServerId → List ℕ
server_text server = node_text (Server server.0)

-- The script.

-- a call, as a script has it
abbrev pub call_text : Call → List ℕ
call_text (Create path) = codes "create " ++ path
call_text (Mkdir path) = codes "mkdir " ++ path
call_text (Remove path) = codes "remove " ++ path
call_text (Rename path to) = codes "rename " ++ path ++ 32 ∷ to
call_text (Write fid offset bytes) = codes "write" ++ num fid.0 ++ num offset ++ 32 ∷ quoted bytes
call_text (Truncate fid size) = codes "truncate" ++ num fid.0 ++ num size
call_text Sync = codes "sync"
call_text (Read fid offset len) = codes "read" ++ num fid.0 ++ num offset ++ num len
call_text (ListOf None) = codes "list /"
call_text (ListOf (Some path)) = codes "list " ++ path
call_text (Stat path) = codes "stat " ++ path
call_text (Find path) = codes "open " ++ path

-- a kind of step
abbrev pub kind_text : Kind → List ℕ
kind_text Idle = codes "idle"
kind_text CallKind = codes "call"
kind_text Lookup = codes "lookup"
kind_text Fetch = codes "fetch"
kind_text Store = codes "store"
kind_text Mark = codes "mark"
kind_text Commit = codes "commit"
kind_text Pick = codes "pick"
kind_text Retire = codes "retire"
kind_text Sweep = codes "sweep"
kind_text Delete = codes "delete"
kind_text Begin = codes "begin"
kind_text Fence = codes "fence"
kind_text Wipe = codes "wipe"
kind_text Finish = codes "finish"

-- the plus of a line that is only put into a queue
abbrev pub plus_text : Bool → List ℕ
plus_text false = []
plus_text true = codes "+"

-- a line of a script without its end
abbrev pub words : Line → List ℕ
words (CallLine plus client call) = plus_text plus ++ node_text (Client client) ++ 32 ∷ call_text call
words (JobLine plus Clean) = plus_text plus ++ codes "clean"
words (JobLine plus (Rebuild server)) = plus_text plus ++ codes "rebuild " ++ server_text server
words (Steps actor count) = codes "step " ++ node_text actor ++ num count
words (StepTo actor kind) = codes "step " ++ node_text actor ++ codes " to " ++ kind_text kind
words (EventLine (CrashOf node)) = codes "crash " ++ node_text node
words (EventLine (ArmOf disk count)) = codes "arm " ++ node_text disk ++ num count
words (EventLine (UpOf node)) = codes "up " ++ node_text node
words (EventLine (LoseOf server)) = codes "lose " ++ server_text server
words (EventLine CheckpointOf) = codes "checkpoint"

-- a line of a script
abbrev pub spelled : Line → List ℕ
spelled line = words line ++ newline

-- the header with the five sizes
abbrev pub header_text : Geometry → List ℕ
header_text geo = codes "zebra 1 servers" ++ num geo.servers ++ codes " clients" ++ num geo.clients ++ codes " fragment" ++ num geo.fragment ++ codes " block" ++ num geo.block ++ codes " slots" ++ num geo.slots ++ newline

-- What a script may say.

-- the greatest number of a file, of a place and of a length
abbrev pub max_word : ℕ
max_word = 4294967295

-- the greatest count of steps, and of writes of an arm
abbrev pub max_step : ℕ
max_step = 1000000

-- the most bytes of a write or a read
abbrev pub max_part : ℕ
max_part = 4096

-- a node of the system
abbrev pub is_node : Geometry → Node → Bool
is_node geo (Server i) = within 1 geo.servers i
is_node geo (Client i) = within 1 geo.clients i
is_node geo Manager = true
is_node geo Cleaner = true
is_node geo Mender = true

-- a node that takes steps
abbrev pub is_actor : Geometry → Node → Bool
is_actor geo (Server i) = false
is_actor geo (Client i) = within 1 geo.clients i
is_actor geo Manager = false
is_actor geo Cleaner = true
is_actor geo Mender = true

-- a node that has a platter
abbrev pub is_disk : Geometry → Node → Bool
is_disk geo (Server i) = within 1 geo.servers i
is_disk geo (Client i) = false
is_disk geo Manager = true
is_disk geo Cleaner = false
is_disk geo Mender = false

-- each is a byte
abbrev pub AreBytes : List ℕ → Type 0
AreBytes bytes = AllByRecursion (λ b. b < 256) bytes

-- a call that a script may have
abbrev pub IsCall : Call → Type 0
IsCall (Create path) = IsTrue (is_path path)
IsCall (Mkdir path) = IsTrue (is_path path)
IsCall (Remove path) = IsTrue (is_path path)
IsCall (Rename path to) = IsTrue (is_path path) × IsTrue (is_path to)
IsCall (Write fid offset bytes) = (fid.0 ≤ max_word) × (offset ≤ max_word) × IsTrue (within 1 max_part (length bytes)) × AreBytes bytes
IsCall (Truncate fid size) = (fid.0 ≤ max_word) × (size ≤ max_word)
IsCall Sync = Unit {0}
IsCall (Read fid offset len) = (fid.0 ≤ max_word) × (offset ≤ max_word) × IsTrue (within 1 max_part len)
IsCall (ListOf None) = Unit {0}
IsCall (ListOf (Some path)) = IsTrue (is_path path)
IsCall (Stat path) = IsTrue (is_path path)
IsCall (Find path) = IsTrue (is_path path)

-- a line that a script may have
abbrev pub IsLine : Geometry → Line → Type 0
IsLine geo (CallLine plus client call) = IsTrue (within 1 geo.clients client) × IsCall call
IsLine geo (JobLine plus Clean) = Unit {0}
IsLine geo (JobLine plus (Rebuild server)) = IsTrue (within 1 geo.servers server.0)
IsLine geo (Steps actor count) = IsTrue (is_actor geo actor) × IsTrue (within 1 max_step count)
IsLine geo (StepTo actor kind) = IsTrue (is_actor geo actor)
IsLine geo (EventLine (CrashOf node)) = IsTrue (is_node geo node)
IsLine geo (EventLine (ArmOf disk count)) = IsTrue (is_disk geo disk) × IsTrue (within 1 max_step count)
IsLine geo (EventLine (UpOf node)) = IsTrue (is_node geo node)
IsLine geo (EventLine (LoseOf server)) = IsTrue (within 1 geo.servers server.0)
IsLine geo (EventLine CheckpointOf) = Unit {0}

-- The report.

-- why the tree refuses
abbrev pub refusal_text : Refusal → List ℕ
refusal_text NoEntry = codes "no entry"
refusal_text NotDir = codes "not a directory"
refusal_text IsDir = codes "is a directory"
refusal_text Exists = codes "exists"
refusal_text Inside = codes "inside"
refusal_text NotEmpty = codes "not empty"
refusal_text Gone = codes "gone"
refusal_text TooBig = codes "too big"
refusal_text Full = codes "full"

-- what a call is answered
abbrev pub reply_text : Reply → List ℕ
reply_text Done = codes "done"
reply_text (Made fid) = codes "fid" ++ num fid.0
reply_text (Bytes bytes) = codes "bytes " ++ quoted bytes
reply_text (Names names) = codes "names" ++ flat_map (λ name. 32 ∷ name) names
reply_text Dir = codes "dir"
reply_text (File fid size) = codes "file" ++ num fid.0 ++ num size
reply_text (Refused why) = refusal_text why

-- why something can't go on
abbrev pub cause_text : Cause → List ℕ
cause_text (Unreachable a b) = codes "unreachable " ++ server_text a ++ 32 ∷ server_text b
cause_text Down = codes "down"
cause_text (NoSpace server) = codes "no space " ++ server_text server

-- what a line says of a call
abbrev pub said_text : Said → List ℕ
said_text (Replied reply) = reply_text reply
said_text Buffered = codes "kept buffered"
said_text (Kept cause) = codes "kept " ++ cause_text cause
said_text (Failed cause) = codes "failed " ++ cause_text cause
said_text Dropped = codes "dropped"
said_text (Unfinished cause) = codes "unfinished " ++ cause_text cause

-- what became of the stripe of a pass
abbrev pub ended_text : Ended → List ℕ
ended_text Retired = codes "retired"
ended_text Needed = codes "needed"
ended_text Mending = codes "mending"

-- what a line says of a pass of the cleaner
abbrev pub pass_text : Pass → List ℕ
pass_text Nothing = codes "nothing"
pass_text (PassDone log stripe copied rejected end) = decimal log.0 ++ num stripe ++ codes " copied" ++ num copied ++ codes " rejected" ++ num rejected ++ 32 ∷ ended_text end
pass_text (PassFailed cause) = codes "failed " ++ cause_text cause
pass_text PassDropped = codes "dropped"

-- what a line says of the rebuild of this server
abbrev pub mended_text : ServerId → Mended → List ℕ
mended_text server (Copied count) = codes "copied" ++ num count
mended_text server (RefusedFor other) = codes "refused another " ++ server_text other
mended_text server (MendFailed cause) = codes "failed " ++ cause_text cause
mended_text server FailedServer = codes "failed server " ++ server_text server
mended_text server MendDropped = codes "dropped"

-- an event, as a report tells it
abbrev pub told_text : Told → List ℕ
told_text (Crash node) = codes "crash " ++ node_text node
told_text (Arm node) = codes "arm " ++ node_text node
told_text (Up node) = codes "up " ++ node_text node
told_text (Lose server) = codes "lose " ++ server_text server
told_text Checkpoint = codes "checkpoint"

-- what came of an event
abbrev pub answer_text : EventAnswer → List ℕ
answer_text EventDone = codes "done"
answer_text (IsDown node) = codes "refused down " ++ node_text node
answer_text ManagerDown = codes "refused manager down"
answer_text (IsUp node) = codes "refused up " ++ node_text node
answer_text (Blank server) = codes "refused blank " ++ server_text server
answer_text (Out server) = codes "refused out " ++ server_text server
answer_text (Another server) = codes "refused another " ++ server_text server
answer_text (CantReach a b) = codes "failed unreachable " ++ server_text a ++ 32 ∷ server_text b
answer_text (Stopped node) = codes "failed stopped " ++ node_text node

-- a line of the report without its end
abbrev pub outcome_text : Outcome → List ℕ
outcome_text (OfCall client n said) = node_text (Client client) ++ num n ++ 32 ∷ said_text said
outcome_text (OfClean pass) = codes "clean " ++ pass_text pass
outcome_text (OfRebuild server end) = codes "rebuild " ++ server_text server ++ 32 ∷ mended_text server end
outcome_text (OfEvent event answer) = told_text event ++ 32 ∷ answer_text answer

-- a line of the report
abbrev pub line_text : Outcome → List ℕ
line_text line = outcome_text line ++ newline

-- the lines of a report, one behind the other
abbrev pub report_text : List Outcome → List ℕ
report_text lines = flat_map line_text lines

-- a line of the tree
abbrev pub listed_text : List ℕ → Listed → List ℕ
listed_text path ListedDir = codes "dir " ++ path ++ newline
listed_text path (ListedFile fid size) = codes "file " ++ path ++ num fid.0 ++ num size ++ newline

-- the lines of the tree
abbrev pub list_text : List TreeEntry → List ℕ
list_text entries = flat_map (λ e. listed_text e.path e.listed) entries

-- the tree, one line for each path
abbrev pub tree_text : Tree → List ℕ
tree_text tree = list_text (listing tree)

-- What a line of a report may say: its numbers are in range, and an event has an answer of its own.

-- a server of the system
abbrev pub is_server : Geometry → ServerId → Bool
is_server geo server = within 1 geo.servers server.0

-- a cause that names servers of the system, the lesser number first
abbrev pub is_cause : Geometry → Cause → Bool
is_cause geo (Unreachable a b) = is_server geo a && is_server geo b && nat_lt a.0 b.0
is_cause geo Down = true
is_cause geo (NoSpace server) = is_server geo server

-- each is a name
abbrev pub AreNames : List (List ℕ) → Type 0
AreNames names = AllByRecursion (λ name. IsTrue (is_name name)) names

-- a reply that may be told
abbrev pub IsReply : Reply → Type 0
IsReply Done = Unit {0}
IsReply (Made fid) = fid.0 ≤ max_word
IsReply (Bytes bytes) = AreBytes bytes
IsReply (Names names) = AreNames names
IsReply Dir = Unit {0}
IsReply (File fid size) = (fid.0 ≤ max_word) × (size ≤ max_word)
IsReply (Refused why) = Unit {0}

-- where it is a reply, one that may be told
abbrev pub IsSaidReply : Said → Type 0
IsSaidReply (Replied reply) = IsReply reply
IsSaidReply said = Unit {0}

-- where the line has a reply, it may be told
abbrev pub HasReply : Outcome → Type 0
HasReply (OfCall client n said) = IsSaidReply said
HasReply line = Unit {0}

-- what a line may say of a call
abbrev pub IsSaid : Geometry → Said → Type 0
IsSaid geo (Replied reply) = IsReply reply
IsSaid geo Buffered = Unit {0}
IsSaid geo (Kept cause) = IsTrue (is_cause geo cause)
IsSaid geo (Failed cause) = IsTrue (is_cause geo cause)
IsSaid geo Dropped = Unit {0}
IsSaid geo (Unfinished cause) = IsTrue (is_cause geo cause)

-- what a line may say of the rebuild of this server
abbrev pub is_mended : Geometry → ServerId → Mended → Bool
is_mended geo server (Copied count) = nat_lt count (2 ^ 64)
is_mended geo server (RefusedFor other) = is_server geo other && not (other.0 == server.0)
is_mended geo server (MendFailed (Unreachable a b)) = is_cause geo (Unreachable a b) && (a.0 == server.0 || b.0 == server.0)
is_mended geo server (MendFailed Down) = true
is_mended geo server (MendFailed (NoSpace full)) = full.0 == server.0
is_mended geo server FailedServer = true
is_mended geo server MendDropped = true

-- what a line may say of a pass
abbrev pub is_pass : Geometry → Pass → Bool
is_pass geo Nothing = true
is_pass geo (PassDone log stripe copied rejected end) = nat_le log.0 max_word && nat_lt stripe (2 ^ 64) && nat_lt copied (2 ^ 64) && nat_lt rejected (2 ^ 64)
is_pass geo (PassFailed cause) = is_cause geo cause
is_pass geo PassDropped = true

-- whose `up` reads platter 0
abbrev pub is_client_or_cleaner : Node → Bool
is_client_or_cleaner (Server i) = false
is_client_or_cleaner (Client i) = true
is_client_or_cleaner Manager = false
is_client_or_cleaner Cleaner = true
is_client_or_cleaner Mender = false

-- what a crash or an arm of a node may be answered: that it was done, or that the node is down
abbrev pub is_answer_to_stop : Node → EventAnswer → Bool
is_answer_to_stop node EventDone = true
is_answer_to_stop node (IsDown x) = same_node node x
is_answer_to_stop node answer = false

-- what `up` of a node may be answered
abbrev pub is_answer_to_up : Geometry → Node → EventAnswer → Bool
is_answer_to_up geo node EventDone = true
is_answer_to_up geo node ManagerDown = is_client_or_cleaner node
is_answer_to_up geo node (IsUp x) = same_node node x
is_answer_to_up geo node (Blank server) = same_node node (Server server.0)
is_answer_to_up geo node (Out server) = same_node node (Server server.0)
is_answer_to_up geo node (CantReach a b) = same_node node Manager && is_cause geo (Unreachable a b)
is_answer_to_up geo node (Stopped x) = (same_node node x && is_disk geo x) || (is_client_or_cleaner node && same_node x Manager)
is_answer_to_up geo node answer = false

-- what the loss of a server's platter may be answered
abbrev pub is_answer_to_lose : Geometry → ServerId → EventAnswer → Bool
is_answer_to_lose geo server EventDone = true
is_answer_to_lose geo server ManagerDown = true
is_answer_to_lose geo server (Another other) = is_server geo other && not (other.0 == server.0)
is_answer_to_lose geo server (Stopped x) = same_node x (Server server.0)
is_answer_to_lose geo server answer = false

-- what `checkpoint` may be answered
abbrev pub is_answer_to_checkpoint : EventAnswer → Bool
is_answer_to_checkpoint EventDone = true
is_answer_to_checkpoint ManagerDown = true
is_answer_to_checkpoint (Stopped x) = same_node x Manager
is_answer_to_checkpoint answer = false

-- what each event may be answered
abbrev pub is_answer : Geometry → Told → EventAnswer → Bool
is_answer geo (Crash node) answer = is_answer_to_stop node answer
is_answer geo (Arm node) answer = is_answer_to_stop node answer
is_answer geo (Up node) answer = is_answer_to_up geo node answer
is_answer geo (Lose server) answer = is_answer_to_lose geo server answer
is_answer geo Checkpoint answer = is_answer_to_checkpoint answer

-- the nodes that an answer names are the geometry's
abbrev pub is_answer_named : Geometry → EventAnswer → Bool
is_answer_named geo EventDone = true
is_answer_named geo (IsDown node) = is_node geo node
is_answer_named geo ManagerDown = true
is_answer_named geo (IsUp node) = is_node geo node
is_answer_named geo (Blank server) = is_server geo server
is_answer_named geo (Out server) = is_server geo server
is_answer_named geo (Another server) = is_server geo server
is_answer_named geo (CantReach a b) = is_cause geo (Unreachable a b)
is_answer_named geo (Stopped node) = is_node geo node

-- an event of nodes of the system
abbrev pub is_told : Geometry → Told → Bool
is_told geo (Crash node) = is_node geo node
is_told geo (Arm node) = is_disk geo node
is_told geo (Up node) = is_node geo node
is_told geo (Lose server) = is_server geo server
is_told geo Checkpoint = true

-- a line that a report may have
abbrev pub IsOutcome : Geometry → Outcome → Type 0
IsOutcome geo (OfCall client n said) = IsTrue (within 1 geo.clients client) × (n < 2 ^ 64) × IsSaid geo said
IsOutcome geo (OfClean pass) = IsTrue (is_pass geo pass)
IsOutcome geo (OfRebuild server end) = IsTrue (is_server geo server && is_mended geo server end)
IsOutcome geo (OfEvent event answer) = IsTrue (is_told geo event && is_answer geo event answer && is_answer_named geo answer)

-- the most bytes of a script that are run
abbrev pub max_script : ℕ
max_script = 67108864
