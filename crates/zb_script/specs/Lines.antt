-- A line's plus, its first word, and what stands behind them.
use Rattle.std.specs.Prelude.{◌≡◌, ℕ, Bool, false, ◌==◌, List, [], ◌∷◌, ◌++◌, Option, Some, None, codes, IsTrue}
use Rattle.std.specs.Fmt.{decimal}
use Rattle.zb_types.specs.declared.geometry.Geometry.{Geometry}
use Rattle.zb_types.specs.declared.nodes.Node.{Node}
use Rattle.zb_types.specs.declared.nodes.Node.TheVariants.{Client}
use Rattle.zb_types.specs.declared.nodes.Event.TheVariants.{Crash, Arm, Up, Lose, Checkpoint}
use Rattle.zb_types.specs.declared.lines.Job.TheVariants.{Clean, Rebuild}
use Rattle.zb_types.specs.declared.lines.Line.{Line}
use Rattle.zb_types.specs.declared.lines.Line.TheVariants.{Call as CallLine, Job as JobLine, Steps, StepTo, Event as EventLine}
use Rattle.zb_types.specs.Limits.{within}
use Rattle.zb_claims.specs.Text.{call_text, node_text, server_text, kind_text, max_step, IsLine, words}
use Rattle.zb_script.specs.Nodes.{IsByte}
use Rattle.zb_script.specs.declared.head.Head.{Head}
use Rattle.zb_script.specs.declared.head.Head.TheVariants as heads

-- whether a plus stands first
abbrev pub begins_with_plus : List ℕ → Bool
begins_with_plus [] = false
begins_with_plus (b ∷ bytes) = b == 43

-- whether a line has a plus
abbrev pub plus_of : Line → Bool
plus_of (CallLine plus client call) = plus
plus_of (JobLine plus job) = plus
plus_of (Steps actor count) = false
plus_of (StepTo actor kind) = false
plus_of (EventLine event) = false

-- what stands behind the plus
abbrev pub body_text : Line → List ℕ
body_text (CallLine plus client call) = words (CallLine false client call)
body_text (JobLine plus job) = words (JobLine false job)
body_text (Steps actor count) = words (Steps actor count)
body_text (StepTo actor kind) = words (StepTo actor kind)
body_text (EventLine event) = words (EventLine event)

-- a valid line with a plus, or without
abbrev pub IsLineWith : Geometry → Bool → Line → Type 0
IsLineWith geo plus line = IsLine geo line × (plus_of line ≡ plus)

-- the number of a client's first word is a byte
abbrev pub IsHead : Head → Type 0
IsHead (heads.Client i) = IsByte i
IsHead heads.Rebuild = Unit {0}
IsHead heads.Step = Unit {0}
IsHead heads.Crash = Unit {0}
IsHead heads.Arm = Unit {0}
IsHead heads.Up = Unit {0}
IsHead heads.Lose = Unit {0}

-- the first word in letters
abbrev pub head_text : Head → List ℕ
head_text (heads.Client i) = node_text (Client i)
head_text heads.Rebuild = codes "rebuild"
head_text heads.Step = codes "step"
head_text heads.Crash = codes "crash"
head_text heads.Arm = codes "arm"
head_text heads.Up = codes "up"
head_text heads.Lose = codes "lose"

-- the first word of a line that has more
abbrev pub head_of : Line → Option Head
head_of (CallLine plus client call) = Some (heads.Client client)
head_of (JobLine plus Clean) = None
head_of (JobLine plus (Rebuild server)) = Some heads.Rebuild
head_of (Steps actor count) = Some heads.Step
head_of (StepTo actor kind) = Some heads.Step
head_of (EventLine (Crash node)) = Some heads.Crash
head_of (EventLine (Arm disk count)) = Some heads.Arm
head_of (EventLine (Up node)) = Some heads.Up
head_of (EventLine (Lose server)) = Some heads.Lose
head_of (EventLine Checkpoint) = None

-- what stands behind the first word's space
abbrev pub after_head : Line → List ℕ
after_head (CallLine plus client call) = call_text call
after_head (JobLine plus Clean) = []
after_head (JobLine plus (Rebuild server)) = server_text server
after_head (Steps actor count) = node_text actor ++ 32 ∷ decimal count
after_head (StepTo actor kind) = node_text actor ++ 32 ∷ (codes "to " ++ kind_text kind)
after_head (EventLine (Crash node)) = node_text node
after_head (EventLine (Arm disk count)) = node_text disk ++ 32 ∷ decimal count
after_head (EventLine (Up node)) = node_text node
after_head (EventLine (Lose server)) = server_text server
after_head (EventLine Checkpoint) = []

-- a valid line with this plus and this first word
abbrev pub IsLineOf : Geometry → Bool → Head → Line → Type 0
IsLineOf geo plus head line = IsLineWith geo plus line × (head_of line ≡ Some head)

-- a line of one word with this plus
abbrev pub IsLone : Bool → Line → Type 0
IsLone plus line = (plus_of line ≡ plus) × (head_of line ≡ None)

-- a valid line of steps of this node
abbrev pub IsStepOf : Node → Line → Type 0
IsStepOf actor (CallLine plus client call) = ⊥
IsStepOf actor (JobLine plus job) = ⊥
IsStepOf actor (Steps node count) = IsTrue (within 1 max_step count) × (node ≡ actor)
IsStepOf actor (StepTo node kind) = node ≡ actor
IsStepOf actor (EventLine event) = ⊥

-- what stands behind the node of a line of steps
abbrev pub after_actor : Line → List ℕ
after_actor (CallLine plus client call) = []
after_actor (JobLine plus job) = []
after_actor (Steps actor count) = decimal count
after_actor (StepTo actor kind) = codes "to " ++ kind_text kind
after_actor (EventLine event) = []
