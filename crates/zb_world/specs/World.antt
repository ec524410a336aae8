-- A world as one value, and when it is sound.
use Rattle.std.specs.Prelude.{◌≡◌, ℕ, ◌-◌, List, Option, Some, None, IsTrue}
use Rattle.zb_types.specs.declared.geometry.Geometry.{Geometry}
use Rattle.zb_types.specs.declared.lines.Kind.{Kind}
use Rattle.zb_types.specs.declared.lines.Kind.TheVariants.{Idle}
use Rattle.zb_types.specs.declared.lines.Outcome.{Outcome}
use Rattle.zb_types.specs.declared.nodes.Node.{Node}
use Rattle.zb_types.specs.declared.nodes.Node.TheVariants.{Server, Client, Manager, Cleaner, Mender}
use Rattle.zb_types.specs.Limits.{within}
use Rattle.zb_given.specs.Given.{Given}
use Rattle.zb_nodes.specs.Seen.{blocker_at, kind_at}
use Rattle.zb_nodes.specs.declared.answers.Halt.{Halt}
use Rattle.zb_course.specs.Seen.{SeenCourse}
use Rattle.zb_course.specs.Steps.{HasHalted, StepIs}
use Rattle.zb_course.specs.declared.step.Step.{Step}
use Rattle.zb_course.specs.declared.step.Step.TheVariants as step
use Rattle.zb_running.specs.Reports.{IsReported}

-- the sizes of the system, the course of its nodes, and the outside
pub record SeenWorld (O : Type 0) : Type 0 where
  pub geo : Geometry
  pub course : SeenCourse
  pub out : O

-- something was given to a world, and these lines are its report: they fit that, their history is legal, and they tell the tree that
-- its servers and tables stand for
pub record IsSound (geo : Geometry) (course : SeenCourse) : Type 0 where
  pub given : Given
  pub lines : List Outcome
  pub report : IsReported geo given lines course

-- a client is one of the system's; another node is any
abbrev pub IsActor : Geometry → Node → Type 0
IsActor geo (Server server) = Unit {0}
IsActor geo (Client client) = IsTrue (within 1 geo.clients client)
IsActor geo Manager = Unit {0}
IsActor geo Cleaner = Unit {0}
IsActor geo Mender = Unit {0}

-- the kind of an actor's next step: that of a client; no other has work so far
abbrev pub kind_for : SeenCourse → Node → Option Kind
kind_for course (Server server) = Some Idle
kind_for course (Client client) = kind_at course.nodes (client - 1)
kind_for course Manager = Some Idle
kind_for course Cleaner = Some Idle
kind_for course Mender = Some Idle

-- the other client that holds the file manager, if the actor's next step waits for it
abbrev pub blocker_for : SeenCourse → Node → Option ℕ
blocker_for course (Server server) = None
blocker_for course (Client client) = blocker_at course.nodes (client - 1)
blocker_for course Manager = None
blocker_for course Cleaner = None
blocker_for course Mender = None

-- what a step of an actor came to: one of a client; of another it is idle, and nothing changes
abbrev pub ActsSo : SeenCourse → SeenCourse → Node → Step → Type 0
ActsSo old new (Server server) did = (new ≡ old) × (did ≡ step.Idle)
ActsSo old new (Client client) did = StepIs old new client did
ActsSo old new Manager did = (new ≡ old) × (did ≡ step.Idle)
ActsSo old new Cleaner did = (new ≡ old) × (did ≡ step.Idle)
ActsSo old new Mender did = (new ≡ old) × (did ≡ step.Idle)

-- why it halts: no other than a client does
abbrev pub HaltsSo : SeenCourse → SeenCourse → Node → Halt → Type 0
HaltsSo old new (Server server) why = ⊥
HaltsSo old new (Client client) why = HasHalted old new client why
HaltsSo old new Manager why = ⊥
HaltsSo old new Cleaner why = ⊥
HaltsSo old new Mender why = ⊥
