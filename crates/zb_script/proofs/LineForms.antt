-- Where the words of a line spell no line of its form.
use Rattle.std.proofs.Common.{◌≡◌, ℕ, false, List, ◌∷◌, ◌++◌, Option, Some, None, codes, refl, sym, ap, ◌∙◌, arith}
use Rattle.std.specs.Fmt.{decimal}
use Rattle.std.proofs.lemmas.List.{append_cancel_left}
use Rattle.zb_types.specs.declared.geometry.Geometry.{Geometry}
use Rattle.zb_types.specs.declared.nodes.Node.{Node}
use Rattle.zb_types.specs.declared.nodes.Event.TheVariants.{Arm, Checkpoint}
use Rattle.zb_types.specs.declared.lines.Job.TheVariants.{Clean}
use Rattle.zb_types.specs.declared.lines.Line.{Line}
use Rattle.zb_types.specs.declared.lines.Line.TheVariants.{Call as CallLine, Job as JobLine, Steps, StepTo, Event as EventLine}
use Rattle.zb_claims.specs.Reading.{Reads}
use Rattle.zb_claims.specs.Text.{node_text, kind_text, is_actor, max_step}
use Rattle.zb_script.specs.Spaces.{is_word, Splits, behind_text}
use Rattle.zb_script.specs.Numbers.{IsUpTo}
use Rattle.zb_script.specs.Nodes.{IsActor, IsDisk, IsKind}
use Rattle.zb_script.specs.Lines.{after_head, IsLineOf, IsStepOf, after_actor}
use Rattle.zb_script.specs.declared.head.Head.TheVariants as heads
use Rattle.zb_script.proofs.Splitting.{SameSplit, split_same, unsplit}
use Rattle.zb_script.proofs.Decimals.{is_word-decimal, up_to_number}
use Rattle.zb_script.proofs.Names.{same_named, is_word-node, named_actor, named_disk}

-- Steps.

pub no_kind : {what kind : List ℕ} (actor : Node) → behind_text (codes "to ") kind ≡ what → Reads IsKind kind_text kind None → Reads (IsStepOf actor) after_actor what None
no_kind {kind = kind} actor e none (Steps node count) h same =
    unsplit (codes "to") kind (ap is_word (e ∙ sym same) ∙ is_word-decimal count (up_to_number max_step count (omega arith) h.0))
no_kind {kind = kind} actor e none (StepTo node other) h same = none other tt (append_cancel_left (codes "to ") (kind_text other) kind (same ∙ sym e))
no_kind actor e none (CallLine plus client call) h same = h
no_kind actor e none (JobLine plus job) h same = h
no_kind actor e none (EventLine event) h same = h

-- a line of steps is split behind its node
step_split : {rest name what : List ℕ} (geo : Geometry) → Splits rest name what → (node : Node) (x : List ℕ) → IsActor geo node → node_text node ++ 32 ∷ x ≡ rest → SameSplit name (node_text node) what x
step_split geo s node x h e = split_same s (node_text node) x (is_word-node node (named_actor geo node h)) e

pub no_step : {rest name what : List ℕ} (geo : Geometry) → Splits rest name what → Reads (IsActor geo) node_text name None → Reads (IsLineOf geo false heads.Step) after_head rest None
no_step geo s none (Steps node count) h e = none node h.0.0.0 (sym (step_split geo s node (decimal count) h.0.0.0 e).word)
no_step geo s none (StepTo node kind) h e = none node h.0.0 (sym (step_split geo s node (codes "to " ++ kind_text kind) h.0.0 e).word)
no_step geo s none (JobLine plus Clean) h e = absurd cc
no_step geo s none (EventLine Checkpoint) h e = absurd cc
no_step geo s none line h e = absurd cc

-- the node of the line is the one that was read
same_actor : (geo : Geometry) (actor node : Node) {name : List ℕ} → IsActor geo actor → node_text actor ≡ name → IsActor geo node → name ≡ node_text node → node ≡ actor
same_actor geo actor node p e h w = same_named node actor (named_actor geo node h) (named_actor geo actor p) (sym w ∙ sym e)

no_steps : {rest name what : List ℕ} (geo : Geometry) (actor : Node) → Splits rest name what → IsActor geo actor → node_text actor ≡ name → Reads (IsStepOf actor) after_actor what None → Reads (IsLineOf geo false heads.Step) after_head rest None
no_steps geo actor s p e none (Steps node count) h same =
    let parts = step_split geo s node (decimal count) h.0.0.0 same in
    none (Steps node count) (h.0.0.1, same_actor geo actor node p e h.0.0.0 parts.word) (sym parts.rest)
no_steps geo actor s p e none (StepTo node kind) h same =
    let parts = step_split geo s node (codes "to " ++ kind_text kind) h.0.0 same in
    none (StepTo node kind) (same_actor geo actor node p e h.0.0 parts.word) (sym parts.rest)
no_steps geo actor s p e none (JobLine plus Clean) h same = absurd cc
no_steps geo actor s p e none (EventLine Checkpoint) h same = absurd cc
no_steps geo actor s p e none line h same = absurd cc

pub step_found : {rest name what : List ℕ} (geo : Geometry) (actor : Node) → Splits rest name what → IsActor geo actor → node_text actor ≡ name → (found : Option Line) → Reads (IsStepOf actor) after_actor what found → Reads (IsLineOf geo false heads.Step) after_head rest found
step_found {name = name} geo actor s p e (Some (Steps node count)) h =
    ((((ap (is_actor geo) h.0.1 ∙ p, h.0.0), refl), refl), ap (λ n. node_text n ++ 32 ∷ decimal count) h.0.1 ∙ ap (λ t. t ++ 32 ∷ decimal count) e ∙ ap (λ t. name ++ 32 ∷ t) h.1 ∙ s.whole)
step_found {name = name} geo actor s p e (Some (StepTo node kind)) h =
    (((ap (is_actor geo) h.0 ∙ p, refl), refl), ap (λ n. node_text n ++ 32 ∷ (codes "to " ++ kind_text kind)) h.0 ∙ ap (λ t. t ++ 32 ∷ (codes "to " ++ kind_text kind)) e ∙ ap (λ t. name ++ 32 ∷ t) h.1 ∙ s.whole)
step_found geo actor s p e (Some (CallLine plus client call)) h = absurd h.0
step_found geo actor s p e (Some (JobLine plus job)) h = absurd h.0
step_found geo actor s p e (Some (EventLine event)) h = absurd h.0
step_found geo actor s p e None none = λ line. no_steps geo actor s p e none line

-- Arms.

arm_split : {rest name count : List ℕ} (geo : Geometry) → Splits rest name count → (disk : Node) (n : ℕ) → IsDisk geo disk → node_text disk ++ 32 ∷ decimal n ≡ rest → SameSplit name (node_text disk) count (decimal n)
arm_split geo s disk n h e = split_same s (node_text disk) (decimal n) (is_word-node disk (named_disk geo disk h)) e

pub no_arm-1 : {rest name count : List ℕ} (geo : Geometry) → Splits rest name count → Reads (IsDisk geo) node_text name None → Reads (IsLineOf geo false heads.Arm) after_head rest None
no_arm-1 geo s none (EventLine (Arm disk n)) h e = none disk h.0.0.0 (sym (arm_split geo s disk n h.0.0.0 e).word)
no_arm-1 geo s none (JobLine plus Clean) h e = absurd cc
no_arm-1 geo s none line h e = absurd cc

pub no_arm-2 : {rest name count : List ℕ} (geo : Geometry) → Splits rest name count → Reads (IsUpTo max_step) decimal count None → Reads (IsLineOf geo false heads.Arm) after_head rest None
no_arm-2 geo s none (EventLine (Arm disk n)) h e = none n h.0.0.1 (sym (arm_split geo s disk n h.0.0.0 e).rest)
no_arm-2 geo s none (JobLine plus Clean) h e = absurd cc
no_arm-2 geo s none line h e = absurd cc
