-- Subjects as values.
use Rattle.std.proofs.Common.{◌≡◌, true, Some, refl, sym, ap, ◌∙◌}
use Rattle.zb_types.specs.declared.nodes.Node.{Node}
use Rattle.zb_types.specs.declared.nodes.Node.TheVariants.{Server, Client, Manager, Cleaner, Mender}
use Rattle.zb_types.specs.declared.nodes.Event.TheVariants.{Crash as CrashOf, Arm as ArmOf, Up as UpOf, Lose as LoseOf, Checkpoint as CheckpointOf}
use Rattle.zb_types.specs.declared.lines.Line.{Line}
use Rattle.zb_types.specs.declared.lines.Line.TheVariants.{Call as CallLine, Job as JobLine, Steps, StepTo, Event as EventLine}
use Rattle.zb_types.specs.declared.lines.Job.TheVariants.{Clean, Rebuild}
use Rattle.zb_claims.specs.Points.{Subject, calls, cleans, rebuilds, crashes, arms, ups, loses, checkpoints, same_node, same_subject, is_about, subject_asked}
use Rattle.zb_laws.proofs.Tests.{equal, equals}

one_node : (a b : Node) → same_node a b ≡ true → a ≡ b
one_node (Server a) (Server b) h = ap Server (equal a b h)
one_node (Client a) (Client b) h = ap Client (equal a b h)
one_node Manager Manager h = refl
one_node Cleaner Cleaner h = refl
one_node Mender Mender h = refl
one_node a b h = absurd cc

node_itself : (a : Node) → same_node a a ≡ true
node_itself (Server a) = equals a
node_itself (Client a) = equals a
node_itself Manager = refl
node_itself Cleaner = refl
node_itself Mender = refl

subject_itself : (s : Subject) → same_subject s s ≡ true
subject_itself (calls a) = equals a
subject_itself cleans = refl
subject_itself (rebuilds a) = equals a
subject_itself (crashes node) = node_itself node
subject_itself (arms node) = node_itself node
subject_itself (ups node) = node_itself node
subject_itself (loses a) = equals a
subject_itself checkpoints = refl

-- what a line asks for is its subject
pub asks_about : (line : Line) (s : Subject) → subject_asked line ≡ Some s → is_about s line ≡ true
asks_about line s h = by_line line h
  where
    at : (t : Subject) → Some t ≡ Some s → same_subject s t ≡ true
    at t e = let same : t ≡ s = cc in ap (same_subject s) same ∙ subject_itself s

    by_line : (line : Line) → subject_asked line ≡ Some s → is_about s line ≡ true
    by_line (CallLine plus client call) e = at (calls client) e
    by_line (JobLine plus Clean) e = at cleans e
    by_line (JobLine plus (Rebuild server)) e = at (rebuilds server.0) e
    by_line (Steps actor count) e = absurd cc
    by_line (StepTo actor kind) e = absurd cc
    by_line (EventLine (CrashOf node)) e = at (crashes node) e
    by_line (EventLine (ArmOf node count)) e = at (arms node) e
    by_line (EventLine (UpOf node)) e = at (ups node) e
    by_line (EventLine (LoseOf server)) e = at (loses server.0) e
    by_line (EventLine CheckpointOf) e = at checkpoints e

pub one_subject : (s t : Subject) → same_subject s t ≡ true → s ≡ t
one_subject (calls a) (calls b) h = ap calls (equal a b h)
one_subject cleans cleans h = refl
one_subject (rebuilds a) (rebuilds b) h = ap rebuilds (equal a b h)
one_subject (crashes a) (crashes b) h = ap crashes (one_node a b h)
one_subject (arms a) (arms b) h = ap arms (one_node a b h)
one_subject (ups a) (ups b) h = ap ups (one_node a b h)
one_subject (loses a) (loses b) h = ap loses (equal a b h)
one_subject checkpoints checkpoints h = refl
one_subject s t h = absurd cc

pub about_asks : (line : Line) (s : Subject) → is_about s line ≡ true → subject_asked line ≡ Some s
about_asks (CallLine plus client call) s h = ap Some (sym (one_subject s (calls client) h))
about_asks (JobLine plus Clean) s h = ap Some (sym (one_subject s cleans h))
about_asks (JobLine plus (Rebuild server)) s h = ap Some (sym (one_subject s (rebuilds server.0) h))
about_asks (Steps actor count) s h = absurd cc
about_asks (StepTo actor kind) s h = absurd cc
about_asks (EventLine (CrashOf node)) s h = ap Some (sym (one_subject s (crashes node) h))
about_asks (EventLine (ArmOf node count)) s h = ap Some (sym (one_subject s (arms node) h))
about_asks (EventLine (UpOf node)) s h = ap Some (sym (one_subject s (ups node) h))
about_asks (EventLine (LoseOf server)) s h = ap Some (sym (one_subject s (loses server.0) h))
about_asks (EventLine CheckpointOf) s h = ap Some (sym (one_subject s checkpoints h))
