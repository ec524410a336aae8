-- What a commit replies, and which calls end with it.
use Rattle.std.proofs.Common.{◌≡◌, ℕ, ◌+◌, ◌≤◌, List, [], ◌∷◌, length, length-drop, drop, Some, sym, ap, ◌∙◌, subst, arith}
use Rattle.zb_types.specs.Tree.{Tree}
use Rattle.zb_types.specs.declared.calls.Reply.{Reply}
use Rattle.zb_types.specs.declared.lines.Outcome.{Outcome}
use Rattle.zb_given.specs.Given.{Given}
use Rattle.zb_batch.specs.declared.batch.Op.{Op}
use Rattle.zb_batch.specs.declared.batch.Op.TheVariants.{Name, Write, Cut, Sync, Clean}
use Rattle.zb_tables.specs.Fold.{shelf_of}
use Rattle.zb_tables.specs.Leaving.{IsOfUpdate}
use Rattle.zb_turns.specs.Turns.{IsReplied}
use Rattle.zb_turns.proofs.Replies.{all_replied}
use Rattle.zb_basis.proofs.Each.{each-weaker}
use Rattle.zb_basis.specs.declared.basis.Basis.{Basis}
use Rattle.zb_basis.specs.declared.basis.Sealed.{Sealed}
use Rattle.zb_basis.specs.declared.calls.Numbered.{Numbered}
use Rattle.zb_basis.specs.Runs.{run_of}
use Rattle.zb_work.specs.declared.work.Step.{Step}
use Rattle.zb_work.specs.declared.work.Step.TheVariants as step
use Rattle.zb_work.specs.declared.work.Task.{Task}
use Rattle.zb_work.specs.Fitting.{StepFits}
use Rattle.zb_work.specs.Steps.{step_of}
use Rattle.zb_client.specs.Seen.{SeenClient}
use Rattle.zb_client.specs.Telling.{Heard}
use Rattle.zb_client_laws.specs.Around.{Around}
use Rattle.zb_client_laws.specs.Known.{IsKnown}
use Rattle.zb_client_laws.specs.Sound.{ClientIsSound}
use Rattle.zb_client_laws.proofs.Delivered.{commit_sound, delivered}
use Rattle.zb_progress.proofs.Committing.{some-op}
use Rattle.zb_system.specs.Nodes.{IsClient, SeenNodes, readied}
use Rattle.zb_system.specs.Looking.{tree_for}
use Rattle.zb_system.specs.Sound.{AreSound}
use Rattle.zb_system.specs.Steps.{Commits}
use Rattle.zb_system.proofs.Quiet.{World, known_ready, sound_ready}

-- an update's operation has a reply
is_replied : (op : Op) → IsOfUpdate op → IsReplied op
is_replied (Name call what) update = tt
is_replied (Write call fid version offset len deltas) update = tt
is_replied (Cut call fid version size deltas) update = tt
is_replied (Sync call) update = tt
is_replied (Clean deltas) update = absurd update

-- a batch is of kept calls
some_kept : (kept : List Numbered) → 1 ≤ length (run_of kept) → 1 ≤ length kept
some_kept [] some = some
some_kept (call ∷ calls) some = omega arith

module _ {given : Given} {lines : List Outcome} {old : SeenNodes} (s : AreSound given lines old) (i : ℕ) (c : SeenClient) (is : IsClient old i c) (known : IsKnown c) (task : Task) (work : c.task ≡ Some task)
    (basis : Basis) (sealed : Sealed) (at : task.step ≡ step.Commit basis sealed) (new : SeenNodes) (heard : Heard) (done : Commits old new (readied c) sealed heard) where
  abbrev W : Around
  W = World s i c is

  abbrev Seen : Tree
  Seen = tree_for given lines (s.reads i)

  abbrev S : ClientIsSound W Seen (readied c)
  S = sound_ready s i c is

  step_is : step_of c.task ≡ step.Commit basis sealed
  step_is = ap step_of work ∙ at

  -- each operation has one reply
  pub replies_count : length done.replies ≡ length sealed.batch.ops
  replies_count =
      let leaves = commit_sound W Seen (readied c) S basis sealed step_is old.servers.slots s.stands (known_ready c known) done.right in
      let count = all_replied W.z.block sealed.batch.ops (shelf_of W.tables) done.committed.after (each-weaker IsOfUpdate IsReplied sealed.batch.ops is_replied leaves.3.updates) done.committed.done in
      ap (λ (rs : List Reply). length rs) done.committed.replies_are ∙ omega (arith, count)

  -- and at least one kept call ends
  pub calls_end : length (drop (length done.replies) c.kept) + 1 ≤ length c.kept
  calls_end =
      let d = delivered W Seen (readied c) S basis sealed step_is in
      let own : 1 ≤ length sealed.batch.ops = subst (λ (x : Sealed). 1 ≤ length x.batch.ops) (sym d.sealed_is) (some-op d.was.whole.sealed.batch.ops d.was.is.spelled.company) in
      let fits = (subst (λ (st : Step). StepFits c.servers c.fragment c.block c.log c.kept c.queue c.doubted st) step_is known.work).count in
      let some = some_kept c.kept (omega (arith, own, fits)) in
      let fewer = length-drop (length done.replies) c.kept in
      let count = replies_count in
      omega (arith, own, some, fewer, count)
