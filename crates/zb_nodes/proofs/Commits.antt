-- A client that commits its batch.
use Rattle.std.proofs.Common.{◌≡◌, ℕ, ◌+◌, false, List, [], ◌∷◌, length, Option, Some, None, Ok, Err, refl, sym, ap, ◌∙◌, subst, inl, inr, arith}
use Rattle.std.specs.List.{AllByRecursion}
use Rattle.zb_types.specs.declared.calls.Reply.{Reply}
use Rattle.zb_types.specs.declared.ids.Piece.{Piece}
use Rattle.zb_types.specs.declared.tables.CommitFault.{CommitFault}
use Rattle.zb_types.specs.declared.tables.CommitFault.TheVariants as fault
use Rattle.zb_batch.specs.declared.batch.Batch.{Batch}
use Rattle.zb_batch.specs.declared.batch.Op.{Op}
use Rattle.zb_batch.specs.declared.batch.Op.TheVariants.{Name, Write, Cut, Sync, Clean}
use Rattle.zb_tables.specs.Fold.{shelf_of}
use Rattle.zb_tables.specs.Leaving.{IsOfUpdate}
use Rattle.zb_tables.specs.Taking.{MayCommit, commit_refusal}
use Rattle.zb_manager.specs.Managers.{SameTables, SeenManager}
use Rattle.zb_servers.specs.Standing.{SeenServers}
use Rattle.zb_turns.specs.declared.committing.Uncommitted.{Uncommitted}
use Rattle.zb_turns.specs.declared.committing.Uncommitted.TheVariants as why
use Rattle.zb_turns.specs.Turns.{IsCommitted, IsReplied, TellsRefusal, commit_blocker, other_holder}
use Rattle.zb_turns.proofs.Replies.{all_replied}
use Rattle.zb_work.specs.declared.work.Step.{Step}
use Rattle.zb_work.specs.declared.work.Step.TheVariants as step
use Rattle.zb_work.specs.Steps.{step_of}
use Rattle.zb_client.specs.declared.steps.Answer.{Answer}
use Rattle.zb_client.specs.declared.steps.Answer.TheVariants as answer
use Rattle.zb_client.specs.declared.steps.Turn.TheVariants as turn
use Rattle.zb_client.specs.declared.steps.Wish.TheVariants as wish
use Rattle.zb_client.specs.Answering.{Answers, IsOutdated}
use Rattle.zb_client.specs.Hearing.{Hears}
use Rattle.zb_client.specs.Seen.{SeenClient}
use Rattle.zb_client.specs.Telling.{Heard}
use Rattle.zb_client.specs.Wishing.{wish_of}
use Rattle.zb_client_laws.specs.Around.{Around}
use Rattle.zb_client_laws.proofs.Delivered.{commit_sound, may_sealed}
use Rattle.zb_nodes.specs.declared.answers.Halt.{Halt}
use Rattle.zb_nodes.specs.declared.answers.Halt.TheVariants as halt
use Rattle.zb_nodes.specs.Among.{MayStep, met, nodes}
use Rattle.zb_nodes.specs.Halting.{CommitWears, HasHalted, OnWorn, behind_of, is_blocked}
use Rattle.zb_nodes.specs.Moving.{DoesNext}
use Rattle.zb_nodes.specs.Wished.{IsAtCommit}
use Rattle.zb_nodes.proofs.Rows.{answers_at, does_at, hears_at}
use Rattle.zb_nodes.proofs.Wishes.{wish_at}

-- operations of updates are replied
one_replied : (o : Op) → IsOfUpdate o → IsReplied o
one_replied (Name call what) is = tt
one_replied (Write call fid version offset len deltas) is = tt
one_replied (Cut call fid version size deltas) is = tt
one_replied (Sync call) is = tt
one_replied (Clean deltas) is = is

each_replied : (ops : List Op) → AllByRecursion IsOfUpdate ops → AllByRecursion IsReplied ops
each_replied [] all = tt
each_replied (o ∷ ops) all = (one_replied o all.0, each_replied ops all.1)

-- ---- what a turn tells that didn't commit

-- it wasn't blocked
pub unblocked_why : (reason : Uncommitted) (holder : Option ℕ) → commit_blocker {T = List Reply} (Err reason) ≡ holder → holder ≡ None → is_blocked reason ≡ false
unblocked_why (why.Blocked other) holder tells none = absurd (cc (tells ∙ none))
unblocked_why (why.Regen seen now) holder tells none = refl
unblocked_why (why.Stale fid seen now) holder tells none = refl
unblocked_why (why.Worn field) holder tells none = refl
unblocked_why why.NoMemory holder tells none = refl

-- what refused is what the batch is behind
pub behind_refuses : (refusal : Option CommitFault) (reason : Uncommitted) (behind : CommitFault) → TellsRefusal {T = List Reply} refusal (Err reason) → is_blocked reason ≡ false → Ok behind ≡ behind_of reason
    → (refusal ≡ Some behind) × IsOutdated behind
behind_refuses refusal (why.Blocked other) behind tells unblocked e = absurd (cc unblocked)
behind_refuses refusal (why.Regen seen now) behind tells unblocked e =
    let same : fault.Regen seen now ≡ behind = cc e in (tells ∙ ap Some same, subst IsOutdated same tt)
behind_refuses refusal (why.Stale fid seen now) behind tells unblocked e =
    let same : fault.Stale fid seen now ≡ behind = cc e in (tells ∙ ap Some same, subst IsOutdated same tt)
behind_refuses refusal (why.Worn field) behind tells unblocked e = absurd (cc e)
behind_refuses refusal why.NoMemory behind tells unblocked e = absurd (cc e)

module _ (m : SeenManager) (s : SeenServers) (c : SeenClient) (may : MayStep m s c) (batch : Batch) (pieces : List Piece) (generation : ℕ) (at : IsAtCommit c batch pieces generation) where
  abbrev W : Around
  W = met m s may.among.contents may.among.tree

  abbrev This : Step
  This = step.Commit at.basis at.sealed

  step_is : step_of c.task ≡ This
  step_is = ap step_of at.is ∙ at.at

  -- why the batch may be refused
  abbrev Refusal : Option CommitFault
  Refusal = commit_refusal m.sizes.block m.tables batch pieces generation

  abbrev SealedRefusal : Option CommitFault
  SealedRefusal = commit_refusal m.sizes.block m.tables at.sealed.batch at.sealed.placed.pieces at.sealed.members.generation

  same_refusal : Refusal ≡ SealedRefusal
  same_refusal = λ i. commit_refusal m.sizes.block m.tables (at.batch_is i) (at.pieces_are i) (at.generation_is i)

  -- the batch may be committed
  pub commit_may_ask : MayCommit m.sizes m.tables batch pieces
  commit_may_ask =
      subst (λ (b : Batch). MayCommit m.sizes m.tables b pieces) (sym at.batch_is)
      (subst (λ (ps : List Piece). MayCommit m.sizes m.tables at.sealed.batch ps) (sym at.pieces_are)
      (may_sealed W may.among.seen c may.among.sound at.basis at.sealed step_is s.slots may.among.stands may.known))

  -- ---- the batch is committed

  module _ (after : SeenManager) (replies : List Reply) (right : Refusal ≡ None) (committed : IsCommitted batch pieces m after replies) where
    abbrev Told : Answer
    Told = answer.Committed replies

    all_updates : AllByRecursion IsReplied at.sealed.batch.ops
    all_updates =
        let done = commit_sound W may.among.seen c may.among.sound at.basis at.sealed step_is s.slots may.among.stands may.known (sym same_refusal ∙ right) in
        each_replied at.sealed.batch.ops done.3.updates

    counted : length replies ≡ length at.sealed.batch.ops
    counted =
        let ops = ap (λ (b : Batch). b.ops) at.batch_is in
        let count = all_replied m.sizes.block batch.ops (shelf_of m.tables) committed.after (subst (AllByRecursion IsReplied) (sym ops) all_updates) committed.done in
        ap (length {A = Reply}) committed.replies_are ∙ omega (arith, count) ∙ ap (length {A = Op}) ops

    pub commit_answers : Answers c Told
    commit_answers = answers_at c at.task This at.is at.at Told counted

  -- ---- it is behind

  module _ (behind : CommitFault) (refused : Refusal ≡ Some behind) (outdated : IsOutdated behind) where
    abbrev Not : Answer
    Not = answer.NotCommitted behind

    pub behind_does : (after : SeenManager) (heard : Heard) → SameTables m after → Hears c Not heard → other_holder c.client m.holder ≡ None → (n : SeenServers) → DoesNext m n c after n heard
    behind_does after heard same hears unblocked n = λ clients others. does_at c at.task This at.is at.at (nodes clients m n) (nodes others after n) heard (record {
      unblocked = unblocked;
      servers = refl;
      turn = inr (record {
        fault = behind;
        refusal = sym same_refusal ∙ refused;
        outdated = outdated;
        heard_is = hears_at c at.task This at.is at.at Not heard hears;
        same = same;
      });
    })
    -- ---- it halts
