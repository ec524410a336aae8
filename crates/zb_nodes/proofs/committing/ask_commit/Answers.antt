use Rattle.std.proofs.Common.{◌≡◌, ℕ, None, sym, ap, ◌∙◌, subst}
use Rattle.std.proofs.lemmas.Result.{IfOk-weaker, err_from_is_err_and}
use Rattle.zb_turns.specs.Turns.{other_holder}
use Rattle.zb_nodes.proofs.Commits.{behind_does, behind_refuses, commit_answers, commit_may_ask, unblocked_why}
use Rattle.zb_nodes.proofs.committing.ask_commit.Goals as goal

pub commit-requires : goal.commit-requires
commit-requires c = commit_may_ask c.args.manager.now c.requires.may.0 c.args.client.now c.requires.may.1 c.args.batch.now c.args.pieces.now c.args.generation c.requires.at

pub hear-requires-clause-answers : goal.hear-requires-clause-answers
hear-requires-clause-answers c =
    commit_answers c.args.manager.now c.requires.may.0 c.args.client.now c.requires.may.1 c.args.batch.now c.args.pieces.now c.args.generation c.requires.at
    c.commit.new.manager c.in-Ok.replies c.in-Ok.ensures.refused c.in-Ok.ensures.committed

pub returns-in_ok-fault-in-Err-clause-told : goal.returns-in_ok-fault-in-Err-clause-told
returns-in_ok-fault-in-Err-clause-told c =
    let m = c.args.manager.now in
    let free = unblocked_why c.in-Err.why (other_holder c.args.number m.holder) c.in-Err.ensures.blocked c.requires.unblocked in
    let refuses = behind_refuses _ c.in-Err.why c.in_ok-fault-in-Err.fault c.in-Err.ensures.refused free c.in_ok-fault-in-Err.ensures in
    IfOk-weaker c.hear-in-Err.result _ _
    (λ told hears. behind_does m c.requires.may.0 c.args.client.now c.requires.may.1 c.args.batch.now c.args.pieces.now c.args.generation c.requires.at
    c.in_ok-fault-in-Err.fault refuses.0 refuses.1 c.commit.new.manager (record { client = c.hear-in-Err.new.client; told = told }) c.in-Err.ensures.err hears
    (subst (λ (n : ℕ). other_holder n m.holder ≡ None) (sym c.requires.number) c.requires.unblocked)) c.hear-in-Err.ensures.ok
