use Rattle.std.proofs.Common.{◌∙◌, sym, subst, ap, []}
use Rattle.zb_batch.specs.Batches.{IsSpellable}
use Rattle.zb_batch.specs.Spelling.{meta_length}
use Rattle.zb_basis.specs.Looking.{room_of}
use Rattle.zb_forming.specs.declared.draft.Drafts.{Drafts}
use Rattle.zb_forming.specs.Ops.{batch_made}
use Rattle.zb_forming.proofs.Joining.{can-be_spelled}
use Rattle.zb_forming.proofs.Spelled.{same-shape}
use Rattle.zb_forming.proofs.forming.meta_of.Goals as goal

pub returns-in_err-batch_of-clause-spelled : goal.returns-in_err-batch_of-clause-spelled
returns-in_err-batch_of-clause-spelled c =
    λ ptrs. subst (λ (s : Drafts). IsSpellable (batch_made c.args.to.log c.args.to.number ptrs c.args.calls.now s.drafts)) (sym c.requires.drafts)
    (can-be_spelled c.args.to.geo.block (room_of c.args.to.geo.servers c.args.to.geo.fragment) c.args.calls.now c.args.basis.now c.requires.given c.args.to.log c.args.to.number ptrs c.know_all_paths.ensures c.batches_have_their_length.ensures.ops)

pub meta_len-requires : goal.meta_len-requires
meta_len-requires c =
    subst IsSpellable (sym c.in_ok-batch_of.ensures)
    (subst (λ (s : Drafts). IsSpellable (batch_made c.args.to.log c.args.to.number [] c.args.calls.now s.drafts)) (sym c.requires.drafts)
    (can-be_spelled c.args.to.geo.block (room_of c.args.to.geo.servers c.args.to.geo.fragment) c.args.calls.now c.args.basis.now c.requires.given c.args.to.log c.args.to.number [] c.know_all_paths.ensures c.batches_have_their_length.ensures.ops))

pub returns-clause-length : goal.returns-clause-length
returns-clause-length c =
    λ ptrs. c.meta_len.ensures ∙ ap meta_length c.in_ok-batch_of.ensures
    ∙ c.batches_have_their_length.ensures.shape (batch_made c.args.to.log c.args.to.number [] c.args.calls.now c.args.s.now.drafts) (batch_made c.args.to.log c.args.to.number ptrs c.args.calls.now c.args.s.now.drafts)
    (same-shape [] ptrs c.args.calls.now c.args.s.now.drafts)

pub returns-clause-spelled : goal.returns-clause-spelled
returns-clause-spelled c =
    λ ptrs. subst (λ (s : Drafts). IsSpellable (batch_made c.args.to.log c.args.to.number ptrs c.args.calls.now s.drafts)) (sym c.requires.drafts)
    (can-be_spelled c.args.to.geo.block (room_of c.args.to.geo.servers c.args.to.geo.fragment) c.args.calls.now c.args.basis.now c.requires.given c.args.to.log c.args.to.number ptrs c.know_all_paths.ensures c.batches_have_their_length.ensures.ops)
