use Rattle.std.proofs.Common.{ℕ, ◌∙◌, sym, subst, ap, List, length, map}
use Rattle.zb_delta.specs.declared.delta.Body.{Body}
use Rattle.zb_batch.specs.Batches.{IsSpellable}
use Rattle.zb_batch.specs.Spelling.{meta_length}
use Rattle.zb_log.specs.Logs.{IsPlaced}
use Rattle.zb_basis.specs.Forming.{IsLaid}
use Rattle.zb_pass.specs.Moving.{clean_batch, moves, old_lengths}
use Rattle.zb_pass.specs.Forming.{drafted}
use Rattle.zb_pass.specs.Making.{IsMade}
use Rattle.zb_pass.proofs.Moved.{formed_is, laid_count, meta_is, placed_is, spelled_again}
use Rattle.zb_pass.proofs.forming.form_next.Goals as goal

pub sealed-requires-clause-spellable : goal.sealed-requires-clause-spellable
sealed-requires-clause-spellable c =
    let to = c.args.to.now in
    let live = c.args.copies.now.live in
    let placed = c.in-Ok-place_next.placed in
    let laid = subst (λ (bodies : List Body). IsLaid c.args.log.now c.in-Ok.meta (old_lengths bodies) placed) c.slice-live.ensures c.in-Ok-place_next.ensures.laid in
    let spelled = subst (λ (bodies : List Body). IsSpellable (drafted to.log to.number bodies)) c.slice-live.ensures c.in-Ok.ensures.spelled in
    subst IsSpellable (sym (c.in_ok-batch.ensures ∙ (λ i. clean_batch to.log to.number (moves (c.slice-live.ensures i) (c.slice.ensures i)))))
    (spelled_again c.batches_have_their_length.ensures.shape to.log to.number live placed.ptrs (laid_count c.args.log.now c.in-Ok.meta live placed laid) spelled)

pub sealed-requires-clause-placed : goal.sealed-requires-clause-placed
sealed-requires-clause-placed c =
    let to = c.args.to.now in
    let live = c.args.copies.now.live in
    let placed = c.in-Ok-place_next.placed in
    let laid = subst (λ (bodies : List Body). IsLaid c.args.log.now c.in-Ok.meta (old_lengths bodies) placed) c.slice-live.ensures c.in-Ok-place_next.ensures.laid in
    let meta = c.in-Ok.ensures.length ∙ ap (λ (bodies : List Body). meta_length (drafted to.log to.number bodies)) c.slice-live.ensures in
    let batch = c.in_ok-batch.ensures ∙ (λ i. clean_batch to.log to.number (moves (c.slice-live.ensures i) (c.slice.ensures i))) in
    subst (λ (blocks : List (List ℕ)). IsPlaced c.args.log.now (meta_length c.in_ok-batch.batch) (map length blocks) placed) (sym c.slice-2.ensures)
    (placed_is c.args.log.now c.in-Ok.meta (meta_length c.in_ok-batch.batch) live c.args.copies.now.blocks placed laid
    (meta_is c.batches_have_their_length.ensures.shape c.args.log.now to.log to.number c.in-Ok.meta live placed c.in_ok-batch.batch laid meta batch) c.requires.copied)

pub returns-clause-formed : goal.returns-clause-formed
returns-clause-formed c =
    let to = c.args.to.now in
    let live = c.args.copies.now.live in
    let placed = c.in-Ok-place_next.placed in
    let laid = subst (λ (bodies : List Body). IsLaid c.args.log.now c.in-Ok.meta (old_lengths bodies) placed) c.slice-live.ensures c.in-Ok-place_next.ensures.laid in
    let spelled = subst (λ (bodies : List Body). IsSpellable (drafted to.log to.number bodies)) c.slice-live.ensures c.in-Ok.ensures.spelled in
    let meta = c.in-Ok.ensures.length ∙ ap (λ (bodies : List Body). meta_length (drafted to.log to.number bodies)) c.slice-live.ensures in
    let batch = c.in_ok-batch.ensures ∙ (λ i. clean_batch to.log to.number (moves (c.slice-live.ensures i) (c.slice.ensures i))) in
    formed_is c.batches_have_their_length.ensures.shape to.geo.servers to.geo.fragment c.args.log.now to.log to.number c.in-Ok.meta to.members c.args.copies.now c.in_ok-batch.batch placed c.in_ok-formed.formed
    c.requires.log meta spelled c.requires.copied batch laid c.in_ok-formed.ensures.whole
    (subst (λ (blocks : List (List ℕ)). IsMade to.geo.servers to.geo.fragment c.args.log.now to.members c.in_ok-batch.batch placed blocks c.in_ok-formed.formed) c.slice-2.ensures c.in_ok-formed.ensures.made)
