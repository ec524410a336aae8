use Rattle.std.proofs.Common.{◌≡◌, ℕ, ◌<◌, ◌∙◌, subst, ap, List, length, map}
use Rattle.std.specs.Prelude.{Err}
use Rattle.zb_log.specs.declared.placed.LogFault.TheVariants.{Worn}
use Rattle.zb_log.specs.Placing.{last_stripe}
use Rattle.zb_log.specs.Logs.{laid_next}
use Rattle.zb_basis.specs.Forming.{IsLaid}
use Rattle.zb_basis.specs.Looking.{room_of}
use Rattle.zb_forming.specs.Ops.{batch_made}
use Rattle.zb_forming.specs.Sealing.{IsMade}
use Rattle.zb_forming.proofs.Joining.{too-far, formed-is}
use Rattle.zb_forming.proofs.forming.form_next.Goals as goal

pub returns-in-Err-clause-worn : goal.returns-in-Err-clause-worn
returns-in-Err-clause-worn c =
    λ e.
    let same : c.in-Err.fault ≡ Worn = cc in
    too-far c.args.to.geo.block (room_of c.args.to.geo.servers c.args.to.geo.fragment) c.args.calls.now c.args.basis.now c.requires.given c.args.log.now c.args.to.log c.args.to.number
    c.in_ok-s.s c.in_ok-s.ensures.exact c.requires.log c.in_ok-meta.meta c.in_ok-meta.ensures.length
    (subst (λ (blocks : List (List ℕ)). last_stripe < (laid_next c.args.log.now c.in_ok-meta.meta (map length blocks)).next.stripe) c.slice.ensures (c.in-Err.ensures.worn (ap Err same)))

pub returns-clause-formed : goal.returns-clause-formed
returns-clause-formed c =
    formed-is c.args.to.geo.block (room_of c.args.to.geo.servers c.args.to.geo.fragment) c.args.calls.now c.args.basis.now c.requires.given c.args.log.now c.args.to.log c.args.to.number
    c.in_ok-s.s c.in_ok-s.ensures.exact c.requires.log c.args.to.geo.servers c.args.to.geo.fragment c.in_ok-meta.meta c.args.to.members c.in_ok-batch.batch c.in-Ok.placed c.in_ok-formed.formed
    c.in_ok-meta.ensures.length c.in_ok-meta.ensures.spelled
    (c.in_ok-batch.ensures ∙ ap (λ ptrs. batch_made c.args.to.log c.args.to.number ptrs c.args.calls.now c.in_ok-s.s.drafts) c.slice-2.ensures)
    (subst (λ (blocks : List (List ℕ)). IsLaid c.args.log.now c.in_ok-meta.meta (map length blocks) c.in-Ok.placed) c.slice.ensures c.in-Ok.ensures.laid)
    c.in_ok-formed.ensures.whole
    (subst (λ (blocks : List (List ℕ)). IsMade c.args.to.geo.servers c.args.to.geo.fragment c.args.log.now c.args.to.members c.in_ok-batch.batch c.in-Ok.placed blocks c.in_ok-formed.formed) c.slice-3.ensures c.in_ok-formed.ensures.made)
