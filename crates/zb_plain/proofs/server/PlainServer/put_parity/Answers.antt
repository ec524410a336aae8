use Rattle.std.proofs.Common.{Some, refl}
use Rattle.zb_types.specs.declared.requests.Request.TheVariants as ask
use Rattle.zb_holding.specs.Fragments.{parity_fragment}
use Rattle.zb_plain.specs.declared.kept.Kept.TheVariants.{Parity}
use Rattle.zb_plain.proofs.Naming.{put_by, after_put}
use Rattle.zb_plain.proofs.server.PlainServer.put_parity.Goals as goal

pub returns-clause-carried : goal.returns-clause-carried
returns-clause-carried c class =
    let old = c.self.inside.kept.entries in
    let lengths = c.in_ok-copy.field-0 in
    let bytes = c.in_ok-new.field-0 in
    let put = put_by old c.insert.new.self.entries c.args.id (Some (Parity lengths bytes)) c.in_ok-insert.ensures.updates.0 in
    rw (← c.self.view_is) (after_put (ask.Parity c.args.id c.args.lengths.now c.args.bytes.now class) old c.insert.new.self.entries c.args.id (Some (parity_fragment lengths bytes)) (λ q. refl)
    (λ i. Some (parity_fragment (c.in_ok-copy.ensures i) (c.in_ok-new.ensures i))) put)
