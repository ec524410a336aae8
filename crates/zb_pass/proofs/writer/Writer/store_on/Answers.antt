use Rattle.std.proofs.Common.{◌∙◌}
use Rattle.zb_steps.proofs.Stripes.{noted_behind}
use Rattle.zb_pass.proofs.writer.Writer.store_on.Goals as goal

pub note-requires : goal.note-requires
note-requires c =
    noted_behind c.args.self.now.log c.args.formed.sealed.placed.next.stripe c.args.formed.plan c.args.response.now _ _ c.knows.ensures.given.given c.knows.ensures.given.are c.requires.about
    c.requires.sealed.is_placed.lasting c.first_stripe-stripe.ensures (λ done. c.in_default.not-Done (c.feed-fed.ensures.fed ∙ done))
