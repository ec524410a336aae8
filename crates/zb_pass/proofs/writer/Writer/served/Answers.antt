use Rattle.std.proofs.Common.{◌∙◌, ◌&&◌, ap, refl, subst, sym}
use Rattle.zb_steps.specs.Serving.{serves}
use Rattle.zb_pass.specs.Fitting.{AreStrays, NextFits}
use Rattle.zb_pass.specs.Seen.{SeenWriter}
use Rattle.zb_pass.specs.Sweeping.{deleted, is_up, swept}
use Rattle.zb_pass.specs.declared.work.Work.TheVariants.{Fetch, Store}
use Rattle.zb_pass.proofs.Served.{fits_deleted, fits_swept, serving_fits}
use Rattle.zb_pass.proofs.writer.Writer.served.Goals as goal

pub returns-in-Ok-clause-fits : goal.returns-in-Ok-clause-fits
returns-in-Ok-clause-fits c =
    let before = rw c.in-Fetch.is at c.requires.fits in
    serving_fits c.args.self.now (Fetch c.in-Fetch.cleaning c.in-Fetch.plan) c.args.response c.args.serving (record { writer = c.fetched.new.self; next = c.in-Ok.next })
    c.knows.ensures.servers c.knows.ensures.log.room c.knows.ensures.given before c.in-Ok.ensures.ok

pub returns-in-Store-clause-fits : goal.returns-in-Store-clause-fits
returns-in-Store-clause-fits c =
    let before = rw c.in-Store.is at c.requires.fits in
    serving_fits c.args.self.now (Store c.in-Store.cleaning c.in-Store.formed) c.args.response c.args.serving (record { writer = c.store_on.new.self; next = c.store_on.result })
    c.knows.ensures.servers c.knows.ensures.log.room c.knows.ensures.given before (sym c.store_on.ensures)

pub returns-in-Sweep-clause-fits : goal.returns-in-Sweep-clause-fits
returns-in-Sweep-clause-fits c =
    subst (NextFits c.args.self.now)
    (sym (c.swept.ensures ∙ ap (λ (w : SeenWriter). swept w.servers c.in-Sweep.sweep c.args.response c.args.serving) c.self.view_is))
    (fits_swept c.args.self.now c.in-Sweep.sweep c.args.response c.args.serving)

pub returns-in-Delete-clause-fits : goal.returns-in-Delete-clause-fits
returns-in-Delete-clause-fits c =
    let before : AreStrays c.in-Delete.sweep.status c.in-Delete.left = rw c.in-Delete.is at c.requires.fits in
    subst (NextFits c.args.self.now)
    (sym (c.deleted.ensures ∙ ap (λ (w : SeenWriter). deleted w.servers c.in-Delete.sweep c.in-Delete.left c.in-Delete.again c.args.response c.args.serving) c.self.view_is))
    (fits_deleted c.args.self.now c.in-Delete.sweep c.in-Delete.left c.in-Delete.again c.args.response c.args.serving
    (is_up c.args.response && serves c.args.serving c.in-Delete.sweep.server) refl before.strays)
