use Rattle.zb_work.specs.declared.work.Step.TheVariants.{Fetch, Store}
use Rattle.std.proofs.Common.{sym}
use Rattle.zb_steps.proofs.Serving.{serving_fits}
use Rattle.zb_steps.proofs.desk.Desk.served.Goals as goal

pub returns-in-Ok-clause-fits : goal.returns-in-Ok-clause-fits
returns-in-Ok-clause-fits c =
    let before = rw c.in-Fetch.is at c.requires.fits in
    serving_fits c.args.self.now c.args.kept.now c.args.queue.now.items (Fetch c.in-Fetch.basis c.in-Fetch.at c.in-Fetch.ptr c.in-Fetch.plan) c.args.response.now c.args.serving (record { desk = c.fetched.new.self; next = c.in-Ok.next })
    c.knows.ensures.servers c.knows.ensures.log.room c.knows.ensures.given before c.in-Ok.ensures.ok

pub returns-in-Store-clause-fits : goal.returns-in-Store-clause-fits
returns-in-Store-clause-fits c =
    let before = rw c.in-Store.is at c.requires.fits in
    serving_fits c.args.self.now c.args.kept.now c.args.queue.now.items (Store c.in-Store.basis c.in-Store.formed) c.args.response.now c.args.serving (record { desk = c.store_on.new.self; next = c.store_on.result })
    c.knows.ensures.servers c.knows.ensures.log.room c.knows.ensures.given before (sym c.store_on.ensures)
