use Rattle.std.proofs.Common.{Err, refl}
use Rattle.zb_platter.specs.Changing.{with_entry}
use Rattle.zb_platter.proofs.Changed.{add_ready, add_run, added, run_none, told_err}
use Rattle.zb_platter.proofs.platter.ManagerPlatter.add.Goals as goal

pub returns-then-self-ge-LAST-clause-told : goal.returns-then-self-ge-LAST-clause-told
returns-then-self-ge-LAST-clause-told g c told contents before after batch st leads =
    told_err (with_entry c.args.self.now c.args.entry) contents before after (Err _) refl (run_none c.args.self.now contents before after _ st)

pub returns-in_err-reserve-clause-told : goal.returns-in_err-reserve-clause-told
returns-in_err-reserve-clause-told g c told contents before after batch st leads =
    told_err (with_entry c.args.self.now c.args.entry) contents before after _ c.from_residual.ensures.0 (run_none c.args.self.now contents before after _ st)

pub returns-in-Err-clause-told : goal.returns-in-Err-clause-told
returns-in-Err-clause-told g c = rw (← c.self.view_is) (λ told contents before after batch st leads.
    told_err _ contents before after (Err _) refl
    (add_run _ c.self.invariant contents before after c.args.entry batch (g.B.Bay.meaning c.args.bay.now) (g.B.Bay.meaning c.append.new.bay) st leads (c.append.ensures.told told _ _ (add_ready _ c.self.invariant contents before after c.args.entry batch (g.B.Bay.meaning c.args.bay.now) (g.B.Bay.meaning c.append.new.bay) st leads)).run))

pub returns-clause-told : goal.returns-clause-told
returns-clause-told g c = rw (← c.self.view_is) (λ told contents before after batch st leads.
    added _ c.self.invariant contents before after c.args.entry batch (g.B.Bay.meaning c.args.bay.now) (g.B.Bay.meaning c.append.new.bay) st leads
    (c.in_default.ensures.told told _ _ (add_ready _ c.self.invariant contents before after c.args.entry batch (g.B.Bay.meaning c.args.bay.now) (g.B.Bay.meaning c.append.new.bay) st leads)))
