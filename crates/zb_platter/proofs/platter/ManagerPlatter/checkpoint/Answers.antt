use Rattle.std.proofs.Common.{Err, arith, refl}
use Rattle.zb_platter.specs.Changing.{with_checkpoint}
use Rattle.zb_platter.proofs.Changed.{cut_run, cut_told, run_none, told_err}
use Rattle.zb_platter.proofs.platter.ManagerPlatter.checkpoint.Goals as goal

pub returns-then-number-gt-LAST-clause-told : goal.returns-then-number-gt-LAST-clause-told
returns-then-number-gt-LAST-clause-told g c told contents tables st counts text =
    told_err (with_checkpoint c.args.self.now c.args.bytes.now) contents tables tables (Err _) refl (run_none c.args.self.now contents tables tables _ st)

pub returns-then-len-gt-LONGEST-clause-told : goal.returns-then-len-gt-LONGEST-clause-told
returns-then-len-gt-LONGEST-clause-told g c told contents tables st counts text =
    told_err (with_checkpoint c.args.self.now c.args.bytes.now) contents tables tables (Err _) refl (run_none c.args.self.now contents tables tables _ st)

pub returns-in_default-clause-told : goal.returns-in_default-clause-told
returns-in_default-clause-told g c = rw (← c.self.view_is) (λ told contents tables st counts text.
    told_err _ contents tables tables (Err _) refl
    (cut_run _ c.self.invariant contents tables c.args.bytes.now _ _ st c.if-number-gt-LAST.false counts text (c.write.ensures.told told st.settled (omega (arith, st.has.within))).run))

pub returns-clause-told : goal.returns-clause-told
returns-clause-told g c = rw (← c.self.view_is) (λ told contents tables st counts text.
    cut_told _ c.self.invariant contents tables c.args.bytes.now _ _ st c.if-number-gt-LAST.false counts text (c.in-Ok.ensures.told told st.settled (omega (arith, st.has.within))))
