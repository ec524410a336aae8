use Rattle.std.proofs.Common.{◌∙◌, sym}
use Rattle.zb_spelling.specs.Limits.{LogFits}
use Rattle.zb_spelling.specs.Unspelling.{sizes_of}
use Rattle.zb_spelling.proofs.Fitting.{all_shown, all_showing, rising_shown, rising_showing, shown_log}
use Rattle.zb_spelling.proofs.InOrder.{numbers_transitive}
use Rattle.zb_spelling.proofs.limits.logs_fit.Goals as goal

pub rise-requires : goal.rise-requires
rise-requires c = numbers_transitive

pub returns-then-not-rise : goal.returns-then-not-rise
returns-then-not-rise c = (λ told. absurd cc, λ fit. sym c.if-not-rise.true ∙ c.rise.ensures.1 (rising_showing shown_log c.args.logs.now fit.rising))

pub returns-then-not-each_lives_once : goal.returns-then-not-each_lives_once
returns-then-not-each_lives_once c = (λ told. absurd cc, λ fit. sym c.if-not-each_lives_once.true ∙ c.each_lives_once.ensures.1 fit.once)

pub returns : goal.returns
returns c = (
  λ told. record {
    rising = rising_shown shown_log c.args.logs.now (c.rise.ensures.0 c.if-not-rise.false);
    each = all_shown shown_log (LogFits (sizes_of c.args.geo.now) c.args.next) c.args.logs.now (c.each_log_fits.ensures.0 told);
    once = c.each_lives_once.ensures.0 c.if-not-each_lives_once.false;
  },
  λ fit. c.each_log_fits.ensures.1 (all_showing shown_log (LogFits (sizes_of c.args.geo.now) c.args.next) c.args.logs.now fit.each),
)
