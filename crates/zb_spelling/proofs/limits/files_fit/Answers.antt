use Rattle.zb_spelling.specs.Limits.{FileFits}
use Rattle.zb_spelling.specs.Reading.{shown_file}
use Rattle.zb_spelling.specs.Unspelling.{sizes_of}
use Rattle.zb_spelling.proofs.Fitting.{all_shown, all_showing, failed, rising_shown, rising_showing}
use Rattle.zb_spelling.proofs.InOrder.{numbers_transitive}
use Rattle.zb_spelling.proofs.limits.files_fit.Goals as goal

pub rise-requires : goal.rise-requires
rise-requires c = numbers_transitive

pub returns-then-rise : goal.returns-then-rise
returns-then-rise c = (
  λ told. record { rising = rising_shown shown_file c.args.files.now (c.rise.ensures.0 c.if-rise.true); each = all_shown shown_file (FileFits (sizes_of c.args.geo.now) c.args.next) c.args.files.now (c.each_file_fits.ensures.0 told) },
  λ fit. c.each_file_fits.ensures.1 (all_showing shown_file (FileFits (sizes_of c.args.geo.now) c.args.next) c.args.files.now fit.each),
)

pub returns-else-rise : goal.returns-else-rise
returns-else-rise c = (failed c.rise.result c.if-rise.false, λ fit. c.rise.ensures.1 (rising_showing shown_file c.args.files.now fit.rising))
