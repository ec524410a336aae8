-- Worked rows as closed examples.
use Rattle.std.specs.Prelude.{true, ◌++◌}
use Rattle.zb_claims.specs.Fits.{FitLines}
use Rattle.zb_claims.specs.Rows.{hello_script, hello_report, stale_report, unordered_report, two_script, two_report, armed_script, armed_report, dropped_script, dropped_report, down_script, down_report, beside_report, eight_script, seven_lines, eight_lines, too_many_report}

-- these reports fit their scripts
pub record RowsFit : Type 0 where
  pub hello : FitLines true hello_script hello_report
  pub two : FitLines true two_script two_report
  pub armed : FitLines true armed_script armed_report
  pub dropped : FitLines true dropped_script dropped_report
  pub down : FitLines true down_script down_report
  pub eight : FitLines true eight_script (seven_lines ++ eight_lines)

-- these don't
pub record WrongUnfit : Type 0 where
  pub stale : FitLines true hello_script stale_report → ⊥
  pub unordered : FitLines true hello_script unordered_report → ⊥
  pub beside : FitLines true down_script beside_report → ⊥
  pub too_many : FitLines true eight_script too_many_report → ⊥
