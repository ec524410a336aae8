-- A finish that has begun.
use Rattle.std.proofs.Common.{◌||◌, false, List, [], ◌∷◌, ◌++◌, length, ◌∙◌, arith}
use Rattle.std.specs.Prelude.{nat_le}
use Rattle.std.specs.List.{list_any}
use Rattle.std.proofs.lemmas.Bool.{le-leb, or_right}
use Rattle.std.proofs.lemmas.List.Folds.{list_any-append}
use Rattle.zb_laws.proofs.Tests.{or_left}
use Rattle.zb_types.specs.declared.lines.Outcome.{Outcome}
use Rattle.zb_given.specs.Given.{Given, with_finish}
use Rattle.zb_given.proofs.Batching.{over_longer}
use Rattle.zb_line_laws.specs.Calls.{IsFinishing}

pub begun_now : (given : Given) (lines : List Outcome) → IsFinishing (with_finish given (length lines)) lines
begun_now given lines =
    let now = length lines in
    list_any-append (λ at. nat_le at now) given.finishes (now ∷ [])
    ∙ or_right (list_any (λ at. nat_le at now) given.finishes) (nat_le now now || false) (or_left (nat_le now now) false (le-leb now now (omega arith)))

pub begun_before : (given : Given) (lines more : List Outcome) → IsFinishing given lines → IsFinishing given (lines ++ more)
begun_before given lines more begun = over_longer lines more given.finishes begun
