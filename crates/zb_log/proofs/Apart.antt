-- No address is given twice.
use Rattle.std.proofs.Common.{◌≡◌, ℕ, ◌+◌, List, [], ◌∷◌, refl, sym, subst, ◌∙◌, arith}
use Rattle.std.specs.Prelude.{AllPairs}
use Rattle.std.specs.List.{AllByRecursion}
use Rattle.std.proofs.lemmas.List.Elements.{All-from_recursion}
use Rattle.std.proofs.lemmas.List.Kept.{AllPairs-cons}
use Rattle.zb_types.specs.declared.ids.Piece.{Piece}
use Rattle.zb_log.specs.declared.places.Place.{Place}
use Rattle.zb_log.specs.Places.{place, IsUpTo, start_of, end_of, InOrder}
use Rattle.zb_log.specs.Logs.{SeenLog, renewed}
use Rattle.zb_log.specs.Runs.{Step, gives, goes_on_after, IsRun, given_by, AreApart, GivesNoAddressTwice}
use Rattle.zb_log.proofs.Order.{upto_refl, upto_trans, upto_end, order_from, order_append}

-- a range that begins behind another's end
apart : (one other : Piece) → IsUpTo (end_of one) (start_of other) → AreApart one other
apart one other le at i j = omega arith

-- it is apart from all that lie in order behind it
apart_each : (room : ℕ) (one : Piece) (ranges : List Piece) (from to : Place) → IsUpTo (end_of one) from → InOrder room from ranges to → AllByRecursion (AreApart one) ranges
apart_each room one [] from to le o = tt
apart_each room one (range ∷ ranges) from to le o =
    let here = upto_trans le o.0.begins in
    (apart one range here, apart_each room one ranges (end_of range) to (upto_trans here (upto_end range)) o.1)

apart_pairs : (room : ℕ) (ranges : List Piece) (from to : Place) → InOrder room from ranges to → AllPairs AreApart ranges
apart_pairs room [] from to o = λ i j d lt below. absurd (omega arith)
apart_pairs room (range ∷ ranges) from to o =
    AllPairs-cons AreApart range ranges (All-from_recursion (AreApart range) ranges (apart_each room range ranges (end_of range) to record { stripe = omega arith; offset = λ e. omega arith } o.1))
    (apart_pairs room ranges (end_of range) to o.1)

-- what calls give lies in order between where the log went on and where it goes on
run_order : (steps : List Step) (room : ℕ) (old new : SeenLog) → room ≡ old.room → IsRun old steps new → InOrder room old.next (given_by steps) new.next
run_order [] room old new e r = subst (λ (z : SeenLog). IsUpTo old.next z.next) r (upto_refl old.next)
run_order (gives ranges ∷ steps) room old new e r =
    let mid = r.0 in
    order_append room ranges (given_by steps) old.next mid.next new.next (subst (λ (z : ℕ). InOrder z old.next ranges mid.next) (sym e) r.1) (run_order steps room mid new (e ∙ sym r.2) r.3)
run_order (goes_on_after last ∷ steps) room old new e r =
    order_from room (given_by steps) old.next (place (last + 1) 0) new.next r.0 (run_order steps room (renewed old last) new e r.1)

pub gives_no_address_twice : GivesNoAddressTwice
gives_no_address_twice old new steps r = apart_pairs old.room (given_by steps) old.next new.next (run_order steps old.room old new refl r)
