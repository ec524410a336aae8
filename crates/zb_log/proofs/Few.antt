-- How many stripes and pieces a batch takes.
use Rattle.std.proofs.Common.{◌≡◌, ℕ, zero, suc, ◌+◌, ◌-◌, ◌*◌, ◌<◌, ◌≤◌, false, leb, List, [], ◌∷◌, length, sym, subst, ap, inl, inr, arith}
use Rattle.std.specs.List.{sum, AllByRecursion}
use Rattle.std.proofs.lemmas.Bool.{cond_both, cases_lt}
use Rattle.std.proofs.lemmas.List.Sums.{sum_by-cons}
use Rattle.std.proofs.lemmas.List.Elements.{recursion_from_All}
use Rattle.zb_types.specs.declared.ids.Piece.{Piece}
use Rattle.zb_log.specs.declared.places.Place.{Place}
use Rattle.zb_log.specs.declared.placed.Placed.{Placed}
use Rattle.zb_log.specs.Places.{place, behind, BeginsNext}
use Rattle.zb_log.specs.Placing.{pieces_of, behind_room, meta_end, blocks_end, AreBlocks}
use Rattle.zb_log.specs.Logs.{SeenLog, IsSound, laid_next, LiesInFew}
use Rattle.zb_log.proofs.Order.{Rises, pieces_rise, pieces_begin}
use Rattle.zb_log.proofs.Ends.{next_end}
use Rattle.zb_log.proofs.Placings.{next_laid}

-- n bytes were placed from a place on, and each of the stripes between took at least `most` of them
record IsFew (most : ℕ) (from at : Place) (n : ℕ) : Type 0 where
  rises : from.stripe ≤ at.stripe
  few : (k : ℕ) → at.stripe ≡ from.stripe + suc k → k * most + at.offset ≤ n

few_none : (most : ℕ) (from : Place) → IsFew most from from 0
few_none most from = record { rises = omega arith; few = λ k e. absurd (omega (arith, e)) }

few_here : (most : ℕ) (from at : Place) (n m : ℕ) → IsFew most from at n → IsFew most from (behind at m) (n + m)
few_here most from at n m h = record { rises = h.rises; few = λ k e. let le = h.few k e in omega arith }

few_left : (most : ℕ) (from at : Place) (n m : ℕ) → most ≤ at.offset → IsFew most from at n → IsFew most from (behind (place (at.stripe + 1) 0) m) (n + m)
few_left most from at n m full h = record { rises = let up = h.rises in omega arith; few = few }
  where
    few : (k : ℕ) → at.stripe + 1 ≡ from.stripe + suc k → k * most + (0 + m) ≤ n + m
    few zero e = omega arith
    few (suc k) e = let le = h.few k (omega (arith, e)) in omega arith

few_behind : (most room : ℕ) (from at : Place) (n m : ℕ) → (room < at.offset + m → most ≤ at.offset) → IsFew most from at n → IsFew most from (behind_room room at m) (n + m)
few_behind most room from at n m full h =
    cond_both (leb (at.offset + m) room) at (place (at.stripe + 1) 0) (λ (z : Place). IsFew most from (behind z m) (n + m))
    (λ e. few_here most from at n m h) (λ e. few_left most from at n m (full (above (at.offset + m) room e)) h)
  where
    above : (a b : ℕ) → leb a b ≡ false → b < a
    above a b e = grind arith

few_meta : (most room : ℕ) (from at : Place) (n meta : ℕ) → most ≤ room → IsFew most from at n → IsFew most from (meta_end room at meta) (n + meta)
few_meta most room from at n zero le h = subst (λ (z : ℕ). IsFew most from at z) (omega arith) h
few_meta most room from at n (suc meta) le h =
    let more = few_meta most room from (behind_room room at 1) (n + 1) meta le (few_behind most room from at n 1 (λ lt. omega (arith, lt)) h) in
    let same : n + 1 + meta ≡ n + suc meta = omega arith in
    subst (λ (z : ℕ). IsFew most from (meta_end room (behind_room room at 1) meta) z) same more

few_blocks : (block room : ℕ) (from at : Place) (n : ℕ) (lens : List ℕ) → AllByRecursion (λ len. (1 ≤ len) × (len ≤ block)) lens → IsFew (room - block) from at n
    → IsFew (room - block) from (blocks_end room at lens) (n + sum lens)
few_blocks block room from at n [] fit h = subst (λ (z : ℕ). IsFew (room - block) from at z) (omega arith) h
few_blocks block room from at n (len ∷ lens) fit h =
    let short = fit.0.1 in
    let more = few_blocks block room from (behind_room room at len) (n + len) lens fit.1 (few_behind (room - block) room from at n len (λ lt. omega (arith, lt)) h) in
    let same : n + len + sum lens ≡ n + sum (len ∷ lens) = omega (arith, sum_by-cons (λ (x : ℕ). x) len lens) in
    subst (λ (z : ℕ). IsFew (room - block) from (blocks_end room (behind_room room at len) lens) z) same more

few_stripes : (most : ℕ) (from at : Place) (n : ℕ) → IsFew most from at n → (at.stripe - from.stripe - 1) * most ≤ n
few_stripes most from at n h = elim (cases_lt from.stripe at.stripe) as (λ _. (at.stripe - from.stripe - 1) * most ≤ n) [
  | inl lt ↦ let le = h.few (at.stripe - from.stripe - 1) (omega arith) in omega arith
  | inr ge ↦
      let none : at.stripe - from.stripe - 1 ≡ 0 = omega arith in
      subst (λ (z : ℕ). z * most ≤ n) (sym none) (omega arith)
]

-- there are no more pieces than stripes
count_rising : (low top : ℕ) (pieces : List Piece) → low ≤ top → AllByRecursion (λ piece. low ≤ piece.stripe) pieces → Rises pieces top → low + length pieces ≤ top
count_rising low top [] le a r = omega arith
count_rising low top (piece ∷ pieces) le a r =
    let first = a.0 in
    let under = r.0 in
    let more = count_rising (piece.stripe + 1) top pieces (omega arith) (each pieces r.1) r.2 in
    omega arith
  where
    each : (others : List Piece) → AllByRecursion (λ other. piece.stripe < other.stripe) others → AllByRecursion (λ other. piece.stripe + 1 ≤ other.stripe) others
    each [] b = tt
    each (other ∷ others) b = let lt = b.0 in (omega arith, each others b.1)

begin_above : (from : Place) (pieces : List Piece) → AllByRecursion (BeginsNext from) pieces → AllByRecursion (λ piece. from.stripe ≤ piece.stripe) pieces
begin_above from [] a = tt
begin_above from (piece ∷ pieces) a = (a.0.stripe, begin_above from pieces a.1)

pub lies_in_few : (seen : SeenLog) (meta : ℕ) (blocks : List ℕ) (placed : Placed) → IsSound seen → AreBlocks seen.block blocks → placed.pieces ≡ pieces_of (laid_next seen meta blocks) → placed.next ≡ (laid_next seen meta blocks).next
    → LiesInFew seen (meta + sum blocks) placed
lies_in_few seen meta blocks placed s a pieces next =
    let most = seen.room - seen.block in
    let laid = laid_next seen meta blocks in
    let l = next_laid seen meta blocks s a in
    let same : 0 + meta ≡ meta = omega arith in
    let first = subst (λ (z : ℕ). IsFew most seen.next (meta_end seen.room seen.next meta) z) same (few_meta most seen.room seen.next seen.next 0 meta (omega arith) (few_none most seen.next)) in
    let all = few_blocks seen.block seen.room seen.next (meta_end seen.room seen.next meta) meta blocks (recursion_from_All (λ n. (1 ≤ n) × (n ≤ seen.block)) blocks a) first in
    let few : IsFew most seen.next laid.next (meta + sum blocks) = subst (λ (z : Place). IsFew most seen.next z (meta + sum blocks)) (sym (next_end seen meta blocks)) all in
    let up = few.rises in
    let count = count_rising seen.next.stripe (laid.next.stripe + 1) (pieces_of laid) (omega arith) (begin_above seen.next (pieces_of laid) (pieces_begin seen.next laid l)) (pieces_rise seen.next laid l) in
    record {
      stripes = subst (λ (z : Place). (z.stripe - seen.next.stripe - 1) * most ≤ meta + sum blocks) (sym next) (few_stripes most seen.next laid.next (meta + sum blocks) few);
      pieces = let same = ap length pieces in let there = ap (λ (z : Place). z.stripe) next in omega arith;
    }
