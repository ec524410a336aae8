-- What is placed lies in order.
use Rattle.std.proofs.Common.{ℕ, zero, suc, ◌+◌, ◌-◌, ◌<◌, ◌≤◌, ltb, List, [], ◌∷◌, ◌++◌, fold, refl, sym, subst, arith}
use Rattle.std.proofs.lemmas.Bool.{cond_both, ltb-true}
use Rattle.std.specs.List.{AllByRecursion}
use Rattle.zb_types.specs.declared.ids.LogId.{LogId}
use Rattle.zb_types.specs.declared.ids.Piece.{Piece}
use Rattle.zb_log.specs.declared.places.Place.{Place}
use Rattle.zb_log.specs.Places.{place, IsUpTo, piece_at, start_of, end_of, LiesBehind, BeginsNext, InOrder}
use Rattle.zb_log.specs.Placing.{Laid, begun, between, pieces_of, turned, ready, moved, added, with_meta, with_block}
use Rattle.zb_log.proofs.Steps.{ready_both, ready_room, ready_fits}

pub upto_refl : (a : Place) → IsUpTo a a
upto_refl a = record { stripe = omega arith; offset = λ e. omega arith }

pub upto_trans : {a b c : Place} → IsUpTo a b → IsUpTo b c → IsUpTo a c
upto_trans one other = record { stripe = omega arith; offset = λ e. omega arith }

-- the end of a range is behind its start
pub upto_end : (range : Piece) → IsUpTo (start_of range) (end_of range)
upto_end range = record { stripe = omega arith; offset = λ e. omega arith }

pub lies_on : {room : ℕ} {a b : Place} {range : Piece} → IsUpTo a b → LiesBehind room b range → LiesBehind room a range
lies_on le lies = record { begins = upto_trans le lies.begins; within = lies.within }

pub order_from : (room : ℕ) (ranges : List Piece) (a b to : Place) → IsUpTo a b → InOrder room b ranges to → InOrder room a ranges to
order_from room [] a b to le o = upto_trans le o
order_from room (range ∷ ranges) a b to le o = (lies_on le o.0, o.1)

pub order_to : (room : ℕ) (ranges : List Piece) (from a b : Place) → InOrder room from ranges a → IsUpTo a b → InOrder room from ranges b
order_to room [] from a b o le = upto_trans o le
order_to room (range ∷ ranges) from a b o le = (o.0, order_to room ranges (end_of range) a b o.1 le)

pub order_append : (room : ℕ) (xs ys : List Piece) (from mid to : Place) → InOrder room from xs mid → InOrder room mid ys to → InOrder room from (xs ++ ys) to
order_append room [] ys from mid to o p = order_from room ys from mid to o p
order_append room (x ∷ xs) ys from mid to o p = (o.0, order_append room xs ys (end_of x) mid to o.1 p)

-- ranges end behind where they begin
pub order_rises : (room : ℕ) (ranges : List Piece) (from to : Place) → InOrder room from ranges to → IsUpTo from to
order_rises room [] from to o = o
order_rises room (range ∷ ranges) from to o = upto_trans o.0.begins (upto_trans (upto_end range) (order_rises room ranges (end_of range) to o.1))

-- each piece is in a later stripe than the one before, and all before this one
abbrev pub Rises : List Piece → ℕ → Type 0
Rises [] stripe = Unit {0}
Rises (piece ∷ pieces) stripe = (piece.stripe < stripe) × AllByRecursion (λ other. piece.stripe < other.stripe) pieces × Rises pieces stripe

abbrev pub HasBytes : Piece → Type 0
HasBytes piece = 0 < piece.len

-- what was placed, from a place on
pub record IsLaid (from : Place) (laid : Laid) : Type 0 where
  pub begin : AllByRecursion (BeginsNext from) laid.left
  pub starts : BeginsNext from (piece_at (place laid.next.stripe laid.start) 0)
  pub some : AllByRecursion HasBytes laid.left
  pub left : InOrder laid.room from laid.left (place laid.next.stripe laid.start)
  pub start : laid.start ≤ laid.next.offset
  pub within : laid.next.offset ≤ laid.room
  pub rises : Rises laid.left laid.next.stripe

between_order : (room stripe from to : ℕ) → from ≤ to → to ≤ room → InOrder room (place stripe from) (between stripe from to) (place stripe to)
between_order room stripe from to le within =
    cond_both (ltb from to) (piece_at (place stripe from) (to - from) ∷ []) [] (λ (z : List Piece). InOrder room (place stripe from) z (place stripe to))
    (λ e. (record { begins = upto_refl (place stripe from); within = omega arith }, record { stripe = omega arith; offset = λ e. omega arith }))
    (λ e. record { stripe = omega arith; offset = λ e. omega arith })

pub pieces_order : (from : Place) (laid : Laid) → IsLaid from laid → InOrder laid.room from (pieces_of laid) laid.next
pieces_order from laid l = order_append laid.room laid.left (between laid.next.stripe laid.start laid.next.offset) from (place laid.next.stripe laid.start) laid.next l.left
    (between_order laid.room laid.next.stripe laid.start laid.next.offset l.start l.within)

some_append : (xs ys : List Piece) → AllByRecursion HasBytes xs → AllByRecursion HasBytes ys → AllByRecursion HasBytes (xs ++ ys)
some_append [] ys a b = b
some_append (x ∷ xs) ys a b = (a.0, some_append xs ys a.1 b)

between_some : (stripe from to : ℕ) → AllByRecursion HasBytes (between stripe from to)
between_some stripe from to =
    cond_both (ltb from to) (piece_at (place stripe from) (to - from) ∷ []) [] (AllByRecursion HasBytes) (λ e. let lt = ltb-true from to e in (omega arith, tt)) (λ e. tt)

-- each piece has bytes
pub pieces_some : (from : Place) (laid : Laid) → IsLaid from laid → AllByRecursion HasBytes (pieces_of laid)
pieces_some from laid l = some_append laid.left (between laid.next.stripe laid.start laid.next.offset) l.some (between_some laid.next.stripe laid.start laid.next.offset)

begin_append : (from : Place) (xs ys : List Piece) → AllByRecursion (BeginsNext from) xs → AllByRecursion (BeginsNext from) ys → AllByRecursion (BeginsNext from) (xs ++ ys)
begin_append from [] ys a b = b
begin_append from (x ∷ xs) ys a b = (a.0, begin_append from xs ys a.1 b)

begin_between : (from : Place) (stripe start offset : ℕ) → BeginsNext from (piece_at (place stripe start) 0) → AllByRecursion (BeginsNext from) (between stripe start offset)
begin_between from stripe start offset b =
    cond_both (ltb start offset) (piece_at (place stripe start) (offset - start) ∷ []) [] (AllByRecursion (BeginsNext from))
    (λ e. (record { stripe = b.stripe; here = b.here; later = b.later }, tt)) (λ e. tt)

-- each piece begins where the one before ended, or at the start of a later stripe
pub pieces_begin : (from : Place) (laid : Laid) → IsLaid from laid → AllByRecursion (BeginsNext from) (pieces_of laid)
pieces_begin from laid l = begin_append from laid.left (between laid.next.stripe laid.start laid.next.offset) l.begin (begin_between from laid.next.stripe laid.start laid.next.offset l.starts)

above_more : (low stripe from to : ℕ) (pieces : List Piece) → low < stripe → AllByRecursion (λ other. low < other.stripe) pieces → AllByRecursion (λ other. low < other.stripe) (pieces ++ between stripe from to)
above_more low stripe from to [] lt a =
    cond_both (ltb from to) (piece_at (place stripe from) (to - from) ∷ []) [] (AllByRecursion (λ (other : Piece). low < other.stripe)) (λ e. (lt, tt)) (λ e. tt)
above_more low stripe from to (piece ∷ pieces) lt a = (a.0, above_more low stripe from to pieces lt a.1)

rises_more : (stripe from to : ℕ) (pieces : List Piece) → Rises pieces stripe → Rises (pieces ++ between stripe from to) (stripe + 1)
rises_more stripe from to [] r =
    cond_both (ltb from to) (piece_at (place stripe from) (to - from) ∷ []) [] (λ (z : List Piece). Rises z (stripe + 1)) (λ e. (omega arith, tt, tt)) (λ e. tt)
rises_more stripe from to (piece ∷ pieces) r = (omega (arith, r.0), above_more piece.stripe stripe from to pieces r.0 r.1, rises_more stripe from to pieces r.2)

-- there is one piece a stripe
pub pieces_rise : (from : Place) (laid : Laid) → IsLaid from laid → Rises (pieces_of laid) (laid.next.stripe + 1)
pieces_rise from laid l = rises_more laid.next.stripe laid.start laid.next.offset laid.left l.rises

pub laid_begun : (log : LogId) (room : ℕ) (from : Place) → from.offset ≤ room → IsLaid from (begun log room from)
laid_begun log room from le = record {
  begin = tt;
  starts = record { stripe = omega arith; here = λ e. refl; later = λ lt. absurd (omega arith) };
  some = tt;
  left = upto_refl from;
  start = omega arith;
  within = le;
  rises = tt;
}

laid_turned : (from : Place) (laid : Laid) → IsLaid from laid → IsLaid from (turned laid)
laid_turned from laid l =
    let on : IsUpTo laid.next (place (laid.next.stripe + 1) 0) = record { stripe = omega arith; offset = λ e. absurd (omega arith) } in
    let up = l.starts.stripe in
    record {
      begin = pieces_begin from laid l;
      starts = record { stripe = omega arith; here = λ e. absurd (omega arith); later = λ lt. refl };
      some = pieces_some from laid l;
      left = order_to laid.room (pieces_of laid) from laid.next (place (laid.next.stripe + 1) 0) (pieces_order from laid l) on;
      start = omega arith;
      within = omega arith;
      rises = pieces_rise from laid l;
    }

pub laid_ready : (from : Place) (laid : Laid) (n : ℕ) → IsLaid from laid → IsLaid from (ready laid n)
laid_ready from laid n l = ready_both (IsLaid from) laid n (λ h. l) (laid_turned from laid l)

pub laid_moved : (from : Place) (laid : Laid) (n : ℕ) → laid.next.offset + n ≤ laid.room → IsLaid from laid → IsLaid from (moved laid n)
laid_moved from laid n fits l = record {
  begin = l.begin;
  starts = l.starts;
  some = l.some;
  left = l.left;
  start = omega arith;
  within = fits;
  rises = l.rises;
}

pub laid_added : (from : Place) (laid : Laid) (n : ℕ) → n ≤ laid.room → IsLaid from laid → IsLaid from (added laid n)
laid_added from laid n le l = laid_moved from (ready laid n) n (ready_fits laid n le) (laid_ready from laid n l)

pub laid_block : (from : Place) (laid : Laid) (n : ℕ) → n ≤ laid.room → IsLaid from laid → IsLaid from (with_block laid n)
laid_block from laid n le l = let a = laid_added from laid n le l in record { begin = a.begin; starts = a.starts; some = a.some; left = a.left; start = a.start; within = a.within; rises = a.rises }

pub laid_meta : (from : Place) (laid : Laid) (n : ℕ) → 0 < laid.room → IsLaid from laid → IsLaid from (with_meta laid n)
laid_meta from laid zero some l = l
laid_meta from laid (suc n) some l = laid_meta from (added laid 1) n (subst (λ (z : ℕ). 0 < z) (sym (ready_room laid 1)) some) (laid_added from laid 1 some l)

pub laid_blocks : (from : Place) (laid : Laid) (lens : List ℕ) → AllByRecursion (λ n. n ≤ laid.room) lens → IsLaid from laid → IsLaid from (fold with_block laid lens)
laid_blocks from laid [] fit l = l
laid_blocks from laid (n ∷ lens) fit l =
    laid_blocks from (with_block laid n) lens (subst (λ (z : ℕ). AllByRecursion (λ n. n ≤ z) lens) (sym (ready_room laid n)) fit.1) (laid_block from laid n fit.0 l)
