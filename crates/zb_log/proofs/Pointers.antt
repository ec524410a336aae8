-- The blocks of a batch lie in order.
use Rattle.std.proofs.Common.{◌≡◌, ◌⊎◌, inl, inr, ℕ, zero, suc, ◌+◌, ◌-◌, ◌≤◌, ltb, List, [], ◌∷◌, ◌++◌, map, fold, refl, sym, subst, ◌∙◌, arith}
use Rattle.std.specs.Prelude.{Any}
use Rattle.std.proofs.lemmas.Bool.{cond_both, ltb-true}
use Rattle.std.proofs.lemmas.List.{map-append, append-nil, append_assoc}
use Rattle.std.proofs.lemmas.Slice.Zip.{all_zipped_more}
use Rattle.std.specs.List.{AllByRecursion, AllZip}
use Rattle.zb_types.specs.declared.ids.LogId.{LogId}
use Rattle.zb_types.specs.declared.ids.Piece.{Piece}
use Rattle.zb_types.specs.declared.ids.Ptr.{Ptr}
use Rattle.zb_log.specs.declared.places.Place.{Place}
use Rattle.zb_log.specs.Places.{place, behind, piece_at, ptr_at, range_of, IsWithin, InOrder}
use Rattle.zb_log.specs.Placing.{Laid, between, pieces_of, ready, moved, added, with_meta, with_block}
use Rattle.zb_log.specs.Logs.{IsPtrIn}
use Rattle.zb_log.proofs.Steps.{ready_both, ready_room, ready_fits}
use Rattle.zb_log.proofs.Order.{IsLaid, upto_refl, order_to, order_append, laid_ready, laid_block}
use Rattle.zb_log.proofs.Standing.{between_some}

-- the blocks lie from a place on
abbrev pub LieFrom : Place → Laid → Type 0
LieFrom from laid = InOrder laid.room from (map range_of laid.ptrs) laid.next

lie_ready : (from : Place) (laid : Laid) (n : ℕ) → LieFrom from laid → LieFrom from (ready laid n)
lie_ready from laid n o =
    ready_both (LieFrom from) laid n (λ h. o)
    (order_to laid.room (map range_of laid.ptrs) from laid.next (place (laid.next.stripe + 1) 0) o record { stripe = omega arith; offset = λ e. absurd (omega arith) })

-- a block's pointer lies behind the ones before
ptrs_more : (log : LogId) (room : ℕ) (ptrs : List Ptr) (from at : Place) (n : ℕ) → at.offset + n ≤ room → InOrder room from (map range_of ptrs) at
    → InOrder room from (map range_of (ptrs ++ ptr_at log at n ∷ [])) (behind at n)
ptrs_more log room ptrs from at n fits o =
    subst (λ (z : List Piece). InOrder room from z (behind at n)) (sym (map-append range_of ptrs (ptr_at log at n ∷ [])))
    (order_append room (map range_of ptrs) (piece_at at n ∷ []) from at (behind at n) o (record { begins = upto_refl at; within = fits }, upto_refl (behind at n)))

ready_ptrs : (laid : Laid) (n : ℕ) → (ready laid n).ptrs ≡ laid.ptrs
ready_ptrs laid n = ready_both (λ (z : Laid). z.ptrs ≡ laid.ptrs) laid n (λ h. refl) refl

pub lie_block : (from : Place) (laid : Laid) (n : ℕ) → n ≤ laid.room → LieFrom from laid → LieFrom from (with_block laid n)
lie_block from laid n le o =
    subst (λ (z : List Ptr). InOrder (ready laid n).room from (map range_of (z ++ ptr_at laid.log (ready laid n).next n ∷ [])) (behind (ready laid n).next n)) (ready_ptrs laid n)
    (ptrs_more laid.log (ready laid n).room (ready laid n).ptrs from (ready laid n).next n (ready_fits laid n le) (lie_ready from laid n o))

pub lie_blocks : (from : Place) (laid : Laid) (lens : List ℕ) → AllByRecursion (λ n. n ≤ laid.room) lens → LieFrom from laid → LieFrom from (fold with_block laid lens)
lie_blocks from laid [] fit o = o
lie_blocks from laid (n ∷ lens) fit o =
    lie_blocks from (with_block laid n) lens (subst (λ (z : ℕ). AllByRecursion (λ n. n ≤ z) lens) (sym (ready_room laid n)) fit.1) (lie_block from laid n fit.0 o)

-- a meta part has no pointers
pub meta_ptrs : (laid : Laid) (n : ℕ) → (with_meta laid n).ptrs ≡ laid.ptrs
meta_ptrs laid zero = refl
meta_ptrs laid (suc n) = meta_ptrs (added laid 1) n ∙ ready_ptrs laid 1

pub lie_none : (laid : Laid) → laid.ptrs ≡ [] → LieFrom laid.next laid
lie_none laid none = subst (λ (z : List Ptr). InOrder laid.room laid.next (map range_of z) laid.next) (sym none) (upto_refl laid.next)

-- ---- each pointer lies in a piece

-- a range lies within some piece
abbrev pub SomeWithin : List Piece → Piece → Type 0
SomeWithin [] range = ⊥
SomeWithin (piece ∷ pieces) range = IsWithin piece range ⊎ SomeWithin pieces range

within_any : (pieces : List Piece) (range : Piece) → SomeWithin pieces range → Any (λ piece. IsWithin piece range) pieces
within_any [] range s = absurd s
within_any (piece ∷ pieces) range (inl s) = (0, piece, omega arith, refl, s)
within_any (piece ∷ pieces) range (inr s) = let more = within_any pieces range s in (suc more.0, more.1, omega (arith, more.2), more.3, more.4)

within_behind : (xs ys : List Piece) (range : Piece) → SomeWithin ys range → SomeWithin (xs ++ ys) range
within_behind [] ys range s = s
within_behind (x ∷ xs) ys range s = inr (within_behind xs ys range s)

-- the pieces behind some others change
within_on : (xs ys zs : List Piece) (range : Piece) → (SomeWithin ys range → SomeWithin zs range) → SomeWithin (xs ++ ys) range → SomeWithin (xs ++ zs) range
within_on [] ys zs range f s = f s
within_on (x ∷ xs) ys zs range f (inl s) = inl s
within_on (x ∷ xs) ys zs range f (inr s) = inr (within_on xs ys zs range f s)

-- the piece at hand gets longer
within_longer : (stripe start offset n : ℕ) (range : Piece) → SomeWithin (between stripe start offset) range → SomeWithin (between stripe start (offset + n)) range
within_longer stripe start offset n range =
    cond_both (ltb start offset) (piece_at (place stripe start) (offset - start) ∷ []) [] (λ (z : List Piece). SomeWithin z range → SomeWithin (between stripe start (offset + n)) range)
    (λ e. let lt = ltb-true start offset e in
    subst (λ (z : List Piece). (IsWithin (piece_at (place stripe start) (offset - start)) range ⊎ ⊥) → SomeWithin z range) (sym (between_some stripe start (offset + n) (omega arith)))
    (λ s. inl (longer s)))
    (λ e s. absurd s)
  where
    longer : IsWithin (piece_at (place stripe start) (offset - start)) range ⊎ ⊥ → IsWithin (piece_at (place stripe start) (offset + n - start)) range
    longer (inl w) = let ends = w.ends in record { stripe = w.stripe; begins = w.begins; ends = omega (arith, ends) }
    longer (inr h) = absurd h

-- the pointer of a block of n bytes, which lies in a piece
pub record IsOwn (log : LogId) (pieces : List Piece) (ptr : Ptr) (n : ℕ) : Type 0 where
  pub log_is : ptr.log ≡ log
  pub len_is : ptr.len ≡ n
  pub in_piece : SomeWithin pieces (range_of ptr)

pub own_each : (log : LogId) (pieces : List Piece) (ptrs : List Ptr) (lens : List ℕ) → AllZip (IsOwn log pieces) ptrs lens → AllZip (IsPtrIn log pieces) ptrs lens
own_each log pieces [] [] a = tt
own_each log pieces [] (n ∷ lens) a = absurd a
own_each log pieces (ptr ∷ ptrs) [] a = absurd a
own_each log pieces (ptr ∷ ptrs) (n ∷ lens) a =
    (record { log_is = a.0.log_is; len_is = a.0.len_is; in_piece = within_any pieces (range_of ptr) a.0.in_piece }, own_each log pieces ptrs lens a.1)

own_on : (log : LogId) (xs ys : List Piece) (ptrs : List Ptr) (lens : List ℕ) → ((range : Piece) → SomeWithin xs range → SomeWithin ys range) → AllZip (IsOwn log xs) ptrs lens → AllZip (IsOwn log ys) ptrs lens
own_on log xs ys [] [] f a = tt
own_on log xs ys [] (n ∷ lens) f a = absurd a
own_on log xs ys (ptr ∷ ptrs) [] f a = absurd a
own_on log xs ys (ptr ∷ ptrs) (n ∷ lens) f a =
    (record { log_is = a.0.log_is; len_is = a.0.len_is; in_piece = f (range_of ptr) a.0.in_piece }, own_on log xs ys ptrs lens f a.1)

own_ready : (log : LogId) (laid : Laid) (n : ℕ) (lens : List ℕ) → AllZip (IsOwn log (pieces_of laid)) laid.ptrs lens → AllZip (IsOwn log (pieces_of (ready laid n))) (ready laid n).ptrs lens
own_ready log laid n lens a =
    ready_both (λ (z : Laid). AllZip (IsOwn log (pieces_of z)) z.ptrs lens) laid n (λ h. a) (subst (λ (z : List Piece). AllZip (IsOwn log z) laid.ptrs lens) (sym (append-nil (pieces_of laid))) a)

-- a block that goes at the place at hand lies in the piece at hand
own_moved : (log : LogId) (from : Place) (laid : Laid) (n : ℕ) (lens : List ℕ) → 1 ≤ n → IsLaid from laid → AllZip (IsOwn log (pieces_of laid)) laid.ptrs lens
    → AllZip (IsOwn log (pieces_of (moved laid n))) (laid.ptrs ++ ptr_at log laid.next n ∷ []) (lens ++ n ∷ [])
own_moved log from laid n lens some l a =
    let start = l.start in
    let here : SomeWithin (between laid.next.stripe laid.start (laid.next.offset + n)) (piece_at laid.next n) =
    subst (λ (z : List Piece). SomeWithin z (piece_at laid.next n)) (sym (between_some laid.next.stripe laid.start (laid.next.offset + n) (omega arith)))
    (inl (record { stripe = refl; begins = start; ends = omega arith })) in
    all_zipped_more (IsOwn log (pieces_of (moved laid n))) laid.ptrs lens (ptr_at log laid.next n) n
    (own_on log (pieces_of laid) (pieces_of (moved laid n)) laid.ptrs lens
    (λ range s. within_on laid.left (between laid.next.stripe laid.start laid.next.offset) (between laid.next.stripe laid.start (laid.next.offset + n)) range (within_longer laid.next.stripe laid.start laid.next.offset n range) s) a)
    (record { log_is = refl; len_is = refl; in_piece = within_behind laid.left (between laid.next.stripe laid.start (laid.next.offset + n)) (piece_at laid.next n) here })

pub own_block : (log : LogId) (from : Place) (laid : Laid) (n : ℕ) (lens : List ℕ) → laid.log ≡ log → 1 ≤ n → IsLaid from laid → AllZip (IsOwn log (pieces_of laid)) laid.ptrs lens
    → AllZip (IsOwn log (pieces_of (with_block laid n))) (with_block laid n).ptrs (lens ++ n ∷ [])
own_block log from laid n lens is some l a =
    let there = own_moved log from (ready laid n) n lens some (laid_ready from laid n l) (own_ready log laid n lens a) in
    subst (λ (z : LogId). AllZip (IsOwn log (pieces_of (added laid n))) (laid.ptrs ++ ptr_at z (ready laid n).next n ∷ []) (lens ++ n ∷ [])) (sym is)
    (subst (λ (z : List Ptr). AllZip (IsOwn log (pieces_of (added laid n))) (z ++ ptr_at log (ready laid n).next n ∷ []) (lens ++ n ∷ [])) (ready_ptrs laid n) there)

ready_log : (laid : Laid) (n : ℕ) → (ready laid n).log ≡ laid.log
ready_log laid n = ready_both (λ (z : Laid). z.log ≡ laid.log) laid n (λ h. refl) refl

pub meta_log : (laid : Laid) (n : ℕ) → (with_meta laid n).log ≡ laid.log
meta_log laid zero = refl
meta_log laid (suc n) = meta_log (added laid 1) n ∙ ready_log laid 1

pub own_blocks : (from : Place) (log : LogId) (done more : List ℕ) (laid : Laid) → laid.log ≡ log → AllByRecursion (λ n. (1 ≤ n) × (n ≤ laid.room)) more → IsLaid from laid → AllZip (IsOwn log (pieces_of laid)) laid.ptrs done
    → AllZip (IsOwn log (pieces_of (fold with_block laid more))) (fold with_block laid more).ptrs (done ++ more)
own_blocks from log done [] laid is fit l a = subst (λ (z : List ℕ). AllZip (IsOwn log (pieces_of laid)) laid.ptrs z) (sym (append-nil done)) a
own_blocks from log done (n ∷ more) laid is fit l a =
    subst (λ (z : List ℕ). AllZip (IsOwn log (pieces_of (fold with_block (with_block laid n) more))) (fold with_block (with_block laid n) more).ptrs z) (append_assoc done (n ∷ []) more)
    (own_blocks from log (done ++ n ∷ []) more (with_block laid n) (ready_log laid n ∙ is) (subst (λ (z : ℕ). AllByRecursion (λ n. (1 ≤ n) × (n ≤ z)) more) (sym (ready_room laid n)) fit.1)
    (laid_block from laid n fit.0.1 l) (own_block log from laid n done is fit.0.0 l a))
