-- What a placed batch makes of a log.
use Rattle.std.proofs.Common.{◌∷◌, [], ◌≡◌, ◌⊎◌, inl, inr, ℕ, zero, suc, ◌+◌, ◌-◌, ◌<◌, ◌≤◌, ltb, List, map, fold, refl, sym, subst, ◌∙◌, arith}
use Rattle.std.specs.Prelude.{All}
use Rattle.std.specs.List.{AllByRecursion, AllZip}
use Rattle.std.proofs.lemmas.Bool.{cond_both, ltb-true}
use Rattle.std.proofs.lemmas.List.Elements.{recursion_from_All, All-from_recursion}
use Rattle.std.proofs.lemmas.List.Kept.{AllPairs-cons}
use Rattle.zb_types.specs.declared.ids.LogId.{LogId}
use Rattle.zb_types.specs.declared.ids.Piece.{Piece}
use Rattle.zb_types.specs.declared.ids.Ptr.{Ptr}
use Rattle.zb_log.specs.declared.places.Place.{Place}
use Rattle.zb_log.specs.Places.{place, piece_at, BeginsNext, range_of, InOrder}
use Rattle.zb_log.specs.Placing.{Laid, begun, pieces_of, added, with_meta, with_block, AreBlocks, OneAStripe}
use Rattle.zb_log.specs.Logs.{SeenLog, IsSound, IsPtrIn, laid_next, behind_meta}
use Rattle.zb_log.proofs.Steps.{ready_room, meta_room, blocks_room}
use Rattle.zb_log.proofs.Pointers.{lie_blocks, lie_none, meta_ptrs, meta_log, IsOwn, own_blocks, own_each}
use Rattle.zb_log.proofs.Order.{IsLaid, Rises, pieces_rise, pieces_order, pieces_begin, laid_begun, laid_meta, laid_added, laid_ready, laid_block, laid_blocks}

pub next_room : (seen : SeenLog) (meta : ℕ) (blocks : List ℕ) → (laid_next seen meta blocks).room ≡ seen.room
next_room seen meta blocks = blocks_room (with_meta (begun seen.log seen.room seen.next) meta) blocks ∙ meta_room (begun seen.log seen.room seen.next) meta

-- blocks fit into a stripe
pub blocks_fit : (block room : ℕ) (lens : List ℕ) → block ≤ room → AreBlocks block lens → AreBlocks room lens
blocks_fit block room lens le a = λ k d lt. ((a k d lt).0, let h = (a k d lt).1 in omega arith)

blocks_within : (seen : SeenLog) (meta : ℕ) (blocks : List ℕ) → IsSound seen → AreBlocks seen.block blocks → AllByRecursion (λ n. n ≤ (with_meta (begun seen.log seen.room seen.next) meta).room) blocks
blocks_within seen meta blocks s a =
    let first = begun seen.log seen.room seen.next in
    let fit : All (λ n. n ≤ seen.room) blocks = λ k d lt. (blocks_fit seen.block seen.room blocks s.fits a k d lt).1 in
    recursion_from_All (λ n. n ≤ (with_meta first meta).room) blocks (subst (λ (z : ℕ). All (λ n. n ≤ z) blocks) (sym (meta_room first meta)) fit)

pub next_laid : (seen : SeenLog) (meta : ℕ) (blocks : List ℕ) → IsSound seen → AreBlocks seen.block blocks → IsLaid seen.next (laid_next seen meta blocks)
next_laid seen meta blocks s a =
    let first = begun seen.log seen.room seen.next in
    laid_blocks seen.next (with_meta first meta) blocks (blocks_within seen meta blocks s a)
    (laid_meta seen.next first meta s.some (laid_begun seen.log seen.room seen.next s.within))

pub gives_pieces : (seen : SeenLog) (next : Place) (meta : ℕ) (blocks : List ℕ) (pieces : List Piece) → IsSound seen → AreBlocks seen.block blocks
    → pieces ≡ pieces_of (laid_next seen meta blocks) → next ≡ (laid_next seen meta blocks).next → InOrder seen.room seen.next pieces next
gives_pieces seen next meta blocks pieces s a is to =
    let laid = laid_next seen meta blocks in
    let o = pieces_order seen.next laid (next_laid seen meta blocks s a) in
    subst (λ (z : Place). InOrder seen.room seen.next pieces z) (sym to)
    (subst (λ (z : List Piece). InOrder seen.room seen.next z laid.next) (sym is) (subst (λ (z : ℕ). InOrder z seen.next (pieces_of laid) laid.next) (next_room seen meta blocks) o))

pub blocks_lie : (seen : SeenLog) (next : Place) (meta : ℕ) (blocks : List ℕ) (ptrs : List Ptr) → IsSound seen → AreBlocks seen.block blocks
    → ptrs ≡ (laid_next seen meta blocks).ptrs → next ≡ (laid_next seen meta blocks).next → InOrder seen.room (behind_meta seen meta) (map range_of ptrs) next
blocks_lie seen next meta blocks ptrs s a is to =
    let laid = laid_next seen meta blocks in
    let first = begun seen.log seen.room seen.next in
    let o = lie_blocks (behind_meta seen meta) (with_meta first meta) blocks (blocks_within seen meta blocks s a) (lie_none (with_meta first meta) (meta_ptrs first meta)) in
    subst (λ (z : Place). InOrder seen.room (behind_meta seen meta) (map range_of ptrs) z) (sym to)
    (subst (λ (z : List Ptr). InOrder seen.room (behind_meta seen meta) (map range_of z) laid.next) (sym is) (subst (λ (z : ℕ). InOrder z (behind_meta seen meta) (map range_of laid.ptrs) laid.next) (next_room seen meta blocks) o))

pairs_rise : (pieces : List Piece) (stripe : ℕ) → Rises pieces stripe → OneAStripe pieces
pairs_rise [] stripe r = λ i j d lt below. absurd (omega arith)
pairs_rise (piece ∷ pieces) stripe r =
    AllPairs-cons (λ (one other : Piece). one.stripe < other.stripe) piece pieces (All-from_recursion (λ (other : Piece). piece.stripe < other.stripe) pieces r.1) (pairs_rise pieces stripe r.2)

pub one_a_stripe : (seen : SeenLog) (meta : ℕ) (blocks : List ℕ) (pieces : List Piece) → IsSound seen → AreBlocks seen.block blocks → pieces ≡ pieces_of (laid_next seen meta blocks) → OneAStripe pieces
one_a_stripe seen meta blocks pieces s a is =
    let laid = laid_next seen meta blocks in
    subst OneAStripe (sym is) (pairs_rise (pieces_of laid) (laid.next.stripe + 1) (pieces_rise seen.next laid (next_laid seen meta blocks s a)))

-- nothing was placed, or the piece at hand has bytes
abbrev pub IsTop : Place → Laid → Type 0
IsTop from laid = ((pieces_of laid ≡ []) × (laid.next ≡ from)) ⊎ (laid.start < laid.next.offset)

top_begun : (log : LogId) (room : ℕ) (from : Place) → IsTop from (begun log room from)
top_begun log room from =
    inl (cond_both (ltb from.offset from.offset) (piece_at (place from.stripe from.offset) (from.offset - from.offset) ∷ []) [] (λ (z : List Piece). z ≡ []) (λ e. let lt = ltb-true from.offset from.offset e in absurd (omega arith)) (λ e. refl), refl)

top_added : (from : Place) (laid : Laid) (n : ℕ) → 1 ≤ n → IsLaid from laid → (added laid n).start < (added laid n).next.offset
top_added from laid n some l = let start = (laid_ready from laid n l).start in omega (arith, start)

top_meta : (from : Place) (laid : Laid) (n : ℕ) → 0 < laid.room → IsLaid from laid → IsTop from laid → IsTop from (with_meta laid n)
top_meta from laid zero some l t = t
top_meta from laid (suc n) some l t =
    top_meta from (added laid 1) n (subst (λ (z : ℕ). 0 < z) (sym (ready_room laid 1)) some) (laid_added from laid 1 some l) (inr (top_added from laid 1 (omega arith) l))

top_blocks : (from : Place) (laid : Laid) (lens : List ℕ) → AllByRecursion (λ n. (1 ≤ n) × (n ≤ laid.room)) lens → IsLaid from laid → IsTop from laid → IsTop from (fold with_block laid lens)
top_blocks from laid [] fit l t = t
top_blocks from laid (n ∷ lens) fit l t =
    top_blocks from (with_block laid n) lens (subst (λ (z : ℕ). AllByRecursion (λ n. (1 ≤ n) × (n ≤ z)) lens) (sym (ready_room laid n)) fit.1) (laid_block from laid n fit.0.1 l)
    (inr (top_added from laid n fit.0.0 l))

pub next_top : (seen : SeenLog) (meta : ℕ) (blocks : List ℕ) → IsSound seen → AreBlocks seen.block blocks → IsTop seen.next (laid_next seen meta blocks)
next_top seen meta blocks s a =
    let first = begun seen.log seen.room seen.next in
    let fit = subst (λ (z : ℕ). AreBlocks z blocks) (sym (meta_room first meta)) (blocks_fit seen.block seen.room blocks s.fits a) in
    let begin = laid_begun seen.log seen.room seen.next s.within in
    top_blocks seen.next (with_meta first meta) blocks (recursion_from_All (λ n. (1 ≤ n) × (n ≤ (with_meta first meta).room)) blocks fit)
    (laid_meta seen.next first meta s.some begin) (top_meta seen.next first meta s.some begin (top_begun seen.log seen.room seen.next))

pub next_within : (seen : SeenLog) (meta : ℕ) (blocks : List ℕ) → IsSound seen → AreBlocks seen.block blocks → (laid_next seen meta blocks).next.offset ≤ seen.room
next_within seen meta blocks s a = subst (λ (z : ℕ). (laid_next seen meta blocks).next.offset ≤ z) (next_room seen meta blocks) (next_laid seen meta blocks s a).within

pub pieces_next : (seen : SeenLog) (meta : ℕ) (blocks : List ℕ) (pieces : List Piece) → IsSound seen → AreBlocks seen.block blocks → pieces ≡ pieces_of (laid_next seen meta blocks) → All (BeginsNext seen.next) pieces
pieces_next seen meta blocks pieces s a is =
    let laid = laid_next seen meta blocks in
    subst (All (BeginsNext seen.next)) (sym is) (All-from_recursion (BeginsNext seen.next) (pieces_of laid) (pieces_begin seen.next laid (next_laid seen meta blocks s a)))

pub ptrs_lie : (seen : SeenLog) (meta : ℕ) (blocks : List ℕ) (pieces : List Piece) (ptrs : List Ptr) → IsSound seen → AreBlocks seen.block blocks → pieces ≡ pieces_of (laid_next seen meta blocks)
    → ptrs ≡ (laid_next seen meta blocks).ptrs → AllZip (IsPtrIn seen.log pieces) ptrs blocks
ptrs_lie seen meta blocks pieces ptrs s a is to =
    let first = begun seen.log seen.room seen.next in
    let laid = laid_next seen meta blocks in
    let fit = subst (λ (z : ℕ). AreBlocks z blocks) (sym (meta_room first meta)) (blocks_fit seen.block seen.room blocks s.fits a) in
    let begin = laid_meta seen.next first meta s.some (laid_begun seen.log seen.room seen.next s.within) in
    let o = own_blocks seen.next seen.log [] blocks (with_meta first meta) (meta_log first meta) (recursion_from_All (λ n. (1 ≤ n) × (n ≤ (with_meta first meta).room)) blocks fit) begin
    (subst (λ (z : List Ptr). AllZip (IsOwn seen.log (pieces_of (with_meta first meta))) z []) (sym (meta_ptrs first meta)) tt) in
    subst (λ (z : List Piece). AllZip (IsPtrIn seen.log z) ptrs blocks) (sym is)
    (subst (λ (z : List Ptr). AllZip (IsPtrIn seen.log (pieces_of laid)) z blocks) (sym to) (own_each seen.log (pieces_of laid) laid.ptrs blocks o))
