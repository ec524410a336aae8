-- The parts of a batch that was placed last.
use Rattle.std.proofs.Common.{◌∙◌, ◌≡◌, inl, inr, ℕ, suc, Bool, cond, get_or, ◌+◌, ◌-◌, ◌*◌, ◌<◌, ◌≤◌, List, [], ◌∷◌, ◌++◌, length, take, drop, map, refl, sym, ap, subst, arith}
use Rattle.std.specs.Prelude.{slice_get, Option, Some, All}
use Rattle.std.proofs.lemmas.Bool.{cases_eq, eq-eqb, ne_eqb}
use Rattle.std.specs.List.{AllByRecursion, AllZip, concat}
use Rattle.std.proofs.lemmas.List.{append-nil, append_assoc, at_drop_more, take-append-drop, nil_from_length, take_all, take_at, drop_at, length-append, length-drop, length-take-le}
use Rattle.std.proofs.lemmas.List.Elements.{recursion_from_All, All-from_recursion}
use Rattle.std.proofs.lemmas.List.Kept.{AllPairs-cons}
use Rattle.zb_types.specs.declared.ids.Piece.{Piece}
use Rattle.zb_types.specs.declared.ids.Ptr.{Ptr}
use Rattle.zb_stripe.specs.declared.flush.Part.{Part}
use Rattle.zb_stripe.specs.declared.flush.Flush.{Flush}
use Rattle.zb_stripe.specs.declared.flush.Fresh.{Fresh}
use Rattle.zb_stripe.specs.declared.flush.FreshFlush.{FreshFlush}
use Rattle.zb_stripe.specs.Writing.{StripesRise, parity_upto}
use Rattle.zb_stripe.specs.Fresh.{IsFresh, AreFresh, IsFreshFlush, HasRoom}
use Rattle.zb_holding.specs.Placing.{share_length}
use Rattle.zb_stripe.proofs.Making.{length-parity, parity_none}
use Rattle.zb_log.specs.declared.places.Place.{Place}
use Rattle.zb_log.specs.declared.placed.Placed.{Placed}
use Rattle.zb_log.specs.Places.{place, piece_at, end_of, BeginsNext, InOrder}
use Rattle.zb_log.specs.Placing.{Laid, begun, between, pieces_of, with_meta, last_stripe, AreBlocks}
use Rattle.zb_log.specs.Sealing.{part_of, given_of, parts_of, HaveBytes, GoBehind, IsPartOf, GoesNext, LiesAhead, StandEach, read_at}
use Rattle.zb_log.specs.Logs.{SeenLog, AreGiven, ForGiven, IsSound, IsPlaced, IsSealed, flush_of, laid_next, last_of, bytes_with, parity_with, end_with, gone_on}
use Rattle.zb_log.proofs.Steps.{meta_room}
use Rattle.zb_log.proofs.Order.{HasBytes, order_rises, pieces_order, pieces_some, pieces_begin, Rises, pieces_rise}
use Rattle.zb_log.proofs.Standing.{lens_of, lens_append, lens_between, between_some, given_long, parts_append, IsGiven, given_begun, given_meta, given_blocks, given_stand}
use Rattle.zb_log.proofs.Placings.{next_room, next_top, next_within, gives_pieces, blocks_fit}

part_long : (before : List ℕ) (piece : Piece) (new : List ℕ) → length before ≡ piece.offset → piece.len ≤ length new → length (part_of before piece (take piece.len new)).bytes ≡ piece.offset + piece.len
part_long before piece new at has = omega (arith, length-append before (take piece.len new), length-take-le piece.len new has)

-- a part goes next where its piece lies in the log
part_next : (seen : SeenLog) (bytes : List ℕ) (piece : Piece) (new : List ℕ) → length bytes ≡ seen.next.offset → BeginsNext seen.next piece → piece.offset + piece.len ≤ seen.room → piece.stripe ≤ last_stripe → 0 < piece.len
    → piece.len ≤ length new → GoesNext seen.room seen.next.stripe bytes (part_of (given_of seen.next.stripe bytes piece.stripe) piece (take piece.len new))
part_next seen bytes piece new whole begins within low some has =
    let before : List ℕ = given_of seen.next.stripe bytes piece.stripe in
    let at : length before ≡ piece.offset = given_long seen.next.stripe bytes seen.next piece refl whole begins in
    let long = part_long before piece new at has in
    record {
      writable = record { new = omega arith; room = omega arith };
      begin = refl;
      front = take_at before (take piece.len new) (length before) refl;
      above = begins.stripe;
      lasting = low;
    }

pub parts_next : (seen : SeenLog) (bytes : List ℕ) (pieces : List Piece) (new : List ℕ) (from to : Place) → length bytes ≡ seen.next.offset → AllByRecursion (BeginsNext seen.next) pieces → InOrder seen.room from pieces to → to.stripe ≤ last_stripe
    → AllByRecursion HasBytes pieces → lens_of pieces ≤ length new
    → HaveBytes seen.next.stripe bytes pieces new × AllByRecursion (GoesNext seen.room seen.next.stripe bytes) (parts_of seen.next.stripe bytes pieces new)
parts_next seen bytes [] new from to whole begin o low some le = (tt, tt)
parts_next seen bytes (piece ∷ pieces) new from to whole begin o low some le =
    let has : piece.len ≤ length new = omega arith in
    let rest : lens_of pieces ≤ length (drop piece.len new) = omega (arith, length-drop piece.len new) in
    let more = parts_next seen bytes pieces (drop piece.len new) (end_of piece) to whole begin.1 o.1 low some.1 rest in
    let up = (order_rises seen.room pieces (end_of piece) to o.1).stripe in
    let at = given_long seen.next.stripe bytes seen.next piece refl whole begin.0 in
    ((has, at, more.0), (part_next seen bytes piece new whole begin.0 o.0.within (omega arith) some.0 has, more.1))

parts_above : (w : ℕ) (given : List ℕ) (low : ℕ) (pieces : List Piece) (new : List ℕ) → AllByRecursion (λ piece. low < piece.stripe) pieces → AllByRecursion (λ part. low < part.stripe) (parts_of w given pieces new)
parts_above w given low [] new a = tt
parts_above w given low (piece ∷ pieces) new a = (a.0, parts_above w given low pieces (drop piece.len new) a.1)

parts_rise : (w : ℕ) (given : List ℕ) (stripe : ℕ) (pieces : List Piece) (new : List ℕ) → Rises pieces stripe → StripesRise (parts_of w given pieces new)
parts_rise w given stripe [] new r = λ i j d lt below. absurd (omega arith)
parts_rise w given stripe (piece ∷ pieces) new r =
    let others = parts_of w given pieces (drop piece.len new) in
    AllPairs-cons (λ (one other : Part). one.stripe < other.stripe) (part_of (given_of w given piece.stripe) piece (take piece.len new)) others
    (All-from_recursion (λ (other : Part). piece.stripe < other.stripe) others (parts_above w given piece.stripe pieces (drop piece.len new) r.1)) (parts_rise w given stripe pieces (drop piece.len new) r.2)

-- a piece's bytes stand behind those before
piece_read : (before : List ℕ) (piece : Piece) (new : List ℕ) → length before ≡ piece.offset → piece.len ≤ length new
    → take piece.len (drop piece.offset (part_of before piece (take piece.len new)).bytes) ≡ take piece.len new
piece_read before piece new at has =
    ap (take piece.len) (drop_at before (take piece.len new) piece.offset at)
    ∙ take_all piece.len (take piece.len new) (omega (arith, length-take-le piece.len new has))

parts_read : (w : ℕ) (given : List ℕ) (pieces : List Piece) (new : List ℕ) → HaveBytes w given pieces new → lens_of pieces ≡ length new → read_at pieces (parts_of w given pieces new) ≡ new
parts_read w given [] new have long = sym (nil_from_length new (sym long))
parts_read w given (piece ∷ pieces) new have long =
    let rest : lens_of pieces ≡ length (drop piece.len new) = omega (arith, length-drop piece.len new) in
    ap (λ (z : List ℕ). z ++ read_at pieces (parts_of w given pieces (drop piece.len new))) (piece_read (given_of w given piece.stripe) piece new have.1 have.0)
    ∙ ap (λ (z : List ℕ). take piece.len new ++ z) (parts_read w given pieces (drop piece.len new) have.2 rest)
    ∙ take-append-drop piece.len new

-- each part is that of its piece
parts_are : (w : ℕ) (given : List ℕ) (pieces : List Piece) (new : List ℕ) → HaveBytes w given pieces new → AllZip IsPartOf pieces (parts_of w given pieces new)
parts_are w given [] new have = tt
parts_are w given (piece ∷ pieces) new have =
    (record { stripe = refl; begin = have.1; end = part_long (given_of w given piece.stripe) piece new have.1 have.0 }, parts_are w given pieces (drop piece.len new) have.2)

-- the last of some parts and one more
last_push : (parts : List Part) (part : Part) → last_of (parts ++ part ∷ []) ≡ Some part
last_push parts part =
    let at : length (parts ++ part ∷ []) - 1 ≡ length parts = omega (arith, length-append parts (part ∷ [])) in
    ap (slice_get (parts ++ part ∷ [])) at ∙ there parts part
  where
    there : (parts : List Part) (part : Part) → slice_get (parts ++ part ∷ []) (length parts) ≡ Some part
    there [] part = refl
    there (p ∷ parts) part = there parts part

-- a batch that goes next in a sound log, with its bytes
module _ (seen : SeenLog) (s : IsSound seen) (bytes : List ℕ) (whole : length bytes ≡ seen.next.offset) (meta : List ℕ) (blocks : List (List ℕ)) (a : AreBlocks seen.block (map length blocks)) where
  abbrev laid : Laid
  laid = laid_next seen (length meta) (map length blocks)

  abbrev new : List ℕ
  new = meta ++ concat blocks

  abbrev made : List Part
  made = parts_of seen.next.stripe bytes (pieces_of laid) new

  given : IsGiven seen.next.stripe bytes seen.next laid new blocks
  given =
      let first = begun seen.log seen.room seen.next in
      let fit = subst (λ (z : ℕ). AreBlocks z (map length blocks)) (sym (meta_room first (length meta))) (blocks_fit seen.block seen.room (map length blocks) s.fits a) in
      given_blocks seen.next.stripe bytes seen.next refl whole blocks (with_meta first (length meta)) meta [] (recursion_from_All (λ n. (1 ≤ n) × (n ≤ (with_meta first (length meta)).room)) (map length blocks) fit)
      (given_meta seen.next.stripe bytes seen.next refl whole meta first [] [] s.some (given_begun seen.next.stripe bytes seen.log seen.room seen.next s.within))

  long : lens_of (pieces_of laid) ≡ length new
  long =
      let both = lens_append laid.left (between laid.next.stripe laid.start laid.next.offset) in
      let last = lens_between laid.next.stripe laid.start laid.next.offset in
      let sums = given.long in
      let start = given.lies.start in
      omega arith

  pub sealed : laid.next.stripe ≤ last_stripe → HaveBytes seen.next.stripe bytes (pieces_of laid) new × AllByRecursion (GoesNext seen.room seen.next.stripe bytes) made
  sealed low = parts_next seen bytes (pieces_of laid) new seen.next laid.next whole (pieces_begin seen.next laid given.lies)
      (subst (λ (z : ℕ). InOrder z seen.next (pieces_of laid) laid.next) (next_room seen (length meta) (map length blocks)) (pieces_order seen.next laid given.lies)) low
      (pieces_some seen.next laid given.lies) (let sums = long in omega arith)

  pub stand : StandEach made laid.ptrs blocks
  stand = given_stand seen.next.stripe bytes seen.next laid new blocks given

  pub rise : StripesRise made
  rise = parts_rise seen.next.stripe bytes (laid.next.stripe + 1) (pieces_of laid) new (pieces_rise seen.next laid given.lies)

  pub reads : HaveBytes seen.next.stripe bytes (pieces_of laid) new → read_at (pieces_of laid) made ≡ new
  reads have = parts_read seen.next.stripe bytes (pieces_of laid) new have long

  -- the log goes on at the end of the last part
  pub ends : end_with seen.next (last_of made) ≡ laid.next
  ends = elim (next_top seen (length meta) (map length blocks) s a) as (λ _. end_with seen.next (last_of made) ≡ laid.next) [
    | inl none ↦
        let no_parts : made ≡ [] = ap (λ (z : List Piece). parts_of seen.next.stripe bytes z new) none.0 in
        ap (λ (z : List Part). end_with seen.next (last_of z)) no_parts ∙ sym none.1
    | inr top ↦
        let w = seen.next.stripe in
        let start = laid.start in
        let n = laid.next.offset - start in
        let rest = drop (lens_of laid.left) new in
        let piece = piece_at (place laid.next.stripe start) n in
        let before = given_of w bytes laid.next.stripe in
        let last = part_of before piece (take n rest) in
        let split : made ≡ parts_of w bytes laid.left new ++ last ∷ [] =
        parts_append w bytes laid.left (between laid.next.stripe start laid.next.offset) new
        ∙ ap (λ (z : List Piece). parts_of w bytes laid.left new ++ parts_of w bytes z rest) (between_some laid.next.stripe start laid.next.offset top) in
        let at : length before ≡ start = given_long w bytes seen.next (piece_at (place laid.next.stripe start) 0) refl whole given.lies.starts in
        let sums = given.long in
        let has : n ≤ length rest = omega (arith, length-drop (lens_of laid.left) new) in
        let whole : length last.bytes ≡ laid.next.offset = (let long = part_long before piece rest at has in omega arith) in
        ap (λ (z : List Part). end_with seen.next (last_of z)) split
        ∙ ap (end_with seen.next) (last_push (parts_of w bytes laid.left new) last)
        ∙ ap (place laid.next.stripe) whole
  ]

-- a batch that was placed next may be sealed, and the log go on
pub record CanSeal (seen : SeenLog) (bytes : List ℕ) (meta : List ℕ) (blocks : List (List ℕ)) (pieces : List Piece) (ptrs : List Ptr) (next : Place) : Type 0 where
  pub have : HaveBytes seen.next.stripe bytes pieces (meta ++ concat blocks)
  pub each : AllByRecursion (GoesNext seen.room seen.next.stripe bytes) (parts_of seen.next.stripe bytes pieces (meta ++ concat blocks))
  pub are : AllZip IsPartOf pieces (parts_of seen.next.stripe bytes pieces (meta ++ concat blocks))
  pub stand : StandEach (parts_of seen.next.stripe bytes pieces (meta ++ concat blocks)) ptrs blocks
  pub rise : StripesRise (parts_of seen.next.stripe bytes pieces (meta ++ concat blocks))
  pub reads : read_at pieces (parts_of seen.next.stripe bytes pieces (meta ++ concat blocks)) ≡ meta ++ concat blocks
  pub ends : end_with seen.next (last_of (parts_of seen.next.stripe bytes pieces (meta ++ concat blocks))) ≡ next

pub can_seal : (seen : SeenLog) (bytes meta : List ℕ) (blocks : List (List ℕ)) (placed : Placed) → IsSound seen → length bytes ≡ seen.next.offset → IsPlaced seen (length meta) (map length blocks) placed → CanSeal seen bytes meta blocks placed.pieces placed.ptrs placed.next
can_seal seen bytes meta blocks placed s whole p =
    let laid = laid_next seen (length meta) (map length blocks) in
    let low = subst (λ (z : Place). z.stripe ≤ last_stripe) p.next p.lasting in
    let facts = sealed seen s bytes whole meta blocks p.lens low in
    let first : CanSeal seen bytes meta blocks (pieces_of laid) laid.ptrs laid.next = record { have = facts.0; each = facts.1; are = parts_are seen.next.stripe bytes (pieces_of laid) (meta ++ concat blocks) facts.0; stand = stand seen s bytes whole meta blocks p.lens; rise = rise seen s bytes whole meta blocks p.lens; reads = reads seen s bytes whole meta blocks p.lens facts.0; ends = ends seen s bytes whole meta blocks p.lens } in
    subst (λ (z : Place). CanSeal seen bytes meta blocks placed.pieces placed.ptrs z) (sym p.next)
    (subst (λ (z : List Piece). CanSeal seen bytes meta blocks z placed.ptrs laid.next) (sym p.pieces)
    (subst (λ (z : List Ptr). CanSeal seen bytes meta blocks (pieces_of laid) z laid.next) (sym p.ptrs) first))

-- ---- what is new of the parts

-- the parity before a piece is that of the bytes before it
pub parity_given : (n f w : ℕ) (parity given : List ℕ) (stripe : ℕ) → 2 ≤ n → parity ≡ parity_upto n f given → given_of w parity stripe ≡ parity_upto n f (given_of w given stripe)
parity_given n f w parity given stripe two is =
    elim (cases_eq stripe w) as (λ _. given_of w parity stripe ≡ parity_upto n f (given_of w given stripe)) [
      | inl here ↦
          ap (λ (b : Bool). cond b parity []) (eq-eqb stripe w here) ∙ is
          ∙ sym (ap (λ (b : Bool). parity_upto n f (cond b given [])) (eq-eqb stripe w here))
      | inr other ↦
          ap (λ (b : Bool). cond b parity []) (ne_eqb stripe w other) ∙ parity_none n f two
          ∙ sym (ap (λ (b : Bool). parity_upto n f (cond b given [])) (ne_eqb stripe w other))
    ]

-- what is new of a piece's stripe
pub fresh_is : (n f : ℕ) (before : List ℕ) (piece : Piece) (new bytes parity : List ℕ) → length before ≡ piece.offset → bytes ≡ new → parity ≡ parity_upto n f (before ++ new)
    → IsFresh n f (part_of before piece new) (record { stripe = piece.stripe; begin = piece.offset; bytes = bytes; parity = parity })
fresh_is n f before piece new bytes parity long same sums = record {
  stripe = refl;
  begin = sym long;
  bytes = same ∙ sym (drop_at before new (length before) refl);
  parity = sums;
}

-- the first of some pieces that go behind what was given
pub record BehindFirst (n f w : ℕ) (parity : List ℕ) (piece : Piece) (pieces : List Piece) (rest : List ℕ) : Type 0 where
  pub has : piece.len ≤ length rest
  pub room : piece.offset + piece.len ≤ (n - 1) * f
  pub long : length (given_of w parity piece.stripe) ≡ share_length f piece.offset 0
  pub more : GoBehind n f w parity pieces (drop piece.len rest)

behind_one : (n f w : ℕ) (parity : List ℕ) (piece : Piece) (pieces : List Piece) (rest : List ℕ) → 2 ≤ n → GoBehind n f w parity (piece ∷ pieces) rest → BehindFirst n f w parity piece pieces rest
behind_one n f w parity piece pieces rest two b = record {
  has = b.have.0;
  room = b.room.0;
  long = ap length (parity_given n f w parity b.given piece.stripe two b.sums) ∙ length-parity n f (given_of w b.given piece.stripe) two ∙ ap (λ (m : ℕ). share_length f m 0) b.have.1;
  more = record { given = b.given; sums = b.sums; have = b.have.2; room = b.room.1 };
}

pub behind_first : (n f w : ℕ) (parity : List ℕ) (left : List Piece) (piece : Piece) (pieces : List Piece) (rest : List ℕ) → 2 ≤ n → left ≡ piece ∷ pieces → GoBehind n f w parity left rest → BehindFirst n f w parity piece pieces rest
behind_first n f w parity left piece pieces rest two is b = behind_one n f w parity piece pieces rest two (subst (λ (z : List Piece). GoBehind n f w parity z rest) is b)

-- pieces of which some are left, and what is new of the others
pub record Growing (n f w : ℕ) (parity : List ℕ) (all : List Piece) (new : List ℕ) (left : List Piece) (rest : List ℕ) (done : List Fresh) : Type 0 where
  pub behind : GoBehind n f w parity left rest
  pub have : (given : List ℕ) → HaveBytes w given all new → HaveBytes w given left rest
  pub fresh : (given : List ℕ) (tail : List Fresh) → parity ≡ parity_upto n f given → HaveBytes w given all new
      → AreFresh n f (parts_of w given left rest) tail → AreFresh n f (parts_of w given all new) (done ++ tail)

pub none_grown : (n f w : ℕ) (parity : List ℕ) (all : List Piece) (new : List ℕ) → GoBehind n f w parity all new → Growing n f w parity all new all new []
none_grown n f w parity all new b = record { behind = b; have = λ given h. h; fresh = λ given tail sums h are. are }

module _ (n f w : ℕ) (two : 2 ≤ n) (parity : List ℕ) (all : List Piece) (new : List ℕ) where
  one_grown_here : (done : List Fresh) (piece : Piece) (pieces : List Piece) (rest start : List ℕ) (one : Fresh)
      → start ≡ given_of w parity piece.stripe
      → ((before : List ℕ) → length before ≡ piece.offset → start ≡ parity_upto n f before → IsFresh n f (part_of before piece (take piece.len rest)) one)
      → Growing n f w parity all new (piece ∷ pieces) rest done → Growing n f w parity all new pieces (drop piece.len rest) (done ++ one ∷ [])
  one_grown_here done piece pieces rest start one at is g = record {
    behind = (behind_one n f w parity piece pieces rest two g.behind).more;
    have = λ given h. (g.have given h).2;
    fresh = λ given tail sums h are.
        let this = is (given_of w given piece.stripe) (g.have given h).1 (at ∙ parity_given n f w parity given piece.stripe two sums) in
        subst (AreFresh n f (parts_of w given all new)) (sym (append_assoc done (one ∷ []) tail)) (g.fresh given (one ∷ tail) sums h (this, are));
  }

  -- one more
  pub one_grown : (done : List Fresh) (left : List Piece) (piece : Piece) (pieces : List Piece) (rest start own others : List ℕ) (one : Fresh)
      → left ≡ piece ∷ pieces → start ≡ given_of w parity piece.stripe → own ≡ take piece.len rest → others ≡ drop piece.len rest
      → ((before : List ℕ) → length before ≡ piece.offset → start ≡ parity_upto n f before → IsFresh n f (part_of before piece own) one)
      → Growing n f w parity all new left rest done → Growing n f w parity all new pieces others (done ++ one ∷ [])
  one_grown done left piece pieces rest start own others one split at first behind is g =
      subst (λ (z : List ℕ). Growing n f w parity all new pieces z (done ++ one ∷ [])) (sym behind)
      (one_grown_here done piece pieces rest start one at
      (subst (λ (z : List ℕ). (before : List ℕ) → length before ≡ piece.offset → start ≡ parity_upto n f before → IsFresh n f (part_of before piece z) one) first is)
      (subst (λ (z : List Piece). Growing n f w parity all new z rest done) split g))

  -- all of them
  pub all_grown : (done : List Fresh) (left : List Piece) (rest given : List ℕ) → left ≡ [] → Growing n f w parity all new left rest done → parity ≡ parity_upto n f given → HaveBytes w given all new
      → AreFresh n f (parts_of w given all new) done
  all_grown done left rest given none g sums h =
      subst (AreFresh n f (parts_of w given all new)) (append-nil done)
      (g.fresh given [] sums h (subst (λ (z : List Piece). AreFresh n f (parts_of w given z rest) []) (sym none) tt))

pub drop_head : (pieces : List Piece) (i : ℕ) (d : Piece) → i < length pieces → drop i pieces ≡ get_or pieces i d ∷ drop (i + 1) pieces
drop_head pieces i d lt = at_drop_more (λ (z : List Piece). z) pieces i d lt

pub drop_none : (pieces : List Piece) (i : ℕ) → length pieces ≤ i → drop i pieces ≡ []
drop_none pieces i le = nil_from_length (drop i pieces) (omega (arith, length-drop i pieces))

-- nothing is given at the start of a stripe
pub none_given : (seen : SeenLog) → 2 ≤ seen.servers → seen.next.offset ≡ 0 → seen.parity ≡ [] → AreGiven seen []
none_given seen two start none = record { long = sym start; parity = none ∙ parity_none seen.servers seen.fragment two }

-- each piece of pieces in order lies within its stripe
pub each_within : (room : ℕ) (pieces : List Piece) (from to : Place) → InOrder room from pieces to → AllByRecursion (λ piece. piece.offset + piece.len ≤ room) pieces
each_within room [] from to o = tt
each_within room (piece ∷ pieces) from to o = (o.0.within, each_within room pieces (end_of piece) to o.1)

-- a batch that was placed next goes behind bytes that were given
pub goes_behind : (seen : SeenLog) (meta : List ℕ) (blocks : List (List ℕ)) (placed : Placed) → IsSound seen → IsPlaced seen (length meta) (map length blocks) placed
    → GoBehind seen.servers seen.fragment seen.next.stripe seen.parity placed.pieces (meta ++ concat blocks)
goes_behind seen meta blocks placed s p =
    let can = can_seal seen s.given meta blocks placed s s.are.long p in
    let order = gives_pieces seen placed.next (length meta) (map length blocks) placed.pieces s p.lens p.pieces p.next in
    record {
      given = s.given;
      sums = s.are.parity;
      have = can.have;
      room = subst (λ (z : ℕ). AllByRecursion (λ piece. piece.offset + piece.len ≤ z) placed.pieces) s.sizes (each_within seen.room placed.pieces seen.next placed.next order);
    }

-- what holds of a part that goes next holds of what is new of it
fresh_room : (n f room at_work : ℕ) (given : List ℕ) (part : Part) (fresh : Fresh) → GoesNext room at_work given part → IsFresh n f part fresh → HasRoom room fresh
fresh_room n f room at_work given part fresh g is =
    let some = g.writable.new in
    let most = g.writable.room in
    let begin = is.begin in
    let len = ap length is.bytes ∙ length-drop part.begin part.bytes in
    record { new = omega arith; room = omega arith }

fresh_ahead : (n f room at_work : ℕ) (given : List ℕ) (part : Part) (fresh : Fresh) → GoesNext room at_work given part → IsFresh n f part fresh → LiesAhead at_work fresh
fresh_ahead n f room at_work given part fresh g is =
    let low = g.above in
    let high = g.lasting in
    let same = is.stripe in
    record { above = omega arith; lasting = omega arith }

pub each_fresh : (n f : ℕ) (P : Part → Type 0) (Q : Fresh → Type 0) (parts : List Part) (fresh : List Fresh) → ((part : Part) (one : Fresh) → P part → IsFresh n f part one → Q one)
    → AllByRecursion P parts → AreFresh n f parts fresh → AllByRecursion Q fresh
each_fresh n f P Q [] [] to each are = tt
each_fresh n f P Q [] (one ∷ fresh) to each are = absurd are
each_fresh n f P Q (part ∷ parts) [] to each are = absurd are
each_fresh n f P Q (part ∷ parts) (one ∷ fresh) to each are = (to part one each.0 are.0, each_fresh n f P Q parts fresh to each.1 are.1)

module _ (seen : SeenLog) (meta : List ℕ) (blocks : List (List ℕ)) (placed : Placed) (s : IsSound seen) (p : IsPlaced seen (length meta) (map length blocks) placed) (fresh : List Fresh)
    (are : ForGiven seen (λ given. AreFresh seen.servers seen.fragment (parts_of seen.next.stripe given placed.pieces (meta ++ concat blocks)) fresh)) where
  abbrev flushed : List Part
  flushed = parts_of seen.next.stripe s.given placed.pieces (meta ++ concat blocks)

  pub all_room : All (HasRoom seen.room) fresh
  all_room = All-from_recursion (HasRoom seen.room) fresh
      (each_fresh seen.servers seen.fragment (GoesNext seen.room seen.next.stripe s.given) (HasRoom seen.room) flushed fresh
      (fresh_room seen.servers seen.fragment seen.room seen.next.stripe s.given) (can_seal seen s.given meta blocks placed s s.are.long p).each (are s.given s.are))

  pub all_ahead : All (LiesAhead seen.next.stripe) fresh
  all_ahead = All-from_recursion (LiesAhead seen.next.stripe) fresh
      (each_fresh seen.servers seen.fragment (GoesNext seen.room seen.next.stripe s.given) (LiesAhead seen.next.stripe) flushed fresh
      (fresh_ahead seen.servers seen.fragment seen.room seen.next.stripe s.given) (can_seal seen s.given meta blocks placed s s.are.long p).each (are s.given s.are))

-- ---- the log goes on

-- what is new of the last part is the last of what is new
record LastFresh (n f : ℕ) (given parity : List ℕ) (next : Place) (o : Option Part) (fresh : List Fresh) : Type 0 where
  sums : parity ≡ parity_upto n f given → parity_with parity (last_of fresh) ≡ parity_upto n f (bytes_with given o)
  long : length given ≡ next.offset → length (bytes_with given o) ≡ (end_with next o).offset

pub last_cons : {A : Type 0} (x y : A) (ys : List A) → last_of (x ∷ (y ∷ ys)) ≡ last_of (y ∷ ys)
last_cons x y ys =
    let one : suc (suc (length ys)) - 1 ≡ suc (length ys) = omega arith in
    let other : length ys ≡ suc (length ys) - 1 = omega arith in
    ap (slice_get (x ∷ (y ∷ ys))) one ∙ ap (slice_get (y ∷ ys)) other

last_fresh : (n f : ℕ) (before parity : List ℕ) (next : Place) (parts : List Part) (fresh : List Fresh) → AreFresh n f parts fresh → LastFresh n f before parity next (last_of parts) fresh
last_fresh n f before parity next [] [] are = record { sums = λ e. e; long = λ e. e }
last_fresh n f before parity next [] (one ∷ fresh) are = absurd are
last_fresh n f before parity next (part ∷ parts) [] are = absurd are
last_fresh n f before parity next (part ∷ []) (one ∷ []) are = record { sums = λ e. are.0.parity; long = λ e. refl }
last_fresh n f before parity next (part ∷ []) (one ∷ (other ∷ fresh)) are = absurd are.1
last_fresh n f before parity next (part ∷ (another ∷ parts)) (one ∷ []) are = absurd are.1
last_fresh n f before parity next (part ∷ (another ∷ parts)) (one ∷ (other ∷ fresh)) are =
    let rest = last_fresh n f before parity next (another ∷ parts) (other ∷ fresh) are.1 in
    let same = last_cons part another parts in
    let last = last_cons one other fresh in
    record {
      sums = λ e. ap (parity_with parity) last ∙ rest.sums e ∙ sym (ap (λ (o : Option Part). parity_upto n f (bytes_with before o)) same);
      long = λ e. ap (λ (o : Option Part). length (bytes_with before o)) same ∙ rest.long e ∙ sym (ap (λ (o : Option Part). (end_with next o).offset) same);
    }

-- the bytes of the last part are given then
pub given_on : (seen : SeenLog) (next : Place) (given : List ℕ) (flush : Flush) (fresh : FreshFlush) → AreGiven seen given → IsFreshFlush seen.servers seen.fragment flush fresh
    → end_with seen.next (last_of flush.parts) ≡ next → AreGiven (gone_on seen next fresh.parts) (bytes_with given (last_of flush.parts))
given_on seen next given flush fresh are is end =
    let last = last_fresh seen.servers seen.fragment given seen.parity seen.next flush.parts fresh.parts is.parts in
    record {
      long = last.long are.long ∙ ap (λ (z : Place). z.offset) end;
      parity = last.sums are.parity;
    }

-- the log is sound behind it
goes_on_sound : (seen : SeenLog) (placed : Placed) (fresh : FreshFlush) → IsSound seen → IsSealed seen placed fresh → IsSound (gone_on seen placed.next fresh.parts)
goes_on_sound seen placed fresh s f =
    let p = f.is_placed in
    let flush = flush_of seen s.given placed (f.meta ++ concat f.blocks) in
    let can = can_seal seen s.given f.meta f.blocks placed s s.are.long p in
    let within = next_within seen (length f.meta) (map length f.blocks) s p.lens in
    record {
      given = bytes_with s.given (last_of flush.parts);
      are = given_on seen placed.next s.given flush fresh s.are (f.parts s.given s.are) can.ends;
      sizes = s.sizes;
      within = subst (λ (z : Place). z.offset ≤ seen.room) (sym p.next) within;
      fits = s.fits;
      some = s.some;
      small = s.small;
      lasting = let low = p.lasting in omega arith;
    }

pub goes_on_gives : (seen : SeenLog) (placed : Placed) (fresh : FreshFlush) → IsSound seen → IsSealed seen placed fresh → InOrder seen.room seen.next placed.pieces placed.next
goes_on_gives seen placed fresh s f =
    let p = f.is_placed in
    gives_pieces seen placed.next (length f.meta) (map length f.blocks) placed.pieces s p.lens p.pieces p.next

-- the log behind it, with its parity
pub sound_with : (seen : SeenLog) (placed : Placed) (fresh : FreshFlush) (parity : List ℕ) → IsSound seen → IsSealed seen placed fresh → parity ≡ parity_with seen.parity (last_of fresh.parts) → IsSound (record seen { next = placed.next; parity = parity })
sound_with seen placed fresh parity s f e = subst (λ (z : List ℕ). IsSound (record seen { next = placed.next; parity = z })) (sym e) (goes_on_sound seen placed fresh s f)
