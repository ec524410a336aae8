-- The blocks of a placed batch stand at their addresses in its parts.
use Rattle.std.proofs.Common.{◌≡◌, ℕ, suc, ◌+◌, ◌-◌, ◌<◌, ◌≤◌, Bool, false, cond, ltb, List, [], ◌∷◌, ◌++◌, length, take, drop, map, fold, ◌⊎◌, inl, inr, refl, sym, ap, subst, ◌∙◌, append_assoc, arith}
use Rattle.std.specs.Prelude.{Any}
use Rattle.std.specs.List.{AllZip, AllByRecursion, concat}
use Rattle.std.proofs.lemmas.Bool.{cond_both, cases_eq, eq-eqb, ne_eqb, ltb-true, lt-ltb}
use Rattle.std.proofs.lemmas.List.{append-nil, drop-drop, take_all, take_at, drop_at, take-append-le, drop-append-le, length-append, length-drop}
use Rattle.std.proofs.lemmas.Slice.Zip.{all_zipped_more}
use Rattle.zb_types.specs.declared.ids.LogId.{LogId}
use Rattle.zb_types.specs.declared.ids.Piece.{Piece}
use Rattle.zb_types.specs.declared.ids.Ptr.{Ptr}
use Rattle.zb_stripe.specs.declared.flush.Part.{Part}
use Rattle.zb_log.specs.declared.places.Place.{Place}
use Rattle.zb_log.specs.Places.{place, BeginsNext, piece_at, ptr_at}
use Rattle.zb_log.specs.Placing.{Laid, begun, between, pieces_of, turned, ready, moved, added, with_meta, with_block}
use Rattle.zb_log.specs.Sealing.{part_of, given_of, parts_of, StandsIn, StandEach}
use Rattle.zb_log.proofs.Steps.{ready_both, ready_room, ready_fits}
use Rattle.zb_log.proofs.Order.{IsLaid, laid_begun, laid_ready, laid_moved, laid_block}

-- how many bytes pieces have
abbrev pub lens_of : List Piece → ℕ
lens_of [] = 0
lens_of (piece ∷ pieces) = piece.len + lens_of pieces

pub lens_append : (xs ys : List Piece) → lens_of (xs ++ ys) ≡ lens_of xs + lens_of ys
lens_append [] ys = omega arith
lens_append (x ∷ xs) ys = let h = lens_append xs ys in omega arith

pub lens_between : (stripe from to : ℕ) → lens_of (between stripe from to) ≡ to - from
lens_between stripe from to =
    cond_both (ltb from to) (piece_at (place stripe from) (to - from) ∷ []) [] (λ (z : List Piece). lens_of z ≡ to - from) (λ e. omega arith)
    (λ e. not_below from to e)
  where
    not_below : (a b : ℕ) → ltb a b ≡ false → 0 ≡ b - a
    not_below a b e = grind arith

pub between_some : (stripe from to : ℕ) → from < to → between stripe from to ≡ piece_at (place stripe from) (to - from) ∷ []
between_some stripe from to lt = ap (λ (b : Bool). cond b (piece_at (place stripe from) (to - from) ∷ []) []) (lt-ltb from to lt)

-- a block stands in a part, with what is before and behind it
pub record Sits (ptr : Ptr) (block : List ℕ) (part : Part) : Type 0 where
  pub stripe : part.stripe ≡ ptr.stripe
  pub front : List ℕ
  pub rest : List ℕ
  pub bytes : part.bytes ≡ front ++ (block ++ rest)
  pub at : length front ≡ ptr.offset
  pub long : length block ≡ ptr.len

abbrev pub SitsSome : List Part → Ptr → List ℕ → Type 0
SitsSome [] ptr block = ⊥
SitsSome (part ∷ parts) ptr block = Sits ptr block part ⊎ SitsSome parts ptr block

sits_stands : (ptr : Ptr) (block : List ℕ) (part : Part) → Sits ptr block part → StandsIn ptr block part
sits_stands ptr block part s = record {
  stripe = s.stripe;
  bytes = ap (λ (z : List ℕ). take ptr.len (drop ptr.offset z)) s.bytes ∙ ap (take ptr.len) (drop_at s.front (block ++ s.rest) ptr.offset s.at) ∙ take_at block s.rest ptr.len s.long;
}

some_stands : (parts : List Part) (ptr : Ptr) (block : List ℕ) → SitsSome parts ptr block → Any (StandsIn ptr block) parts
some_stands [] ptr block s = absurd s
some_stands (part ∷ parts) ptr block (inl s) = (0, part, omega arith, refl, sits_stands ptr block part s)
some_stands (part ∷ parts) ptr block (inr s) = let more = some_stands parts ptr block s in (suc more.0, more.1, omega (arith, more.2), more.3, more.4)

-- parts that are longer, and maybe more
abbrev Extends : List Part → List Part → Type 0
Extends [] others = Unit {0}
Extends (part ∷ parts) [] = ⊥
Extends (part ∷ parts) (other ∷ others) = (other.stripe ≡ part.stripe) × ((rest : List ℕ) × (other.bytes ≡ part.bytes ++ rest)) × Extends parts others

extends_refl : (parts : List Part) → Extends parts parts
extends_refl [] = tt
extends_refl (part ∷ parts) = (refl, ([], sym (append-nil part.bytes)), extends_refl parts)

extends_front : (front parts others : List Part) → Extends parts others → Extends (front ++ parts) (front ++ others)
extends_front [] parts others e = e
extends_front (part ∷ front) parts others e = (refl, ([], sym (append-nil part.bytes)), extends_front front parts others e)

sits_on : (ptr : Ptr) (block : List ℕ) (part other : Part) (more : List ℕ) → other.stripe ≡ part.stripe → other.bytes ≡ part.bytes ++ more → Sits ptr block part → Sits ptr block other
sits_on ptr block part other more same e s = record {
  stripe = same ∙ s.stripe;
  front = s.front;
  rest = s.rest ++ more;
  bytes = e ∙ ap (λ (z : List ℕ). z ++ more) s.bytes ∙ append_assoc s.front (block ++ s.rest) more ∙ ap (λ (z : List ℕ). s.front ++ z) (append_assoc block s.rest more);
  at = s.at;
  long = s.long;
}

some_on : (parts others : List Part) (ptr : Ptr) (block : List ℕ) → Extends parts others → SitsSome parts ptr block → SitsSome others ptr block
some_on [] others ptr block e s = absurd s
some_on (part ∷ parts) [] ptr block e s = absurd e
some_on (part ∷ parts) (other ∷ others) ptr block e (inl s) = inl (sits_on ptr block part other e.1.0 e.0 e.1.1 s)
some_on (part ∷ parts) (other ∷ others) ptr block e (inr s) = inr (some_on parts others ptr block e.2 s)

some_behind : (front parts : List Part) (ptr : Ptr) (block : List ℕ) → SitsSome parts ptr block → SitsSome (front ++ parts) ptr block
some_behind [] parts ptr block s = s
some_behind (part ∷ front) parts ptr block s = inr (some_behind front parts ptr block s)

each_to : (R S : Ptr → List ℕ → Type 0) (ptrs : List Ptr) (blocks : List (List ℕ)) → ((ptr : Ptr) (block : List ℕ) → R ptr block → S ptr block) → AllZip R ptrs blocks → AllZip S ptrs blocks
each_to R S [] [] f h = h
each_to R S [] (block ∷ blocks) f h = absurd h
each_to R S (ptr ∷ ptrs) [] f h = absurd h
each_to R S (ptr ∷ ptrs) (block ∷ blocks) f h = (f ptr block h.0, each_to R S ptrs blocks f h.1)

module _ (w : ℕ) (given : List ℕ) where
  abbrev pub parts : List Piece → List ℕ → List Part
  parts pieces new = parts_of w given pieces new

  pub parts_append : (xs ys : List Piece) (new : List ℕ) → parts (xs ++ ys) new ≡ parts xs new ++ parts ys (drop (lens_of xs) new)
  parts_append [] ys new = refl
  parts_append (x ∷ xs) ys new =
      ap (λ (z : List Part). part_of (given_of w given x.stripe) x (take x.len new) ∷ z)
      (parts_append xs ys (drop x.len new) ∙ ap (λ (z : List ℕ). parts xs (drop x.len new) ++ parts ys z) (drop-drop (lens_of xs) x.len new))

  pub parts_more : (xs : List Piece) (new more : List ℕ) → lens_of xs ≤ length new → parts xs (new ++ more) ≡ parts xs new
  parts_more [] new more le = refl
  parts_more (x ∷ xs) new more le =
      let one : x.len ≤ length new = omega arith in
      ap (λ (z : List ℕ). part_of (given_of w given x.stripe) x z ∷ parts xs (drop x.len (new ++ more))) (take-append-le x.len new more one)
      ∙ ap (λ (z : List Part). part_of (given_of w given x.stripe) x (take x.len new) ∷ z)
      (ap (parts xs) (drop-append-le x.len new more one) ∙ parts_more xs (drop x.len new) more (omega (arith, length-drop x.len new)))

  -- a range that begins next begins at the end of the bytes of its stripe
  pub given_long : (from : Place) (range : Piece) → from.stripe ≡ w → length given ≡ from.offset → BeginsNext from range → length (given_of w given range.stripe) ≡ range.offset
  given_long from range at long b =
      elim (cases_eq range.stripe w) as (λ _. length (given_of w given range.stripe) ≡ range.offset) [
        | inl here ↦
            let start = b.here (here ∙ sym at) in
            ap (λ (z : Bool). length (cond z given [])) (eq-eqb range.stripe w here) ∙ long ∙ sym start
        | inr other ↦
            let up = b.stripe in
            let above : from.stripe < range.stripe = omega (arith, other, at, up) in
            ap (λ (z : Bool). length (cond z given [])) (ne_eqb range.stripe w other) ∙ sym (b.later above)
      ]

  -- the piece in the stripe at hand gets longer
  open_extends : (stripe start offset n : ℕ) (here more : List ℕ) → start ≤ offset → length here ≡ offset - start → length more ≡ n
      → Extends (parts (between stripe start offset) here) (parts (between stripe start (offset + n)) (here ++ more))
  open_extends stripe start offset n here more le long is =
      let before = given_of w given stripe in
      let long2 : length (here ++ more) ≤ offset + n - start = omega (arith, length-append here more) in
      let bytes : before ++ take (offset + n - start) (here ++ more) ≡ (before ++ take (offset - start) here) ++ more =
      ap (λ (z : List ℕ). before ++ z) (take_all (offset + n - start) (here ++ more) long2)
      ∙ sym (append_assoc before here more)
      ∙ ap (λ (z : List ℕ). (before ++ z) ++ more) (sym (take_all (offset - start) here (omega arith))) in
      cond_both (ltb start offset) (piece_at (place stripe start) (offset - start) ∷ []) [] (λ (z : List Piece). Extends (parts z here) (parts (between stripe start (offset + n)) (here ++ more)))
      (λ e. let lt = ltb-true start offset e in
      subst (λ (z : List Piece). Extends (parts (piece_at (place stripe start) (offset - start) ∷ []) here) (parts z (here ++ more))) (sym (between_some stripe start (offset + n) (omega arith)))
      (refl, (more, bytes), tt))
      (λ e. tt)

  -- a block that is added stands at the end of that piece
  open_sits : (log : LogId) (stripe start offset n : ℕ) (here block : List ℕ) → length (given_of w given stripe) ≡ start → start ≤ offset → length here ≡ offset - start → length block ≡ n → 0 < n
      → SitsSome (parts (between stripe start (offset + n)) (here ++ block)) (ptr_at log (place stripe offset) n) block
  open_sits log stripe start offset n here block short le long is some =
      let before = given_of w given stripe in
      let long2 : length (here ++ block) ≤ offset + n - start = omega (arith, length-append here block) in
      subst (λ (z : List Piece). SitsSome (parts z (here ++ block)) (ptr_at log (place stripe offset) n) block) (sym (between_some stripe start (offset + n) (omega arith)))
      (inl record {
        stripe = refl;
        front = before ++ here;
        rest = [];
        bytes = ap (λ (z : List ℕ). before ++ z) (take_all (offset + n - start) (here ++ block) long2)
            ∙ sym (append_assoc before here block)
            ∙ ap (λ (z : List ℕ). (before ++ here) ++ z) (sym (append-nil block));
        at = omega (arith, length-append before here);
        long = is;
      })

  -- what was placed has these bytes, and the blocks among them sit at their pointers
  pub record IsGiven (from : Place) (laid : Laid) (new : List ℕ) (blocks : List (List ℕ)) : Type 0 where
    pub lies : IsLaid from laid
    pub long : lens_of laid.left + laid.next.offset ≡ length new + laid.start
    pub each : AllZip (SitsSome (parts (pieces_of laid) new)) laid.ptrs blocks

  pub given_begun : (log : LogId) (room : ℕ) (from : Place) → from.offset ≤ room → IsGiven from (begun log room from) [] []
  given_begun log room from le = record { lies = laid_begun log room from le; long = omega arith; each = tt }

  given_turned : (from : Place) (laid : Laid) (new : List ℕ) (blocks : List (List ℕ)) → IsLaid from (turned laid) → IsGiven from laid new blocks → IsGiven from (turned laid) new blocks
  given_turned from laid new blocks l g = record {
    lies = l;
    long = let both = lens_append laid.left (between laid.next.stripe laid.start laid.next.offset) in let last = lens_between laid.next.stripe laid.start laid.next.offset in let start = g.lies.start in let long = g.long in omega arith;
    each = subst (λ (z : List Piece). AllZip (SitsSome (parts z new)) laid.ptrs blocks) (sym (append-nil (pieces_of laid))) g.each;
  }

  given_ready : (from : Place) (laid : Laid) (n : ℕ) (new : List ℕ) (blocks : List (List ℕ)) → IsGiven from laid new blocks → IsGiven from (ready laid n) new blocks
  given_ready from laid n new blocks g =
      ready_both (λ (z : Laid). IsLaid from z → IsGiven from z new blocks) laid n (λ h l. g) (λ l. given_turned from laid new blocks l g) (laid_ready from laid n g.lies)

  -- the parts of what was placed, with more bytes behind
  module _ (from : Place) (at : from.stripe ≡ w) (whole : length given ≡ from.offset) (laid : Laid) (new more : List ℕ) (blocks : List (List ℕ)) (g : IsGiven from laid new blocks) (n : ℕ) (long : length more ≡ n) where
    abbrev here : List ℕ
    here = drop (lens_of laid.left) new

    fits : lens_of laid.left ≤ length new
    fits = let start = g.lies.start in let sums = g.long in omega arith

    here_long : length here ≡ laid.next.offset - laid.start
    here_long = let sums = g.long in omega (arith, length-drop (lens_of laid.left) new)

    parts_before : parts (pieces_of laid) new ≡ parts laid.left new ++ parts (between laid.next.stripe laid.start laid.next.offset) here
    parts_before = parts_append laid.left (between laid.next.stripe laid.start laid.next.offset) new

    parts_now : parts (pieces_of (moved laid n)) (new ++ more) ≡ parts laid.left new ++ parts (between laid.next.stripe laid.start (laid.next.offset + n)) (here ++ more)
    parts_now =
        parts_append laid.left (between laid.next.stripe laid.start (laid.next.offset + n)) (new ++ more)
        ∙ ap (λ (z : List ℕ). parts laid.left (new ++ more) ++ parts (between laid.next.stripe laid.start (laid.next.offset + n)) z) (drop-append-le (lens_of laid.left) new more fits)
        ∙ ap (λ (z : List Part). z ++ parts (between laid.next.stripe laid.start (laid.next.offset + n)) (here ++ more)) (parts_more laid.left new more fits)

    moved_extends : Extends (parts (pieces_of laid) new) (parts (pieces_of (moved laid n)) (new ++ more))
    moved_extends =
        subst (λ (z : List Part). Extends z (parts (pieces_of (moved laid n)) (new ++ more))) (sym parts_before)
        (subst (λ (z : List Part). Extends (parts laid.left new ++ parts (between laid.next.stripe laid.start laid.next.offset) here) z) (sym parts_now)
        (extends_front (parts laid.left new) (parts (between laid.next.stripe laid.start laid.next.offset) here) (parts (between laid.next.stripe laid.start (laid.next.offset + n)) (here ++ more))
        (open_extends laid.next.stripe laid.start laid.next.offset n here more g.lies.start here_long long)))

    moved_each : AllZip (SitsSome (parts (pieces_of (moved laid n)) (new ++ more))) laid.ptrs blocks
    moved_each = each_to (SitsSome (parts (pieces_of laid) new)) (SitsSome (parts (pieces_of (moved laid n)) (new ++ more))) laid.ptrs blocks
        (λ ptr block s. some_on (parts (pieces_of laid) new) (parts (pieces_of (moved laid n)) (new ++ more)) ptr block moved_extends s) g.each

    moved_long : lens_of laid.left + (laid.next.offset + n) ≡ length (new ++ more) + laid.start
    moved_long = let sums = g.long in omega (arith, length-append new more)

    pub given_moved : laid.next.offset + n ≤ laid.room → IsGiven from (moved laid n) (new ++ more) blocks
    given_moved within = record { lies = laid_moved from laid n within g.lies; long = moved_long; each = moved_each }

    moved_sits : (log : LogId) → 0 < n → SitsSome (parts (pieces_of (moved laid n)) (new ++ more)) (ptr_at log laid.next n) more
    moved_sits log some =
        let short = given_long from (piece_at (place laid.next.stripe laid.start) 0) at whole g.lies.starts in
        subst (λ (z : List Part). SitsSome z (ptr_at log laid.next n) more) (sym parts_now)
        (some_behind (parts laid.left new) (parts (between laid.next.stripe laid.start (laid.next.offset + n)) (here ++ more)) (ptr_at log laid.next n) more
        (open_sits log laid.next.stripe laid.start laid.next.offset n here more short g.lies.start here_long long some))

    pub moved_block : (log : LogId) → 0 < n → AllZip (SitsSome (parts (pieces_of (moved laid n)) (new ++ more))) (laid.ptrs ++ ptr_at log laid.next n ∷ []) (blocks ++ more ∷ [])
    moved_block log some = all_zipped_more (SitsSome (parts (pieces_of (moved laid n)) (new ++ more))) laid.ptrs blocks (ptr_at log laid.next n) more moved_each (moved_sits log some)

  module _ (from : Place) (at : from.stripe ≡ w) (whole : length given ≡ from.offset) where
    pub given_meta : (meta : List ℕ) (laid : Laid) (new : List ℕ) (blocks : List (List ℕ)) → 0 < laid.room → IsGiven from laid new blocks → IsGiven from (with_meta laid (length meta)) (new ++ meta) blocks
    given_meta [] laid new blocks some g = subst (λ (z : List ℕ). IsGiven from laid z blocks) (sym (append-nil new)) g
    given_meta (b ∷ meta) laid new blocks some g =
        let there = given_ready from laid 1 new blocks g in
        let next = given_moved from at whole (ready laid 1) new (b ∷ []) blocks there 1 refl (ready_fits laid 1 some) in
        subst (λ (z : List ℕ). IsGiven from (with_meta (added laid 1) (length meta)) z blocks) (append_assoc new (b ∷ []) meta)
        (given_meta meta (added laid 1) (new ++ b ∷ []) blocks (subst (λ (z : ℕ). 0 < z) (sym (ready_room laid 1)) some) next)

    ready_ptrs : (laid : Laid) (n : ℕ) → (ready laid n).ptrs ≡ laid.ptrs
    ready_ptrs laid n = ready_both (λ (z : Laid). z.ptrs ≡ laid.ptrs) laid n (λ h. refl) refl

    pub given_block : (laid : Laid) (new : List ℕ) (blocks : List (List ℕ)) (block : List ℕ) (n : ℕ) → length block ≡ n → 0 < n → n ≤ laid.room → IsGiven from laid new blocks
        → IsGiven from (with_block laid n) (new ++ block) (blocks ++ block ∷ [])
    given_block laid new blocks block n long some le g =
        let there = given_ready from laid n new blocks g in
        let next = given_moved from at whole (ready laid n) new block blocks there n long (ready_fits laid n le) in
        record {
          lies = laid_block from laid n le g.lies;
          long = next.long;
          each = subst (λ (z : List Ptr). AllZip (SitsSome (parts (pieces_of (added laid n)) (new ++ block))) (z ++ ptr_at laid.log (ready laid n).next n ∷ []) (blocks ++ block ∷ [])) (ready_ptrs laid n)
              (moved_block from at whole (ready laid n) new block blocks there n long laid.log some);
        }

    pub given_blocks : (more : List (List ℕ)) (laid : Laid) (new : List ℕ) (blocks : List (List ℕ)) → AllByRecursion (λ n. (1 ≤ n) × (n ≤ laid.room)) (map length more) → IsGiven from laid new blocks
        → IsGiven from (fold with_block laid (map length more)) (new ++ concat more) (blocks ++ more)
    given_blocks [] laid new blocks fit g =
        subst (λ (z : List ℕ). IsGiven from laid z (blocks ++ [])) (sym (append-nil new)) (subst (λ (z : List (List ℕ)). IsGiven from laid new z) (sym (append-nil blocks)) g)
    given_blocks (block ∷ more) laid new blocks fit g =
        let next = given_block laid new blocks block (length block) refl fit.0.0 fit.0.1 g in
        let rest = given_blocks more (with_block laid (length block)) (new ++ block) (blocks ++ block ∷ []) (subst (λ (z : ℕ). AllByRecursion (λ n. (1 ≤ n) × (n ≤ z)) (map length more)) (sym (ready_room laid (length block))) fit.1) next in
        subst (λ (z : List ℕ). IsGiven from (fold with_block (with_block laid (length block)) (map length more)) z (blocks ++ (block ∷ more))) (append_assoc new block (concat more))
        (subst (λ (z : List (List ℕ)). IsGiven from (fold with_block (with_block laid (length block)) (map length more)) ((new ++ block) ++ concat more) z) (append_assoc blocks (block ∷ []) more) rest)

  pub given_stand : (from : Place) (laid : Laid) (new : List ℕ) (blocks : List (List ℕ)) → IsGiven from laid new blocks → StandEach (parts (pieces_of laid) new) laid.ptrs blocks
  given_stand from laid new blocks g =
      each_to (SitsSome (parts (pieces_of laid) new)) (λ ptr block. Any (StandsIn ptr block) (parts (pieces_of laid) new)) laid.ptrs blocks (λ ptr block s. some_stands (parts (pieces_of laid) new) ptr block s) g.each
