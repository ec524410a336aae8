-- What the next bytes of a script are.
use Rattle.std.proofs.Common.{◌≡◌, ℕ, zero, suc, ◌+◌, ◌-◌, ◌<◌, ◌≤◌, true, false, not, eqb, List, [], ◌∷◌, ◌++◌, length, get_or, take, drop, Some, None, inl, inr, refl, sym, ap, ◌∙◌, append_assoc, arith}
use Rattle.std.specs.Prelude.{position, ◌≢◌}
use Rattle.std.proofs.lemmas.List.{length-append, length-take, append_cancel_right}
use Rattle.std.proofs.lemmas.Bool.Decides.{nat_tests}
use Rattle.zb_types.specs.declared.geometry.Geometry.{Geometry}
use Rattle.zb_claims.specs.Text.{newline, header_text, words, IsLine, max_script}
use Rattle.zb_claims.specs.Script.{skipped, said, is_comment}
use Rattle.zb_claims.specs.Reading.{Reads}
use Rattle.zb_script.specs.Headers.{IsGeometry}
use Rattle.zb_laws.proofs.Bytes.{cut}
use Rattle.zb_laws.proofs.Clean.{clean}
use Rattle.zb_laws.proofs.Tests.{first_true, last_true}
use Rattle.zb_script.specs.declared.reader.Parsed.{Parsed}
use Rattle.zb_script.specs.declared.reader.Parsed.TheVariants as parsed
use Rattle.zb_script.specs.Places.{Place, MayStand, IsFront, IsBadHere, IsOpen, IsNext, IsWhole}
use Rattle.zb_script.proofs.Marks.{is_end, IsMark, marked, unmarked}
use Rattle.zb_script.proofs.Short.{ended}

-- the line at the front is the bytes before the first line end
line_at : (bytes more : List ℕ) (n : ℕ) (line after : List ℕ) → IsMark bytes n → clean line ≡ true → bytes ++ more ≡ line ++ 10 ∷ after → line ≡ take n bytes
line_at bytes more n line after mark valid is =
    let here : bytes ++ more ≡ take n bytes ++ 10 ∷ (drop (suc n) bytes ++ more) = ap (λ (b : List ℕ). b ++ more) mark.splits ∙ append_assoc (take n bytes) (10 ∷ drop (suc n) bytes) more in
    (cut 10 line (take n bytes) after (drop (suc n) bytes ++ more) valid mark.line (sym is ∙ here)).0

-- a byte that stands within the first bytes is one of them
clean_at : (xs : List ℕ) (k : ℕ) → clean xs ≡ true → k < length xs → get_or xs k 0 ≡ 10 → ⊥
clean_at [] k c lt is = omega (arith, lt)
clean_at (x ∷ xs) zero c lt is = let no : not (eqb x 10) ≡ true = first_true (not (eqb x 10)) (clean xs) c in grind (arith, nat_tests)
clean_at (x ∷ xs) (suc k) c lt is = clean_at xs k (last_true (not (eqb x 10)) (clean xs) c) (omega (arith, lt)) is

seam : (xs ys : List ℕ) (b : ℕ) → get_or (xs ++ b ∷ ys) (length xs) 0 ≡ b
seam [] ys b = refl
seam (x ∷ xs) ys b = seam xs ys b

in_front : (xs ys : List ℕ) (k : ℕ) → k < length xs → get_or (xs ++ ys) k 0 ≡ get_or xs k 0
in_front [] ys k lt = absurd (omega (arith, lt))
in_front (x ∷ xs) ys zero lt = refl
in_front (x ∷ xs) ys (suc k) lt = in_front xs ys k (omega (arith, lt))

-- no line ends within these bytes
pub no_end_within : (bytes more line after : List ℕ) → clean bytes ≡ true → bytes ++ more ≡ line ++ 10 ∷ after → length line < length bytes → ⊥
no_end_within bytes more line after c is lt =
    clean_at bytes (length line) c lt (sym (in_front bytes more (length line) lt) ∙ ap (λ (b : List ℕ). get_or b (length line) 0) is ∙ seam line after 10)

with_end : (text words more after bytes : List ℕ) → text ≡ words ++ newline → bytes ++ more ≡ text ++ after → bytes ++ more ≡ words ++ 10 ∷ after
with_end text words more after bytes is here = here ∙ ap (λ (b : List ℕ). b ++ after) is ∙ append_assoc words newline after

pub some_long : (bytes : List ℕ) (n : ℕ) → n < length bytes → bytes ≢ []
some_long [] n lt none = omega (arith, lt)
some_long (b ∷ bytes) n lt none = cc

ends_not : (n : ℕ) → Some n ≡ None → ⊥
ends_not n is = cc

-- a line whose end isn't there, and that is too long
pub endless : (place : Place) (bytes : List ℕ) → position is_end bytes ≡ None → 17000 < length bytes → IsBadHere place bytes
endless place bytes at long = record {
  closed = λ o. let short = o.short in omega arith;
  some = some_long bytes 17000 long;
  none = λ text more after may here.
      let e = ended place.geo text may in
      absurd (no_end_within bytes more e.words after (unmarked bytes at) (with_end text e.words more after bytes e.is here) (omega (arith, long, e.short)));
}

-- a line that ends past the limit
pub too_far : (place : Place) (bytes : List ℕ) (n : ℕ) → position is_end bytes ≡ Some n → max_script - place.used ≤ n → IsBadHere place bytes
too_far place bytes n at far =
    let mark = marked bytes n at in
    record {
      closed = λ o. let none = o.no_end in absurd (ends_not n (sym at ∙ none));
      some = some_long bytes n mark.within;
      none = λ text more after may here.
          let e = ended place.geo text may in
          let same : length e.words ≡ n = ap length (line_at bytes more n e.words after mark e.clean (with_end text e.words more after bytes e.is here)) ∙ length-take n bytes ∙ (omega (arith, mark.within)) in
          omega (arith, far, same, ap length e.is, length-append e.words newline);
    }

-- a whole line that may not stand here
pub no_line : (place : Place) (bytes : List ℕ) (n : ℕ) → position is_end bytes ≡ Some n → ((text : List ℕ) → MayStand place.geo text → text ≡ take n bytes ++ newline → ⊥) → IsBadHere place bytes
no_line place bytes n at unread =
    let mark = marked bytes n at in
    record {
      closed = λ o. let none = o.no_end in absurd (ends_not n (sym at ∙ none));
      some = some_long bytes n mark.within;
      none = λ text more after may here.
          let e = ended place.geo text may in
          let same : e.words ≡ take n bytes = line_at bytes more n e.words after mark e.clean (with_end text e.words more after bytes e.is here) in
          absurd (unread text may (e.is ∙ ap (λ (b : List ℕ). b ++ newline) same));
    }

next : (n : ℕ) → suc n ≡ n + 1
next n = omega arith

-- a whole line, with its end
pub front : (place : Place) (bytes text : List ℕ) (n len : ℕ) → position is_end bytes ≡ Some n → n < max_script - place.used → text ≡ take n bytes ++ newline → len ≡ length (take n bytes) + 1 → IsFront place bytes text len
front place bytes text n len at near is long =
    let mark = marked bytes n at in
    let size : len ≡ n + 1 = omega (arith, long, length-take n bytes, mark.within) in
    record {
      splits = mark.splits ∙ sym (append_assoc (take n bytes) newline (drop (suc n) bytes)) ∙ ap (λ (b : List ℕ). b ++ drop (suc n) bytes) (sym is) ∙ ap (λ k. text ++ drop k bytes) (next n ∙ sym size);
      len_is = omega (arith, long, ap length is, length-append (take n bytes) newline);
      within = omega (arith, size, mark.within);
      limit = omega (arith, size, near);
    }

pub whole_next : (place : Place) (bytes : List ℕ) (n : ℕ) (p : Parsed) → position is_end bytes ≡ Some n → n < max_script - place.used → IsWhole place (take n bytes) p → IsNext place bytes p
whole_next place bytes n (parsed.Header geo used) at near h = (h.0, front place bytes _ n used at near h.1 h.2)
whole_next place bytes n (parsed.Line line used) at near h = (h.0, front place bytes _ n used at near h.1 h.2)
whole_next place bytes n (parsed.Skipped used) at near h = (take n bytes, h.0, front place bytes _ n used at near refl h.1)
whole_next place bytes n parsed.More at near h = absurd h
whole_next place bytes n (parsed.Bad number) at near h = (h.0, no_line place bytes n at h.1)

pub open_line : (bytes : List ℕ) → position is_end bytes ≡ None → length bytes ≤ 17000 → IsOpen bytes
open_line bytes at short = record { no_end = at; short = short }

-- Whole lines that may not stand here.

no_comment : {X : Type 0} (bytes line : List ℕ) → is_comment line ≡ false → is_comment bytes ≡ true → bytes ++ newline ≡ line ++ newline → X
no_comment bytes line not_one one same = absurd (let clash : true ≡ false = sym one ∙ ap is_comment (append_cancel_right bytes line newline same) ∙ not_one in cc)

pub header_none : (line : List ℕ) → is_comment line ≡ false → Reads IsGeometry header_text (line ++ newline) None → (text : List ℕ) → MayStand None text → text ≡ line ++ newline → ⊥
header_none line not_one unread text (inl h) same = no_comment h.0 line not_one h.1 (sym h.2 ∙ same)
header_none line not_one unread text (inr h) same = unread h.0 tt (sym h.1 ∙ same)

pub line_none : (geo : Geometry) (line : List ℕ) → is_comment line ≡ false → Reads (IsLine geo) words line None → (text : List ℕ) → MayStand (Some geo) text → text ≡ line ++ newline → ⊥
line_none geo line not_one unread text (skipped bytes, valid, is) same = no_comment bytes line not_one valid (sym is ∙ same)
line_none geo line not_one unread text (said l, valid, is) same = unread l valid (append_cancel_right (words l) line newline (sym is ∙ same))
