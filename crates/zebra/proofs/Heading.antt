-- One line more before the header of a script, or the header.
use Rattle.std.proofs.Common.{◌≡◌, ℕ, ◌+◌, ◌≤◌, List, [], ◌∷◌, ◌++◌, length, Some, None, refl, sym, ap, subst, ◌∙◌, append_assoc, arith}
use Rattle.std.specs.Prelude.{IsTrue}
use Rattle.std.specs.List.{AllByRecursion}
use Rattle.std.proofs.lemmas.List.{append-nil, length-append}
use Rattle.zb_types.specs.declared.geometry.Geometry.{Geometry}
use Rattle.zb_claims.specs.Text.{header_text, max_script}
use Rattle.zb_claims.specs.Script.{is_comment, ended_line}
use Rattle.zb_script.specs.Places.{Place, IsFront, IsBadHere, script_start}
use Rattle.zebra.specs.Pending.{Pending, none_pending}
use Rattle.zebra.specs.Moves.{Tape, IsRead, IsTaken}
use Rattle.zebra.specs.Rows.{NoRow, moved}
use Rattle.zebra.specs.Headers.{heads_text, IsHeading, HasSystem, LacksSystem}
use Rattle.zebra.proofs.Running.{behind, IsRead-front}

heads_text-push : (heads : List (List ℕ)) (bytes : List ℕ) → heads_text (heads ++ bytes ∷ []) ≡ heads_text heads ++ ended_line bytes
heads_text-push [] bytes = append-nil (ended_line bytes)
heads_text-push (h ∷ heads) bytes = ap (λ b. ended_line h ++ b) (heads_text-push heads bytes) ∙ sym (append_assoc (ended_line h) (heads_text heads) (ended_line bytes))

comments-push : (heads : List (List ℕ)) (bytes : List ℕ) → AllByRecursion (λ bytes. IsTrue (is_comment bytes)) heads → IsTrue (is_comment bytes) → AllByRecursion (λ bytes. IsTrue (is_comment bytes)) (heads ++ bytes ∷ [])
comments-push [] bytes all h = (h, tt)
comments-push (x ∷ heads) bytes all h = (all.0, comments-push heads bytes all.1 h)

-- where the reader stands behind these lines
abbrev behind_heads : List (List ℕ) → Place
behind_heads heads = record { geo = None; lines = length heads; used = length (heads_text heads) }

place-push : (heads : List (List ℕ)) (bytes : List ℕ) (len : ℕ) → len ≡ length (ended_line bytes) → behind_heads (heads ++ bytes ∷ []) ≡ moved (behind_heads heads) len
place-push heads bytes len is =
    let lines : length (heads ++ bytes ∷ []) ≡ length heads + 1 = length-append heads (bytes ∷ []) in
    let used : length (heads_text (heads ++ bytes ∷ [])) ≡ length (heads_text heads) + len = ap length (heads_text-push heads bytes) ∙ length-append (heads_text heads) (ended_line bytes) ∙ ap (λ n. length (heads_text heads) + n) (sym is) in
    ap (λ n. let p : Place = record { geo = None; lines = n; used = length (heads_text (heads ++ bytes ∷ [])) } in p) lines
    ∙ ap (λ n. let p : Place = record { geo = None; lines = length heads + 1; used = n } in p) used

pub skipped_line : (start now : Tape) (place after : Place) (p : Pending) (bytes : List ℕ) (len : ℕ) → IsHeading start place p now → IsTrue (is_comment bytes) → IsFront place p.rest (ended_line bytes) len → after ≡ moved place len → IsHeading start after (behind p len) now
skipped_line start now place after p bytes len h valid front is =
    let fits : place.used + len ≤ max_script = front.limit in
    let used : place.used ≡ length (heads_text h.heads) = ap (λ (a : Place). a.used) h.at in
    record {
      heads = h.heads ++ bytes ∷ [];
      skipped_first = comments-push h.heads bytes h.skipped_first valid;
      reads = subst (λ (b : List ℕ). IsRead start b (behind p len) now) (sym (heads_text-push h.heads bytes)) (IsRead-front start now (heads_text h.heads) (ended_line bytes) p len h.reads front.splits);
      at = is ∙ ap (λ (a : Place). moved a len) h.at ∙ sym (place-push h.heads bytes len front.len_is);
      limit = subst (λ (b : List ℕ). length b ≤ max_script) (sym (heads_text-push h.heads bytes)) (omega (arith, length-append (heads_text h.heads) (ended_line bytes), fits, used, front.len_is));
    }

pub a_system : (start now : Tape) (place after : Place) (p : Pending) (geo : Geometry) (len : ℕ) → IsHeading start place p now → IsFront place p.rest (header_text geo) len → after ≡ record { geo = Some geo; lines = place.lines + 1; used = place.used + len } → HasSystem start geo after (behind p len) now
a_system start now place after p geo len h front is =
    let fits : place.used + len ≤ max_script = front.limit in
    let used : place.used ≡ length (heads_text h.heads) = ap (λ (a : Place). a.used) h.at in
    let whole : place.used + len ≡ length (heads_text h.heads ++ header_text geo) = omega (arith, used, front.len_is, length-append (heads_text h.heads) (header_text geo)) in
    record {
      heads = h.heads;
      skipped_first = h.skipped_first;
      reads = IsRead-front start now (heads_text h.heads) (header_text geo) p len h.reads front.splits;
      at = is ∙ ap (λ n. let a : Place = record { geo = Some geo; lines = n + 1; used = place.used + len } in a) (ap (λ (a : Place). a.lines) h.at)
          ∙ ap (λ n. let a : Place = record { geo = Some geo; lines = length h.heads + 1; used = n } in a) whole;
      limit = omega (arith, fits, whole);
    }

pub no_system : (start now : Tape) (place : Place) (p : Pending) (number : ℕ) → IsHeading start place p now → NoRow place.geo place.used p → number ≡ place.lines + 1 → LacksSystem start number p now
no_system start now place p number h none is = record {
  heads = h.heads;
  skipped_first = h.skipped_first;
  reads = h.reads;
  limit = h.limit;
  none = subst (λ (a : Place). NoRow a.geo a.used p) h.at none;
  at = is ∙ ap (λ (a : Place). a.lines + 1) h.at;
}

pub no_row_here : (place : Place) (p : Pending) → IsBadHere place p.rest → NoRow place.geo place.used p
no_row_here place p bad text more after ends may is = bad.none text more after may is

-- bytes were taken
pub heading_filled : (start before now : Tape) (place : Place) (p q : Pending) → (h : IsHeading start place p before) → IsRead start (heads_text h.heads) q now → IsHeading start place q now
heading_filled start before now place p q h read = record { heads = h.heads; skipped_first = h.skipped_first; reads = read; at = h.at; limit = h.limit }

pub taken_behind : (start now : Tape) (front : List ℕ) → IsTaken start front now → IsTaken start [] now
taken_behind start now front t = record {
  rest = front ++ t.rest;
  taken = t.taken ∙ append_assoc start.taken front t.rest ∙ ap (λ (b : List ℕ). b ++ (front ++ t.rest)) (sym (append-nil start.taken));
  left = t.left;
}

-- nothing was read yet
pub first_heading : (now : Tape) → IsHeading now script_start none_pending now
first_heading now = record {
  heads = [];
  skipped_first = tt;
  reads = record {
    taken = sym (append-nil (now.taken ++ []) ∙ append-nil now.taken);
    left = refl;
    ended = λ wrong. absurd cc;
  };
  at = refl;
  limit = omega arith;
}
