-- The bytes of a script are read in one way.
use Rattle.std.proofs.Common.{◌≡◌, ℕ, ◌+◌, ◌<◌, ◌≤◌, List, [], ◌∷◌, ◌++◌, length, sym, ap, subst, ◌∙◌, append_assoc, arith, inl, inr}
use Rattle.std.specs.Prelude.{IsTrue, ◌⊎◌}
use Rattle.std.specs.List.{flat_map, AllByRecursion}
use Rattle.std.proofs.lemmas.List.{append-nil, length-append}
use Rattle.zb_types.specs.declared.geometry.Geometry.{Geometry}
use Rattle.zb_claims.specs.Text.{header_text, words, max_script}
use Rattle.zb_claims.specs.Script.{Row, skipped, said, row_text, is_comment, ended_line, IsRow, rows_text, Grammar, whole, Begins, IsBad}
use Rattle.zb_laws.specs.Readings.{IsRowFront, IsReading, OneReading, OneStop, HeaderOrNone}
use Rattle.zb_laws.proofs.Splits.{rows_agree}
use Rattle.zb_laws.proofs.Heads.{SameHeads, heads_cut, head_cut, no_header}
use Rattle.zb_laws.proofs.Each.{each_weaker, each_last}

-- a part of the whole language
pub record IsPart (g : Grammar) : Type 0 where
  pub before : (bytes : List ℕ) → g.before bytes → IsTrue (is_comment bytes)
  pub row : (geo : Geometry) (row : Row) → g.row geo row → IsRow geo row

regroup : (heads header rows rest : List ℕ) → heads ++ header ++ rows ++ rest ≡ heads ++ (header ++ (rows ++ rest))
regroup heads header rows rest = simp append_assoc

row_long : (row : Row) → 0 < length (row_text row)
row_long (skipped bytes) = omega (arith, length-append bytes (10 ∷ []))
row_long (said line) = omega (arith, length-append (words line) (10 ∷ []))

-- no row follows what was read to its end
no_more : (g : Grammar) (script : List ℕ) (geo : Geometry) (rest more : List ℕ) (row : Row) (others : List Row) → (rest ≡ []) ⊎ IsBad g script geo rest → g.row geo row → length script ≤ max_script + length more → rest ≡ rows_text (row ∷ others) ++ more → ⊥
no_more g script geo rest more row others (inl end) valid short text =
    let none : [] ≡ rows_text (row ∷ others) ++ more = sym end ∙ text in
    let long : length (row_text row) ≡ 0 = omega (arith, ap length none, length-append (rows_text (row ∷ others)) more, length-append (row_text row) (rows_text others)) in
    omega (arith, long, row_long row)
no_more g script geo rest more row others (inr bad) valid short text =
    let past : max_script + length (rows_text others ++ more) < length script = bad.none row (rows_text others ++ more) valid (text ∙ append_assoc (row_text row) (rows_text others) more) in
    omega (arith, past, short, length-append (rows_text others) more)

-- what was read to its end has all rows
has_all : (g : Grammar) (script : List ℕ) (geo : Geometry) (rows : List Row) (rest more : List ℕ) (others : List Row) → (rest ≡ []) ⊎ IsBad g script geo rest → AllByRecursion (g.row geo) others → length script ≤ max_script + length more → rest ≡ rows_text others ++ more
    → (rows ≡ rows ++ others) × (rest ≡ more)
has_all g script geo rows rest more [] last valid short text = (sym (append-nil rows), text)
has_all g script geo rows rest more (row ∷ others) last valid short text = absurd (no_more g script geo rest more row others last valid.0 short text)

front_all : (g : Grammar) (script : List ℕ) (geo : Geometry) (rows all : List Row) (rest more : List ℕ) → IsReading g script geo rows rest → IsReading g script geo all more → IsRowFront rows all rest more → (rows ≡ all) × (rest ≡ more)
front_all g script geo rows all rest more r s front =
    let valid : AllByRecursion (g.row geo) front.others = each_last (g.row geo) rows front.others (subst (AllByRecursion (g.row geo)) front.split s.begins.valid) in
    let both = has_all g script geo rows rest more front.others r.last valid s.begins.short front.text in
    (both.0 ∙ sym front.split, both.1)

pub same_start : (g : Grammar) → IsPart g → (script : List ℕ) (geo other : Geometry) (rows others : List Row) (rest more : List ℕ) → (r : Begins g script geo rows rest) → (s : Begins g script other others more) → SameHeads r.heads s.heads geo other (rows_text rows ++ rest) (rows_text others ++ more)
same_start g part script geo other rows others rest more r s =
    heads_cut r.heads s.heads geo other (rows_text rows ++ rest) (rows_text others ++ more) (each_weaker g.before (λ bytes. IsTrue (is_comment bytes)) part.before r.heads r.skipped_first) (each_weaker g.before (λ bytes. IsTrue (is_comment bytes)) part.before s.heads s.skipped_first)
    (sym (regroup (flat_map ended_line r.heads) (header_text geo) (rows_text rows) rest) ∙ sym r.text ∙ s.text ∙ regroup (flat_map ended_line s.heads) (header_text other) (rows_text others) more)

same_rows : (g : Grammar) → IsPart g → (script : List ℕ) (geo : Geometry) (rows others : List Row) (rest more : List ℕ) → IsReading g script geo rows rest → IsReading g script geo others more → rows_text rows ++ rest ≡ rows_text others ++ more → (rows ≡ others) × (rest ≡ more)
same_rows g part script geo rows others rest more r s e =
    elim (rows_agree geo rows others rest more (each_weaker (g.row geo) (IsRow geo) (part.row geo) rows r.begins.valid) (each_weaker (g.row geo) (IsRow geo) (part.row geo) others s.begins.valid) e) as (λ _. (rows ≡ others) × (rest ≡ more)) [
      | inl front ↦ front_all g script geo rows others rest more r s front
      | inr front ↦ let both = front_all g script geo others rows more rest s r front in (sym both.0, sym both.1)
    ]

one_reading : (g : Grammar) → IsPart g → OneReading g
one_reading g part script geo other rows others rest more r s =
    let start = same_start g part script geo other rows others rest more r.begins s.begins in
    let both = same_rows g part script geo rows others rest more r (subst (λ (x : Geometry). IsReading g script x others more) (sym start.geometry) s) start.rest in
    record { geometry = start.geometry; same_rows = both.0; same_rest = both.1 }

one_stop : (g : Grammar) → IsPart g → OneStop g
one_stop g part script geo other rows others number another r s =
    let start = same_start g part script geo other rows others r.rest s.rest r.begins s.begins in
    let same = one_reading g part script geo other rows others r.rest s.rest (record { begins = r.begins; last = inr r.bad }) (record { begins = s.begins; last = inr s.bad }) in
    omega (arith, r.at, s.at, ap (λ (l : List (List ℕ)). length l) start.same_heads, ap (λ (l : List Row). length l) same.same_rows)

-- A script with a header.

-- these lines, a header, and what follows, where a line or a header ends within the limit, are no lines without a header
no_none : (g : Grammar) → IsPart g → (script : List ℕ) (geo : Geometry) (heads others : List (List ℕ)) (tail rest : List ℕ) → AllByRecursion g.before heads → AllByRecursion g.before others → g.header geo → length script ≤ max_script + length tail
    → ((bytes after : List ℕ) → g.before bytes → rest ≡ ended_line bytes ++ after → max_script + length after < length script) → ((geo : Geometry) (after : List ℕ) → g.header geo → rest ≡ header_text geo ++ after → max_script + length after < length script)
    → flat_map ended_line heads ++ (header_text geo ++ tail) ≡ flat_map ended_line others ++ rest → ⊥
no_none g part script geo [] [] tail rest p q limits short comment none e = let past : max_script + length tail < length script = none geo tail limits (sym e) in omega (arith, past, short)
no_none g part script geo [] (o ∷ others) tail rest p q limits short comment none e =
    no_header o geo (flat_map ended_line others ++ rest) tail (part.before o q.0) (sym (e ∙ append_assoc (ended_line o) (flat_map ended_line others) rest))
no_none g part script geo (h ∷ heads) [] tail rest p q limits short comment none e =
    let after : List ℕ = flat_map ended_line heads ++ (header_text geo ++ tail) in
    let past : max_script + length after < length script = comment h after p.0 (sym e ∙ append_assoc (ended_line h) (flat_map ended_line heads) (header_text geo ++ tail)) in
    omega (arith, past, short, length-append (flat_map ended_line heads) (header_text geo ++ tail), length-append (header_text geo) tail)
no_none g part script geo (h ∷ heads) (o ∷ others) tail rest p q limits short comment none e =
    no_none g part script geo heads others tail rest p.1 q.1 limits short comment none (head_cut h o heads others (header_text geo ++ tail) rest (part.before h p.0) (part.before o q.0) e).1

header_or_none : (g : Grammar) → IsPart g → HeaderOrNone g
header_or_none g part script geo rows rest number r n =
    let short : length script ≤ max_script + length (rows_text rows ++ rest) = omega (arith, r.short, length-append (rows_text rows) rest) in
    no_none g part script geo r.heads n.heads (rows_text rows ++ rest) n.rest r.skipped_first n.skipped_first r.limits short n.not_skipped n.none
    (sym (regroup (flat_map ended_line r.heads) (header_text geo) (rows_text rows) rest) ∙ sym r.text ∙ n.text)

pub whole_part : IsPart whole
whole_part = record { before = λ bytes h. h; row = λ geo row h. h }

pub whole_once : OneReading whole
whole_once = one_reading whole whole_part

pub whole_stop : OneStop whole
whole_stop = one_stop whole whole_part

pub whole_header : HeaderOrNone whole
whole_header = header_or_none whole whole_part
