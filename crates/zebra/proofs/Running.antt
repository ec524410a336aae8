-- One row more of a script.
use Rattle.std.proofs.Common.{◌≡◌, ℕ, ◌+◌, ◌≤◌, true, List, [], ◌∷◌, ◌++◌, length, drop, Result, Ok, Err, Option, Some, refl, sym, ap, subst, ◌∙◌, append_assoc, inl, inr, arith}
use Rattle.std.specs.Prelude.{IsErr, IsErrAnd, MatchResult, IsTrue}
use Rattle.std.specs.List.{flat_map, AllByRecursion}
use Rattle.std.proofs.lemmas.List.{append-nil, length-append}
use Rattle.zb_types.specs.declared.geometry.Geometry.{Geometry}
use Rattle.zb_types.specs.declared.lines.Line.{Line}
use Rattle.zb_claims.specs.Text.{header_text, spelled, IsLine, max_script}
use Rattle.zb_claims.specs.Script.{Row, skipped, said, row_text, rows_text, line_in, lines_in, is_comment, ended_line}
use Rattle.zb_script.specs.Places.{Place, IsFront, IsLineHere}
use Rattle.zb_course.specs.Seen.{SeenCourse}
use Rattle.zebra.specs.Pending.{Pending}
use Rattle.zebra.specs.declared.ending.Halted.{Halted}
use Rattle.zebra.specs.declared.reading.Action.{Action}
use Rattle.zebra.specs.declared.reading.Action.TheVariants as action
use Rattle.zebra.specs.declared.reading.Ending.{Ending}
use Rattle.zebra.specs.Moves.{Tape, IsRead, IsTaken, TakesNone}
use Rattle.zebra.specs.Rows.{AreRows, EndsAt, is_built, line_of, moved}
use Rattle.zebra.specs.Running.{Start, front_of, place_of, HasStopped, IsBetween, IsBroken, IsCutOff, IsCutOffAt, IsRunning}
use Rattle.zebra.proofs.Stepping.{cut_between}
use Rattle.zebra.proofs.Taking.{IsTaken-read}

-- Rows.

rows_text-push : (rows : List Row) (row : Row) → rows_text (rows ++ row ∷ []) ≡ rows_text rows ++ row_text row
rows_text-push [] row = append-nil (row_text row)
rows_text-push (r ∷ rows) row = ap (λ b. row_text r ++ b) (rows_text-push rows row) ∙ sym (append_assoc (row_text r) (rows_text rows) (row_text row))

pub lines_in-push : (rows : List Row) (row : Row) → lines_in (rows ++ row ∷ []) ≡ lines_in rows ++ line_in row
lines_in-push [] row = append-nil (line_in row)
lines_in-push (r ∷ rows) row = ap (λ b. line_in r ++ b) (lines_in-push rows row) ∙ sym (append_assoc (line_in r) (lines_in rows) (line_in row))

pub All-push : {A : Type 0} (P : A → Type 0) (xs : List A) (x : A) → AllByRecursion P xs → P x → AllByRecursion P (xs ++ x ∷ [])
All-push P [] x all p = (p, tt)
All-push P (y ∷ ys) x all p = (all.0, All-push P ys x all.1 p)

abbrev head_of : Start → List ℕ
head_of start = flat_map ended_line start.heads ++ header_text start.geo

pub front-push : (start : Start) (rows : List Row) (row : Row) → front_of start (rows ++ row ∷ []) ≡ front_of start rows ++ row_text row
front-push start rows row = ap (λ b. head_of start ++ b) (rows_text-push rows row) ∙ sym (append_assoc (head_of start) (rows_text rows) (row_text row))

longer : {A : Type 0} (x : A) (xs : List A) → length (xs ++ x ∷ []) ≡ length xs + 1
longer x xs = length-append xs (x ∷ [])

pub place-push : (start : Start) (rows : List Row) (row : Row) (len : ℕ) → len ≡ length (row_text row) → place_of start (rows ++ row ∷ []) ≡ moved (place_of start rows) len
place-push start rows row len is =
    let lines : length start.heads + 1 + length (rows ++ row ∷ []) ≡ length start.heads + 1 + length rows + 1 = omega (arith, longer row rows) in
    let used : length (front_of start (rows ++ row ∷ [])) ≡ length (front_of start rows) + len = ap length (front-push start rows row) ∙ length-append (front_of start rows) (row_text row) ∙ ap (λ n. length (front_of start rows) + n) (sym is) in
    ap (λ n. let p : Place = record { geo = Some start.geo; lines = n; used = length (front_of start (rows ++ row ∷ [])) } in p) lines
    ∙ ap (λ n. let p : Place = record { geo = Some start.geo; lines = length start.heads + 1 + length rows + 1; used = n } in p) used

-- Bytes that are used.

abbrev pub behind : Pending → ℕ → Pending
behind p len = record { rest = drop len p.rest; ended = p.ended }

pub IsRead-front : (start now : Tape) (front text : List ℕ) (p : Pending) (len : ℕ) → IsRead start front p now → p.rest ≡ text ++ drop len p.rest → IsRead start (front ++ text) (behind p len) now
IsRead-front start now front text p len read is = record {
  taken = read.taken ∙ ap (λ (b : List ℕ). start.taken ++ front ++ b) is ∙ sym (append_assoc (start.taken ++ front) text (drop len p.rest))
      ∙ ap (λ (b : List ℕ). b ++ drop len p.rest) (append_assoc start.taken front text);
  left = read.left ∙ ap (λ (b : List ℕ). front ++ b ++ now.left) is ∙ ap (λ (b : List ℕ). b ++ now.left) (sym (append_assoc front text (drop len p.rest)));
  ended = read.ended;
}

pub IsRead-still : (start before after : Tape) (front : List ℕ) (p : Pending) → IsRead start front p before → TakesNone before after → IsRead start front p after
IsRead-still start before after front p read none = record {
  taken = none.taken ∙ read.taken;
  left = read.left ∙ ap (λ (b : List ℕ). front ++ p.rest ++ b) (sym none.left);
  ended = λ e. none.left ∙ read.ended e;
}

-- the rows that were read
pub record HasRows (start : Start) (rows : List Row) (p : Pending) (now : Tape) : Type 0 where
  pub valid : AreRows start.geo rows
  pub reads : IsRead start.tape (front_of start rows) p now
  pub limit : length (front_of start rows) ≤ max_script

HasRows-still : (start : Start) (rows : List Row) (p : Pending) (before after : Tape) → HasRows start rows p before → TakesNone before after → HasRows start rows p after
HasRows-still start rows p before after has none = record { valid = has.valid; reads = IsRead-still start.tape before after (front_of start rows) p has.reads none; limit = has.limit }

row_read : (start : Start) (rows : List Row) (row : Row) (p : Pending) (now : Tape) (len : ℕ) → HasRows start rows p now → AreRows start.geo (rows ++ row ∷ []) → IsFront (place_of start rows) p.rest (row_text row) len → HasRows start (rows ++ row ∷ []) (behind p len) now
row_read start rows row p now len has valid front = record {
  valid = valid;
  reads = subst (λ (b : List ℕ). IsRead start.tape b (behind p len) now) (sym (front-push start rows row)) (IsRead-front start.tape now (front_of start rows) (row_text row) p len has.reads front.splits);
  limit = subst (λ (b : List ℕ). length b ≤ max_script) (sym (front-push start rows row)) (omega (arith, length-append (front_of start rows) (row_text row), front.limit, front.len_is));
}

HasRows-line : (start : Start) (rows : List Row) (p : Pending) (line : Line) (now : Tape) (len : ℕ) → HasRows start rows p now → IsLine start.geo line → is_built line ≡ true → IsFront (place_of start rows) p.rest (spelled line) len
    → HasRows start (rows ++ said line ∷ []) (behind p len) now
HasRows-line start rows p line now len has valid built front = row_read start rows (said line) p now len has (record {
  valid = All-push _ rows (said line) has.valid.valid valid;
  built = All-push _ rows (said line) has.valid.built built;
}) front

HasRows-skipped : (start : Start) (rows : List Row) (p : Pending) (text : List ℕ) (now : Tape) (len : ℕ) → HasRows start rows p now → IsTrue (is_comment text) → IsFront (place_of start rows) p.rest (ended_line text) len
    → HasRows start (rows ++ skipped text ∷ []) (behind p len) now
HasRows-skipped start rows p text now len has valid front = row_read start rows (skipped text) p now len has (record {
  valid = All-push _ rows (skipped text) has.valid.valid valid;
  built = All-push _ rows (skipped text) has.valid.built refl;
}) front

-- Runs.

-- the program runs the line of what it carries out
built_line : (done : Action) → is_built (line_of done) ≡ true
built_line (action.Call plus client call) = refl
built_line (action.Steps client count) = refl
built_line (action.Until client kind) = refl

place_moved : (start : Start) (place after : Place) (rows : List Row) (row : Row) (bytes : List ℕ) (len : ℕ) → place ≡ place_of start rows → after ≡ moved place len → IsFront place bytes (row_text row) len → after ≡ place_of start (rows ++ row ∷ [])
place_moved start place after rows row bytes len at is front = is ∙ ap (λ (a : Place). moved a len) at ∙ sym (place-push start rows row len front.len_is)

-- the system is that of the run
pub own_system : (start : Start) (place : Place) (p : Pending) (course : SeenCourse) (now : Tape) (geo : Geometry) → IsRunning start place p course now → place.geo ≡ Some geo → start.geo ≡ geo
own_system start place p course now geo h is = same (Some start.geo) refl (sym (ap (λ (a : Place). a.geo) h.at) ∙ is)
  where
    same : (at : Option Geometry) → at ≡ Some start.geo → at ≡ Some geo → start.geo ≡ geo
    same at e f = cc

-- a line that says nothing was read
pub has_skipped : (start : Start) (place after : Place) (p q : Pending) (course : SeenCourse) (before now : Tape) (text : List ℕ) (len : ℕ) → (h : IsRunning start place p course before) → IsRead start.tape (front_of start h.rows) q now → now.printed ≡ before.printed → IsTrue (is_comment text)
    → IsFront place q.rest (ended_line text) len → after ≡ moved place len → IsRunning start after (behind q len) course now
has_skipped start place after p q course before now text len h read same valid front is =
    let here : IsFront (place_of start h.rows) q.rest (ended_line text) len = subst (λ (a : Place). IsFront a q.rest (ended_line text) len) h.at front in
    let has = HasRows-skipped start h.rows q text now len (record { valid = h.valid; reads = read; limit = h.limit }) valid here in
    let lines : lines_in (h.rows ++ skipped text ∷ []) ≡ lines_in h.rows = lines_in-push h.rows (skipped text) ∙ append-nil (lines_in h.rows) in
    record {
      rows = h.rows ++ skipped text ∷ [];
      valid = has.valid;
      reads = has.reads;
      at = place_moved start place after h.rows (skipped text) q.rest len h.at is front;
      limit = has.limit;
      between = subst (λ (s : List Line). IsBetween start.tape.printed start.geo s course now.printed) (sym lines) (subst (IsBetween start.tape.printed start.geo (lines_in h.rows) course) (sym same) h.between);
    }

pub has_stopped : (ending : Ending) (start : Start) (place : Place) (p q : Pending) (course : SeenCourse) (before now : Tape) → (h : IsRunning start place p course before) → IsRead start.tape (front_of start h.rows) q now → EndsAt ending place q → now.printed ≡ before.printed
    → HasStopped ending start q course now
has_stopped ending start place p q course before now h read ends same = record {
  rows = h.rows;
  valid = h.valid;
  reads = read;
  limit = h.limit;
  ends = subst (λ (a : Place). EndsAt ending a q) h.at ends;
  between = subst (IsBetween start.tape.printed start.geo (lines_in h.rows) course) (sym same) h.between;
}

-- bytes were taken, and the run broke off before a line was known
pub broken_in_take : (start : Start) (place : Place) (p : Pending) (course : SeenCourse) (before after : Tape) → (h : IsRunning start place p course before) → IsTaken start.tape (front_of start h.rows) after → after.printed ≡ before.printed → (halted : Halted) → IsBroken halted start after
broken_in_take start place p course before after h taken same halted = record {
  rows = h.rows;
  valid = h.valid;
  reads = taken;
  limit = h.limit;
  cut = cut_between start.tape.printed start.geo (lines_in h.rows) course halted after.printed (subst (IsBetween start.tape.printed start.geo (lines_in h.rows) course) (sym same) h.between);
}

-- a run behind some rows, at the system as another names it
pub ready : (start : Start) (place : Place) (p : Pending) (course : SeenCourse) (before : Tape) (geo : Geometry) (now : SeenCourse) (printed : List ℕ) → (h : IsRunning start place p course before) → start.geo ≡ geo → now ≡ course → printed ≡ before.printed
    → IsBetween start.tape.printed geo (lines_in h.rows) now printed
ready start place p course before geo now printed h system same told =
    subst (λ (geo : Geometry). IsBetween start.tape.printed geo (lines_in h.rows) now printed) system
    (subst (λ (c : SeenCourse). IsBetween start.tape.printed start.geo (lines_in h.rows) c printed) (sym same) (subst (IsBetween start.tape.printed start.geo (lines_in h.rows) course) (sym told) h.between))

-- A line was read, and then carried out.
module _ (start : Start) (place : Place) (p q : Pending) (course : SeenCourse) (before now later : Tape) (done : Action) (len : ℕ) (h : IsRunning start place p course before) (read : IsRead start.tape (front_of start h.rows) q now)
    (valid : IsLineHere place.geo (line_of done)) (front : IsFront place q.rest (spelled (line_of done)) len) (none : TakesNone now later) (geo : Geometry) (system : start.geo ≡ geo) where
  has_line : HasRows start (h.rows ++ said (line_of done) ∷ []) (behind q len) later
  has_line =
      let line : IsLine start.geo (line_of done) = subst (λ (a : Place). IsLineHere a.geo (line_of done)) h.at valid in
      let text : IsFront (place_of start h.rows) q.rest (spelled (line_of done)) len = subst (λ (a : Place). IsFront a q.rest (spelled (line_of done)) len) h.at front in
      HasRows-still start (h.rows ++ said (line_of done) ∷ []) (behind q len) now later (HasRows-line start h.rows q (line_of done) now len (record { valid = h.valid; reads = read; limit = h.limit }) line (built_line done) text) none

  -- it was
  pub carried : (after : Place) (new : SeenCourse) → after ≡ moved place len → IsBetween start.tape.printed geo (lines_in h.rows ++ line_of done ∷ []) new later.printed → IsRunning start after (behind q len) new later
  carried after new is between = record {
    rows = h.rows ++ said (line_of done) ∷ [];
    valid = has_line.valid;
    reads = has_line.reads;
    at = place_moved start place after h.rows (said (line_of done)) q.rest len h.at is front;
    limit = has_line.limit;
    between = subst (λ (s : List Line). IsBetween start.tape.printed start.geo s new later.printed) (sym (lines_in-push h.rows (said (line_of done))))
        (subst (λ (geo : Geometry). IsBetween start.tape.printed geo (lines_in h.rows ++ line_of done ∷ []) new later.printed) (sym system) between);
  }

  -- the run broke off before, or in it
  pub broken_at : (halted : Halted) → IsCutOffAt halted start.tape.printed geo (lines_in h.rows) (line_of done) later.printed → IsBroken halted start later
  broken_at halted (inl cut) = record {
    rows = h.rows;
    valid = h.valid;
    reads = IsTaken-read start.tape later (front_of start h.rows) q (IsRead-still start.tape now later (front_of start h.rows) q read none);
    limit = h.limit;
    cut = subst (λ (geo : Geometry). IsCutOff halted start.tape.printed geo (lines_in h.rows) later.printed) (sym system) cut;
  }
  broken_at halted (inr cut) = record {
    rows = h.rows ++ said (line_of done) ∷ [];
    valid = has_line.valid;
    reads = IsTaken-read start.tape later (front_of start (h.rows ++ said (line_of done) ∷ [])) (behind q len) has_line.reads;
    limit = has_line.limit;
    cut = subst (λ (s : List Line). IsCutOff halted start.tape.printed start.geo s later.printed) (sym (lines_in-push h.rows (said (line_of done))))
        (subst (λ (geo : Geometry). IsCutOff halted start.tape.printed geo (lines_in h.rows ++ line_of done ∷ []) later.printed) (sym system) cut);
  }

-- A result that is an error.

pub on_err : {T E : Type 0} (r : Result T E) (P : T → Type 0) (Q : E → Type 0) → IsErr r → ((e : E) → Q e) → MatchResult r P Q
on_err (Ok x) P Q wrong q = absurd cc
on_err (Err e) P Q wrong q = q e

pub on_this_err : {T E : Type 0} (r : Result T E) (e : E) (P : T → Type 0) (Q : E → Type 0) → IsErrAnd r (λ x. x ≡ e) → Q e → MatchResult r P Q
on_this_err (Ok x) e P Q wrong q = absurd wrong
on_this_err (Err x) e P Q is q = subst Q (sym is) q
