-- What a run prints determines its lines.
use Rattle.std.proofs.Common.{◌≡◌, ◌≢◌, ℕ, ◌^◌, ◌<◌, Bool, true, false, List, [], ◌∷◌, ◌++◌, take, refl, sym, ap, subst, ◌∙◌, append_assoc, inl, inr}
use Rattle.std.specs.Prelude.{codes}
use Rattle.std.specs.List.{list_any, AllByRecursion}
use Rattle.std.specs.Str.{bytes_eq}
use Rattle.std.specs.Fmt.{decimal}
use Rattle.zb_types.specs.declared.geometry.Geometry.{Geometry}
use Rattle.zb_types.specs.declared.tables.Listed.{Listed}
use Rattle.zb_types.specs.declared.tables.Listed.TheVariants.{Dir as ListedDir, File as ListedFile}
use Rattle.zb_types.specs.declared.tables.TreeEntry.{TreeEntry}
use Rattle.zb_types.specs.declared.lines.Line.{Line}
use Rattle.zb_types.specs.declared.lines.Said.{Said}
use Rattle.zb_types.specs.declared.lines.Told.TheVariants.{Crash, Arm, Up, Lose, Checkpoint}
use Rattle.zb_types.specs.declared.lines.Outcome.{Outcome}
use Rattle.zb_types.specs.declared.lines.Outcome.TheVariants.{Call as OfCall, Clean as OfClean, Rebuild as OfRebuild, Event as OfEvent}
use Rattle.zb_types.specs.Tree.{listing}
use Rattle.zb_claims.specs.Points.{tree_at}
use Rattle.zb_claims.specs.Text.{IsOutcome, said_text, line_text, report_text, listed_text, list_text, newline}
use Rattle.zb_claims.specs.Script.{Grammar, Row, whole, lines_in}
use Rattle.zb_claims.specs.Runs.{Tails, RunsScriptBy, IsDone, IsStarved, EndsSo, Prints, end_line, out_of_memory}
use Rattle.zb_laws.specs.Printed.{starts_call, starts_line, OneReport, BeginsOtherwise, TreeBeginsOtherwise, TailsDiffer, LinesAloneDiffer, OneRun}
use Rattle.zb_laws.proofs.Tests.{or_left}
use Rattle.zb_laws.proofs.Bytes.{first_low}
use Rattle.zb_laws.proofs.Clean.{small_client}
use Rattle.zb_laws.proofs.Lines.{call_words}
use Rattle.zb_laws.proofs.Fronts.{line_cut}
use Rattle.zb_laws.proofs.ReadOnce.{IsPart, whole_part, same_start}

-- The first letters of a line.

abbrev others_start : List ℕ → Bool
others_start text = list_any (bytes_eq (take 3 text)) (codes "cle" ∷ codes "reb" ∷ codes "cra" ∷ codes "arm" ∷ codes "up " ∷ codes "los" ∷ codes "che" ∷ [])

call_text : (c n : ℕ) (said : Said) (more : List ℕ) → line_text (OfCall c n said) ++ more ≡ 99 ∷ (decimal c ++ ((32 ∷ (decimal n ++ 32 ∷ said_text said)) ++ (newline ++ more)))
call_text c n said more =
    ap (λ (l : List ℕ). (l ++ newline) ++ more) (call_words c n said) ∙ append_assoc (99 ∷ (decimal c ++ 32 ∷ (decimal n ++ 32 ∷ said_text said))) newline more
    ∙ ap (λ (l : List ℕ). 99 ∷ l) (append_assoc (decimal c) (32 ∷ (decimal n ++ 32 ∷ said_text said)) (newline ++ more))

call_starts : (c : ℕ) (rest : List ℕ) → c < 2 ^ 64 → starts_line (99 ∷ (decimal c ++ rest)) ≡ true
call_starts c rest small = or_left (starts_call (99 ∷ (decimal c ++ rest))) (others_start (99 ∷ (decimal c ++ rest))) (first_low c small rest)

line_starts : (geo : Geometry) (line : Outcome) (more : List ℕ) → IsOutcome geo line → starts_line (line_text line ++ more) ≡ true
line_starts geo (OfCall c n said) more h =
    ap starts_line (call_text c n said more) ∙ call_starts c ((32 ∷ (decimal n ++ 32 ∷ said_text said)) ++ (newline ++ more)) (small_client geo c h.0)
line_starts geo (OfClean pass) more h = refl
line_starts geo (OfRebuild server end) more h = refl
line_starts geo (OfEvent (Crash node) answer) more h = refl
line_starts geo (OfEvent (Arm node) answer) more h = refl
line_starts geo (OfEvent (Up node) answer) more h = refl
line_starts geo (OfEvent (Lose server) answer) more h = refl
line_starts geo (OfEvent Checkpoint answer) more h = refl

never_tail : {X : Type 0} (geo : Geometry) (line : Outcome) (more tail : List ℕ) → IsOutcome geo line → starts_line tail ≡ false → line_text line ++ more ≡ tail → X
never_tail geo line more tail p h e = let f : true ≡ false = sym (line_starts geo line more p) ∙ ap starts_line e ∙ h in absurd cc

pub one_report : OneReport
one_report geo [] [] tail other p q h k e = record { same_lines = refl; same_tail = e }
one_report geo [] (b ∷ bs) tail other p q h k e = never_tail geo b (report_text bs ++ other) tail q.0 h (sym (e ∙ append_assoc (line_text b) (report_text bs) other))
one_report geo (a ∷ lines) [] tail other p q h k e = never_tail geo a (report_text lines ++ tail) other p.0 k (sym (append_assoc (line_text a) (report_text lines) tail) ∙ e)
one_report geo (a ∷ lines) (b ∷ bs) tail other p q h k e =
    let parts = line_cut geo a b (report_text lines ++ tail) (report_text bs ++ other) p.0 q.0 (sym (append_assoc (line_text a) (report_text lines) tail) ∙ e ∙ append_assoc (line_text b) (report_text bs) other) in
    let later = one_report geo lines bs tail other p.1 q.1 h k parts.1 in
    record { same_lines = ap (λ (l : Outcome). l ∷ lines) parts.0 ∙ ap (λ (l : List Outcome). b ∷ l) later.same_lines; same_tail = later.same_tail }

-- Tails.

listed_differs : (path : List ℕ) (listed : Listed) (more : List ℕ) → starts_line (listed_text path listed ++ more) ≡ false
listed_differs path ListedDir more = refl
listed_differs path (ListedFile fid size) more = refl

tree_differs : (entries : List TreeEntry) (more : List ℕ) → starts_line more ≡ false → starts_line (list_text entries ++ more) ≡ false
tree_differs [] more h = h
tree_differs (e ∷ entries) more h = ap starts_line (append_assoc (listed_text e.path e.listed) (list_text entries) more) ∙ listed_differs e.path e.listed (list_text entries ++ more)

pub tree_otherwise : TreeBeginsOtherwise
tree_otherwise script all tree tells more h = ap (λ (l : List ℕ). starts_line (l ++ more)) tells ∙ tree_differs (listing (tree_at script all)) more h

done_differs : (end : ℕ) (script : List Line) (rest : List ℕ) (all : List Outcome) (tail : List ℕ) → IsDone BeginsOtherwise end script rest all tail → starts_line tail ≡ false
done_differs end script rest all tail h = ap starts_line h.text ∙ h.tells (end_line end) refl

starved_differs : (script : List Line) (all : List Outcome) (tail : List ℕ) → IsStarved BeginsOtherwise script all tail → starts_line tail ≡ false
starved_differs script all tail h =
    ap starts_line h.text ∙ (elim h.tells as (λ _. starts_line (h.tree ++ out_of_memory) ≡ false) [ inl none ↦ ap (λ (l : List ℕ). starts_line (l ++ out_of_memory)) none | inr tells ↦ tells out_of_memory refl ])

tails_differ : (g : Grammar) → TailsDiffer g
tails_differ g bytes geo rows rest all end tail (inl h) = done_differs end (lines_in rows) rest all tail h.1
tails_differ g bytes geo rows rest all end tail (inr (inl h)) = ap starts_line h.1.text
tails_differ g bytes geo rows rest all end tail (inr (inr (inl h))) = ap starts_line h.1
tails_differ g bytes geo rows rest all end tail (inr (inr (inr h))) = starved_differs (lines_in rows) all tail h.1

-- Runs.

whole_text : (status : ℕ) (printed : List ℕ) (end : ℕ) (text : List ℕ) → status ≢ 4 → Prints status printed end text → printed ≡ text
whole_text status printed end text not (inl h) = h.1
whole_text status printed end text not (inr h) = absurd (not h.0)

one_run : (g : Grammar) → IsPart g → OneRun g
one_run g part ordered status bytes printed not run other =
    let start = same_start g part bytes run.geo other.geo run.rows other.rows run.rest other.rest run.begins other.begins in
    let same : report_text run.all ++ run.tail ≡ report_text other.all ++ other.tail = sym (whole_text status printed run.end (report_text run.all ++ run.tail) not run.text) ∙ whole_text status printed other.end (report_text other.all ++ other.tail) not other.text in
    let valid : AllByRecursion (IsOutcome run.geo) other.all = subst (λ (x : Geometry). AllByRecursion (IsOutcome x) other.all) (sym start.geometry) other.valid in
    let report = one_report run.geo run.all other.all run.tail other.tail run.valid valid (tails_differ g bytes run.geo run.rows run.rest run.all run.end run.tail run.ends) (tails_differ g bytes other.geo other.rows other.rest other.all other.end other.tail other.ends) same in
    record { geometry = start.geometry; same_lines = report.same_lines; same_tail = report.same_tail }

pub whole_run : OneRun whole
whole_run = one_run whole whole_part

pub whole_tails : TailsDiffer whole
whole_tails = tails_differ whole

pub lines_alone : LinesAloneDiffer whole
lines_alone bytes end last (inl h) = ap starts_line h.1.2
lines_alone bytes end last (inr (inl h)) = ap starts_line h.1
lines_alone bytes end last (inr (inr (inl h))) = ap starts_line h.1
lines_alone bytes end last (inr (inr (inr h))) = ap starts_line h.1.1

-- A run that tells anything for the tree that begins otherwise is such a run.

module _ (T : Tails) (otherwise : (script : List Line) (all : List Outcome) (text : List ℕ) → T script all text → BeginsOtherwise script all text) where
  otherwise_done : (end : ℕ) (script : List Line) (rest : List ℕ) (all : List Outcome) (tail : List ℕ) → IsDone T end script rest all tail → IsDone BeginsOtherwise end script rest all tail
  otherwise_done end script rest all tail h = record { read = h.read; ended = h.ended; unfinished = h.unfinished; tree = h.tree; tells = otherwise script all h.tree h.tells; text = h.text }

  otherwise_starved : (script : List Line) (all : List Outcome) (tail : List ℕ) → IsStarved T script all tail → IsStarved BeginsOtherwise script all tail
  otherwise_starved script all tail h = record {
    tree = h.tree;
    tells = elim h.tells [ inl none ↦ inl none | inr tells ↦ inr (otherwise script all h.tree tells) ];
    text = h.text;
  }

  otherwise_ends : (g : Grammar) (bytes : List ℕ) (geo : Geometry) (rows : List Row) (rest : List ℕ) (all : List Outcome) (end : ℕ) (tail : List ℕ) → EndsSo g T bytes geo rows rest all end tail → EndsSo g BeginsOtherwise bytes geo rows rest all end tail
  otherwise_ends g bytes geo rows rest all end tail (inl h) = inl (h.0, otherwise_done end (lines_in rows) rest all tail h.1)
  otherwise_ends g bytes geo rows rest all end tail (inr (inl h)) = inr (inl h)
  otherwise_ends g bytes geo rows rest all end tail (inr (inr (inl h))) = inr (inr (inl h))
  otherwise_ends g bytes geo rows rest all end tail (inr (inr (inr h))) = inr (inr (inr (h.0, otherwise_starved (lines_in rows) all tail h.1)))

  pub otherwise_run : (ordered : Bool) (g : Grammar) (status : ℕ) (bytes printed : List ℕ) → RunsScriptBy ordered g T status bytes printed → RunsScriptBy ordered g BeginsOtherwise status bytes printed
  otherwise_run ordered g status bytes printed run = record {
    geo = run.geo;
    rows = run.rows;
    rest = run.rest;
    begins = run.begins;
    all = run.all;
    valid = run.valid;
    fits = run.fits;
    end = run.end;
    tail = run.tail;
    ends = otherwise_ends g bytes run.geo run.rows run.rest run.all run.end run.tail run.ends;
    text = run.text;
  }
