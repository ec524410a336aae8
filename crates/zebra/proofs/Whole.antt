-- The script and the report of a run as one.
use Rattle.std.proofs.Common.{◌≡◌, ℕ, ◌+◌, ◌-◌, ◌<◌, ◌≤◌, true, true≢false, Bool, not, List, [], ◌∷◌, ◌++◌, length, Some, refl, sym, ap, ◌∙◌, inl, inr, arith}
use Rattle.std.specs.Prelude.{◌≢◌, ◌==◌}
use Rattle.std.specs.List.{AllByRecursion}
use Rattle.std.proofs.lemmas.List.{length-append}
use Rattle.zb_types.specs.declared.geometry.Geometry.{Geometry}
use Rattle.zb_types.specs.declared.lines.Outcome.{Outcome}
use Rattle.zb_claims.specs.Points.{is_begun, tree_at}
use Rattle.zb_claims.specs.Text.{report_text, tree_text, max_script}
use Rattle.zb_claims.specs.Script.{Row, row_text, lines_in, whole, Begins}
use Rattle.zb_claims.specs.Runs.{TellsTree, EndsSo, Prints, script_fault}
use Rattle.zb_headline.specs.Complete.{is_replied}
use Rattle.zb_given.specs.Given.{Given}
use Rattle.zb_given.proofs.RunLifting.{lifts_run}
use Rattle.zebra.specs.declared.last.Last.{Last}
use Rattle.zebra.specs.Pending.{Pending}
use Rattle.zebra.specs.Rows.{AreRows, NoRow}
use Rattle.zebra.specs.Running.{Start, StandFor, front_of}
use Rattle.zebra.specs.Ends.{IsEnd, RunsBuilt}
use Rattle.zebra.proofs.Ample.{given_in_turn, given_needs, none_unfinished}

-- the bytes of a script: what stands before its header, the header, these rows, and what follows
pub record IsScript (start : Start) (rows : List Row) (bytes rest : List ℕ) : Type 0 where
  pub skipped_first : AllByRecursion whole.before start.heads
  pub rows_are : AreRows start.geo rows
  pub text : bytes ≡ front_of start rows ++ rest
  pub limit : length (front_of start rows) ≤ max_script

abbrev pub begins : (start : Start) (rows : List Row) (bytes rest : List ℕ) → IsScript start rows bytes rest → Begins whole bytes start.geo rows rest
begins start rows bytes rest s = record {
  heads = start.heads;
  text = s.text;
  skipped_first = s.skipped_first;
  limits = tt;
  valid = s.rows_are.valid;
  short = omega (arith, s.limit, ap length s.text, length-append (front_of start rows) rest);
}

-- the script was read to its end, and each call has its last line
pub done : (geo : Geometry) (rows : List Row) (lines : List Outcome) (bytes rest : List ℕ) (last : Last) → IsEnd (lines_in rows) lines last → rest ≡ [] → EndsSo whole TellsTree bytes geo rows rest lines last.status last.text.items
done geo rows lines bytes rest last e none = inl (
  e.status,
  record {
    read = none;
    ended = e.ended;
    unfinished = e.unfinished;
    tree = tree_text (tree_at (lines_in rows) lines);
    tells = refl;
    text = e.text;
  },
)

-- a line that is none was reached
pub stopped : (start : Start) (rows : List Row) (lines : List Outcome) (bytes rest more tail : List ℕ) (p : Pending) (number : ℕ) → is_begun (lines_in rows) lines (length (lines_in rows)) ≡ true → IsScript start rows bytes rest → rest ≡ p.rest ++ more → (p.ended ≡ true → more ≡ []) → p.rest ≢ []
    → NoRow (Some start.geo) (length (front_of start rows)) p → number ≡ length start.heads + 1 + length rows + 1 → tail ≡ script_fault number → EndsSo whole TellsTree bytes start.geo rows rest lines 2 tail
stopped start rows lines bytes rest more tail p number begun script is no_more some none at text = inr (inl (
  refl,
  record {
    number = number;
    reached = begun;
    stops = record {
      rest = rest;
      begins = begins start rows bytes rest script;
      bad = record {
        more = λ nothing. some (front_nil p.rest more (sym is ∙ nothing));
        none = λ row after valid here.
            let past : max_script < length (front_of start rows) + length (row_text row) = none (row_text row) more after no_more (row, valid, refl) (sym is ∙ here) in
            omega (arith, past, ap length here, length-append (row_text row) after, ap length script.text, length-append (front_of start rows) rest);
      };
      at = omega (arith, at);
    };
    text = text;
  },
))
  where
    front_nil : (xs ys : List ℕ) → xs ++ ys ≡ [] → xs ≡ []
    front_nil [] ys e = refl
    front_nil (x ∷ xs) ys e = absurd cc

-- The whole.

-- a run in which each call is replied to doesn't end with the status of unfinished ones
not_seven : (geo : Geometry) (rows : List Row) (lines : List Outcome) (bytes rest tail printed : List ℕ) (end status : ℕ) → AllByRecursion (λ line. is_replied line ≡ true) lines → EndsSo whole TellsTree bytes geo rows rest lines end tail
    → Prints status printed end (report_text lines ++ tail) → status ≢ 7
not_seven geo rows lines bytes rest tail printed end status replied ends (inr cut) e = omega (arith, cut.0, e)
not_seven geo rows lines bytes rest tail printed end status replied (inl done) (inl is) e =
    true≢false (sym (ap (λ (n : ℕ). not (n == 0)) (sym is.0 ∙ e)) ∙ sym done.1.unfinished ∙ none_unfinished lines replied)
not_seven geo rows lines bytes rest tail printed end status replied (inr (inl stopped)) (inl is) e = omega (arith, stopped.0, is.0, e)
not_seven geo rows lines bytes rest tail printed end status replied (inr (inr (inl fault))) (inl is) e = omega (arith, fault.0, is.0, e)
not_seven geo rows lines bytes rest tail printed end status replied (inr (inr (inr starved))) (inl is) e = omega (arith, starved.0, is.0, e)

pub whole_run : (start : Start) (rows : List Row) (given : Given) (lines : List Outcome) (bytes rest tail printed : List ℕ) (end status : ℕ) → StandFor start.geo (lines_in rows) given lines → IsScript start rows bytes rest → EndsSo whole TellsTree bytes start.geo rows rest lines end tail
    → Prints status printed end (report_text lines ++ tail) → RunsBuilt status bytes printed
whole_run start rows given lines bytes rest tail printed end status stand script ends prints = record {
  run = record {
    geo = start.geo;
    rows = rows;
    rest = rest;
    begins = begins start rows bytes rest script;
    all = lines;
    valid = stand.valid;
    fits = (lifts_run (lines_in rows) given lines stand.gives stand.fits).0;
    end = end;
    tail = tail;
    ends = ends;
    text = prints;
  };
  built = script.rows_are.built;
  space = stand.space;
  ample = λ none enough.
      let needs = given_needs start.geo (lines_in rows) given lines stand.gives in
      let replied = stand.ample (given_in_turn (lines_in rows) given lines stand.gives none) (omega (arith, enough, needs)) in
      (replied, not_seven start.geo rows lines bytes rest tail printed end status replied ends prints);
}
