-- What a run has taken and printed when it ends.
use Rattle.std.proofs.Common.{◌≡◌, ℕ, zero, suc, ◌+◌, ◌≤◌, ◌<◌, true, List, [], ◌∷◌, ◌++◌, length, take, drop, Result, Ok, Err, Some, None, refl, sym, ap, subst, ◌∙◌, append_assoc, inl, inr, arith}
use Rattle.std.specs.Prelude.{IfOk}
use Rattle.std.specs.List.{AllByRecursion}
use Rattle.std.proofs.lemmas.List.{append-nil, length-append}
use Rattle.zb_types.specs.declared.geometry.Geometry.{Geometry}
use Rattle.zb_types.specs.declared.lines.Outcome.{Outcome}
use Rattle.zb_claims.specs.Points.{is_begun}
use Rattle.zb_claims.specs.Text.{header_text, report_text, spelled, max_script}
use Rattle.zb_claims.specs.Script.{Row, ended_line, lines_in, whole, HasNoHeader}
use Rattle.zb_claims.specs.Runs.{TellsTree, EndsSo, EndsBefore, Prints, script_fault, read_fault, out_of_memory}
use Rattle.zb_given.specs.Given.{Given, none_given}
use Rattle.zb_given.proofs.Looping.{is_first}
use Rattle.zb_given.proofs.RunLifting.{lifts_run}
use Rattle.zb_script.specs.Places.{Place}
use Rattle.zb_course.specs.Seen.{SeenCourse}
use Rattle.zb_running.specs.Reports.{HasReport}
use Rattle.zebra.specs.declared.ending.Halted.{Halted}
use Rattle.zebra.specs.declared.ending.Halted.TheVariants.{Memory, ReadFault, WriteFault}
use Rattle.zebra.specs.declared.reading.Ending.{Ending}
use Rattle.zebra.specs.declared.reading.Ending.TheVariants.{Bad, Later, End}
use Rattle.zebra.specs.declared.last.Last.{Last}
use Rattle.zebra.specs.Pending.{Pending}
use Rattle.zebra.specs.Moves.{Tape, IsRead, IsTaken, TakesNone}
use Rattle.zebra.specs.Rows.{EndsAt, NoRow}
use Rattle.zebra.specs.Headers.{heads_text, HasSystem, LacksSystem}
use Rattle.zebra.specs.Running.{Start, StandFor, IsBroken, IsCutOff, IsRunning, front_of, place_of}
use Rattle.zebra.specs.Ends.{IsLast, HasEnded, PutsLast, PutsFault, PutsHalted, RunsFrom, RunsSoFar, StopsAtLine, later_line}
use Rattle.zebra.proofs.Taking.{IsTaken-read}
use Rattle.zebra.proofs.Printing.{take_front}
use Rattle.zebra.proofs.Heading.{taken_behind}
use Rattle.zebra.proofs.Whole.{IsScript, begins, done, stopped, whole_run}

-- more bytes printed behind those of the lines
prints_behind : (front printed bytes : List ℕ) (end status : ℕ) → Prints status printed end bytes → Prints status (front ++ printed) end (front ++ bytes)
prints_behind front printed bytes end status (inl h) = inl (h.0, ap (λ b. front ++ b) h.1)
prints_behind front printed bytes end status (inr h) = inr (h.0, (length front + h.1.0, ap (λ b. front ++ b) h.1.1 ∙ sym (take_front front bytes h.1.0)))

take_nil : (k : ℕ) → take {A = ℕ} k [] ≡ []
take_nil zero = refl
take_nil (suc k) = refl

take_within : (xs ys : List ℕ) (k : ℕ) → (n : ℕ) × (take k xs ≡ take n (xs ++ ys))
take_within [] ys k = (0, take_nil k)
take_within (x ∷ xs) ys zero = (0, refl)
take_within (x ∷ xs) ys (suc k) = let rest = take_within xs ys k in (suc rest.0, ap (λ (l : List ℕ). x ∷ l) rest.1)

-- what is claimed of any bytes that begin like those of the script
abbrev OfBytes : (start : Start) → List Row → Pending → ℕ → List ℕ → Type 0
OfBytes start rows p status printed = (bytes rest more : List ℕ) → IsScript start rows bytes rest → rest ≡ p.rest ++ more → (p.ended ≡ true → more ≡ []) → RunsSoFar status bytes printed

-- A run that came to its end, or to a line that is none or isn't built.

module _ (start : Start) (rows : List Row) (given : Given) (lines : List Outcome) (p : Pending) (stand : StandFor start.geo (lines_in rows) given lines) (begun : is_begun (lines_in rows) lines (length (lines_in rows)) ≡ true) (status : ℕ) (printed : List ℕ) where
  -- a line that isn't built was reached
  stops_at : (number : ℕ) (bytes rest more : List ℕ) → IsScript start rows bytes rest → rest ≡ p.rest ++ more
      → EndsAt (Later number) (place_of start rows) p → Prints status printed 10 (report_text lines ++ later_line number) → StopsAtLine status bytes printed
  stops_at number bytes rest more script is ends prints =
      let later = ends.1 in
      let front = later.front in
      let limit : length (front_of start rows) + later.len ≤ max_script = front.limit in
      let text : rest ≡ spelled later.line ++ (drop later.len p.rest ++ more) = is ∙ ap (λ (b : List ℕ). b ++ more) front.splits ∙ append_assoc (spelled later.line) (drop later.len p.rest) more in
      let at : number ≡ length start.heads + length rows + 2 = omega (arith, ends.0) in
      record {
        geo = start.geo;
        rows = rows;
        rest = rest;
        begins = begins start rows bytes rest script;
        built = script.rows_are.built;
        line = later.line;
        valid_line = later.valid;
        later = later.later;
        after = drop later.len p.rest ++ more;
        next = text;
        short = omega (arith, limit, front.len_is, ap length script.text, length-append (front_of start rows) rest, ap length text, length-append (spelled later.line) (drop later.len p.rest ++ more));
        all = lines;
        valid = stand.valid;
        fits = (lifts_run (lines_in rows) given lines stand.gives stand.fits).0;
        space = stand.space;
        reached = begun;
        prints = subst (λ n. Prints status printed 10 (report_text lines ++ later_line n)) at prints;
      }

  ends_of : (tail : Last) (ending : Ending) → EndsAt ending (place_of start rows) p → IsLast ending (lines_in rows) lines tail → Prints status printed tail.status (report_text lines ++ tail.text.items) → OfBytes start rows p status printed
  ends_of tail End ends last prints bytes rest more script is no_more =
      let none : rest ≡ [] = is ∙ ap (λ (b : List ℕ). b ++ more) ends.none ∙ no_more ends.ended in
      inl (whole_run start rows given lines bytes rest tail.text.items printed tail.status status stand script (done start.geo rows lines bytes rest tail last none) prints)
  ends_of tail (Bad number) ends last prints bytes rest more script is no_more =
      inl (whole_run start rows given lines bytes rest tail.text.items printed 2 status stand script
      (stopped start rows lines bytes rest more tail.text.items p number begun script is no_more ends.1.some ends.1.none ends.0 last.1)
      (subst (λ e. Prints status printed e (report_text lines ++ tail.text.items)) last.0 prints))
  ends_of tail (Later number) ends last prints bytes rest more script is no_more =
      let same : Prints status printed 10 (report_text lines ++ later_line number) = subst (λ (b : List ℕ). Prints status printed 10 (report_text lines ++ b)) last.1 (subst (λ e. Prints status printed e (report_text lines ++ tail.text.items)) last.0 prints) in
      inr (inr (stops_at number bytes rest more script is ends same))

-- of the bytes taken and of the whole script
of_both : (start : Start) (rows : List Row) (p : Pending) (now after : Tape) (status : ℕ) (printed : List ℕ) → IsRead start.tape (front_of start rows) p now → TakesNone now after → after.printed ≡ start.tape.printed ++ printed
    → ((bytes rest : List ℕ) → bytes ≡ front_of start rows ++ rest → IsScript start rows bytes rest) → OfBytes start rows p status printed → RunsFrom status start.tape after
of_both start rows p now after status printed read none told script claims = record {
  took = front_of start rows ++ p.rest;
  printed = printed;
  taken = none.taken ∙ read.taken ∙ append_assoc start.tape.taken (front_of start rows) p.rest;
  left = read.left ∙ ap (λ (b : List ℕ). front_of start rows ++ p.rest ++ b) (sym none.left);
  told = told;
  runs = claims (front_of start rows ++ p.rest) p.rest [] (script (front_of start rows ++ p.rest) p.rest refl) (sym (append-nil p.rest)) (λ _. refl);
  script = claims start.tape.left (p.rest ++ now.left) now.left (script start.tape.left (p.rest ++ now.left) (read.left ∙ append_assoc (front_of start rows) p.rest now.left)) refl read.ended;
}

pub ran : (start : Start) (now after : Tape) (tail : Last) (p : Pending) (status : ℕ) → AllByRecursion whole.before start.heads → HasEnded start tail p now → PutsLast tail.text.items tail.status status now after → RunsFrom status start.tape after
ran start now after tail p status skipped h puts =
    of_both start h.rows p now after status (report_text h.lines ++ puts.printed) h.reads puts.none
    (puts.told ∙ ap (λ (b : List ℕ). b ++ puts.printed) h.printed ∙ append_assoc start.tape.printed (report_text h.lines) puts.printed)
    (λ bytes rest is. record { skipped_first = skipped; rows_are = h.valid; text = is; limit = h.limit })
    (ends_of start h.rows h.given h.lines p h.stand h.begun status (report_text h.lines ++ puts.printed) tail h.ending h.ends h.last (prints_behind (report_text h.lines) puts.printed tail.text.items tail.status status puts.prints))

-- A run that broke off.

-- what was printed, and the tail and status that stand for it
record Broke (start : Start) (rows : List Row) (lines : List Outcome) (after : Tape) (status : ℕ) : Type 0 where
  pub printed : List ℕ
  pub told : after.printed ≡ start.tape.printed ++ printed
  pub end : ℕ
  pub tail : List ℕ
  pub ends : (bytes rest : List ℕ) → EndsSo whole TellsTree bytes start.geo rows rest lines end tail
  pub prints : Prints status printed end (report_text lines ++ tail)

broke : (start : Start) (rows : List Row) (halted : Halted) (now after : Tape) (status : ℕ) → (cut : IsCutOff halted start.tape.printed start.geo (lines_in rows) now.printed) → PutsHalted halted status now after → Broke start rows cut.lines after status
broke start rows Memory now after status cut puts = record {
  printed = report_text cut.lines ++ puts.printed;
  told = puts.told ∙ ap (λ (x : List ℕ). x ++ puts.printed) cut.printed_until ∙ append_assoc start.tape.printed (report_text cut.lines) puts.printed;
  end = 6;
  tail = out_of_memory;
  ends = λ bytes rest. inr (inr (inr (refl, record { tree = []; tells = inl refl; text = refl })));
  prints = prints_behind (report_text cut.lines) puts.printed out_of_memory 6 status puts.prints;
}
broke start rows ReadFault now after status cut puts = record {
  printed = report_text cut.lines ++ puts.printed;
  told = puts.told ∙ ap (λ (x : List ℕ). x ++ puts.printed) cut.printed_until ∙ append_assoc start.tape.printed (report_text cut.lines) puts.printed;
  end = 3;
  tail = read_fault;
  ends = λ bytes rest. inr (inr (inl (refl, refl)));
  prints = prints_behind (report_text cut.lines) puts.printed read_fault 3 status puts.prints;
}
broke start rows WriteFault now after status cut puts = record {
  printed = take cut.printed_until.0 (report_text cut.lines);
  told = puts.2 ∙ cut.printed_until.1;
  end = 6;
  tail = out_of_memory;
  ends = λ bytes rest. inr (inr (inr (refl, record { tree = []; tells = inl refl; text = refl })));
  prints = inr (puts.0, take_within (report_text cut.lines) out_of_memory cut.printed_until.0);
}

-- nothing was taken or left but by the last line
still : (halted : Halted) (status : ℕ) (now after : Tape) → PutsHalted halted status now after → TakesNone now after
still Memory status now after puts = puts.none
still ReadFault status now after puts = puts.none
still WriteFault status now after puts = puts.1

pub broken : (start : Start) (halted : Halted) (now after : Tape) (status : ℕ) → AllByRecursion whole.before start.heads → IsBroken halted start now → PutsHalted halted status now after → RunsFrom status start.tape after
broken start halted now after status skipped b puts =
    let rows : List Row = b.rows in
    let end = broke start rows halted now after status b.cut puts in
    let none = still halted status now after puts in
    let taken : IsScript start rows (front_of start rows ++ b.reads.rest) b.reads.rest = record { skipped_first = skipped; rows_are = b.valid; text = refl; limit = b.limit } in
    let left : IsScript start rows start.tape.left (b.reads.rest ++ now.left) =
    record { skipped_first = skipped; rows_are = b.valid; text = b.reads.left ∙ append_assoc (front_of start rows) b.reads.rest now.left; limit = b.limit } in
    record {
      took = front_of start rows ++ b.reads.rest;
      printed = end.printed;
      taken = none.taken ∙ b.reads.taken ∙ append_assoc start.tape.taken (front_of start rows) b.reads.rest;
      left = b.reads.left ∙ ap (λ (x : List ℕ). front_of start rows ++ b.reads.rest ++ x) (sym none.left);
      told = end.told;
      runs = inl (whole_run start rows b.cut.given b.cut.lines (front_of start rows ++ b.reads.rest) b.reads.rest end.tail end.printed end.end status b.cut.stand taken (end.ends (front_of start rows ++ b.reads.rest) b.reads.rest) end.prints);
      script = inl (whole_run start rows b.cut.given b.cut.lines start.tape.left (b.reads.rest ++ now.left) end.tail end.printed end.end status b.cut.stand left (end.ends start.tape.left (b.reads.rest ++ now.left)) end.prints);
    }

-- Before any call.

-- a run behind this header
abbrev pub start_of : (tape : Tape) (geo : Geometry) (place : Place) (p : Pending) (now : Tape) → HasSystem tape geo place p now → Start
start_of tape geo place p now h = record { tape = tape; heads = h.heads; geo = geo }

module _ (tape : Tape) (geo : Geometry) (place : Place) (p : Pending) (now : Tape) (h : HasSystem tape geo place p now) (same : tape.printed ≡ now.printed) where
  abbrev front : List ℕ
  front = heads_text h.heads ++ header_text geo

  no_row : (n : ℕ) → n ≡ n + 0
  no_row n = omega arith

  no_lines : now.printed ≡ tape.printed ++ report_text []
  no_lines = sym same ∙ sym (append-nil tape.printed)

  first_reads : IsRead tape (front_of (start_of tape geo place p now h) []) p now
  first_reads = subst (λ (f : List ℕ). IsRead tape f p now) (sym (append-nil front)) h.reads

  first_limit : length (front_of (start_of tape geo place p now h) []) ≤ max_script
  first_limit = subst (λ (f : List ℕ). length f ≤ max_script) (sym (append-nil front)) h.limit

  pub first_running : (course : SeenCourse) → HasReport geo none_given [] course → course.text ≡ [] → IsRunning (start_of tape geo place p now h) place p course now
  first_running course report none = record {
    rows = [];
    valid = record { valid = tt; built = tt };
    reads = first_reads;
    at = h.at ∙ ap (λ n. let a : Place = record { geo = Some geo; lines = n; used = length front } in a) (no_row (length h.heads + 1))
        ∙ ap (λ (b : List ℕ). let a : Place = record { geo = Some geo; lines = length h.heads + 1 + 0; used = length b } in a) (sym (append-nil front));
    limit = first_limit;
    between = record {
      given = none_given;
      lines = [];
      report = report;
      unfinished = refl;
      past = is_first.past;
      printed_all = record { none = none; text = no_lines };
    };
  }

  -- no memory for a system
  pub not_begun : (after : Tape) (status : ℕ) → PutsHalted Memory status now after → RunsFrom status tape after
  not_begun after status puts =
      broken (start_of tape geo place p now h) Memory now after status h.skipped_first (record {
        rows = [];
        valid = record { valid = tt; built = tt };
        reads = record { rest = p.rest; taken = first_reads.taken; left = first_reads.left };
        limit = first_limit;
        cut = record {
          given = none_given;
          lines = [];
          stand = record { gives = is_first.past.gives; fits = is_first.fit; valid = tt; space = tt; ample = λ turn enough. tt };
          printed_until = no_lines;
        };
      }) puts

-- No header.

no_header : (number : ℕ) (heads : List (List ℕ)) (p : Pending) (bytes more : List ℕ) → AllByRecursion whole.before heads → NoRow None (length (heads_text heads)) p → number ≡ length heads + 1 → length (heads_text heads) ≤ max_script
    → bytes ≡ heads_text heads ++ (p.rest ++ more) → (p.ended ≡ true → more ≡ []) → HasNoHeader whole bytes number
no_header number heads p bytes more skipped lacks at limit is no_more = record {
  heads = heads;
  rest = p.rest ++ more;
  text = is;
  skipped_first = skipped;
  short = omega (arith, limit, ap length is, length-append (heads_text heads) (p.rest ++ more));
  not_skipped = λ line after valid here. past (ended_line line) after here (lacks (ended_line line) more after no_more (inl (line, valid, refl)) here);
  none = λ geo after valid here. past (header_text geo) after here (lacks (header_text geo) more after no_more (inr (geo, refl)) here);
  at = at;
}
  where
    past : (text after : List ℕ) → p.rest ++ more ≡ text ++ after → max_script < length (heads_text heads) + length text → max_script + length after < length bytes
    past text after here far = omega (arith, far, ap length here, length-append text after, ap length is, length-append (heads_text heads) (p.rest ++ more))

pub headless : (before now after : Tape) (number status : ℕ) (text : List ℕ) (p : Pending) → LacksSystem before number p now → text ≡ script_fault number → now.printed ≡ before.printed → PutsLast text 2 status now after → RunsFrom status before after
headless before now after number status text p lacks is same puts =
    let prints : Prints status puts.printed 2 (script_fault number) = subst (Prints status puts.printed 2) is puts.prints in
    record {
      took = heads_text lacks.heads ++ p.rest;
      printed = puts.printed;
      taken = puts.none.taken ∙ lacks.reads.taken ∙ append_assoc before.taken (heads_text lacks.heads) p.rest;
      left = lacks.reads.left ∙ ap (λ (b : List ℕ). heads_text lacks.heads ++ p.rest ++ b) (sym puts.none.left);
      told = puts.told ∙ ap (λ (b : List ℕ). b ++ puts.printed) same;
      runs = inr (inl (record { end = 2; last = script_fault number; ends = inl (refl, (number, no_header number lacks.heads p (heads_text lacks.heads ++ p.rest) [] lacks.skipped_first lacks.none lacks.at lacks.limit (ap (λ (b : List ℕ). heads_text lacks.heads ++ b) (sym (append-nil p.rest))) (λ _. refl), refl)); text = prints }));
      script = inr (inl (record { end = 2; last = script_fault number; ends = inl (refl, (number, no_header number lacks.heads p before.left now.left lacks.skipped_first lacks.none lacks.at lacks.limit (lacks.reads.left ∙ append_assoc (heads_text lacks.heads) p.rest now.left) lacks.reads.ended, refl)); text = prints }));
    }

-- what was printed where no header was read, and the line that stands for it
record BrokeFirst (before after : Tape) (status : ℕ) : Type 0 where
  pub printed : List ℕ
  pub told : after.printed ≡ before.printed ++ printed
  pub end : ℕ
  pub last : List ℕ
  pub ends : (bytes : List ℕ) → EndsBefore whole bytes end last
  pub prints : Prints status printed end last

broke_first : (halted : Halted) (before now after : Tape) (status : ℕ) → now.printed ≡ before.printed → PutsHalted halted status now after → BrokeFirst before after status
broke_first Memory before now after status same puts = record {
  printed = puts.printed;
  told = puts.told ∙ ap (λ (b : List ℕ). b ++ puts.printed) same;
  end = 6;
  last = out_of_memory;
  ends = λ bytes. inr (inr (inl (refl, refl)));
  prints = puts.prints;
}
broke_first ReadFault before now after status same puts = record {
  printed = puts.printed;
  told = puts.told ∙ ap (λ (b : List ℕ). b ++ puts.printed) same;
  end = 3;
  last = read_fault;
  ends = λ bytes. inr (inl (refl, refl));
  prints = puts.prints;
}
broke_first WriteFault before now after status same puts = record {
  printed = [];
  told = puts.2 ∙ same ∙ sym (append-nil before.printed);
  end = 6;
  last = out_of_memory;
  ends = λ bytes. inr (inr (inl (refl, refl)));
  prints = inr (puts.0, (0, refl));
}

pub broken_first : (halted : Halted) (before now after : Tape) (status : ℕ) → IsTaken before [] now → now.printed ≡ before.printed → PutsHalted halted status now after → RunsFrom status before after
broken_first halted before now after status taken same puts =
    let end = broke_first halted before now after status same puts in
    let none = still halted status now after puts in
    record {
      took = taken.rest;
      printed = end.printed;
      taken = none.taken ∙ taken.taken ∙ ap (λ (b : List ℕ). b ++ taken.rest) (append-nil before.taken);
      left = taken.left ∙ ap (λ (b : List ℕ). taken.rest ++ b) (sym none.left);
      told = end.told;
      runs = inr (inl (record { end = end.end; last = end.last; ends = end.ends taken.rest; text = end.prints }));
      script = inr (inl (record { end = end.end; last = end.last; ends = end.ends before.left; text = end.prints }));
    }

-- the last line of a script without a header
pub missing_put : {E : Type 0} (before now after : Tape) (number status : ℕ) (p : Pending) (result : Result Last E) → LacksSystem before number p now → IfOk result (λ last. (last.status ≡ 2) × (last.text.items ≡ script_fault number)) → now.printed ≡ before.printed → PutsFault result status now after → RunsFrom status before after
missing_put before now after number status p (Ok last) lacks is same puts = headless before now after number status last.text.items p lacks is.1 same (subst (λ e. PutsLast last.text.items e status now after) is.0 puts)
missing_put before now after number status p (Err e) lacks is same puts = broken_first Memory before now after status (taken_behind before now (heads_text lacks.heads) (IsTaken-read before now (heads_text lacks.heads) p lacks.reads)) same puts
