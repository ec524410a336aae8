-- Each read of a report that fits stands at a point between its call and its reply.
use Rattle.std.proofs.Common.{◌≡◌, ℕ, ◌<◌, ◌≤◌, Bool, true, false, eqb, List, [], ◌∷◌, ◌++◌, map, length, take, drop, Option, Some, None, refl, sym, ap, subst, ◌∙◌, append_assoc, arith, inl, inr}
use Rattle.std.specs.Prelude.{◌↔◌}
use Rattle.std.specs.List.{list_any, AllByRecursion, Contains}
use Rattle.std.proofs.lemmas.Bool.{cases_lt}
use Rattle.std.proofs.lemmas.List.{length-append}
use Rattle.std.proofs.lemmas.List.Folds.{list_any-from_Any}
use Rattle.std.proofs.Math.Seq.{take-append_seam, drop-append_seam}
use Rattle.zb_types.specs.declared.calls.Call.{Call}
use Rattle.zb_types.specs.declared.calls.Reply.{Reply}
use Rattle.zb_types.specs.declared.history.Did.{Did}
use Rattle.zb_types.specs.declared.history.Saw.{Saw}
use Rattle.zb_types.specs.declared.lines.Line.{Line}
use Rattle.zb_types.specs.declared.lines.Said.TheVariants.{Reply as Replied}
use Rattle.zb_types.specs.declared.lines.Outcome.{Outcome}
use Rattle.zb_types.specs.declared.lines.Outcome.TheVariants.{Call as OfCall}
use Rattle.zb_types.specs.Apply.{is_update, reply_to}
use Rattle.zb_types.specs.History.{tree_after, IsSeen}
use Rattle.zb_claims.specs.Points.{dids, call_of, names, has_line, has_final, is_of_client}
use Rattle.zb_claims.specs.Fits.{FitsFrom, ReadFits}
use Rattle.zb_laws.specs.Histories.{IsAnswered, answer_of, SeesOwn, Grows, IsBetween, TellsLegal}
use Rattle.zb_laws.proofs.Tests.{both, or_left, or_right, equals, first_false, last_false, any_middle, any_more}
use Rattle.zb_laws.proofs.Each.{each_append, each_weaker}
use Rattle.zb_laws.proofs.Told.{dids-append, replies_from}
use Rattle.zb_laws.proofs.Picked.{pick_if, pick_of, picked, at_pick, pick_some, picked-updates, picked-reads, IsPicked, are_picked, exact}
use Rattle.zb_laws.proofs.Order.{Sound, sound_next, sound_none, named_call, number_pos, Later, later_from, behind}

-- a call whose reply stands in a line has a line
answered_line : (script : List Line) (lines : List Outcome) (did : Did) → IsAnswered script lines did → has_line lines did.client did.number ≡ true
answered_line script lines did h =
    let told : Outcome = OfCall did.client did.number (Replied did.reply) in
    list_any-from_Any (names did.client did.number) lines (h.line.0, told, h.line.1, h.line.2, both (eqb did.client did.client) (eqb did.number did.number) (equals did.client) (equals did.number))

-- The client's own updates.

-- while a read of the client is unanswered, only calls before it have a line
is_before : (script : List Line) (before : List Outcome) (c n m : ℕ) (call : Call) → Sound script before → call_of script c n ≡ Some call → is_update call ≡ false → has_final before c n ≡ false → has_line before c m ≡ true → m < n
is_before script before c n m call s is read left has =
    elim (cases_lt m n) as (λ _. m < n) [
      | inl e ↦ e
      | inr le ↦ let h : true ≡ false = sym (s.final c n call is read (s.closed c m n has (number_pos script c n call is) le)) ∙ left in absurd cc
    ]

abbrev Earlier : ℕ → ℕ → Did → Type 0
Earlier c n did = did.client ≡ c → did.number < n

front_earlier : (script : List Line) (front rest : List Outcome) (c n : ℕ) (call : Call) → Sound script (front ++ rest) → call_of script c n ≡ Some call → is_update call ≡ false → has_final (front ++ rest) c n ≡ false → AllByRecursion (Earlier c n) (dids script front)
front_earlier script front rest c n call s is read left =
    subst (AllByRecursion (Earlier c n)) (picked-updates script front)
    (each_weaker (IsPicked true script front) (Earlier c n)
    (λ did p same. is_before script (front ++ rest) c n did.number call s is read left
    (subst (λ (x : ℕ). has_line (front ++ rest) x did.number ≡ true) same (any_more (names did.client did.number) front rest (answered_line script front did p.answered))))
    (picked true script front) (are_picked true script front))

of_other : {X : Type 0} (c d : ℕ) → eqb c d ≡ false → d ≡ c → X
of_other c d h same = let e : true ≡ false = sym (equals c) ∙ ap (eqb c) (sym same) ∙ h in absurd cc

if_other : (c n d m : ℕ) (reply : Reply) (o : Option Call) → eqb c d ≡ false → AllByRecursion (Later c n) (pick_if true d m reply o)
if_other c n d m reply None h = tt
if_other c n d m reply (Some call) h = pick_some (AllByRecursion (Later c n)) true d m reply call (λ k. (λ same. of_other c d h same, tt)) tt

-- lines of other clients alone
none_own : (script : List Line) (c n : ℕ) (lines : List Outcome) → list_any (is_of_client c) lines ≡ false → AllByRecursion (Later c n) (picked true script lines)
none_own script c n [] h = tt
none_own script c n (line ∷ lines) h =
    each_append (Later c n) (pick_of true script line) (picked true script lines)
    (at_pick (λ l ds. is_of_client c l ≡ false → AllByRecursion (Later c n) ds) true script (λ _ _. tt) (λ d m reply g. if_other c n d m reply (call_of script d m) g) line (first_false (is_of_client c line) (list_any (is_of_client c) lines) h))
    (none_own script c n lines (last_false (is_of_client c line) (list_any (is_of_client c) lines) h))

-- A client's reads.

-- a front that leaves no line of this kind behind goes past each
past_line : (p : Outcome → Bool) (start more front rest : List Outcome) (line : Outcome) → start ++ line ∷ more ≡ front ++ rest → p line ≡ true → list_any p rest ≡ false → (between : List Outcome) × (front ≡ start ++ line ∷ between)
past_line p [] more [] rest line e its none = let h : true ≡ false = sym (or_left (p line) (list_any p more) its) ∙ ap (list_any p) e ∙ none in absurd cc
past_line p [] more (x ∷ front) rest line e its none = (front, cc)
past_line p (x ∷ start) more [] rest line e its none =
    let h : true ≡ false = sym (or_right (p x) (list_any p (start ++ line ∷ more)) (any_middle p start line more its)) ∙ ap (list_any p) e ∙ none in absurd cc
past_line p (x ∷ start) more (y ∷ front) rest line e its none =
    let tails : start ++ line ∷ more ≡ front ++ rest = cc in
    let same : x ≡ y = cc in
    let later = past_line p start more front rest line tails its none in
    (later.0, ap (λ (l : Outcome). l ∷ front) (sym same) ∙ ap (λ (l : List Outcome). x ∷ l) later.1)

-- a read sees each update that was answered before a line of its client
abbrev SeesPast : List Line → List Outcome → Saw → Type 0
SeesPast script before saw = (start more : List Outcome) (line : Outcome) → before ≡ start ++ line ∷ more → is_of_client saw.client line ≡ true → length (dids script start) ≤ saw.seen

past_front : (script : List Line) (before front rest : List Outcome) (c : ℕ) → before ≡ front ++ rest → list_any (is_of_client c) rest ≡ false → (start more : List Outcome) (line : Outcome) → before ≡ start ++ line ∷ more → is_of_client c line ≡ true → length (dids script start) ≤ length (dids script front)
past_front script before front rest c split own start more line e its =
    let past = past_line (is_of_client c) start more front rest line (sym e ∙ split) its own in
    rw (ap (dids script) past.1 ∙ dids-append script start (line ∷ past.0)) (omega (arith, length-append (dids script start) (dids script (line ∷ past.0))))

-- the reads that the lines behind `before` answer
record AreReads (ordered : Bool) (script : List Line) (all before : List Outcome) (answers : List Did) : Type 0 where
  saws : List Saw
  are : map answer_of saws ≡ answers
  seen : AllByRecursion (IsSeen (dids script all)) saws
  own : AllByRecursion (SeesOwn (dids script all)) saws
  past : AllByRecursion (SeesPast script before) saws
  grows : Grows saws
  between : AllByRecursion (IsBetween ordered script all) saws

fewer_past : (script : List Line) (before : List Outcome) (last : Outcome) (saws : List Saw) → AllByRecursion (SeesPast script (before ++ last ∷ [])) saws → AllByRecursion (SeesPast script before) saws
fewer_past script before last saws past =
    each_weaker (SeesPast script (before ++ last ∷ [])) (SeesPast script before)
    (λ saw h start more line e its. h start (more ++ last ∷ []) line (ap (λ (l : List Outcome). l ++ last ∷ []) e ∙ append_assoc start (line ∷ more) (last ∷ [])) its) saws past

fewer_lines : (ordered : Bool) (script : List Line) (all before : List Outcome) (last : Outcome) (answers : List Did) → AreReads ordered script all (before ++ last ∷ []) answers → AreReads ordered script all before answers
fewer_lines ordered script all before last answers r = record {
  saws = r.saws;
  are = r.are;
  seen = r.seen;
  own = r.own;
  past = fewer_past script before last r.saws r.past;
  grows = r.grows;
  between = r.between;
}

-- the read that a line answers
module _ (ordered : Bool) (script : List Line) (before after : List Outcome) (c n : ℕ) (reply : Reply) (f : FitsFrom ordered script before (OfCall c n (Replied reply) ∷ after)) (s : Sound script before) (read : is_update f.0.call ≡ false) where
  abbrev line : Outcome
  line = OfCall c n (Replied reply)

  abbrev point : ReadFits ordered script before c f.0.place f.0.plus f.0.call reply
  point = f.0.fits.read read

  abbrev saw_of : Saw
  saw_of = record { client = c; number = n; seen = length (dids script point.front); call = f.0.call; reply = reply }

  split_lines : before ++ line ∷ after ≡ point.front ++ (point.rest ++ line ∷ after)
  split_lines = ap (λ (l : List Outcome). l ++ line ∷ after) point.split ∙ append_assoc point.front point.rest (line ∷ after)

  split_dids : dids script (before ++ line ∷ after) ≡ dids script point.front ++ dids script (point.rest ++ line ∷ after)
  split_dids = ap (dids script) split_lines ∙ dids-append script point.front (point.rest ++ line ∷ after)

  taken : take (length (dids script point.front)) (dids script (before ++ line ∷ after)) ≡ dids script point.front
  taken = ap (take (length (dids script point.front))) split_dids ∙ take-append_seam (dids script point.front) (dids script (point.rest ++ line ∷ after))

  dropped : drop (length (dids script point.front)) (dids script (before ++ line ∷ after)) ≡ dids script (point.rest ++ line ∷ after)
  dropped = ap (drop (length (dids script point.front))) split_dids ∙ drop-append_seam (dids script point.front) (dids script (point.rest ++ line ∷ after))

  is_seen : IsSeen (dids script (before ++ line ∷ after)) saw_of
  is_seen = record {
    early = rw split_dids (omega (arith, length-append (dids script point.front) (dids script (point.rest ++ line ∷ after))));
    reply = point.same ∙ ap (λ (d : List Did). reply_to (tree_after d) f.0.call) (sym taken);
  }

  earlier : AllByRecursion (Earlier c n) (dids script point.front)
  earlier = front_earlier script point.front point.rest c n f.0.call (subst (Sound script) point.split s) (named_call script ordered before c n (Replied reply) f.0) read (subst (λ (l : List Outcome). has_final l c n ≡ false) point.split f.0.unended)

  line_later : AllByRecursion (Later c n) (pick_of true script line)
  line_later =
      subst (λ (o : Option Call). AllByRecursion (Later c n) (pick_if true c n reply o)) (sym (named_call script ordered before c n (Replied reply) f.0))
      (pick_some (AllByRecursion (Later c n)) true c n reply f.0.call (λ k. let e : true ≡ false = sym k ∙ read in absurd cc) tt)

  rest_later : AllByRecursion (Later c n) (picked true script (line ∷ after))
  rest_later = each_append (Later c n) (pick_of true script line) (picked true script after) line_later (later_from ordered script (before ++ line ∷ []) after true c n f.1 (behind true ordered script before c n reply f.0 s))

  later : AllByRecursion (Later c n) (dids script (point.rest ++ line ∷ after))
  later =
      subst (AllByRecursion (Later c n)) (sym (dids-append script point.rest (line ∷ after)))
      (each_append (Later c n) (dids script point.rest) (dids script (line ∷ after)) (subst (AllByRecursion (Later c n)) (picked-updates script point.rest) (none_own script c n point.rest point.after_own))
      (subst (AllByRecursion (Later c n)) (picked-updates script (line ∷ after)) rest_later))

  seen_before : length (dids script point.front) ≤ length (dids script before)
  seen_before = rw (ap (dids script) point.split ∙ dids-append script point.front point.rest) (omega (arith, length-append (dids script point.front) (dids script point.rest)))

  -- later reads of the client see as much
  seen_later : (saw : Saw) → SeesPast script (before ++ line ∷ []) saw → saw.client ≡ c → length (dids script point.front) ≤ saw.seen
  seen_later saw past same = let h : length (dids script before) ≤ saw.seen = past before [] line refl (rw same (equals c)) in omega (arith, seen_before, h)

  with_read : (answers : List Did) → AreReads ordered script (before ++ line ∷ after) (before ++ line ∷ []) answers → AreReads ordered script (before ++ line ∷ after) before (record { client = c; number = n; call = f.0.call; reply = reply } ∷ answers)
  with_read answers others =
      record {
        saws = saw_of ∷ others.saws;
        are = ap (λ (l : List Did). answer_of saw_of ∷ l) others.are;
        seen = (is_seen, others.seen);
        own = (record { seen = subst (AllByRecursion (Earlier c n)) (sym taken) earlier; unseen = subst (AllByRecursion (Later c n)) (sym dropped) later }, others.own);
        past = (λ start more other e its. past_front script before point.front point.rest c point.split point.after_own start more other e its, fewer_past script before line others.saws others.past);
        grows = (each_weaker (SeesPast script (before ++ line ∷ [])) (λ saw. saw.client ≡ c → length (dids script point.front) ≤ saw.seen) (λ saw past same. seen_later saw past same) others.saws others.past, others.grows);
        between = (
          record {
            front = point.front;
            rest = point.rest;
            after = after;
            split = split_lines;
            seen = refl;
            place = f.0.place;
            plus = f.0.plus;
            is = f.0.is;
            begun = point.after_begin;
            own = point.after_own;
            at_once = point.at_once;
          },
          others.between,
        );
      }

-- All reads.

line_reads : (ordered : Bool) (script : List Line) (before after : List Outcome) (c n : ℕ) (reply : Reply) (answers : List Did) → FitsFrom ordered script before (OfCall c n (Replied reply) ∷ after) → Sound script before
    → AreReads ordered script (before ++ OfCall c n (Replied reply) ∷ after) (before ++ OfCall c n (Replied reply) ∷ []) answers
    → AreReads ordered script (before ++ OfCall c n (Replied reply) ∷ after) before (pick_if false c n reply (call_of script c n) ++ answers)
line_reads ordered script before after c n reply answers f s rest =
    let all : List Outcome = before ++ OfCall c n (Replied reply) ∷ after in
    subst (λ (o : Option Call). AreReads ordered script all before (pick_if false c n reply o ++ answers)) (sym (named_call script ordered before c n (Replied reply) f.0))
    (pick_some (λ l. AreReads ordered script all before (l ++ answers)) false c n reply f.0.call (λ k. with_read ordered script before after c n reply f s k answers rest)
    (fewer_lines ordered script all before (OfCall c n (Replied reply)) answers rest))

reads_from : (ordered : Bool) (script : List Line) (before lines : List Outcome) → FitsFrom ordered script before lines → Sound script before → AreReads ordered script (before ++ lines) before (picked false script lines)
reads_from ordered script before [] f s = record { saws = []; are = refl; seen = tt; own = tt; past = tt; grows = tt; between = tt }
reads_from ordered script before (line ∷ lines) f s =
    at_pick (λ l ds. FitsFrom ordered script before (l ∷ lines) → AreReads ordered script (before ++ l ∷ lines) (before ++ l ∷ []) (picked false script lines) → AreReads ordered script (before ++ l ∷ lines) before (ds ++ picked false script lines)) false script
    (λ l g rest. fewer_lines ordered script (before ++ l ∷ lines) before l (picked false script lines) rest) (λ c n reply g rest. line_reads ordered script before lines c n reply (picked false script lines) g s rest) line f
    (subst (λ (l : List Outcome). AreReads ordered script l (before ++ line ∷ []) (picked false script lines)) (append_assoc before (line ∷ []) lines)
    (reads_from ordered script (before ++ line ∷ []) lines f.1 (sound_next ordered script before line f.0 s)))

pub tells_legal : TellsLegal
tells_legal ordered script lines f =
    let all = reads_from ordered script [] lines f (sound_none script) in
    record {
      saws = all.saws;
      legal = record { updates = replies_from ordered script [] lines f; reads = all.seen };
      answers = all.are ∙ picked-reads script lines;
      own = all.own;
      grows = all.grows;
      between = all.between;
      exact_updates = λ did. subst (λ (l : List Did). Contains l did ↔ (IsAnswered script lines did × (is_update did.call ≡ true))) (picked-updates script lines) (exact true script lines did);
      exact_reads = λ did. subst (λ (l : List Did). Contains l did ↔ (IsAnswered script lines did × (is_update did.call ≡ false))) (picked-reads script lines) (exact false script lines did);
    }
