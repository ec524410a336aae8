-- Each client's calls are answered once and in order.
use Rattle.std.proofs.Common.{◌≡◌, ℕ, zero, suc, ◌-◌, ◌≤◌, ◌<◌, Bool, true, false, not, cond, ◌&&◌, ◌||◌, eqb, List, [], ◌∷◌, ◌++◌, Option, Some, None, refl, sym, ap, subst, ◌∙◌, arith, inl, inr}
use Rattle.std.specs.Prelude.{nat_le}
use Rattle.std.specs.List.{AllByRecursion}
use Rattle.std.proofs.lemmas.Bool.Decides.{nat_tests}
use Rattle.std.proofs.lemmas.Bool.{cases_lt}
use Rattle.zb_types.specs.declared.calls.Call.{Call}
use Rattle.zb_types.specs.declared.calls.Call.TheVariants.{Create, Mkdir, Remove, Rename, Write, Truncate, Sync, Read, List as ListOf, Stat, Find}
use Rattle.zb_types.specs.declared.calls.Reply.{Reply}
use Rattle.zb_types.specs.declared.lines.Line.{Line}
use Rattle.zb_types.specs.declared.lines.Said.{Said}
use Rattle.zb_types.specs.declared.lines.Said.TheVariants.{Reply as Replied, Buffered, Kept, Failed, Dropped, Unfinished}
use Rattle.zb_types.specs.declared.lines.Outcome.{Outcome}
use Rattle.zb_types.specs.declared.lines.Outcome.TheVariants.{Call as OfCall, Clean as OfClean, Rebuild as OfRebuild, Event as OfEvent}
use Rattle.zb_types.specs.Apply.{is_update, is_bufferable}
use Rattle.zb_types.specs.declared.history.Did.{Did}
use Rattle.zb_claims.specs.Points.{Subject, calls, is_about, asked_from, names, ends, is_final, has_line, has_final, call_in, call_of}
use Rattle.zb_claims.specs.Fits.{FitsNext, FitsFrom, CallFits, SaidFits, is_update_in, are_ended, is_next}
use Rattle.zb_laws.specs.Histories.{Rises, InOrder}
use Rattle.zb_laws.proofs.Tests.{both, first_true, last_true, or_cases, equal, equals, at_or_below, any_more, any_last, any_here}
use Rattle.zb_laws.proofs.Each.{each_append}
use Rattle.zb_laws.proofs.Picked.{pick_if, pick_of, picked, at_pick, pick_some, picked-updates, picked-reads}

ends_is_named : (c n : ℕ) (line : Outcome) → ends c n line ≡ true → names c n line ≡ true
ends_is_named c n (OfCall d m said) h = first_true (eqb c d && eqb n m) (is_final said) h
ends_is_named c n (OfClean pass) h = absurd cc
ends_is_named c n (OfRebuild server end) h = absurd cc
ends_is_named c n (OfEvent event answer) h = absurd cc

-- what holds of the lines so far
pub record Sound (script : List Line) (before : List Outcome) : Type 0 where
  pub closed : (c m k : ℕ) → has_line before c m ≡ true → 0 < k → k ≤ m → has_line before c k ≡ true
  pub final : (c m : ℕ) (call : Call) → call_of script c m ≡ Some call → is_update call ≡ false → has_line before c m ≡ true → has_final before c m ≡ true

pub named_call : (script : List Line) (ordered : Bool) (before : List Outcome) (c n : ℕ) (said : Said) → (f : CallFits ordered script before c n said) → call_of script c n ≡ Some f.call
named_call script ordered before c n said f = ap call_in f.is

buffer_updates : (call : Call) → is_bufferable call ≡ true → is_update call ≡ true
buffer_updates (Write fid offset bytes) h = refl
buffer_updates (Truncate fid size) h = refl
buffer_updates (Create path) h = refl
buffer_updates (Mkdir path) h = refl
buffer_updates (Remove path) h = refl
buffer_updates (Rename path to) h = refl
buffer_updates Sync h = refl
buffer_updates (Read fid offset len) h = absurd cc
buffer_updates (ListOf path) h = absurd cc
buffer_updates (Stat path) h = absurd cc
buffer_updates (Find path) h = absurd cc

said_final : (ordered : Bool) (script : List Line) (before : List Outcome) (c n place : ℕ) (plus : Bool) (call : Call) (said : Said) → is_update call ≡ false → SaidFits ordered script before c n place plus call said → is_final said ≡ true
said_final ordered script before c n place plus call (Replied reply) read f = refl
said_final ordered script before c n place plus call Buffered read f = let e : true ≡ false = sym (buffer_updates call f.buffer) ∙ read in absurd cc
said_final ordered script before c n place plus call (Kept cause) read f = let e : true ≡ false = sym f.update ∙ read in absurd cc
said_final ordered script before c n place plus call (Failed cause) read f = refl
said_final ordered script before c n place plus call Dropped read f = refl
said_final ordered script before c n place plus call (Unfinished cause) read f = refl

next_closed : (before : List Outcome) (c n k : ℕ) → is_next before c n ≡ true → ((k : ℕ) → has_line before c (n - 1) ≡ true → 0 < k → k ≤ n - 1 → has_line before c k ≡ true) → 0 < k → k < n → has_line before c k ≡ true
next_closed before c n k next closed pos below =
    elim (or_cases (nat_le n 1) (has_line before c (n - 1)) next) as (λ _. has_line before c k ≡ true) [
      | inl e ↦ let h : n ≤ 1 = grind (arith, nat_tests, e) in absurd (omega (arith, h, pos, below))
      | inr e ↦ closed k e pos (omega (arith, below))
    ]

same_call : (script : List Line) (c d n m : ℕ) (call other : Call) → c ≡ d → n ≡ m → call_of script c n ≡ Some call → call_of script d m ≡ Some other → call ≡ other
same_call script c d n m call other p q e f = let h : Some call ≡ Some other = sym e ∙ ap (λ (x : ℕ). call_of script x n) p ∙ ap (λ (x : ℕ). call_of script d x) q ∙ f in cc

sound_call : (ordered : Bool) (script : List Line) (before : List Outcome) (d n : ℕ) (said : Said) → CallFits ordered script before d n said → Sound script before → Sound script (before ++ OfCall d n said ∷ [])
sound_call ordered script before d n said f s = record {
  closed = λ c m k has pos le. elim (any_last (names c m) before (OfCall d n said) has) as (λ _. has_line (before ++ OfCall d n said ∷ []) c k ≡ true) [
    | inl e ↦ any_more (names c k) before (OfCall d n said ∷ []) (s.closed c m k e pos le)
    | inr e ↦
        let c-is : c ≡ d = equal c d (first_true (eqb c d) (eqb m n) e) in
        let m-is : m ≡ n = equal m n (last_true (eqb c d) (eqb m n) e) in
        elim (at_or_below k n (omega (arith, le, m-is))) as (λ _. has_line (before ++ OfCall d n said ∷ []) c k ≡ true) [
          | inl at ↦ any_here (names c k) before (OfCall d n said) (both (eqb c d) (eqb k n) (rw (c-is) (equals d)) (rw at (equals n)))
          | inr less ↦ any_more (names c k) before (OfCall d n said ∷ []) (subst (λ (x : ℕ). has_line before x k ≡ true) (sym c-is) (next_closed before d n k f.next (λ j h p q. s.closed d (n - 1) j h p q) pos less))
        ]
  ];
  final = λ c m call is read has. elim (any_last (names c m) before (OfCall d n said) has) as (λ _. has_final (before ++ OfCall d n said ∷ []) c m ≡ true) [
    | inl e ↦ any_more (ends c m) before (OfCall d n said ∷ []) (s.final c m call is read e)
    | inr e ↦
        let c-is : c ≡ d = equal c d (first_true (eqb c d) (eqb m n) e) in
        let m-is : m ≡ n = equal m n (last_true (eqb c d) (eqb m n) e) in
        let same : call ≡ f.call = same_call script c d m n call f.call c-is m-is is (named_call script ordered before d n said f) in
        any_here (ends c m) before (OfCall d n said) (both (eqb c d && eqb m n) (is_final said) e (said_final ordered script before d n f.place f.plus f.call said (sym (ap is_update same) ∙ read) f.fits))
  ];
}

sound_other : (script : List Line) (before : List Outcome) (line : Outcome) → ((c n : ℕ) → names c n line ≡ false) → Sound script before → Sound script (before ++ line ∷ [])
sound_other script before line none s = record {
  closed = λ c m k has pos le. elim (any_last (names c m) before line has) as (λ _. has_line (before ++ line ∷ []) c k ≡ true) [ inl e ↦ any_more (names c k) before (line ∷ []) (s.closed c m k e pos le) | inr e ↦ let f : true ≡ false = sym e ∙ none c m in absurd cc ];
  final = λ c m call is read has. elim (any_last (names c m) before line has) as (λ _. has_final (before ++ line ∷ []) c m ≡ true) [ inl e ↦ any_more (ends c m) before (line ∷ []) (s.final c m call is read e) | inr e ↦ let f : true ≡ false = sym e ∙ none c m in absurd cc ];
}

pub sound_next : (ordered : Bool) (script : List Line) (before : List Outcome) (line : Outcome) → FitsNext ordered script before line → Sound script before → Sound script (before ++ line ∷ [])
sound_next ordered script before (OfCall d n said) f s = sound_call ordered script before d n said f s
sound_next ordered script before (OfClean pass) f s = sound_other script before (OfClean pass) (λ c n. refl) s
sound_next ordered script before (OfRebuild server end) f s = sound_other script before (OfRebuild server end) (λ c n. refl) s
sound_next ordered script before (OfEvent event answer) f s = sound_other script before (OfEvent event answer) (λ c n. refl) s

-- call n of this client is answered, and so is each of its calls below n that is an update, or a read
pub record Behind (script : List Line) (before : List Outcome) (u : Bool) (c n : ℕ) : Type 0 where
  pub here : has_final before c n ≡ true
  pub less : (m : ℕ) (call : Call) → 0 < m → m < n → call_of script c m ≡ Some call → is_update call ≡ u → has_final before c m ≡ true

behind_more : (script : List Line) (before more : List Outcome) (u : Bool) (c n : ℕ) → Behind script before u c n → Behind script (before ++ more) u c n
behind_more script before more u c n b = record { here = any_more (ends c n) before more b.here; less = λ m call pos lt is up. any_more (ends c m) before more (b.less m call pos lt is up) }

asked_zero : (place : ℕ) (s : Subject) (lines : List Line) → asked_from place s 0 lines ≡ None
asked_zero place s [] = refl
asked_zero place s (line ∷ lines) = elim (is_about s line) as (λ b. cond b (asked_from (suc place) s 0 lines) (asked_from (suc place) s 0 lines) ≡ None) [ true ↦ asked_zero (suc place) s lines | false ↦ asked_zero (suc place) s lines ]

pub number_pos : (script : List Line) (c n : ℕ) (call : Call) → call_of script c n ≡ Some call → 0 < n
number_pos script c zero call is = let e : None ≡ Some call = sym (ap call_in (asked_zero 0 (calls c) script)) ∙ is in absurd cc
number_pos script c (suc n) call is = omega arith

later_number : (ordered : Bool) (script : List Line) (before : List Outcome) (u : Bool) (c n d m : ℕ) (said : Said) (f : CallFits ordered script before d m said) → Behind script before u c n → is_update f.call ≡ u → d ≡ c → n < m
later_number ordered script before u c n d m said f b up same =
    let is : call_of script d m ≡ Some f.call = named_call script ordered before d m said f in
    let is_c : call_of script c m ≡ Some f.call = subst (λ (x : ℕ). call_of script x m ≡ Some f.call) same is in
    let left : has_final before c m ≡ false = subst (λ (x : ℕ). has_final before x m ≡ false) same f.unended in
    elim (cases_lt n m) as (λ _. n < m) [
      | inl e ↦ e
      | inr e ↦ elim (at_or_below m n e) as (λ _. n < m) [
        | inl at ↦ let h : true ≡ false = sym (subst (λ (x : ℕ). has_final before c x ≡ true) (sym at) b.here) ∙ left in absurd cc
        | inr lt ↦ let h : true ≡ false = sym (b.less m f.call (number_pos script c m f.call is_c) lt is_c up) ∙ left in absurd cc
      ]
    ]

abbrev pub Later : ℕ → ℕ → Did → Type 0
Later c n did = did.client ≡ c → n < did.number

later_if : (u : Bool) (c n d m : ℕ) (reply : Reply) (call : Call) → (is_update call ≡ u → d ≡ c → n < m) → AllByRecursion (Later c n) (pick_if u d m reply (Some call))
later_if u c n d m reply call h = pick_some (AllByRecursion (Later c n)) u d m reply call (λ k. (h k, tt)) tt

later_call : (ordered : Bool) (script : List Line) (before : List Outcome) (u : Bool) (c n d m : ℕ) (reply : Reply) → CallFits ordered script before d m (Replied reply) → Behind script before u c n → AllByRecursion (Later c n) (pick_if u d m reply (call_of script d m))
later_call ordered script before u c n d m reply f b =
    subst (λ (o : Option Call). AllByRecursion (Later c n) (pick_if u d m reply o)) (sym (named_call script ordered before d m (Replied reply) f))
    (later_if u c n d m reply f.call (λ kind same. later_number ordered script before u c n d m (Replied reply) f b kind same))

-- what is answered later has a later number
pub later_from : (ordered : Bool) (script : List Line) (before lines : List Outcome) (u : Bool) (c n : ℕ) → FitsFrom ordered script before lines → Behind script before u c n → AllByRecursion (Later c n) (picked u script lines)
later_from ordered script before [] u c n f b = tt
later_from ordered script before (line ∷ lines) u c n f b =
    each_append (Later c n) (pick_of u script line) (picked u script lines)
    (at_pick (λ l ds. FitsNext ordered script before l → AllByRecursion (Later c n) ds) u script (λ _ _. tt) (λ d m reply g. later_call ordered script before u c n d m reply g b) line f.0)
    (later_from ordered script (before ++ line ∷ []) lines u c n f.1 (behind_more script before (line ∷ []) u c n b))

ended_at : (script : List Line) (before : List Outcome) (c n m : ℕ) → are_ended script before c n ≡ true → m < n → is_update_in (call_of script c m) ≡ true → has_final before c m ≡ true
ended_at script before c zero m h lt up = absurd (omega (arith, lt))
ended_at script before c (suc n) m h lt up =
    elim (at_or_below m n (omega (arith, lt))) as (λ _. has_final before c m ≡ true) [
      | inl at ↦ elim (or_cases (not (is_update_in (call_of script c n))) (has_final before c n) (first_true (not (is_update_in (call_of script c n)) || has_final before c n) (are_ended script before c n) h)) as (λ _. has_final before c m ≡ true) [
        | inl e ↦ let g : not true ≡ true = subst (λ (b : Bool). not b ≡ true) (subst (λ (x : ℕ). is_update_in (call_of script c x) ≡ true) at up) e in absurd cc
        | inr e ↦ subst (λ (x : ℕ). has_final before c x ≡ true) (sym at) e
      ]
      | inr less ↦ ended_at script before c n m (last_true (not (is_update_in (call_of script c n)) || has_final before c n) (are_ended script before c n) h) less up
    ]

ends_here : (c n : ℕ) (reply : Reply) → ends c n (OfCall c n (Replied reply)) ≡ true
ends_here c n reply = both (eqb c c && eqb n n) true (both (eqb c c) (eqb n n) (equals c) (equals n)) refl

-- behind a reply its call is answered, and so are those before it
pub behind : (u : Bool) (ordered : Bool) (script : List Line) (before : List Outcome) (c n : ℕ) (reply : Reply) → CallFits ordered script before c n (Replied reply) → Sound script before → Behind script (before ++ OfCall c n (Replied reply) ∷ []) u c n
behind true ordered script before c n reply f s = record {
  here = any_here (ends c n) before (OfCall c n (Replied reply)) (ends_here c n reply);
  less = λ m call pos lt is up. any_more (ends c m) before (OfCall c n (Replied reply) ∷ []) (ended_at script before c n m f.fits.earlier lt (ap is_update_in is ∙ up));
}
behind false ordered script before c n reply f s = record {
  here = any_here (ends c n) before (OfCall c n (Replied reply)) (ends_here c n reply);
  less = λ m call pos lt is up. any_more (ends c m) before (OfCall c n (Replied reply) ∷ []) (s.final c m call is up (next_closed before c n m f.next (λ j h p q. s.closed c (n - 1) j h p q) pos lt));
}

rises_if : (u : Bool) (c n : ℕ) (reply : Reply) (o : Option Call) (rest : List Did) → AllByRecursion (Later c n) rest → Rises rest → Rises (pick_if u c n reply o ++ rest)
rises_if u c n reply None rest later r = r
rises_if u c n reply (Some call) rest later r = pick_some (λ l. Rises (l ++ rest)) u c n reply call (λ k. (later, r)) r

rises_from : (u : Bool) (ordered : Bool) (script : List Line) (before lines : List Outcome) → FitsFrom ordered script before lines → Sound script before → Rises (picked u script lines)
rises_from u ordered script before [] f s = tt
rises_from u ordered script before (line ∷ lines) f s =
    at_pick (λ l ds. FitsFrom ordered script before (l ∷ lines) → Rises (picked u script lines) → Rises (ds ++ picked u script lines)) u script (λ l g r. r)
    (λ c n reply g r. rises_if u c n reply (call_of script c n) (picked u script lines) (later_from ordered script (before ++ OfCall c n (Replied reply) ∷ []) lines u c n g.1 (behind u ordered script before c n reply g.0 s)) r)
    line f (rises_from u ordered script (before ++ line ∷ []) lines f.1 (sound_next ordered script before line f.0 s))

-- before any line nothing is to show
pub sound_none : (script : List Line) → Sound script []
sound_none script = record { closed = λ c m k has pos le. absurd cc; final = λ c m call is read has. absurd cc }

pub in_order : InOrder
in_order ordered script lines f = record {
  updates_rise = subst Rises (picked-updates script lines) (rises_from true ordered script [] lines f (sound_none script));
  reads_rise = subst Rises (picked-reads script lines) (rises_from false ordered script [] lines f (sound_none script));
}
