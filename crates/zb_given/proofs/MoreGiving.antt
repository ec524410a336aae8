-- More is given.
use Rattle.std.proofs.Common.{◌≡◌, ℕ, zero, suc, ◌+◌, ◌<◌, ◌≤◌, true, false, ◌||◌, List, [], ◌∷◌, ◌++◌, length, take, Some, refl, sym, ap, subst, ◌∙◌, append_assoc, arith, inl}
use Rattle.std.specs.Prelude.{map, nat_le}
use Rattle.std.specs.List.{list_any}
use Rattle.std.proofs.lemmas.List.{append-nil, length-map, map-append, take-append-le}
use Rattle.std.proofs.lemmas.List.Elements.{filter-append}
use Rattle.zb_types.specs.declared.nodes.Node.TheVariants.{Manager}
use Rattle.zb_types.specs.declared.lines.Line.{Line}
use Rattle.zb_types.specs.declared.lines.Outcome.{Outcome}
use Rattle.zb_claims.specs.Points.{Subject, crashes, is_about, asked, asked_of, is_before_crash}
use Rattle.zb_claims.specs.Fits.{Clock, FitsFromBy}
use Rattle.zb_given.specs.Given.{Item, Given, with_item, with_finish, script_of, point, clock_of_given, FitGiven}
use Rattle.zb_given.specs.Gives.{with_plus, about}
use Rattle.zb_given.specs.Lifts.{MoreGiven, MoreFinished, FrontFitsGiven}
use Rattle.zb_given.proofs.Small.{no, all_push}
use Rattle.zb_given.proofs.Parts.{splits, within, one_part}
use Rattle.zb_given.proofs.Carry.{Extends, Carries, pair_of, before_crash_by, carry, all_asked, same_history}

module _ (given : Given) (line : Line) (at : ℕ) where
  abbrev A : List Line
  A = script_of given

  pub one_more : script_of (with_item given line at) ≡ A ++ line ∷ []
  one_more = map-append (λ (item : Item). item.line) given.items (record { line = line; at = at } ∷ [])

  pub more_extend : Extends A (script_of (with_item given line at))
  more_extend s = (map with_plus (about s (line ∷ [])), ap (λ (l : List Line). map with_plus (about s l)) one_more ∙ ap (map with_plus) (filter-append (is_about s) A (line ∷ [])) ∙ map-append with_plus (about s A) (about s (line ∷ [])))

  pub point_kept : (items : List Item) (x : Item) (j : ℕ) → j < length items → point (items ++ x ∷ []) j ≡ point items j
  point_kept [] x j lt = absurd (omega (arith, lt))
  point_kept (i ∷ items) x zero lt = refl
  point_kept (i ∷ items) x (suc j) lt = point_kept items x j (omega (arith, lt))

  -- a longer script has the same line at the same place
  pub same_longer : (s : Subject) (n j place : ℕ) (l other : Line) → asked A s n ≡ Some (j, l) → asked (script_of (with_item given line at)) s n ≡ Some (place, other) → (j ≡ place) × (l ≡ other)
  same_longer s n j place l other a b =
      let p = splits 0 s n A j l a in
      let q = splits 0 s n (A ++ line ∷ []) place other (subst (λ (x : List Line). asked x s n ≡ Some (place, other)) one_more b) in
      let left : A ++ line ∷ [] ≡ p.front ++ l ∷ (p.rest ++ line ∷ []) = ap (λ (x : List Line). x ++ line ∷ []) p.split ∙ append_assoc p.front (l ∷ p.rest) (line ∷ []) in
      let one = one_part s p.front q.front (p.rest ++ line ∷ []) q.rest l other (sym left ∙ q.split) p.is q.is (less (sym p.count ∙ q.count)) in
      (p.at ∙ ap (λ (x : List Line). 0 + length x) one.0 ∙ sym q.at, one.1)
    where
      less : {a b : ℕ} → suc a ≡ suc b → a ≡ b
      less e = omega (arith, e)

  pub more_carry : (lines : List Outcome) → Carries A (script_of (with_item given line at)) (clock_of_given given) (clock_of_given (with_item given line at)) lines
  more_carry lines = record {
    extends = more_extend;
    begun = λ s n j place l other a b front rest split h.
        let same = same_longer s n j place l other a b in
        let lt : j < length given.items = omega (arith, within A s n j l a, length-map given.items (λ (item : Item). item.line)) in
        subst (λ k. nat_le (point (given.items ++ record { line = line; at = at } ∷ []) k) (length front) ≡ true) same.0
        (ap (λ k. nat_le k (length front)) (point_kept given.items (record { line = line; at = at }) j lt) ∙ h);
    manager = λ s n j place l other a b before h.
        let same = same_longer s n j place l other a b in
        let taken : take j A ≡ take place (script_of (with_item given line at)) =
        sym (take-append-le j A (line ∷ []) (omega (arith, within A s n j l a))) ∙ ap (take j) (sym one_more) ∙ ap (λ k. take k (script_of (with_item given line at))) same.0 in
        sym (before_crash_by A (script_of (with_item given line at)) before j place (ap (asked_of (crashes Manager)) taken)) ∙ h;
    over = λ front rest split h. h;
    at_once = λ before after client n reply where_at j place p q call a b is.
        inl (λ v_once no_plus. no v_once);
  }

  one_given : (lines : List Outcome) → at ≤ length lines → FitGiven given lines → FitGiven (with_item given line at) lines
  one_given lines le g = record {
    fits = carry A (script_of (with_item given line at)) (clock_of_given given) (clock_of_given (with_item given line at)) lines (more_carry lines) g.fits;
    stood = all_push (λ item. item.at ≤ length lines) given.items (record { line = line; at = at }) g.stood le;
  }

pub more_given : MoreGiven
more_given given lines line at le g =
    (one_given given line at lines le g, same_history (script_of given) (script_of (with_item given line at)) (more_extend given line at) lines (all_asked (clock_of_given given) (script_of given) [] lines g.fits))

-- a finish more
pub finish_carry : (given : Given) (lines : List Outcome) (at : ℕ) → Carries (script_of given) (script_of given) (clock_of_given given) (clock_of_given (with_finish given at)) lines
finish_carry given lines at = record {
  extends = λ s. ([], sym (append-nil (map with_plus (about s (script_of given)))));
  begun = λ s n j place l other a b front rest split h. subst (λ k. nat_le (point given.items k) (length front) ≡ true) (pair_of (asked (script_of given) s n) j place l other a b).0 h;
  manager = λ s n j place l other a b before h. subst (λ k. is_before_crash (script_of given) before k ≡ true) (pair_of (asked (script_of given) s n) j place l other a b).0 h;
  over = λ front rest split h. any_push given.finishes front h;
  at_once = λ before after client n reply where_at j place p q call a b is.
      inl (λ v_once no_plus. no v_once);
}
  where
    any_push : (xs : List ℕ) (front : List Outcome) → list_any (λ k. nat_le k (length front)) xs ≡ true → list_any (λ k. nat_le k (length front)) (xs ++ at ∷ []) ≡ true
    any_push [] front h = absurd cc
    any_push (x ∷ xs) front h = elim (nat_le x (length front)) as (λ b. (b || list_any (λ k. nat_le k (length front)) xs) ≡ true → (b || list_any (λ k. nat_le k (length front)) (xs ++ at ∷ [])) ≡ true) [ true ↦ λ e. refl | false ↦ λ e. any_push xs front e ] h

pub more_finished : MoreFinished
more_finished given lines at g = record {
  fits = carry (script_of given) (script_of given) (clock_of_given given) (clock_of_given (with_finish given at)) lines (finish_carry given lines at) g.fits;
  stood = g.stood;
}

pub front_from : (w : Clock) (script : List Line) (before lines more : List Outcome) → FitsFromBy w script before (lines ++ more) → FitsFromBy w script before lines
front_from w script before [] more f = tt
front_from w script before (line ∷ lines) more f = (f.0, front_from w script (before ++ line ∷ []) lines more f.1)

pub front_given : FrontFitsGiven
front_given given lines more g = front_from (clock_of_given given) (script_of given) [] lines more g.fits
