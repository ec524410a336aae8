-- What an append is answered.
use Rattle.std.proofs.Common.{◌≡◌, ◌⊎◌, inl, inr, ⊎_elim, ℕ, List, Result, Ok, Err, IfErr, Option, None, Some, refl, sym, ◌∙◌, ap}
use Rattle.zb_outside.specs.Meaning.{Meaning}
use Rattle.zb_types.specs.declared.ids.FragId.{FragId}
use Rattle.zb_types.specs.declared.requests.Request.TheVariants as ask
use Rattle.zb_types.specs.declared.requests.Response.TheVariants as told
use Rattle.zb_types.specs.declared.requests.StoreFault.{StoreFault}
use Rattle.zb_types.specs.declared.requests.StoreFault.TheVariants.{Stopped}
use Rattle.zb_holding.specs.Fragments.{Fragment}
use Rattle.zb_holding.specs.Rules.{known_refusal, refusal_to_append, outline_of, or_by, IsServed, HasForm, IsMisplaced, MayAnswer, FitsOutline, LacksMemory}
use Rattle.zb_fragstore.specs.Seen.{SeenStore, known, holding, size_in}
use Rattle.zb_fragstore.specs.Answers.{HasStopped}
use Rattle.zb_fragstore.specs.Changing.{map_in, IsOpen}
use Rattle.zb_fragstore.specs.Appending.{IsAnswered}
use Rattle.zb_fragstore.proofs.Outlined.{refusal_is, fragment_there}
use Rattle.zb_server.proofs.Answered.{Said, stopped_is, done_by}

-- as far as memory tells
append_form : (id : FragId) (place : ℕ) (bytes : List ℕ) (store : SeenStore) (r : Result (Unit {0}) StoreFault) → IfErr r (λ fault. (fault ≡ Stopped) ⊎ IsMisplaced (size_in store id) place fault) → (HasStopped r → ⊥)
    → HasForm (known store) (ask.Append id place bytes) (Said r) ⊎ LacksMemory (ask.Append id place bytes) (Said r)
append_form id place bytes store (Ok u) is runs = inl (inl refl)
append_form id place bytes store (Err fault) is runs = ⊎_elim (λ e. absurd (runs (stopped_is (Unit {0}) fault e))) (λ m. inl (inr (record { fault = fault; told = refl; misplaced = m }))) is

pub append_known : (id : FragId) (place : ℕ) (bytes : List ℕ) (generation : ℕ) (store : SeenStore) (r : Result (Unit {0}) StoreFault)
    → ((fault : StoreFault) → known_refusal (known store) generation (ask.Append id place bytes) ≡ Some fault → r ≡ Err fault)
    → (known_refusal (known store) generation (ask.Append id place bytes) ≡ None → IfErr r (λ fault. (fault ≡ Stopped) ⊎ IsMisplaced (size_in store id) place fault))
    → (HasStopped r → ⊥) → FitsOutline (known store) generation (ask.Append id place bytes) (Said r)
append_known id place bytes generation store r refused taken runs = record {
  refused = λ fault e. ap Said (refused fault e);
  served = λ none. append_form id place bytes store r (taken none) runs;
}

module _ (id : FragId) (place : ℕ) (bytes : List ℕ) (generation : ℕ) (store : SeenStore) (a : Meaning) (r : Result (Unit {0}) StoreFault) (is_open : IsOpen store a.now)
    (refused : (fault : StoreFault) → known_refusal (known store) generation (ask.Append id place bytes) ≡ Some fault → r ≡ Err fault)
    (answer : known_refusal (known store) generation (ask.Append id place bytes) ≡ None → (fragment : Fragment) → map_in store a.now id ≡ Some fragment → IsAnswered (refusal_to_append fragment place bytes) r)
    (runs : HasStopped r → ⊥) where
  abbrev map : FragId → Option Fragment
  map = map_in store a.now

  abbrev look : Fragment → Option StoreFault
  look fragment = refusal_to_append fragment place bytes

  abbrev first_is : Option StoreFault → Type 0
  first_is first = known_refusal (outline_of (holding store map)) generation (ask.Append id place bytes) ≡ first

  in_memory : (first : Option StoreFault) → first_is first → known_refusal (known store) generation (ask.Append id place bytes) ≡ first
  in_memory first is = sym (refusal_is store a.now is_open generation (ask.Append id place bytes)) ∙ is

  by_case : (first : Option StoreFault) → first_is first → (stand : Option Fragment) → map id ≡ stand → ((fault : StoreFault) → or_by first look stand ≡ Some fault → Said r ≡ told.Refused fault)
  by_case (Some why) is stand stand_is fault e = ap Said (refused fault (in_memory (Some why) is ∙ e))
  by_case None is (Some fragment) stand_is fault e = ap Said ((answer (in_memory None is) fragment stand_is).refused fault e runs)
  by_case None is None stand_is fault e = absurd (cc e)

  taken_case : (first : Option StoreFault) → first_is first → or_by first look (map id) ≡ None → IfErr r (λ fault. fault ≡ Stopped)
  taken_case (Some why) is e = absurd (cc e)
  taken_case None is e =
      let at = fragment_there store a.now is_open id place bytes generation (in_memory None is) in
      (answer (in_memory None is) at.0 at.1).done (ap (or_by None look) (sym at.1) ∙ e)

  pub answers_append : MayAnswer (holding store map) generation (ask.Append id place bytes) (Said r)
  answers_append = record {
    refused = by_case (known_refusal (outline_of (holding store map)) generation (ask.Append id place bytes)) refl (map id) refl;
    served = λ none. done_by (ask.Append id place bytes) (IsServed (holding store map) (ask.Append id place bytes)) r refl
        (taken_case (known_refusal (outline_of (holding store map)) generation (ask.Append id place bytes)) refl none) runs;
  }
