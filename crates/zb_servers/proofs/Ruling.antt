-- What a server has once it has answered.
use Rattle.std.proofs.Common.{◌≡◌, ℕ, ◌-◌, true, false, cond, List, length, Option, Some, None, Result, Ok, Err, IfOk, sym, ap, subst, ◌∙◌, inl, inr}
use Rattle.std.proofs.lemmas.Bool.{cases_Bool}
use Rattle.zb_types.specs.declared.ids.FragId.{FragId}
use Rattle.zb_types.specs.declared.requests.Request.TheVariants as ask
use Rattle.zb_types.specs.declared.requests.Response.{Response}
use Rattle.zb_types.specs.declared.requests.StoreFault.{StoreFault}
use Rattle.zb_holding.specs.Carrying.{same_frag, stands_after}
use Rattle.zb_holding.specs.Rules.{map_after, IsLeft}
use Rattle.zb_holding.proofs.Keys.{same_frag-is}
use Rattle.zb_servers.specs.Standing.{Entries, SeenServer, stands_in, holdings_of}
use Rattle.zb_servers.specs.Keeping.{IsPut, done_unless}
use Rattle.zb_servers.specs.Serving.{is_refused}

-- what a request leaves under one name is put there
put_after : (old new : Entries) (id : FragId) (place : ℕ) (bytes : List ℕ) → let request = ask.Append id place bytes in IsPut old new id (stands_after request (stands_in old id))
    → (q : FragId) → stands_in new q ≡ map_after request (stands_in old) q
put_after old new id place bytes put q =
    let request = ask.Append id place bytes in
    elim (cases_Bool (same_frag id q)) [
      | inl same ↦
          put q ∙ ap (λ b. cond b (stands_after request (stands_in old id)) (stands_in old q)) same ∙ ap (λ k. stands_after request (stands_in old k)) (same_frag-is id q same)
          ∙ sym (ap (λ b. cond b (stands_after request (stands_in old q)) (stands_in old q)) same)
      | inr other ↦
          put q ∙ ap (λ b. cond b (stands_after request (stands_in old id)) (stands_in old q)) other
          ∙ sym (ap (λ b. cond b (stands_after request (stands_in old q)) (stands_in old q)) other)
    ]

module _ (slots : ℕ) (old new : SeenServer) (id : FragId) (place : ℕ) (bytes : List ℕ) where
  -- an answer by which an append is left as it should
  abbrev Leaves : Response → Type 0
  Leaves answer = IsLeft (holdings_of slots old) (ask.Append id place bytes) answer (holdings_of slots new)

  leaves : (answer : Response) (fault : Option StoreFault) → answer ≡ done_unless fault
      → (is_refused answer ≡ false → IsPut old.entries new.entries id (stands_after (ask.Append id place bytes) (stands_in old.entries id)))
      → (is_refused answer ≡ true → new ≡ old) → length new.entries ≡ length old.entries → new.fence ≡ old.fence → Leaves answer
  leaves answer None is put same count fence =
      subst Leaves (sym is) (record { map = put_after old.entries new.entries id place bytes (put (ap is_refused is)); fence = fence; free = ap (λ (n : ℕ). slots - n) count })
  leaves answer (Some fault) is put same count fence =
      subst Leaves (sym is) (record { map = λ q. ap (λ (s : SeenServer). stands_in s.entries q) (same (ap is_refused is)); fence = fence; free = ap (λ (n : ℕ). slots - n) count })

  -- an append that is done, or refused, leaves what it should
  pub append_left : {E : Type 0} (r : Result Response E) (fault : Option StoreFault) → IfOk r (λ answer. answer ≡ done_unless fault)
      → IfOk r (λ answer. is_refused answer ≡ false → IsPut old.entries new.entries id (stands_after (ask.Append id place bytes) (stands_in old.entries id)))
      → IfOk r (λ answer. is_refused answer ≡ true → new ≡ old) → length new.entries ≡ length old.entries → new.fence ≡ old.fence → IfOk r Leaves
  append_left (Ok answer) fault is put same count fence = leaves answer fault is put same count fence
  append_left (Err e) fault is put same count fence = tt
