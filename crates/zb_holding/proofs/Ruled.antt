-- What follows from the rules of a server.
use Rattle.std.proofs.Common.{◌≡◌, ◌≢◌, ℕ, ◌+◌, Bool, true, false, cond, List, length, Option, Some, None, refl, sym, ap, ◌∙◌, subst, inl, inr}
use Rattle.std.specs.Prelude.{nat_lt, nat_le}
use Rattle.std.proofs.lemmas.Bool.{cases_Bool, cond-true, cond-false}
use Rattle.zb_types.specs.declared.ids.FragId.{FragId}
use Rattle.zb_types.specs.declared.requests.Request.{Request}
use Rattle.zb_types.specs.declared.requests.Request.TheVariants as ask
use Rattle.zb_types.specs.declared.requests.Response.{Response}
use Rattle.zb_types.specs.declared.requests.Response.TheVariants as told
use Rattle.zb_types.specs.declared.requests.StoreFault.{StoreFault}
use Rattle.zb_types.specs.declared.requests.StoreFault.TheVariants.{NoFragment, Short}
use Rattle.zb_holding.specs.Fragments.{Fragment, share_fragment, parity_fragment}
use Rattle.zb_holding.specs.Carrying.{found}
use Rattle.zb_holding.specs.Rules.{Holdings, Outline, size_of, unless_old, refusal_up_to, known_refusal, refusal_of, AreTold, IsServed, IsAnswer}
use Rattle.std.specs.Prelude.{option_map, take, drop}

-- what is found in a range is refused just where a rule says so
found_by : (stands : Option Fragment) (place len : ℕ) (response : Response)
    → ((fault : StoreFault) → refusal_up_to (option_map size_of stands) (place + len) ≡ Some fault → response ≡ told.Refused fault)
    → (refusal_up_to (option_map size_of stands) (place + len) ≡ None → response ≡ found stands place len) → response ≡ found stands place len
found_by None place len response refused served = refused NoFragment refl
found_by (Some (share_fragment bytes)) place len response refused served =
    let short = told.Refused (Short (length bytes)) in
    let all = told.Bytes (take len (drop place bytes)) in
    let fault = Some (Short (length bytes)) in
    elim (cases_Bool (nat_le (place + len) (length bytes))) [
      | inl within ↦ served (cond-true (nat_le (place + len) (length bytes)) None fault within)
      | inr past ↦
          refused (Short (length bytes)) (cond-false (nat_le (place + len) (length bytes)) None fault past)
          ∙ sym (cond-false (nat_le (place + len) (length bytes)) all short past)
    ]
found_by (Some (parity_fragment lengths bytes)) place len response refused served = served refl

-- an answer to a retrieve whose generation isn't old is what is found, whether it is refused or not
pub retrieve_is_found : (has : Holdings) (generation : ℕ) (id : FragId) (place len : ℕ) (response : Response) → nat_lt generation has.fence ≡ false
    → IsAnswer has generation (ask.Retrieve id place len) response → response ≡ found (has.map id) place len
retrieve_is_found has generation id place len response young answer =
    let refusal = refusal_up_to (option_map size_of (has.map id)) (place + len) in
    let is : unless_old has.fence generation refusal ≡ refusal = cond-false (nat_lt generation has.fence) _ refusal young in
    found_by (has.map id) place len response (λ fault h. answer.refused fault (is ∙ h)) (λ h. answer.served (is ∙ h))

-- a request that is answered `Done` is one that nothing refuses
pub done_is_unrefused : (has : Holdings) (generation : ℕ) (request : Request) (response : Response) → response ≡ told.Done
    → IsAnswer has generation request response → refusal_of has generation request ≡ None
done_is_unrefused has generation request response done answer = by_cases (refusal_of has generation request) answer.refused
  where
    by_cases : (refusal : Option StoreFault) → ((fault : StoreFault) → refusal ≡ Some fault → response ≡ told.Refused fault) → refusal ≡ None
    by_cases None refused = refl
    by_cases (Some fault) refused = absurd (told_apart fault (sym done ∙ refused fault refl))
      where
        told_apart : (fault : StoreFault) → told.Done ≡ told.Refused fault → ⊥
        told_apart fault e = cc

-- outlines that agree refuse the same
pub same_refusal : (one other : Outline) → ((id : FragId) → one.sizes id ≡ other.sizes id) → one.fence ≡ other.fence → one.free ≡ other.free
    → (generation : ℕ) (request : Request) → known_refusal one generation request ≡ known_refusal other generation request
same_refusal one other sizes fence free generation request =
    let same : one ≡ other = λ i. record { sizes = λ id. sizes id i; fence = fence i; free = free i } in
    ap (λ (o : Outline). known_refusal o generation request) same

-- names that are told are told of whatever holds the same names
pub told_of_same : (there other : FragId → Bool) (after : Option FragId) (response : Response) → ((id : FragId) → there id ≡ other id) → AreTold there after response → AreTold other after response
told_of_same there other after response same h =
    let both : there ≡ other = λ i id. same id i in
    subst (λ (t : FragId → Bool). AreTold t after response) both h
