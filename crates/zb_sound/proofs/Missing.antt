-- Some server may be missing, or none.
use Rattle.std.proofs.Common.{◌≡◌, ◌⊎◌, ℕ, zero, suc, ◌≤◌, true, false, Option, Some, None, sym, ap, ◌∙◌, subst, inl, inr, arith}
use Rattle.std.proofs.lemmas.Bool.{cases_Bool, cases_eq, false≢true}
use Rattle.zb_types.specs.declared.ids.ServerId.{ServerId}
use Rattle.zb_types.specs.declared.nodes.Members.{Members}
use Rattle.zb_tables.specs.Taking.{IsServer}
use Rattle.zb_recovery.specs.Missing.{Servers, MayMiss, OneUnfit, is_unfit}

-- one of the first k servers isn't fit, or all are
first_unfit : (n : ℕ) (members : Members) (st : Servers) (k : ℕ) → k ≤ n
    → ((s : ServerId) × IsServer n s × (is_unfit members st.blank s ≡ true)) ⊎ ((s : ServerId) → IsServer k s → is_unfit members st.blank s ≡ false)
first_unfit n members st zero le = inr (λ s is. absurd (let a = is.0 in let c = is.1 in omega arith))
first_unfit n members st (suc k) le = elim (cases_Bool (is_unfit members st.blank (record { 0 = suc k }))) [
  | inl t ↦ inl (record { 0 = suc k }, (omega arith, omega arith), t)
  | inr f ↦ elim (first_unfit n members st k (omega arith)) [
    | inl found ↦ inl found
    | inr all ↦ inr (λ s is. elim (cases_eq s.0 (suc k)) as (λ _. is_unfit members st.blank s ≡ false) [
      | inl e ↦ subst (λ (m : ℕ). is_unfit members st.blank (record { 0 = m }) ≡ false) (sym e) f
      | inr ne ↦ all s (is.0, let c = is.1 in omega arith)
    ])
  ]
]

pub some_may : (n : ℕ) (members : Members) (st : Servers) → OneUnfit n members st.blank → (x : Option ServerId) × MayMiss n members st.blank x
some_may n members st one = elim (first_unfit n members st n (omega arith)) as (λ _. (x : Option ServerId) × MayMiss n members st.blank x) [
  | inl found ↦ (Some found.0, record { covers = λ s is unfit. ap Some (one found.0 s found.1 is found.2 unfit); among = found.1 })
  | inr all ↦ (None, record { covers = λ s is unfit. absurd (false≢true (sym (all s is) ∙ unfit)); among = tt })
]
