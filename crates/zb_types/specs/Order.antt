-- The order of the names of logs and fragments, and their codes, so that they may be keys of finite maps.
use Rattle.std.specs.Prelude.{ℕ, refl}
use Rattle.std.specs.Ordering.{nat_cmp, ordering_then}
use Rattle.std.specs.declared.cmp.Ordering.{Ordering}
use Rattle.std.specs.Coded.{Coded, code_by, coded×, coded_ℕ}
use Rattle.zb_types.specs.declared.ids.LogId.{LogId}
use Rattle.zb_types.specs.declared.ids.FragId.{FragId}

-- by the number
abbrev pub log_cmp : LogId → LogId → Ordering
log_cmp a b = nat_cmp a.0 b.0

-- a log as its number
abbrev pub coded_log : Coded LogId
coded_log = code_by ℕ coded_ℕ (λ a. a.0) (λ n. record { 0 = n }) (λ _. refl)

-- by the log, then by the stripe, then by the index
abbrev pub frag_cmp : FragId → FragId → Ordering
frag_cmp a b = ordering_then (nat_cmp a.log.0 b.log.0) (ordering_then (nat_cmp a.stripe b.stripe) (nat_cmp a.index b.index))

-- a fragment as its three numbers
abbrev pub coded_frag : Coded FragId
coded_frag =
    code_by (ℕ × (ℕ × ℕ)) (coded× coded_ℕ (coded× coded_ℕ coded_ℕ))
    (λ a. (a.log.0, (a.stripe, a.index)))
    (λ p. record { log = record { 0 = p.0 }; stripe = p.1.0; index = p.1.1 })
    (λ _. refl)
