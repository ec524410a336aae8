-- The servers have no more fragments than stripes were begun.
use Rattle.std.proofs.Common.{◌≡◌, ◌≢◌, ℕ, zero, suc, ◌+◌, ◌<◌, ◌≤◌, true, false, List, [], ◌∷◌, length, Some, refl, ap, sym, ◌∙◌, subst, arith}
use Rattle.std.specs.Prelude.{slice_get}
use Rattle.std.specs.List.{AllByRecursion, sum}
use Rattle.std.proofs.lemmas.Bool.{true≢false}
use Rattle.std.proofs.lemmas.List.Sums.{sum_by-cons}
use Rattle.std.proofs.lemmas.Option.{none-some, same_Some}
use Rattle.zb_types.specs.declared.ids.ServerId.{ServerId}
use Rattle.zb_types.specs.declared.ids.FragId.{FragId}
use Rattle.zb_holding.specs.Carrying.{same_frag}
use Rattle.zb_holding.specs.Placing.{frag_id, server_of}
use Rattle.zb_holding.proofs.Keys.{same_frag-of}
use Rattle.zb_holding.proofs.Placings.{one_index}
use Rattle.zb_ample.specs.Taking.{Belongs, Differ}
use Rattle.zb_ample.proofs.Numbers.{AreDistinct, few_below}

-- the stripes of the logs one behind the other, counted from 0: the one that this stripe of the log at this place is
abbrev pub rank : List ℕ → ℕ → ℕ → ℕ
rank [] i stripe = stripe
rank (n ∷ ns) zero stripe = stripe
rank (n ∷ ns) (suc i) stripe = n + rank ns i stripe

rank_below : (ns : List ℕ) (i n stripe : ℕ) → slice_get ns i ≡ Some n → stripe < n → rank ns i stripe < sum ns
rank_below [] i n stripe is low = absurd (none-some n is)
rank_below (m ∷ ns) zero n stripe is low = let same = same_Some m n is in omega (arith, same, low, sum_by-cons (λ x. x) m ns)
rank_below (m ∷ ns) (suc i) n stripe is low = let rest = rank_below ns i n stripe is low in omega (arith, rest, sum_by-cons (λ x. x) m ns)

-- no two stripes are at one rank
rank_once : (ns : List ℕ) (i j m n a b : ℕ) → slice_get ns i ≡ Some m → slice_get ns j ≡ Some n → a < m → b < n → rank ns i a ≡ rank ns j b → (i ≡ j) × (a ≡ b)
rank_once [] i j m n a b is at low high e = absurd (none-some m is)
rank_once (x ∷ ns) zero zero m n a b is at low high e = (refl, e)
rank_once (x ∷ ns) zero (suc j) m n a b is at low high e = let same = same_Some x m is in absurd (omega (arith, same, low, e))
rank_once (x ∷ ns) (suc i) zero m n a b is at low high e = let same = same_Some x n at in absurd (omega (arith, same, high, e))
rank_once (x ∷ ns) (suc i) (suc j) m n a b is at low high e =
    let rest = rank_once ns i j m n a b is at low high (omega (arith, e)) in
    (ap suc rest.0, rest.1)

module _ (servers : ℕ) (begun : List ℕ) (server : ServerId) where
  abbrev Own : FragId → Type 0
  Own id = Belongs servers begun server id

  -- fragments of one rank are one
  one_name : (a b : FragId) (x : Own a) (y : Own b) → rank begun x.place a.stripe ≡ rank begun y.place b.stripe → same_frag a b ≡ true
  one_name a b x y e = subst (λ (q : FragId). same_frag a q ≡ true) same (same_frag-of a a refl) where
    once : (x.place ≡ y.place) × (a.stripe ≡ b.stripe)
    once = rank_once begun x.place y.place x.count y.count a.stripe b.stripe x.is y.is x.stripe y.stripe e

    log : a.log ≡ b.log
    log = λ k. record { 0 = (x.log ∙ ap (λ (p : ℕ). p + 1) once.0 ∙ sym y.log) k }

    with_index : ℕ → FragId
    with_index index = frag_id b.log b.stripe index

    moved : a ≡ with_index a.index
    moved = λ k. record { log = log k; stripe = once.1 k; index = a.index }

    at : server_of servers (with_index a.index) ≡ server_of servers (with_index b.index)
    at = λ k. record { 0 = (ap (λ (q : FragId). (server_of servers q).0) (sym moved) ∙ x.on ∙ sym y.on) k }

    same : a ≡ b
    same = moved ∙ ap with_index (one_index servers b.log b.stripe a.index b.index x.index y.index at)

  -- the ranks of some of them
  abbrev ranks : (ids : List FragId) → AllByRecursion Own ids → List ℕ
  ranks [] own = []
  ranks (id ∷ ids) own = rank begun own.0.place id.stripe ∷ ranks ids own.1

  ranks_below : (ids : List FragId) (own : AllByRecursion Own ids) → AllByRecursion (λ x. x < sum begun) (ranks ids own)
  ranks_below [] own = tt
  ranks_below (id ∷ ids) own = (rank_below begun own.0.place own.0.count id.stripe own.0.is own.0.stripe, ranks_below ids own.1)

  ranks_other : (id : FragId) (x : Own id) (ids : List FragId) (own : AllByRecursion Own ids) → AllByRecursion (λ other. same_frag id other ≡ false) ids
      → AllByRecursion (λ y. rank begun x.place id.stripe ≢ y) (ranks ids own)
  ranks_other id x [] own differ = tt
  ranks_other id x (other ∷ ids) own differ =
      ((λ e. true≢false (sym (one_name id other x own.0 e) ∙ differ.0)), ranks_other id x ids own.1 differ.1)

  ranks_differ : (ids : List FragId) (own : AllByRecursion Own ids) → Differ ids → AreDistinct (ranks ids own)
  ranks_differ [] own differ = tt
  ranks_differ (id ∷ ids) own differ = (ranks_other id own.0 ids own.1 differ.0, ranks_differ ids own.1 differ.1)

  as_many : (ids : List FragId) (own : AllByRecursion Own ids) → length (ranks ids own) ≡ length ids
  as_many [] own = refl
  as_many (id ∷ ids) own = ap suc (as_many ids own.1)

  -- a server has at most one of them of each stripe that was begun
  pub few_belong : (ids : List FragId) → AllByRecursion Own ids → Differ ids → length ids ≤ sum begun
  few_belong ids own differ =
      let few = few_below (sum begun) (ranks ids own) (ranks_differ ids own differ) (ranks_below ids own) in
      let many = as_many ids own in
      omega (arith, few, many)
