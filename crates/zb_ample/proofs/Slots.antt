-- Each request that a server carries out takes a slot at most once for a name.
use Rattle.std.proofs.Common.{◌≡◌, ℕ, ◌+◌, ◌-◌, ◌≤◌, true, false, List, [], ◌∷◌, Option, Some, None, refl, ap, sym, ◌∙◌, arith}
use Rattle.std.specs.Prelude.{is_some}
use Rattle.std.specs.List.{AllByRecursion}
use Rattle.std.proofs.lemmas.Bool.{cond_both, cond-true, cond-false, true≢false, false_from_ne_true}
use Rattle.zb_types.specs.declared.ids.FragId.{FragId}
use Rattle.zb_types.specs.declared.requests.Request.{Request}
use Rattle.zb_types.specs.declared.requests.Request.TheVariants as ask
use Rattle.zb_holding.specs.Fragments.{Fragment, share_fragment, parity_fragment}
use Rattle.zb_holding.specs.Carrying.{is_about, same_frag, stands_after}
use Rattle.zb_holding.specs.Rules.{AreSame, Holdings, has_after, map_after}
use Rattle.zb_holding.proofs.Keys.{same_frag-is, same_frag-of}
use Rattle.zb_sound.specs.LastFlush.{FindsItsPlace}
use Rattle.zb_servers_laws.specs.Answered.{IsWrite}
use Rattle.zb_ample.specs.Taking.{SlotsAreTaken}

abbrev Names : Type 0
Names = List FragId

abbrev Map : Type 0
Map = FragId → Option Fragment

abbrev Stand : Map → Names → Type 0
Stand map names = AllByRecursion (λ id. is_some (map id) ≡ true) names

pub all_weaker : {A : Type 0} (P Q : A → Type 0) (xs : List A) → ((x : A) → P x → Q x) → AllByRecursion P xs → AllByRecursion Q xs
all_weaker P Q [] weaker all = tt
all_weaker P Q (x ∷ xs) weaker all = (weaker x all.0, all_weaker P Q xs weaker all.1)

-- a write leaves something where something stood
still_some : (request : Request) → IsWrite request → (o : Option Fragment) → is_some o ≡ true → is_some (stands_after request o) ≡ true
still_some (ask.Store id bytes class) write (Some fragment) some = refl
still_some (ask.Store id bytes class) write None some = absurd (true≢false (sym some))
still_some (ask.Append id place bytes) write (Some (share_fragment stands)) some = refl
still_some (ask.Append id place bytes) write (Some (parity_fragment lengths stands)) some = refl
still_some (ask.Append id place bytes) write None some = absurd (true≢false (sym some))
still_some (ask.Parity id lengths bytes class) write o some = refl
still_some (ask.Retrieve id place len) write o some = absurd write
still_some (ask.Delete id) write o some = absurd write
still_some (ask.Identify after) write o some = absurd write
still_some (ask.Fence generation) write o some = absurd write

-- also under each name of a map
stays_some : (request : Request) → IsWrite request → (map : Map) (q : FragId) → is_some (map q) ≡ true → is_some (map_after request map q) ≡ true
stays_some request write map q some =
    cond_both (is_about request q) (stands_after request (map q)) (map q) (λ (o : Option Fragment). is_some o ≡ true) (λ _. still_some request write (map q) some) (λ _. some)

module _ (slots : ℕ) (has now : Holdings) (request : Request) (write : IsWrite request) (same : AreSame now (has_after request has)) (t : SlotsAreTaken slots has) where
  stand_on : Stand now.map t.names
  stand_on =
      all_weaker (λ id. is_some (has.map id) ≡ true) (λ id. is_some (now.map id) ≡ true) t.names
      (λ id some. ap is_some (same.map id) ∙ stays_some request write has.map id some) t.stand

  -- no slot more is taken
  as_many : has.free ≤ now.free → SlotsAreTaken slots now
  as_many free = record { names = t.names; differ = t.differ; stand = stand_on; many = let many = t.many in omega (arith, many, free) }

  -- one more is taken, by a name under which nothing stood
  module _ (id : FragId) (none : has.map id ≡ None) (some : is_some (now.map id) ≡ true) (free : has.free ≤ now.free + 1) where
    other : (q : FragId) → is_some (has.map q) ≡ true → same_frag id q ≡ false
    other q there = false_from_ne_true (same_frag id q) (λ one. true≢false (sym there ∙ ap (λ (x : FragId). is_some (has.map x)) (sym (same_frag-is id q one)) ∙ ap is_some none))

    one_more : SlotsAreTaken slots now
    one_more = record {
      names = id ∷ t.names;
      differ = (all_weaker (λ q. is_some (has.map q) ≡ true) (λ q. same_frag id q ≡ false) t.names other t.stand, t.differ);
      stand = (some, stand_on);
      many = let many = t.many in omega (arith, many, free);
    }

own : (id : FragId) → same_frag id id ≡ true
own id = same_frag-of id id refl

-- each slot is free or taken by a name once a write was carried out that found its place
pub taken_stays : (slots : ℕ) (has now : Holdings) (request : Request) → IsWrite request → FindsItsPlace request has.map → AreSame now (has_after request has) → SlotsAreTaken slots has → SlotsAreTaken slots now
taken_stays slots has now (ask.Store id bytes class) write none same t =
    one_more slots has now (ask.Store id bytes class) write same t id none
    (ap is_some (same.map id ∙ cond-true (same_frag id id) (stands_after (ask.Store id bytes class) (has.map id)) (has.map id) (own id) ∙ ap (stands_after (ask.Store id bytes class)) none))
    (let free = same.free in omega (arith, free))
taken_stays slots has now (ask.Append id place bytes) write finds same t =
    as_many slots has now (ask.Append id place bytes) write same t (let free = same.free in omega (arith, free))
taken_stays slots has now (ask.Parity id lengths bytes class) write finds same t = by (has.map id) refl where
  R : Request
  R = ask.Parity id lengths bytes class

  by : (o : Option Fragment) → has.map id ≡ o → SlotsAreTaken slots now
  by (Some fragment) e =
      as_many slots has now R write same t
      (let free : now.free ≡ has.free = same.free ∙ cond-true (is_some (has.map id)) has.free (has.free - 1) (ap is_some e) in omega (arith, free))
  by None e =
      one_more slots has now R write same t id e
      (ap is_some (same.map id ∙ cond-true (same_frag id id) (stands_after R (has.map id)) (has.map id) (own id)))
      (let free : now.free ≡ has.free - 1 = same.free ∙ cond-false (is_some (has.map id)) has.free (has.free - 1) (ap is_some e) in omega (arith, free))
taken_stays slots has now (ask.Retrieve id place len) write finds same t = absurd write
taken_stays slots has now (ask.Delete id) write finds same t = absurd write
taken_stays slots has now (ask.Identify after) write finds same t = absurd write
taken_stays slots has now (ask.Fence generation) write finds same t = absurd write

-- a server that keeps nothing has all its slots free
pub free_is_taken : (slots : ℕ) (has : Holdings) → slots ≤ has.free → SlotsAreTaken slots has
free_is_taken slots has free = record { names = []; differ = tt; stand = tt; many = omega (arith, free) }
