-- What each call of an index leaves, once its slots have changed.
use Rattle.std.proofs.Common.{◌≡◌, ℕ, Some, None, sym, ap, ◌∙◌, subst, List, arith}
use Rattle.std.specs.Prelude.{if◌then◌else◌}
use Rattle.zb_cell.specs.Cell.{following}
use Rattle.zb_types.specs.declared.ids.FragId.{FragId}
use Rattle.zb_holding.specs.Carrying.{same_frag}
use Rattle.zb_index.specs.declared.spot.Spot.{Spot}
use Rattle.zb_index.specs.Free.{times, IsLeast, IsTaken, IsGiven, IsExchanged}
use Rattle.zb_index.specs.Seen.{SeenIndex, spot_of}
use Rattle.zb_index.specs.Indexed.{spot_at}
use Rattle.zb_index.specs.Changes.{IsPut, first_spot, lengthened, next_spot, FollowsFill, FollowsFree, FollowsMove}
use Rattle.zb_index.proofs.Counting.{once_same, once_other}
use Rattle.zb_index.proofs.Following.{filled, emptied, moved, free_there, full_there, free_place, held_place}

abbrev frees_of : SeenIndex → ℕ → ℕ
frees_of index j = times j index.free

pub follows_add : (old new : SeenIndex) (slot : ℕ) (id : FragId) (len : ℕ) → spot_of old id ≡ None → IsTaken old.free slot new.free
    → IsPut old new id (Some (first_spot slot len)) → FollowsFill old new slot id 0 len
follows_add old new slot id len none taken put n before now agree f =
    let at = free_there (spot_of old) (frees_of old) n before agree slot taken.least.there in
    let is : first_spot slot len ≡ spot_at slot f.stored = λ k. record { slot = slot; turn = sym f.turn_is k; len = sym f.len_is k } in
    filled (spot_of old) (spot_of new) (frees_of old) (frees_of new) n slot id before now agree at.within
    (free_place (spot_of old) before slot id none at.free) f.others f.stored f.full f.name
    (λ q. put q ∙ ap (λ o. if same_frag id q then Some o else spot_of old q) is)
    (record { here = omega (arith, taken.left slot, at.once, once_same slot); others = λ j ne. omega (arith, taken.left j, once_other slot j (λ e. ne (sym e))) })

pub follows_grow : (old new : SeenIndex) (id : FragId) (spot : Spot) (len : ℕ) → spot_of old id ≡ Some spot → new.free ≡ old.free
    → IsPut old new id (Some (lengthened len spot)) → FollowsFill old new spot.slot id spot.turn len
follows_grow old new id spot len is same put n before now agree f =
    let s = agree.stands id spot is in
    let spot_is : lengthened len spot ≡ spot_at spot.slot f.stored = λ k. record { slot = spot.slot; turn = sym f.turn_is k; len = sym f.len_is k } in
    filled (spot_of old) (spot_of new) (frees_of old) (frees_of new) n spot.slot id before now agree s.within
    (held_place (spot_of old) n before id spot s is) f.others f.stored f.full f.name
    (λ q. put q ∙ ap (λ o. if same_frag id q then Some o else spot_of old q) spot_is)
    (record {
      here = ap (times spot.slot) same ∙ full_there (spot_of old) (frees_of old) n before agree spot.slot s.stored s.within s.full;
      others = λ j _. ap (times j) same;
    })

pub follows_remove : (old new : SeenIndex) (id : FragId) (spot : Spot) → spot_of old id ≡ Some spot → IsGiven old.free spot.slot new.free
    → IsPut old new id None → FollowsFree old new spot.slot
follows_remove old new id spot is given put n before now agree f =
    let s = agree.stands id spot is in
    emptied (spot_of old) (spot_of new) (frees_of old) (frees_of new) n spot.slot id before now agree s.within
    (held_place (spot_of old) n before id spot s is) f.others f.free put
    (record {
      here = omega (arith, given.more spot.slot, once_same spot.slot, full_there (spot_of old) (frees_of old) n before agree spot.slot s.stored s.within s.full);
      others = λ j ne. omega (arith, given.more j, once_other spot.slot j (λ e. ne (sym e)));
    })

pub follows_renew : (old new : SeenIndex) (id : FragId) (former : Spot) (slot len : ℕ) → spot_of old id ≡ Some former
    → IsExchanged old.free slot former.slot new.free → IsPut old new id (Some (next_spot slot len former))
    → FollowsMove old new former.slot slot id (following former.turn) len
follows_renew old new id former slot len is exchanged put n before now agree m =
    moved (spot_of old) (spot_of new) (frees_of old) (frees_of new) n slot id former (following former.turn) len before now agree is
    exchanged.least.there put exchanged.left m

-- a slot taken and another given are an exchange
pub exchanged_by : (before between now : List ℕ) (taken given : ℕ) → IsTaken before taken between → IsGiven between given now → IsExchanged before taken given now
exchanged_by before between now taken given t g = record {
  least = t.least;
  left = λ j. omega (arith, t.left j, g.more j);
  count = omega (arith, t.count, g.count);
}

-- the least slot is one alone
pub one_least : (free now : List ℕ) (slot taken : ℕ) → IsLeast free slot → IsTaken free taken now → slot ≡ taken
one_least free now slot taken l t = omega (arith, l.least taken t.least.there, t.least.least slot l.there)

pub put_taken : (old new : SeenIndex) (slot taken : ℕ) (id : FragId) (len : ℕ) → IsLeast old.free slot → IsTaken old.free taken new.free
    → IsPut old new id (Some (first_spot slot len)) → IsPut old new id (Some (first_spot taken len))
put_taken old new slot taken id len l t = subst (λ s. IsPut old new id (Some (first_spot s len))) (one_least old.free new.free slot taken l t)
