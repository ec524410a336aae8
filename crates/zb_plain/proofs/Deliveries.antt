-- A plan of which the first requests are carried out.
use Rattle.std.proofs.Common.{◌≡◌, List, [], ◌∷◌, ◌++◌, length, take, drop, true, false, Option, Some, None, sym, ap, ◌∙◌, refl, arith}
use Rattle.std.specs.Prelude.{slice_get, is_some, option_map, IsSomeAnd}
use Rattle.std.proofs.lemmas.List.{append-nil, append_assoc, take_at, take-append-drop}
use Rattle.std.proofs.lemmas.Option.{none-some, same_Some}
use Rattle.zb_types.specs.declared.ids.ServerId.{ServerId}
use Rattle.zb_types.specs.declared.requests.Request.{Request}
use Rattle.zb_types.specs.declared.requests.Response.TheVariants as told
use Rattle.zb_holding.specs.Holding.{Maps}
use Rattle.zb_holding.specs.Carrying.{carried_all}
use Rattle.zb_stripe.specs.Feeding.{left_after}
use Rattle.zb_stripe_laws.proofs.Carrying.{carried-append}
use Rattle.zb_plain.specs.Standing.{Entries, maps_of}
use Rattle.zb_plain.specs.Delivering.{IsBegun}
use Rattle.zb_plain.proofs.Planned.{Requests, get-behind}

-- some requests of a plan are carried out, and these are left
pub record IsLeft (old now : List Entries) (plan left : Requests) : Type 0 where
  pub done : Requests
  pub split : plan ≡ done ++ left
  pub carried : maps_of now ≡ carried_all (maps_of old) done
  pub count : length now ≡ length old

module _ (old now : List Entries) (plan left : Requests) where
  pub take-done : (l : IsLeft old now plan left) → take (length l.done) plan ≡ l.done
  take-done l = ap (take (length l.done)) l.split ∙ take_at l.done left (length l.done) refl

  pub is_begun : IsLeft old now plan left → IsBegun (maps_of old) (maps_of now) plan
  is_begun l = record {
    i = length l.done;
    carried = l.carried ∙ ap (carried_all (maps_of old)) (sym (take-done l));
  }

  pub all_carried : IsLeft old now plan left → left ≡ [] → maps_of now ≡ carried_all (maps_of old) plan
  all_carried l none = l.carried ∙ ap (carried_all (maps_of old)) (sym (l.split ∙ ap (λ rest. l.done ++ rest) none ∙ append-nil l.done))

pub none_done : (old : List Entries) (plan left : Requests) → left ≡ plan → IsLeft old old plan left
none_done old plan left is = record { done = []; split = sym is; carried = refl; count = refl }

module _ (old now : List Entries) (plan left : Requests) (l : IsLeft old now plan left) where
  pub stands_next : (asked : ServerId × Request) → slice_get left 0 ≡ Some asked → slice_get plan (length l.done) ≡ Some asked
  stands_next asked is = ap (λ rs. slice_get rs (length l.done)) l.split ∙ get-behind l.done left (length l.done) 0 (omega arith) ∙ is

  pub one_done : (new : List Entries) → maps_of new ≡ carried_all (maps_of now) (take 1 left) → length new ≡ length now → IsLeft old new plan (drop 1 left)
  one_done new is same = record {
    done = l.done ++ take 1 left;
    split = l.split ∙ ap (λ rs. l.done ++ rs) (sym (take-append-drop 1 left)) ∙ sym (append_assoc l.done (take 1 left) (drop 1 left));
    carried = is ∙ ap (λ (ms : Maps). carried_all ms (take 1 left)) l.carried ∙ sym (carried-append (maps_of old) l.done (take 1 left));
    count = same ∙ l.count;
  }

-- the first request, alone
pub first-alone : (plan : Requests) (asked : ServerId × Request) → slice_get plan 0 ≡ Some asked → take 1 plan ≡ asked ∷ []
first-alone [] asked is = absurd (none-some asked is)
first-alone (r ∷ rs) asked is = ap (λ q. q ∷ []) (same_Some r asked is)

-- what is left once a request is carried out
pub left-done : (plan : Requests) → left_after plan told.Done ≡ drop 1 plan
left-done [] = refl
left-done (r ∷ rs) = refl

-- ---- by the request that stands

pub none_left : (plan : Requests) → is_some (slice_get plan 0) ≡ false → plan ≡ []
none_left [] none = refl
none_left (r ∷ rs) none = absurd cc

pub at_some : (P : ServerId × Request → Type 0) (o : Option (ServerId × Request)) → is_some o ≡ true → ((asked : ServerId × Request) → o ≡ Some asked → P asked) → IsSomeAnd o P
at_some P None some each = absurd cc
at_some P (Some asked) some each = each asked refl

pub some-mapped : {A B : Type 0} (f : A → B) (o : Option A) → is_some (option_map f o) ≡ is_some o
some-mapped f None = refl
some-mapped f (Some a) = refl
