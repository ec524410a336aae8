-- When two names are one, and what a change of a server's entries leaves under each name.
use Rattle.std.proofs.Common.{◌≡◌, Bool, true, false, cond, Option, Some, None, refl, sym, ap, ◌∙◌, inl, inr}
use Rattle.std.specs.Prelude.{option_map, is_some}
use Rattle.std.specs.Map.{lookup}
use Rattle.std.specs.BTreeMap.{is_at}
use Rattle.std.proofs.lemmas.Bool.{cases_Bool}
use Rattle.zb_types.specs.declared.ids.FragId.{FragId}
use Rattle.zb_types.specs.declared.requests.Request.{Request}
use Rattle.zb_types.specs.Order.{frag_cmp}
use Rattle.zb_holding.specs.Fragments.{Fragment}
use Rattle.zb_holding.specs.Carrying.{same_frag, is_about, stands_after}
use Rattle.zb_holding.proofs.Keys.{same_frag-cmp, is_at-same_frag, same_frag-is}
use Rattle.zb_plain.specs.declared.kept.Kept.{Kept}
use Rattle.zb_plain.specs.Standing.{Entries, fragment_of, stands_in, IsPut, IsAfter}

map_cond : (b : Bool) (w o : Option Kept) → option_map fragment_of (cond b w o) ≡ cond b (option_map fragment_of w) (option_map fragment_of o)
map_cond true w o = refl
map_cond false w o = refl

-- what stands under a name is what the ordered map has there
pub stands-is : (entries : Entries) (id : FragId) → option_map fragment_of (lookup (is_at (frag_cmp id)) entries) ≡ stands_in entries id
stands-is entries id = ap (λ test. option_map fragment_of (lookup test entries)) (is_at-same_frag id)

-- the ordered map has a value under a name, or has it no more
pub put_by : (old new : Entries) (id : FragId) (kept : Option Kept)
    → ((q : FragId) → lookup (is_at (frag_cmp q)) new ≡ cond (is_at (frag_cmp id) q) kept (lookup (is_at (frag_cmp q)) old))
    → IsPut old new id (option_map fragment_of kept)
put_by old new id kept at q =
    sym (stands-is new q) ∙ ap (option_map fragment_of) (at q)
    ∙ map_cond (is_at (frag_cmp id) q) kept (lookup (is_at (frag_cmp q)) old)
    ∙ (λ i. cond (same_frag-cmp id q i) (option_map fragment_of kept) (stands-is old q i))

-- what a request leaves under its name is put there
pub after_put : (request : Request) (old new : Entries) (id : FragId) (stands : Option Fragment) → ((q : FragId) → is_about request q ≡ same_frag id q)
    → stands ≡ stands_after request (stands_in old id) → IsPut old new id stands → IsAfter old new request
after_put request old new id stands about is put q =
    elim (cases_Bool (same_frag id q)) [
      | inl same ↦
          let after = stands_after request (stands_in old q) in
          put q ∙ ap (λ b. cond b stands (stands_in old q)) same ∙ is ∙ ap (λ k. stands_after request (stands_in old k)) (same_frag-is id q same)
          ∙ sym (ap (λ b. cond b after (stands_in old q)) (about q ∙ same))
      | inr other ↦
          let after = stands_after request (stands_in old q) in
          put q ∙ ap (λ b. cond b stands (stands_in old q)) other ∙ sym (ap (λ b. cond b after (stands_in old q)) (about q ∙ other))
    ]

put_same : (old : Entries) (id : FragId) → IsPut old old id (stands_in old id)
put_same old id q =
    elim (cases_Bool (same_frag id q)) [
      | inl same ↦ ap (stands_in old) (sym (same_frag-is id q same)) ∙ sym (ap (λ b. cond b (stands_in old id) (stands_in old q)) same)
      | inr other ↦ sym (ap (λ b. cond b (stands_in old id) (stands_in old q)) other)
    ]

-- a request that leaves what stood under its name changes nothing
pub after_same : (request : Request) (old : Entries) (id : FragId) → ((q : FragId) → is_about request q ≡ same_frag id q)
    → stands_in old id ≡ stands_after request (stands_in old id) → IsAfter old old request
after_same request old id about is = after_put request old old id (stands_in old id) about is (put_same old id)

-- nothing stands where the ordered map has nothing
pub stands_nothing : (entries : Entries) (id : FragId) → is_some (lookup (is_at (frag_cmp id)) entries) ≡ false → stands_in entries id ≡ None
stands_nothing entries id none = sym (stands-is entries id) ∙ ap (option_map fragment_of) (is_none (lookup (is_at (frag_cmp id)) entries) none)
  where
    is_none : (o : Option Kept) → is_some o ≡ false → o ≡ None
    is_none None h = refl
    is_none (Some kept) h = absurd cc
