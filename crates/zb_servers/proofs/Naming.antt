-- What a change of a server's entries leaves under each name.
use Rattle.std.proofs.Common.{◌≡◌, ℕ, cond, Option, Result, Ok, Err, sym, ap, ◌∙◌}
use Rattle.std.specs.Prelude.{OnOk, IfOk}
use Rattle.std.specs.Map.{lookup}
use Rattle.std.specs.BTreeMap.{is_at}
use Rattle.zb_types.specs.declared.ids.FragId.{FragId}
use Rattle.zb_types.specs.Order.{frag_cmp}
use Rattle.zb_holding.specs.Fragments.{Fragment}
use Rattle.zb_holding.proofs.Keys.{same_frag-cmp, is_at-same_frag}
use Rattle.zb_servers.specs.Standing.{Entries, SeenServer, stands_in}
use Rattle.zb_servers.specs.Keeping.{IsPut}

-- what stands under a name is what the ordered map has there
pub stands-is : (entries : Entries) (id : FragId) → lookup (is_at (frag_cmp id)) entries ≡ stands_in entries id
stands-is entries id = ap (λ test. lookup test entries) (is_at-same_frag id)

-- the ordered map has a value under a name, or has it no more
pub put_by : (old new : Entries) (id : FragId) (stands : Option Fragment)
    → ((q : FragId) → lookup (is_at (frag_cmp q)) new ≡ cond (is_at (frag_cmp id) q) stands (lookup (is_at (frag_cmp q)) old))
    → IsPut old new id stands
put_by old new id stands at q = sym (stands-is new q) ∙ at q ∙ (λ i. cond (same_frag-cmp id q i) stands (stands-is old q i))

-- a server that keeps the same, with the same fence
pub same_server : (old new : Entries) (fence : ℕ) → new ≡ old → let server : SeenServer = record { entries = new; fence = fence } in server ≡ record { entries = old; fence = fence }
same_server old new fence same = λ i. record { entries = same i; fence = fence }

-- what follows from what an Ok says
pub if_ok : {T E P : Type 0} (r : Result T E) (R : T → Type 0) → (P → (x : T) → R x) → OnOk r P → IfOk r R
if_ok (Ok x) R f p = f p x
if_ok (Err e) R f p = tt
