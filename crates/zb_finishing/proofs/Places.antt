-- What holds of each client, once one of them is another.
use Rattle.std.proofs.Common.{◌≡◌, ◌≢◌, ℕ, zero, suc, List, [], ◌∷◌, Some, refl, sym, ap, ◌∙◌, subst, inl, inr}
use Rattle.std.specs.Prelude.{◌⊎◌, slice_get, slice_set}
use Rattle.std.proofs.lemmas.Bool.{cases_eq}
use Rattle.std.proofs.lemmas.Option.{none-some, same_Some}
use Rattle.zb_client.specs.Seen.{SeenClient}
use Rattle.zb_system.specs.Nodes.{IsClient, SeenNodes}
use Rattle.zb_system.proofs.Joining.{elsewhere}
use Rattle.zb_finishing.specs.Clients.{OthersStay}

set_here : (c d : SeenClient) (cs : List SeenClient) (k : ℕ) → slice_get cs k ≡ Some c → slice_get (slice_set cs k d) k ≡ Some d
set_here c d [] k e = absurd (none-some c e)
set_here c d (x ∷ cs) zero e = refl
set_here c d (x ∷ cs) (suc k) e = set_here c d cs k e

-- a client that is set stands there
pub set_is : (old new : SeenNodes) (i : ℕ) (c d : SeenClient) → IsClient old i c → new.clients ≡ slice_set old.clients i d → IsClient new i d
set_is old new i c d is clients_are = ap (λ (cs : List SeenClient). slice_get cs i) clients_are ∙ set_here c d old.clients i is

-- the others are as they were
pub set_others : (old new : SeenNodes) (i : ℕ) (d : SeenClient) → new.clients ≡ slice_set old.clients i d → OthersStay old new i
set_others old new i d clients_are j ne = ap (λ (cs : List SeenClient). slice_get cs j) clients_are ∙ elsewhere old.clients i d old.clients i j ne

module _ (P : SeenClient → Type 0) where
  -- what is true of a client at a place, if there is one
  abbrev pub At : SeenNodes → ℕ → Type 0
  At n i = (c : SeenClient) → IsClient n i c → P c

  -- what is true of the new client, and of each other one, is true at each place
  pub set_at : (old new : SeenNodes) (i : ℕ) (c d : SeenClient) → IsClient old i c → new.clients ≡ slice_set old.clients i d → (j : ℕ) → (j ≡ i → P d) → (j ≢ i → At old j) → At new j
  set_at old new i c d is clients_are j own others e there = by (cases_eq j i) where
    by : (j ≡ i) ⊎ (j ≢ i) → P e
    by (inl same) = subst P (same_Some d e (sym (set_is old new i c d is clients_are) ∙ sym (ap (λ (k : ℕ). slice_get new.clients k) same) ∙ there)) (own same)
    by (inr ne) = others ne e (sym (set_others old new i d clients_are j ne) ∙ there)

  -- so it is where the new client keeps what was true of the old one
  pub kept_at : (old new : SeenNodes) (i : ℕ) (c d : SeenClient) → IsClient old i c → new.clients ≡ slice_set old.clients i d → (P c → P d) → (j : ℕ) → At old j → At new j
  kept_at old new i c d is clients_are still j was =
      set_at old new i c d is clients_are j (λ same. still (was c (ap (λ (k : ℕ). slice_get old.clients k) same ∙ is))) (λ _. was)
