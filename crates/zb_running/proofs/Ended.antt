-- Clients that come to rest, one after the other.
use Rattle.std.proofs.Common.{◌≡◌, ◌≢◌, ℕ, ◌+◌, ◌-◌, ◌≤◌, ◌<◌, Some, List, [], length, refl, sym, ap, ◌∙◌, subst, arith, inl, inr}
use Rattle.std.specs.Prelude.{◌⊎◌, slice_set}
use Rattle.std.proofs.lemmas.Bool.{cases_eq}
use Rattle.zb_types.specs.declared.lines.Kind.TheVariants as kind
use Rattle.zb_work.specs.declared.work.Aim.TheVariants.{Finish}
use Rattle.zb_work.specs.Steps.{new_task}
use Rattle.zb_client.specs.Seen.{SeenClient, kind_of, unready}
use Rattle.zb_system.specs.Nodes.{IsClient, SeenNodes}
use Rattle.zb_system.proofs.Joining.{set_length}
use Rattle.zb_nodes.specs.Seen.{Flushes, kind_at}
use Rattle.zb_finishing.specs.Clients.{AllIdle, Finishes, FinishesAt, IsIdleAt, KeepsNoneAt}
use Rattle.zb_finishing.proofs.Alone.{each_place, idle_seen, seen_idle}
use Rattle.zb_finishing.proofs.Emptied.{idle_keeps_none}
use Rattle.zb_finishing.proofs.Places.{set_at}
use Rattle.zb_finishing.proofs.Resting.{idle_rests}
use Rattle.zb_running.specs.Resting.{LeavesRest}

-- what is so with the clients up to the last one is so with all
pub all_places : (P : SeenClient → Type 0) (n : SeenNodes) (next : ℕ) → ((j : ℕ) → j + 1 < next → (c : SeenClient) → IsClient n j c → P c) → length n.clients < next → (j : ℕ) (c : SeenClient) → IsClient n j c → P c
all_places P n next each past = each_place P n (λ j lt. each j (omega (arith, lt, past)))

-- the next client is idle too
pub idle_upto : (old new : SeenNodes) (next : ℕ) → ((j : ℕ) → j + 1 < next → IsIdleAt old j) → ((j : ℕ) → IsIdleAt old j → IsIdleAt new j) → kind_at new (next - 1) ≡ Some kind.Idle → (j : ℕ) → j + 1 < next + 1 → IsIdleAt new j
idle_upto old new next each stays here j lt = by (cases_eq (j + 1) next) where
  by : (j + 1 ≡ next) ⊎ (j + 1 ≢ next) → IsIdleAt new j
  by (inl e) = subst (λ (k : ℕ). IsIdleAt new k) (place e) (seen_idle new (next - 1) here) where
    place : j + 1 ≡ next → next - 1 ≡ j
    place e = omega (arith, e)
  by (inr ne) = stays j (each j (omega (arith, lt, ne)))

-- the next client keeps nothing too
pub none_upto : (old new : SeenNodes) (next : ℕ) → ((j : ℕ) → j + 1 < next → KeepsNoneAt old j) → ((j : ℕ) → KeepsNoneAt old j → KeepsNoneAt new j) → KeepsNoneAt new (next - 1) → (j : ℕ) → j + 1 < next + 1 → KeepsNoneAt new j
none_upto old new next each stays here j lt = by (cases_eq (j + 1) next) where
  by : (j + 1 ≡ next) ⊎ (j + 1 ≢ next) → KeepsNoneAt new j
  by (inl e) = subst (λ (k : ℕ). KeepsNoneAt new k) (place e) here where
    place : j + 1 ≡ next → next - 1 ≡ j
    place e = omega (arith, e)
  by (inr ne) = stays j (each j (omega (arith, lt, ne)))

-- a client that is flushed, of clients that are idle
module _ (old mid new : SeenNodes) (i : ℕ) (f : Flushes old mid i) (idle : AllIdle old) (l : LeavesRest mid new) (rests : IsIdleAt new i) where
  abbrev flushed : SeenClient
  flushed = record (unready f.client) { task = new_task Finish }

  clients_are : mid.clients ≡ slice_set old.clients i flushed
  clients_are = ap (λ (n : SeenNodes). n.clients) f.new_is

  -- the others are as they were
  other_so : (P : SeenClient → Type 0) (j : ℕ) → j ≢ i → ((c : SeenClient) → IsClient old j c → P c) → (c : SeenClient) → IsClient mid j c → P c
  other_so P j ne was = set_at P old mid i f.client flushed f.is clients_are j (λ same. absurd (ne same)) (λ _. was)

  finishes_there : FinishesAt mid i
  finishes_there =
      set_at Finishes old mid i f.client flushed f.is clients_are i
      (λ _. record { none_queued = (idle_rests f.client (idle i f.client f.is)).1; ends = inl refl }) (λ ne. absurd (ne refl))

  pub all_idle_then : AllIdle new
  all_idle_then j = by (cases_eq j i) where
    by : (j ≡ i) ⊎ (j ≢ i) → IsIdleAt new j
    by (inl same) = subst (λ (k : ℕ). IsIdleAt new k) (sym same) rests
    by (inr ne) = l.idle j (other_so (λ (d : SeenClient). kind_of d ≡ kind.Idle) j ne (idle j))

  pub none_kept_here : KeepsNoneAt new i
  none_kept_here c is = idle_keeps_none c (idle_rests c (rests c is)).0 (l.finishes i finishes_there c is)

  pub none_kept_there : (j : ℕ) → KeepsNoneAt old j → KeepsNoneAt new j
  none_kept_there j none = by (cases_eq j i) where
    by : (j ≡ i) ⊎ (j ≢ i) → KeepsNoneAt new j
    by (inl same) = subst (λ (k : ℕ). KeepsNoneAt new k) (sym same) none_kept_here
    by (inr ne) =
        l.none_kept j (other_so (λ (d : SeenClient). kind_of d ≡ kind.Idle) j ne (idle j))
        (other_so (λ (d : SeenClient). d.kept ≡ []) j ne none)

  pub same_count : length mid.clients ≡ length old.clients
  same_count = ap (λ (cs : List SeenClient). length cs) clients_are ∙ set_length old.clients i flushed

-- the kind of an idle client's next step
pub idle_kind : (n : SeenNodes) (client : ℕ) → 1 ≤ client → client ≤ length n.clients → AllIdle n → kind_at n (client - 1) ≡ Some kind.Idle
idle_kind n client low high idle = idle_seen n (client - 1) (omega (arith, low, high)) (idle (client - 1))
