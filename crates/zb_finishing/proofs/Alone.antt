-- One client that has work.
use Rattle.std.proofs.Common.{◌≡◌, ◌≢◌, ℕ, ◌+◌, ◌<◌, List, [], ◌∷◌, length, Option, Some, None, refl, sym, ap, ◌∙◌, arith, inl, inr}
use Rattle.std.specs.Prelude.{◌⊎◌, option_map, slice_get}
use Rattle.std.proofs.lemmas.Bool.{cases_eq}
use Rattle.std.proofs.lemmas.Option.{same_Some, slice_get_within}
use Rattle.zb_types.specs.declared.lines.Kind.{Kind}
use Rattle.zb_types.specs.declared.lines.Kind.TheVariants.{Idle}
use Rattle.zb_turns.specs.Turns.{other_holder}
use Rattle.zb_basis.specs.declared.calls.Numbered.{Numbered}
use Rattle.zb_client.specs.Seen.{SeenClient, kind_of}
use Rattle.zb_system.specs.Nodes.{IsClient, SeenNodes}
use Rattle.zb_ending.specs.Holding.{ClientWorks, HolderWorks}
use Rattle.zb_ending.proofs.Busy.{holder_of, not_idle, own_free}
use Rattle.zb_finishing.specs.Clients.{IsIdleAt, KeepsNoneAt}
use Rattle.zb_finishing.proofs.Asked.{there}

pub alone_free : (n : SeenNodes) (i : ℕ) → HolderWorks n → ((j : ℕ) → j ≢ i → IsIdleAt n j) → other_holder (i + 1) n.manager.holder ≡ None
alone_free n i works idle = by n.manager.holder refl where
  holder : (h : ℕ) → n.manager.holder ≡ Some h → (w : ClientWorks n h) → (w.place ≡ i) ⊎ (w.place ≢ i) → h ≡ i + 1
  holder h e w (inl here) = w.numbered ∙ ap (λ (k : ℕ). k + 1) here
  holder h e w (inr ne) = absurd (not_idle w.client w.works (idle w.place ne w.client w.is))

  by : (o : Option ℕ) → n.manager.holder ≡ o → other_holder (i + 1) n.manager.holder ≡ None
  by None e = ap (other_holder (i + 1)) e
  by (Some h) e =
      let w = holder_of n works h e in
      own_free (i + 1) n.manager.holder (e ∙ ap (λ (k : ℕ). Some k) (holder h e w (cases_eq w.place i)))

-- ---- what is seen of clients

pub seen_idle : (n : SeenNodes) (i : ℕ) → option_map kind_of (slice_get n.clients i) ≡ Some Idle → IsIdleAt n i
seen_idle n i e c is = same_Some (kind_of c) Idle (sym (ap (λ (o : Option SeenClient). option_map kind_of o) is) ∙ e)

pub idle_seen : (n : SeenNodes) (i : ℕ) → i < length n.clients → IsIdleAt n i → option_map kind_of (slice_get n.clients i) ≡ Some Idle
idle_seen n i lt idle = ap (λ (o : Option SeenClient). option_map kind_of o) is ∙ ap (λ (k : Kind). Some k) (idle at.0 is) where
  at : (c : SeenClient) × IsClient n i c
  at = there n.clients i lt

  is : IsClient n i at.0
  is = at.1

pub keeps_none : (n : SeenNodes) (i : ℕ) → ((c : SeenClient) → IsClient n i c → 0 < length c.kept → ⊥) → KeepsNoneAt n i
keeps_none n i none c is = by c.kept (none c is) where
  by : (kept : List Numbered) → (0 < length kept → ⊥) → kept ≡ []
  by [] off = refl
  by (call ∷ rest) off = absurd (off (omega arith))

-- what is so with each client that is there
pub each_place : (P : SeenClient → Type 0) (n : SeenNodes) → ((i : ℕ) → i < length n.clients → (c : SeenClient) → IsClient n i c → P c) → (i : ℕ) (c : SeenClient) → IsClient n i c → P c
each_place P n each i c is = each i (slice_get_within n.clients i c is) c is
