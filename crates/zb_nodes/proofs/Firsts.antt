-- The first nodes of a system.
use Rattle.std.proofs.Common.{◌≡◌, ℕ, zero, suc, ◌+◌, ◌<◌, ◌≤◌, List, [], ◌∷◌, ◌++◌, length, Some, None, refl, sym, ap, ◌∙◌, subst, inl, inr, add-one, arith}
use Rattle.std.specs.Prelude.{◌⊎◌, replicate, slice_get}
use Rattle.std.proofs.lemmas.List.{length-append}
use Rattle.zb_types.specs.declared.geometry.Geometry.{Geometry}
use Rattle.zb_types.specs.declared.ids.LogId.{LogId}
use Rattle.zb_types.specs.Limits.{InLimits}
use Rattle.zb_types.specs.Names.{last_number}
use Rattle.zb_tables.specs.Fold.{attached}
use Rattle.zb_tables.specs.Tables.{Tables}
use Rattle.zb_tables.specs.Taking.{Sizes}
use Rattle.zb_manager.specs.Managers.{SeenManager, sizes_of}
use Rattle.zb_servers.specs.Standing.{SeenServers, empty_server}
use Rattle.zb_client.specs.Seen.{SeenClient, first_client}
use Rattle.zb_system.specs.First.{AreFirst, all_attached, attached_to, log}
use Rattle.zb_nodes.specs.Among.{nodes}
use Rattle.zb_nodes.proofs.Places.{at_end}

-- the next log, once so many clients have theirs
next_of : (n : ℕ) → (attached_to n).next_log ≡ n + 1
next_of zero = refl
next_of (suc n) = omega (arith, next_of n)

-- the clients so far are the first ones
abbrev pub AreFirstClients : (servers fragment block : ℕ) → List SeenClient → Type 0
AreFirstClients servers fragment block clients = (i : ℕ) (c : SeenClient) → slice_get clients i ≡ Some c → c ≡ first_client servers fragment block (i + 1) (log (i + 1))

-- so many clients have their logs
pub record StandFirst (geo : Geometry) (m : SeenManager) (clients : List SeenClient) (n : ℕ) : Type 0 where
  pub tables : m.tables ≡ attached_to n
  pub sizes : m.sizes ≡ sizes_of geo
  pub holder : m.holder ≡ None
  pub count : length clients ≡ n
  pub are : AreFirstClients geo.servers geo.fragment geo.block clients

module _ (geo : Geometry) (m : SeenManager) (clients : List SeenClient) (n : ℕ) (s : StandFirst geo m clients n) where
  next_is : m.tables.next_log ≡ n + 1
  next_is = ap (λ (t : Tables). t.next_log) s.tables ∙ next_of n

  -- there is a log left
  pub next_small : n ≤ geo.clients → m.tables.next_log < last_number
  next_small few = let next = next_is in let high = geo.limits.clients_high in omega (arith, next, high, few)

  module _ (after : SeenManager) (given : LogId) (is_next : given.0 ≡ m.tables.next_log) (sizes : after.sizes ≡ m.sizes) (holder : after.holder ≡ m.holder) where
    log_is : given ≡ log (n + 1)
    log_is = λ i. record { 0 = (is_next ∙ next_is) i }

    -- one client more has its log
    pub one_more : (number : ℕ) (made : SeenClient) (all : List SeenClient) → number ≡ n + 1 → after.tables ≡ attached m.tables number given → made ≡ first_client geo.servers geo.fragment geo.block number given → all ≡ clients ++ made ∷ []
        → StandFirst geo after all (n + 1)
    one_more number made all is tables made_is all_is = record {
      tables = tables ∙ (λ i. attached (s.tables i) (is i) (log_is i)) ∙ ap attached_to (sym (add-one n));
      sizes = sizes ∙ s.sizes;
      holder = holder ∙ s.holder;
      count = let count = s.count in ap (length {A = SeenClient}) all_is ∙ length-append clients (made ∷ []) ∙ omega (arith, count);
      are = subst (AreFirstClients geo.servers geo.fragment geo.block) (sym all_is) (λ i c at. by i c (at_end clients made i c at));
    }
      where
        by : (i : ℕ) (c : SeenClient) → (slice_get clients i ≡ Some c) ⊎ ((i ≡ length clients) × (c ≡ made)) → c ≡ first_client geo.servers geo.fragment geo.block (i + 1) (log (i + 1))
        by i c (inl there) = s.are i c there
        by i c (inr last) =
            let place : n ≡ i = sym s.count ∙ sym last.0 in
            last.1 ∙ made_is ∙ (λ j. first_client geo.servers geo.fragment geo.block (is j) (log_is j)) ∙ ap (λ (k : ℕ). first_client geo.servers geo.fragment geo.block (k + 1) (log (k + 1))) place

    -- the cleaner has the next log: these are the first nodes
    pub first_nodes : (servers : SeenServers) → n ≡ geo.clients → after.tables ≡ attached m.tables 0 given → servers.slots ≡ geo.slots → servers.servers ≡ replicate geo.servers empty_server → AreFirst (nodes clients after servers)
    first_nodes servers all tables slots empty =
        let same : after.sizes ≡ sizes_of geo = sizes ∙ s.sizes in
        record {
          limits = subst (λ (z : Sizes). InLimits z.servers z.clients z.fragment z.block servers.slots) (sym same) (subst (InLimits geo.servers geo.clients geo.fragment geo.block) (sym slots) geo.limits);
          servers = empty ∙ ap (λ (z : Sizes). replicate z.servers empty_server) (sym same);
          tables = tables ∙ (λ i. attached (s.tables i) 0 (log_is i)) ∙ ap all_attached (all ∙ ap (λ (z : Sizes). z.clients) (sym same));
          holder = holder ∙ s.holder;
          count = s.count ∙ all ∙ ap (λ (z : Sizes). z.clients) (sym same);
          clients = λ i c at. s.are i c at ∙ ap (λ (z : Sizes). first_client z.servers z.fragment z.block (i + 1) (log (i + 1))) (sym same);
        }
