-- A batch that is formed goes next in its client's log.
use Rattle.std.proofs.Common.{◌≡◌, ℕ, zero, suc, ◌+◌, ◌-◌, ◌*◌, ◌%◌, ltb, ◌<◌, ◌≤◌, ◌&&◌, true, eqb, List, Option, Some, None, refl, sym, ap, ◌∙◌, subst, arith, inl, inr}
use native.Mathlib.Nat.{mod-eq_of_lt}
use Rattle.std.specs.Prelude.{All}
use Rattle.std.proofs.lemmas.Bool.{and_from, cases_Bool, cond-true, eq-eqb, ltb-true, ltb-false}
use Rattle.zb_types.specs.declared.geometry.Geometry.{Geometry}
use Rattle.zb_types.specs.declared.lines.Outcome.{Outcome}
use Rattle.zb_types.specs.declared.nodes.Members.{Members}
use Rattle.zb_types.specs.Apply.{is_update}
use Rattle.zb_types.specs.Limits.{InLimits}
use Rattle.zb_log.specs.Logs.{SeenLog}
use Rattle.zb_given.specs.Given.{Given}
use Rattle.zb_tables.specs.Taking.{Sizes}
use Rattle.zb_manager.specs.Managers.{sizes_of}
use Rattle.zb_basis.specs.declared.basis.Basis.{Basis}
use Rattle.zb_basis.specs.declared.calls.Numbered.{Numbered}
use Rattle.zb_basis.specs.Forming.{log_from}
use Rattle.zb_work.specs.declared.work.Flushed.{Flushed}
use Rattle.zb_work.specs.declared.work.Step.{Step}
use Rattle.zb_work.specs.declared.work.Step.TheVariants.{Store}
use Rattle.zb_work.specs.declared.work.Task.{Task}
use Rattle.zb_work.specs.Steps.{first_members, step_of, with_step}
use Rattle.zb_client.specs.Hearing.{Forms, behind, log_for}
use Rattle.zb_client.specs.Seen.{SeenClient}
use Rattle.zb_client.specs.Telling.{Heard}
use Rattle.zb_client_laws.specs.Known.{IsKnown}
use Rattle.zb_client_laws.specs.Sound.{ClientIsSound, StepIsCurrent}
use Rattle.zb_system.specs.Nodes.{IsClient, SeenNodes}
use Rattle.zb_system.specs.Looking.{tree_for}
use Rattle.zb_system.specs.Sound.{AreSound}
use Rattle.zb_system.proofs.Quiet.{World}
use Rattle.zb_ample.specs.Reaching.{IsPaid, LogGoesOn}
use Rattle.zb_ample.proofs.Moving.{Moves, forms_moves}
use Rattle.zb_ample.proofs.Resting.{HasEnded, is_resting, resting_ended}

-- a flush that has reached its end in this generation has nothing to be gone behind
none_behind : (generation of : ℕ) (flushed : Option Flushed) → of ≡ generation → HasEnded generation flushed → behind flushed of ≡ None
none_behind generation of None e ended = refl
none_behind generation of (Some last) e ended =
    cond-true (last.ended && eqb last.generation of) None (Some last.stripe) (and_from last.ended (eqb last.generation of) ended.0 (eq-eqb last.generation of (ended.1 ∙ sym e)))

-- ---- a block has room in a stripe

times_more : (n f : ℕ) → 1 ≤ n → f ≤ n * f
times_more zero f some = absurd (omega (arith, some))
times_more (suc k) f some = let e : suc k * f ≡ f + k * f = grind arith in omega (arith, e)

block_fits : (fragment block : ℕ) → 0 < fragment → fragment % block ≡ 0 → block ≤ fragment
block_fits fragment block some whole = elim (cases_Bool (ltb fragment block)) [
  | inl less ↦ let same = mod-eq_of_lt (ltb-true fragment block less) in absurd (omega (arith, same, whole, some))
  | inr most ↦ ltb-false fragment block most
]

pub room_fits : (servers clients fragment block slots : ℕ) → InLimits servers clients fragment block slots → (0 < (servers - 1) * fragment) × (block ≤ (servers - 1) * fragment)
room_fits servers clients fragment block slots l =
    let few = l.servers_low in
    let long = l.fragment_low in
    let times = times_more (servers - 1) fragment (omega (arith, few)) in
    let fits = block_fits fragment block (omega (arith, long)) l.whole in
    (omega (arith, times, long), omega (arith, times, fits))

module _ {given : Given} {lines : List Outcome} {new : SeenNodes} (s : AreSound given lines new) (i : ℕ) (d : SeenClient) (is : IsClient new i d)
    (geo : Geometry) (sizes : new.manager.sizes ≡ sizes_of geo) (c : SeenClient) (known : IsKnown c) (room : c.log.room ≡ (geo.servers - 1) * geo.fragment) (size : c.block ≡ geo.block)
    (goes : LogGoesOn new.manager.tables.members.generation c.flushed (step_of c.task)) (paid : IsPaid geo given c) (rests : is_resting (step_of c.task) ≡ true) where
  abbrev S : ClientIsSound (World s i d is) (tree_for given lines (s.reads i)) d
  S = (s.clients i d is).0

  abbrev L : InLimits new.manager.sizes.servers new.manager.sizes.clients new.manager.sizes.fragment new.manager.sizes.block new.servers.slots
  L = s.stands.limits

  module _ (task : Task) (heard : Heard) (d_is : d ≡ heard.client) (b : SeenClient) (log : b.log ≡ c.log) (flushed : b.flushed ≡ c.flushed) (kept : b.kept ≡ c.kept) (queue : b.queue ≡ c.queue) (client : b.client ≡ c.client)
      (work : b.task ≡ Some task) (basis : Basis) (f : Forms b basis heard) where
    of_heard : {A : Type 0} (part : SeenClient → A) → part d ≡ part heard.client
    of_heard part = ap part d_is

    e : step_of d.task ≡ Store basis f.formed
    e = of_heard (λ x. step_of x.task) ∙ ap (λ (h : Heard). step_of h.client.task) f.is ∙ ap (λ (t : Option Task). step_of (with_step (Store basis f.formed) t)) work

    -- its lookup showed the members of the tables
    members : first_members basis.found ≡ new.manager.tables.members
    members = (subst (λ (st : Step). StepIsCurrent (World s i d is) (tree_for given lines (s.reads i)) d st) e S.step).0.rests.members

    goes_next : log_for b basis ≡ c.log
    goes_next =
        ap (λ (o : Option ℕ). log_from b.log o)
        (ap (λ (fl : Option Flushed). behind fl (first_members basis.found).generation) flushed
        ∙ none_behind new.manager.tables.members.generation (first_members basis.found).generation c.flushed (ap (λ (m : Members). m.generation) members)
        (resting_ended new.manager.tables.members.generation c.flushed (step_of c.task) rests goes))
        ∙ log

    log_is : d.log ≡ c.log
    log_is = of_heard (λ x. x.log) ∙ ap (λ (h : Heard). h.client.log) f.is ∙ goes_next

    block_is : d.block ≡ geo.block
    block_is = S.sizes.block ∙ ap (λ (z : Sizes). z.block) sizes

    own_block : d.log.block ≡ d.block
    own_block = ap (λ (l : SeenLog). l.block) log_is ∙ known.log.block ∙ size ∙ sym block_is

    fitting : (0 < d.log.room) × (d.log.block ≤ d.log.room)
    fitting =
        let fits = room_fits new.manager.sizes.servers new.manager.sizes.clients new.manager.sizes.fragment new.manager.sizes.block new.servers.slots L in
        let same : d.log.room ≡ (new.manager.sizes.servers - 1) * new.manager.sizes.fragment = ap (λ (l : SeenLog). l.room) log_is ∙ room ∙ sym (ap (λ (z : Sizes). (z.servers - 1) * z.fragment) sizes) in
        let block : d.log.block ≡ new.manager.sizes.block = own_block ∙ S.sizes.block in
        (let some = fits.0 in omega (arith, some, same), let most = fits.1 in omega (arith, most, same, block))

    kept_is : d.kept ≡ c.kept
    kept_is = of_heard (λ x. x.kept) ∙ ap (λ (h : Heard). h.client.kept) f.is ∙ kept

    pub formed_moves : Moves geo given new.manager.tables.members.generation c d
    formed_moves =
        let low : 64 ≤ new.manager.sizes.block = L.block_low in
        let at_block : d.block ≡ new.manager.sizes.block = S.sizes.block in
        forms_moves geo given new.manager.tables.members.generation c goes paid rests (World s i d is) (tree_for given lines (s.reads i)) d S basis f.formed e
        log_is (of_heard (λ x. x.client) ∙ ap (λ (h : Heard). h.client.client) f.is ∙ client) kept_is (of_heard (λ x. x.queue) ∙ ap (λ (h : Heard). h.client.queue) f.is ∙ queue)
        (sym block_is) (omega (arith, low, at_block)) own_block fitting.0 fitting.1
        (subst (λ (ks : List Numbered). All (λ k. is_update k.call ≡ true) ks) (sym kept_is) known.updates)
