use Rattle.std.proofs.Common.{ℕ, ◌*◌, true, false, List, length, refl, ap, subst, arith}
use Rattle.zb_outside.specs.Counts.{Touches}
use Rattle.zb_outside.specs.Runs.{SparesOthers}
use Rattle.zb_outside.proofs.Runs.{run_spares, others_then}
use Rattle.zb_outside.proofs.Touching.{touches_then, touches_less}
use Rattle.zb_fragstore.specs.Opening.{IsUnfit}
use Rattle.zb_slots.proofs.Leaving.{left_by_held}
use Rattle.zb_fragstore.proofs.Opened.{passed, held_run, on_err, unfit_by, left_alone, alone_run, good_by, free_run, opened_by}
use Rattle.zb_fragstore.proofs.store.FragStore.open.Goals as goal

pub returns-in_err-fence-clause-told : goal.returns-in_err-fence-clause-told
returns-in_err-fence-clause-told g c tells settled large = held_run c.args.geo.now c.args.server.0 _ _ settled (c.fence_of.ensures.told tells)

pub returns-in_err-built-clause-unfit : goal.returns-in_err-built-clause-unfit
returns-in_err-built-clause-unfit g c tells =
    passed (IsUnfit c.args.geo.now c.args.server ((g.B.Bay.meaning c.args.bay.now).now.seen c.args.server.0)) c.from_residual-in_err-built.result c.in_err-built.field-0.0 c.from_residual-in_err-built.ensures.1
    (unfit_by c.args.geo.now c.args.server c.in_ok-fence.fence c.from-platter.result _ _ (c.fence_of.ensures.told tells) (c.in_ok-fence.ensures.found tells) c.from-platter.ensures c.in_err-built.field-0.0 (c.in_err-built.ensures.fault tells))

pub returns-in_err-fence-clause-looked : goal.returns-in_err-fence-clause-looked
returns-in_err-fence-clause-looked g c tells = on_err c.from_residual.result (λ fault _. left_by_held (c.fence_of.ensures.told tells))

pub returns-in_err-built-clause-looked : goal.returns-in_err-built-clause-looked
returns-in_err-built-clause-looked g c tells =
    on_err c.from_residual-in_err-built.result (λ fault _. left_alone c.args.geo.now c.args.server c.in_ok-fence.fence c.from-platter.result _ _ (c.fence_of.ensures.told tells) (c.in_ok-fence.ensures.found tells) c.from-platter.ensures _ (c.read_index.ensures.told tells))

pub returns-in_err-built-clause-told : goal.returns-in_err-built-clause-told
returns-in_err-built-clause-told g c tells settled large =
    alone_run c.args.geo.now c.args.server c.in_ok-fence.fence c.from-platter.result _ _ (c.fence_of.ensures.told tells) (c.in_ok-fence.ensures.found tells) c.from-platter.ensures _ settled (c.read_index.ensures.told tells)

pub returns-in_err-free_older-clause-told : goal.returns-in_err-free_older-clause-told
returns-in_err-free_older-clause-told g c tells settled large =
    free_run c.args.geo.now c.args.server c.in_ok-fence.fence c.from-platter.result _ _ (c.fence_of.ensures.told tells) (c.in_ok-fence.ensures.found tells) c.from-platter.ensures
    _ _ (c.in_ok-built.ensures.built tells) _ _ _ c.slice.ensures (c.read_index.ensures.told tells) settled large _ (c.free_older.ensures.told tells)

pub returns-clause-good : goal.returns-clause-good
returns-clause-good g c tells =
    good_by c.args.geo.now c.args.server c.in_ok-fence.fence c.from-platter.result _ _ (c.fence_of.ensures.told tells) (c.in_ok-fence.ensures.found tells) c.from-platter.ensures
    _ _ (c.in_ok-built.ensures.built tells) _ refl c.in_ok-fence.ensures.fits

pub returns-clause-told : goal.returns-clause-told
returns-clause-told g c tells settled large =
    free_run c.args.geo.now c.args.server c.in_ok-fence.fence c.from-platter.result _ _ (c.fence_of.ensures.told tells) (c.in_ok-fence.ensures.found tells) c.from-platter.ensures
    _ _ (c.in_ok-built.ensures.built tells) _ _ _ c.slice.ensures (c.read_index.ensures.told tells) settled large _ (c.free_older.ensures.told tells)

pub returns-clause-is_open : goal.returns-clause-is_open
returns-clause-is_open g c tells settled large =
    opened_by c.args.geo.now c.args.server c.in_ok-fence.fence c.from-platter.result _ _ (c.fence_of.ensures.told tells) (c.in_ok-fence.ensures.found tells) c.from-platter.ensures
    _ _ (c.in_ok-built.ensures.built tells) _ _ _ c.slice.ensures (c.read_index.ensures.told tells) settled large _ (c.in_ok-free_older.ensures.told tells)

pub returns-in_err-free_older-clause-touches : goal.returns-in_err-free_older-clause-touches
returns-in_err-free_older-clause-touches g c =
    let leads = g.met.B.Bay.follows_then in
    let here = subst (λ (q : ℕ). Touches g.B.Bay.counts g.B.Bay.follows q (3 * length c.slice.result.now) true c.read_index.new.bay c.free_older.new.bay) c.from-platter.ensures c.in_err-free_older.ensures.touches in
    let read = subst (λ (q : ℕ). Touches g.B.Bay.counts g.B.Bay.follows q 0 false c.fence_of.new.bay c.read_index.new.bay) c.from-platter.ensures c.in_ok-built.ensures.touches in
    touches_less g.B.Bay.counts g.B.Bay.follows (omega (arith, ap (λ (l : List ℕ). length l) c.slice.ensures, c.in_ok-built.ensures.few)) (λ _. refl)
    (touches_then g.B.Bay.counts g.B.Bay.follows leads (touches_then g.B.Bay.counts g.B.Bay.follows leads c.in_ok-fence.ensures.touches read) here)

pub returns-clause-touches : goal.returns-clause-touches
returns-clause-touches g c =
    let leads = g.met.B.Bay.follows_then in
    let here = subst (λ (q : ℕ). Touches g.B.Bay.counts g.B.Bay.follows q (3 * length c.slice.result.now) false c.read_index.new.bay c.free_older.new.bay) c.from-platter.ensures c.in_ok-free_older.ensures.touches in
    let read = subst (λ (q : ℕ). Touches g.B.Bay.counts g.B.Bay.follows q 0 false c.fence_of.new.bay c.read_index.new.bay) c.from-platter.ensures c.in_ok-built.ensures.touches in
    touches_less g.B.Bay.counts g.B.Bay.follows (omega (arith, ap (λ (l : List ℕ). length l) c.slice.ensures, c.in_ok-built.ensures.few)) (λ h. h)
    (touches_then g.B.Bay.counts g.B.Bay.follows leads (touches_then g.B.Bay.counts g.B.Bay.follows leads c.in_ok-fence.ensures.touches read) here)

pub returns-in_err-free_older-clause-others : goal.returns-in_err-free_older-clause-others
returns-in_err-free_older-clause-others g c tells =
    let looked = left_alone c.args.geo.now c.args.server c.in_ok-fence.fence c.from-platter.result _ _ (c.fence_of.ensures.told tells) (c.in_ok-fence.ensures.found tells) c.from-platter.ensures _ (c.read_index.ensures.told tells) in
    others_then (run_spares looked.run) (subst (λ (q : ℕ). SparesOthers q (g.B.Bay.meaning c.read_index.new.bay) (g.B.Bay.meaning c.free_older.new.bay)) c.from-platter.ensures (c.free_older.ensures.others tells))

pub returns-clause-others : goal.returns-clause-others
returns-clause-others g c tells =
    let looked = left_alone c.args.geo.now c.args.server c.in_ok-fence.fence c.from-platter.result _ _ (c.fence_of.ensures.told tells) (c.in_ok-fence.ensures.found tells) c.from-platter.ensures _ (c.read_index.ensures.told tells) in
    others_then (run_spares looked.run) (subst (λ (q : ℕ). SparesOthers q (g.B.Bay.meaning c.read_index.new.bay) (g.B.Bay.meaning c.free_older.new.bay)) c.from-platter.ensures (c.free_older.ensures.others tells))
