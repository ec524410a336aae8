use Rattle.std.proofs.Common.{ap, sym, ◌∙◌}
use Rattle.zb_outside.proofs.Runs.{run_spares, others_then}
use Rattle.zb_fragstore.specs.Seen.{SeenStore}
use Rattle.zb_fragstore.proofs.store.FragStore.append_at_spot.Goals.{then-place-spot-via-then-place-spot, then-place-spot-via-else-place-spot+then-not-is_share}
use Rattle.zb_fragstore.proofs.Answered.{looked_ok, StandsClause, stands_is, answer_kept, kept_told, answer_misplaced, answer_put, put_fits, put_told, stopped_told}
use Rattle.zb_fragstore.proofs.Looked.{then_refused}
use Rattle.zb_fragstore.proofs.store.FragStore.append_at_spot.Goals as goal

pub returns-in_err-or_stopped-clause-told : goal.returns-in_err-or_stopped-clause-told
returns-in_err-or_stopped-clause-told g c tells is_open =
    stopped_told _ _ _ _ _ _ _ c.from_residual.ensures.0 (rw c.platter.ensures at (c.stands_at-stands.ensures.told tells)) is_open

pub returns-then-branch-clause-answer : goal.returns-then-branch-clause-answer
returns-then-branch-clause-answer g c tells is_open =
    answer_kept _ (g.B.Bay.meaning c.args.bay.now) _ _ _ _ is_open c.requires.there _ (stands_is _ (g.B.Bay.meaning c.args.bay.now) _ _ _ _ is_open c.requires.there c.self.inside.geo c.platter.result _ (ap (λ (s : SeenStore). s.geo) c.self.view_is) c.platter.ensures
    (looked_ok (StandsClause (g.B.Bay.meaning c.args.bay.now) c.args.spot.slot c.args.spot.len c.args.place c.args.bytes.now c.self.inside.geo c.platter.result) _ _ _
    c.or_stopped.ensures c.in_ok-or_stopped.was (c.stands_at-stands.ensures.stands tells))) tt c.if-branch.true

pub returns-then-branch-clause-told : goal.returns-then-branch-clause-told
returns-then-branch-clause-told g c tells is_open =
    kept_told _ (g.B.Bay.meaning c.args.bay.now) _ _ _ _ is_open c.requires.there _ (stands_is _ (g.B.Bay.meaning c.args.bay.now) _ _ _ _ is_open c.requires.there c.self.inside.geo c.platter.result _ (ap (λ (s : SeenStore). s.geo) c.self.view_is) c.platter.ensures
    (looked_ok (StandsClause (g.B.Bay.meaning c.args.bay.now) c.args.spot.slot c.args.spot.len c.args.place c.args.bytes.now c.self.inside.geo c.platter.result) _ _ _
    c.or_stopped.ensures c.in_ok-or_stopped.was (c.stands_at-stands.ensures.stands tells))) tt _ c.if-branch.true (rw c.platter.ensures at (c.stands_at-stands.ensures.told tells))

pub returns-then-place-spot-clause-answer : goal.returns-then-place-spot-clause-answer
returns-then-place-spot-clause-answer g c tells is_open =
    answer_misplaced _ (g.B.Bay.meaning c.args.bay.now) _ _ _ _ is_open c.requires.there _ (stands_is _ (g.B.Bay.meaning c.args.bay.now) _ _ _ _ is_open c.requires.there c.self.inside.geo c.platter.result _ (ap (λ (s : SeenStore). s.geo) c.self.view_is) c.platter.ensures
    (looked_ok (StandsClause (g.B.Bay.meaning c.args.bay.now) c.args.spot.slot c.args.spot.len c.args.place c.args.bytes.now c.self.inside.geo c.platter.result) _ _ _
    c.or_stopped.ensures c.in_ok-or_stopped.was (c.stands_at-stands.ensures.stands tells))) c.if-branch.false
    (elim c.then-place-spot.branch [
      | then-place-spot-via-then-place-spot w ↦ λ share. w.if-place-spot.true
      | then-place-spot-via-else-place-spot+then-not-is_share w ↦ λ share end. absurd (cc (w.if-not-is_share.ensures ∙ share))
    ])

pub returns-then-place-spot-clause-told : goal.returns-then-place-spot-clause-told
returns-then-place-spot-clause-told g c tells is_open = then_refused _ _ _ (rw c.platter.ensures at (c.stands_at-stands.ensures.told tells)) is_open _ _

pub returns-clause-answer : goal.returns-clause-answer
returns-clause-answer g c tells is_open = answer_put _ (g.B.Bay.meaning c.args.bay.now) _ _ _ _ is_open c.requires.there _ (sym c.is_share.ensures ∙ c.if-not-is_share.false) c.if-place-spot.false c.put_behind.ensures.answer

pub returns-clause-told : goal.returns-clause-told
returns-clause-told g c tells is_open =
    put_told _ (g.B.Bay.meaning c.args.bay.now) _ _ _ _ is_open c.requires.there _ _ _ _ c.if-place-spot.false (rw c.platter.ensures at (c.stands_at-stands.ensures.told tells)) (c.put_behind.ensures.told tells)

pub returns-in_err-or_stopped-clause-looked : goal.returns-in_err-or_stopped-clause-looked
returns-in_err-or_stopped-clause-looked g c tells is_open fragment holds fault some = rw c.platter.ensures at (c.stands_at-stands.ensures.told tells)

pub returns-then-branch-clause-looked : goal.returns-then-branch-clause-looked
returns-then-branch-clause-looked g c tells is_open fragment holds fault some = rw c.platter.ensures at (c.stands_at-stands.ensures.told tells)

pub returns-then-place-spot-clause-looked : goal.returns-then-place-spot-clause-looked
returns-then-place-spot-clause-looked g c tells is_open fragment holds fault some = rw c.platter.ensures at (c.stands_at-stands.ensures.told tells)

pub returns-clause-looked : goal.returns-clause-looked
returns-clause-looked g c tells is_open fragment holds fault some =
    absurd (put_fits _ (g.B.Bay.meaning c.args.bay.now) _ _ _ _ is_open c.requires.there ⊥ (sym c.is_share.ensures ∙ c.if-not-is_share.false) c.if-place-spot.false fragment holds fault some)

pub returns-clause-others : goal.returns-clause-others
returns-clause-others g c tells =
    let looked = rw c.platter.ensures at (c.stands_at-stands.ensures.told tells) in
    others_then (run_spares looked.run) (c.put_behind.ensures.others tells)
