use Rattle.std.proofs.Common.{◌≡◌, ℕ, Some, sym, ap, ◌∙◌, subst}
use Rattle.std.specs.Prelude.{if◌then◌else◌}
use Rattle.std.proofs.lemmas.Result.{on_ok_weaker}
use Rattle.zb_types.specs.Keyed.{look}
use Rattle.zb_delta.specs.declared.delta.Body.{Body}
use Rattle.zb_tables.specs.Fold.{is_movable}
use Rattle.zb_manager.specs.declared.cleaning.Cleaning.{Cleaning}
use Rattle.zb_manager.specs.Cleanings.{is_place, place_in}
use Rattle.zb_manager.proofs.Carrying.{takes_one}
use Rattle.zb_manager.proofs.cleaning.Cleaning.take.Goals as goal

pub returns : goal.returns
returns c now leads =
    let old = c.args.self.now in
    let new : Cleaning = record { places = c.put_place.new.places; moves = c.push.new.self } in
    let body = c.body_of-body.ensures in
    let movable = sym (ap (λ (b : Body). is_movable b (look b.fid.0 now)) body) ∙ sym (c.is_movable.ensures now leads) ∙ c.if-not-is_movable.false in
    let places = subst (λ (b : Body). (q : ℕ × ℕ) → place_in c.put_place.new.places.entries q ≡ (if is_place (b.fid.0, b.block) q then Some b.now else place_in old.places.entries q)) body
    c.in_ok-put_place.ensures in
    on_ok_weaker c.push.result (λ moves. takes_one old new c.args.pointers.now.files now c.args.delta.now leads movable places moves) c.push.ensures.ok
