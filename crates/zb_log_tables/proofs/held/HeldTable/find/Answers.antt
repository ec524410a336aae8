use Rattle.std.proofs.Common.{◌≡◌, ◌<◌, length, get_or, Some, sym, ap, ◌∙◌, subst}
use Rattle.zb_types.specs.declared.tables.HeldUse.{HeldUse}
use Rattle.zb_tables.specs.Tables.{is_of}
use Rattle.zb_log_tables.specs.HeldStripes.{SeenHeld, IsPlace}
use Rattle.zb_log_tables.proofs.Stripes.{rising_from, place_of, found_there, absent_there, not_at}
use Rattle.zb_log_tables.proofs.held.HeldTable.find.Goals as goal

pub returns-then-not-is_at : goal.returns-then-not-is_at
returns-then-not-is_at c =
    let hs = c.self.inside.stripes.items in
    rw (← c.self.view_is) (sym (absent_there c.args.log c.args.stripe hs c.place-i.result (rising_from hs c.self.invariant) (place_of hs c.args.log c.args.stripe c.place-i.result (subst (λ (s : SeenHeld). IsPlace s.stripes c.args.log c.args.stripe c.place-i.result) (sym c.self.view_is) c.place-i.ensures.place))
    (not_at c.args.log c.args.stripe hs c.place-i.result c.is_at.result (subst (λ (s : SeenHeld). (d : HeldUse) → c.place-i.result < length s.stripes → c.is_at.result ≡ is_of c.args.log c.args.stripe (get_or s.stripes c.place-i.result d)) (sym c.self.view_is) c.is_at.ensures.is) c.if-not-is_at.true)))

pub returns : goal.returns
returns c =
    let hs = c.self.inside.stripes.items in
    let lt : c.place-i.result < length hs = subst (λ (s : SeenHeld). c.place-i.result < length s.stripes) (sym c.self.view_is) (c.is_at.ensures.there c.if-not-is_at.false) in
    rw (← c.self.view_is) (sym (found_there c.args.log c.args.stripe hs c.place-i.result c.index.result.now lt (place_of hs c.args.log c.args.stripe c.place-i.result (subst (λ (s : SeenHeld). IsPlace s.stripes c.args.log c.args.stripe c.place-i.result) (sym c.self.view_is) c.place-i.ensures.place))
    (sym ((subst (λ (s : SeenHeld). (d : HeldUse) → c.place-i.result < length s.stripes → c.is_at.result ≡ is_of c.args.log c.args.stripe (get_or s.stripes c.place-i.result d)) (sym c.self.view_is) c.is_at.ensures.is) c.index.result.now lt) ∙ c.if-not-is_at.false) ∙ ap Some (sym c.index.ensures)))
