use Rattle.std.proofs.Common.{◌≡◌, ◌<◌, length, get_or, sym, ◌∙◌, subst}
use Rattle.zb_types.specs.declared.tables.HeldUse.{HeldUse}
use Rattle.zb_tables.specs.Tables.{is_of}
use Rattle.zb_tables.specs.Fold.{retired}
use Rattle.zb_log_tables.specs.HeldStripes.{SeenHeld, IsPlace, IsInOrder}
use Rattle.zb_log_tables.proofs.Stripes.{rising_from, order_from, rising_filter, place_of, absent_there, not_at, remove_retires, absent_retired}
use Rattle.zb_log_tables.proofs.held.HeldTable.retire.Goals as goal

pub invariant_of-self : goal.invariant_of-self
invariant_of-self c =
    let hs = c.self.inside.stripes.items in
    let rising = rising_from hs c.self.invariant in
    let lt : c.place-i.result < length hs = subst (λ (s : SeenHeld). c.place-i.result < length s.stripes) (sym c.self.view_is) (c.is_at.ensures.there c.if-is_at.true) in
    let now = c.remove.ensures.items ∙ remove_retires c.args.log c.args.stripe hs c.place-i.result c.remove.result rising lt (place_of hs c.args.log c.args.stripe c.place-i.result (subst (λ (s : SeenHeld). IsPlace s.stripes c.args.log c.args.stripe c.place-i.result) (sym c.self.view_is) c.place-i.ensures.place))
    (sym ((subst (λ (s : SeenHeld). (d : HeldUse) → c.place-i.result < length s.stripes → c.is_at.result ≡ is_of c.args.log c.args.stripe (get_or s.stripes c.place-i.result d)) (sym c.self.view_is) c.is_at.ensures.is) c.remove.result lt) ∙ c.if-is_at.true) in
    subst IsInOrder (sym now) (order_from (retired c.args.log c.args.stripe hs) (rising_filter _ hs rising))

pub returns-then-is_at-clause-stripes : goal.returns-then-is_at-clause-stripes
returns-then-is_at-clause-stripes c =
    let hs = c.self.inside.stripes.items in
    let rising = rising_from hs c.self.invariant in
    let lt : c.place-i.result < length hs = subst (λ (s : SeenHeld). c.place-i.result < length s.stripes) (sym c.self.view_is) (c.is_at.ensures.there c.if-is_at.true) in
    rw (← c.self.view_is) (c.remove.ensures.items ∙ remove_retires c.args.log c.args.stripe hs c.place-i.result c.remove.result rising lt (place_of hs c.args.log c.args.stripe c.place-i.result (subst (λ (s : SeenHeld). IsPlace s.stripes c.args.log c.args.stripe c.place-i.result) (sym c.self.view_is) c.place-i.ensures.place))
    (sym ((subst (λ (s : SeenHeld). (d : HeldUse) → c.place-i.result < length s.stripes → c.is_at.result ≡ is_of c.args.log c.args.stripe (get_or s.stripes c.place-i.result d)) (sym c.self.view_is) c.is_at.ensures.is) c.remove.result lt) ∙ c.if-is_at.true))

pub returns-else-is_at-clause-stripes : goal.returns-else-is_at-clause-stripes
returns-else-is_at-clause-stripes c =
    let hs = c.self.inside.stripes.items in
    rw (← c.self.view_is) (sym (absent_retired c.args.log c.args.stripe hs (absent_there c.args.log c.args.stripe hs c.place-i.result (rising_from hs c.self.invariant) (place_of hs c.args.log c.args.stripe c.place-i.result (subst (λ (s : SeenHeld). IsPlace s.stripes c.args.log c.args.stripe c.place-i.result) (sym c.self.view_is) c.place-i.ensures.place))
    (not_at c.args.log c.args.stripe hs c.place-i.result c.is_at.result (subst (λ (s : SeenHeld). (d : HeldUse) → c.place-i.result < length s.stripes → c.is_at.result ≡ is_of c.args.log c.args.stripe (get_or s.stripes c.place-i.result d)) (sym c.self.view_is) c.is_at.ensures.is) c.if-is_at.false))))
