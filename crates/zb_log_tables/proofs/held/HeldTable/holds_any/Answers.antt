use Rattle.std.proofs.Common.{rules, ◌≡◌, ◌<◌, ◌≤◌, length, get_or, sym, ap, ◌∙◌, subst}
use Rattle.std.specs.Prelude.{◌==◌}
use Rattle.zb_types.specs.declared.tables.HeldUse.{HeldUse}
use Rattle.zb_log_tables.specs.HeldStripes.{SeenHeld, IsPlace}
use Rattle.zb_log_tables.proofs.Stripes.{rising_from, place_of, has_at, has_none}
use Rattle.zb_log_tables.proofs.held.HeldTable.holds_any.Goals as goal

pub returns-in-Some : goal.returns-in-Some
returns-in-Some c =
    let hs = c.self.inside.stripes.items in
    let log = c.args.log in
    let i = c.place-i.result in
    let place = place_of hs (record { 0 = log }) 0 i (subst (λ (s : SeenHeld). IsPlace s.stripes (record { 0 = log }) 0 i) (sym c.self.view_is) c.place-i.ensures.place) in
    let lt : i < length hs = search rules in
    let h : c.in-Some.h.now ≡ get_or hs i c.in-Some.h.now = search rules in
    rw (← c.self.view_is) (ap (λ (g : HeldUse). g.log.0 == log) h ∙ has_at log hs i c.in-Some.h.now (rising_from hs c.self.invariant) place lt)

pub returns-in-None : goal.returns-in-None
returns-in-None c =
    let hs = c.self.inside.stripes.items in
    let log = c.args.log in
    let i = c.place-i.result in
    let place = place_of hs (record { 0 = log }) 0 i (subst (λ (s : SeenHeld). IsPlace s.stripes (record { 0 = log }) 0 i) (sym c.self.view_is) c.place-i.ensures.place) in
    let past : length hs ≤ i = search rules in
    rw (← c.self.view_is) (sym (has_none log hs i place past))
