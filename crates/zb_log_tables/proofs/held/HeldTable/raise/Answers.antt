use Rattle.std.proofs.Common.{◌≡◌, ◌+◌, ◌<◌, ◌≤◌, true, length, get_or, sym, ap, ◌∙◌, subst, arith}
use Rattle.std.specs.Prelude.{if◌then◌else◌, OnErr}
use Rattle.std.specs.List.{insert}
use Rattle.std.proofs.lemmas.Result.{on_err_weaker}
use Rattle.zb_types.specs.declared.tables.HeldUse.{HeldUse}
use Rattle.zb_tables.specs.Tables.{is_of}
use Rattle.zb_tables.specs.Fold.{held_with}
use Rattle.zb_log_tables.specs.HeldStripes.{SeenHeld, key_of, IsPlace, IsInOrder, room_of}
use Rattle.zb_log_tables.proofs.Stripes.{Place, rising_from, order_from, rising_put, place_of, not_at, raised_there, raised_new, insert_ok}
use Rattle.zb_log_tables.proofs.held.HeldTable.raise.Goals as goal

pub invariant_of-self : goal.invariant_of-self
invariant_of-self c =
    let hs = c.self.inside.stripes.items in
    let log = c.args.log in
    let p = c.args.piece.now in
    let i = c.place-i.result in
    let rising = rising_from hs c.self.invariant in
    let place : Place hs (key_of log p.stripe) i = place_of hs log p.stripe i (subst (λ (s : SeenHeld). IsPlace s.stripes log p.stripe i) (sym c.self.view_is) c.place-i.ensures.place) in
    let is = subst (λ (s : SeenHeld). (d : HeldUse) → i < length s.stripes → c.is_at.result ≡ is_of log p.stripe (get_or s.stripes i d)) (sym c.self.view_is) c.is_at.ensures.is in
    let lt : i < length hs = subst (λ (s : SeenHeld). i < length s.stripes) (sym c.self.view_is) (c.is_at.ensures.there c.if-is_at.true) in
    let held = c.index-held.result.now in
    let at : get_or hs i held ≡ held = sym c.index-held.ensures in
    let here : is_of log p.stripe held ≡ true = ap (is_of log p.stripe) (sym at) ∙ sym (is held lt) ∙ c.if-is_at.true in
    let now = raised_there log c.args.born p hs i c.max.result held lt place at here c.max.ensures in
    subst IsInOrder (sym now) (order_from (held_with log c.args.born p hs) (rising_put _ hs rising))

pub returns-then-is_at-clause-stripes : goal.returns-then-is_at-clause-stripes
returns-then-is_at-clause-stripes c =
    let hs = c.self.inside.stripes.items in
    let log = c.args.log in
    let p = c.args.piece.now in
    let i = c.place-i.result in
    let rising = rising_from hs c.self.invariant in
    let place : Place hs (key_of log p.stripe) i = place_of hs log p.stripe i (subst (λ (s : SeenHeld). IsPlace s.stripes log p.stripe i) (sym c.self.view_is) c.place-i.ensures.place) in
    let is = subst (λ (s : SeenHeld). (d : HeldUse) → i < length s.stripes → c.is_at.result ≡ is_of log p.stripe (get_or s.stripes i d)) (sym c.self.view_is) c.is_at.ensures.is in
    let lt : i < length hs = subst (λ (s : SeenHeld). i < length s.stripes) (sym c.self.view_is) (c.is_at.ensures.there c.if-is_at.true) in
    let held = c.index-held.result.now in
    let at : get_or hs i held ≡ held = sym c.index-held.ensures in
    let here : is_of log p.stripe held ≡ true = ap (is_of log p.stripe) (sym at) ∙ sym (is held lt) ∙ c.if-is_at.true in
    let now = raised_there log c.args.born p hs i c.max.result held lt place at here c.max.ensures in
    rw (← c.self.view_is) now

pub invariant_of-self-2 : goal.invariant_of-self-2
invariant_of-self-2 c =
    let hs = c.self.inside.stripes.items in
    let log = c.args.log in
    let p = c.args.piece.now in
    let i = c.place-i.result in
    let rising = rising_from hs c.self.invariant in
    let place : Place hs (key_of log p.stripe) i = place_of hs log p.stripe i (subst (λ (s : SeenHeld). IsPlace s.stripes log p.stripe i) (sym c.self.view_is) c.place-i.ensures.place) in
    let is = subst (λ (s : SeenHeld). (d : HeldUse) → i < length s.stripes → c.is_at.result ≡ is_of log p.stripe (get_or s.stripes i d)) (sym c.self.view_is) c.is_at.ensures.is in
    let le : i ≤ length hs = subst (λ (s : SeenHeld). i ≤ length s.stripes) (sym c.self.view_is) c.place-i.ensures.bound in
    let room : 1 ≤ room_of c.self.inside.stripes = subst (λ (s : SeenHeld). 1 ≤ s.room) (sym c.self.view_is) c.requires.room in
    let full : OnErr c.insert.result (room_of c.self.inside.stripes ≡ 0) = on_err_weaker c.insert.result (λ more. omega (arith, more)) c.insert.ensures.full in
    let ok = insert_ok c.insert.result (room_of c.self.inside.stripes) full room in
    let new : HeldUse = record { log = log; stripe = p.stripe; end = p.offset + p.len; born = c.args.born } in
    let now = c.insert.ensures.items ∙ ap (λ b. if b then insert hs i new else hs) ok ∙ raised_new log c.args.born p hs i le rising place (not_at log p.stripe hs i c.is_at.result is c.if-is_at.false) in
    subst IsInOrder (sym now) (order_from (held_with log c.args.born p hs) (rising_put _ hs rising))

pub returns-clause-stripes : goal.returns-clause-stripes
returns-clause-stripes c =
    let hs = c.self.inside.stripes.items in
    let log = c.args.log in
    let p = c.args.piece.now in
    let i = c.place-i.result in
    let rising = rising_from hs c.self.invariant in
    let place : Place hs (key_of log p.stripe) i = place_of hs log p.stripe i (subst (λ (s : SeenHeld). IsPlace s.stripes log p.stripe i) (sym c.self.view_is) c.place-i.ensures.place) in
    let is = subst (λ (s : SeenHeld). (d : HeldUse) → i < length s.stripes → c.is_at.result ≡ is_of log p.stripe (get_or s.stripes i d)) (sym c.self.view_is) c.is_at.ensures.is in
    let le : i ≤ length hs = subst (λ (s : SeenHeld). i ≤ length s.stripes) (sym c.self.view_is) c.place-i.ensures.bound in
    let room : 1 ≤ room_of c.self.inside.stripes = subst (λ (s : SeenHeld). 1 ≤ s.room) (sym c.self.view_is) c.requires.room in
    let full : OnErr c.insert.result (room_of c.self.inside.stripes ≡ 0) = on_err_weaker c.insert.result (λ more. omega (arith, more)) c.insert.ensures.full in
    let ok = insert_ok c.insert.result (room_of c.self.inside.stripes) full room in
    let new : HeldUse = record { log = log; stripe = p.stripe; end = p.offset + p.len; born = c.args.born } in
    let now = c.insert.ensures.items ∙ ap (λ b. if b then insert hs i new else hs) ok ∙ raised_new log c.args.born p hs i le rising place (not_at log p.stripe hs i c.is_at.result is c.if-is_at.false) in
    rw (← c.self.view_is) now
