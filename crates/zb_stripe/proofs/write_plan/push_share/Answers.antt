use Rattle.std.proofs.Common.{◌≡◌, ◌++◌, ◌<◌, List, ℕ, length, drop, sym, ap, subst, ◌∙◌, arith}
use Rattle.std.proofs.lemmas.List.{append-nil}
use Rattle.std.proofs.lemmas.Bool.{eqb-true, eqb-false}
use Rattle.zb_holding.specs.Placing.{share_length, share_of}
use Rattle.zb_types.specs.declared.ids.ServerId.{ServerId}
use Rattle.zb_types.specs.declared.requests.Request.{Request}
use Rattle.zb_stripe.proofs.Making.{no_share, made_share}
use Rattle.zb_stripe.proofs.write_plan.push_share.Goals as goal

-- the new ones, behind any that may stand before
new_ones : (f begin k : ℕ) (new bytes slice : List ℕ) → slice ≡ bytes → ((before : List ℕ) → length before ≡ begin → new ≡ drop (share_length f begin k) (share_of f (before ++ slice) k))
    → (before : List ℕ) → length before ≡ begin → new ≡ drop (share_length f begin k) (share_of f (before ++ bytes) k)
new_ones f begin k new bytes slice is each before long = subst (λ (z : List ℕ). new ≡ drop (share_length f begin k) (share_of f (before ++ z) k)) is (each before long)

pub returns-then-is_empty : goal.returns-then-is_empty
returns-then-is_empty c part is =
    let none : length c.new_of_share-new.result.now ≡ 0 = eqb-true (length c.new_of_share-new.result.now) 0 (sym c.is_empty.ensures ∙ c.if-is_empty.true) in
    sym (ap (λ (z : List (ServerId × Request)). c.args.requests.now.items ++ z)
    (no_share c.args.to.geo.servers c.args.to.geo.fragment c.args.to.out c.args.to.class c.args.to.log part c.args.fresh.now is c.requires.fits.new c.args.k c.new_of_share-new.result.now (new_ones _ _ _ c.new_of_share-new.result.now c.args.fresh.now.bytes c.slice.result.now c.slice.ensures c.new_of_share-new.ensures.new) none)
    ∙ append-nil c.args.requests.now.items)

pub returns : goal.returns
returns c part is =
    let fresh = c.args.fresh.now in
    let copied = c.in_ok-bytes.ensures in
    let each = λ (before : List ℕ) (long : length before ≡ fresh.begin). copied ∙ new_ones _ _ _ c.new_of_share-new.result.now fresh.bytes c.slice.result.now c.slice.ensures c.new_of_share-new.ensures.new before long in
    let some = eqb-false (length c.new_of_share-new.result.now) 0 (sym c.is_empty.ensures ∙ c.if-is_empty.false) in
    let same = ap length copied in
    let many : 0 < length c.in_ok-bytes.bytes = omega arith in
    c.in_ok-push.ensures.items
    ∙ ap (λ (z : List (ServerId × Request)). c.args.requests.now.items ++ z)
    (made_share c.args.to.geo.servers c.args.to.geo.fragment c.args.to.out c.args.to.class c.args.to.log part fresh is c.requires.fits.new c.args.k c.server_of-server.result c.grow.result c.share-had.result c.in_ok-bytes.bytes
    c.server_of-server.ensures c.share-had.ensures each many c.grow.ensures (sym c.is_out.ensures ∙ c.if-is_out.false))
