use Rattle.std.proofs.Common.{◌≡◌, [], true, false, None, length, sym, ap, ◌∙◌, arith}
use Rattle.std.specs.Prelude.{nat_le}
use Rattle.std.proofs.lemmas.Bool.{le-leb, lt-leb}
use Rattle.zb_types.specs.declared.calls.Refusal.TheVariants.{Full}
use Rattle.zb_types.specs.Names.{walk, has, when, max_names}
use Rattle.zb_names.proofs.Places.{length-listed}
use Rattle.zb_names.proofs.Refusals.{refusal_exists, refusal_free, none_from_test, has_from_find, when_true, when_false, first_some, first_none}
use Rattle.zb_names.proofs.looking.refusal_of_new.Goals as goal

pub returns-then-is_some-2 : goal.returns-then-is_some-2
returns-then-is_some-2 c =
    let entries = c.args.kept.now.entries in
    let walked : walk entries c.args.path.now ≡ None = sym c.walk-why.ensures ∙ none_from_test c.walk-why.result (sym c.if-is_some.ensures) in
    let present : has c.args.path.now entries ≡ true = has_from_find c.args.path.now entries c.find.result c.find.ensures ∙ sym c.if-is_some-2.ensures in
    sym (refusal_exists c.args.path.now entries walked _ present)

pub returns-then-slice-ge-MAX_NAMES : goal.returns-then-slice-ge-MAX_NAMES
returns-then-slice-ge-MAX_NAMES c =
    let entries = c.args.kept.now.entries in
    let walked : walk entries c.args.path.now ≡ None = sym c.walk-why.ensures ∙ none_from_test c.walk-why.result (sym c.if-is_some.ensures) in
    let absent : has c.args.path.now entries ≡ false = has_from_find c.args.path.now entries c.find.result c.find.ensures ∙ sym c.if-is_some-2.ensures in
    let long : length entries ≡ length c.slice.result.now = ap length (sym c.slice.ensures.same) ∙ length-listed c.slice.result.now in
    let full : nat_le max_names (length entries) ≡ true = le-leb max_names (length entries) (omega (arith, long, c.if-slice-ge-MAX_NAMES.true)) in
    sym (refusal_free c.args.path.now entries walked _ absent ∙ first_some (when (nat_le max_names (length entries)) Full) [] Full (when_true _ Full full))

pub returns : goal.returns
returns c =
    let entries = c.args.kept.now.entries in
    let walked : walk entries c.args.path.now ≡ None = sym c.walk-why.ensures ∙ none_from_test c.walk-why.result (sym c.if-is_some.ensures) in
    let absent : has c.args.path.now entries ≡ false = has_from_find c.args.path.now entries c.find.result c.find.ensures ∙ sym c.if-is_some-2.ensures in
    let long : length entries ≡ length c.slice.result.now = ap length (sym c.slice.ensures.same) ∙ length-listed c.slice.result.now in
    let room : nat_le max_names (length entries) ≡ false = lt-leb max_names (length entries) (omega (arith, long, c.if-slice-ge-MAX_NAMES.false)) in
    sym (refusal_free c.args.path.now entries walked _ absent ∙ first_none (when (nat_le max_names (length entries)) Full) [] (when_false _ Full room))
