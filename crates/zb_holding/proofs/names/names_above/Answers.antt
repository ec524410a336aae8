use Rattle.std.proofs.Common.{◌≡◌, [], ◌∷◌, ◌++◌, take, sym, ap, ◌∙◌, subst, arith, length-append}
use Rattle.std.specs.Prelude.{is_some}
use Rattle.std.specs.Map.{keys_of, lookup}
use Rattle.std.specs.BTreeMap.Range.{entries_between}
use Rattle.std.specs.declared.ops.Bound.TheVariants.{Unbounded}
use Rattle.std.proofs.lemmas.List.{append-nil, append_assoc, take_all}
use Rattle.zb_types.specs.Order.{frag_cmp}
use Rattle.zb_holding.specs.Carrying.{same_frag}
use Rattle.zb_holding.specs.Listing.{names_above, most_names, AreLeastAbove}
use Rattle.zb_holding.proofs.Listed.{names-between, least_above}
use Rattle.zb_holding.proofs.Keys.{take-front}
use Rattle.zb_holding.proofs.names.names_above.Goals as goal

pub loop-id-init : goal.loop-id-init
loop-id-init g c =
    let entries = c.args.held.now.entries in
    let all = c.into_iter-id-iterator.ensures.into_iter_gives ∙ c.range-id-items.ensures.between tt
    ∙ ap (λ from. entries_between frag_cmp from Unbounded entries) c.start_above.ensures in
    rw c.new-names.ensures.items (record {
      so_far = ap keys_of all ∙ names-between c.args.after entries;
      bounded = omega arith;
    })

pub returns-then-len-eq-MOST_NAMES-clause-names : goal.returns-then-len-eq-MOST_NAMES-clause-names
returns-then-len-eq-MOST_NAMES-clause-names g c =
    c.of.ensures
    ∙ take-front most_names c.loop-id.names.items (keys_of c.loop-id.id-iterator) (names_above c.args.after c.args.held.now.entries) (sym c.loop-id.names.ok.0 ∙ sym c.len.ensures ∙ c.if-len-eq-MOST_NAMES.true) c.loop-id.invariant.so_far

pub loop-id-preserved : goal.loop-id-preserved
loop-id-preserved g c =
    let names = c.loop-id.names.items in
    let id = c.in-Some.id.now in
    let rest = keys_of c.next.new.self in
    let pushed : c.push.new.self.items ≡ names ++ id ∷ [] = c.in_ok-push.ensures.items in
    record {
      so_far = ap (λ n. n ++ rest) pushed ∙ append_assoc names (id ∷ []) rest ∙ ap (λ s. names ++ keys_of s) (sym c.in-Some.ensures.steps) ∙ c.loop-id.invariant.so_far;
      bounded = rw pushed (omega (arith, length-append names (id ∷ []), c.loop-id.invariant.bounded, c.if-len-eq-MOST_NAMES.false, c.len.ensures, c.loop-id.names.ok.0));
    }

pub returns-clause-names : goal.returns-clause-names
returns-clause-names g c =
    let names = c.loop-id.names.items in
    let all : names ≡ names_above c.args.after c.args.held.now.entries = sym (append-nil names) ∙ ap (λ s. names ++ keys_of s) (sym c.in-None.ensures.steps.0) ∙ c.loop-id.invariant.so_far in
    c.of-2.ensures ∙ sym (take_all most_names names c.loop-id.invariant.bounded) ∙ ap (λ n. take most_names n) all

pub returns-then-len-eq-MOST_NAMES-clause-least : goal.returns-then-len-eq-MOST_NAMES-clause-least
returns-then-len-eq-MOST_NAMES-clause-least g c =
    let entries = c.args.held.now.entries in
    subst (AreLeastAbove (λ id. is_some (lookup (same_frag id) entries)) c.args.after) (sym (returns-then-len-eq-MOST_NAMES-clause-names g c))
    (least_above c.args.after entries c.requires)

pub returns-clause-least : goal.returns-clause-least
returns-clause-least g c =
    let entries = c.args.held.now.entries in
    subst (AreLeastAbove (λ id. is_some (lookup (same_frag id) entries)) c.args.after) (sym (returns-clause-names g c))
    (least_above c.args.after entries c.requires)
