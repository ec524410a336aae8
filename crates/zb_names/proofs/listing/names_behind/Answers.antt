use Rattle.std.proofs.Common.{◌≡◌, ℕ, List, ◌++◌, drop, length, true, false, sym, ap, subst, ◌∙◌}
use Rattle.std.proofs.lemmas.List.{append-nil, append_assoc}
use Rattle.zb_names.specs.Shown.{begins_with}
use Rattle.zb_names.specs.Listing.{IsStartBehind, IsFirstFrom, name_of, names_behind}
use Rattle.zb_names.specs.Placing.{from_start}
use Rattle.zb_names.proofs.Behind.{starts-begins}
use Rattle.zb_names.proofs.Skipping.{begins_self, begins_long, begins_next, listing_begins, listing_ends, further, names_on}
use Rattle.zb_names.proofs.listing.names_behind.Goals as goal

pub loop-path-init : goal.loop-path-init
loop-path-init c =
    let front = c.args.front.now in
    rw c.in_ok-names.ensures (record {
      so_far = listing_begins front c.in_ok-start.start.items c.args.kept.now.entries c.in_ok-start.ensures.items;
      begins = subst (λ (z : List ℕ). begins_with front z ≡ true) (sym c.in_ok-start.ensures.items) (begins_self front);
    })

pub returns-then-not-starts_with : goal.returns-then-not-starts_with
returns-then-not-starts_with c =
    let front = c.args.front.now in
    let path = c.in-Some.path.now in
    let start = c.loop-path.start.items in
    let es = c.args.kept.now.entries in
    let first = subst (λ s. IsFirstFrom s es path) c.deref.ensures.value c.in-Some.ensures.some in
    let begins : begins_with front path ≡ false = sym (starts-begins path front) ∙ sym c.if-not-starts_with.ensures.value in
    let none = listing_ends front start path first.entry es first.more c.first_from.ensures.rising first.split c.loop-path.invariant.begins begins in
    sym (append-nil c.loop-path.names) ∙ ap (λ z. c.loop-path.names ++ z) (sym none) ∙ c.loop-path.invariant.so_far

pub pass-requires : goal.pass-requires
pass-requires c =
    let front = c.args.front.now in
    let path = c.in-Some.path.now in
    let begins : begins_with front path ≡ true = sym (starts-begins path front) ∙ sym c.if-not-starts_with.ensures.value in
    begins_long front path begins

pub loop-path-smaller : goal.loop-path-smaller
loop-path-smaller c =
    let front = c.args.front.now in
    let path = c.in-Some.path.now in
    let start = c.loop-path.start.items in
    let es = c.args.kept.now.entries in
    let first = subst (λ s. IsFirstFrom s es path) c.deref.ensures.value c.in-Some.ensures.some in
    let begins : begins_with front path ≡ true = sym (starts-begins path front) ∙ sym c.if-not-starts_with.ensures.value in
    further front start c.in_ok-start-2.start.items path first.entry es first.more c.requires c.in-Some.ensures.path begins c.first_from.ensures.rising first.split c.in_ok-start-2.ensures.start

pub loop-path-preserved : goal.loop-path-preserved
loop-path-preserved c =
    let front = c.args.front.now in
    let path = c.in-Some.path.now in
    let start = c.loop-path.start.items in
    let next = c.in_ok-start-2.start.items in
    let es = c.args.kept.now.entries in
    let first = subst (λ s. IsFirstFrom s es path) c.deref.ensures.value c.in-Some.ensures.some in
    let begins : begins_with front path ≡ true = sym (starts-begins path front) ∙ sym c.if-not-starts_with.ensures.value in
    let behind : IsStartBehind (length front) path next = c.in_ok-start-2.ensures.start in
    let rest = names_behind front (from_start next es) in
    let on = names_on front start next path first.entry es first.more c.requires c.in-Some.ensures.path begins c.first_from.ensures.rising first.split behind in
    record {
      so_far = ap (λ z. z ++ rest) c.in_ok-start-2.ensures.names ∙ append_assoc c.loop-path.names (name_of (drop (length front) path)) rest
          ∙ ap (λ z. c.loop-path.names ++ z) (sym on) ∙ c.loop-path.invariant.so_far;
      begins = begins_next front path next begins behind;
    }
