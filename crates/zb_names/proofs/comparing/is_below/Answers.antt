use Rattle.std.proofs.Common.{◌≡◌, ◌<◌, ◌&&◌, false, true, eqb, length, sym, ap, ◌∙◌}
use Rattle.std.proofs.lemmas.Bool.{ltb-true, eq-eqb, ne_eqb, and_right}
use Rattle.zb_names.specs.Shown.{begins_with}
use Rattle.zb_names.proofs.Below.{is_below-at, and_true}
use Rattle.zb_names.proofs.Behind.{starts-begins}
use Rattle.zb_names.proofs.comparing.is_below.Goals as goal

pub returns-then-next-eq47 : goal.returns-then-next-eq47
returns-then-next-eq47 c =
    let path = c.args.path.now in
    let other = c.args.other.now in
    let within : length path < length other = ltb-true (length path) (length other) (sym c.in-Some.ensures.lookup.0) in
    let slash : eqb c.in-Some.next.now 47 ≡ true = eq-eqb c.in-Some.next.now 47 c.if-next-eq47.true in
    c.starts_with.ensures.value ∙ starts-begins other path ∙ sym (is_below-at path other c.in-Some.next.now within c.in-Some.ensures.lookup.1 ∙ ap (λ b. begins_with path other && b) slash ∙ and_true (begins_with path other))

pub returns-else-next-eq47 : goal.returns-else-next-eq47
returns-else-next-eq47 c =
    let path = c.args.path.now in
    let other = c.args.other.now in
    let within : length path < length other = ltb-true (length path) (length other) (sym c.in-Some.ensures.lookup.0) in
    let other_byte : eqb c.in-Some.next.now 47 ≡ false = ne_eqb c.in-Some.next.now 47 c.if-next-eq47.false in
    other_byte ∙ sym (is_below-at path other c.in-Some.next.now within c.in-Some.ensures.lookup.1 ∙ and_right (begins_with path other) _ other_byte)
