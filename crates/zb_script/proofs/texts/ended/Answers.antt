use Rattle.std.proofs.Common.{◌≢◌, [], ◌∷◌, sym, ◌∙◌, ap}
use Rattle.std.specs.Str.{bytes_eq}
use Rattle.std.proofs.lemmas.Bool.{false≢true}
use Rattle.zb_script.proofs.Escapes.{left_behind, unended}
use Rattle.zb_script.proofs.texts.ended.Goals as goal

pub returns-else-eq : goal.returns-else-eq
returns-else-eq c = λ v p e.
    let other : c.loop-b.rest.now ≢ 34 ∷ [] = λ h. false≢true (sym c.if-eq.false ∙ c.eq.ensures ∙ ap (λ t. bytes_eq t c.as_slice.result.now) h ∙ ap (bytes_eq (34 ∷ [])) c.as_slice.ensures) in
    unended c.loop-b.rest.now c.in_default.ensures other (left_behind c.loop-b.bytes.items v c.loop-b.rest.now c.loop-b.invariant.valid p (e ∙ sym c.loop-b.invariant.text))
