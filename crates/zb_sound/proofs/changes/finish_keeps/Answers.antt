use Rattle.std.proofs.Common.{Bool, ap, sym, ◌∙◌}
use Rattle.std.specs.Prelude.{◌||◌}
use Rattle.std.proofs.lemmas.Bool.{false≢true}
use Rattle.zb_types.specs.declared.nodes.State.{State}
use Rattle.zb_recovery.specs.Missing.{names_server}
use Rattle.zb_sound.proofs.Changing.{mark_keeps}
use Rattle.zb_sound.proofs.changes.finish_keeps.Goals as goal

pub returns : goal.returns
returns c z contents p st tables tree members s can whole fit stand =
    mark_keeps z contents p st tables tree s members can
    (λ t u server server' unfit other. absurd (false≢true (sym (ap (λ (y : Bool). y || names_server members.state t) (fit t server) ∙ ap (λ (y : State). names_server y t) whole) ∙ unfit)))
    (λ x may. stand x may.among)
