use Rattle.std.proofs.Common.{refl, subst, sym}
use Rattle.zb_types.specs.declared.nodes.Cause.TheVariants.{NoSpace}
use Rattle.zb_client.specs.Telling.{Heard}
use Rattle.zb_client_laws.specs.Effects.{GivesUp, TellsNothing, after_request}
use Rattle.zb_client_laws.specs.Sound.{ClientIsSound}
use Rattle.zb_client_laws.proofs.Storing.{Stored, around_after, done_sound, finds, full_sound, full_told, standing}
use Rattle.zb_client_laws.proofs.stores.stores_are_sound.Goals as goal

pub returns-clause-works : goal.returns-clause-works
returns-clause-works c slots w seen client basis formed asked a s e is = (Stored w seen client s basis formed e, refl, (standing w seen client s basis formed e).stands.works)

pub returns-clause-finds : goal.returns-clause-finds
returns-clause-finds c slots w seen client basis formed asked a s e is = finds w seen client s basis formed e slots a asked is

pub returns-clause-done : goal.returns-clause-done
returns-clause-done c slots w seen client basis formed asked heard a known s e is heard_is =
    let goes = subst (λ (h : Heard). ClientIsSound (after_request w asked) seen h.client × TellsNothing client h) (sym heard_is) (done_sound w seen client s basis formed e slots a asked is) in
    (around_after w seen client s basis formed e slots a asked is, goes.0, goes.1)

pub returns-clause-full : goal.returns-clause-full
returns-clause-full c slots w seen client basis formed asked free heard a known s e is heard_is =
    subst (λ (h : Heard). ClientIsSound w seen h.client × GivesUp client (NoSpace asked.0) h) (sym heard_is)
    (full_sound w seen client s basis formed e free, full_told w seen client s basis formed e free asked is)
