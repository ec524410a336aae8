use Rattle.zb_work.specs.declared.work.Aim.TheVariants.{Finish}
use Rattle.zb_client_laws.proofs.Moves.{begin_sound, first_sound, push_sound, ready_sound, taken_sound}
use Rattle.zb_client_laws.proofs.inside.moves_inside_are_sound.Goals as goal

pub returns-clause-first : goal.returns-clause-first
returns-clause-first c slots w seen client log a current nothing = first_sound slots w seen client log a current nothing

pub returns-clause-push : goal.returns-clause-push
returns-clause-push c w seen client number call short s = push_sound w seen client s (record { number = number; call = call }) short

pub returns-clause-call : goal.returns-clause-call
returns-clause-call c w seen client none s = taken_sound w seen client s none

pub returns-clause-ready : goal.returns-clause-ready
returns-clause-ready c w seen client is s = ready_sound w seen client s is

pub returns-clause-flush : goal.returns-clause-flush
returns-clause-flush c w seen client none s = begin_sound w seen client s none Finish
