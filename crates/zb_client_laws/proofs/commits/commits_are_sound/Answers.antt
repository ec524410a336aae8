use Rattle.zb_client_laws.proofs.Delivered.{commit_sound, may_sealed, outdated_sound}
use Rattle.zb_client_laws.proofs.Telling.{outdated_told}
use Rattle.zb_client_laws.proofs.commits.commits_are_sound.Goals as goal

pub returns-clause-may : goal.returns-clause-may
returns-clause-may c slots w seen client basis sealed a known s e = may_sealed w seen client s basis sealed e slots a known

pub returns-clause-done : goal.returns-clause-done
returns-clause-done c slots w seen client basis sealed a known s e taken = commit_sound w seen client s basis sealed e slots a known taken

pub returns-clause-outdated : goal.returns-clause-outdated
returns-clause-outdated c w seen client basis sealed fault s e = (outdated_sound w seen client s basis sealed e fault, outdated_told client fault)
