use Rattle.zb_client_laws.proofs.Others.{commit_beside, request_beside}
use Rattle.zb_client_laws.proofs.beside.clients_stay_sound.Goals as goal

pub returns-clause-request : goal.returns-clause-request
returns-clause-request c slots w seen client out class flush left asked a ne works is s = request_beside slots w seen client a s out class flush left asked ne works is

pub returns-clause-commit : goal.returns-clause-commit
returns-clause-commit c slots w seen client flush number pieces batch after tree a ne is s = commit_beside slots w seen client a s flush number pieces batch after tree ne is
