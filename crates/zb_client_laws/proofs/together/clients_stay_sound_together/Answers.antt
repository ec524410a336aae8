use Rattle.zb_client_laws.proofs.Joined.{commit_together, inside_together, store_together}
use Rattle.zb_client_laws.proofs.together.clients_stay_sound_together.Goals as goal

pub returns-clause-inside : goal.returns-clause-inside
returns-clause-inside c w seen clients i client after tree all is same own = inside_together seen clients i client after is same w tree all own

pub returns-clause-store : goal.returns-clause-store
returns-clause-store c slots w seen clients i client after out class flush left asked a all is same log_is works first own =
    store_together seen clients i client after is same slots w a all flush log_is out class left asked works first own

pub returns-clause-commit : goal.returns-clause-commit
returns-clause-commit c slots w seen clients i client after flush number pieces batch shelf tree a all is same log_is commits own =
    commit_together seen clients i client after is same slots w a all flush log_is number pieces batch shelf tree commits own
