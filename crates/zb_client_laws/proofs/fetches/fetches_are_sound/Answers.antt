use Rattle.zb_client_laws.proofs.Fetched.{fetch_goes_on, fetch_may_answer}
use Rattle.zb_client_laws.proofs.fetches.fetches_are_sound.Goals as goal

pub returns-clause-may_answer : goal.returns-clause-may_answer
returns-clause-may_answer c slots w seen client basis at ptr plan response a known s is from = fetch_may_answer slots w a seen client known s basis at ptr plan is response from

pub returns-clause-goes_on : goal.returns-clause-goes_on
returns-clause-goes_on c slots w seen client basis at ptr plan response serving heard a known s is from hears =
    fetch_goes_on slots w a seen client known s basis at ptr plan is response serving heard from hears
