use Rattle.zb_fetching.proofs.Lost.{given_held, given_long}
use Rattle.zb_fetching.proofs.laws.contents_are_held.Goals as goal

pub returns-clause-long : goal.returns-clause-long
returns-clause-long c v log stripe end = given_long v log stripe end

pub returns-clause-bytes : goal.returns-clause-bytes
returns-clause-bytes c v log stripe end bytes two pos holds = given_held v log stripe end bytes two pos holds
