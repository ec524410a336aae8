use Rattle.zb_numbers.proofs.laws.numbers_are_prefix_free.Goals as goal
use Rattle.zb_numbers.proofs.Digits.{number_once}

pub returns : goal.returns
returns c = number_once
