use Rattle.std.specs.Prelude.{None, Some}
use Rattle.zb_delta.specs.Spelling.{delta_length}
use Rattle.zb_delta.proofs.Missing.{read_again, left_behind, counted, reaches}
use Rattle.zb_delta.proofs.delta.Delta.read.Goals as goal

pub returns-in_err-delta-clause-again : goal.returns-in_err-delta-clause-again
returns-in_err-delta-clause-again c delta rest h e = absurd (let same = read_again c.args.bytes.now None c.in_err-delta.ensures delta rest h e in cc)

pub returns-clause-found : goal.returns-clause-found
returns-clause-found c = left_behind c.args.bytes.now c.in_ok-delta.delta c.in_ok-delta.field-0-1.now c.in_ok-delta.ensures

pub returns-clause-again : goal.returns-clause-again
returns-clause-again c delta rest h e =
    counted _ _ _ _ delta_length (read_again c.args.bytes.now (Some (c.in_ok-delta.delta, c.in_ok-delta.field-0-1.now)) c.in_ok-delta.ensures delta rest h e)

pub returns-clause-within : goal.returns-clause-within
returns-clause-within c = reaches c.args.bytes.now c.in_ok-delta.delta c.in_ok-delta.field-0-1.now c.in_ok-delta.ensures
