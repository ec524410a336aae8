use Rattle.std.proofs.Common.{arith, ap, ◌∙◌, take}
use Rattle.zb_batch.proofs.Missing.{path_cut_off, parsed_none}
use Rattle.zb_spelling.proofs.names.read_path.Goals as goal

pub returns-then-rest-len : goal.returns-then-rest-len
returns-then-rest-len c = path_cut_off c.args.bytes.now c.split_u16-len.result.1.now c.split_u16-len.result.0 (omega arith) c.split_u16-len.ensures.whole (omega arith)

pub returns-in_default : goal.returns-in_default
returns-in_default c =
    parsed_none c.args.bytes.now c.split_u16-len.result.1.now c.split_at.result.0.now c.split_u16-len.result.0 c.in_ok-path.field-0 (omega arith) c.split_u16-len.ensures.whole
    (c.split_at.ensures.front ∙ ap (λ n. take n c.split_u16-len.result.1.now) c.from-len.ensures) c.in_default.is c.in_ok-path.ensures.exact.1
