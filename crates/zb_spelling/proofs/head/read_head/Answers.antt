use Rattle.zb_spelling.proofs.Missing.{head_too_short, no_state_no_head, no_head_zeros}
use Rattle.zb_spelling.proofs.head.read_head.Goals as goal

pub returns-then-bytes-lt-LENGTH : goal.returns-then-bytes-lt-LENGTH
returns-then-bytes-lt-LENGTH c = head_too_short c.args.bytes.now c.if-bytes-lt-LENGTH.true

pub returns-in_err-state : goal.returns-in_err-state
returns-in_err-state c =
    rw c.from_residual.ensures (no_state_no_head c.split_u32-next_file.result.0 c.split_u32-next_log.result.0 c.args.bytes.now c.split_u32-next_file.result.1.now c.split_u32-next_log.result.1.now
    c.split_u32-next_file.ensures.whole c.split_u32-next_log.ensures.whole c.in_err-state.ensures.front)

pub returns-then-not-are_zeros : goal.returns-then-not-are_zeros
returns-then-not-are_zeros c =
    no_head_zeros c.split_u32-next_file.result.0 c.split_u32-next_log.result.0 c.in_ok-state.state c.args.bytes.now c.split_u32-next_file.result.1.now c.split_u32-next_log.result.1.now c.in_ok-state.rest.now c.split_at.result.0.now c.are_zeros.result
    c.split_u32-next_file.ensures.whole c.split_u32-next_log.ensures.whole c.in_ok-state.ensures.front.1 c.split_at.ensures.front c.are_zeros.ensures.1 c.if-not-are_zeros.true
