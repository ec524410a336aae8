use Rattle.std.proofs.Common.{◌≡◌, ◌≤◌, ◌++◌, length, drop, vec_len, vec_capacity}
use Rattle.zb_client.specs.Telling.{reply_lines}
use Rattle.zb_client.proofs.lines.told_replies.Given as goal

abbrev pub invariant-loop-call : goal.invariant-loop-call
invariant-loop-call l = record {
  told : l.lines.items ++ reply_lines l.client (drop l.call-index l.kept) l.replies.items ≡ reply_lines l.client l.kept l.initial.replies.items;
  len : vec_len l.lines ≡ l.call-index;
  room : length l.kept ≤ vec_capacity l.lines;
}
