use Rattle.std.proofs.Common.{◌≡◌, take}
use Rattle.zb_replay.proofs.committing.copy_replies.Given as goal

abbrev pub invariant-loop-reply : goal.invariant-loop-reply
invariant-loop-reply l = l.copied ≡ take l.reply-index l.replies
