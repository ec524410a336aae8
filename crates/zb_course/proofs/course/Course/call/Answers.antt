use Rattle.std.proofs.Common.{◌≡◌, ◌<◌, suc, length, None, ◌∙◌, ap, sym, subst}
use Rattle.zb_ledger.specs.Seen.{call_at, called, count_of, taken_back}
use Rattle.zb_ledger.proofs.Taking.{takes_back}
use Rattle.zb_course.specs.Seen.{SeenCourse}
use Rattle.zb_course.proofs.course.Course.call.Goals as goal

pub returns-in_default-clause-err : goal.returns-in_default-clause-err
returns-in_default-clause-err c = (λ k. record { nodes = nodes k; ledger = ledger k; text = c.self.inside.text.items; untold = c.self.inside.untold; unfinished = c.self.inside.unfinished; calls = c.self.inside.calls }) ∙ c.self.view_is where
  nodes : c.push.new.self ≡ c.self.inside.nodes
  nodes = c.in_default.ensures.err

  called_is : c.call.new.self ≡ called c.self.inside.ledger c.args.client c.args.call
  called_is = c.in_ok-number.ensures.ok

  low : c.args.client < length c.self.inside.ledger.counts
  low = subst (λ (s : SeenCourse). c.args.client < length s.ledger.counts) (sym c.self.view_is) c.requires.places

  new_number : call_at c.self.inside.ledger.waiting c.args.client (suc (count_of c.self.inside.ledger c.args.client)) ≡ None
  new_number = subst (λ (s : SeenCourse). call_at s.ledger.waiting c.args.client (suc (count_of s.ledger c.args.client)) ≡ None) (sym c.self.view_is) c.requires.fresh

  ledger : c.take_back.new.self ≡ c.self.inside.ledger
  ledger = c.take_back.ensures ∙ ap (λ l. taken_back l c.args.client) called_is ∙ takes_back c.self.inside.ledger c.args.client c.args.call low new_number
