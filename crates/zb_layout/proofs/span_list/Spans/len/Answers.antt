use Rattle.std.proofs.Common.{sym, ap, ◌∙◌, length, arith}
use Rattle.zb_layout.proofs.Reaching.{length-spans_of, count_some}
use Rattle.zb_layout.proofs.span_list.Spans.len.Goals as goal

pub returns : goal.returns
returns c =
    let s = c.self.inside in
    sym (ap length (sym c.self.view_is) ∙ length-spans_of s.fragment s.offset s.len ∙ count_some s.fragment s.offset s.len (λ e. omega arith))
