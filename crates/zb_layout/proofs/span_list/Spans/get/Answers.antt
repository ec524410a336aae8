use Rattle.std.proofs.Common.{refl, ◌≡◌, length, sym, ap, ◌∙◌, slice_get, arith}
use Rattle.zb_layout.specs.Ranges.{spans_of}
use Rattle.zb_layout.proofs.Reaching.{Reaches, reaches_at}
use Rattle.zb_layout.proofs.span_list.Spans.get.Goals as goal
use Rattle.zb_layout.proofs.span_list.Spans.get.Goals.{After-self}

at : (c : After-self) → Reaches c.self.inside.fragment c.self.inside.offset c.self.inside.len c.args.i
at c =
    let s = c.self.inside in
    let n : length c.args.self.now ≡ length (spans_of s.fragment s.offset s.len) = ap length (sym c.self.view_is) in
    reaches_at s.fragment s.offset s.len c.args.i c.self.invariant.0 c.self.invariant.2 (omega arith)

pub overflow_cast-index : goal.overflow_cast-index
overflow_cast-index c = let h = at (goal.at.overflow_cast-index c).After-self in omega arith

pub overflow_add-index : goal.overflow_add-index
overflow_add-index c = let h = at (goal.at.overflow_add-index c).After-self in omega arith

pub overflow_mul-base : goal.overflow_mul-base
overflow_mul-base c = let h = at (goal.at.overflow_mul-base c).After-self in omega arith

pub overflow_add-base : goal.overflow_add-base
overflow_add-base c = let h = at (goal.at.overflow_add-base c).After-self in omega arith

pub overflow_cast-result : goal.overflow_cast-result
overflow_cast-result c = let h = at (goal.at.overflow_cast-result c).After-self in omega arith

pub overflow_sub-result-2 : goal.overflow_sub-result-2
overflow_sub-result-2 c = let h = at (goal.at.overflow_sub-result-2 c).After-self in omega arith

pub returns : goal.returns
returns c =
    let s = c.self.inside in
    let h = at (goal.at.returns c).After-self in
    sym (ap (λ z. slice_get z c.args.i) (sym c.self.view_is) ∙ h.at ∙ rw (c.max-from.ensures, c.min-to.ensures) refl)
