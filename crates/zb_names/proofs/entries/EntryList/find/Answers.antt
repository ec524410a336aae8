use Rattle.std.proofs.Common.{◌≡◌, true, false, cond, Some, None, sym, ap, ◌∙◌}
use Rattle.std.specs.Str.{bytes_eq}
use Rattle.std.specs.Option.{option_copied}
use Rattle.std.proofs.lemmas.List.{append-nil}
use Rattle.std.proofs.lemmas.Bool.{not-true, not-false}
use Rattle.zb_names.specs.Shown.{seen}
use Rattle.zb_names.specs.Placing.{from_start}
use Rattle.zb_names.proofs.Places.{find-first, find-none, first-split, first-none}
use Rattle.zb_names.proofs.entries.EntryList.find.Goals as goal

pub returns-in_default : goal.returns-in_default
returns-in_default c =
    let es = c.args.self.now.entries in
    let path = c.args.path.now in
    sym (find-none path es (first-none path es c.from_path.result.now (c.from_path.ensures.rest ∙ ap (λ k. from_start k es) (append-nil path)) (sym (ap option_copied c.in_default.is) ∙ c.first.ensures.value)))

pub returns-then-ne : goal.returns-then-ne
returns-then-ne c =
    let es = c.args.self.now.entries in
    let path = c.args.path.now in
    let x = c.in-Some.field-0.now in
    let split = first-split path es c.from_path.result.now x (c.from_path.ensures.rest ∙ ap (λ k. from_start k es) (append-nil path)) c.in-Some.ensures.value in
    let apart : bytes_eq path x.0 ≡ false = ap (bytes_eq path) (sym c.slice.ensures.same) ∙ not-true _ (sym c.if-ne.ensures) in
    sym (find-first path es _ _ c.from_path.ensures.rising split ∙ ap (λ b. cond b (Some (seen x.1)) None) apart)

pub returns : goal.returns
returns c =
    let es = c.args.self.now.entries in
    let path = c.args.path.now in
    let x = c.in-Some.field-0.now in
    let split = first-split path es c.from_path.result.now x (c.from_path.ensures.rest ∙ ap (λ k. from_start k es) (append-nil path)) c.in-Some.ensures.value in
    let here : bytes_eq path x.0 ≡ true = ap (bytes_eq path) (sym c.slice.ensures.same) ∙ not-false _ (sym c.if-ne.ensures) in
    sym (find-first path es _ _ c.from_path.ensures.rising split ∙ ap (λ b. cond b (Some (seen x.1)) None) here)
