use Rattle.std.proofs.Common.{drop, ap, ◌∙◌}
use Rattle.std.proofs.lemmas.List.{append-nil}
use Rattle.zb_names.specs.Shown.{listed, seen}
use Rattle.zb_names.specs.Placing.{from_start}
use Rattle.zb_names.proofs.Places.{first-split}
use Rattle.zb_names.proofs.listing.first_from.Goals as goal

pub returns-clause-some : goal.returns-clause-some
returns-clause-some c =
    let x = c.in_ok-path.field-0.now in
    let rest = c.from_path.result.now in
    let es = c.args.kept.now.entries in
    let split = first-split c.args.start.now es rest x (c.from_path.ensures.rest ∙ ap (λ k. from_start k es) (append-nil c.args.start.now)) c.in_ok-path.ensures.value in
    record {
      entry = seen x.1;
      more = listed (drop 1 rest);
      split = rw c.slice.ensures.same split;
    }
