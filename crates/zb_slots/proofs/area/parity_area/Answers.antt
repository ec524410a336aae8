use Rattle.std.proofs.Common.{◌≡◌, ◌*◌, ◌<◌, ◌≤◌, ◌++◌, ℕ, List, length, slice_index, subst, sym, ap, ◌∙◌, arith, length-append}
use Rattle.std.proofs.lemmas.List.{drop_at, get_or_append_left}
use Rattle.zb_slots.specs.Area.{IsArea, lengths_in}
use Rattle.zb_slots.proofs.Numbers.{numbers_ext}
use Rattle.zb_slots.proofs.area.parity_area.Goals as goal

is_area : (lengths bytes head : List ℕ) → length lengths ≤ 16 → lengths_in (length lengths) head ≡ lengths → ((i : ℕ) → 4 * length lengths ≤ i → slice_index head i ≡ 0) → length head ≡ 64 → IsArea lengths bytes (head ++ bytes)
is_area lengths bytes head few is none size =
    let same : (i : ℕ) → i < 64 → slice_index (head ++ bytes) i ≡ slice_index head i = λ i lt. get_or_append_left head bytes 0 i (omega arith) in
    record {
      head = numbers_ext (slice_index (head ++ bytes)) (slice_index head) 0 (length lengths) (λ i le lt. same i (omega arith)) ∙ is;
      zeros = λ i le lt. same i lt ∙ none i le;
      body = drop_at head bytes 64 size;
      size = length-append head bytes ∙ omega arith;
    }

pub returns : goal.returns
returns c =
    let spelled = c.spelled_lengths-head.ensures in
    let here = is_area c.args.lengths.now c.args.bytes.now c.spelled_lengths-head.result c.requires spelled.lengths spelled.zeros spelled.size in
    subst (λ (l : List ℕ). IsArea c.args.lengths.now c.args.bytes.now l) (sym (c.in_ok-extend_from_slice.ensures.items ∙ ap (λ (l : List ℕ). l ++ c.args.bytes.now) c.in_ok-area.ensures.items)) here
