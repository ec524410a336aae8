-- An image says one checkpoint, or is foreign in one field.
use Rattle.std.proofs.Common.{◌≡◌, inl, inr, ℕ, ◌+◌, ◌<◌, List, length, slice_index, Option, None, Some, refl, sym, ◌∙◌, ap, subst, arith}
use Rattle.zb_cell.specs.Cell.{window, bytes_at}
use Rattle.zb_cell.proofs.Values.{window_is, value_ext}
use Rattle.zb_ckpt.specs.declared.numbers.Numbers.{Numbers}
use Rattle.zb_ckpt.specs.declared.root.Root.{Root}
use Rattle.zb_ckpt.specs.Root.{IsRoot, first_wrong, numbers_of, root_text}
use Rattle.zb_ckpt.specs.Says.{place_of, HasWrong}
use Rattle.zb_ckpt.specs.Laws.{SaysOne, SaysNoForeign, ForeignOnce, DependsOnCellAndPages}
use Rattle.zb_ckpt.proofs.Places.{place_high}
use Rattle.zb_ckpt.proofs.Roots.{none_wrong, root_room, payload_once, same_root}

same_some : {x y : List ℕ} {v : Option (List ℕ)} → v ≡ Some x → v ≡ Some y → x ≡ y
same_some a b = cc

none_some : {A : Type 0} {x : A} {v : Option A} → v ≡ None → v ≡ Some x → ⊥
none_some a b = cc

same_bytes : (f : ℕ → ℕ) (xs ys : List ℕ) → length xs ≡ length ys → ((i : ℕ) → i < length xs → f i ≡ slice_index xs i) → ((i : ℕ) → i < length ys → f i ≡ slice_index ys i) → xs ≡ ys
same_bytes f xs ys size a b =
    let one : window f 0 (length xs) ≡ xs = window_is f xs 0 (length xs) refl (λ i lt. ap f (omega arith) ∙ a i lt) in
    let two : window f 0 (length xs) ≡ ys = window_is f ys 0 (length xs) size (λ i lt. ap f (omega arith) ∙ b i (omega (arith, lt, size))) in
    sym one ∙ two

pub says_one : SaysOne
says_one image root other bytes others h k =
    let numbers : numbers_of root ≡ numbers_of other = payload_once (numbers_of root) (numbers_of other) (root_room root h.is) (root_room other k.is) (same_some h.cell k.cell) in
    let slot : root.slot ≡ other.slot = ap (λ (n : Numbers). n.slot) numbers in
    let size : length bytes ≡ length others = h.size ∙ ap (λ (n : Numbers). n.length) numbers ∙ sym k.size in
    (same_root root other numbers, same_bytes (λ i. slice_index image (place_of root.slot i)) bytes others size h.stand (λ i lt. ap (λ (s : ℕ). slice_index image (place_of s i)) slot ∙ k.stand i lt))

-- of a root no field is wrong
not_wrong : (r : Root) (field : ℕ) → IsRoot r → HasWrong (root_text r) field → ⊥
not_wrong r field is w =
    let same : w.numbers ≡ numbers_of r = payload_once w.numbers (numbers_of r) w.room (root_room r is) w.text in
    none_some (ap first_wrong same ∙ none_wrong r is) w.first

pub says_no_foreign : SaysNoForeign
says_no_foreign image root bytes field h (inl blank) = none_some blank.0 h.cell
says_no_foreign image root bytes field h (inr wrong) = not_wrong root field h.is (subst (λ (l : List ℕ). HasWrong l field) (same_some wrong.1.0 h.cell) wrong.1.1)

wrong_once : (payload : List ℕ) (field other : ℕ) → HasWrong payload field → HasWrong payload other → field ≡ other
wrong_once payload field other h k =
    let same : h.numbers ≡ k.numbers = payload_once h.numbers k.numbers h.room k.room (h.text ∙ sym k.text) in
    some_once (sym h.first ∙ ap first_wrong same ∙ k.first)
  where
    some_once : {m n : ℕ} → ◌≡◌ {A = Option ℕ} (Some m) (Some n) → m ≡ n
    some_once e = cc

pub foreign_once : ForeignOnce
foreign_once image field other (inl h) (inl k) = h.1 ∙ sym k.1
foreign_once image field other (inl h) (inr k) = absurd (none_some h.0 k.1.0)
foreign_once image field other (inr h) (inl k) = absurd (none_some k.0 h.1.0)
foreign_once image field other (inr h) (inr k) = wrong_once h.0 field other h.1.1 (subst (λ (l : List ℕ). HasWrong l other) (same_some k.1.0 h.1.0) k.1.1)

pub depends : DependsOnCellAndPages
depends image other root bytes size same h = record {
  says = record {
    is = h.says.is;
    cell = value_ext (bytes_at other 0) (bytes_at image 0) (λ i lt. same (0 + i) (inl (omega arith))) ∙ h.says.cell;
    size = h.says.size;
    stand = λ i lt. same (place_of root.slot i) (inr (place_high root.slot i)) ∙ h.says.stand i lt;
  };
  reaches = λ i lt. let le = h.reaches i lt in omega (arith, le, size);
}
