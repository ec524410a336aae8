-- The bytes of numbers of one width.
use Rattle.std.proofs.Common.{◌≡◌, ℕ, List, ◌++◌, length, drop, sym, ap, ◌∙◌}
use Rattle.std.proofs.lemmas.List.{drop_at}
use Rattle.byteorder.specs.Endian.{big_bytes, big_number}
use Rattle.byteorder.specs.Numbers.{big_number-reads_back, length-bytes_high_first}
use Rattle.zb_numbers.specs.Fronts.{IsPrefixFree}
use Rattle.zb_numbers.specs.Numbers.{number_text, IsBelow}

-- numbers of one width are the same where the same bytes stand first
pub number_once : (n : ℕ) → IsPrefixFree (IsBelow n) (number_text n)
unfolding number_text
number_once n x y r s p q e =
    let same : x ≡ y = sym (big_number-reads_back n x r p) ∙ ap (big_number n) e ∙ big_number-reads_back n y s q in
    (same, sym (drop_at (big_bytes n x) r n (length-bytes_high_first n x)) ∙ ap (λ (t : List ℕ). drop n t) e ∙ drop_at (big_bytes n y) s n (length-bytes_high_first n y))

pub length-number_text : (n x : ℕ) → length (number_text n x) ≡ n
unfolding number_text
length-number_text n x = length-bytes_high_first n x

-- what stands behind numbers of one width is the same too
pub number_rest : (n x y : ℕ) (r s : List ℕ) → number_text n x ++ r ≡ number_text n y ++ s → r ≡ s
number_rest n x y r s e =
    sym (drop_at (number_text n x) r n (length-number_text n x)) ∙ ap (λ (t : List ℕ). drop n t) e ∙ drop_at (number_text n y) s n (length-number_text n y)
