-- A text is that of a number where it begins plainly and parses.
use Rattle.std.proofs.Common.{◌≡◌, ◌≢◌, ℕ, zero, suc, ◌+◌, ◌%◌, ◌^◌, ◌<◌, ◌≤◌, true, false, leb, List, [], ◌∷◌, ◌++◌, length, get_or, None, Result, Ok, Err, refl, sym, ap, subst, ◌∙◌, arith}
use Rattle.std.specs.Fmt.{decimal}
use Rattle.std.specs.Result.{result_ok}
use Rattle.std.specs.Str.{IsUtf8}
use Rattle.std.specs.Str.Parse.{AllDigits, digits_value, ParsesUnsigned}
use Rattle.std.proofs.lemmas.Str.Parse.{IsNumeralModel, numerals_by_value, tells_digits, parse_plain}
use Rattle.std.proofs.lemmas.Fmt.{decimal-digits_value, decimal_by_steps, first_decimal, decimal_digit, decimal_injective, parse-decimal, IsAscii-decimal}
use Rattle.std.proofs.lemmas.Str.{IsUtf8-from_ascii}
use Rattle.std.proofs.lemmas.Bool.{and_parts, leb-true, false≢true}
use Rattle.std.proofs.lemmas.Bool.Decides.{nat_tests}
use Rattle.zb_types.specs.Limits.{within}
use Rattle.zb_claims.specs.Reading.{Reads}
use Rattle.zb_script.specs.Spaces.{is_word, Splits}
use Rattle.zb_script.specs.Numbers.{IsNumber, IsUpTo, begins_plainly, IsField, field_text}
use Rattle.zb_script.proofs.Without.{without-decimal}
use Rattle.zb_script.proofs.Splitting.{split_same}

own : IsNumeralModel (AllDigits 10) (digits_value 10)
own = numerals_by_value (AllDigits 10) tells_digits

not_plus : (bytes : List ℕ) → begins_plainly bytes ≡ true → get_or bytes 0 0 ≢ 43
not_plus [] h = absurd cc
not_plus (b ∷ []) h = grind (arith, nat_tests)
not_plus (b ∷ (c ∷ bytes)) h = grind (arith, nat_tests)

zero_alone : (bytes : List ℕ) → begins_plainly bytes ≡ true → get_or bytes 0 0 ≡ 48 → length bytes ≡ 1
zero_alone [] h e = absurd cc
zero_alone (b ∷ []) h e = refl
zero_alone (b ∷ (c ∷ bytes)) h e = grind (arith, nat_tests)

-- a number's text begins plainly
more_digits : (bytes : List ℕ) → 48 < get_or bytes 0 0 → get_or bytes 0 0 ≤ 57 → begins_plainly bytes ≡ true
more_digits [] low high = absurd (omega arith)
more_digits (b ∷ []) low high = grind (arith, nat_tests)
more_digits (b ∷ (c ∷ bytes)) low high = grind (arith, nat_tests)

record Front (bytes : List ℕ) : Type 0 where
  some : 0 < length bytes
  high : get_or bytes 0 0 ≤ 57

front_more : (bytes : List ℕ) (b : ℕ) → Front bytes → Front (bytes ++ b ∷ [])
front_more [] b f = absurd (omega (arith, f.some))
front_more (a ∷ bytes) b f = record { some = omega arith; high = f.high }

front : (n : ℕ) → n < 2 ^ 64 → Front (decimal n)
front = decimal_by_steps (λ _ bytes. Front bytes) (λ n h. record { some = omega arith; high = omega arith }) (λ n ds h f. front_more ds (48 + n % 10) f)

pub begins-decimal : (n : ℕ) → IsNumber n → begins_plainly (decimal n) ≡ true
begins-decimal zero h = rw (decimal_digit 0 (omega arith)) refl
begins-decimal (suc n) h = more_digits (decimal (suc n)) (first_decimal (suc n) (omega arith) (omega (arith, h))) (front (suc n) (omega (arith, h))).high

-- it has no space
pub is_word-decimal : (n : ℕ) → IsNumber n → is_word (decimal n) ≡ true
is_word-decimal n h = without-decimal 32 (omega arith) n (omega (arith, h))

-- What `number` answers, by what it looked at.

pub not_plain : (bytes : List ℕ) → begins_plainly bytes ≡ false → Reads IsNumber decimal bytes None
not_plain bytes other n h e = false≢true (sym other ∙ ap begins_plainly (sym e) ∙ begins-decimal n h)

pub not_text : (bytes : List ℕ) → (IsUtf8 bytes → ⊥) → Reads IsNumber decimal bytes None
not_text bytes other n h e = other (subst IsUtf8 e (IsUtf8-from_ascii (decimal n) (IsAscii-decimal n (omega (arith, h)))))

pub parsed : {E : Type 0} (bytes : List ℕ) (r : Result ℕ E) → begins_plainly bytes ≡ true → ParsesUnsigned 32 10 bytes r → Reads IsNumber decimal bytes (result_ok r)
parsed {E} bytes (Ok n) plain parse =
    let p = parse_plain own {E = E} 32 bytes (Ok n) parse (not_plus bytes plain) in
    let small : digits_value 10 bytes < 2 ^ 64 = omega (arith, p.0.2) in
    (omega (arith, p.0.2, p.1), ap decimal p.1 ∙ decimal-digits_value own bytes p.0.0 p.0.1 (zero_alone bytes plain) small)
parsed {E} bytes (Err e) plain parse = λ n h same.
    let ok : ◌≡◌ {A = Result ℕ E} (Err e) (Ok n) = parse-decimal 32 n bytes (Err e) (omega (arith, h)) (omega (arith, h)) (sym same) parse in
    absurd cc

-- where no number stands before the first space, there is no field
pub no_field : {bytes word rest : List ℕ} → Splits bytes word rest → Reads IsNumber decimal word None → Reads IsField field_text bytes None
no_field s none v h e =
    let same = split_same s (decimal v.0) v.1 (is_word-decimal v.0 h) e in
    none v.0 h (sym same.word)

pub up_to_number : (high n : ℕ) → high < 2 ^ 32 → within 1 high n ≡ true → IsNumber n
up_to_number high n h w =
    let q : (leb 1 n ≡ true) × (leb n high ≡ true) = and_parts _ _ w in
    omega (arith, h, leb-true n high q.1)

-- a number past the highest
pub too_high : {bytes : List ℕ} (high n : ℕ) → high < 2 ^ 32 → IsNumber n → decimal n ≡ bytes → within 1 high n ≡ false → Reads (IsUpTo high) decimal bytes None
too_high high n h p e bad v w same =
    let number : IsNumber v = up_to_number high v h w in
    let one : v ≡ n = decimal_injective v n (omega (arith, number)) (omega (arith, p)) (same ∙ sym e) in
    false≢true (sym bad ∙ ap (within 1 high) (sym one) ∙ w)
