-- A text is made of the spellings of bytes in one way.
use Rattle.std.proofs.Common.{◌≡◌, ◌≢◌, ℕ, ◌/◌, ◌%◌, ◌<◌, ◌≤◌, Bool, true, false, cond, List, [], ◌∷◌, ◌++◌, length, get_or, take, drop, ◌-◌, None, refl, sym, ap, ◌∙◌, inl, inr, append_assoc, arith}
use Rattle.std.specs.List.{flat_map}
use Rattle.std.proofs.lemmas.List.{take_rest}
use Rattle.std.proofs.lemmas.Bool.{cases_Bool, false≢true}
use Rattle.std.proofs.lemmas.Bool.Decides.{nat_tests}
use Rattle.zb_types.specs.Limits.{within}
use Rattle.zb_claims.specs.Reading.{Reads}
use Rattle.zb_claims.specs.Text.{hex_digit, byte_text, quoted, max_part, AreBytes}
use Rattle.zb_script.specs.Texts.{is_plain, IsFront, front_text, ended_text, IsText}

plain_text : (b : ℕ) → is_plain b ≡ true → byte_text b ≡ b ∷ []
plain_text b h = ap (λ (t : Bool). cond t (b ∷ []) (92 ∷ 120 ∷ hex_digit (b / 16) ∷ hex_digit (b % 16) ∷ [])) h

escaped_text : (b : ℕ) → is_plain b ≡ false → byte_text b ≡ 92 ∷ 120 ∷ hex_digit (b / 16) ∷ hex_digit (b % 16) ∷ []
escaped_text b h = ap (λ (t : Bool). cond t (b ∷ []) (92 ∷ 120 ∷ hex_digit (b / 16) ∷ hex_digit (b % 16) ∷ [])) h

no_backslash : (b : ℕ) → is_plain b ≡ true → b ≢ 92
no_backslash b h = grind (arith, nat_tests)

no_quote : (b : ℕ) → is_plain b ≡ true → b ≢ 34
no_quote b h = grind (arith, nat_tests)

same_digit : (a b : ℕ) → a < 16 → b < 16 → hex_digit a ≡ hex_digit b → a ≡ b
same_digit a b u w e = grind (arith, nat_tests)

same_byte : (a b : ℕ) → a / 16 ≡ b / 16 → a % 16 ≡ b % 16 → a ≡ b
same_byte a b high low = omega arith

-- the same byte, and the same rest
pub record SameFront (a b : ℕ) (x y : List ℕ) : Type 0 where
  pub byte : a ≡ b
  pub rest : x ≡ y

-- the first byte of a text, and what follows, are determined
pub front_once : (a b : ℕ) (x y : List ℕ) → a < 256 → b < 256 → byte_text a ++ x ≡ byte_text b ++ y → SameFront a b x y
front_once a b x y u w e = elim (cases_Bool (is_plain a)) [
  | inl p ↦ elim (cases_Bool (is_plain b)) [
    | inl q ↦
        let both : a ∷ x ≡ b ∷ y = ap (λ t. t ++ x) (sym (plain_text a p)) ∙ e ∙ ap (λ t. t ++ y) (plain_text b q) in
        record { byte = cc; rest = cc }
    | inr q ↦
        let both : a ∷ x ≡ 92 ∷ 120 ∷ hex_digit (b / 16) ∷ hex_digit (b % 16) ∷ y = ap (λ t. t ++ x) (sym (plain_text a p)) ∙ e ∙ ap (λ t. t ++ y) (escaped_text b q) in
        absurd (no_backslash a p cc)
  ]
  | inr p ↦ elim (cases_Bool (is_plain b)) [
    | inl q ↦
        let both : b ∷ y ≡ 92 ∷ 120 ∷ hex_digit (a / 16) ∷ hex_digit (a % 16) ∷ x = ap (λ t. t ++ y) (sym (plain_text b q)) ∙ sym e ∙ ap (λ t. t ++ x) (escaped_text a p) in
        absurd (no_backslash b q cc)
    | inr q ↦
        let both : 92 ∷ 120 ∷ hex_digit (a / 16) ∷ hex_digit (a % 16) ∷ x ≡ 92 ∷ 120 ∷ hex_digit (b / 16) ∷ hex_digit (b % 16) ∷ y = ap (λ t. t ++ x) (sym (escaped_text a p)) ∙ e ∙ ap (λ t. t ++ y) (escaped_text b q) in
        let high : hex_digit (a / 16) ≡ hex_digit (b / 16) = cc in
        let low : hex_digit (a % 16) ≡ hex_digit (b % 16) = cc in
        let rest : x ≡ y = cc in
        record { byte = same_byte a b (same_digit _ _ (omega arith) (omega arith) high) (same_digit _ _ (omega arith) (omega arith) low); rest = rest }
  ]
]

-- no byte's spelling begins with a quote
pub not_ended : (b : ℕ) (x y : List ℕ) → byte_text b ++ x ≡ 34 ∷ y → ⊥
not_ended b x y e = elim (cases_Bool (is_plain b)) [
  | inl p ↦
      let both : b ∷ x ≡ 34 ∷ y = ap (λ t. t ++ x) (sym (plain_text b p)) ∙ e in
      no_quote b p cc
  | inr p ↦
      let both : 92 ∷ 120 ∷ hex_digit (b / 16) ∷ hex_digit (b % 16) ∷ x ≡ 34 ∷ y = ap (λ t. t ++ x) (sym (escaped_text b p)) ∙ e in
      let heads : ◌≡◌ {A = ℕ} 92 34 = cc in
      absurd (omega arith)
]

-- the bytes that are left of a text behind these
pub record Left (rest : List ℕ) : Type 0 where
  pub bytes : List ℕ
  pub valid : AreBytes bytes
  pub text : ended_text bytes ≡ rest

pub left_behind : (bytes all rest : List ℕ) → AreBytes bytes → AreBytes all → ended_text all ≡ flat_map byte_text bytes ++ rest → Left rest
left_behind [] all rest p q e = record { bytes = all; valid = q; text = e }
left_behind (b ∷ bytes) [] rest p q e = absurd (not_ended b (flat_map byte_text bytes ++ rest) [] (sym (append_assoc (byte_text b) (flat_map byte_text bytes) rest) ∙ sym e))
left_behind (b ∷ bytes) (a ∷ all) rest p q e =
    let both : byte_text a ++ ended_text all ≡ byte_text b ++ (flat_map byte_text bytes ++ rest) = sym (append_assoc (byte_text a) (flat_map byte_text all) (34 ∷ [])) ∙ e ∙ append_assoc (byte_text b) (flat_map byte_text bytes) rest in
    left_behind bytes all rest p.1 q.1 (front_once a b _ _ q.0 p.0 both).rest

both_same : {c d : ℕ} {a b : List ℕ} → c ≡ d → a ≡ b → c ∷ a ≡ d ∷ b
both_same e h = cc

-- bytes are determined by their text
pub text_once : (a b : List ℕ) → AreBytes a → AreBytes b → ended_text a ≡ ended_text b → a ≡ b
text_once [] [] p q e = refl
text_once [] (d ∷ b) p q e = absurd (not_ended d (flat_map byte_text b ++ 34 ∷ []) [] (sym (append_assoc (byte_text d) (flat_map byte_text b) (34 ∷ [])) ∙ sym e))
text_once (c ∷ a) [] p q e = absurd (not_ended c (flat_map byte_text a ++ 34 ∷ []) [] (sym (append_assoc (byte_text c) (flat_map byte_text a) (34 ∷ [])) ∙ e))
text_once (c ∷ a) (d ∷ b) p q e =
    let both : byte_text c ++ ended_text a ≡ byte_text d ++ ended_text b = sym (append_assoc (byte_text c) (flat_map byte_text a) (34 ∷ [])) ∙ e ∙ append_assoc (byte_text d) (flat_map byte_text b) (34 ∷ []) in
    let s : SameFront c d (ended_text a) (ended_text b) = front_once c d _ _ p.0 q.0 both in
    both_same s.byte (text_once a b p.1 q.1 s.rest)

-- where no byte stands first and no quote alone, the text isn't ended
unended_at : (bytes rest : List ℕ) → Reads IsFront front_text rest None → rest ≢ 34 ∷ [] → AreBytes bytes → ended_text bytes ≡ rest → ⊥
unended_at [] rest none other p e = other (sym e)
unended_at (b ∷ bytes) rest none other p e = none (b, ended_text bytes) p.0 (sym (append_assoc (byte_text b) (flat_map byte_text bytes) (34 ∷ [])) ∙ e)

pub unended : (rest : List ℕ) → Reads IsFront front_text rest None → rest ≢ 34 ∷ [] → Left rest → ⊥
unended rest none other left = unended_at left.bytes rest none other left.valid left.text

-- a text that is read, but is empty or too long
pub bad_length : (bytes : List ℕ) (word : List ℕ) → within 1 max_part (length bytes) ≡ false → AreBytes bytes → ended_text bytes ≡ word → Reads IsText quoted (34 ∷ word) None
bad_length bytes word bad p e v h same =
    let one : v ≡ bytes = text_once v bytes h.1 p (cc (same, e)) in
    false≢true (sym bad ∙ ap (λ t. within 1 max_part (length t)) (sym one) ∙ h.0)

pub bad_text : (bytes : List ℕ) (word : List ℕ) → 1 ≤ length word → get_or word 0 0 ≡ 34 → within 1 max_part (length bytes) ≡ false → AreBytes bytes → ended_text bytes ≡ take (length word - 1) (drop 1 word) → Reads IsText quoted word None
bad_text bytes [] some quote bad p e = absurd (omega arith)
bad_text bytes (b ∷ word) some quote bad p e = λ v h same.
    bad_length bytes word bad p (e ∙ take_rest (b ∷ word) 1) v h (same ∙ ap (λ x. x ∷ word) quote)
