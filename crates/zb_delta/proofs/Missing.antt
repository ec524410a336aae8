-- Where bytes begin with no delta.
use Rattle.std.proofs.Common.{◌≡◌, ℕ, ◌<◌, ◌≤◌, List, ◌++◌, length, Option, Some, None, refl, sym, ap, ◌∙◌, arith, length-append, drop}
use Rattle.std.specs.Option.{option_map}
use Rattle.std.proofs.lemmas.List.{drop_at}
use Rattle.zb_numbers.specs.Fronts.{ReadsFront}
use Rattle.zb_numbers.specs.Numbers.{number_text}
use Rattle.zb_numbers.proofs.Digits.{number_rest}
use Rattle.zb_numbers.proofs.Found.{found_again}
use Rattle.zb_delta.specs.declared.delta.Delta.{Delta}
use Rattle.zb_delta.specs.declared.delta.Delta.TheVariants.{Update, Clean, Reject}
use Rattle.zb_delta.specs.Spelling.{IsOld, IsBody, IsRead, IsDelta, delta_length, ptr_text, old_text, body_text, as_read, spelling_of_delta}
use Rattle.zb_delta.proofs.Lengths.{length-spelling_of_delta}
use Rattle.zb_delta.proofs.Once.{body_parts, delta_once}

-- no body, where behind its numbers no old pointer stands
pub no_body : (fid version block : ℕ) (bytes a b c : List ℕ) → number_text 4 fid ++ a ≡ bytes → number_text 8 version ++ b ≡ a → number_text 4 block ++ c ≡ b
    → ReadsFront IsOld old_text c None → ReadsFront IsBody body_text bytes None
no_body fid version block bytes a b c e f g none body rest h same =
    let one = number_rest 4 body.fid.0 fid _ a (sym (body_parts body rest) ∙ same ∙ sym e) in
    let two = number_rest 8 body.version version _ b (one ∙ sym f) in
    let three = number_rest 4 body.block block _ c (two ∙ sym g) in
    none body.was (ptr_text body.now ++ rest) h.was three

-- fewer bytes than a delta takes
pub too_short : (bytes : List ℕ) → length bytes < delta_length → ReadsFront IsRead spelling_of_delta bytes None
too_short bytes less delta rest h same = omega (arith, length-spelling_of_delta delta, simp length-append at (ap length same))

-- what is written is read without a reject's own old pointer
written_as_read : (delta : Delta) → spelling_of_delta (as_read delta) ≡ spelling_of_delta delta
unfolding spelling_of_delta
written_as_read (Update body) = refl
written_as_read (Clean body) = refl
written_as_read (Reject body table) = refl

is_read : (delta : Delta) → IsDelta delta → IsRead (as_read delta)
is_read (Update body) h = (h, refl)
is_read (Clean body) h = (h, refl)
is_read (Reject body table) h = (record { fid = h.fid; version = h.version; block = h.block; was = h.was; now = h.now }, refl)

pub read_again : (bytes : List ℕ) (found : Option (Delta × List ℕ)) → ReadsFront IsRead spelling_of_delta bytes found
    → (delta : Delta) (rest : List ℕ) → IsDelta delta → spelling_of_delta delta ++ rest ≡ bytes → found ≡ Some (as_read delta, rest)
read_again bytes found reads delta rest h e =
    found_again IsRead spelling_of_delta delta_once (as_read delta) rest bytes found (is_read delta h) (ap (λ (t : List ℕ). t ++ rest) (written_as_read delta) ∙ e) reads

-- what is left stands behind as many bytes as a delta takes
pub left_behind : (bytes : List ℕ) (delta : Delta) (rest : List ℕ) → IsRead delta × (spelling_of_delta delta ++ rest ≡ bytes) → IsRead delta × (spelling_of_delta delta ++ drop delta_length bytes ≡ bytes)
left_behind bytes delta rest h =
    let behind : drop delta_length bytes ≡ rest = ap (drop delta_length) (sym h.1) ∙ drop_at (spelling_of_delta delta) rest delta_length (length-spelling_of_delta delta) in
    (h.0, ap (λ (t : List ℕ). spelling_of_delta delta ++ t) behind ∙ h.1)

-- the same, with a count in place of what is left
pub counted : (a b : Delta) (r s : List ℕ) (n : ℕ) → ◌≡◌ {A = Option (Delta × List ℕ)} (Some (a, r)) (Some (b, s)) → ◌≡◌ {A = Option (Delta × ℕ)} (Some (a, n)) (Some (b, n))
counted a b r s n e = ap (option_map (λ (found : Delta × List ℕ). (found.0, n))) e

-- the bytes reach behind it
pub reaches : (bytes : List ℕ) (delta : Delta) (rest : List ℕ) → IsRead delta × (spelling_of_delta delta ++ rest ≡ bytes) → delta_length ≤ length bytes
reaches bytes delta rest h = omega (arith, length-spelling_of_delta delta, simp length-append at (ap length h.1))
