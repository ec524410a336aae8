-- How many bytes the parts of a delta take.
use Rattle.std.proofs.Common.{◌≡◌, length, Option, Some, None, refl, arith, length-append}
use Rattle.zb_types.specs.declared.ids.Ptr.{Ptr}
use Rattle.zb_numbers.proofs.Digits.{length-number_text}
use Rattle.zb_delta.specs.declared.delta.Body.{Body}
use Rattle.zb_delta.specs.declared.delta.Delta.{Delta}
use Rattle.zb_delta.specs.Spelling.{delta_length, ptr_text, old_text, body_text, body_of, spelling_of_delta}

pub length-ptr_text : (p : Ptr) → length (ptr_text p) ≡ 20
length-ptr_text p = simp (length-append, length-number_text)

pub length-old_text : (was : Option Ptr) → length (old_text was) ≡ 21
length-old_text None = refl
length-old_text (Some p) = omega (arith, length-ptr_text p)

pub length-body_text : (body : Body) → length (body_text body) ≡ 57
length-body_text body = simp (length-append, length-number_text, length-old_text)

pub length-spelling_of_delta : (delta : Delta) → length (spelling_of_delta delta) ≡ delta_length
unfolding spelling_of_delta
length-spelling_of_delta delta = omega (arith, length-body_text (body_of delta))
