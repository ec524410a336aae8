-- A header's payload says the header.
use Rattle.std.proofs.Common.{◌≡◌, ℕ, [], ◌∷◌, ◌++◌, replicate, refl, ◌∙◌, arith}
use Rattle.std.proofs.lemmas.Bool.Decides.{nat_tests}
use Rattle.byteorder.specs.Endian.{big_bytes, big_from}
use Rattle.byteorder.specs.Numbers.{big_number-reads_back}
use Rattle.zb_types.specs.declared.ids.FragId.{FragId}
use Rattle.zb_slots.specs.declared.header.Header.TheVariants.{Free, Share, Parity}
use Rattle.zb_slots.specs.Headers.{name_in, judged, said, payload_text, Fit}
use Rattle.zb_slots.specs.Laws.{ReadsBack}

log_back : (id : FragId) (kind turn length : ℕ) → Fit id length → big_from 0 4 (payload_text id kind turn length) ≡ id.log.0
log_back id kind turn length room = big_number-reads_back 4 id.log.0 (big_bytes 8 id.stripe ++ (id.index ∷ kind ∷ turn ∷ 0 ∷ []) ++ big_bytes 4 length ++ replicate 20 0) (omega (arith, room.log))

stripe_back : (id : FragId) (kind turn length : ℕ) → Fit id length → big_from 4 8 (payload_text id kind turn length) ≡ id.stripe
stripe_back id kind turn length room = big_number-reads_back 8 id.stripe ((id.index ∷ kind ∷ turn ∷ 0 ∷ []) ++ big_bytes 4 length ++ replicate 20 0) (omega (arith, room.stripe))

length_back : (id : FragId) (kind turn length : ℕ) → Fit id length → big_from 16 4 (payload_text id kind turn length) ≡ length
length_back id kind turn length room = big_number-reads_back 4 length (replicate 20 0) (omega (arith, room.size))

name_back : (id : FragId) (kind turn length : ℕ) → Fit id length → name_in (payload_text id kind turn length) ≡ id
name_back id kind turn length room = λ i. record { log = record { 0 = log_back id kind turn length room i }; stripe = stripe_back id kind turn length room i; index = id.index }

said_is : (n f : ℕ) (id : FragId) (kind turn length : ℕ) → Fit id length → said n f (payload_text id kind turn length) ≡ judged n f kind id turn length
said_is n f id kind turn length room = λ i. judged n f kind (name_back id kind turn length room i) turn (length_back id kind turn length room i)

pub reads_back : ReadsBack
reads_back n f Free room is = refl
reads_back n f (Share id length) room is = said_is n f id 1 0 length room ∙ (let a = is.0 in let b = is.1 in grind (arith, nat_tests))
reads_back n f (Parity id turn length) room is = said_is n f id 2 turn length room ∙ (let a = is.0 in let b = is.1.0 in let c = is.1.1 in grind (arith, nat_tests))
