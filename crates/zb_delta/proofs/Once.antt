-- The bytes of a delta, and of each of its parts, determine it.
use Rattle.std.proofs.Common.{◌≡◌, ℕ, List, ◌∷◌, ◌++◌, Some, None, refl, sym, ap, ◌∙◌, append_assoc}
use Rattle.zb_numbers.specs.Fronts.{IsPrefixFree}
use Rattle.zb_numbers.specs.Numbers.{number_text}
use Rattle.zb_numbers.proofs.Digits.{number_once}
use Rattle.zb_delta.specs.declared.delta.Body.{Body}
use Rattle.zb_delta.specs.declared.delta.Delta.{Delta}
use Rattle.zb_delta.specs.declared.delta.Delta.TheVariants.{Update, Clean, Reject}
use Rattle.zb_delta.specs.Spelling.{IsPtr, IsOld, IsBody, IsRead, ptr_text, old_text, body_text, kind_of, body_of, as_read, spelling_of_delta}

ptr_once : IsPrefixFree IsPtr ptr_text
ptr_once p q r s h g e =
    let log = number_once 4 p.log.0 q.log.0 _ _ h.log g.log (simp append_assoc at e) in
    let stripe = number_once 8 p.stripe q.stripe _ _ h.stripe g.stripe log.1 in
    let offset = number_once 4 p.offset q.offset _ _ h.offset g.offset stripe.1 in
    let len = number_once 4 p.len q.len _ _ h.len g.len offset.1 in
    (λ i. record { log = record { 0 = log.0 i }; stripe = stripe.0 i; offset = offset.0 i; len = len.0 i }, len.1)

-- the first bytes are the same, and so is what stands behind them
heads : {x y : ℕ} {r s : List ℕ} → x ∷ r ≡ y ∷ s → (x ≡ y) × (r ≡ s)
heads e = (cc, cc)

old_once : IsPrefixFree IsOld old_text
old_once None None r s h g e = (refl, cc)
old_once None (Some q) r s h g e = absurd cc
old_once (Some p) None r s h g e = absurd cc
old_once (Some p) (Some q) r s h g e =
    let same = ptr_once p q r s h g (heads e).1 in
    (ap Some same.0, same.1)

regroup : (a b c d e r : List ℕ) → (a ++ (b ++ (c ++ (d ++ e)))) ++ r ≡ a ++ (b ++ (c ++ (d ++ (e ++ r))))
regroup a b c d e r = simp append_assoc

-- a body part by part
pub body_parts : (body : Body) (r : List ℕ) → body_text body ++ r ≡ number_text 4 body.fid.0 ++ (number_text 8 body.version ++ (number_text 4 body.block ++ (old_text body.was ++ (ptr_text body.now ++ r))))
body_parts body r = regroup (number_text 4 body.fid.0) (number_text 8 body.version) (number_text 4 body.block) (old_text body.was) (ptr_text body.now) r

body_once : IsPrefixFree IsBody body_text
body_once a b r s h g e =
    let fid = number_once 4 a.fid.0 b.fid.0 _ _ h.fid g.fid (sym (body_parts a r) ∙ e ∙ body_parts b s) in
    let version = number_once 8 a.version b.version _ _ h.version g.version fid.1 in
    let block = number_once 4 a.block b.block _ _ h.block g.block version.1 in
    let was = old_once a.was b.was _ _ h.was g.was block.1 in
    let now = ptr_once a.now b.now r s h.now g.now was.1 in
    (λ i. record { fid = record { 0 = fid.0 i }; version = version.0 i; block = block.0 i; was = was.0 i; now = now.0 i }, now.1)

-- kind and body determine what is read
kind_once : (a b : Delta) → kind_of a ≡ kind_of b → body_of a ≡ body_of b → as_read a ≡ as_read b
kind_once (Update x) (Update y) k e = ap Update e
kind_once (Clean x) (Clean y) k e = ap Clean e
kind_once (Reject x s) (Reject y t) k e = λ i. Reject (record (e i) { was = None }) (e i).was
kind_once (Update x) (Clean y) k e = absurd cc
kind_once (Update x) (Reject y t) k e = absurd cc
kind_once (Clean x) (Update y) k e = absurd cc
kind_once (Clean x) (Reject y t) k e = absurd cc
kind_once (Reject x s) (Update y) k e = absurd cc
kind_once (Reject x s) (Clean y) k e = absurd cc

pub delta_once : IsPrefixFree IsRead spelling_of_delta
unfolding spelling_of_delta
delta_once a b r s h g e =
    let kind = (heads e).0 in
    let body = body_once (body_of a) (body_of b) r s h.0 g.0 (heads e).1 in
    (sym h.1 ∙ kind_once a b kind body.0 ∙ g.1, body.1)
