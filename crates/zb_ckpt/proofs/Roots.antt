-- The numbers of a root.
use Rattle.std.proofs.Common.{◌≡◌, ℕ, ◌*◌, ◌<◌, ◌≤◌, ◌^◌, ◌==◌, ◌&&◌, ◌%◌, nat_le, nat_lt, is_none, Bool, true, false, List, [], ◌∷◌, ◌++◌, length, slice_index, take, drop, Option, None, refl, sym, ◌∙◌, ap, subst, arith}
use Rattle.std.proofs.lemmas.Bool.{le-leb, lt-ltb, eq-eqb, and_from}
use Rattle.std.proofs.Math.Nat.{mul-le-mul_left, ℕ_set}
use Rattle.std.proofs.Math.Bridge.{le_prop}
use Rattle.zb_types.specs.declared.geometry.Geometry.{Geometry}
use Rattle.zb_types.specs.Limits.{InLimits, within, unless, first_bad}
use Rattle.std.proofs.lemmas.List.{append-nil}
use Rattle.byteorder.specs.Endian.{big_bytes}
use Rattle.zb_numbers.specs.Numbers.{number_text}
use Rattle.zb_numbers.proofs.Digits.{number_once}
use Rattle.zb_ckpt.specs.declared.numbers.Numbers.{Numbers}
use Rattle.zb_ckpt.specs.declared.root.Root.{Root}
use Rattle.zb_ckpt.specs.Root.{HaveRoom, IsRoot, first_wrong, numbers_of, payload_text}

unless_true : (holds : Bool) (field : ℕ) (others : Option ℕ) → holds ≡ true → others ≡ None → unless holds field others ≡ None
unless_true true field others h e = e
unless_true false field others h e = absurd cc

is_within : (low high n : ℕ) → low ≤ n → n ≤ high → within low high n ≡ true
is_within low high n a b = and_from _ _ (le-leb low n a) (le-leb n high b)

third_fine : (fragment block : ℕ) → 256 ≤ fragment → fragment ≤ 65536 → 64 ≤ block → fragment % block ≡ 0 → (within 256 65536 fragment && nat_lt 0 block && fragment % block == 0) ≡ true
third_fine fragment block a b c d = and_from _ _ (and_from _ _ (is_within 256 65536 fragment a b) (lt-ltb 0 block (omega (arith, c)))) (eq-eqb (fragment % block) 0 d)

fifth_fine : (slots space : ℕ) → 8 ≤ slots → space ≤ 67108864 → (nat_le 8 slots && nat_le space 67108864) ≡ true
fifth_fine slots space a b = and_from _ _ (le-leb 8 slots a) (le-leb space 67108864 b)

fine : (servers clients fragment block slots : ℕ) → InLimits servers clients fragment block slots → first_bad servers clients fragment block slots ≡ None
fine servers clients fragment block slots l =
    unless_true _ 1 _ (is_within 3 16 servers l.servers_low l.servers_high) (
    unless_true _ 2 _ (is_within 1 8 clients l.clients_low l.clients_high) (
    unless_true _ 3 _ (third_fine fragment block l.fragment_low l.fragment_high l.block_low l.whole) (
    unless_true _ 4 _ (is_within 64 4096 block l.block_low l.block_high) (
    unless_true _ 5 _ (fifth_fine slots (slots * fragment) l.slots_low l.space) refl))))

none_bad : (bad : Option ℕ) → bad ≡ None → (is_none bad && 0 == 0) ≡ true
none_bad bad e = ap (λ (x : Option ℕ). is_none x && 0 == 0) e

slot_fine : (n : ℕ) → n < 2 → nat_lt n 2 ≡ true
slot_fine n lt = lt-ltb n 2 lt

length_fine : (n : ℕ) → n ≤ 2 ^ 40 → nat_le n (2 ^ 40) ≡ true
length_fine n le = le-leb n (2 ^ 40) le

-- a root has no wrong field
pub none_wrong : (r : Root) → IsRoot r → first_wrong (numbers_of r) ≡ None
none_wrong r is =
    unless_true _ 3 _ (slot_fine r.slot is.slot) (
    unless_true _ 4 _ (none_bad _ (fine r.geo.servers r.geo.clients r.geo.fragment r.geo.block r.geo.slots r.geo.limits)) (
    unless_true _ 5 _ (length_fine r.length is.size) (
    unless_true _ 6 _ (is_within 1 (2 ^ 48) r.first is.low is.high) refl)))

few_slots : (slots fragment : ℕ) → 256 ≤ fragment → slots * fragment ≤ 67108864 → slots < 2 ^ 32
few_slots slots fragment a b = let h : slots * 256 ≤ slots * fragment = mul-le-mul_left slots a in omega (arith, h, b)

pub root_room : (r : Root) → IsRoot r → HaveRoom (numbers_of r)
root_room r is = record {
  head = omega arith;
  format = omega arith;
  fragment = omega (arith, r.geo.limits.fragment_high);
  block = omega (arith, r.geo.limits.block_high);
  slots = few_slots r.geo.slots r.geo.fragment r.geo.limits.fragment_low r.geo.limits.space;
  length = omega (arith, is.size);
  first = omega (arith, is.high);
}

heads : {x y : ℕ} {r s : List ℕ} → x ∷ r ≡ y ∷ s → (x ≡ y) × (r ≡ s)
heads e = (cc, cc)

-- a payload determines its numbers
pub payload_once : (m n : Numbers) → HaveRoom m → HaveRoom n → payload_text m ≡ payload_text n → m ≡ n
unfolding number_text
payload_once m n h g e =
    let head = number_once 4 m.head n.head _ _ (omega (arith, h.head)) (omega (arith, g.head)) e in
    let format = number_once 4 m.format n.format _ _ (omega (arith, h.format)) (omega (arith, g.format)) head.1 in
    let slot = heads format.1 in
    let servers = heads slot.1 in
    let clients = heads servers.1 in
    let zero_byte = heads clients.1 in
    let fragment = number_once 4 m.fragment n.fragment _ _ (omega (arith, h.fragment)) (omega (arith, g.fragment)) zero_byte.1 in
    let block = number_once 4 m.block n.block _ _ (omega (arith, h.block)) (omega (arith, g.block)) fragment.1 in
    let slots = number_once 4 m.slots n.slots _ _ (omega (arith, h.slots)) (omega (arith, g.slots)) block.1 in
    let length = number_once 8 m.length n.length _ _ (omega (arith, h.length)) (omega (arith, g.length)) slots.1 in
    let first = number_once 8 m.first n.first [] [] (omega (arith, h.first)) (omega (arith, g.first)) (ap (λ (l : List ℕ). l ++ []) length.1) in
    λ i. record {
      head = head.0 i;
      format = format.0 i;
      slot = slot.0 i;
      servers = servers.0 i;
      clients = clients.0 i;
      zero = zero_byte.0 i;
      fragment = fragment.0 i;
      block = block.0 i;
      slots = slots.0 i;
      length = length.0 i;
      first = first.0 i;
    }

-- The sizes of a system, which determine it.

record Sizes : Type 0 where
  servers : ℕ
  clients : ℕ
  fragment : ℕ
  block : ℕ
  slots : ℕ

abbrev Within : Sizes → Type 0
Within s = InLimits s.servers s.clients s.fragment s.block s.slots

abbrev sized : (s : Sizes) → Within s → Geometry
sized s h = record { servers = s.servers; clients = s.clients; fragment = s.fragment; block = s.block; slots = s.slots; limits = h }

abbrev sizes_of : Geometry → Sizes
sizes_of geo = record { servers = geo.servers; clients = geo.clients; fragment = geo.fragment; block = geo.block; slots = geo.slots }

one_limit : (s : Sizes) → IsProp (Within s)
one_limit s = hlevel (le_prop, ℕ_set)

same_sized : (s t : Sizes) (p : Within s) (q : Within t) → s ≡ t → sized s p ≡ sized t q
same_sized s t p q e = subst (λ (x : Sizes). (r : Within x) → sized s p ≡ sized x r) e (λ r. ap (sized s) (one_limit s p r)) q

same_geometry : (a b : Geometry) → sizes_of a ≡ sizes_of b → a ≡ b
same_geometry a b e = same_sized (sizes_of a) (sizes_of b) a.limits b.limits e

-- its numbers determine a root
pub same_root : (a b : Root) → numbers_of a ≡ numbers_of b → a ≡ b
same_root a b e =
    let geo = same_geometry a.geo b.geo (λ i. record { servers = (e i).servers; clients = (e i).clients; fragment = (e i).fragment; block = (e i).block; slots = (e i).slots }) in
    λ i. record { slot = (e i).slot; geo = geo i; length = (e i).length; first = (e i).first }

-- The bytes that are split off one behind the other are those of the numbers.

none_left : (l : List ℕ) → length l ≡ 0 → l ≡ []
none_left [] e = refl
none_left (x ∷ l) e = absurd (omega arith)

four_front : (l : List ℕ) → 4 ≤ length l → slice_index (take 4 l) 0 ∷ slice_index (take 4 l) 1 ∷ slice_index (take 4 l) 2 ∷ slice_index (take 4 l) 3 ∷ drop 4 l ≡ l
four_front [] le = absurd (omega arith)
four_front (a ∷ []) le = absurd (omega arith)
four_front (a ∷ b ∷ []) le = absurd (omega arith)
four_front (a ∷ b ∷ c ∷ []) le = absurd (omega arith)
four_front (a ∷ b ∷ c ∷ d ∷ l) le = refl

four_bytes : (bytes l rest : List ℕ) → 4 ≤ length l → bytes ≡ take 4 l → rest ≡ drop 4 l → slice_index bytes 0 ∷ slice_index bytes 1 ∷ slice_index bytes 2 ∷ slice_index bytes 3 ∷ rest ≡ l
four_bytes bytes l rest le front back =
    (λ i. slice_index (front i) 0 ∷ slice_index (front i) 1 ∷ slice_index (front i) 2 ∷ slice_index (front i) 3 ∷ back i) ∙ four_front l le

pub text_of : (head format fragment block slots long first : ℕ) (payload r1 r2 bytes r3 r4 r5 r6 r7 r8 : List ℕ)
    → number_text 4 head ++ r1 ≡ payload → number_text 4 format ++ r2 ≡ r1 → 4 ≤ length r2 → bytes ≡ take 4 r2 → r3 ≡ drop 4 r2
    → number_text 4 fragment ++ r4 ≡ r3 → number_text 4 block ++ r5 ≡ r4 → number_text 4 slots ++ r6 ≡ r5 → number_text 8 long ++ r7 ≡ r6 → number_text 8 first ++ r8 ≡ r7 → length r8 ≡ 0
    → payload_text (record { head = head; format = format; slot = slice_index bytes 0; servers = slice_index bytes 1; clients = slice_index bytes 2; zero = slice_index bytes 3; fragment = fragment; block = block; slots = slots; length = long; first = first }) ≡ payload
unfolding number_text
text_of head format fragment block slots long first payload r1 r2 bytes r3 r4 r5 r6 r7 r8 e1 e2 few front back e3 e4 e5 e6 e7 none =
    let h7 : big_bytes 8 first ≡ r7 = sym (append-nil (big_bytes 8 first)) ∙ ap (λ (l : List ℕ). big_bytes 8 first ++ l) (sym (none_left r8 none)) ∙ e7 in
    let h6 : big_bytes 8 long ++ big_bytes 8 first ≡ r6 = ap (λ (l : List ℕ). big_bytes 8 long ++ l) h7 ∙ e6 in
    let h5 : big_bytes 4 slots ++ (big_bytes 8 long ++ big_bytes 8 first) ≡ r5 = ap (λ (l : List ℕ). big_bytes 4 slots ++ l) h6 ∙ e5 in
    let h4 : big_bytes 4 block ++ (big_bytes 4 slots ++ (big_bytes 8 long ++ big_bytes 8 first)) ≡ r4 = ap (λ (l : List ℕ). big_bytes 4 block ++ l) h5 ∙ e4 in
    let h3 : big_bytes 4 fragment ++ (big_bytes 4 block ++ (big_bytes 4 slots ++ (big_bytes 8 long ++ big_bytes 8 first))) ≡ r3 = ap (λ (l : List ℕ). big_bytes 4 fragment ++ l) h4 ∙ e3 in
    let h2 = ap (λ (l : List ℕ). slice_index bytes 0 ∷ slice_index bytes 1 ∷ slice_index bytes 2 ∷ slice_index bytes 3 ∷ l) h3 ∙ four_bytes bytes r2 r3 few front back in
    ap (λ (l : List ℕ). big_bytes 4 head ++ (big_bytes 4 format ++ l)) h2 ∙ ap (λ (l : List ℕ). big_bytes 4 head ++ l) e2 ∙ e1
