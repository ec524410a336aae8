-- The lines before a script's rows: those that are skipped, and the header.
use Rattle.std.proofs.Common.{◌≡◌, ℕ, ◌*◌, ◌^◌, ◌<◌, ◌≤◌, not, ◌&&◌, eqb, List, [], ◌∷◌, ◌++◌, length, refl, sym, ap, subst, ◌∙◌, append_assoc, arith}
use Rattle.std.specs.Prelude.{codes, IsTrue, nat_le}
use Rattle.std.specs.List.{flat_map, list_any, AllByRecursion}
use Rattle.std.specs.Fmt.{decimal}
use Rattle.std.proofs.lemmas.Fmt.{decimal_injective}
use Rattle.std.proofs.Math.Nat.{mul-le-mul_left, ℕ_set}
use Rattle.std.proofs.Math.Bridge.{le_prop}
use Rattle.zb_types.specs.declared.geometry.Geometry.{Geometry}
use Rattle.zb_types.specs.Limits.{InLimits}
use Rattle.zb_claims.specs.Text.{newline, num, header_text}
use Rattle.zb_claims.specs.Script.{is_comment, ended_line}
use Rattle.zb_laws.proofs.Tests.{first_true, equal}
use Rattle.zb_laws.proofs.Bytes.{cut, decimal_free}
use Rattle.zb_laws.proofs.Spelled.{apart, strip}
use Rattle.zb_laws.proofs.Splits.{clean-comment}

-- The sizes.

pub record Sizes : Type 0 where
  pub servers : ℕ
  pub clients : ℕ
  pub fragment : ℕ
  pub block : ℕ
  pub slots : ℕ

abbrev Within : Sizes → Type 0
Within s = InLimits s.servers s.clients s.fragment s.block s.slots

abbrev sized : (s : Sizes) → Within s → Geometry
sized s h = record { servers = s.servers; clients = s.clients; fragment = s.fragment; block = s.block; slots = s.slots; limits = h }

abbrev sizes_of : Geometry → Sizes
sizes_of geo = record { servers = geo.servers; clients = geo.clients; fragment = geo.fragment; block = geo.block; slots = geo.slots }

one_limit : (s : Sizes) → IsProp (Within s)
one_limit s = hlevel (le_prop, ℕ_set)

same_sized : (s t : Sizes) (p : Within s) (q : Within t) → s ≡ t → sized s p ≡ sized t q
same_sized s t p q e = subst (λ (x : Sizes). (r : Within x) → sized s p ≡ sized x r) e (λ r. ap (sized s) (one_limit s p r)) q

pub same_geometry : (a b : Geometry) → sizes_of a ≡ sizes_of b → a ≡ b
same_geometry a b e = same_sized (sizes_of a) (sizes_of b) a.limits b.limits e

-- The header.

-- what stands behind each word of the header
abbrev from_slots : Sizes → List ℕ → List ℕ
from_slots s rest = decimal s.slots ++ 10 ∷ rest

abbrev from_block : Sizes → List ℕ → List ℕ
from_block s rest = decimal s.block ++ 32 ∷ (codes "slots " ++ from_slots s rest)

abbrev from_fragment : Sizes → List ℕ → List ℕ
from_fragment s rest = decimal s.fragment ++ 32 ∷ (codes "block " ++ from_block s rest)

abbrev from_clients : Sizes → List ℕ → List ℕ
from_clients s rest = decimal s.clients ++ 32 ∷ (codes "fragment " ++ from_fragment s rest)

abbrev from_servers : Sizes → List ℕ → List ℕ
from_servers s rest = decimal s.servers ++ 32 ∷ (codes "clients " ++ from_clients s rest)

regroup : (u a v b w c x d y e z rest : List ℕ) → ((((((((((u ++ a) ++ v) ++ b) ++ w) ++ c) ++ x) ++ d) ++ y) ++ e) ++ z) ++ rest ≡ u ++ (a ++ (v ++ (b ++ (w ++ (c ++ (x ++ (d ++ (y ++ (e ++ (z ++ rest))))))))))
regroup u a v b w c x d y e z rest = simp append_assoc

header_words : (geo : Geometry) (rest : List ℕ) → header_text geo ++ rest ≡ codes "zebra 1 servers " ++ from_servers (sizes_of geo) rest
header_words geo rest = regroup (codes "zebra 1 servers") (num geo.servers) (codes " clients") (num geo.clients) (codes " fragment") (num geo.fragment) (codes " block") (num geo.block) (codes " slots") (num geo.slots) newline rest

number_cut : (s a b : ℕ) (xs ys : List ℕ) → s < 48 → a < 2 ^ 64 → b < 2 ^ 64 → decimal a ++ s ∷ xs ≡ decimal b ++ s ∷ ys → (a ≡ b) × (xs ≡ ys)
number_cut s a b xs ys small p q e =
    let parts = cut s (decimal a) (decimal b) xs ys (decimal_free s a small p) (decimal_free s b small q) e in
    (decimal_injective a b p q parts.0, parts.1)

-- each size is small
record AreSmall (s : Sizes) : Type 0 where
  servers : s.servers < 2 ^ 64
  clients : s.clients < 2 ^ 64
  fragment : s.fragment < 2 ^ 64
  block : s.block < 2 ^ 64
  slots : s.slots < 2 ^ 64

few_slots : (slots fragment : ℕ) → 256 ≤ fragment → slots * fragment ≤ 67108864 → slots < 2 ^ 64
few_slots slots fragment low space = let h : slots * 256 ≤ slots * fragment = mul-le-mul_left slots low in omega (arith, h, space)

are_small : (s : Sizes) → Within s → AreSmall s
are_small s h = record {
  servers = omega (arith, h.servers_high);
  clients = omega (arith, h.clients_high);
  fragment = omega (arith, h.fragment_high);
  block = omega (arith, h.block_high);
  slots = few_slots s.slots s.fragment h.fragment_low h.space;
}

same_sizes : (s t : Sizes) → s.servers ≡ t.servers → s.clients ≡ t.clients → s.fragment ≡ t.fragment → s.block ≡ t.block → s.slots ≡ t.slots → s ≡ t
same_sizes s t a b c d e =
    ap (λ (n : ℕ). let x : Sizes = record s { servers = n } in x) a
    ∙ ap (λ (n : ℕ). let x : Sizes = record s { servers = t.servers; clients = n } in x) b
    ∙ ap (λ (n : ℕ). let x : Sizes = record t { fragment = n; block = s.block; slots = s.slots } in x) c
    ∙ ap (λ (n : ℕ). let x : Sizes = record t { block = n; slots = s.slots } in x) d
    ∙ ap (λ (n : ℕ). let x : Sizes = record t { slots = n } in x) e

sizes_cut : (s t : Sizes) (xs ys : List ℕ) → AreSmall s → AreSmall t → from_servers s xs ≡ from_servers t ys → (s ≡ t) × (xs ≡ ys)
sizes_cut s t xs ys p q e =
    let servers = number_cut 32 s.servers t.servers (codes "clients " ++ from_clients s xs) (codes "clients " ++ from_clients t ys) (omega arith) p.servers q.servers e in
    let clients = number_cut 32 s.clients t.clients (codes "fragment " ++ from_fragment s xs) (codes "fragment " ++ from_fragment t ys) (omega arith) p.clients q.clients (strip 8 (codes "clients " ++ from_clients s xs) (codes "clients " ++ from_clients t ys) servers.1) in
    let fragment = number_cut 32 s.fragment t.fragment (codes "block " ++ from_block s xs) (codes "block " ++ from_block t ys) (omega arith) p.fragment q.fragment (strip 9 (codes "fragment " ++ from_fragment s xs) (codes "fragment " ++ from_fragment t ys) clients.1) in
    let block = number_cut 32 s.block t.block (codes "slots " ++ from_slots s xs) (codes "slots " ++ from_slots t ys) (omega arith) p.block q.block (strip 6 (codes "block " ++ from_block s xs) (codes "block " ++ from_block t ys) fragment.1) in
    let slots = number_cut 10 s.slots t.slots xs ys (omega arith) p.slots q.slots (strip 6 (codes "slots " ++ from_slots s xs) (codes "slots " ++ from_slots t ys) block.1) in
    (same_sizes s t servers.0 clients.0 fragment.0 block.0 slots.0, slots.1)

pub header_cut : (a b : Geometry) (xs ys : List ℕ) → header_text a ++ xs ≡ header_text b ++ ys → (a ≡ b) × (xs ≡ ys)
header_cut a b xs ys e =
    let words : codes "zebra 1 servers " ++ from_servers (sizes_of a) xs ≡ codes "zebra 1 servers " ++ from_servers (sizes_of b) ys = sym (header_words a xs) ∙ e ∙ header_words b ys in
    let parts = sizes_cut (sizes_of a) (sizes_of b) xs ys (are_small (sizes_of a) a.limits) (are_small (sizes_of b) b.limits) (strip 16 (codes "zebra 1 servers " ++ from_servers (sizes_of a) xs) (codes "zebra 1 servers " ++ from_servers (sizes_of b) ys) words) in
    (same_geometry a b parts.0, parts.1)

-- The lines before it.

pub no_header : {X : Type 0} (head : List ℕ) (geo : Geometry) (xs ys : List ℕ) → IsTrue (is_comment head) → ended_line head ++ xs ≡ header_text geo ++ ys → X
no_header [] geo xs ys h e = apart 1 (10 ∷ xs) (header_text geo ++ ys) refl refl e
no_header (b ∷ bytes) geo xs ys h e =
    let hash : b ≡ 35 = equal b 35 (first_true (eqb b 35) (not (list_any (λ c. eqb c 10) bytes)) (first_true (eqb b 35 && not (list_any (λ c. eqb c 10) bytes)) (nat_le (length bytes) 16999) h)) in
    apart 1 (35 ∷ (bytes ++ newline) ++ xs) (header_text geo ++ ys) refl refl (subst (λ (c : ℕ). c ∷ (bytes ++ newline) ++ xs ≡ header_text geo ++ ys) hash e)

-- the first of two such lines
pub head_cut : (h o : List ℕ) (heads others : List (List ℕ)) (xs ys : List ℕ) → IsTrue (is_comment h) → IsTrue (is_comment o) → flat_map ended_line (h ∷ heads) ++ xs ≡ flat_map ended_line (o ∷ others) ++ ys → (h ≡ o) × (flat_map ended_line heads ++ xs ≡ flat_map ended_line others ++ ys)
head_cut h o heads others xs ys p q e =
    let mine : List ℕ = flat_map ended_line heads ++ xs in
    let theirs : List ℕ = flat_map ended_line others ++ ys in
    let f : h ++ 10 ∷ mine ≡ o ++ 10 ∷ theirs = sym (append_assoc h newline mine) ∙ sym (append_assoc (ended_line h) (flat_map ended_line heads) xs) ∙ e ∙ append_assoc (ended_line o) (flat_map ended_line others) ys ∙ append_assoc o newline theirs in
    cut 10 h o mine theirs (clean-comment h p) (clean-comment o q) f

pub record SameHeads (heads others : List (List ℕ)) (a b : Geometry) (xs ys : List ℕ) : Type 0 where
  pub same_heads : heads ≡ others
  pub geometry : a ≡ b
  pub rest : xs ≡ ys

pub heads_cut : (heads others : List (List ℕ)) (a b : Geometry) (xs ys : List ℕ) → AllByRecursion (λ bytes. IsTrue (is_comment bytes)) heads → AllByRecursion (λ bytes. IsTrue (is_comment bytes)) others
    → flat_map ended_line heads ++ (header_text a ++ xs) ≡ flat_map ended_line others ++ (header_text b ++ ys) → SameHeads heads others a b xs ys
heads_cut [] [] a b xs ys p q e = let parts = header_cut a b xs ys e in record { same_heads = refl; geometry = parts.0; rest = parts.1 }
heads_cut [] (o ∷ others) a b xs ys p q e = no_header o a (flat_map ended_line others ++ (header_text b ++ ys)) xs q.0 (sym (e ∙ append_assoc (ended_line o) (flat_map ended_line others) (header_text b ++ ys)))
heads_cut (h ∷ heads) [] a b xs ys p q e = no_header h b (flat_map ended_line heads ++ (header_text a ++ xs)) ys p.0 (sym (append_assoc (ended_line h) (flat_map ended_line heads) (header_text a ++ xs)) ∙ e)
heads_cut (h ∷ heads) (o ∷ others) a b xs ys p q e =
    let first = head_cut h o heads others (header_text a ++ xs) (header_text b ++ ys) p.0 q.0 e in
    let later = heads_cut heads others a b xs ys p.1 q.1 first.1 in
    record { same_heads = ap (λ (l : List ℕ). l ∷ heads) first.0 ∙ ap (λ (l : List (List ℕ)). o ∷ l) later.same_heads; geometry = later.geometry; rest = later.rest }
