-- A header is the text of its sizes.
use Rattle.std.proofs.Common.{◌≡◌, ℕ, ◌*◌, ◌≤◌, Bool, true, false, ◌%◌, List, ◌++◌, Option, Some, None, Result, Ok, Err, IfOk, MatchResult, codes, refl, sym, ap, ◌∙◌, append_assoc, arith}
use Rattle.std.specs.Fmt.{decimal}
use Rattle.std.specs.Result.{result_ok}
use Rattle.std.proofs.lemmas.Bool.{le-leb, lt-ltb, eq-eqb, and_from}
use Rattle.std.proofs.lemmas.List.{append_cancel_left, append_cancel_right}
use Rattle.std.proofs.lemmas.Fmt.{decimal_injective}
use Rattle.std.proofs.Math.Nat.{mul-le-mul_left}
use Rattle.zb_types.specs.declared.geometry.Geometry.{Geometry}
use Rattle.zb_types.specs.declared.geometry.BadGeometry.{BadGeometry}
use Rattle.zb_types.specs.Limits.{InLimits, within, unless, first_bad}
use Rattle.zb_claims.specs.Reading.{Reads}
use Rattle.zb_claims.specs.Text.{newline, num, header_text}
use Rattle.zb_script.specs.Spaces.{Splits, IsRest, behind_text}
use Rattle.zb_script.specs.Numbers.{IsNumber, IsField, field_text}
use Rattle.zb_script.specs.Headers.{named_text, AreNumbers, slots_text, block_text, fragment_text, clients_text, sizes_text, IsGeometry}
use Rattle.zb_script.specs.declared.header.Sizes.{Sizes}
use Rattle.zb_script.proofs.Splitting.{SameSplit, split_same}
use Rattle.zb_script.proofs.Decimals.{is_word-decimal}

-- a field behind its name
pub behind_name : {bytes : List ℕ} (name rest : List ℕ) → behind_text name rest ≡ bytes → (found : Option (ℕ × List ℕ)) → Reads IsField field_text rest found → Reads IsField (named_text name) bytes found
behind_name name rest e (Some field) h = (h.0, ap (λ t. name ++ t) h.1 ∙ e)
behind_name name rest e None none = λ field h same. none field h (append_cancel_left name (field_text field) rest (same ∙ sym e))

-- a named number was read, and this is left
pub record Named (name bytes : List ℕ) (n : ℕ) (rest : List ℕ) : Type 0 where
  pub fits : IsNumber n
  pub text : named_text name (n, rest) ≡ bytes

named_once : {name bytes rest : List ℕ} {n : ℕ} → Named name bytes n rest → (m : ℕ) (x : List ℕ) → IsNumber m → named_text name (m, x) ≡ bytes → SameSplit (decimal n) (decimal m) rest x
named_once {name} {bytes} {rest} {n} a m x h e =
    let s : Splits (field_text (n, rest)) (decimal n) rest = record { whole = refl; first = is_word-decimal n a.fits } in
    split_same s (decimal m) x (is_word-decimal m h) (append_cancel_left name (field_text (m, x)) (field_text (n, rest)) (e ∙ sym a.text))

-- the names of the sizes, as they stand in a header
abbrev first : List ℕ
first = codes "zebra 1 servers "

abbrev second : List ℕ
second = codes "clients "

abbrev third : List ℕ
third = codes "fragment "

abbrev fourth : List ℕ
fourth = codes "block "

-- What stands behind each number, where these are the sizes.

module _ {words : List ℕ} (sizes : Sizes) (fit : AreNumbers sizes) (e : sizes_text sizes ≡ words) where
  behind_servers : {n : ℕ} {rest : List ℕ} → Named first words n rest → SameSplit (decimal n) (decimal sizes.servers) rest (clients_text sizes)
  behind_servers a = named_once a sizes.servers (clients_text sizes) fit.servers_fit e

  behind_clients : {n m : ℕ} {rest more : List ℕ} → Named first words n rest → Named second rest m more → SameSplit (decimal m) (decimal sizes.clients) more (fragment_text sizes)
  behind_clients a b = named_once b sizes.clients (fragment_text sizes) fit.clients_fit (sym (behind_servers a).rest)

  behind_fragment : {n m k : ℕ} {rest more others : List ℕ} → Named first words n rest → Named second rest m more → Named third more k others → SameSplit (decimal k) (decimal sizes.fragment) others (block_text sizes)
  behind_fragment a b c = named_once c sizes.fragment (block_text sizes) fit.fragment_fits (sym (behind_clients a b).rest)

  behind_block : {n m k l : ℕ} {rest more others last : List ℕ} → Named first words n rest → Named second rest m more → Named third more k others → Named fourth others l last → SameSplit (decimal l) (decimal sizes.block) last (slots_text sizes)
  behind_block a b c d = named_once d sizes.block (slots_text sizes) fit.block_fits (sym (behind_fragment a b c).rest)

-- Where a number is missing there are no sizes.

pub no_servers : {words : List ℕ} → Reads IsField (named_text first) words None → Reads AreNumbers sizes_text words None
no_servers none sizes h e = none (sizes.servers, clients_text sizes) h.servers_fit e

pub no_clients : {words rest : List ℕ} {n : ℕ} → Named first words n rest → Reads IsField (named_text second) rest None → Reads AreNumbers sizes_text words None
no_clients a none sizes h e = none (sizes.clients, fragment_text sizes) h.clients_fit (sym (behind_servers sizes h e a).rest)

pub no_fragment : {words rest more : List ℕ} {n m : ℕ} → Named first words n rest → Named second rest m more → Reads IsField (named_text third) more None → Reads AreNumbers sizes_text words None
no_fragment a b none sizes h e = none (sizes.fragment, block_text sizes) h.fragment_fits (sym (behind_clients sizes h e a b).rest)

pub no_block : {words rest more others : List ℕ} {n m k : ℕ} → Named first words n rest → Named second rest m more → Named third more k others → Reads IsField (named_text fourth) others None → Reads AreNumbers sizes_text words None
no_block a b c none sizes h e = none (sizes.block, slots_text sizes) h.block_fits (sym (behind_fragment sizes h e a b c).rest)

pub no_slots : {words rest more others last : List ℕ} {n m k l : ℕ} → Named first words n rest → Named second rest m more → Named third more k others → Named fourth others l last → Reads IsRest (behind_text (codes "slots ")) last None → Reads AreNumbers sizes_text words None
no_slots a b c d none sizes h e = none (decimal sizes.slots) tt (sym (behind_block sizes h e a b c d).rest)

pub no_last : {words rest more others last : List ℕ} {n m k l : ℕ} → Named first words n rest → Named second rest m more → Named third more k others → Named fourth others l last → (digits : List ℕ) → behind_text (codes "slots ") digits ≡ last → Reads IsNumber decimal digits None → Reads AreNumbers sizes_text words None
no_last a b c d digits w none sizes h e =
    none sizes.slots h.slots_fit (append_cancel_left (codes "slots ") (decimal sizes.slots) digits (sym (behind_block sizes h e a b c d).rest ∙ sym w))

-- The sizes of a system.

abbrev pub sizes_of : Geometry → Sizes
sizes_of geo = record { servers = geo.servers; clients = geo.clients; fragment = geo.fragment; block = geo.block; slots = geo.slots }

times_more : (a b : ℕ) → 1 ≤ b → a ≤ a * b
times_more a b h = omega (arith, mul-le-mul_left a h)

pub are_numbers : (geo : Geometry) → AreNumbers (sizes_of geo)
are_numbers geo =
    let l = geo.limits in
    record {
      servers_fit = omega (arith, l.servers_high);
      clients_fit = omega (arith, l.clients_high);
      fragment_fits = omega (arith, l.fragment_high);
      block_fits = omega (arith, l.block_high);
      slots_fit = omega (arith, l.space, times_more geo.slots geo.fragment (omega (arith, l.fragment_low)));
    }

regrouped : (a s b c d f e g h n l : List ℕ) → a ++ s ++ b ++ c ++ d ++ f ++ e ++ g ++ h ++ n ++ l ≡ a ++ (s ++ (b ++ (c ++ (d ++ (f ++ (e ++ (g ++ (h ++ n)))))))) ++ l
regrouped a s b c d f e g h n l = simp append_assoc

pub header_parts : (geo : Geometry) → header_text geo ≡ sizes_text (sizes_of geo) ++ newline
header_parts geo =
    regrouped (codes "zebra 1 servers") (num geo.servers) (codes " clients") (num geo.clients) (codes " fragment") (num geo.fragment) (codes " block") (num geo.block) (codes " slots") (num geo.slots) newline

record SameSizes (a b : Sizes) : Type 0 where
  servers_same : a.servers ≡ b.servers
  clients_same : a.clients ≡ b.clients
  fragment_same : a.fragment ≡ b.fragment
  block_same : a.block ≡ b.block
  slots_same : a.slots ≡ b.slots

same_number : (n m : ℕ) → IsNumber n → IsNumber m → decimal n ≡ decimal m → n ≡ m
same_number n m p q e = decimal_injective n m (omega (arith, p)) (omega (arith, q)) e

sizes_once : (a b : Sizes) → AreNumbers a → AreNumbers b → sizes_text a ≡ sizes_text b → SameSizes a b
sizes_once a b p q e =
    let servers : Named first (sizes_text a) a.servers (clients_text a) = record { fits = p.servers_fit; text = refl } in
    let clients : Named second (clients_text a) a.clients (fragment_text a) = record { fits = p.clients_fit; text = refl } in
    let fragment : Named third (fragment_text a) a.fragment (block_text a) = record { fits = p.fragment_fits; text = refl } in
    let block : Named fourth (block_text a) a.block (slots_text a) = record { fits = p.block_fits; text = refl } in
    let last = behind_block b q (sym e) servers clients fragment block in
    record {
      servers_same = same_number a.servers b.servers p.servers_fit q.servers_fit (behind_servers b q (sym e) servers).word;
      clients_same = same_number a.clients b.clients p.clients_fit q.clients_fit (behind_clients b q (sym e) servers clients).word;
      fragment_same = same_number a.fragment b.fragment p.fragment_fits q.fragment_fits (behind_fragment b q (sym e) servers clients fragment).word;
      block_same = same_number a.block b.block p.block_fits q.block_fits last.word;
      slots_same = same_number a.slots b.slots p.slots_fit q.slots_fit (append_cancel_left (codes "slots ") (decimal a.slots) (decimal b.slots) last.rest);
    }

same_text : (a b : Sizes) → SameSizes a b → sizes_text a ≡ sizes_text b
same_text a b s =
    ap (λ n. named_text first (n, clients_text a)) s.servers_same
    ∙ ap (λ n. named_text first (b.servers, named_text second (n, fragment_text a))) s.clients_same
    ∙ ap (λ n. named_text first (b.servers, named_text second (b.clients, named_text third (n, block_text a)))) s.fragment_same
    ∙ ap (λ n. named_text first (b.servers, named_text second (b.clients, named_text third (b.fragment, named_text fourth (n, slots_text a))))) s.block_same
    ∙ ap (λ n. named_text first (b.servers, named_text second (b.clients, named_text third (b.fragment, named_text fourth (b.block, codes "slots " ++ decimal n))))) s.slots_same

abbrev bad_of : Sizes → Option ℕ
bad_of sizes = first_bad sizes.servers sizes.clients sizes.fragment sizes.block sizes.slots

same_bad : (a b : Sizes) → SameSizes a b → bad_of a ≡ bad_of b
same_bad a b s =
    ap (λ n. first_bad n a.clients a.fragment a.block a.slots) s.servers_same
    ∙ ap (λ n. first_bad b.servers n a.fragment a.block a.slots) s.clients_same
    ∙ ap (λ n. first_bad b.servers b.clients n a.block a.slots) s.fragment_same
    ∙ ap (λ n. first_bad b.servers b.clients b.fragment n a.slots) s.block_same
    ∙ ap (λ n. first_bad b.servers b.clients b.fragment b.block n) s.slots_same

unless_true : (holds : Bool) (field : ℕ) (others : Option ℕ) → holds ≡ true → others ≡ None → unless holds field others ≡ None
unless_true true field others h e = e
unless_true false field others h e = absurd cc

is_within : (low high n : ℕ) → low ≤ n → n ≤ high → within low high n ≡ true
is_within low high n a b = and_from _ _ (le-leb low n a) (le-leb n high b)

fine : (servers clients fragment block slots : ℕ) → InLimits servers clients fragment block slots → first_bad servers clients fragment block slots ≡ None
fine servers clients fragment block slots l =
    unless_true _ 1 _ (is_within 3 16 servers l.servers_low l.servers_high) (
    unless_true _ 2 _ (is_within 1 8 clients l.clients_low l.clients_high) (
    unless_true _ 3 _ (and_from _ _ (and_from _ _ (is_within 256 65536 fragment l.fragment_low l.fragment_high) (lt-ltb 0 block (omega (arith, l.block_low)))) (eq-eqb (fragment % block) 0 l.whole)) (
    unless_true _ 4 _ (is_within 64 4096 block l.block_low l.block_high) (
    unless_true _ 5 _ (and_from _ _ (le-leb 8 slots l.slots_low) (le-leb (slots * fragment) 67108864 l.space)) refl))))

-- no sizes, no header
pub no_header : {words : List ℕ} → Reads AreNumbers sizes_text words None → Reads IsGeometry header_text (words ++ newline) None
no_header {words} none geo h e =
    none (sizes_of geo) (are_numbers geo) (append_cancel_right (sizes_text (sizes_of geo)) words newline (sym (header_parts geo) ∙ e))

none_or_some : {n : ℕ} → None ≡ Some n → ⊥
none_or_some e = absurd cc

-- the system that was made of the sizes, or none
pub header_of : {words : List ℕ} (sizes : Sizes) → AreNumbers sizes → sizes_text sizes ≡ words → (r : Result Geometry BadGeometry)
    → IfOk r (λ geo. geo.servers ≡ sizes.servers) → IfOk r (λ geo. geo.clients ≡ sizes.clients) → IfOk r (λ geo. geo.fragment ≡ sizes.fragment) → IfOk r (λ geo. geo.block ≡ sizes.block) → IfOk r (λ geo. geo.slots ≡ sizes.slots)
    → MatchResult r (λ _. bad_of sizes ≡ None) (λ e. bad_of sizes ≡ Some e.field) → Reads IsGeometry header_text (words ++ newline) (result_ok r)
header_of sizes fit e (Ok geo) servers clients fragment block slots exact =
    let same : SameSizes (sizes_of geo) sizes = record { servers_same = servers; clients_same = clients; fragment_same = fragment; block_same = block; slots_same = slots } in
    (tt, header_parts geo ∙ ap (λ t. t ++ newline) (same_text (sizes_of geo) sizes same ∙ e))
header_of {words} sizes fit e (Err bad) servers clients fragment block slots exact = λ geo h text.
    let texts : sizes_text (sizes_of geo) ≡ sizes_text sizes = append_cancel_right (sizes_text (sizes_of geo)) words newline (sym (header_parts geo) ∙ text) ∙ sym e in
    let same = sizes_once (sizes_of geo) sizes (are_numbers geo) fit texts in
    let none : bad_of sizes ≡ None = sym (same_bad (sizes_of geo) sizes same) ∙ fine geo.servers geo.clients geo.fragment geo.block geo.slots geo.limits in
    absurd (none_or_some (sym none ∙ exact))
