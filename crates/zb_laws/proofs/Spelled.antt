-- A text is that of one line.
use Rattle.std.proofs.Common.{◌≡◌, ℕ, ◌+◌, ◌*◌, ◌/◌, ◌%◌, ◌^◌, ◌<◌, Bool, true, false, not, cond, ◌&&◌, ◌||◌, eqb, List, [], ◌∷◌, ◌++◌, take, drop, refl, sym, ap, subst, ◌∙◌, append_assoc, arith, inl, inr}
use Rattle.std.specs.Prelude.{bytes_eq, codes, IsTrue, nat_le}
use Rattle.std.specs.List.{list_any, flat_map, AllByRecursion}
use Rattle.std.specs.Fmt.{decimal}
use Rattle.std.proofs.lemmas.Fmt.{decimal_injective}
use Rattle.std.proofs.lemmas.Bool.Decides.{nat_tests}
use Rattle.zb_types.specs.declared.ids.Fid.{Fid}
use Rattle.zb_types.specs.declared.calls.Refusal.{Refusal}
use Rattle.zb_types.specs.declared.calls.Refusal.TheVariants.{NoEntry, NotDir, IsDir, Exists, Inside, NotEmpty, Gone, TooBig, Full}
use Rattle.zb_types.specs.declared.calls.Reply.{Reply}
use Rattle.zb_types.specs.declared.calls.Reply.TheVariants.{Done, Made, Bytes, Names, Dir, File, Refused}
use Rattle.zb_types.specs.declared.ids.ServerId.{ServerId}
use Rattle.zb_types.specs.declared.nodes.Cause.{Cause}
use Rattle.zb_types.specs.declared.nodes.Cause.TheVariants.{Unreachable, Down, NoSpace}
use Rattle.zb_types.specs.declared.lines.Said.{Said}
use Rattle.zb_types.specs.declared.lines.Said.TheVariants.{Reply as Replied, Buffered, Kept, Failed, Dropped, Unfinished}
use Rattle.zb_types.specs.Paths.{is_name}
use Rattle.zb_claims.specs.Text.{byte_text, quoted, hex_digit, num, refusal_text, reply_text, cause_text, said_text, AreBytes, IsReply}
use Rattle.zb_laws.proofs.Tests.{or_left, bool_cases}
use Rattle.zb_laws.proofs.Bytes.{free, cut, decimal_free, name_free}

pub apart : {C : Type 0} (k : ℕ) (xs ys : List ℕ) → bytes_eq (take k xs) (take k xs) ≡ true → bytes_eq (take k xs) (take k ys) ≡ false → xs ≡ ys → C
apart k xs ys h g e = let f : true ≡ false = sym h ∙ ap (λ (l : List ℕ). bytes_eq (take k xs) (take k l)) e ∙ g in absurd cc

pub differ : {C : Type 0} (test : List ℕ → Bool) (xs ys : List ℕ) → test xs ≡ true → test ys ≡ false → xs ≡ ys → C
differ test xs ys h g e = let f : true ≡ false = sym h ∙ ap test e ∙ g in absurd cc

refusal_injective : (a b : Refusal) → refusal_text a ≡ refusal_text b → a ≡ b
refusal_injective NoEntry NoEntry e = refl
refusal_injective NotDir NotDir e = refl
refusal_injective IsDir IsDir e = refl
refusal_injective Exists Exists e = refl
refusal_injective Inside Inside e = refl
refusal_injective NotEmpty NotEmpty e = refl
refusal_injective Gone Gone e = refl
refusal_injective TooBig TooBig e = refl
refusal_injective Full Full e = refl
refusal_injective a b e = apart 6 (refusal_text a) (refusal_text b) refl refl e

abbrev refuses : List ℕ → Bool
refuses text = list_any (bytes_eq (take 4 text)) (codes "no e" ∷ codes "not " ∷ codes "is a" ∷ codes "exis" ∷ codes "insi" ∷ codes "gone" ∷ codes "too " ∷ codes "full" ∷ [])

refusal_refuses : (why : Refusal) → refuses (refusal_text why) ≡ true
refusal_refuses NoEntry = refl
refusal_refuses NotDir = refl
refusal_refuses IsDir = refl
refusal_refuses Exists = refl
refusal_refuses Inside = refl
refusal_refuses NotEmpty = refl
refusal_refuses Gone = refl
refusal_refuses TooBig = refl
refusal_refuses Full = refl

-- Numbers.

-- a number has no space
pub number_free : (n : ℕ) → n < 2 ^ 64 → free 32 (decimal n) ≡ true
number_free n lt = decimal_free 32 n (omega arith) lt

pub two_numbers : (a b c d : ℕ) → a < 2 ^ 64 → b < 2 ^ 64 → c < 2 ^ 64 → d < 2 ^ 64 → decimal a ++ num b ≡ decimal c ++ num d → (a ≡ c) × (b ≡ d)
two_numbers a b c d p q r s e =
    let both = cut 32 (decimal a) (decimal c) (decimal b) (decimal d) (number_free a p) (number_free c r) e in
    (decimal_injective a c p r both.0, decimal_injective b d q s both.1)

-- Bytes between quotes.

hex_differs : (a b : ℕ) → a < 16 → b < 16 → hex_digit a ≡ hex_digit b → a ≡ b
hex_differs a b p q e = grind (arith, nat_tests)

abbrev is_plain : ℕ → Bool
is_plain b = nat_le 32 b && nat_le b 126 && not (eqb b 34 || eqb b 92)

plain_text : (b : ℕ) → is_plain b ≡ true → byte_text b ≡ b ∷ []
plain_text b h = ap (λ (t : Bool). cond t (b ∷ []) (92 ∷ 120 ∷ hex_digit (b / 16) ∷ hex_digit (b % 16) ∷ [])) h

hex_text : (b : ℕ) → is_plain b ≡ false → byte_text b ≡ 92 ∷ 120 ∷ hex_digit (b / 16) ∷ hex_digit (b % 16) ∷ []
hex_text b h = ap (λ (t : Bool). cond t (b ∷ []) (92 ∷ 120 ∷ hex_digit (b / 16) ∷ hex_digit (b % 16) ∷ [])) h

plain_not : (b : ℕ) → is_plain b ≡ true → (b ≡ 34 → ⊥) × (b ≡ 92 → ⊥)
plain_not b h = (λ e. let g : is_plain 34 ≡ true = subst (λ (x : ℕ). is_plain x ≡ true) e h in let f : false ≡ true = g in absurd cc, λ e. let g : is_plain 92 ≡ true = subst (λ (x : ℕ). is_plain x ≡ true) e h in let f : false ≡ true = g in absurd cc)

head_same : {x y : ℕ} {xs ys : List ℕ} → x ∷ xs ≡ y ∷ ys → x ≡ y
head_same e = cc

pub tail_same : {x y : ℕ} {xs ys : List ℕ} → x ∷ xs ≡ y ∷ ys → xs ≡ ys
tail_same e = cc

byte_of : (b : ℕ) → b ≡ 16 * (b / 16) + b % 16
byte_of b = omega arith

one_byte : (a b : ℕ) (xs ys : List ℕ) → a < 256 → b < 256 → byte_text a ++ xs ≡ byte_text b ++ ys → (a ≡ b) × (xs ≡ ys)
one_byte a b xs ys p q e = elim (bool_cases (is_plain a)) as (λ _. (a ≡ b) × (xs ≡ ys)) [
  | inl s ↦ elim (bool_cases (is_plain b)) as (λ _. (a ≡ b) × (xs ≡ ys)) [
    | inl t ↦ let f : a ∷ xs ≡ b ∷ ys = sym (ap (λ (l : List ℕ). l ++ xs) (plain_text a s)) ∙ e ∙ ap (λ (l : List ℕ). l ++ ys) (plain_text b t) in (head_same f, tail_same f)
    | inr t ↦ let f : a ∷ xs ≡ 92 ∷ 120 ∷ hex_digit (b / 16) ∷ hex_digit (b % 16) ∷ ys = sym (ap (λ (l : List ℕ). l ++ xs) (plain_text a s)) ∙ e ∙ ap (λ (l : List ℕ). l ++ ys) (hex_text b t) in absurd ((plain_not a s).1 (head_same f))
  ]
  | inr s ↦ elim (bool_cases (is_plain b)) as (λ _. (a ≡ b) × (xs ≡ ys)) [
    | inl t ↦ let f : 92 ∷ 120 ∷ hex_digit (a / 16) ∷ hex_digit (a % 16) ∷ xs ≡ b ∷ ys = sym (ap (λ (l : List ℕ). l ++ xs) (hex_text a s)) ∙ e ∙ ap (λ (l : List ℕ). l ++ ys) (plain_text b t) in absurd ((plain_not b t).1 (sym (head_same f)))
    | inr t ↦
        let f : 92 ∷ 120 ∷ hex_digit (a / 16) ∷ hex_digit (a % 16) ∷ xs ≡ 92 ∷ 120 ∷ hex_digit (b / 16) ∷ hex_digit (b % 16) ∷ ys = sym (ap (λ (l : List ℕ). l ++ xs) (hex_text a s)) ∙ e ∙ ap (λ (l : List ℕ). l ++ ys) (hex_text b t) in
        let g = tail_same (tail_same f) in
        let high : a / 16 ≡ b / 16 = hex_differs (a / 16) (b / 16) (omega (arith, p)) (omega (arith, q)) (head_same g) in
        let low : a % 16 ≡ b % 16 = hex_differs (a % 16) (b % 16) (omega arith) (omega arith) (head_same (tail_same g)) in
        (byte_of a ∙ ap (λ (n : ℕ). 16 * n + a % 16) high ∙ ap (λ (n : ℕ). 16 * (b / 16) + n) low ∙ sym (byte_of b), tail_same (tail_same g))
  ]
]

no_quote : (b : ℕ) (xs : List ℕ) → byte_text b ++ xs ≡ 34 ∷ [] → ⊥
no_quote b xs e = elim (bool_cases (is_plain b)) as (λ _. ⊥) [
  | inl s ↦ let f : b ∷ xs ≡ 34 ∷ [] = sym (ap (λ (l : List ℕ). l ++ xs) (plain_text b s)) ∙ e in (plain_not b s).0 (head_same f)
  | inr s ↦ let f : 92 ∷ 120 ∷ hex_digit (b / 16) ∷ hex_digit (b % 16) ∷ xs ≡ 34 ∷ [] = sym (ap (λ (l : List ℕ). l ++ xs) (hex_text b s)) ∙ e in let g : 120 ∷ hex_digit (b / 16) ∷ hex_digit (b % 16) ∷ xs ≡ [] = tail_same f in absurd cc
]

texts_same : (xs ys : List ℕ) → AreBytes xs → AreBytes ys → flat_map byte_text xs ++ 34 ∷ [] ≡ flat_map byte_text ys ++ 34 ∷ [] → xs ≡ ys
texts_same [] [] p q e = refl
texts_same [] (y ∷ ys) p q e = absurd (no_quote y (flat_map byte_text ys ++ 34 ∷ []) (sym (e ∙ append_assoc (byte_text y) (flat_map byte_text ys) (34 ∷ []))))
texts_same (x ∷ xs) [] p q e = absurd (no_quote x (flat_map byte_text xs ++ 34 ∷ []) (sym (append_assoc (byte_text x) (flat_map byte_text xs) (34 ∷ [])) ∙ e))
texts_same (x ∷ xs) (y ∷ ys) p q e =
    let both = one_byte x y (flat_map byte_text xs ++ 34 ∷ []) (flat_map byte_text ys ++ 34 ∷ []) p.0 q.0 (sym (append_assoc (byte_text x) (flat_map byte_text xs) (34 ∷ [])) ∙ e ∙ append_assoc (byte_text y) (flat_map byte_text ys) (34 ∷ [])) in
    ap (λ (b : ℕ). b ∷ xs) both.0 ∙ ap (λ (l : List ℕ). y ∷ l) (texts_same xs ys p.1 q.1 both.1)

pub quoted_injective : (xs ys : List ℕ) → AreBytes xs → AreBytes ys → quoted xs ≡ quoted ys → xs ≡ ys
quoted_injective xs ys p q e = texts_same xs ys p q (tail_same e)

-- Names.

abbrev spaced : List (List ℕ) → List ℕ
spaced names = flat_map (λ name. 32 ∷ name) names

begins : (names : List (List ℕ)) → (r : List ℕ) × (spaced names ++ 32 ∷ [] ≡ 32 ∷ r)
begins [] = ([], refl)
begins (name ∷ names) = ((name ++ spaced names) ++ 32 ∷ [], refl)

never_empty : (xs : List ℕ) (y : ℕ) → xs ++ y ∷ [] ≡ [] → ⊥
never_empty [] y e = absurd cc
never_empty (x ∷ xs) y e = absurd cc

names_same : (xs ys : List (List ℕ)) → AllByRecursion (λ name. IsTrue (is_name name)) xs → AllByRecursion (λ name. IsTrue (is_name name)) ys → spaced xs ++ 32 ∷ [] ≡ spaced ys ++ 32 ∷ [] → xs ≡ ys
names_same [] [] p q e = refl
names_same [] (y ∷ ys) p q e = absurd (never_empty (y ++ spaced ys) 32 (sym (tail_same e)))
names_same (x ∷ xs) [] p q e = absurd (never_empty (x ++ spaced xs) 32 (tail_same e))
names_same (x ∷ xs) (y ∷ ys) p q e =
    let bx = begins xs in
    let by = begins ys in
    let f : x ++ 32 ∷ bx.0 ≡ y ++ 32 ∷ by.0 = ap (λ (l : List ℕ). x ++ l) (sym bx.1) ∙ sym (append_assoc x (spaced xs) (32 ∷ [])) ∙ tail_same e ∙ append_assoc y (spaced ys) (32 ∷ []) ∙ ap (λ (l : List ℕ). y ++ l) by.1 in
    let both = cut 32 x y bx.0 by.0 (name_free 32 x (omega arith) p.0) (name_free 32 y (omega arith) q.0) f in
    ap (λ (l : List ℕ). l ∷ xs) both.0 ∙ ap (λ (l : List (List ℕ)). y ∷ l) (names_same xs ys p.1 q.1 (bx.1 ∙ ap (λ (l : List ℕ). 32 ∷ l) both.1 ∙ sym by.1))

-- Replies.

pub strip : (k : ℕ) (xs ys : List ℕ) → xs ≡ ys → drop k xs ≡ drop k ys
strip k xs ys e = ap (drop k) e

pub fid_same : (a b : Fid) → a.0 ≡ b.0 → a ≡ b
fid_same a b e = ap (λ (n : ℕ). let f : Fid = record { 0 = n } in f) e

pub server_same : (a b : ServerId) → a.0 ≡ b.0 → a ≡ b
server_same a b e = ap (λ (n : ℕ). let f : ServerId = record { 0 = n } in f) e

reply_injective : (a b : Reply) → IsReply a → IsReply b → reply_text a ≡ reply_text b → a ≡ b
reply_injective Done Done p q e = refl
reply_injective (Made a) (Made b) p q e = ap Made (fid_same a b (decimal_injective a.0 b.0 (omega (arith, p)) (omega (arith, q)) (strip 4 (reply_text (Made a)) (reply_text (Made b)) e)))
reply_injective (Bytes a) (Bytes b) p q e = ap Bytes (quoted_injective a b p q (strip 6 (reply_text (Bytes a)) (reply_text (Bytes b)) e))
reply_injective (Names a) (Names b) p q e = ap Names (names_same a b p q (ap (λ (l : List ℕ). l ++ 32 ∷ []) (strip 5 (reply_text (Names a)) (reply_text (Names b)) e)))
reply_injective Dir Dir p q e = refl
reply_injective (File a n) (File b m) p q e =
    let both = two_numbers a.0 n b.0 m (omega (arith, p.0)) (omega (arith, p.1)) (omega (arith, q.0)) (omega (arith, q.1)) (strip 5 (reply_text (File a n)) (reply_text (File b m)) e) in
    ap (λ (f : Fid). File f n) (fid_same a b both.0) ∙ ap (λ (k : ℕ). File b k) both.1
reply_injective (Refused a) (Refused b) p q e = ap Refused (refusal_injective a b e)
reply_injective (Refused a) b p q e = differ refuses (refusal_text a) (reply_text b) (refusal_refuses a) refl e
reply_injective a (Refused b) p q e = differ refuses (refusal_text b) (reply_text a) (refusal_refuses b) refl (sym e)
reply_injective a b p q e = apart 3 (reply_text a) (reply_text b) refl refl e

abbrev replies : List ℕ → Bool
replies text = refuses text || list_any (bytes_eq (take 4 text)) (codes "done" ∷ codes "fid " ∷ codes "byte" ∷ codes "name" ∷ codes "dir" ∷ codes "file" ∷ [])

reply_replies : (reply : Reply) → replies (reply_text reply) ≡ true
reply_replies Done = refl
reply_replies (Made fid) = refl
reply_replies (Bytes bytes) = refl
reply_replies (Names names) = refl
reply_replies Dir = refl
reply_replies (File fid size) = refl
reply_replies (Refused why) = or_left (refuses (refusal_text why)) (list_any (bytes_eq (take 4 (refusal_text why))) (codes "done" ∷ codes "fid " ∷ codes "byte" ∷ codes "name" ∷ codes "dir" ∷ codes "file" ∷ [])) (refusal_refuses why)

-- Causes.

abbrev pub AreSmall : Cause → Type 0
AreSmall (Unreachable a b) = (a.0 < 2 ^ 64) × (b.0 < 2 ^ 64)
AreSmall Down = Unit {0}
AreSmall (NoSpace server) = server.0 < 2 ^ 64

pub cause_injective : (a b : Cause) → AreSmall a → AreSmall b → cause_text a ≡ cause_text b → a ≡ b
cause_injective (Unreachable a b) (Unreachable c d) p q e =
    let both = cut 32 (decimal a.0) (decimal c.0) (115 ∷ decimal b.0) (115 ∷ decimal d.0) (number_free a.0 p.0) (number_free c.0 q.0) (strip 13 (cause_text (Unreachable a b)) (cause_text (Unreachable c d)) e) in
    ap (λ (s : ServerId). Unreachable s b) (server_same a c (decimal_injective a.0 c.0 p.0 q.0 both.0)) ∙ ap (λ (s : ServerId). Unreachable c s) (server_same b d (decimal_injective b.0 d.0 p.1 q.1 (tail_same both.1)))
cause_injective Down Down p q e = refl
cause_injective (NoSpace a) (NoSpace b) p q e = ap NoSpace (server_same a b (decimal_injective a.0 b.0 p q (strip 10 (cause_text (NoSpace a)) (cause_text (NoSpace b)) e)))
cause_injective a b p q e = apart 1 (cause_text a) (cause_text b) refl refl e

no_buffered : {C : Type 0} (c : Cause) → codes "buffered" ≡ cause_text c → C
no_buffered (Unreachable a b) e = apart 1 (codes "buffered") (cause_text (Unreachable a b)) refl refl e
no_buffered Down e = apart 1 (codes "buffered") (cause_text Down) refl refl e
no_buffered (NoSpace a) e = apart 1 (codes "buffered") (cause_text (NoSpace a)) refl refl e

abbrev pub AreSmallSaid : Said → Type 0
AreSmallSaid (Replied reply) = IsReply reply
AreSmallSaid (Kept cause) = AreSmall cause
AreSmallSaid (Failed cause) = AreSmall cause
AreSmallSaid (Unfinished cause) = AreSmall cause
AreSmallSaid said = Unit {0}

pub said_injective : (a b : Said) → AreSmallSaid a → AreSmallSaid b → said_text a ≡ said_text b → a ≡ b
said_injective (Replied a) (Replied b) p q e = ap Replied (reply_injective a b p q e)
said_injective (Replied a) b p q e = differ replies (reply_text a) (said_text b) (reply_replies a) refl e
said_injective a (Replied b) p q e = differ replies (reply_text b) (said_text a) (reply_replies b) refl (sym e)
said_injective Buffered Buffered p q e = refl
said_injective Buffered (Kept c) p q e = no_buffered c (strip 5 (said_text Buffered) (said_text (Kept c)) e)
said_injective (Kept c) Buffered p q e = no_buffered c (sym (strip 5 (said_text (Kept c)) (said_text Buffered) e))
said_injective (Kept a) (Kept b) p q e = ap Kept (cause_injective a b p q (strip 5 (said_text (Kept a)) (said_text (Kept b)) e))
said_injective (Failed a) (Failed b) p q e = ap Failed (cause_injective a b p q (strip 7 (said_text (Failed a)) (said_text (Failed b)) e))
said_injective Dropped Dropped p q e = refl
said_injective (Unfinished a) (Unfinished b) p q e = ap Unfinished (cause_injective a b p q (strip 11 (said_text (Unfinished a)) (said_text (Unfinished b)) e))
said_injective a b p q e = apart 4 (said_text a) (said_text b) refl refl e
