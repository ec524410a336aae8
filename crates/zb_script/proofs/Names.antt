-- Names of kinds and nodes.
use Rattle.std.proofs.Common.{◌≡◌, ℕ, ◌<◌, Bool, true, false, cond, eqb, List, [], ◌∷◌, None, Result, Ok, Err, codes, leb, refl, sym, ap, subst, ◌∙◌, IsTrue, arith}
use Rattle.std.specs.Fmt.{decimal}
use Rattle.std.specs.Str.{IsUtf8}
use Rattle.std.specs.Result.{OkIff, result_ok}
use Rattle.std.proofs.lemmas.Bool.{and_parts, leb-true, false≢true}
use Rattle.std.proofs.lemmas.Fmt.{decimal_injective}
use Rattle.zb_types.specs.declared.nodes.Node.{Node}
use Rattle.zb_types.specs.declared.nodes.Node.TheVariants.{Server, Client, Manager, Cleaner, Mender}
use Rattle.zb_types.specs.declared.lines.Kind.{Kind}
use Rattle.zb_types.specs.declared.lines.Kind.TheVariants as kinds
use Rattle.zb_types.specs.declared.geometry.Geometry.{Geometry}
use Rattle.zb_types.specs.Limits.{within}
use Rattle.zb_claims.specs.Reading.{Reads}
use Rattle.zb_claims.specs.Text.{node_text, kind_text, server_text, is_node, is_actor, is_disk}
use Rattle.zb_script.specs.Spaces.{is_word}
use Rattle.zb_script.specs.Numbers.{IsNumber, begins_plainly}
use Rattle.zb_script.specs.Nodes.{IsByte, numbered_text, IsNamed, IsMember, IsActor, IsDisk, IsServer}
use Rattle.zb_script.specs.Lines.{IsHead, head_text}
use Rattle.zb_script.specs.declared.head.Head.TheVariants as heads
use Rattle.zb_script.proofs.Decimals.{begins-decimal, is_word-decimal}
use Rattle.zb_script.proofs.Ascii.{ascii_text}

pub IsUtf8-kind : (kind : Kind) → IsUtf8 (kind_text kind)
IsUtf8-kind kinds.Idle = ascii_text (codes "idle") refl
IsUtf8-kind kinds.Call = ascii_text (codes "call") refl
IsUtf8-kind kinds.Lookup = ascii_text (codes "lookup") refl
IsUtf8-kind kinds.Fetch = ascii_text (codes "fetch") refl
IsUtf8-kind kinds.Store = ascii_text (codes "store") refl
IsUtf8-kind kinds.Mark = ascii_text (codes "mark") refl
IsUtf8-kind kinds.Commit = ascii_text (codes "commit") refl
IsUtf8-kind kinds.Pick = ascii_text (codes "pick") refl
IsUtf8-kind kinds.Retire = ascii_text (codes "retire") refl
IsUtf8-kind kinds.Sweep = ascii_text (codes "sweep") refl
IsUtf8-kind kinds.Delete = ascii_text (codes "delete") refl
IsUtf8-kind kinds.Begin = ascii_text (codes "begin") refl
IsUtf8-kind kinds.Fence = ascii_text (codes "fence") refl
IsUtf8-kind kinds.Wipe = ascii_text (codes "wipe") refl
IsUtf8-kind kinds.Finish = ascii_text (codes "finish") refl

-- a number's text is that of a byte where it is below 256
pub byte_of : {E : Type 0} {word : List ℕ} (n : ℕ) (r : Result ℕ E) → IsNumber n → decimal n ≡ word → OkIff r (n < 256) n → Reads IsByte decimal word (result_ok r)
byte_of n (Ok m) h e small = (omega (arith, small.0, small.1), ap decimal small.1 ∙ e)
byte_of n (Err d) h e large = λ v p same.
    let one : v ≡ n = decimal_injective v n (omega (arith, p)) (omega (arith, h)) (same ∙ sym e) in
    large (omega (arith, p, one))

pub tail_same : {a b : ℕ} {x y : List ℕ} → a ∷ x ≡ b ∷ y → x ≡ y
tail_same e = cc

-- a server that the system doesn't have
pub no_server : {word : List ℕ} (geo : Geometry) (i : ℕ) → IsByte i → numbered_text 115 i ≡ word → within 1 geo.servers i ≡ false → Reads (IsServer geo) server_text word None
no_server geo i h e bad v p same =
    let q : (leb 1 v.0 ≡ true) × (leb v.0 geo.servers ≡ true) = and_parts _ _ p in
    let low = leb-true v.0 geo.servers q.1 in
    let texts : decimal v.0 ≡ decimal i = tail_same (same ∙ sym e) in
    let one : v.0 ≡ i = decimal_injective v.0 i (omega (arith, low, geo.limits.servers_high)) (omega (arith, h)) texts in
    false≢true (sym bad ∙ ap (within 1 geo.servers) (sym one) ∙ p)

pub no_head : {word : List ℕ} → (IsUtf8 word → ⊥) → Reads IsByte (numbered_text 99) word None → Reads IsHead head_text word None
no_head other none (heads.Client i) h e = none i h e
no_head other none heads.Rebuild h e = other (subst IsUtf8 e (ascii_text (codes "rebuild") refl))
no_head other none heads.Step h e = other (subst IsUtf8 e (ascii_text (codes "step") refl))
no_head other none heads.Crash h e = other (subst IsUtf8 e (ascii_text (codes "crash") refl))
no_head other none heads.Arm h e = other (subst IsUtf8 e (ascii_text (codes "arm") refl))
no_head other none heads.Up h e = other (subst IsUtf8 e (ascii_text (codes "up") refl))
no_head other none heads.Lose h e = other (subst IsUtf8 e (ascii_text (codes "lose") refl))

-- Nodes are told apart by their names, and have no space in them.

abbrev tag : List ℕ → ℕ
tag [] = 5
tag (b ∷ bytes) = cond (eqb b 115) 0 (cond (eqb b 102) 1 (cond (eqb b 109) 2 (cond (begins_plainly bytes) 3 4)))

abbrev tag_of : Node → ℕ
tag_of (Server i) = 0
tag_of (Client i) = 3
tag_of Manager = 1
tag_of Cleaner = 4
tag_of Mender = 2

pub byte_number : (i : ℕ) → IsByte i → IsNumber i
byte_number i h = omega (arith, h)

tag-node_text : (node : Node) → IsNamed node → tag (node_text node) ≡ tag_of node
tag-node_text (Server i) h = refl
tag-node_text (Client i) h = ap (λ (t : Bool). cond t 3 4) (begins-decimal i (byte_number i h))
tag-node_text Manager h = refl
tag-node_text Cleaner h = refl
tag-node_text Mender h = refl

pub same_byte : (i j : ℕ) → IsByte i → IsByte j → decimal i ≡ decimal j → i ≡ j
same_byte i j p q e = decimal_injective i j (omega (arith, p)) (omega (arith, q)) e

same_tagged : (a b : Node) → tag_of a ≡ tag_of b → IsNamed a → IsNamed b → node_text a ≡ node_text b → a ≡ b
same_tagged (Server i) (Server j) t p q e = ap Server (same_byte i j p q (tail_same e))
same_tagged (Client i) (Client j) t p q e = ap Client (same_byte i j p q (tail_same e))
same_tagged Manager Manager t p q e = refl
same_tagged Cleaner Cleaner t p q e = refl
same_tagged Mender Mender t p q e = refl
same_tagged a b t p q e = absurd cc

pub same_named : (a b : Node) → IsNamed a → IsNamed b → node_text a ≡ node_text b → a ≡ b
same_named a b p q e = same_tagged a b (sym (tag-node_text a p) ∙ ap tag e ∙ tag-node_text b q) p q e

pub is_word-node : (node : Node) → IsNamed node → is_word (node_text node) ≡ true
is_word-node (Server i) h = is_word-decimal i (byte_number i h)
is_word-node (Client i) h = is_word-decimal i (byte_number i h)
is_word-node Manager h = refl
is_word-node Cleaner h = refl
is_word-node Mender h = refl

-- a node of a system has a number that is a byte
small_number : (high i : ℕ) → high < 256 → within 1 high i ≡ true → IsByte i
small_number high i h w =
    let q : (leb 1 i ≡ true) × (leb i high ≡ true) = and_parts _ _ w in
    let low = leb-true i high q.1 in
    omega (arith, low)

pub client_byte : (geo : Geometry) (i : ℕ) → within 1 geo.clients i ≡ true → IsByte i
client_byte geo i w = small_number geo.clients i (omega (arith, geo.limits.clients_high)) w

pub server_byte : (geo : Geometry) (i : ℕ) → within 1 geo.servers i ≡ true → IsByte i
server_byte geo i w = small_number geo.servers i (omega (arith, geo.limits.servers_high)) w

pub named_node : (geo : Geometry) (node : Node) → is_node geo node ≡ true → IsNamed node
named_node geo (Server i) h = server_byte geo i h
named_node geo (Client i) h = client_byte geo i h
named_node geo Manager h = tt
named_node geo Cleaner h = tt
named_node geo Mender h = tt

pub named_actor : (geo : Geometry) (node : Node) → is_actor geo node ≡ true → IsNamed node
named_actor geo (Server i) h = absurd cc
named_actor geo (Client i) h = client_byte geo i h
named_actor geo Manager h = absurd cc
named_actor geo Cleaner h = tt
named_actor geo Mender h = tt

pub named_disk : (geo : Geometry) (node : Node) → is_disk geo node ≡ true → IsNamed node
named_disk geo (Server i) h = server_byte geo i h
named_disk geo (Client i) h = absurd cc
named_disk geo Manager h = tt
named_disk geo Cleaner h = absurd cc
named_disk geo Mender h = absurd cc

-- Where the name is none, and where the node fails a test.

unnamed : {word : List ℕ} (test : Node → Bool) → ((node : Node) → test node ≡ true → IsNamed node) → Reads IsNamed node_text word None → Reads (λ node. IsTrue (test node)) node_text word None
unnamed test named none node h e = none node (named node h) e

untested : {word : List ℕ} (test : Node → Bool) → ((node : Node) → test node ≡ true → IsNamed node) → (node : Node) → IsNamed node → node_text node ≡ word → test node ≡ false → Reads (λ node. IsTrue (test node)) node_text word None
untested test named node p e bad other h same =
    let one : other ≡ node = same_named other node (named other h) p (same ∙ sym e) in
    false≢true (sym bad ∙ ap test (sym one) ∙ h)

pub unnamed_member : {word : List ℕ} (geo : Geometry) → Reads IsNamed node_text word None → Reads (IsMember geo) node_text word None
unnamed_member geo = unnamed (is_node geo) (named_node geo)

pub unnamed_actor : {word : List ℕ} (geo : Geometry) → Reads IsNamed node_text word None → Reads (IsActor geo) node_text word None
unnamed_actor geo = unnamed (is_actor geo) (named_actor geo)

pub unnamed_disk : {word : List ℕ} (geo : Geometry) → Reads IsNamed node_text word None → Reads (IsDisk geo) node_text word None
unnamed_disk geo = unnamed (is_disk geo) (named_disk geo)

pub no_member : {word : List ℕ} (geo : Geometry) (node : Node) → IsNamed node → node_text node ≡ word → is_node geo node ≡ false → Reads (IsMember geo) node_text word None
no_member geo = untested (is_node geo) (named_node geo)

pub no_actor : {word : List ℕ} (geo : Geometry) (node : Node) → IsNamed node → node_text node ≡ word → is_actor geo node ≡ false → Reads (IsActor geo) node_text word None
no_actor geo = untested (is_actor geo) (named_actor geo)

pub no_disk : {word : List ℕ} (geo : Geometry) (node : Node) → IsNamed node → node_text node ≡ word → is_disk geo node ≡ false → Reads (IsDisk geo) node_text word None
no_disk geo = untested (is_disk geo) (named_disk geo)
