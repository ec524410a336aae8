-- No line end stands in the text of a line or of a header.
use Rattle.std.proofs.Common.{◌≡◌, ℕ, ◌<◌, true, false, List, [], ◌∷◌, ◌++◌, Some, None, codes, refl, sym, ap, ◌∙◌, arith}
use Rattle.std.specs.Fmt.{decimal}
use Rattle.std.specs.List.{flat_map}
use Rattle.std.proofs.lemmas.Bool.Decides.{nat_tests}
use Rattle.std.proofs.lemmas.List.{append_cancel_right}
use Rattle.zb_types.specs.declared.geometry.Geometry.{Geometry}
use Rattle.zb_types.specs.declared.calls.Call.{Call}
use Rattle.zb_types.specs.declared.calls.Call.TheVariants.{Create, Mkdir, Remove, Rename, Write, Truncate, Sync, Read, List as ListOf, Stat, Find}
use Rattle.zb_types.specs.declared.nodes.Node.{Node}
use Rattle.zb_types.specs.declared.nodes.Node.TheVariants.{Server, Client, Manager, Cleaner, Mender}
use Rattle.zb_types.specs.declared.nodes.Event.TheVariants.{Crash, Arm, Up, Lose, Checkpoint}
use Rattle.zb_types.specs.declared.lines.Kind.{Kind}
use Rattle.zb_types.specs.declared.lines.Kind.TheVariants as kinds
use Rattle.zb_types.specs.declared.lines.Job.TheVariants.{Clean, Rebuild}
use Rattle.zb_types.specs.declared.lines.Line.{Line}
use Rattle.zb_types.specs.declared.lines.Line.TheVariants.{Call as CallLine, Job as JobLine, Steps, StepTo, Event as EventLine}
use Rattle.zb_types.specs.Limits.{within}
use Rattle.zb_types.specs.Paths.{is_path}
use Rattle.zb_claims.specs.Text.{newline, byte_text, quoted, num, node_text, kind_text, call_text, words, header_text, max_part, max_step, AreBytes, IsCall, IsLine}
use Rattle.zb_script.specs.Numbers.{IsNumber}
use Rattle.zb_script.specs.Nodes.{IsNamed}
use Rattle.zb_script.specs.declared.header.Sizes.{Sizes}
use Rattle.zb_script.specs.Headers.{named_text, AreNumbers, slots_text, block_text, fragment_text, clients_text, sizes_text}
use Rattle.zb_script.specs.Laws.{has_no_end}
use Rattle.zb_script.proofs.Without.{without-append, without-decimal, without-path}
use Rattle.zb_script.proofs.Decimals.{up_to_number}
use Rattle.zb_script.proofs.Names.{byte_number, named_node, named_actor, named_disk, client_byte, server_byte}
use Rattle.zb_script.proofs.Sizing.{sizes_of, header_parts, are_numbers}

both : (xs ys : List ℕ) → has_no_end xs ≡ true → has_no_end ys ≡ true → has_no_end (xs ++ ys) ≡ true
both = without-append 10

number : (n : ℕ) → IsNumber n → has_no_end (decimal n) ≡ true
number n h = without-decimal 10 (omega arith) n (omega (arith, h))

path : (bytes : List ℕ) → is_path bytes ≡ true → has_no_end bytes ≡ true
path = without-path 10 (omega arith)

byte : (b : ℕ) → b < 256 → has_no_end (byte_text b) ≡ true
byte b h = grind (arith, nat_tests)

inside : (bytes : List ℕ) → AreBytes bytes → has_no_end (flat_map byte_text bytes) ≡ true
inside [] h = refl
inside (b ∷ bytes) h = both (byte_text b) (flat_map byte_text bytes) (byte b h.0) (inside bytes h.1)

text : (bytes : List ℕ) → AreBytes bytes → has_no_end (quoted bytes) ≡ true
text bytes h = both (flat_map byte_text bytes) (34 ∷ []) (inside bytes h) refl

two : (n m : ℕ) → IsNumber n → IsNumber m → has_no_end (decimal n ++ num m) ≡ true
two n m p q = both (decimal n) (num m) (number n p) (number m q)

call : (c : Call) → IsCall c → has_no_end (call_text c) ≡ true
call (Create p) h = path p h
call (Mkdir p) h = path p h
call (Remove p) h = path p h
call (Rename p to) h = both p (32 ∷ to) (path p h.0) (path to h.1)
call (Write fid offset bytes) h = both (decimal fid.0 ++ num offset) (32 ∷ quoted bytes) (two fid.0 offset h.0 h.1) (text bytes h.3)
call (Truncate fid size) h = two fid.0 size h.0 h.1
call Sync h = refl
call (Read fid offset len) h = both (decimal fid.0 ++ num offset) (num len) (two fid.0 offset h.0 h.1) (number len (up_to_number max_part len (omega arith) h.2))
call (ListOf None) h = refl
call (ListOf (Some p)) h = path p h
call (Stat p) h = path p h
call (Find p) h = path p h

node : (n : Node) → IsNamed n → has_no_end (node_text n) ≡ true
node (Server i) h = number i (byte_number i h)
node (Client i) h = number i (byte_number i h)
node Manager h = refl
node Cleaner h = refl
node Mender h = refl

kind : (k : Kind) → has_no_end (kind_text k) ≡ true
kind kinds.Idle = refl
kind kinds.Call = refl
kind kinds.Lookup = refl
kind kinds.Fetch = refl
kind kinds.Store = refl
kind kinds.Mark = refl
kind kinds.Commit = refl
kind kinds.Pick = refl
kind kinds.Retire = refl
kind kinds.Sweep = refl
kind kinds.Delete = refl
kind kinds.Begin = refl
kind kinds.Fence = refl
kind kinds.Wipe = refl
kind kinds.Finish = refl

count : (n : ℕ) → within 1 max_step n ≡ true → has_no_end (num n) ≡ true
count n h = number n (up_to_number max_step n (omega arith) h)

pub line : (geo : Geometry) (l : Line) → IsLine geo l → has_no_end (words l) ≡ true
line geo (CallLine false client c) h = both (node_text (Client client)) (32 ∷ call_text c) (node (Client client) (client_byte geo client h.0)) (call c h.1)
line geo (CallLine true client c) h = both (node_text (Client client)) (32 ∷ call_text c) (node (Client client) (client_byte geo client h.0)) (call c h.1)
line geo (JobLine false Clean) h = refl
line geo (JobLine true Clean) h = refl
line geo (JobLine false (Rebuild server)) h = node (Server server.0) (server_byte geo server.0 h)
line geo (JobLine true (Rebuild server)) h = node (Server server.0) (server_byte geo server.0 h)
line geo (Steps actor n) h = both (node_text actor) (num n) (node actor (named_actor geo actor h.0)) (count n h.1)
line geo (StepTo actor k) h = both (node_text actor ++ codes " to ") (kind_text k) (both (node_text actor) (codes " to ") (node actor (named_actor geo actor h)) refl) (kind k)
line geo (EventLine (Crash n)) h = node n (named_node geo n h)
line geo (EventLine (Arm disk n)) h = both (node_text disk) (num n) (node disk (named_disk geo disk h.0)) (count n h.1)
line geo (EventLine (Up n)) h = node n (named_node geo n h)
line geo (EventLine (Lose server)) h = node (Server server.0) (server_byte geo server.0 h)
line geo (EventLine Checkpoint) h = refl

-- Headers.

named : (name : List ℕ) (n : ℕ) (rest : List ℕ) → has_no_end name ≡ true → IsNumber n → has_no_end rest ≡ true → has_no_end (named_text name (n, rest)) ≡ true
named name n rest h p w = both name (decimal n ++ 32 ∷ rest) h (both (decimal n) (32 ∷ rest) (number n p) w)

sizes : (s : Sizes) → AreNumbers s → has_no_end (sizes_text s) ≡ true
sizes s h =
    named (codes "zebra 1 servers ") s.servers (clients_text s) refl h.servers_fit (
    named (codes "clients ") s.clients (fragment_text s) refl h.clients_fit (
    named (codes "fragment ") s.fragment (block_text s) refl h.fragment_fits (
    named (codes "block ") s.block (slots_text s) refl h.block_fits (
    both (codes "slots ") (decimal s.slots) refl (number s.slots h.slots_fit)))))

pub header : (geo : Geometry) (front : List ℕ) → header_text geo ≡ front ++ newline → has_no_end front ≡ true
header geo front e =
    let same : sizes_text (sizes_of geo) ≡ front = append_cancel_right (sizes_text (sizes_of geo)) front newline (sym (header_parts geo) ∙ e) in
    ap has_no_end (sym same) ∙ sizes (sizes_of geo) (are_numbers geo)
