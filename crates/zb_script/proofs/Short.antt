-- What may stand in a script is one line: it has one line end, at its end, and is short.
use Rattle.std.proofs.Common.{◌≡◌, ℕ, ◌*◌, ◌/◌, ◌%◌, ◌≤◌, true, false, not, cond, ◌&&◌, ◌||◌, eqb, List, [], ◌∷◌, ◌++◌, length, Option, Some, None, inl, inr, refl, sym, ap, subst, ◌∙◌, arith}
use Rattle.std.specs.Prelude.{codes, nat_le}
use Rattle.std.specs.List.{flat_map}
use Rattle.std.specs.Fmt.{decimal}
use Rattle.std.proofs.lemmas.Fmt.{length-decimal-le}
use Rattle.std.proofs.lemmas.List.{length-append}
use Rattle.std.proofs.lemmas.Bool.Decides.{nat_tests}
use Rattle.std.proofs.Math.Nat.{mul-le-mul_left}
use Rattle.zb_types.specs.declared.geometry.Geometry.{Geometry}
use Rattle.zb_types.specs.declared.calls.Call.{Call}
use Rattle.zb_types.specs.declared.calls.Call.TheVariants.{Create, Mkdir, Remove, Rename, Write, Truncate, Sync, Read, List as ListOf, Stat, Find}
use Rattle.zb_types.specs.declared.nodes.Node.{Node}
use Rattle.zb_types.specs.declared.nodes.Node.TheVariants.{Server, Client, Manager, Cleaner, Mender}
use Rattle.zb_types.specs.declared.nodes.Event.TheVariants.{Crash as CrashOf, Arm as ArmOf, Up as UpOf, Lose as LoseOf, Checkpoint as CheckpointOf}
use Rattle.zb_types.specs.declared.lines.Kind.{Kind}
use Rattle.zb_types.specs.declared.lines.Kind.TheVariants as kinds
use Rattle.zb_types.specs.declared.lines.Job.TheVariants.{Clean, Rebuild}
use Rattle.zb_types.specs.declared.lines.Line.{Line}
use Rattle.zb_types.specs.declared.lines.Line.TheVariants.{Call as CallLine, Job as JobLine, Steps, StepTo, Event as EventLine}
use Rattle.zb_types.specs.Paths.{is_path, are_names}
use Rattle.zb_claims.specs.Text.{newline, num, byte_text, hex_digit, call_text, node_text, kind_text, plus_text, words, header_text, max_step, is_node, IsCall, IsLine}
use Rattle.zb_claims.specs.Script.{Row, skipped, said, row_text, is_comment, IsRow}
use Rattle.zb_laws.proofs.Tests.{high, last_true}
use Rattle.zb_laws.proofs.Clean.{clean, clean-append, clean-decimal}
use Rattle.zb_laws.proofs.Splits.{clean-comment}
use Rattle.zb_laws.proofs.Script.{actor_is_node}
use Rattle.zb_laws.proofs.Clean.{disk_is_node}
use Rattle.zb_script.specs.Laws.{has_no_end}
use Rattle.zb_script.specs.Places.{MayStand}
use Rattle.zb_script.proofs.Ends.{line as line_end}

pub same_clean : (bytes : List ℕ) → has_no_end bytes ≡ clean bytes
same_clean [] = refl
same_clean (b ∷ bytes) = ap (λ rest. not (eqb b 10) && rest) (same_clean bytes)

short_byte : (b : ℕ) → length (byte_text b) ≤ 4
short_byte b = elim (nat_le 32 b && nat_le b 126 && not (eqb b 34 || eqb b 92)) as (λ t. length (cond t (b ∷ []) (92 ∷ 120 ∷ hex_digit (b / 16) ∷ hex_digit (b % 16) ∷ [])) ≤ 4) [ true ↦ omega arith | false ↦ omega arith ]

short_bytes : (bytes : List ℕ) → length (flat_map byte_text bytes) ≤ 4 * length bytes
short_bytes [] = omega arith
short_bytes (b ∷ bytes) = omega (arith, short_byte b, short_bytes bytes, length-append (byte_text b) (flat_map byte_text bytes))

short_number : (n : ℕ) → n ≤ 4294967295 → length (decimal n) ≤ 10
short_number n le = length-decimal-le 10 n (omega arith) (omega (arith, le)) (omega (arith, le))

short_path : (path : List ℕ) → is_path path ≡ true → length path ≤ 1024
short_path [] h = omega arith
short_path (b ∷ rest) h = let le : nat_le (length rest) 1023 ≡ true = last_true (eqb b 47 && are_names [] rest) (nat_le (length rest) 1023) h in grind (arith, nat_tests)

short_call : (call : Call) → IsCall call → length (call_text call) ≤ 16900
short_call (Create path) h = omega (arith, short_path path h, length-append (codes "create ") path)
short_call (Mkdir path) h = omega (arith, short_path path h, length-append (codes "mkdir ") path)
short_call (Remove path) h = omega (arith, short_path path h, length-append (codes "remove ") path)
short_call (Rename path to) h = simp length-append (omega (arith, short_path path h.0, short_path to h.1))
short_call (Write fid offset bytes) h = simp length-append (omega (arith, short_number fid.0 h.0, short_number offset h.1, short_bytes bytes, high 1 4096 (length bytes) h.2))
short_call (Truncate fid size) h = simp length-append (omega (arith, short_number fid.0 h.0, short_number size h.1))
short_call Sync h = omega arith
short_call (Read fid offset len) h = simp length-append (omega (arith, short_number fid.0 h.0, short_number offset h.1, short_number len (omega (arith, high 1 4096 len h.2))))
short_call (ListOf None) h = omega arith
short_call (ListOf (Some path)) h = omega (arith, short_path path h, length-append (codes "list ") path)
short_call (Stat path) h = omega (arith, short_path path h, length-append (codes "stat ") path)
short_call (Find path) h = omega (arith, short_path path h, length-append (codes "open ") path)

short_client : (geo : Geometry) (i : ℕ) → is_node geo (Client i) ≡ true → length (decimal i) ≤ 10
short_client geo i h = short_number i (omega (arith, high 1 geo.clients i h, geo.limits.clients_high))

short_server : (geo : Geometry) (i : ℕ) → is_node geo (Server i) ≡ true → length (decimal i) ≤ 10
short_server geo i h = short_number i (omega (arith, high 1 geo.servers i h, geo.limits.servers_high))

short_node : (geo : Geometry) (node : Node) → is_node geo node ≡ true → length (node_text node) ≤ 11
short_node geo (Server i) h = omega (arith, short_server geo i h)
short_node geo (Client i) h = omega (arith, short_client geo i h)
short_node geo Manager h = omega arith
short_node geo Cleaner h = omega arith
short_node geo Mender h = omega arith

short_kind : (kind : Kind) → length (kind_text kind) ≤ 8
short_kind kinds.Idle = omega arith
short_kind kinds.Call = omega arith
short_kind kinds.Lookup = omega arith
short_kind kinds.Fetch = omega arith
short_kind kinds.Store = omega arith
short_kind kinds.Mark = omega arith
short_kind kinds.Commit = omega arith
short_kind kinds.Pick = omega arith
short_kind kinds.Retire = omega arith
short_kind kinds.Sweep = omega arith
short_kind kinds.Delete = omega arith
short_kind kinds.Begin = omega arith
short_kind kinds.Fence = omega arith
short_kind kinds.Wipe = omega arith
short_kind kinds.Finish = omega arith

short_plus : (plus : _) → length (plus_text plus) ≤ 1
short_plus true = omega arith
short_plus false = omega arith

short_line : (geo : Geometry) (line : Line) → IsLine geo line → length (words line) ≤ 17000
short_line geo (CallLine plus client call) h = simp length-append (omega (arith, short_plus plus, short_client geo client h.0, short_call call h.1))
short_line geo (JobLine plus Clean) h = simp length-append (omega (arith, short_plus plus))
short_line geo (JobLine plus (Rebuild server)) h = simp length-append (omega (arith, short_plus plus, short_server geo server.0 h))
short_line geo (Steps actor count) h = simp length-append (omega (arith, short_node geo actor (actor_is_node geo actor h.0), short_number count (omega (arith, high 1 max_step count h.1))))
short_line geo (StepTo actor kind) h = simp length-append (omega (arith, short_node geo actor (actor_is_node geo actor h), short_kind kind))
short_line geo (EventLine (CrashOf node)) h = simp length-append (omega (arith, short_node geo node h))
short_line geo (EventLine (ArmOf disk count)) h = simp length-append (omega (arith, short_node geo disk (disk_is_node geo disk h.0), short_number count (omega (arith, high 1 max_step count h.1))))
short_line geo (EventLine (UpOf node)) h = simp length-append (omega (arith, short_node geo node h))
short_line geo (EventLine (LoseOf server)) h = simp length-append (omega (arith, short_server geo server.0 h))
short_line geo (EventLine CheckpointOf) h = omega arith

short_comment : (bytes : List ℕ) → is_comment bytes ≡ true → length bytes ≤ 17000
short_comment [] h = omega arith
short_comment (b ∷ bytes) h = let le : nat_le (length bytes) 16999 ≡ true = last_true _ (nat_le (length bytes) 16999) h in grind (arith, nat_tests)

-- one line, with its end
pub record IsEnded (text : List ℕ) : Type 0 where
  pub words : List ℕ
  pub is : text ≡ words ++ newline
  pub clean : clean words ≡ true
  pub short : length words ≤ 17000

-- a header without its end
abbrev head_words : Geometry → List ℕ
head_words geo = codes "zebra 1 servers" ++ num geo.servers ++ codes " clients" ++ num geo.clients ++ codes " fragment" ++ num geo.fragment ++ codes " block" ++ num geo.block ++ codes " slots" ++ num geo.slots

record AreSmall (geo : Geometry) : Type 0 where
  pub servers_fit : geo.servers ≤ 4294967295
  pub clients_fit : geo.clients ≤ 4294967295
  pub fragment_fits : geo.fragment ≤ 4294967295
  pub block_fits : geo.block ≤ 4294967295
  pub slots_fit : geo.slots ≤ 4294967295

ended_header : (geo : Geometry) → AreSmall geo → IsEnded (header_text geo)
ended_header geo small = record {
  words = head_words geo;
  is = refl;
  clean = simp (clean-append, clean-decimal geo.servers (omega (arith, small.servers_fit)), clean-decimal geo.clients (omega (arith, small.clients_fit)), clean-decimal geo.fragment (omega (arith, small.fragment_fits)), clean-decimal geo.block (omega (arith, small.block_fits)), clean-decimal geo.slots (omega (arith, small.slots_fit))) refl;
  short = simp length-append (omega (arith, short_number geo.servers small.servers_fit, short_number geo.clients small.clients_fit, short_number geo.fragment small.fragment_fits, short_number geo.block small.block_fits, short_number geo.slots small.slots_fit));
}

few_slots : (slots fragment : ℕ) → 256 ≤ fragment → slots * fragment ≤ 67108864 → slots ≤ 4294967295
few_slots slots fragment low space = let h : slots * 256 ≤ slots * fragment = mul-le-mul_left slots low in omega (arith, h, space)

small : (geo : Geometry) → AreSmall geo
small geo = record {
  servers_fit = omega (arith, geo.limits.servers_high);
  clients_fit = omega (arith, geo.limits.clients_high);
  fragment_fits = omega (arith, geo.limits.fragment_high);
  block_fits = omega (arith, geo.limits.block_high);
  slots_fit = few_slots geo.slots geo.fragment geo.limits.fragment_low geo.limits.space;
}

ended_comment : (bytes : List ℕ) → is_comment bytes ≡ true → IsEnded (bytes ++ newline)
ended_comment bytes h = record { words = bytes; is = refl; clean = clean-comment bytes h; short = short_comment bytes h }

ended_row : (geo : Geometry) (row : Row) → IsRow geo row → IsEnded (row_text row)
ended_row geo (skipped bytes) h = ended_comment bytes h
ended_row geo (said line) h = record { words = words line; is = refl; clean = sym (same_clean (words line)) ∙ line_end geo line h; short = short_line geo line h }

pub ended : (at : Option Geometry) (text : List ℕ) → MayStand at text → IsEnded text
ended None text (inl h) = subst IsEnded (sym h.2) (ended_comment h.0 h.1)
ended None text (inr h) = subst IsEnded (sym h.1) (ended_header h.0 (small h.0))
ended (Some geo) text h = subst IsEnded (sym h.2) (ended_row geo h.0 h.1)
