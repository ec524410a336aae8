-- No line of a report has a line end in its midst.
use Rattle.std.proofs.Common.{◌≡◌, ℕ, ◌+◌, ◌/◌, ◌%◌, ◌^◌, ◌≤◌, ◌<◌, Bool, true, false, not, cond, ◌&&◌, ◌||◌, eqb, List, [], ◌∷◌, ◌++◌, refl, sym, subst, ◌∙◌, arith}
use Rattle.std.specs.Prelude.{IsTrue, nat_le, nat_lt}
use Rattle.std.specs.List.{flat_map, AllByRecursion}
use Rattle.std.specs.Fmt.{decimal}
use Rattle.std.proofs.lemmas.Bool.Decides.{nat_tests}
use Rattle.zb_types.specs.declared.calls.Refusal.{Refusal}
use Rattle.zb_types.specs.declared.calls.Refusal.TheVariants.{NoEntry, NotDir, IsDir, Exists, Inside, NotEmpty, Gone, TooBig, Full}
use Rattle.zb_types.specs.declared.calls.Reply.{Reply}
use Rattle.zb_types.specs.declared.calls.Reply.TheVariants.{Done, Made, Bytes, Names, Dir, File, Refused}
use Rattle.zb_types.specs.declared.ids.ServerId.{ServerId}
use Rattle.zb_types.specs.declared.geometry.Geometry.{Geometry}
use Rattle.zb_types.specs.declared.nodes.Cause.{Cause}
use Rattle.zb_types.specs.declared.nodes.Cause.TheVariants.{Unreachable, Down, NoSpace}
use Rattle.zb_types.specs.declared.nodes.Node.{Node}
use Rattle.zb_types.specs.declared.nodes.Node.TheVariants.{Server, Client, Manager, Cleaner, Mender}
use Rattle.zb_types.specs.declared.lines.Said.{Said}
use Rattle.zb_types.specs.declared.lines.Said.TheVariants.{Reply as Replied, Buffered, Kept, Failed, Dropped, Unfinished}
use Rattle.zb_types.specs.declared.nodes.EventAnswer.{EventAnswer}
use Rattle.zb_types.specs.declared.nodes.EventAnswer.TheVariants.{Done as EventDone, Down as IsDown, ManagerDown, Up as IsUp, Blank, Out, Another, Unreachable as CantReach, Stopped}
use Rattle.zb_types.specs.declared.lines.Ended.{Ended}
use Rattle.zb_types.specs.declared.lines.Ended.TheVariants.{Retired, Needed, Mending}
use Rattle.zb_types.specs.declared.lines.Pass.{Pass}
use Rattle.zb_types.specs.declared.lines.Pass.TheVariants.{Nothing, Done as PassDone, Failed as PassFailed, Dropped as PassDropped}
use Rattle.zb_types.specs.declared.lines.Mended.{Mended}
use Rattle.zb_types.specs.declared.lines.Mended.TheVariants.{Copied, Another as RefusedFor, Failed as MendFailed, Server as FailedServer, Dropped as MendDropped}
use Rattle.zb_types.specs.declared.lines.Told.{Told}
use Rattle.zb_types.specs.declared.lines.Told.TheVariants.{Crash, Arm, Up, Lose, Checkpoint}
use Rattle.zb_types.specs.declared.lines.Outcome.{Outcome}
use Rattle.zb_types.specs.declared.lines.Outcome.TheVariants.{Call as OfCall, Clean as OfClean, Rebuild as OfRebuild, Event as OfEvent}
use Rattle.zb_types.specs.Paths.{is_name}
use Rattle.zb_types.specs.Limits.{within}
use Rattle.zb_claims.specs.Text.{byte_text, quoted, hex_digit, node_text, server_text, refusal_text, reply_text, cause_text, said_text, IsReply, IsSaid, is_cause, is_server, is_node, is_disk, max_word, ended_text, pass_text, mended_text, told_text, answer_text, outcome_text, is_pass, is_mended, is_told, is_answer, is_answer_named, IsOutcome}
use Rattle.zb_laws.proofs.Tests.{both, two_true, first_true, last_true, equal, below, high}
use Rattle.zb_laws.proofs.Bytes.{free, free-append, one_free, decimal_free, name_free}

abbrev pub clean : List ℕ → Bool
clean bytes = free 10 bytes

pub clean-append : (xs ys : List ℕ) → clean (xs ++ ys) ≡ (clean xs && clean ys)
clean-append xs ys = free-append 10 xs ys

pub clean-decimal : (n : ℕ) → n < 2 ^ 64 → clean (decimal n) ≡ true
clean-decimal n lt = decimal_free 10 n (omega arith) lt

one_clean : (b : ℕ) → 32 ≤ b → clean (b ∷ []) ≡ true
one_clean b le = one_free 10 b (omega (arith, le))

hex_clean : (d : ℕ) → 32 ≤ hex_digit d
hex_clean d = elim (nat_lt d 10) as (λ b. 32 ≤ cond b (d + 48) (d + 87)) [ true ↦ omega arith | false ↦ omega arith ]

two_clean : (a b : ℕ) → 32 ≤ a → 32 ≤ b → clean (a ∷ b ∷ []) ≡ true
two_clean a b p q = clean-append (a ∷ []) (b ∷ []) ∙ both (clean (a ∷ [])) (clean (b ∷ [])) (one_clean a p) (one_clean b q)

clean-byte_text : (b : ℕ) → clean (byte_text b) ≡ true
clean-byte_text b =
    elim (nat_le 32 b && nat_le b 126 && not (eqb b 34 || eqb b 92)) as (λ t. (nat_le 32 b && nat_le b 126 && not (eqb b 34 || eqb b 92)) ≡ t → clean (cond t (b ∷ []) (92 ∷ 120 ∷ hex_digit (b / 16) ∷ hex_digit (b % 16) ∷ [])) ≡ true) [
      | true ↦ λ e. one_clean b (grind (arith, nat_tests))
      | false ↦ λ e. two_clean (hex_digit (b / 16)) (hex_digit (b % 16)) (hex_clean (b / 16)) (hex_clean (b % 16))
    ] refl

clean-bytes : (bytes : List ℕ) → clean (flat_map byte_text bytes) ≡ true
clean-bytes [] = refl
clean-bytes (b ∷ bytes) = simp (clean-append, clean-byte_text b, clean-bytes bytes) refl

pub clean-quoted : (bytes : List ℕ) → clean (quoted bytes) ≡ true
clean-quoted bytes = simp (clean-append, clean-bytes bytes) refl

pub small_client : (geo : Geometry) (i : ℕ) → within 1 geo.clients i ≡ true → i < 2 ^ 64
small_client geo i h = omega (arith, high 1 geo.clients i h, geo.limits.clients_high)

pub small_server : (geo : Geometry) (i : ℕ) → within 1 geo.servers i ≡ true → i < 2 ^ 64
small_server geo i h = omega (arith, high 1 geo.servers i h, geo.limits.servers_high)

pub clean-node : (geo : Geometry) (node : Node) → is_node geo node ≡ true → clean (node_text node) ≡ true
clean-node geo (Server i) h = clean-decimal i (small_server geo i h)
clean-node geo (Client i) h = clean-decimal i (small_client geo i h)
clean-node geo Manager h = refl
clean-node geo Cleaner h = refl
clean-node geo Mender h = refl

pub disk_is_node : (geo : Geometry) (node : Node) → is_disk geo node ≡ true → is_node geo node ≡ true
disk_is_node geo (Server i) h = h
disk_is_node geo (Client i) h = absurd cc
disk_is_node geo Manager h = refl
disk_is_node geo Cleaner h = absurd cc
disk_is_node geo Mender h = absurd cc

clean-server : (geo : Geometry) (server : ServerId) → is_server geo server ≡ true → clean (server_text server) ≡ true
clean-server geo server h = clean-node geo (Server server.0) h

clean-refusal : (why : Refusal) → clean (refusal_text why) ≡ true
clean-refusal NoEntry = refl
clean-refusal NotDir = refl
clean-refusal IsDir = refl
clean-refusal Exists = refl
clean-refusal Inside = refl
clean-refusal NotEmpty = refl
clean-refusal Gone = refl
clean-refusal TooBig = refl
clean-refusal Full = refl

clean-names : (names : List (List ℕ)) → AllByRecursion (λ name. IsTrue (is_name name)) names → clean (flat_map (λ name. 32 ∷ name) names) ≡ true
clean-names [] h = refl
clean-names (name ∷ names) h = simp (clean-append, name_free 10 name (omega arith) h.0, clean-names names h.1) refl

clean-reply : (reply : Reply) → IsReply reply → clean (reply_text reply) ≡ true
clean-reply Done h = refl
clean-reply (Made fid) h = clean-decimal fid.0 (omega (arith, h))
clean-reply (Bytes bytes) h = clean-quoted bytes
clean-reply (Names names) h = clean-names names h
clean-reply Dir h = refl
clean-reply (File fid size) h = simp (clean-append, clean-decimal fid.0 (omega (arith, h.0)), clean-decimal size (omega (arith, h.1))) refl
clean-reply (Refused why) h = clean-refusal why

clean-pair : (geo : Geometry) (a b : ServerId) → is_cause geo (Unreachable a b) ≡ true → clean (server_text a ++ 32 ∷ server_text b) ≡ true
clean-pair geo a b h =
    let two : (is_server geo a && is_server geo b) ≡ true = first_true (is_server geo a && is_server geo b) (nat_lt a.0 b.0) h in
    clean-append (server_text a) (32 ∷ server_text b) ∙ both (clean (server_text a)) (clean (server_text b)) (clean-server geo a (first_true (is_server geo a) (is_server geo b) two)) (clean-server geo b (last_true (is_server geo a) (is_server geo b) two))

clean-cause : (geo : Geometry) (cause : Cause) → is_cause geo cause ≡ true → clean (cause_text cause) ≡ true
clean-cause geo (Unreachable a b) h = clean-pair geo a b h
clean-cause geo Down h = refl
clean-cause geo (NoSpace server) h = clean-server geo server h

clean-said : (geo : Geometry) (said : Said) → IsSaid geo said → clean (said_text said) ≡ true
clean-said geo (Replied reply) h = clean-reply reply h
clean-said geo Buffered h = refl
clean-said geo (Kept cause) h = clean-cause geo cause h
clean-said geo (Failed cause) h = clean-cause geo cause h
clean-said geo Dropped h = refl
clean-said geo (Unfinished cause) h = clean-cause geo cause h

clean-ended : (end : Ended) → clean (ended_text end) ≡ true
clean-ended Retired = refl
clean-ended Needed = refl
clean-ended Mending = refl

clean-pass : (geo : Geometry) (pass : Pass) → IsTrue (is_pass geo pass) → clean (pass_text pass) ≡ true
clean-pass geo Nothing h = refl
clean-pass geo (PassDone log stripe copied rejected end) h =
    let l : (nat_le log.0 max_word && nat_lt stripe (2 ^ 64) && nat_lt copied (2 ^ 64)) ≡ true = first_true (nat_le log.0 max_word && nat_lt stripe (2 ^ 64) && nat_lt copied (2 ^ 64)) (nat_lt rejected (2 ^ 64)) h in
    let m : (nat_le log.0 max_word && nat_lt stripe (2 ^ 64)) ≡ true = first_true (nat_le log.0 max_word && nat_lt stripe (2 ^ 64)) (nat_lt copied (2 ^ 64)) l in
    let a : log.0 < 2 ^ 64 = grind (arith, nat_tests, first_true (nat_le log.0 max_word) (nat_lt stripe (2 ^ 64)) m) in
    let b = below stripe (2 ^ 64) (last_true (nat_le log.0 max_word) (nat_lt stripe (2 ^ 64)) m) in
    let c = below copied (2 ^ 64) (last_true (nat_le log.0 max_word && nat_lt stripe (2 ^ 64)) (nat_lt copied (2 ^ 64)) l) in
    let d = below rejected (2 ^ 64) (last_true (nat_le log.0 max_word && nat_lt stripe (2 ^ 64) && nat_lt copied (2 ^ 64)) (nat_lt rejected (2 ^ 64)) h) in
    simp (clean-append, clean-decimal log.0 a, clean-decimal stripe b, clean-decimal copied c, clean-decimal rejected d, clean-ended end) refl
clean-pass geo (PassFailed cause) h = clean-cause geo cause h
clean-pass geo PassDropped h = refl

clean-mended : (geo : Geometry) (server : ServerId) (end : Mended) → is_server geo server ≡ true → is_mended geo server end ≡ true → clean (mended_text server end) ≡ true
clean-mended geo server (Copied count) s h = clean-decimal count (below count (2 ^ 64) h)
clean-mended geo server (RefusedFor other) s h = clean-server geo other (first_true (is_server geo other) (not (eqb other.0 server.0)) h)
clean-mended geo server (MendFailed (Unreachable a b)) s h = clean-pair geo a b (first_true (is_cause geo (Unreachable a b)) (eqb a.0 server.0 || eqb b.0 server.0) h)
clean-mended geo server (MendFailed Down) s h = refl
clean-mended geo server (MendFailed (NoSpace full)) s h = clean-server geo full (subst (λ (i : ℕ). within 1 geo.servers i ≡ true) (sym (equal full.0 server.0 h)) s)
clean-mended geo server FailedServer s h = clean-server geo server s
clean-mended geo server MendDropped s h = refl

clean-told : (geo : Geometry) (event : Told) → is_told geo event ≡ true → clean (told_text event) ≡ true
clean-told geo (Crash node) h = clean-node geo node h
clean-told geo (Arm node) h = clean-node geo node (disk_is_node geo node h)
clean-told geo (Up node) h = clean-node geo node h
clean-told geo (Lose server) h = clean-server geo server h
clean-told geo Checkpoint h = refl

-- the nodes that an answer names are nodes
clean-answer : (geo : Geometry) (answer : EventAnswer) → is_answer_named geo answer ≡ true → clean (answer_text answer) ≡ true
clean-answer geo EventDone h = refl
clean-answer geo (IsDown node) h = clean-node geo node h
clean-answer geo ManagerDown h = refl
clean-answer geo (IsUp node) h = clean-node geo node h
clean-answer geo (Blank server) h = clean-server geo server h
clean-answer geo (Out server) h = clean-server geo server h
clean-answer geo (Another server) h = clean-server geo server h
clean-answer geo (CantReach a b) h = clean-pair geo a b h
clean-answer geo (Stopped node) h = clean-node geo node h

pub clean-outcome : (geo : Geometry) (line : Outcome) → IsOutcome geo line → clean (outcome_text line) ≡ true
clean-outcome geo (OfCall client n said) h = simp (clean-append, clean-decimal client (small_client geo client h.0), clean-decimal n h.1, clean-said geo said h.2) refl
clean-outcome geo (OfClean pass) h = clean-pass geo pass h
clean-outcome geo (OfRebuild server end) h =
    let p = two_true (is_server geo server) (is_mended geo server end) h in
    simp (clean-append, clean-decimal server.0 (small_server geo server.0 p.0), clean-mended geo server end p.0 p.1) refl
clean-outcome geo (OfEvent event answer) h =
    let p = two_true (is_told geo event && is_answer geo event answer) (is_answer_named geo answer) h in
    let t : is_told geo event ≡ true = first_true (is_told geo event) (is_answer geo event answer) p.0 in
    clean-append (told_text event) (32 ∷ answer_text answer) ∙ both (clean (told_text event)) (clean (answer_text answer)) (clean-told geo event t) (clean-answer geo answer p.1)
