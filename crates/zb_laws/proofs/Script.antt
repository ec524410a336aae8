-- A spelling is that of one line of a script.
use Rattle.std.proofs.Common.{◌≡◌, ℕ, ◌^◌, ◌<◌, Bool, true, false, List, [], ◌∷◌, ◌++◌, take, Option, Some, None, refl, sym, ap, subst, ◌∙◌, append_assoc, arith}
use Rattle.std.specs.Prelude.{bytes_eq, codes}
use Rattle.std.specs.List.{list_any}
use Rattle.std.specs.Fmt.{decimal}
use Rattle.std.proofs.lemmas.Fmt.{decimal_injective}
use Rattle.zb_types.specs.declared.ids.Fid.{Fid}
use Rattle.zb_types.specs.declared.calls.Call.{Call}
use Rattle.zb_types.specs.declared.calls.Call.TheVariants.{Create, Mkdir, Remove, Rename, Write, Truncate, Sync, Read, List as ListOf, Stat, Find}
use Rattle.zb_types.specs.declared.ids.ServerId.{ServerId}
use Rattle.zb_types.specs.declared.geometry.Geometry.{Geometry}
use Rattle.zb_types.specs.declared.nodes.Node.{Node}
use Rattle.zb_types.specs.declared.nodes.Node.TheVariants.{Server, Client, Manager, Cleaner, Mender}
use Rattle.zb_types.specs.declared.nodes.Event.{Event}
use Rattle.zb_types.specs.declared.nodes.Event.TheVariants.{Crash as CrashOf, Arm as ArmOf, Up as UpOf, Lose as LoseOf, Checkpoint as CheckpointOf}
use Rattle.zb_types.specs.declared.lines.Kind.{Kind}
use Rattle.zb_types.specs.declared.lines.Kind.TheVariants.{Idle, Call as CallKind, Lookup, Fetch, Store, Mark, Commit, Pick, Retire, Sweep, Delete, Begin, Fence, Wipe, Finish}
use Rattle.zb_types.specs.declared.lines.Job.TheVariants.{Clean, Rebuild}
use Rattle.zb_types.specs.declared.lines.Line.{Line}
use Rattle.zb_types.specs.declared.lines.Line.TheVariants.{Call as CallLine, Job as JobLine, Steps, StepTo, Event as EventLine}
use Rattle.zb_types.specs.Paths.{is_path}
use Rattle.zb_types.specs.Limits.{within}
use Rattle.zb_claims.specs.Text.{num, quoted, node_text, server_text, call_text, kind_text, words, IsCall, IsLine, is_node, is_actor, is_disk, max_step}
use Rattle.zb_laws.specs.Texts.{OneSpelling}
use Rattle.zb_laws.proofs.Bytes.{cut, low, first_low, decimal_low, path_free}
use Rattle.zb_laws.proofs.Clean.{small_client, small_server, disk_is_node}
use Rattle.zb_laws.proofs.Tests.{high}
use Rattle.zb_laws.proofs.Spelled.{apart, differ, strip, fid_same, number_free, two_numbers, quoted_injective}
use Rattle.zb_laws.proofs.Lines.{SmallNode, small_node, node_injective, node_free, one_server, is_call_text}

-- Paths have no space.

no_root : {C : Type 0} (path : List ℕ) → is_path path ≡ true → path ≡ 47 ∷ [] → C
no_root path h e = let f : is_path (47 ∷ []) ≡ true = subst (λ (l : List ℕ). is_path l ≡ true) e h in let g : false ≡ true = f in absurd cc

three : (a b c : List ℕ) → (a ++ b) ++ c ≡ a ++ (b ++ c)
three a b c = append_assoc a b c

abbrev is_list : List ℕ → Bool
is_list text = bytes_eq (take 3 text) (codes "lis")

list_is : (x : Option (List ℕ)) → is_list (call_text (ListOf x)) ≡ true
list_is None = refl
list_is (Some path) = refl

call_injective : (a b : Call) → IsCall a → IsCall b → call_text a ≡ call_text b → a ≡ b
call_injective (Create a) (Create b) p q e = ap Create (strip 7 (call_text (Create a)) (call_text (Create b)) e)
call_injective (Mkdir a) (Mkdir b) p q e = ap Mkdir (strip 6 (call_text (Mkdir a)) (call_text (Mkdir b)) e)
call_injective (Remove a) (Remove b) p q e = ap Remove (strip 7 (call_text (Remove a)) (call_text (Remove b)) e)
call_injective (Rename a c) (Rename b d) p q e =
    let both = cut 32 a b c d (path_free 32 a (omega arith) p.0) (path_free 32 b (omega arith) q.0) (strip 7 (call_text (Rename a c)) (call_text (Rename b d)) e) in
    ap (λ (x : List ℕ). Rename x c) both.0 ∙ ap (λ (x : List ℕ). Rename b x) both.1
call_injective (Write f o x) (Write g r y) p q e =
    let e0 = sym (three (decimal f.0) (num o) (32 ∷ quoted x)) ∙ strip 6 (call_text (Write f o x)) (call_text (Write g r y)) e ∙ three (decimal g.0) (num r) (32 ∷ quoted y) in
    let b0 = cut 32 (decimal f.0) (decimal g.0) (decimal o ++ 32 ∷ quoted x) (decimal r ++ 32 ∷ quoted y) (number_free f.0 (omega (arith, p.0))) (number_free g.0 (omega (arith, q.0))) e0 in
    let b1 = cut 32 (decimal o) (decimal r) (quoted x) (quoted y) (number_free o (omega (arith, p.1))) (number_free r (omega (arith, q.1))) b0.1 in
    ap (λ (k : Fid). Write k o x) (fid_same f g (decimal_injective f.0 g.0 (omega (arith, p.0)) (omega (arith, q.0)) b0.0)) ∙ ap (λ (k : ℕ). Write g k x) (decimal_injective o r (omega (arith, p.1)) (omega (arith, q.1)) b1.0) ∙ ap (λ (k : List ℕ). Write g r k) (quoted_injective x y p.3 q.3 b1.1)
call_injective (Truncate f n) (Truncate g m) p q e =
    let both = two_numbers f.0 n g.0 m (omega (arith, p.0)) (omega (arith, p.1)) (omega (arith, q.0)) (omega (arith, q.1)) (strip 9 (call_text (Truncate f n)) (call_text (Truncate g m)) e) in
    ap (λ (k : Fid). Truncate k n) (fid_same f g both.0) ∙ ap (λ (k : ℕ). Truncate g k) both.1
call_injective Sync Sync p q e = refl
call_injective (Read f o n) (Read g r m) p q e =
    let e0 = sym (three (decimal f.0) (num o) (num n)) ∙ strip 5 (call_text (Read f o n)) (call_text (Read g r m)) e ∙ three (decimal g.0) (num r) (num m) in
    let b0 = cut 32 (decimal f.0) (decimal g.0) (decimal o ++ num n) (decimal r ++ num m) (number_free f.0 (omega (arith, p.0))) (number_free g.0 (omega (arith, q.0))) e0 in
    let b1 = two_numbers o n r m (omega (arith, p.1)) (omega (arith, high 1 4096 n p.2)) (omega (arith, q.1)) (omega (arith, high 1 4096 m q.2)) b0.1 in
    ap (λ (k : Fid). Read k o n) (fid_same f g (decimal_injective f.0 g.0 (omega (arith, p.0)) (omega (arith, q.0)) b0.0)) ∙ ap (λ (k : ℕ). Read g k n) b1.0 ∙ ap (λ (k : ℕ). Read g r k) b1.1
call_injective (ListOf None) (ListOf None) p q e = refl
call_injective (ListOf None) (ListOf (Some b)) p q e = no_root b q (sym (strip 5 (call_text (ListOf None)) (call_text (ListOf (Some b))) e))
call_injective (ListOf (Some a)) (ListOf None) p q e = no_root a p (strip 5 (call_text (ListOf (Some a))) (call_text (ListOf None)) e)
call_injective (ListOf (Some a)) (ListOf (Some b)) p q e = ap (λ (x : List ℕ). ListOf (Some x)) (strip 5 (call_text (ListOf (Some a))) (call_text (ListOf (Some b))) e)
call_injective (Stat a) (Stat b) p q e = ap Stat (strip 5 (call_text (Stat a)) (call_text (Stat b)) e)
call_injective (Find a) (Find b) p q e = ap Find (strip 5 (call_text (Find a)) (call_text (Find b)) e)
call_injective (ListOf x) b p q e = differ is_list (call_text (ListOf x)) (call_text b) (list_is x) refl e
call_injective a (ListOf y) p q e = differ is_list (call_text (ListOf y)) (call_text a) (list_is y) refl (sym e)
call_injective a b p q e = apart 3 (call_text a) (call_text b) refl refl e

kind_injective : (a b : Kind) → kind_text a ≡ kind_text b → a ≡ b
kind_injective Idle Idle e = refl
kind_injective CallKind CallKind e = refl
kind_injective Lookup Lookup e = refl
kind_injective Fetch Fetch e = refl
kind_injective Store Store e = refl
kind_injective Mark Mark e = refl
kind_injective Commit Commit e = refl
kind_injective Pick Pick e = refl
kind_injective Retire Retire e = refl
kind_injective Sweep Sweep e = refl
kind_injective Delete Delete e = refl
kind_injective Begin Begin e = refl
kind_injective Fence Fence e = refl
kind_injective Wipe Wipe e = refl
kind_injective Finish Finish e = refl
kind_injective a b e = apart 3 (kind_text a) (kind_text b) refl refl e

-- Lines.

call_words : (c : ℕ) (call : Call) → words (CallLine false c call) ≡ 99 ∷ (decimal c ++ 32 ∷ call_text call)
call_words c call = refl

call_is : (c : ℕ) (call : Call) → c < 2 ^ 64 → is_call_text (words (CallLine false c call)) ≡ true
call_is c call p = first_low c p (32 ∷ call_text call)

pub actor_is_node : (geo : Geometry) (node : Node) → is_actor geo node ≡ true → is_node geo node ≡ true
actor_is_node geo (Server i) h = absurd cc
actor_is_node geo (Client i) h = h
actor_is_node geo Manager h = absurd cc
actor_is_node geo Cleaner h = refl
actor_is_node geo Mender h = refl

small_actor : (geo : Geometry) (node : Node) → is_actor geo node ≡ true → SmallNode node
small_actor geo node h = small_node geo node (actor_is_node geo node h)

small_disk : (geo : Geometry) (node : Node) → is_disk geo node ≡ true → SmallNode node
small_disk geo node h = small_node geo node (disk_is_node geo node h)

pub small_count : (n : ℕ) → within 1 max_step n ≡ true → n < 2 ^ 64
small_count n h = omega (arith, high 1 max_step n h)

-- the first two letters of a line that isn't a client's
abbrev is_event_text : List ℕ → Bool
is_event_text text = list_any (bytes_eq (take 2 text)) (codes "cr" ∷ codes "ar" ∷ codes "up" ∷ codes "lo" ∷ codes "ch" ∷ [])

event_is : (event : Event) → is_event_text (words (EventLine event)) ≡ true
event_is (CrashOf node) = refl
event_is (ArmOf disk count) = refl
event_is (UpOf node) = refl
event_is (LoseOf server) = refl
event_is CheckpointOf = refl

event_no_call : (event : Event) → is_call_text (words (EventLine event)) ≡ false
event_no_call (CrashOf node) = refl
event_no_call (ArmOf disk count) = refl
event_no_call (UpOf node) = refl
event_no_call (LoseOf server) = refl
event_no_call CheckpointOf = refl

event_no_plus : (event : Event) → bytes_eq (take 1 (words (EventLine event))) (codes "+") ≡ false
event_no_plus (CrashOf node) = refl
event_no_plus (ArmOf disk count) = refl
event_no_plus (UpOf node) = refl
event_no_plus (LoseOf server) = refl
event_no_plus CheckpointOf = refl

count_injective : (f : Node → ℕ → Line) (a b : Node) (n m : ℕ) → SmallNode a → SmallNode b → n < 2 ^ 64 → m < 2 ^ 64 → node_text a ++ num n ≡ node_text b ++ num m → f a n ≡ f b m
count_injective f a b n m p q r s e =
    let both = cut 32 (node_text a) (node_text b) (decimal n) (decimal m) (node_free a p) (node_free b q) e in
    ap (λ (x : Node). f x n) (node_injective a b p q both.0) ∙ ap (λ (x : ℕ). f b x) (decimal_injective n m r s both.1)

event_injective : (geo : Geometry) (a b : Event) → IsLine geo (EventLine a) → IsLine geo (EventLine b) → words (EventLine a) ≡ words (EventLine b) → EventLine a ≡ EventLine b
event_injective geo (CrashOf a) (CrashOf b) p q e = ap (λ (x : Node). EventLine (CrashOf x)) (node_injective a b (small_node geo a p) (small_node geo b q) (strip 6 (words (EventLine (CrashOf a))) (words (EventLine (CrashOf b))) e))
event_injective geo (ArmOf a n) (ArmOf b m) p q e = count_injective (λ x k. EventLine (ArmOf x k)) a b n m (small_disk geo a p.0) (small_disk geo b q.0) (small_count n p.1) (small_count m q.1) (strip 4 (words (EventLine (ArmOf a n))) (words (EventLine (ArmOf b m))) e)
event_injective geo (UpOf a) (UpOf b) p q e = ap (λ (x : Node). EventLine (UpOf x)) (node_injective a b (small_node geo a p) (small_node geo b q) (strip 3 (words (EventLine (UpOf a))) (words (EventLine (UpOf b))) e))
event_injective geo (LoseOf a) (LoseOf b) p q e = ap (λ (x : ServerId). EventLine (LoseOf x)) (one_server a b (small_server geo a.0 p) (small_server geo b.0 q) (strip 5 (words (EventLine (LoseOf a))) (words (EventLine (LoseOf b))) e))
event_injective geo CheckpointOf CheckpointOf p q e = refl
event_injective geo a b p q e = apart 2 (words (EventLine a)) (words (EventLine b)) refl refl e

steps_words : (a : Node) (n : ℕ) → words (Steps a n) ≡ codes "step " ++ (node_text a ++ 32 ∷ decimal n)
steps_words a n = refl

to_words : (a : Node) (k : Kind) → words (StepTo a k) ≡ codes "step " ++ (node_text a ++ 32 ∷ (codes "to " ++ kind_text k))
to_words a k = ap (λ (l : List ℕ). codes "step " ++ l) (append_assoc (node_text a) (codes " to ") (kind_text k))

one_call : (geo : Geometry) (c d : ℕ) (x y : Call) (plus : Bool) → within 1 geo.clients c ≡ true → within 1 geo.clients d ≡ true → IsCall x → IsCall y → decimal c ++ 32 ∷ call_text x ≡ decimal d ++ 32 ∷ call_text y → CallLine plus c x ≡ CallLine plus d y
one_call geo c d x y plus p q r s e =
    let both = cut 32 (decimal c) (decimal d) (call_text x) (call_text y) (number_free c (small_client geo c p)) (number_free d (small_client geo d q)) e in
    ap (λ (k : ℕ). CallLine plus k x) (decimal_injective c d (small_client geo c p) (small_client geo d q) both.0) ∙ ap (λ (k : Call). CallLine plus d k) (call_injective x y r s both.1)

one_rebuild : (geo : Geometry) (a b : ServerId) (plus : Bool) → within 1 geo.servers a.0 ≡ true → within 1 geo.servers b.0 ≡ true → server_text a ≡ server_text b → JobLine plus (Rebuild a) ≡ JobLine plus (Rebuild b)
one_rebuild geo a b plus p q e = ap (λ (x : ServerId). JobLine plus (Rebuild x)) (one_server a b (small_server geo a.0 p) (small_server geo b.0 q) e)

line_injective : (geo : Geometry) → (a b : Line) → IsLine geo a → IsLine geo b → words a ≡ words b → a ≡ b
line_injective geo (CallLine false c x) (CallLine false d y) p q e = one_call geo c d x y false p.0 q.0 p.1 q.1 (strip 1 (words (CallLine false c x)) (words (CallLine false d y)) e)
line_injective geo (CallLine true c x) (CallLine true d y) p q e = one_call geo c d x y true p.0 q.0 p.1 q.1 (strip 2 (words (CallLine true c x)) (words (CallLine true d y)) e)
line_injective geo (CallLine true c x) (JobLine true Clean) p q e = differ is_call_text (words (CallLine false c x)) (codes "clean") (call_is c x (small_client geo c p.0)) refl (strip 1 (words (CallLine true c x)) (words (JobLine true Clean)) e)
line_injective geo (CallLine true c x) (JobLine true (Rebuild b)) p q e = apart 2 (words (CallLine true c x)) (words (JobLine true (Rebuild b))) refl refl e
line_injective geo (JobLine true Clean) (CallLine true d y) p q e = differ is_call_text (words (CallLine false d y)) (codes "clean") (call_is d y (small_client geo d q.0)) refl (sym (strip 1 (words (JobLine true Clean)) (words (CallLine true d y)) e))
line_injective geo (JobLine true (Rebuild a)) (CallLine true d y) p q e = apart 2 (words (JobLine true (Rebuild a))) (words (CallLine true d y)) refl refl e
line_injective geo (CallLine false c x) (EventLine event) p q e = differ is_call_text (words (CallLine false c x)) (words (EventLine event)) (call_is c x (small_client geo c p.0)) (event_no_call event) e
line_injective geo (EventLine event) (CallLine false d y) p q e = differ is_call_text (words (CallLine false d y)) (words (EventLine event)) (call_is d y (small_client geo d q.0)) (event_no_call event) (sym e)
line_injective geo (CallLine false c x) (JobLine false Clean) p q e = differ is_call_text (words (CallLine false c x)) (codes "clean") (call_is c x (small_client geo c p.0)) refl e
line_injective geo (JobLine false Clean) (CallLine false d y) p q e = differ is_call_text (words (CallLine false d y)) (codes "clean") (call_is d y (small_client geo d q.0)) refl (sym e)
line_injective geo (JobLine false Clean) (JobLine false Clean) p q e = refl
line_injective geo (JobLine true Clean) (JobLine true Clean) p q e = refl
line_injective geo (JobLine false (Rebuild a)) (JobLine false (Rebuild b)) p q e = one_rebuild geo a b false p q (strip 8 (words (JobLine false (Rebuild a))) (words (JobLine false (Rebuild b))) e)
line_injective geo (JobLine true (Rebuild a)) (JobLine true (Rebuild b)) p q e = one_rebuild geo a b true p q (strip 9 (words (JobLine true (Rebuild a))) (words (JobLine true (Rebuild b))) e)
line_injective geo (Steps a n) (Steps b m) p q e = count_injective (λ x k. Steps x k) a b n m (small_actor geo a p.0) (small_actor geo b q.0) (small_count n p.1) (small_count m q.1) (strip 5 (words (Steps a n)) (words (Steps b m)) e)
line_injective geo (StepTo a k) (StepTo b l) p q e =
    let both = cut 32 (node_text a) (node_text b) (codes "to " ++ kind_text k) (codes "to " ++ kind_text l) (node_free a (small_actor geo a p)) (node_free b (small_actor geo b q)) (strip 5 (codes "step " ++ (node_text a ++ 32 ∷ (codes "to " ++ kind_text k))) (codes "step " ++ (node_text b ++ 32 ∷ (codes "to " ++ kind_text l))) (sym (to_words a k) ∙ e ∙ to_words b l)) in
    ap (λ (x : Node). StepTo x k) (node_injective a b (small_actor geo a p) (small_actor geo b q) both.0) ∙ ap (λ (x : Kind). StepTo b x) (kind_injective k l (strip 3 (codes "to " ++ kind_text k) (codes "to " ++ kind_text l) both.1))
line_injective geo (Steps a n) (StepTo b l) p q e =
    let both = cut 32 (node_text a) (node_text b) (decimal n) (codes "to " ++ kind_text l) (node_free a (small_actor geo a p.0)) (node_free b (small_actor geo b q)) (strip 5 (codes "step " ++ (node_text a ++ 32 ∷ decimal n)) (codes "step " ++ (node_text b ++ 32 ∷ (codes "to " ++ kind_text l))) (e ∙ to_words b l)) in
    differ low (decimal n) (codes "to " ++ kind_text l) (decimal_low n (small_count n p.1)) refl both.1
line_injective geo (StepTo a k) (Steps b m) p q e =
    let both = cut 32 (node_text b) (node_text a) (decimal m) (codes "to " ++ kind_text k) (node_free b (small_actor geo b q.0)) (node_free a (small_actor geo a p)) (strip 5 (codes "step " ++ (node_text b ++ 32 ∷ decimal m)) (codes "step " ++ (node_text a ++ 32 ∷ (codes "to " ++ kind_text k))) (sym e ∙ to_words a k)) in
    differ low (decimal m) (codes "to " ++ kind_text k) (decimal_low m (small_count m q.1)) refl both.1
line_injective geo (EventLine a) (EventLine b) p q e = event_injective geo a b p q e
line_injective geo (EventLine a) (JobLine false Clean) p q e = differ is_event_text (words (EventLine a)) (codes "clean") (event_is a) refl e
line_injective geo (EventLine a) (JobLine false (Rebuild b)) p q e = differ is_event_text (words (EventLine a)) (words (JobLine false (Rebuild b))) (event_is a) refl e
line_injective geo (EventLine a) (JobLine true Clean) p q e = differ is_event_text (words (EventLine a)) (words (JobLine true Clean)) (event_is a) refl e
line_injective geo (EventLine a) (JobLine true (Rebuild b)) p q e = differ is_event_text (words (EventLine a)) (words (JobLine true (Rebuild b))) (event_is a) refl e
line_injective geo (EventLine a) b p q e = differ is_event_text (words (EventLine a)) (words b) (event_is a) refl e
line_injective geo (JobLine false Clean) (EventLine b) p q e = differ is_event_text (words (EventLine b)) (codes "clean") (event_is b) refl (sym e)
line_injective geo (JobLine false (Rebuild a)) (EventLine b) p q e = differ is_event_text (words (EventLine b)) (words (JobLine false (Rebuild a))) (event_is b) refl (sym e)
line_injective geo (JobLine true Clean) (EventLine b) p q e = differ is_event_text (words (EventLine b)) (words (JobLine true Clean)) (event_is b) refl (sym e)
line_injective geo (JobLine true (Rebuild a)) (EventLine b) p q e = differ is_event_text (words (EventLine b)) (words (JobLine true (Rebuild a))) (event_is b) refl (sym e)
line_injective geo a (EventLine b) p q e = differ is_event_text (words (EventLine b)) (words a) (event_is b) refl (sym e)
line_injective geo (CallLine false c x) (JobLine false (Rebuild b)) p q e = apart 1 (words (CallLine false c x)) (words (JobLine false (Rebuild b))) refl refl e
line_injective geo (JobLine false (Rebuild a)) (CallLine false d y) p q e = apart 1 (words (JobLine false (Rebuild a))) (words (CallLine false d y)) refl refl e
line_injective geo (JobLine true Clean) (JobLine true (Rebuild b)) p q e = apart 2 (words (JobLine true Clean)) (words (JobLine true (Rebuild b))) refl refl e
line_injective geo (JobLine true (Rebuild a)) (JobLine true Clean) p q e = apart 2 (words (JobLine true (Rebuild a))) (words (JobLine true Clean)) refl refl e
line_injective geo (JobLine false Clean) (CallLine true c x) p q e = apart 1 (words (JobLine false Clean)) (words (CallLine true c x)) refl refl e
line_injective geo (CallLine true c x) (JobLine false Clean) p q e = apart 1 (words (CallLine true c x)) (words (JobLine false Clean)) refl refl e
line_injective geo (JobLine false Clean) (Steps a n) p q e = apart 1 (words (JobLine false Clean)) (words (Steps a n)) refl refl e
line_injective geo (Steps a n) (JobLine false Clean) p q e = apart 1 (words (Steps a n)) (words (JobLine false Clean)) refl refl e
line_injective geo (JobLine false Clean) (StepTo a k) p q e = apart 1 (words (JobLine false Clean)) (words (StepTo a k)) refl refl e
line_injective geo (StepTo a k) (JobLine false Clean) p q e = apart 1 (words (StepTo a k)) (words (JobLine false Clean)) refl refl e
line_injective geo (JobLine false Clean) (JobLine true Clean) p q e = apart 1 (words (JobLine false Clean)) (words (JobLine true Clean)) refl refl e
line_injective geo (JobLine false Clean) (JobLine true (Rebuild j)) p q e = apart 1 (words (JobLine false Clean)) (words (JobLine true (Rebuild j))) refl refl e
line_injective geo (JobLine false (Rebuild i)) (CallLine true c x) p q e = apart 1 (words (JobLine false (Rebuild i))) (words (CallLine true c x)) refl refl e
line_injective geo (CallLine true c x) (JobLine false (Rebuild i)) p q e = apart 1 (words (CallLine true c x)) (words (JobLine false (Rebuild i))) refl refl e
line_injective geo (JobLine false (Rebuild i)) (Steps a n) p q e = apart 1 (words (JobLine false (Rebuild i))) (words (Steps a n)) refl refl e
line_injective geo (Steps a n) (JobLine false (Rebuild i)) p q e = apart 1 (words (Steps a n)) (words (JobLine false (Rebuild i))) refl refl e
line_injective geo (JobLine false (Rebuild i)) (StepTo a k) p q e = apart 1 (words (JobLine false (Rebuild i))) (words (StepTo a k)) refl refl e
line_injective geo (StepTo a k) (JobLine false (Rebuild i)) p q e = apart 1 (words (StepTo a k)) (words (JobLine false (Rebuild i))) refl refl e
line_injective geo (JobLine false (Rebuild i)) (JobLine true Clean) p q e = apart 1 (words (JobLine false (Rebuild i))) (words (JobLine true Clean)) refl refl e
line_injective geo (JobLine false (Rebuild i)) (JobLine true (Rebuild j)) p q e = apart 1 (words (JobLine false (Rebuild i))) (words (JobLine true (Rebuild j))) refl refl e
line_injective geo (JobLine true Clean) (CallLine false c x) p q e = apart 1 (words (JobLine true Clean)) (words (CallLine false c x)) refl refl e
line_injective geo (CallLine false c x) (JobLine true Clean) p q e = apart 1 (words (CallLine false c x)) (words (JobLine true Clean)) refl refl e
line_injective geo (JobLine true Clean) (Steps a n) p q e = apart 1 (words (JobLine true Clean)) (words (Steps a n)) refl refl e
line_injective geo (Steps a n) (JobLine true Clean) p q e = apart 1 (words (Steps a n)) (words (JobLine true Clean)) refl refl e
line_injective geo (JobLine true Clean) (StepTo a k) p q e = apart 1 (words (JobLine true Clean)) (words (StepTo a k)) refl refl e
line_injective geo (StepTo a k) (JobLine true Clean) p q e = apart 1 (words (StepTo a k)) (words (JobLine true Clean)) refl refl e
line_injective geo (JobLine true Clean) (JobLine false Clean) p q e = apart 1 (words (JobLine true Clean)) (words (JobLine false Clean)) refl refl e
line_injective geo (JobLine true Clean) (JobLine false (Rebuild j)) p q e = apart 1 (words (JobLine true Clean)) (words (JobLine false (Rebuild j))) refl refl e
line_injective geo (JobLine true (Rebuild i)) (CallLine false c x) p q e = apart 1 (words (JobLine true (Rebuild i))) (words (CallLine false c x)) refl refl e
line_injective geo (CallLine false c x) (JobLine true (Rebuild i)) p q e = apart 1 (words (CallLine false c x)) (words (JobLine true (Rebuild i))) refl refl e
line_injective geo (JobLine true (Rebuild i)) (Steps a n) p q e = apart 1 (words (JobLine true (Rebuild i))) (words (Steps a n)) refl refl e
line_injective geo (Steps a n) (JobLine true (Rebuild i)) p q e = apart 1 (words (Steps a n)) (words (JobLine true (Rebuild i))) refl refl e
line_injective geo (JobLine true (Rebuild i)) (StepTo a k) p q e = apart 1 (words (JobLine true (Rebuild i))) (words (StepTo a k)) refl refl e
line_injective geo (StepTo a k) (JobLine true (Rebuild i)) p q e = apart 1 (words (StepTo a k)) (words (JobLine true (Rebuild i))) refl refl e
line_injective geo (JobLine true (Rebuild i)) (JobLine false Clean) p q e = apart 1 (words (JobLine true (Rebuild i))) (words (JobLine false Clean)) refl refl e
line_injective geo (JobLine true (Rebuild i)) (JobLine false (Rebuild j)) p q e = apart 1 (words (JobLine true (Rebuild i))) (words (JobLine false (Rebuild j))) refl refl e
line_injective geo (CallLine false c x) (Steps a n) p q e = apart 1 (words (CallLine false c x)) (words (Steps a n)) refl refl e
line_injective geo (Steps a n) (CallLine false c x) p q e = apart 1 (words (Steps a n)) (words (CallLine false c x)) refl refl e
line_injective geo (CallLine false c x) (StepTo a k) p q e = apart 1 (words (CallLine false c x)) (words (StepTo a k)) refl refl e
line_injective geo (StepTo a k) (CallLine false c x) p q e = apart 1 (words (StepTo a k)) (words (CallLine false c x)) refl refl e
line_injective geo (CallLine true c x) (Steps a n) p q e = apart 1 (words (CallLine true c x)) (words (Steps a n)) refl refl e
line_injective geo (Steps a n) (CallLine true c x) p q e = apart 1 (words (Steps a n)) (words (CallLine true c x)) refl refl e
line_injective geo (CallLine true c x) (StepTo a k) p q e = apart 1 (words (CallLine true c x)) (words (StepTo a k)) refl refl e
line_injective geo (StepTo a k) (CallLine true c x) p q e = apart 1 (words (StepTo a k)) (words (CallLine true c x)) refl refl e
line_injective geo a b p q e = apart 1 (words a) (words b) refl refl e

pub one_spelling : OneSpelling
one_spelling geo a b p q e = line_injective geo a b p q e
