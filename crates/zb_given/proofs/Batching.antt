-- Several lines of a client at once.
use Rattle.std.proofs.Common.{◌≡◌, ℕ, suc, ◌<◌, ◌≤◌, max, Bool, true, cond, List, [], ◌∷◌, ◌++◌, length, Option, Some, None, refl, sym, ap, subst, ◌∙◌, append_assoc, arith, inl, inr}
use Rattle.std.specs.Prelude.{nat_le}
use Rattle.std.specs.List.{list_any, AllByRecursion}
use Rattle.std.proofs.lemmas.List.{append-nil, length-append}
use Rattle.zb_types.specs.declared.calls.Call.{Call}
use Rattle.zb_types.specs.declared.history.Did.{Did}
use Rattle.zb_types.specs.declared.lines.Said.TheVariants.{Reply as Replied, Unfinished}
use Rattle.zb_types.specs.declared.lines.Outcome.{Outcome}
use Rattle.zb_types.specs.declared.lines.Outcome.TheVariants.{Call as OfCall}
use Rattle.zb_types.specs.Tree.{Tree, first_tree}
use Rattle.zb_types.specs.Apply.{is_update, applied}
use Rattle.zb_types.specs.History.{tree_from, tree_after, AreReplies}
use Rattle.zb_claims.specs.Points.{call_of, has_line, did_if, dids, tree_at}
use Rattle.zb_claims.specs.Fits.{is_update_in}
use Rattle.zb_laws.proofs.Each.{each_weaker}
use Rattle.zb_laws.proofs.Tests.{at_or_below, or_cases, or_left, or_right}
use Rattle.zb_laws.proofs.Told.{dids-append}
use Rattle.zb_given.specs.Given.{Given, script_of, place_of, FitGiven}
use Rattle.zb_given.specs.Queues.{RiseAbove, kept_numbers, last_without, CallsStand}
use Rattle.zb_given.specs.Batches.{numbers_in, reply_lines, IsUpdateOf, RepliesBatch, unfinished_lines, EndsAll}
use Rattle.zb_given.proofs.Small.{no, nat_le_yes, nat_le_is}
use Rattle.zb_given.proofs.Crashing.{call_leaves_crashes}
use Rattle.zb_given.proofs.Adding.{adds_update, adds_unfinished}
use Rattle.zb_given.proofs.Standing.{ends_kept, without_one, within_yes}

-- the tree after one update more
tree_push : (tree : Tree) (xs : List Did) (did : Did) → tree_from tree (xs ++ did ∷ []) ≡ applied (tree_from tree xs) did.call
tree_push tree [] did = refl
tree_push tree (x ∷ xs) did = tree_push (applied tree x.call) xs did

-- a reply to an update is one update more
told_one : (given : Given) (lines : List Outcome) (client : ℕ) (did : Did) → did.client ≡ client → call_of (script_of given) client did.number ≡ Some did.call → is_update did.call ≡ true
    → dids (script_of given) (lines ++ OfCall client did.number (Replied did.reply) ∷ []) ≡ dids (script_of given) lines ++ did ∷ []
told_one given lines client did own is update =
    dids-append (script_of given) lines (OfCall client did.number (Replied did.reply) ∷ [])
    ∙ ap (λ (o : Option Call). dids (script_of given) lines ++ (did_if client did.number did.reply o ++ [])) is
    ∙ ap (λ (b : Bool). dids (script_of given) lines ++ (cond b (record { client = client; number = did.number; call = did.call; reply = did.reply } ∷ []) [] ++ [])) update
    ∙ ap (λ (k : ℕ). let d : Did = record { client = k; number = did.number; call = did.call; reply = did.reply } in dids (script_of given) lines ++ d ∷ []) (sym own)

rise_mid : (low k : ℕ) (xs ys : List ℕ) → RiseAbove low (xs ++ k ∷ ys) → low < k
rise_mid low k [] ys rise = rise.0
rise_mid low k (x ∷ xs) ys rise = omega (arith, rise.0, rise_mid x k xs ys rise.1)

all_mid : (P : ℕ → Type 0) (k : ℕ) (xs ys : List ℕ) → AllByRecursion P (xs ++ k ∷ ys) → P k
all_mid P k [] ys all = all.0
all_mid P k (x ∷ xs) ys all = all_mid P k xs ys all.1

-- where calls are kept behind this one, it has its line already
has_its_line : (given : Given) (lines : List Outcome) (client n : ℕ) (xs kept : List ℕ) (taken lined : ℕ) → CallsStand given lines client (n ∷ xs ++ kept) taken lined → 0 < length kept → n ≤ lined
has_its_line given lines client n xs [] taken lined s some = absurd (omega (arith, some))
has_its_line given lines client n xs (k ∷ kept) taken lined s some = omega (arith, rise_mid n k xs kept s.rise.1, all_mid (λ j. j ≤ taken) k xs kept s.below.1, s.many)

-- where none is kept, all have a line
none_kept : (given : Given) (lines : List Outcome) (client taken lined : ℕ) → CallsStand given lines client [] taken lined → lined ≡ taken
none_kept given lines client taken lined s = elim (at_or_below lined taken s.few) as (λ _. lined ≡ taken) [
  | inl e ↦ e
  | inr lt ↦
      let one : taken ≡ suc lined = omega (arith, lt, s.many) in
      let last : length (last_without taken lined) ≡ 1 = ap (λ (k : ℕ). length (last_without k lined)) one ∙ ap length (without_one lined) in
      absurd (omega (arith, last, ap length s.kept_are, length-append (kept_numbers lines client) (last_without taken lined)))
]

pub replies_batch : RepliesBatch
replies_batch given lines client [] kept taken lined g s updates replies =
    let whole : lines ≡ lines ++ [] = sym (append-nil lines) in
    record {
      fits = subst (FitGiven given) (sym (append-nil lines)) g;
      after = lined;
      stand = subst (λ (l : List Outcome). CallsStand given l client kept taken lined) (sym (append-nil lines)) s;
      same = λ some. refl;
      all = λ none. none_kept given lines client taken lined (subst (λ (l : List ℕ). CallsStand given lines client l taken lined) none s);
      told = ap (dids (script_of given)) (append-nil lines) ∙ sym (append-nil (dids (script_of given) lines));
    }
replies_batch given lines client (did ∷ batch) kept taken lined g s updates replies =
    let u = updates.0 in
    let e = ends_kept given lines client did.number (numbers_in batch ++ kept) taken lined did.call u.call_is s in
    let x : Outcome = OfCall client did.number (Replied did.reply) in
    let g' = adds_update given lines client did.number did.call did.reply g e.is_open (record { earlier = e.earlier; manager = u.manager }) e.first e.is_update replies.0 in
    let told : dids (script_of given) (lines ++ OfCall client did.number (Replied did.reply) ∷ []) ≡ dids (script_of given) lines ++ did ∷ [] = told_one given lines client did u.client_is u.call_is e.is_update in
    let tree : tree_at (script_of given) (lines ++ OfCall client did.number (Replied did.reply) ∷ []) ≡ applied (tree_at (script_of given) lines) did.call = ap tree_after told ∙ tree_push first_tree (dids (script_of given) lines) did in
    let rest = replies_batch given (lines ++ OfCall client did.number (Replied did.reply) ∷ []) client batch kept taken (max lined did.number) g' (e.stand (Replied did.reply) refl)
    (each_weaker (IsUpdateOf given lines client) (IsUpdateOf given (lines ++ OfCall client did.number (Replied did.reply) ∷ []) client)
    (λ other is. record { client_is = is.client_is; call_is = is.call_is; manager = call_leaves_crashes (script_of given) lines client did.number (Replied did.reply) (place_of given client other.number) ∙ is.manager }) batch updates.1)
    (subst (λ (t : Tree). AreReplies t batch) (sym tree) replies.1) in
    let whole : (lines ++ OfCall client did.number (Replied did.reply) ∷ []) ++ reply_lines client batch ≡ lines ++ reply_lines client (did ∷ batch) = append_assoc lines (OfCall client did.number (Replied did.reply) ∷ []) (reply_lines client batch) in
    record {
      fits = subst (FitGiven given) whole rest.fits;
      after = rest.after;
      stand = subst (λ (l : List Outcome). CallsStand given l client kept taken rest.after) whole rest.stand;
      same = λ some. rest.same some ∙ greater (has_its_line given lines client did.number (numbers_in batch) kept taken lined s some);
      all = rest.all;
      told = ap (dids (script_of given)) (sym whole) ∙ rest.told ∙ ap (λ (l : List Did). l ++ batch) told ∙ append_assoc (dids (script_of given) lines) (did ∷ []) batch;
    }
  where
    greater : did.number ≤ lined → max lined did.number ≡ lined
    greater le = omega (arith, le)

-- a finish that began has begun
pub over_longer : (lines more : List Outcome) (finishes : List ℕ) → list_any (λ at. nat_le at (length lines)) finishes ≡ true → list_any (λ at. nat_le at (length (lines ++ more))) finishes ≡ true
over_longer lines more [] h = no h
over_longer lines more (at ∷ finishes) h = elim (or_cases (nat_le at (length lines)) (list_any (λ k. nat_le k (length lines)) finishes) h) as (λ _. list_any (λ k. nat_le k (length (lines ++ more))) (at ∷ finishes) ≡ true) [
  | inl e ↦ or_left (nat_le at (length (lines ++ more))) (list_any (λ k. nat_le k (length (lines ++ more))) finishes) (nat_le_yes at (length (lines ++ more)) (omega (arith, nat_le_is at (length lines) e, length-append lines more)))
  | inr e ↦ or_right (nat_le at (length (lines ++ more))) (list_any (λ k. nat_le k (length (lines ++ more))) finishes) (over_longer lines more finishes e)
]

-- a kept call was given
pub given_call : (given : Given) (client n : ℕ) (o : Option Call) → call_of (script_of given) client n ≡ o → is_update_in o ≡ true → (call : Call) × (call_of (script_of given) client n ≡ Some call)
given_call given client n None e h = no h
given_call given client n (Some call) e h = (call, e)

pub ends_all : EndsAll
ends_all given lines client cause [] taken g s over = record {
  fits = subst (FitGiven given) (sym (append-nil lines)) g;
  stand = subst (λ (l : List Outcome). CallsStand given l client [] taken taken) (sym (append-nil lines)) s;
  told = ap (dids (script_of given)) (append-nil lines);
}
ends_all given lines client cause (n ∷ kept) taken g s over =
    let c = given_call given client n (call_of (script_of given) client n) refl s.updates.0 in
    let e = ends_kept given lines client n kept taken taken c.0 c.1 s in
    let told : has_line lines client n ≡ true = s.named n ∙ within_yes taken n (omega (arith, s.rise.0)) s.below.0 in
    let g' = adds_unfinished given lines client n c.0 cause g e.is_open e.is_update told over in
    let top : max taken n ≡ taken = omega (arith, s.below.0) in
    let stand : CallsStand given (lines ++ OfCall client n (Unfinished cause) ∷ []) client kept taken taken = subst (λ (k : ℕ). CallsStand given (lines ++ OfCall client n (Unfinished cause) ∷ []) client kept taken k) top (e.stand (Unfinished cause) refl) in
    let rest = ends_all given (lines ++ OfCall client n (Unfinished cause) ∷ []) client cause kept taken g' stand (over_longer lines (OfCall client n (Unfinished cause) ∷ []) given.finishes over) in
    let whole : (lines ++ OfCall client n (Unfinished cause) ∷ []) ++ unfinished_lines client cause kept ≡ lines ++ unfinished_lines client cause (n ∷ kept) = append_assoc lines (OfCall client n (Unfinished cause) ∷ []) (unfinished_lines client cause kept) in
    let none : dids (script_of given) (lines ++ OfCall client n (Unfinished cause) ∷ []) ≡ dids (script_of given) lines = dids-append (script_of given) lines (OfCall client n (Unfinished cause) ∷ []) ∙ append-nil (dids (script_of given) lines) in
    record {
      fits = subst (FitGiven given) whole rest.fits;
      stand = subst (λ (l : List Outcome). CallsStand given l client [] taken taken) whole rest.stand;
      told = ap (dids (script_of given)) (sym whole) ∙ rest.told ∙ none;
    }
