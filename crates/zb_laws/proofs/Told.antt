-- Each update of a report that fits has the reply of the tree before it.
use Rattle.std.proofs.Common.{◌≡◌, ℕ, Bool, true, false, cond, List, [], ◌∷◌, ◌++◌, Option, Some, refl, sym, ap, subst, ◌∙◌}
use Rattle.std.proofs.lemmas.Grind.{flat_map-append}
use Rattle.std.proofs.lemmas.List.{append-nil}
use Rattle.zb_types.specs.declared.calls.Call.{Call}
use Rattle.zb_types.specs.declared.calls.Reply.{Reply}
use Rattle.zb_types.specs.declared.history.Did.{Did}
use Rattle.zb_types.specs.declared.lines.Line.{Line}
use Rattle.zb_types.specs.declared.lines.Said.TheVariants.{Reply as Replied, Buffered, Kept, Failed, Dropped, Unfinished}
use Rattle.zb_types.specs.declared.lines.Outcome.{Outcome}
use Rattle.zb_types.specs.declared.lines.Outcome.TheVariants.{Call as OfCall, Clean as OfClean, Rebuild as OfRebuild, Event as OfEvent}
use Rattle.zb_types.specs.Tree.{Tree, first_tree}
use Rattle.zb_types.specs.Apply.{is_update, applied, reply_to}
use Rattle.zb_types.specs.History.{tree_from, tree_after, AreReplies}
use Rattle.zb_claims.specs.Points.{did_of, did_if, dids, tree_at, call_in}
use Rattle.zb_claims.specs.Fits.{FitsNext, FitsFrom}
use Rattle.zb_laws.specs.Histories.{FrontFits}

pub dids-append : (script : List Line) (xs ys : List Outcome) → dids script (xs ++ ys) ≡ dids script xs ++ dids script ys
dids-append script xs ys = flat_map-append (did_of script) xs ys

tree_from-append : (tree : Tree) (xs ys : List Did) → tree_from tree (xs ++ ys) ≡ tree_from (tree_from tree xs) ys
tree_from-append tree [] ys = refl
tree_from-append tree (x ∷ xs) ys = tree_from-append (applied tree x.call) xs ys

AreReplies-append : (tree : Tree) (xs ys : List Did) → AreReplies tree xs → AreReplies (tree_from tree xs) ys → AreReplies tree (xs ++ ys)
AreReplies-append tree [] ys p q = q
AreReplies-append tree (x ∷ xs) ys p q = (p.0, AreReplies-append (applied tree x.call) xs ys p.1 q)

-- one reply more
if_replies : (tree : Tree) (client n : ℕ) (reply : Reply) (call : Call) → (is_update call ≡ true → reply ≡ reply_to tree call) → AreReplies tree (did_if client n reply (Some call))
if_replies tree client n reply call same =
    elim (is_update call) as (λ b. is_update call ≡ b → AreReplies tree (cond b (record { client = client; number = n; call = call; reply = reply } ∷ []) [])) [
      | true ↦ λ e. (same e, tt)
      | false ↦ λ e. tt
    ] refl

next_replies : (ordered : Bool) (script : List Line) (before : List Outcome) (line : Outcome) → FitsNext ordered script before line → AreReplies (tree_at script before) (did_of script line)
next_replies ordered script before (OfCall client n (Replied reply)) fits =
    subst (λ (o : Option Call). AreReplies (tree_at script before) (did_if client n reply o)) (sym (ap call_in fits.is)) (if_replies (tree_at script before) client n reply fits.call fits.fits.update)
next_replies ordered script before (OfCall client n Buffered) fits = tt
next_replies ordered script before (OfCall client n (Kept cause)) fits = tt
next_replies ordered script before (OfCall client n (Failed cause)) fits = tt
next_replies ordered script before (OfCall client n Dropped) fits = tt
next_replies ordered script before (OfCall client n (Unfinished cause)) fits = tt
next_replies ordered script before (OfClean pass) fits = tt
next_replies ordered script before (OfRebuild server end) fits = tt
next_replies ordered script before (OfEvent event answer) fits = tt

pub replies_from : (ordered : Bool) (script : List Line) (before lines : List Outcome) → FitsFrom ordered script before lines → AreReplies (tree_at script before) (dids script lines)
replies_from ordered script before [] fits = tt
replies_from ordered script before (line ∷ lines) fits =
    AreReplies-append (tree_at script before) (did_of script line) (dids script lines) (next_replies ordered script before line fits.0)
    (subst (λ (t : Tree). AreReplies t (dids script lines))
    (ap tree_after (dids-append script before (line ∷ []) ∙ ap (λ (d : List Did). dids script before ++ d) (append-nil (did_of script line))) ∙ tree_from-append first_tree (dids script before) (did_of script line))
    (replies_from ordered script (before ++ line ∷ []) lines fits.1))

-- Fronts.

front_from : (ordered : Bool) (script : List Line) (before lines more : List Outcome) → FitsFrom ordered script before (lines ++ more) → FitsFrom ordered script before lines
front_from ordered script before [] more fits = tt
front_from ordered script before (line ∷ lines) more fits = (fits.0, front_from ordered script (before ++ line ∷ []) lines more fits.1)

pub front_fits : FrontFits
front_fits ordered script lines more fits = front_from ordered script [] lines more fits
