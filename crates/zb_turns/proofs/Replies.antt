-- Each operation has one reply.
use Rattle.std.proofs.Common.{◌≡◌, ℕ, suc, ◌+◌, cond, eqb, List, [], ◌∷◌, ◌++◌, length, Option, Some, None, Result, Ok, Err, subst, arith}
use Rattle.std.specs.Prelude.{nat_lt, IfOk}
use Rattle.std.specs.List.{AllByRecursion}
use Rattle.std.proofs.lemmas.Bool.{cond_both}
use Rattle.std.proofs.lemmas.List.{length-append}
use Rattle.zb_types.specs.declared.ids.Fid.{Fid}
use Rattle.zb_types.specs.declared.calls.Call.{Call}
use Rattle.zb_types.specs.declared.calls.Reply.{Reply}
use Rattle.zb_types.specs.declared.calls.Reply.TheVariants.{Done, Refused}
use Rattle.zb_types.specs.declared.calls.Refusal.{Refusal}
use Rattle.zb_types.specs.declared.calls.Refusal.TheVariants.{Gone, TooBig}
use Rattle.zb_types.specs.Keyed.{look}
use Rattle.zb_types.specs.Apply.{max_file}
use Rattle.zb_types.specs.Names.{name_refusal, name_reply}
use Rattle.zb_batch.specs.declared.batch.Op.{Op}
use Rattle.zb_batch.specs.declared.batch.Op.TheVariants.{Name, Write, Cut, Sync, Clean}
use Rattle.zb_tables.specs.Tables.{FileState}
use Rattle.zb_tables.specs.Fold.{Shelf, Stale, named, replied, with_file, resized, done_op, done_ops, and_then, after_write, after_cut}
use Rattle.zb_turns.specs.Turns.{IsReplied}

-- one reply more than before, where there is a result
abbrev Adds : ℕ → Shelf → Result Shelf Stale → Type 0
Adds n s result = IfOk result (λ after. length after.replies ≡ length s.replies + n)

one_more : (replies : List Reply) (reply : Reply) → length (replies ++ reply ∷ []) ≡ length replies + 1
one_more replies reply = length-append replies (reply ∷ [])

named_adds : (s : Shelf) (what : Call) (why : Option Refusal) → Adds 1 s (Ok (named s what why))
named_adds s what None = one_more s.replies (name_reply s.names what)
named_adds s what (Some why) = one_more s.replies (Refused why)

resized_adds : (s : Shelf) (fid : Fid) (version end : ℕ) (new : FileState → FileState) (file : Option FileState) → Adds 1 s (resized s fid version end new file)
resized_adds s fid version end new None = one_more s.replies (Refused Gone)
resized_adds s fid version end new (Some file) =
    let big = Ok (replied s (Refused TooBig)) in
    let done = Ok (with_file s fid (new file)) in
    cond_both (eqb version file.version) (cond (nat_lt max_file end) big done) (Err (record { fid = fid; seen = version; now = file.version })) (Adds 1 s)
    (λ _. cond_both (nat_lt max_file end) big done (Adds 1 s) (λ _. one_more s.replies (Refused TooBig)) (λ _. one_more s.replies Done)) (λ _. tt)

one_adds : (b : ℕ) (s : Shelf) (o : Op) → IsReplied o → Adds 1 s (done_op b s o)
one_adds b s (Name call what) is = named_adds s what (name_refusal s.names what)
one_adds b s (Write call fid version offset len deltas) is = resized_adds s fid version (offset + len) (after_write (offset + len) deltas) (look fid.0 s.files)
one_adds b s (Cut call fid version size deltas) is = resized_adds s fid version size (after_cut b size deltas) (look fid.0 s.files)
one_adds b s (Sync call) is = one_more s.replies Done
one_adds b s (Clean deltas) is = absurd is

then_adds : (b : ℕ) (os : List Op) (s : Shelf) (first : Result Shelf Stale) → Adds 1 s first → ((mid : Shelf) → Adds (length os) mid (done_ops b os mid)) → Adds (suc (length os)) s (and_then first (done_ops b os))
then_adds b os s (Err stale) one rest = tt
then_adds b os s (Ok mid) one rest = longer (done_ops b os mid) (rest mid)
  where
    longer : (r : Result Shelf Stale) → Adds (length os) mid r → Adds (suc (length os)) s r
    longer (Err stale) h = tt
    longer (Ok after) h = omega (arith, h, one)

all_add : (b : ℕ) (os : List Op) (s : Shelf) → AllByRecursion IsReplied os → Adds (length os) s (done_ops b os s)
all_add b [] s all = omega arith
all_add b (o ∷ os) s all = then_adds b os s (done_op b s o) (one_adds b s o all.0) (λ mid. all_add b os mid all.1)

pub all_replied : (b : ℕ) (ops : List Op) (s after : Shelf) → AllByRecursion IsReplied ops → done_ops b ops s ≡ Ok after → length after.replies ≡ length s.replies + length ops
all_replied b ops s after all done = subst (Adds (length ops) s) done (all_add b ops s all)
