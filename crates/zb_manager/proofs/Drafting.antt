-- What an operation on a file comes to, and the draft behind it.
use Rattle.std.proofs.Common.{◌≡◌, ℕ, Bool, true, false, List, [], ◌∷◌, ◌++◌, Option, Some, None, refl, sym, ap, ◌∙◌, subst, inl, inr, arith}
use Rattle.std.specs.Prelude.{if◌then◌else◌, ◌==◌, ◌||◌, nat_lt, is_some, Result, Ok, Err, IfOk, OnOk}
use Rattle.std.proofs.lemmas.Bool.{cases_eq, eq-eqb, ne_eqb}
use Rattle.std.proofs.lemmas.Bool.Decides.{nat_tests}
use Rattle.zb_types.specs.declared.ids.Fid.{Fid}
use Rattle.zb_types.specs.declared.calls.Reply.{Reply}
use Rattle.zb_types.specs.declared.calls.Reply.TheVariants.{Done, Refused}
use Rattle.zb_types.specs.declared.calls.Refusal.TheVariants as why
use Rattle.zb_types.specs.Keyed.{look, replaced}
use Rattle.zb_types.specs.Apply.{max_file}
use Rattle.zb_types.proofs.KeyedLists.{look-replaced_same, look-replaced_other}
use Rattle.zb_tables.specs.Tables.{FileState, last_value}
use Rattle.zb_tables.specs.Fold.{Files, Shelf, replied, with_file, resized}
use Rattle.zb_tables.specs.Taking.{is_worn}
use Rattle.zb_pointers.specs.declared.head.FileHead.{FileHead}
use Rattle.zb_pointers.specs.Seen.{seen_head, change_in, changed_at}
use Rattle.zb_manager.specs.declared.drafts.Verdict.{Verdict}
use Rattle.zb_manager.specs.declared.drafts.Verdict.TheVariants.{Gone, Stale as StaleVersion, TooBig, Fits}
use Rattle.zb_manager.specs.declared.drafts.Draft.{Draft}
use Rattle.zb_manager.specs.declared.work.Step.{Step}
use Rattle.zb_manager.specs.Works.{stepped, all_stepped}
use Rattle.zb_manager.specs.declared.drafts.StaleOp.{StaleOp}
use Rattle.zb_manager.specs.Drafts.{judged, head_in, IsDraft, Drafts, next_head}

module _ (s : Shelf) (fid : Fid) (version end : ℕ) (f : FileState → FileState) where
  pub record FitsIn (o : Option FileState) (head : FileHead) : Type 0 where
    pub file : FileState
    pub is : o ≡ Some file
    pub head_is : head ≡ record { version = file.version; length = file.length }
    pub done : resized s fid version end f o ≡ Ok (with_file s fid (f file))
    pub worn : is_worn end o ≡ (file.version == last_value)

  -- what the verdict says of the operation
  abbrev pub Outcome : Option FileState → Verdict → Type 0
  Outcome o Gone = (resized s fid version end f o ≡ Ok (replied s (Refused why.Gone))) × (is_worn end o ≡ false)
  Outcome o TooBig = (resized s fid version end f o ≡ Ok (replied s (Refused why.TooBig))) × (is_worn end o ≡ false)
  Outcome o (StaleVersion now) = resized s fid version end f o ≡ Err (record { fid = fid; seen = version; now = now })
  Outcome o (Fits head) = FitsIn o head

  not_worn : (file : FileState) → nat_lt max_file end ≡ true → is_worn end (Some file) ≡ false
  not_worn file big = grind (arith, nat_tests)

  may_wear : (file : FileState) → nat_lt max_file end ≡ false → is_worn end (Some file) ≡ (file.version == last_value)
  may_wear file fits = grind (arith, nat_tests)

  -- by the two tests
  by_tests : (file : FileState) (v big : Bool) → (version == file.version) ≡ v → nat_lt max_file end ≡ big
      → Outcome (Some file) (if v then (if big then TooBig else Fits (record { version = file.version; length = file.length })) else StaleVersion file.version)
  by_tests file true true e b = (
    ap (λ z. if z then (if nat_lt max_file end then Ok (replied s (Refused why.TooBig)) else Ok (with_file s fid (f file))) else Err (record { fid = fid; seen = version; now = file.version })) e
        ∙ ap (λ z. if z then Ok (replied s (Refused why.TooBig)) else Ok (with_file s fid (f file))) b,
    not_worn file b,
  )
  by_tests file true false e b = record {
    file = file;
    is = refl;
    head_is = refl;
    done = ap (λ z. if z then (if nat_lt max_file end then Ok (replied s (Refused why.TooBig)) else Ok (with_file s fid (f file))) else Err (record { fid = fid; seen = version; now = file.version })) e
        ∙ ap (λ z. if z then Ok (replied s (Refused why.TooBig)) else Ok (with_file s fid (f file))) b;
    worn = may_wear file b;
  }
  by_tests file false big e b = ap (λ z. if z then (if nat_lt max_file end then Ok (replied s (Refused why.TooBig)) else Ok (with_file s fid (f file))) else Err (record { fid = fid; seen = version; now = file.version })) e

  pub outcome : (o : Option FileState) → Outcome o (judged (seen_head o) version end)
  outcome None = (refl, refl)
  outcome (Some file) = by_tests file (version == file.version) (nat_lt max_file end) refl refl

-- ---- the draft

head_append : (es : List (Fid × FileHead)) (e : Fid × FileHead) (fid : ℕ) (h : Option FileHead) → head_in (es ++ e ∷ []) fid h ≡ (if (e.0).0 == fid then Some e.1 else head_in es fid h)
head_append [] e fid h = refl
head_append (d ∷ es) e fid h = head_append es e fid (if (d.0).0 == fid then Some d.1 else h)

step_append : (b : ℕ) (ss : List Step) (s : Step) (files : Files) → all_stepped b (ss ++ s ∷ []) files ≡ stepped b s (all_stepped b ss files)
step_append b [] s files = refl
step_append b (t ∷ ss) s files = step_append b ss s (stepped b t files)

module _ (b : ℕ) (files : Files) (old new : Draft) (s : Shelf) (is : IsDraft b files old s) where
  -- the head that the draft has for a file
  pub head_now : (fid : ℕ) (head : Option FileHead) → head ≡ head_in old.heads.items fid (seen_head (look fid files)) → head ≡ seen_head (look fid s.files)
  head_now fid head e = e ∙ sym (is.leads fid)

  pub refused_draft : (reply : Reply) → new.heads.items ≡ old.heads.items → new.steps ≡ old.steps → new.replies ≡ old.replies ++ reply ∷ [] → IsDraft b files new (replied s reply)
  refused_draft reply heads steps replies = record {
    leads = λ fid. is.leads fid ∙ ap (λ es. head_in es fid (seen_head (look fid files))) (sym heads);
    steps = ap (λ ss. all_stepped b ss files) steps ∙ is.steps;
    replies = replies ∙ ap (λ rs. rs ++ reply ∷ []) is.replies;
  }

  pub resized_draft : (fid : Fid) (file changed : FileState) (head : FileHead) (step : Step) → look fid.0 s.files ≡ Some file
      → new.heads.items ≡ old.heads.items ++ (fid, head) ∷ [] → new.steps ≡ old.steps ++ step ∷ [] → new.replies ≡ old.replies ++ Done ∷ []
      → seen_head (Some changed) ≡ Some head → stepped b step s.files ≡ replaced fid.0 changed s.files
      → IsDraft b files new (with_file s fid changed)
  resized_draft fid file changed head step there heads steps replies head_is step_is = record {
    leads = λ q. leads q ∙ sym (ap (λ es. head_in es q (seen_head (look q files))) heads ∙ head_append old.heads.items (fid, head) q (seen_head (look q files)));
    steps = ap (λ ss. all_stepped b ss files) steps ∙ step_append b old.steps step files ∙ ap (stepped b step) is.steps ∙ step_is;
    replies = replies ∙ ap (λ rs. rs ++ Done ∷ []) is.replies;
  } where
    leads : (q : ℕ) → seen_head (look q (replaced fid.0 changed s.files)) ≡ (if fid.0 == q then Some head else head_in old.heads.items q (seen_head (look q files)))
    leads q = elim (cases_eq fid.0 q) [
      | inl e ↦
          subst (λ j. seen_head (look j (replaced fid.0 changed s.files)) ≡ Some head) e (ap seen_head (look-replaced_same fid.0 changed s.files (ap is_some there)) ∙ head_is)
          ∙ ap (λ z. if z then Some head else head_in old.heads.items q (seen_head (look q files))) (sym (eq-eqb fid.0 q e))
      | inr other ↦
          ap seen_head (look-replaced_other q fid.0 changed s.files other) ∙ is.leads q
          ∙ ap (λ z. if z then Some head else head_in old.heads.items q (seen_head (look q files))) (sym (ne_eqb fid.0 q other))
    ]

-- a step on a file that is there
pub step_there : (k : ℕ) (f : FileState → FileState) (files : Files) (file : FileState) → look k files ≡ Some file → changed_at k f files ≡ replaced k (f file) files
step_there k f files file there = ap (change_in k f files) there

pub or_false : (b : Bool) → (b || false) ≡ b
or_false true = refl
or_false false = refl

-- ---- from one draft to the next

pub if_none : {E : Type 0} (r : Result (Option StaleOp) E) (P : Option StaleOp → Type 0) → IfOk r (λ found. found ≡ None) → OnOk r (P None) → IfOk r P
if_none (Ok found) P none p = subst P (sym none) p
if_none (Err e) P none p = tt

pub all_ok : {T E A B C D P : Type 0} (r : Result T E) → OnOk r A → OnOk r B → OnOk r C → OnOk r D → (A → B → C → D → P) → OnOk r P
all_ok (Ok x) a b c d f = f a b c d
all_ok (Err e) a b c d f = tt

module _ (b : ℕ) (files : Files) (old : Draft) (s : Shelf) (is : IsDraft b files old s) (fid : Fid) (version end : ℕ) where
  abbrev Here : Option FileState
  Here = look fid.0 s.files

  -- the verdict on the file as the operations before have left it
  pub verdict_here : (changes : List (Fid × FileHead)) (head before : Option FileHead) (v : Verdict) → head ≡ head_in changes fid.0 before → changes ≡ old.heads.items → before ≡ seen_head (look fid.0 files)
      → v ≡ judged head version end → v ≡ judged (seen_head Here) version end
  verdict_here changes head before v e hs h0 is_v =
      is_v ∙ ap (λ h. judged h version end) (e ∙ ap (λ es. head_in es fid.0 before) hs ∙ ap (head_in old.heads.items fid.0) h0 ∙ sym (is.leads fid.0))

  module _ (f : FileState → FileState) where
    pub outcome_here : (v : Verdict) → v ≡ judged (seen_head Here) version end → Outcome s fid version end f Here v
    outcome_here v e = subst (Outcome s fid version end f Here) (sym e) (outcome s fid version end f Here)

    pub refused_drafts : (new : Draft) (reply : Reply) → (resized s fid version end f Here ≡ Ok (replied s reply)) × (is_worn end Here ≡ false)
        → new.heads.items ≡ old.heads.items → new.steps ≡ old.steps → new.worn ≡ old.worn → new.replies ≡ old.replies ++ reply ∷ []
        → Drafts b files old new (is_worn end Here) (resized s fid version end f Here) None
    refused_drafts new reply out heads steps worn replies =
        (replied s reply, out.0, refused_draft b files old new s is reply heads steps replies, worn ∙ sym (ap (λ w. old.worn || w) out.1 ∙ or_false old.worn))

    pub resized_drafts : (new : Draft) (head : FileHead) (size : ℕ) (step : Step) (out : FitsIn s fid version end f Here head)
        → ((file : FileState) → head ≡ record { version = file.version; length = file.length } → seen_head (Some (f file)) ≡ Some (next_head head size))
        → stepped b step s.files ≡ changed_at fid.0 f s.files
        → new.heads.items ≡ old.heads.items ++ (fid, next_head head size) ∷ [] → new.steps ≡ old.steps ++ step ∷ [] → new.replies ≡ old.replies ++ Done ∷ []
        → new.worn ≡ (old.worn || head.version == last_value)
        → Drafts b files old new (is_worn end Here) (resized s fid version end f Here) None
    resized_drafts new head size step out heads_are step_is heads steps replies worn = (
      with_file s fid (f out.file),
      out.done,
      resized_draft b files old new s is fid out.file (f out.file) (next_head head size) step out.is heads steps replies (heads_are out.file out.head_is) (step_is ∙ step_there fid.0 f s.files out.file out.is),
      worn ∙ ap (λ h. old.worn || h.version == last_value) out.head_is ∙ sym (ap (λ w. old.worn || w) out.worn),
    )
