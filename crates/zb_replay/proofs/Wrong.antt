-- A platter that says tables has no wrong field.
use Rattle.std.proofs.Common.{◌≡◌, inl, inr, ℕ, List, [], ◌∷◌, ◌++◌, refl, sym, ◌∙◌, ap, subst, append_assoc}
use Rattle.std.specs.List.{AllByRecursion}
use Rattle.std.proofs.lemmas.List.{append-nil}
use Rattle.zb_types.specs.declared.geometry.Geometry.{Geometry}
use Rattle.zb_entries.specs.declared.entry.Entry.{Entry}
use Rattle.zb_ckpt.specs.declared.root.Root.{Root}
use Rattle.zb_ckpt.proofs.Once.{says_no_foreign, says_one as one_root}
use Rattle.zb_journal.specs.Journal.{Says as JournalSays}
use Rattle.zb_journal.proofs.Once.{says_no_bad, says_one as one_journal}
use Rattle.zb_tables.specs.Tables.{Tables, Contents}
use Rattle.zb_tables.specs.Taking.{AreTaken, IsTaken, Sizes}
use Rattle.zb_tables.proofs.Once.{replays_once}
use Rattle.zb_spelling.specs.Unspelling.{IsCheckpoint, sizes_of}
use Rattle.zb_spelling.proofs.Whole.{few_bytes, one_spelling}
use Rattle.zb_platter.specs.Says.{SaysTables}
use Rattle.zb_replay.specs.Laws.{LacksNone, SaysNoWrong}
use Rattle.zb_replay.specs.Opening.{HasBadBehind, HasNoTables, HasRefused, HasRefusedBehind, NoneTakes}

-- what all items have, one in the middle has
all_at : {A : Type 0} (P : A → Type 0) (before : List A) (x : A) (rest : List A) → AllByRecursion P (before ++ x ∷ rest) → P x
all_at P [] x rest all = all.0
all_at P (y ∷ ys) x rest all = all_at P ys x rest all.1

module _ (z : Sizes) (contents : Contents) (e : Entry) (rest : List Entry) (mid after : Tables) where
  -- an entry that is taken isn't one that the tables can't take
  none_taken : (before sofar : List Entry) (t : Tables) → AreTaken z contents sofar t (before ++ e ∷ rest) after → AreTaken z contents sofar t before mid → NoneTakes z contents (sofar ++ before) mid e → ⊥
  none_taken [] sofar t taken leads none =
      none taken.0 taken.1 (subst (λ (es : List Entry). IsTaken z es mid e taken.0) (sym (append-nil sofar)) (subst (λ (u : Tables). IsTaken z sofar u e taken.0) leads taken.2))
  none_taken (d ∷ ds) sofar t taken leads none =
      let same : taken.3.0 ≡ leads.3.0 = replays_once z.block contents (d ∷ []) t taken.3.0 leads.3.0 (taken.0, taken.1, (taken.3.0, taken.3.1, refl)) (leads.0, leads.1, (leads.3.0, leads.3.1, refl)) in
      none_taken ds (sofar ++ d ∷ []) taken.3.0 taken.3.2 (subst (λ (u : Tables). AreTaken z contents (sofar ++ d ∷ []) u ds mid) (sym same) leads.3.2)
      (subst (λ (es : List Entry). NoneTakes z contents es mid e) (sym (append_assoc sofar (d ∷ []) ds)) none)

none_refused : (z : Sizes) (contents : Contents) (start after : Tables) (entries : List Entry) → AreTaken z contents [] start entries after → AllByRecursion (LacksNone contents) entries → HasRefused z contents start entries → ⊥
none_refused z contents start after entries taken all refused =
    let here = subst (λ (es : List Entry). AreTaken z contents [] start es after) refused.order taken in
    let each = subst (λ (es : List Entry). AllByRecursion (LacksNone contents) es) refused.order all in
    elim refused.refused [
      | inl lacks ↦ all_at (LacksNone contents) refused.before refused.entry refused.rest each lacks
      | inr none ↦ none_taken z contents refused.entry refused.rest refused.tables after refused.before [] start here refused.leads none
    ]

module _ (geo : Geometry) (contents : Contents) (image : List ℕ) (tables : Tables) (h : SaysTables geo contents image tables) where
  has_tables : HasNoTables image → ⊥
  has_tables n =
      let both = one_root image h.root n.root _ n.bytes h.has.checkpoint.says n.says in
      n.none h.platter.tables (record {
        is = subst (λ (r : Root). IsCheckpoint (sizes_of r.geo) h.platter.tables) both.0 h.has.is;
        text = both.1;
        first = sym h.has.first ∙ ap (λ (r : Root). r.first) both.0;
      })

  has_good : HasBadBehind image → ⊥
  has_good n =
      let both = one_root image h.root n.root _ n.bytes h.has.checkpoint.says n.says in
      says_no_bad image n.root.first h.platter.entries h.place n.bad.place (subst (λ (r : Root). JournalSays image r.first h.platter.entries h.place) both.0 h.has.journal) n.bad.bad

  has_taken : AllByRecursion (LacksNone contents) h.platter.entries → HasRefusedBehind contents image → ⊥
  has_taken all n =
      let p = n.platter in
      let both = one_root image h.root p.root _ n.is.bytes h.has.checkpoint.says n.is.back.root in
      let start : h.platter.tables ≡ n.start =
      one_spelling (sizes_of h.root.geo) (sizes_of p.root.geo) h.platter.tables n.start (few_bytes h.root.geo) (few_bytes p.root.geo) h.has.is n.is.first.is (both.1 ∙ sym n.is.first.text) in
      let entries : h.platter.entries ≡ p.entries =
      (one_journal image p.root.first h.platter.entries p.entries h.place p.journal.place (subst (λ (r : Root). JournalSays image r.first h.platter.entries h.place) both.0 h.has.journal) n.is.back.journal).0 in
      let system : geo ≡ p.root.geo = sym h.system ∙ ap (λ (r : Root). r.geo) both.0 in
      let taken : AreTaken (sizes_of p.root.geo) contents [] n.start p.entries tables =
      subst (λ (g : Geometry). AreTaken (sizes_of g) contents [] n.start p.entries tables) system
      (subst (λ (t : Tables). AreTaken (sizes_of geo) contents [] t p.entries tables) start
      (subst (λ (es : List Entry). AreTaken (sizes_of geo) contents [] h.platter.tables es tables) entries h.taken)) in
      none_refused (sizes_of p.root.geo) contents n.start tables p.entries taken (subst (λ (es : List Entry). AllByRecursion (LacksNone contents) es) entries all) n.refused

pub says_no_wrong : SaysNoWrong
says_no_wrong geo contents image tables field h all (inl (inl foreign)) = says_no_foreign image h.root _ field h.has.checkpoint.says foreign
says_no_wrong geo contents image tables field h all (inl (inr (inl none))) = has_tables geo contents image tables h none.1
says_no_wrong geo contents image tables field h all (inl (inr (inr bad))) = has_good geo contents image tables h bad.1
says_no_wrong geo contents image tables field h all (inr refused) = has_taken geo contents image tables h all refused.1
