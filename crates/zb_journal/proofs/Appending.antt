-- What the bytes of an entry, put where a journal ends, make of it.
use Rattle.std.proofs.Common.{◌≡◌, ◌⊎◌, inl, inr, ⊎_elim, ℕ, zero, suc, ◌+◌, ◌-◌, ◌<◌, ◌≤◌, List, [], ◌∷◌, ◌++◌, length, slice_index, Result, Ok, Err, IsErr, refl, sym, ◌∙◌, ap, subst, arith, length-append}
use Rattle.std.proofs.lemmas.List.{get_or_append_left, get_or-append_right}
use Rattle.std.proofs.lemmas.Bool.{cases_lt}
use Rattle.zb_entries.specs.declared.entry.Entry.{Entry}
use Rattle.zb_outside.specs.Meaning.{Meaning}
use Rattle.zb_outside.specs.Ranges.{SameBeside}
use Rattle.zb_outside.specs.Runs.{Run}
use Rattle.zb_outside.proofs.Runs.{weaker_run, outside_wider}
use Rattle.zb_journal.specs.declared.journal.Journal.{Journal}
use Rattle.zb_journal.specs.Spelling.{IsEntry, size_of, body_text, entry_text}
use Rattle.zb_journal.specs.Journal.{journal_of, EntriesStand, Says}
use Rattle.zb_journal.specs.Putting.{PutReady, IsPut, Putting, PutTold}
use Rattle.zb_journal.specs.Append.{AppendReady, FormerOrLonger, AppendTold}
use Rattle.zb_journal.proofs.Texts.{length-body}
use Rattle.zb_journal.proofs.Standing.{stand_ext, stand_more, begins_ext}

-- the journal before an append
module _ (first place : ℕ) (es : List Entry) (e : Entry) (s : List ℕ) (says : Says s first es place) (is : IsEntry e) (fits : place + size_of e + 1 ≤ 65536) where
  abbrev text : List ℕ
  text = body_text (first + length es) e ++ 0 ∷ []

  pub length-text : length text ≡ size_of e
  length-text = omega (arith, length-append (body_text (first + length es) e) (0 ∷ []), length-body (first + length es) e)

  inside : (c : List ℕ) → SameBeside (4096 + place) (1 + length text) s c → SameBeside 4096 65536 s c
  inside c o = outside_wider (omega arith) (omega (arith, fits, length-text)) o

  former : (c : List ℕ) → SameBeside (4096 + place) (1 + length text) s c → EntriesStand (journal_of c) 0 first es place
  former c o = stand_ext (journal_of s) (journal_of c) 0 first es place (λ i lt. o.same (4096 + i) (inl (omega (arith, lt)))) says.stand

  body_at : (c : List ℕ) → IsPut (4096 + place) text c → (i : ℕ) → i < length text → slice_index c (4096 + (place + (i + 1))) ≡ slice_index text i
  body_at c put i lt = ap (slice_index c) (omega arith) ∙ sym (put.1 i lt)

  -- the gate behind the entry is closed
  pub last_at : (c : List ℕ) → IsPut (4096 + place) text c → (let z : ℕ = 0 in journal_of c (place + size_of e) ≡ z)
  last_at c put =
      let long = length-body (first + length es) e in
      let size = length-text in
      let none : length (body_text (first + length es) e) - length (body_text (first + length es) e) ≡ 0 = omega arith in
      ap (slice_index c) (omega (arith, long)) ∙ body_at c put (length (body_text (first + length es) e)) (omega (arith, long, size))
      ∙ get_or-append_right (body_text (first + length es) e) (0 ∷ []) (length (body_text (first + length es) e)) (length (body_text (first + length es) e)) 0 refl (omega arith)
      ∙ ap (slice_index (0 ∷ [])) none

  pub longer : (c : List ℕ) → SameBeside (4096 + place) (1 + length text) s c → IsPut (4096 + place) text c → Says c first (es ++ e ∷ []) (place + size_of e)
  longer c o put =
      record {
        stand = stand_more (journal_of c) 0 first es place e (former c o) (record {
          is = is;
          bytes = λ i lt. byte i lt;
          room = fits;
        });
        ends = λ b. zero_one (sym (last_at c put) ∙ b.gate);
      }
    where
      zero_one : let z : ℕ = 0 in let o : ℕ = 1 in z ≡ o → ⊥
      zero_one h = omega (arith, h)

      byte : (i : ℕ) → i < length (entry_text (first + length es) e) → journal_of c (place + i) ≡ slice_index (entry_text (first + length es) e) i
      byte zero lt = ap (slice_index c) (omega arith) ∙ put.0
      byte (suc i) lt =
          let long = length-append (body_text (first + length es) e) (0 ∷ []) in
          ap (slice_index c) (omega arith) ∙ body_at c put i (omega (arith, long, lt)) ∙ get_or_append_left (body_text (first + length es) e) (0 ∷ []) 0 i (omega (arith, lt))

  pub putting : (c : List ℕ) → Putting (4096 + place) text s c → FormerOrLonger place first es e s c
  putting c h = record {
    outside = inside c h.outside;
    either = ⊎_elim
        (λ same. inl (record { stand = former c h.outside; ends = λ b. says.ends (begins_ext (journal_of s) (journal_of c) place (first + length es) (λ i lt. same.same (4096 + i) (anywhere i)) b) }))
        (λ others. ⊎_elim
        (λ shut. inl (record { stand = former c h.outside; ends = λ b. shut (b.gate) }))
        (λ put. inr (longer c h.outside put))
        others)
        h.either;
  }
    where
      anywhere : (i : ℕ) → (4096 + i < 4096 + place) ⊎ (4096 + place + 0 ≤ 4096 + i)
      anywhere i = elim (cases_lt i place) [ inl lt ↦ inl (omega (arith, lt)) | inr ge ↦ inr (omega (arith, ge)) ]

pub append_failed : {T E : Type 0} {j : Journal} {first : ℕ} {es : List Entry} {e : Entry} (r : Result T E) {a b : Meaning} → IsErr r
    → Run 0 (FormerOrLonger j.place first es e (a.now.seen 0)) a b → AppendTold j first es e r a b
append_failed (Ok x) err run = absurd (cc err)
append_failed (Err x) err run = record { run = run; settled = tt; says = tt; behind = tt }

-- a gate, the rest of an entry and the byte behind it
pub length-put : (t : List ℕ) (n : ℕ) (e : Entry) → t ≡ body_text n e ++ 0 ∷ [] → length t ≡ size_of e
length-put t n e h = omega (arith, ap (length {A = ℕ}) h, length-append (body_text n e) (0 ∷ []), length-body n e)

-- an append, once its bytes are spelled
pub record Appends (j : Journal) (first : ℕ) (es : List Entry) (e : Entry) (at : ℕ) (t : List ℕ) (a : Meaning) : Type 0 where
  pub ready : AppendReady j first es a.now
  pub is : IsEntry e
  pub fits : j.place + size_of e + 1 ≤ 65536
  pub place : at ≡ 4096 + j.place
  pub text : t ≡ body_text j.number e ++ 0 ∷ []

module _ {j : Journal} {first : ℕ} {es : List Entry} {e : Entry} {at : ℕ} {t : List ℕ} {a : Meaning} (h : Appends j first es e at t a) where
  pub may_put : PutReady at t a.now
  may_put = let size = length-put t j.number e h.text in record { settled = h.ready.settled; within = omega (arith, size, h.fits, h.ready.within, h.place) }

  text_is : t ≡ body_text (first + length es) e ++ 0 ∷ []
  text_is = h.text ∙ ap (λ (n : ℕ). body_text n e ++ 0 ∷ []) h.ready.number

  pub to_put : {T E : Type 0} {r : Result T E} {b : Meaning} → PutTold at t r a b → Run 0 (FormerOrLonger j.place first es e (a.now.seen 0)) a b
  to_put told =
      weaker_run told.run (λ c p. putting first j.place es e (a.now.seen 0) h.ready.says h.is h.fits c
      (subst (λ (u : List ℕ). Putting (4096 + j.place) u (a.now.seen 0) c) text_is (subst (λ (k : ℕ). Putting k t (a.now.seen 0) c) h.place p)))

  is_put : (c : List ℕ) → IsPut at t c → IsPut (4096 + j.place) (body_text (first + length es) e ++ 0 ∷ []) c
  is_put c p = subst (λ (u : List ℕ). IsPut (4096 + j.place) u c) text_is (subst (λ (k : ℕ). IsPut k t c) h.place p)

  beside : (c : List ℕ) → SameBeside at (1 + length t) (a.now.seen 0) c → SameBeside (4096 + j.place) (1 + length (body_text (first + length es) e ++ 0 ∷ [])) (a.now.seen 0) c
  beside c o = subst (λ (u : List ℕ). SameBeside (4096 + j.place) (1 + length u) (a.now.seen 0) c) text_is (subst (λ (k : ℕ). SameBeside k (1 + length t) (a.now.seen 0) c) h.place o)

  -- the bytes stand
  pub is_longer : {T E : Type 0} {r : Result T E} {b : Meaning} → PutTold at t r a b → IsPut at t (b.now.seen 0) → Says (b.now.seen 0) first (es ++ e ∷ []) (j.place + size_of e)
  is_longer {b = b} told put =
      longer first j.place es e (a.now.seen 0) h.ready.says h.is h.fits (b.now.seen 0) (beside (b.now.seen 0) (told.run.here (b.now.seen 0) (b.seen_now 0)).outside) (is_put (b.now.seen 0) put)

  pub is_shut : (c : List ℕ) → IsPut at t c → journal_of c (j.place + size_of e) ≡ 0
  is_shut c put = last_at first j.place es e (a.now.seen 0) h.ready.says h.is h.fits c (is_put c put)
