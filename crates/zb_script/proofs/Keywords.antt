-- Keywords have no space, and are told apart.
use Rattle.std.proofs.Common.{◌≡◌, ℕ, true, List, [], ◌∷◌, ◌++◌, Some, None, codes, refl, sym, ap, ◌∙◌, append_assoc}
use Rattle.std.specs.Str.{IsUtf8}
use Rattle.zb_types.specs.declared.calls.Call.{Call}
use Rattle.zb_types.specs.declared.calls.Call.TheVariants.{Create, Mkdir, Remove, Rename, Write, Truncate, Sync, Read, List as ListOf, Stat, Find}
use Rattle.zb_claims.specs.Reading.{Reads}
use Rattle.zb_claims.specs.Text.{IsCall, call_text, quoted}
use Rattle.std.specs.Fmt.{decimal}
use Rattle.zb_script.specs.Spaces.{is_word, Splits}
use Rattle.zb_script.specs.Calls.{IsVerb, verb_text, verb_of, after_verb}
use Rattle.zb_script.specs.declared.verbs.Verb.{Verb}
use Rattle.zb_script.specs.declared.verbs.Verb.TheVariants as verbs
use Rattle.zb_script.proofs.Ascii.{ascii_text}
use Rattle.zb_script.proofs.Splitting.{split_same, unsplit}

pub IsUtf8-verb : (verb : Verb) → IsUtf8 (verb_text verb)
IsUtf8-verb verbs.Create = ascii_text (codes "create") refl
IsUtf8-verb verbs.Mkdir = ascii_text (codes "mkdir") refl
IsUtf8-verb verbs.Remove = ascii_text (codes "remove") refl
IsUtf8-verb verbs.Rename = ascii_text (codes "rename") refl
IsUtf8-verb verbs.Write = ascii_text (codes "write") refl
IsUtf8-verb verbs.Truncate = ascii_text (codes "truncate") refl
IsUtf8-verb verbs.Read = ascii_text (codes "read") refl
IsUtf8-verb verbs.List = ascii_text (codes "list") refl
IsUtf8-verb verbs.Stat = ascii_text (codes "stat") refl
IsUtf8-verb verbs.Open = ascii_text (codes "open") refl

is_word-verb : (verb : Verb) → is_word (verb_text verb) ≡ true
is_word-verb verbs.Create = refl
is_word-verb verbs.Mkdir = refl
is_word-verb verbs.Remove = refl
is_word-verb verbs.Rename = refl
is_word-verb verbs.Write = refl
is_word-verb verbs.Truncate = refl
is_word-verb verbs.Read = refl
is_word-verb verbs.List = refl
is_word-verb verbs.Stat = refl
is_word-verb verbs.Open = refl

with_verb : {a b : Verb} → Some a ≡ Some b → (t : List ℕ) → verb_text a ++ 32 ∷ t ≡ verb_text b ++ 32 ∷ t
with_verb {a} {b} h t = let e : a ≡ b = cc in ap (λ v. verb_text v ++ 32 ∷ t) e

-- a call's text is its keyword, a space, and what stands behind
parts : (call : Call) (verb : Verb) → verb_of call ≡ Some verb → call_text call ≡ verb_text verb ++ 32 ∷ after_verb call
parts (Create path) verb h = with_verb h path
parts (Mkdir path) verb h = with_verb h path
parts (Remove path) verb h = with_verb h path
parts (Rename path to) verb h = with_verb h (path ++ 32 ∷ to)
parts (Write fid offset bytes) verb h = ap (λ t. codes "write" ++ 32 ∷ t) (append_assoc (decimal fid.0) (32 ∷ decimal offset) (32 ∷ quoted bytes)) ∙ with_verb h (after_verb (Write fid offset bytes))
parts (Truncate fid size) verb h = with_verb h (after_verb (Truncate fid size))
parts Sync verb h = absurd cc
parts (Read fid offset len) verb h = ap (λ t. codes "read" ++ 32 ∷ t) (append_assoc (decimal fid.0) (32 ∷ decimal offset) (32 ∷ decimal len)) ∙ with_verb h (after_verb (Read fid offset len))
parts (ListOf None) verb h = with_verb h (47 ∷ [])
parts (ListOf (Some path)) verb h = with_verb h path
parts (Stat path) verb h = with_verb h path
parts (Find path) verb h = with_verb h path

-- a call whose keyword and rest are these
record Keyed (call : Call) (word rest : List ℕ) : Type 0 where
  verb : Verb
  keyword : verb_of call ≡ Some verb
  spelled : verb_text verb ≡ word
  behind : after_verb call ≡ rest

keyed_at : (call : Call) (verb : Verb) → verb_of call ≡ Some verb → {bytes word rest : List ℕ} → Splits bytes word rest → call_text call ≡ bytes → Keyed call word rest
keyed_at call verb h s e =
    let same = split_same s (verb_text verb) (after_verb call) (is_word-verb verb) (sym (parts call verb h) ∙ e) in
    record { verb = verb; keyword = h; spelled = sym same.word; behind = sym same.rest }

keyed : {bytes word rest : List ℕ} → Splits bytes word rest → (call : Call) → call_text call ≡ bytes → Keyed call word rest
keyed s (Create path) e = keyed_at (Create path) verbs.Create refl s e
keyed s (Mkdir path) e = keyed_at (Mkdir path) verbs.Mkdir refl s e
keyed s (Remove path) e = keyed_at (Remove path) verbs.Remove refl s e
keyed s (Rename path to) e = keyed_at (Rename path to) verbs.Rename refl s e
keyed s (Write fid offset bytes) e = keyed_at (Write fid offset bytes) verbs.Write refl s e
keyed s (Truncate fid size) e = keyed_at (Truncate fid size) verbs.Truncate refl s e
keyed {word = word} {rest = rest} s Sync e = absurd (unsplit word rest (ap is_word (s.whole ∙ sym e)))
keyed s (Read fid offset len) e = keyed_at (Read fid offset len) verbs.Read refl s e
keyed s (ListOf None) e = keyed_at (ListOf None) verbs.List refl s e
keyed s (ListOf (Some path)) e = keyed_at (ListOf (Some path)) verbs.List refl s e
keyed s (Stat path) e = keyed_at (Stat path) verbs.Stat refl s e
keyed s (Find path) e = keyed_at (Find path) verbs.Open refl s e

-- where no keyword stands first there is no call
pub no_verb : {bytes word rest : List ℕ} → Splits bytes word rest → Reads IsVerb verb_text word None → Reads IsCall call_text bytes None
no_verb s none call h e = let k = keyed s call e in none k.verb tt k.spelled
