-- Where the words behind a keyword spell no call with that keyword.
use Rattle.std.proofs.Common.{◌≡◌, ℕ, true, List, ◌∷◌, ◌++◌, None, sym, arith}
use Rattle.std.specs.Fmt.{decimal}
use Rattle.zb_types.specs.declared.calls.Call.TheVariants.{Rename, Write, Truncate, Read}
use Rattle.zb_types.specs.Paths.{is_path}
use Rattle.zb_claims.specs.Reading.{Reads}
use Rattle.zb_claims.specs.Text.{max_part, quoted}
use Rattle.zb_script.specs.Spaces.{is_word, Splits}
use Rattle.zb_script.specs.Numbers.{IsNumber, IsUpTo, IsField, field_text}
use Rattle.zb_script.specs.Texts.{IsText}
use Rattle.zb_script.specs.Calls.{IsPath, path_text, IsCallOf, after_verb}
use Rattle.zb_script.specs.declared.verbs.Verb.TheVariants as verbs
use Rattle.zb_script.proofs.Without.{without-path}
use Rattle.zb_script.proofs.Splitting.{split_same}
use Rattle.zb_script.proofs.Decimals.{is_word-decimal}

-- a field was read from these bytes
pub record Field (bytes : List ℕ) (n : ℕ) (rest : List ℕ) : Type 0 where
  pub number : IsNumber n
  pub text : decimal n ++ 32 ∷ rest ≡ bytes

-- what stands behind it is determined
pub behind_field : {bytes : List ℕ} {n : ℕ} {rest : List ℕ} → Field bytes n rest → (m : ℕ) (x : List ℕ) → IsNumber m → decimal m ++ 32 ∷ x ≡ bytes → x ≡ rest
behind_field {bytes} {n} {rest} f m x h e =
    let s : Splits bytes (decimal n) rest = record { whole = f.text; first = is_word-decimal n f.number } in
    sym (split_same s (decimal m) x (is_word-decimal m h) e).rest

pub no_truncate-1 : {bytes : List ℕ} → Reads IsField field_text bytes None → Reads (IsCallOf verbs.Truncate) after_verb bytes None
no_truncate-1 none (Truncate fid size) h e = none (fid.0, decimal size) h.0.0 e
no_truncate-1 none call h e = absurd cc

pub no_truncate-2 : {bytes rest : List ℕ} {n : ℕ} → Field bytes n rest → Reads IsNumber decimal rest None → Reads (IsCallOf verbs.Truncate) after_verb bytes None
no_truncate-2 f none (Truncate fid size) h e = none size h.0.1 (behind_field f fid.0 (decimal size) h.0.0 e)
no_truncate-2 f none call h e = absurd cc

pub no_read-1 : {bytes : List ℕ} → Reads IsField field_text bytes None → Reads (IsCallOf verbs.Read) after_verb bytes None
no_read-1 none (Read fid offset len) h e = none (fid.0, decimal offset ++ 32 ∷ decimal len) h.0.0 e
no_read-1 none call h e = absurd cc

pub no_read-2 : {bytes rest : List ℕ} {n : ℕ} → Field bytes n rest → Reads IsField field_text rest None → Reads (IsCallOf verbs.Read) after_verb bytes None
no_read-2 f none (Read fid offset len) h e = none (offset, decimal len) h.0.1 (behind_field f fid.0 (decimal offset ++ 32 ∷ decimal len) h.0.0 e)
no_read-2 f none call h e = absurd cc

pub no_read-3 : {bytes rest more : List ℕ} {n m : ℕ} → Field bytes n rest → Field rest m more → Reads (IsUpTo max_part) decimal more None → Reads (IsCallOf verbs.Read) after_verb bytes None
no_read-3 f g none (Read fid offset len) h e =
    let behind = behind_field f fid.0 (decimal offset ++ 32 ∷ decimal len) h.0.0 e in
    none len h.0.2 (behind_field g offset (decimal len) h.0.1 behind)
no_read-3 f g none call h e = absurd cc

pub no_write-1 : {bytes : List ℕ} → Reads IsField field_text bytes None → Reads (IsCallOf verbs.Write) after_verb bytes None
no_write-1 none (Write fid offset text) h e = none (fid.0, decimal offset ++ 32 ∷ quoted text) h.0.0 e
no_write-1 none call h e = absurd cc

pub no_write-2 : {bytes rest : List ℕ} {n : ℕ} → Field bytes n rest → Reads IsField field_text rest None → Reads (IsCallOf verbs.Write) after_verb bytes None
no_write-2 f none (Write fid offset text) h e = none (offset, quoted text) h.0.1 (behind_field f fid.0 (decimal offset ++ 32 ∷ quoted text) h.0.0 e)
no_write-2 f none call h e = absurd cc

pub no_write-3 : {bytes rest more : List ℕ} {n m : ℕ} → Field bytes n rest → Field rest m more → Reads IsText quoted more None → Reads (IsCallOf verbs.Write) after_verb bytes None
no_write-3 f g none (Write fid offset text) h e =
    let behind = behind_field f fid.0 (decimal offset ++ 32 ∷ quoted text) h.0.0 e in
    none text (h.0.2, h.0.3) (behind_field g offset (quoted text) h.0.1 behind)
no_write-3 f g none call h e = absurd cc

pub is_word-path : (path : List ℕ) → is_path path ≡ true → is_word path ≡ true
is_word-path path h = without-path 32 (omega arith) path h

pub no_rename-1 : {bytes from to : List ℕ} → Splits bytes from to → Reads IsPath path_text from None → Reads (IsCallOf verbs.Rename) after_verb bytes None
no_rename-1 s none (Rename path to) h e = none path h.0.0 (sym (split_same s path to (is_word-path path h.0.0) e).word)
no_rename-1 s none call h e = absurd cc

pub no_rename-2 : {bytes from to : List ℕ} → Splits bytes from to → Reads IsPath path_text to None → Reads (IsCallOf verbs.Rename) after_verb bytes None
no_rename-2 s none (Rename path to) h e = none to h.0.1 (sym (split_same s path to (is_word-path path h.0.0) e).rest)
no_rename-2 s none call h e = absurd cc
