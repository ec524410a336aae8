-- The whole of the tables: where bytes begin with none, and what a reader makes of what it finds.
use Rattle.std.proofs.Common.{◌≡◌, ℕ, zero, suc, ◌*◌, ◌-◌, ◌^◌, ◌<◌, ◌≤◌, Bool, true, false, List, [], ◌∷◌, ◌++◌, length, Option, Some, None, refl, sym, ap, ◌∙◌, subst, arith}
use Rattle.std.specs.Prelude.{◌==◌, Result, Ok, Err, IfOk, option_map}
use Rattle.std.proofs.lemmas.Bool.{eqb-true, false≢true}
use Rattle.std.proofs.lemmas.List.{append-nil}
use Rattle.std.proofs.lemmas.Nat.{mul-le}
use Rattle.zb_types.specs.declared.geometry.Geometry.{Geometry}
use Rattle.zb_types.specs.declared.memory.NoMemory.{NoMemory}
use Rattle.zb_types.specs.declared.tables.HeldUse.{HeldUse}
use Rattle.zb_types.specs.Names.{Entry}
use Rattle.zb_numbers.specs.Fronts.{ReadsFront}
use Rattle.zb_tables.specs.Tables.{FileState, LogState, Tables}
use Rattle.zb_tables.specs.Taking.{Sizes}
use Rattle.zb_tables.specs.Checkpoint.{AreTables}
use Rattle.zb_spelling.specs.declared.head.Head.{Head}
use Rattle.zb_spelling.specs.declared.parts.Parts.{Parts}
use Rattle.zb_spelling.specs.Parts.{tables_of}
use Rattle.zb_spelling.specs.Spelling.{list_text, name_text, file_text, log_text, held_text, spelling_of_tables}
use Rattle.zb_spelling.specs.Unspelling.{HasFewBytes, IsCheckpoint, Unspells, sizes_of}
use Rattle.zb_spelling.specs.Limits.{AreWithin, Unites}
use Rattle.zb_spelling.specs.Reading.{AreItems, IsName, IsFileRow, IsLogRow, IsHeldRow, IsHead, text_of_head, head_of, HasRoom}
use Rattle.zb_spelling.proofs.Once.{head_once, name_once, file_once, log_once, list_once, tables_once, tables_parts}
use Rattle.zb_spelling.proofs.Room.{checkpoint_room}
use Rattle.zb_spelling.proofs.Agreeing.{agree_from, checkpoint_from, within_from}

-- Where the bytes begin with no tables.

pub no_head : (bytes : List ℕ) → ReadsFront IsHead text_of_head bytes None → ReadsFront HasRoom spelling_of_tables bytes None
no_head bytes none t r h same = none (head_of t) _ h.head (sym (tables_parts t r) ∙ same)

module _ (head : Head) (bytes a : List ℕ) (first : IsHead head × (text_of_head head ++ a ≡ bytes)) where
  behind_head : (t : Tables) (r : List ℕ) → HasRoom t → spelling_of_tables t ++ r ≡ bytes
      → list_text name_text t.names.entries ++ (list_text file_text t.files ++ (list_text log_text t.logs ++ (list_text held_text t.held ++ r))) ≡ a
  behind_head t r h same = (head_once (head_of t) head _ a h.head first.0 (sym (tables_parts t r) ∙ same ∙ sym first.1)).1

  pub no_names : ReadsFront (AreItems IsName) (list_text name_text) a None → ReadsFront HasRoom spelling_of_tables bytes None
  no_names none t r h same = none t.names.entries _ h.names (behind_head t r h same)

  module _ (names : List (List ℕ × Entry)) (b : List ℕ) (second : AreItems IsName names × (list_text name_text names ++ b ≡ a)) where
    behind_names : (t : Tables) (r : List ℕ) → HasRoom t → spelling_of_tables t ++ r ≡ bytes → list_text file_text t.files ++ (list_text log_text t.logs ++ (list_text held_text t.held ++ r)) ≡ b
    behind_names t r h same = (list_once IsName name_text name_once t.names.entries names _ b h.names second.0 (behind_head t r h same ∙ sym second.1)).1

    pub no_files : ReadsFront (AreItems IsFileRow) (list_text file_text) b None → ReadsFront HasRoom spelling_of_tables bytes None
    no_files none t r h same = none t.files _ h.files (behind_names t r h same)

    module _ (files : List (ℕ × FileState)) (c : List ℕ) (third : AreItems IsFileRow files × (list_text file_text files ++ c ≡ b)) where
      behind_files : (t : Tables) (r : List ℕ) → HasRoom t → spelling_of_tables t ++ r ≡ bytes → list_text log_text t.logs ++ (list_text held_text t.held ++ r) ≡ c
      behind_files t r h same = (list_once IsFileRow file_text file_once t.files files _ c h.files third.0 (behind_names t r h same ∙ sym third.1)).1

      pub no_logs : ReadsFront (AreItems IsLogRow) (list_text log_text) c None → ReadsFront HasRoom spelling_of_tables bytes None
      no_logs none t r h same = none t.logs _ h.logs (behind_files t r h same)

      module _ (logs : List (ℕ × LogState)) (d : List ℕ) (fourth : AreItems IsLogRow logs × (list_text log_text logs ++ d ≡ c)) where
        behind_logs : (t : Tables) (r : List ℕ) → HasRoom t → spelling_of_tables t ++ r ≡ bytes → list_text held_text t.held ++ r ≡ d
        behind_logs t r h same = (list_once IsLogRow log_text log_once t.logs logs _ d h.logs fourth.0 (behind_files t r h same ∙ sym fourth.1)).1

        pub no_held : ReadsFront (AreItems IsHeldRow) (list_text held_text) d None → ReadsFront HasRoom spelling_of_tables bytes None
        no_held none t r h same = none t.held r h.held (behind_logs t r h same)

        -- the tables that stand there
        pub tables_found : (held : List HeldUse) (e : List ℕ) → AreItems IsHeldRow held × (list_text held_text held ++ e ≡ d)
            → (t : Tables) → head_of t ≡ head → t.names.entries ≡ names → t.files ≡ files → t.logs ≡ logs → t.held ≡ held → HasRoom t × (spelling_of_tables t ++ e ≡ bytes)
        tables_found held e fifth t is_head is_names is_files is_logs is_held = (
          record {
            head = subst IsHead (sym is_head) first.0;
            names = subst (AreItems IsName) (sym is_names) second.0;
            files = subst (AreItems IsFileRow) (sym is_files) third.0;
            logs = subst (AreItems IsLogRow) (sym is_logs) fourth.0;
            held = subst (AreItems IsHeldRow) (sym is_held) fifth.0;
          },
          tables_parts t e
              ∙ (λ i. text_of_head (is_head i) ++ (list_text name_text (is_names i) ++ (list_text file_text (is_files i) ++ (list_text log_text (is_logs i) ++ (list_text held_text (is_held i) ++ e)))))
              ∙ ap (λ (x : List ℕ). text_of_head head ++ (list_text name_text names ++ (list_text file_text files ++ (list_text log_text logs ++ x)))) fifth.1
              ∙ ap (λ (x : List ℕ). text_of_head head ++ (list_text name_text names ++ (list_text file_text files ++ x))) fourth.1
              ∙ ap (λ (x : List ℕ). text_of_head head ++ (list_text name_text names ++ x)) third.1
              ∙ ap (λ (x : List ℕ). text_of_head head ++ x) second.1
              ∙ first.1,
        )

-- Sizes of a system.

small_product : (m n : ℕ) → m ≤ 15 → n ≤ 65536 → m * n < 2 ^ 32
small_product m n p q =
    let most = mul-le m n 15 65536 p q in
    omega arith

pub few_bytes : (geo : Geometry) → HasFewBytes (sizes_of geo)
few_bytes geo = small_product (geo.servers - 1) geo.fragment (let high = geo.limits.servers_high in omega (arith, high)) geo.limits.fragment_high

-- What a reader makes of it.

module _ (z : Sizes) (few : HasFewBytes z) (bytes : List ℕ) where
  alone : (t : Tables) → spelling_of_tables t ≡ bytes → spelling_of_tables t ++ [] ≡ bytes
  alone t e = append-nil (spelling_of_tables t) ∙ e

  pub nothing_read : ReadsFront HasRoom spelling_of_tables bytes None → Unspells z bytes None
  nothing_read none t c e = none t [] (checkpoint_room z t few c) (alone t e)

  module _ (found : Tables) (rest : List ℕ) (is : HasRoom found × (spelling_of_tables found ++ rest ≡ bytes)) where
    -- tables that spell the bytes are those that were found, and nothing is left
    same_found : (t : Tables) → IsCheckpoint z t → spelling_of_tables t ≡ bytes → (t ≡ found) × ([] ≡ rest)
    same_found t c e = tables_once t found [] rest (checkpoint_room z t few c) is.0 (alone t e ∙ sym is.1)

    pub something_left : 0 < length rest → Unspells z bytes None
    something_left more t c e = let none = ap length (same_found t c e).1 in omega (arith, more, none)

    pub not_within : (AreWithin z found → ⊥) → Unspells z bytes None
    not_within outside t c e = outside (within_from z found (subst (λ (u : Tables). AreTables z u) (same_found t c e).0 c.tables))

    pub united : rest ≡ [] → AreWithin z found → (o : Option Tables) → Unites found o → Unspells z bytes o
    united empty within (Some t) u = (
      subst (IsCheckpoint z) (sym u.0) (checkpoint_from z found is.0 within u.1),
      ap spelling_of_tables u.0 ∙ sym (append-nil (spelling_of_tables found)) ∙ ap (λ (r : List ℕ). spelling_of_tables found ++ r) (sym empty) ∙ is.1,
    )
    united empty within None u = λ t c e. u (agree_from z found (subst (λ (v : Tables). AreTables z v) (same_found t c e).0 c.tables))

-- what is spelled is what was read
pub read_again : (z : Sizes) → HasFewBytes z → (bytes : List ℕ) (o : Option Tables) → Unspells z bytes o → (t : Tables) → IsCheckpoint z t → spelling_of_tables t ≡ bytes → o ≡ Some t
read_again z few bytes (Some u) found t c e =
    ap Some (tables_once u t [] [] (checkpoint_room z u few found.0) (checkpoint_room z t few c) (ap (λ (x : List ℕ). x ++ []) (found.1 ∙ sym e))).0
read_again z few bytes None none t c e = absurd (none t c e)

pub one_spelling : (z other : Sizes) (t u : Tables) → HasFewBytes z → HasFewBytes other → IsCheckpoint z t → IsCheckpoint other u → spelling_of_tables t ≡ spelling_of_tables u → t ≡ u
one_spelling z other t u few fewer c d e = (tables_once t u [] [] (checkpoint_room z t few c) (checkpoint_room other u fewer d) (ap (λ (x : List ℕ). x ++ []) e)).0

-- What the reader's tests say.

pub more_than_none : (n : ℕ) (b : Bool) → b ≡ (n == 0) → b ≡ false → 0 < n
more_than_none zero b e f = absurd (false≢true (sym f ∙ e))
more_than_none (suc n) b e f = omega arith

pub none_is_left : (xs : List ℕ) (b : Bool) → b ≡ (length xs == 0) → b ≡ true → xs ≡ []
none_is_left [] b e t = refl
none_is_left (x ∷ xs) b e t = absurd (let none = eqb-true (length (x ∷ xs)) 0 (sym e ∙ t) in omega (arith, none))

pub read_united : (z : Sizes) → HasFewBytes z → (bytes : List ℕ) (found : Tables) (rest : List ℕ) → HasRoom found × (spelling_of_tables found ++ rest ≡ bytes) → rest ≡ [] → AreWithin z found
    → (r : Result (Option Parts) NoMemory) → IfOk r (λ o. Unites found (option_map tables_of o)) → IfOk r (λ o. Unspells z bytes (option_map tables_of o))
read_united z few bytes found rest is empty within (Ok o) u = united z few bytes found rest is empty within (option_map tables_of o) u
read_united z few bytes found rest is empty within (Err e) u = tt
