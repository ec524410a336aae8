-- A read is answered with the file's bytes.
use Rattle.std.proofs.Common.{◌≡◌, ℕ, ◌+◌, ◌/◌, ◌%◌, ◌<◌, ◌≤◌, min, List, [], ◌∷◌, length, take, drop, Option, Some, None, refl, sym, ap, ◌∙◌, subst, inl, inr, arith}
use Rattle.std.specs.Prelude.{slice_index, ◌==◌, not, is_some, if◌then◌else◌}
use Rattle.std.proofs.lemmas.Bool.{cases_lt, cond_both}
use Rattle.std.proofs.lemmas.Bool.Decides.{nat_tests}
use Rattle.std.proofs.lemmas.Nat.{div-add-mod', mod_below}
use Rattle.std.proofs.lemmas.List.{get_or-take, get_or-drop, get_or_past, length-take, length-drop, ext_get_or}
use Rattle.zb_types.specs.declared.ids.Fid.{Fid}
use Rattle.zb_types.specs.declared.calls.Call.TheVariants.{Read}
use Rattle.zb_types.specs.declared.calls.Reply.{Reply}
use Rattle.zb_types.specs.declared.calls.Reply.TheVariants.{Bytes as BytesReply, Refused}
use Rattle.zb_types.specs.declared.calls.Refusal.TheVariants.{Gone}
use Rattle.zb_types.specs.declared.tables.Found.{Found}
use Rattle.zb_types.specs.Keyed.{look}
use Rattle.zb_types.specs.Names.{when}
use Rattle.zb_types.specs.Tree.{Tree, or_none}
use Rattle.zb_types.specs.Apply.{max_file, reply_to, or_refused}
use Rattle.zb_tables.specs.Tables.{Contents, bytes_at}
use Rattle.zb_tables.proofs.Blocks.{byte-first, length-first}
use Rattle.zb_sound.specs.LookupsCurrent.{AreFetched, ShowsFile}
use Rattle.zb_basis.specs.declared.basis.Basis.{Basis}
use Rattle.zb_basis.specs.Looking.{ask_of}
use Rattle.zb_basis.specs.Operations.{block_bytes}
use Rattle.zb_basis.specs.Reading.{IsReadReply, ReplyOf, file_bytes, read_reply}
use Rattle.zb_forming_laws.specs.Resting.{pairs_of}
use Rattle.zb_forming_laws.proofs.Standing.{contents-stand, byte-of_block}
use Rattle.zb_forming_laws.proofs.Ranges.{asked-block}

module _ (b : ℕ) (pos : 0 < b) (contents : Contents) (found : Found) (fid : Fid) (offset len : ℕ) (bytes : List ℕ) (short : found.length ≤ max_file)
    (shows : ShowsFile b contents (ask_of b (Read fid offset len)).first (ask_of b (Read fid offset len)).count found bytes) where
  abbrev Given : List ℕ
  Given = file_bytes b (bytes_at contents) found

  length-given : length Given ≡ length bytes
  length-given = length-first found.length (λ i. slice_index (block_bytes (bytes_at contents) (look (i / b) found.blocks)) (i % b)) ∙ shows.length_is

  -- a byte within the range of the read
  byte-given : (i : ℕ) → offset ≤ i → i < offset + len → i < found.length → slice_index Given i ≡ slice_index bytes i
  byte-given i low high l =
      let asked = asked-block b fid offset (min (offset + len) max_file) i pos low (omega arith) in
      byte-first found.length i (λ i. slice_index (block_bytes (bytes_at contents) (look (i / b) found.blocks)) (i % b)) l
      ∙ byte-of_block contents (look (i / b) found.blocks) (i % b)
      ∙ shows.blocks (i / b) (i % b) asked.0 asked.1 (mod_below i b pos)
      ∙ ap (slice_index bytes) (div-add-mod' i b)

  -- byte j of what is read
  byte-read : (j : ℕ) → j < len → slice_index (drop offset Given) j ≡ slice_index (drop offset bytes) j
  byte-read j l = get_or-drop offset Given j 0 ∙ (by ∙ sym (get_or-drop offset bytes j 0)) where
    by : slice_index Given (offset + j) ≡ slice_index bytes (offset + j)
    by = elim (cases_lt (offset + j) found.length) as (λ _. slice_index Given (offset + j) ≡ slice_index bytes (offset + j)) [
      | inl in_file ↦ byte-given (offset + j) (omega arith) (omega arith) in_file
      | inr past ↦
          let long = shows.length_is in
          get_or_past Given (offset + j) 0 (omega (arith, length-given)) ∙ sym (get_or_past bytes (offset + j) 0 (omega arith))
    ]

  pub read-same : take len (drop offset Given) ≡ take len (drop offset bytes)
  read-same = ext_get_or 0 (take len (drop offset Given)) (take len (drop offset bytes))
      (omega (arith, length-given, length-take len (drop offset Given), length-take len (drop offset bytes), length-drop offset Given, length-drop offset bytes))
      (λ j l.
      let less : j < len = omega (arith, length-take len (drop offset Given)) in
      get_or-take len (drop offset Given) j 0 less ∙ (byte-read j less ∙ sym (get_or-take len (drop offset bytes) j 0 less)))

-- what is found decides the reply of a lookup
replied : (b : ℕ) (contents : Contents) (basis : Basis) (found : Found) (fid : Fid) (offset len : ℕ) (reply : Reply) → basis.found ≡ found ∷ [] → AreFetched contents (pairs_of basis.fetched)
    → IsReadReply b basis (Read fid offset len) reply → reply ≡ read_reply b (bytes_at contents) found offset len
replied b contents basis found fid offset len reply e fetched is =
    subst (λ (founds : List Found). ReplyOf b (bytes_at contents) founds (Read fid offset len) reply) e (is (bytes_at contents) (contents-stand contents basis.fetched [] [] fetched tt))

-- the plain tree's reply to a read
tree-reply : (tree : Tree) (fid : Fid) (offset len : ℕ) (o : Option (List ℕ)) → look fid.0 tree.files ≡ o
    → or_refused (when (not (is_some o)) Gone) (BytesReply (take len (drop offset (or_none o)))) ≡ reply_to tree (Read fid offset len)
tree-reply tree fid offset len o e = ap (λ (q : Option (List ℕ)). or_refused (when (not (is_some q)) Gone) (BytesReply (take len (drop offset (or_none q))))) (sym e)

there-reply : (b : ℕ) (contents : Contents) (found : Found) (offset len : ℕ) → 1 ≤ found.version → read_reply b (bytes_at contents) found offset len ≡ BytesReply (take len (drop offset (file_bytes b (bytes_at contents) found)))
there-reply b contents found offset len some = cond_both (found.version == 0) (Refused Gone) (BytesReply (take len (drop offset (file_bytes b (bytes_at contents) found)))) (λ (r : Reply). r ≡ BytesReply (take len (drop offset (file_bytes b (bytes_at contents) found))))
    (λ t. absurd (grind (arith, nat_tests))) (λ _. refl)

pub read-shown : (b : ℕ) (contents : Contents) (basis : Basis) (found : Found) (fid : Fid) (offset len : ℕ) (bytes : List ℕ) (tree : Tree) (reply : Reply) → 0 < b → basis.found ≡ found ∷ []
    → AreFetched contents (pairs_of basis.fetched) → IsReadReply b basis (Read fid offset len) reply → 1 ≤ found.version → found.length ≤ max_file
    → ShowsFile b contents (ask_of b (Read fid offset len)).first (ask_of b (Read fid offset len)).count found bytes → look fid.0 tree.files ≡ Some bytes → reply ≡ reply_to tree (Read fid offset len)
read-shown b contents basis found fid offset len bytes tree reply pos e fetched is some short shows at =
    replied b contents basis found fid offset len reply e fetched is ∙ there-reply b contents found offset len some
    ∙ ap BytesReply (read-same b pos contents found fid offset len bytes short shows) ∙ tree-reply tree fid offset len (Some bytes) at

pub read-gone : (b : ℕ) (contents : Contents) (basis : Basis) (found : Found) (fid : Fid) (offset len : ℕ) (tree : Tree) (reply : Reply) → basis.found ≡ found ∷ []
    → AreFetched contents (pairs_of basis.fetched) → IsReadReply b basis (Read fid offset len) reply → found.version ≡ 0 → look fid.0 tree.files ≡ None → reply ≡ reply_to tree (Read fid offset len)
read-gone b contents basis found fid offset len tree reply e fetched is none at =
    replied b contents basis found fid offset len reply e fetched is
    ∙ ap (λ (v : ℕ). if v == 0 then Refused Gone else BytesReply (take len (drop offset (file_bytes b (bytes_at contents) found)))) none
    ∙ tree-reply tree fid offset len None at
