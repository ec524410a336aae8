-- What is read back of platter 0.
use Rattle.std.proofs.Common.{◌≡◌, ℕ, List, [], sym, ◌∙◌, ap, subst}
use Rattle.zb_types.specs.declared.geometry.Geometry.{Geometry}
use Rattle.zb_entries.specs.declared.entry.Entry.{Entry}
use Rattle.zb_outside.specs.Meaning.{Standing}
use Rattle.zb_outside.specs.Runs.{IsSettled}
use Rattle.zb_ckpt.specs.declared.root.Root.{Root}
use Rattle.zb_ckpt.specs.Says.{Holds}
use Rattle.zb_ckpt.proofs.Once.{says_one as one_root}
use Rattle.zb_journal.specs.Journal.{Says}
use Rattle.zb_journal.proofs.Once.{says_one as one_journal}
use Rattle.zb_tables.specs.Tables.{Tables, Contents}
use Rattle.zb_tables.specs.Taking.{AreTaken}
use Rattle.zb_spelling.specs.Spelling.{spelling_of_tables}
use Rattle.zb_spelling.specs.Unspelling.{IsCheckpoint, sizes_of}
use Rattle.zb_platter.specs.Says.{HasPlatter, SaysTables}
use Rattle.zb_platter.specs.Standing.{SeenPlatter}
use Rattle.zb_platter.specs.Reading.{IsReadBack, StandsAgain}

-- where the platter says tables, it stands as was read
pub stands_again : (geo : Geometry) (contents : Contents) (tables : Tables) (now : Standing) (p : SeenPlatter) (bytes : List ℕ)
    → IsSettled 0 now → SaysTables geo contents (now.seen 0) tables → IsReadBack (now.seen 0) p bytes → StandsAgain p bytes contents tables now
stands_again geo contents tables now p bytes settled h back =
    let image = now.seen 0 in
    let both = one_root image h.root p.root _ _ h.has.checkpoint.says back.root in
    let root : h.root ≡ p.root = both.0 in
    let entries : h.platter.entries ≡ p.entries =
    (one_journal image p.root.first h.platter.entries p.entries h.place p.journal.place (subst (λ (r : Root). Says image r.first h.platter.entries h.place) root h.has.journal) back.journal).0 in
    let had : HasPlatter image p.root (record { tables = h.platter.tables; entries = p.entries }) p.journal.place = record {
      within = h.has.within;
      is = subst (λ (r : Root). IsCheckpoint (sizes_of r.geo) h.platter.tables) root h.has.is;
      checkpoint = subst (λ (r : Root). Holds image r (spelling_of_tables h.platter.tables)) root h.has.checkpoint;
      first = subst (λ (r : Root). r.first ≡ h.platter.tables.next_entry) root h.has.first;
      journal = back.journal;
    } in
    let system : geo ≡ p.root.geo = sym h.system ∙ ap (λ (r : Root). r.geo) root in
    record {
      stands = record {
        settled = settled;
        start = h.platter.tables;
        has = had;
        taken = subst (λ (g : Geometry). AreTaken (sizes_of g) contents [] h.platter.tables p.entries tables) system
            (subst (λ (es : List Entry). AreTaken (sizes_of geo) contents [] h.platter.tables es tables) entries h.taken);
      };
      text = both.1;
    }

-- and it is of that system
pub system_again : (geo : Geometry) (contents : Contents) (tables : Tables) (image : List ℕ) (p : SeenPlatter) (bytes : List ℕ) → SaysTables geo contents image tables → IsReadBack image p bytes → p.root.geo ≡ geo
system_again geo contents tables image p bytes h back =
    sym (ap (λ (r : Root). r.geo) (one_root image h.root p.root _ _ h.has.checkpoint.says back.root).0) ∙ h.system
