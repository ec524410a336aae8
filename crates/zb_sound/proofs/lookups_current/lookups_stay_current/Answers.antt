use Rattle.std.proofs.Common.{◌≡◌, ◌∷◌, [], refl, sym}
use Rattle.zb_tables.specs.Fold.{all_moved, committed, done_ops, shelf_of}
use Rattle.zb_batch.specs.declared.batch.Op.TheVariants.{Clean}
use Rattle.zb_sound.proofs.Saying.{file_form}
use Rattle.zb_sound.proofs.Looked.{answered_current, beside_current, copies_current, grown_current, updates_current, opened}
use Rattle.zb_sound.proofs.lookups_current.lookups_stay_current.Goals as goal

pub returns-clause-answered : goal.returns-clause-answered
returns-clause-answered c z contents t fid first count f = answered_current contents t fid first count (λ file at. (file_form z t f fid file at).numbered.1)

pub returns-clause-contents : goal.returns-clause-contents
returns-clause-contents c contents new t fid first count found looked same points w = grown_current t fid first count found contents new looked same points w

pub returns-clause-updates : goal.returns-clause-updates
returns-clause-updates c z b contents t log number pieces ops after fid first count found e are worn f w some =
    let now = updates_current t fid first count found contents w some b ops after e are worn (λ file at. (file_form z t f fid file at).version.1) in
    record { given = now.given; rises = now.rises; same = now.same }

pub returns-clause-copies : goal.returns-clause-copies
returns-clause-copies c b contents t log number pieces deltas after fid first count found e copies w some =
    let now = copies_current t fid first count found contents w some deltas copies in
    let left = opened (done_ops b (Clean deltas ∷ []) (shelf_of t)) after (λ u. (t.names ≡ u.names) × (all_moved deltas t.files ≡ u.files)) e (refl, refl) in
    beside_current (record t { files = all_moved deltas t.files }) fid first count found contents (committed t log number pieces after) (sym left.0) (sym left.1)
    (λ _. now) some

pub returns-clause-beside : goal.returns-clause-beside
returns-clause-beside c contents t new fid first count found names files w = beside_current t fid first count found contents new names files w

pub returns-clause-merges : goal.returns-clause-merges
returns-clause-merges c contents t fid first count found file deltas w some at v range k p e = let r = range k p e in ((w some).same file at v).blocks k r.0 r.1
