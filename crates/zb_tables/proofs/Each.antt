-- What holds of each file, once one is put, replaced or dropped.
use Rattle.std.proofs.Common.{◌≡◌, ℕ, Some}
use Rattle.zb_types.specs.Keyed.{look, put, replaced, without}
use Rattle.zb_tables.specs.Tables.{FileState, EachFile}
use Rattle.zb_tables.specs.Fold.{Files}
use Rattle.zb_tables.proofs.Alls.{all_keyed, all_map, all_put, all_replaced, all_without}

pub each_put : (P : FileState → Type 0) (files : Files) (fid : ℕ) (file : FileState) → EachFile P files → P file → EachFile P (put fid file files)
each_put P files fid file all this = all_put (λ (e : ℕ × FileState). P e.1) fid file this files all

pub each_replaced : (P : FileState → Type 0) (files : Files) (fid : ℕ) (file : FileState) → EachFile P files → P file → EachFile P (replaced fid file files)
each_replaced P files fid file all this = all_replaced (λ (e : ℕ × FileState). P e.1) fid file this files all

pub each_without : (P : FileState → Type 0) (files : Files) (fid : ℕ) → EachFile P files → EachFile P (without fid files)
each_without P files fid all = all_without (λ (e : ℕ × FileState). P e.1) fid files all

pub each_look : (P : FileState → Type 0) (files : Files) (fid : ℕ) (file : FileState) → EachFile P files → look fid files ≡ Some file → P file
each_look P files fid file all at = all_keyed (λ (e : ℕ × FileState). P e.1) fid file files all at

pub each_map : (P Q : FileState → Type 0) → ((file : FileState) → P file → Q file) → (files : Files) → EachFile P files → EachFile Q files
each_map P Q f files all = all_map (λ (e : ℕ × FileState). P e.1) (λ (e : ℕ × FileState). Q e.1) (λ e. f e.1) files all
