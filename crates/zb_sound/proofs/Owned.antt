-- What entries leave of the log of an owner.
use Rattle.std.proofs.Common.{◌≡◌, ◌≢◌, ℕ, List, Option, None, refl, sym, ap, ◌∙◌}
use Rattle.zb_types.specs.declared.ids.LogId.{LogId}
use Rattle.zb_types.specs.declared.ids.ServerId.{ServerId}
use Rattle.zb_types.specs.declared.ids.Piece.{Piece}
use Rattle.zb_types.specs.declared.nodes.Members.{Members}
use Rattle.zb_types.specs.declared.nodes.State.{State}
use Rattle.zb_types.specs.declared.nodes.State.TheVariants.{Whole, Out, Mending}
use Rattle.zb_types.specs.Keyed.{look, changed}
use Rattle.zb_types.proofs.KeyedLists.{look-put_same, look-put_other}
use Rattle.zb_tables.specs.Tables.{Tables}
use Rattle.zb_tables.specs.Fold.{Shelf, after_retire, all_marked, attached, committed, ended, following, kept_logs, last_of, new_log, retired, with_members}
use Rattle.zb_tables.proofs.Logs.{attach_other, commit_log, commit_other, live_kept, mark_live}
use Rattle.zb_sound.specs.Owning.{LogIs}

pub out_whole : (a : ServerId) → Out a ≡ Whole → ⊥
out_whole a e = absurd cc

pub mending_whole : (a : ServerId) → Mending a ≡ Whole → ⊥
mending_whole a e = absurd cc

module _ (t : Tables) (log : LogId) (owner batch : ℕ) (last : Option ℕ) where
  pub commit_owned : (number : ℕ) (pieces : List Piece) (s : Shelf) → LogIs t log owner batch last → LogIs (committed t log number pieces s) log owner number (last_of last pieces)
  commit_owned number pieces s l = record {
    state = record l.state { batch = number; replies = s.replies; last = last_of l.state.last pieces };
    there = commit_log log number pieces s.replies t.logs l.state l.there;
    lives = l.lives;
    owner_is = l.owner_is;
    batch_is = refl;
    last_is = ap (λ (o : Option ℕ). last_of o pieces) l.last_is;
  }

  pub other_owned : (other : LogId) (number : ℕ) (pieces : List Piece) (s : Shelf) → log.0 ≢ other.0 → LogIs t log owner batch last → LogIs (committed t other number pieces s) log owner batch last
  other_owned other number pieces s ne l = record {
    state = l.state;
    there = commit_other other number pieces s.replies t.logs (look other.0 t.logs) log.0 (λ e. ne (sym e)) ∙ l.there;
    lives = l.lives;
    owner_is = l.owner_is;
    batch_is = l.batch_is;
    last_is = l.last_is;
  }

  pub attach_owned : (new : LogId) (who : ℕ) → log.0 ≢ new.0 → owner ≢ who → LogIs t log owner batch last → LogIs (attached t who new) log owner batch last
  attach_owned new who ne other l = record {
    state = l.state;
    there = look-put_other log.0 new.0 (new_log who) (kept_logs t.held (changed (ended who) t.logs)) (λ e. ne (sym e))
        ∙ attach_other t.held who log.0 l.state t.logs l.there l.lives (λ e. other (sym l.owner_is ∙ e));
    lives = l.lives;
    owner_is = l.owner_is;
    batch_is = l.batch_is;
    last_is = l.last_is;
  }

  pub retire_owned : (of : LogId) (stripe : ℕ) → LogIs t log owner batch last → LogIs (after_retire t of stripe) log owner batch last
  retire_owned of stripe l = record {
    state = l.state;
    there = live_kept (retired of stripe t.held) log.0 l.state t.logs l.there l.lives;
    lives = l.lives;
    owner_is = l.owner_is;
    batch_is = l.batch_is;
    last_is = l.last_is;
  }

  marked_owned : (members : Members) → (members.state ≡ Whole → ⊥) → LogIs t log owner batch last → LogIs (with_members t members) log owner batch last
  marked_owned members some l = record {
    state = record l.state { mark = following l.state.last };
    there = mark_live members.state t.logs log.0 l.state some l.there l.lives;
    lives = l.lives;
    owner_is = l.owner_is;
    batch_is = l.batch_is;
    last_is = l.last_is;
  }

  whole_owned : (members : Members) → members.state ≡ Whole → LogIs t log owner batch last → LogIs (with_members t members) log owner batch last
  whole_owned members whole l = record {
    state = l.state;
    there = ap (λ (state : State). look log.0 (all_marked state t.logs)) whole ∙ l.there;
    lives = l.lives;
    owner_is = l.owner_is;
    batch_is = l.batch_is;
    last_is = l.last_is;
  }

  pub mark_owned : (members : Members) → LogIs t log owner batch last → LogIs (with_members t members) log owner batch last
  mark_owned members l = by_state members.state refl where
    by_state : (state : State) → members.state ≡ state → LogIs (with_members t members) log owner batch last
    by_state Whole e = whole_owned members e l
    by_state (Out a) e = marked_owned members (λ w. absurd (out_whole a (sym e ∙ w))) l
    by_state (Mending a) e = marked_owned members (λ w. absurd (mending_whole a (sym e ∙ w))) l

-- an owner's new log
pub new_owned : (t : Tables) (owner : ℕ) (log : LogId) → LogIs (attached t owner log) log owner 0 None
new_owned t owner log = record {
  state = new_log owner;
  there = look-put_same log.0 (new_log owner) (kept_logs t.held (changed (ended owner) t.logs));
  lives = refl;
  owner_is = refl;
  batch_is = refl;
  last_is = refl;
}
