use Rattle.std.proofs.Common.{◌≡◌, ℕ, ◌<◌, ◌≤◌, ◌+◌, List, sym, ap, ◌∙◌, subst, arith}
use Rattle.std.specs.List.{AllByRecursion}
use Rattle.std.specs.Map.{keys_of}
use Rattle.zb_types.specs.Names.{last_number}
use Rattle.zb_types.specs.Keyed.{put, changed}
use Rattle.zb_tables.specs.Tables.{LogState, risen}
use Rattle.zb_tables.specs.Fold.{attached, ended, new_log, kept_logs}
use Rattle.zb_manager.specs.Managers.{SeenManager}
use Rattle.zb_manager.proofs.Numbered.{risen_within, put_last, numbered_more}
use Rattle.zb_manager.proofs.manager.Manager.attach.Goals as goal

pub add-requires-clause-last : goal.add-requires-clause-last
add-requires-clause-last c =
    c.keep.ensures.numbers c.self.inside.next_log (subst (AllByRecursion (λ (k : ℕ). k < c.self.inside.next_log)) (sym c.end_of.ensures.numbers) c.self.invariant.numbered)

pub invariant_of-self : goal.invariant_of-self
invariant_of-self c =
    let was = c.self.invariant in
    let next = c.self.inside.next_log in
    let below = c.keep.ensures.numbers next (subst (AllByRecursion (λ (k : ℕ). k < next)) (sym c.end_of.ensures.numbers) was.numbered) in
    record {
      block = was.block;
      numbered = subst (λ (logs : List (ℕ × LogState)). AllByRecursion (λ (k : ℕ). k < next + 1) (keys_of logs)) (sym c.add.ensures.logs)
          (numbered_more next (new_log c.args.owner) c.keep.new.self.logs below);
      log = subst (λ (s : SeenManager). s.tables.next_log + 1 ≤ last_number) (sym c.self.view_is) (let lt = c.requires.next in omega arith);
      entry = risen_within c.self.inside.next_entry c.risen-self-inside.result c.risen-self-inside.ensures was.entry;
    }

pub returns-clause-tables : goal.returns-clause-tables
returns-clause-tables c =
    let next = c.self.inside.next_log in
    let new = new_log c.args.owner in
    let held = c.self.inside.held.stripes in
    let below = c.keep.ensures.numbers next (subst (AllByRecursion (λ (k : ℕ). k < next)) (sym c.end_of.ensures.numbers) c.self.invariant.numbered) in
    let logs : c.add.new.self.logs ≡ put next new (kept_logs held (changed (ended c.args.owner) c.self.inside.logs.logs)) =
    c.add.ensures.logs ∙ sym (put_last next new c.keep.new.self.logs below)
    ∙ ap (put next new) (c.keep.ensures.logs ∙ ap (kept_logs held) c.end_of.ensures.logs) in
    ap (λ (n : ℕ). record { names = c.self.inside.names; files = c.self.inside.pointers.files; logs = c.add.new.self.logs; held = held; members = c.self.inside.members; next_log = next + 1; next_entry = n }) c.risen-self-inside.ensures
    ∙ ap (λ (ls : List (ℕ × LogState)). record { names = c.self.inside.names; files = c.self.inside.pointers.files; logs = ls; held = held; members = c.self.inside.members; next_log = next + 1; next_entry = risen c.self.inside.next_entry }) logs
    ∙ ap (λ (s : SeenManager). attached s.tables c.args.owner (record { 0 = next })) c.self.view_is
