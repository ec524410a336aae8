-- A lookup that is answered leaves fewer steps.
use Rattle.std.proofs.Common.{◌≡◌, ℕ, ◌*◌, ◌<◌, Bool, true, List, [], ◌∷◌, Some, refl, sym, ap, ◌∙◌, subst, arith}
use Rattle.zb_types.specs.declared.calls.Call.{Call}
use Rattle.zb_types.specs.declared.calls.Reply.{Reply}
use Rattle.zb_types.specs.declared.lines.Said.TheVariants as said
use Rattle.zb_types.specs.Apply.{max_file}
use Rattle.zb_types.specs.Limits.{most_kept}
use Rattle.zb_types.specs.Tree.{Tree}
use Rattle.zb_tables.specs.Tables.{Tables}
use Rattle.zb_tables.specs.Taking.{Sizes}
use Rattle.zb_basis.specs.declared.asks.Ask.{Ask}
use Rattle.zb_basis.specs.declared.calls.Numbered.{Numbered}
use Rattle.zb_basis.specs.Looking.{room_of}
use Rattle.zb_work.specs.declared.work.Step.TheVariants as step
use Rattle.zb_work.specs.declared.work.Task.{Task}
use Rattle.zb_work.specs.Fitting.{wanted_for}
use Rattle.zb_work.specs.Steps.{step_of}
use Rattle.zb_client.specs.declared.steps.Answer.TheVariants as answer
use Rattle.zb_client.specs.declared.steps.Lookup.{Lookup}
use Rattle.zb_client.specs.declared.steps.Lookup.TheVariants.{Files, Names}
use Rattle.zb_client.specs.Seen.{SeenClient}
use Rattle.zb_client.specs.Hearing.{HearsLookup, asks as asks_cache, looked_up}
use Rattle.zb_client.specs.Telling.{Heard, answers_first, answers_read}
use Rattle.zb_client.specs.Wishing.{lookup_of, queue_lookup}
use Rattle.zb_client_laws.specs.Around.{Around, IsAround}
use Rattle.zb_client_laws.specs.Effects.{founds}
use Rattle.zb_client_laws.specs.Known.{IsKnown}
use Rattle.zb_client_laws.specs.Sound.{ClientIsSound}
use Rattle.zb_client_laws.proofs.Looking.{found_sound, may_find}
use Rattle.zb_progress.specs.Fresh.{same_numbers, versions_of}
use Rattle.zb_progress.specs.Left.{most_wanted, stale_steps, steps_left}
use Rattle.zb_progress.proofs.Falling.{at-lookup}
use Rattle.zb_progress.proofs.Ongoing.{answer-falls, found-now, goes-falls}
use Rattle.zb_progress.proofs.Versions.{same-numbers}
use Rattle.zb_progress.proofs.Wanting.{wanted-few}

-- a lookup of files asks these
abbrev AsksFiles : Lookup → List Ask → Type 0
AsksFiles (Files hold asks) other = asks ≡ other
AsksFiles (Names call) other = ⊥

files_is : (l : Lookup) (hold : Bool) (asks : List Ask) → l ≡ Files hold asks → AsksFiles l asks
files_is l hold asks e = subst (λ (x : Lookup). AsksFiles x asks) (sym e) refl

-- a lookup of names
abbrev AsksNames : Lookup → Type 0
AsksNames (Files hold asks) = ⊥
AsksNames (Names call) = Unit {0}

names_is : (l : Lookup) (call : Call) → l ≡ Names call → AsksNames l
names_is l call e = subst AsksNames (sym e) tt

-- what was found just now is at the versions of the tables
now-found : (t : Tables) (c : SeenClient) (tries : ℕ) (kept : List Numbered) (asks : List Ask) → AsksFiles (lookup_of c tries kept) asks → found-now t c.block kept (founds t asks) ≡ true
now-found t c tries [] asks e = refl
now-found t c tries (first ∷ others) asks e =
    ap (λ (them : List Ask). same_numbers (versions_of (founds t asks)) (versions_of (founds t them))) e ∙ same-numbers (versions_of (founds t asks))

module _ (slots : ℕ) (w : Around) (a : IsAround slots w) (seen : Tree) (c : SeenClient) (known : IsKnown c) (s : ClientIsSound w seen c) (task : Task) (is_task : c.task ≡ Some task) (at_lookup : task.step ≡ step.Lookup)
    (hold : Bool) (asks : List Ask) (is : lookup_of c task.tries c.kept ≡ Files hold asks) where
  pub found-falls : (heard : Heard) → HearsLookup c (answer.Found (founds w.tables asks)) heard → steps_left w.z w.tables heard.client < steps_left w.z w.tables c
  found-falls heard on =
      let found = founds w.tables asks in
      let may = may_find slots w a seen c known s task is_task at_lookup asks hold is in
      let few = wanted-few c.block (room_of c.servers c.fragment) c.kept c.queue found c.cache may in
      let size : most_kept * max_file * c.block ≡ most_wanted w.z = ap (λ (b : ℕ). most_kept * max_file * b) s.sizes.block in
      let now = ap (stale_steps w.z) (now-found w.tables c task.tries c.kept asks (files_is (lookup_of c task.tries c.kept) hold asks is)) in
      let was = at-lookup w.z w.tables c (ap step_of is_task ∙ at_lookup) in
      let sound = (found_sound slots w a seen c known s task is_task at_lookup asks hold is heard on).0 in
      goes-falls slots w a w.tree c known s.sizes task is_task (asks_cache c (wanted_for c.block c.kept c.queue found)).cache (looked_up c found) (omega (arith, few, size, now, was)) heard on sound

module _ (z : Sizes) (t : Tables) (c : SeenClient) (task : Task) (is_task : c.task ≡ Some task) (reply : Reply) where
  first-named : (queue : List Numbered) → c.queue ≡ queue → AsksNames (queue_lookup c.block queue) → steps_left z t (answers_first c queue (said.Reply reply)).client < steps_left z t c
  first-named [] e n = absurd n
  first-named (read ∷ rest) e n = answer-falls z t c c.cache task is_task read rest e (said.Reply reply)

  kept-named : (kept : List Numbered) → AsksNames (lookup_of c task.tries kept) → steps_left z t (answers_read c (said.Reply reply)).client < steps_left z t c
  kept-named [] n = first-named c.queue refl n
  kept-named (first ∷ others) n = absurd n

  pub named-falls : (call : Call) → lookup_of c task.tries c.kept ≡ Names call → steps_left z t (answers_read c (said.Reply reply)).client < steps_left z t c
  named-falls call e = kept-named c.kept (names_is (lookup_of c task.tries c.kept) call e)
