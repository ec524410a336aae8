use Rattle.std.proofs.Common.{List, ◌++◌, ◌∙◌, ap, sym}
use Rattle.std.proofs.lemmas.Option.{same_Some}
use Rattle.zb_types.specs.declared.tables.TreeEntry.{TreeEntry}
use Rattle.zb_claims.specs.Runs.{end_line}
use Rattle.zb_claims.specs.Text.{list_text}
use Rattle.zebra.proofs.last.end_of.Goals as goal

pub returns-in_default-clause-text : goal.returns-in_default-clause-text
returns-in_default-clause-text g c given lines r = absurd (c.in_default.not-Some _ (c.in_ok-list.ensures given lines r))

pub returns-clause-text : goal.returns-clause-text
returns-clause-text g c given lines r =
    c.in_ok-text.ensures ∙ ap (λ (entries : List TreeEntry). list_text entries ++ end_line c.if-done.status) (same_Some _ _ (sym c.in-Some.is ∙ c.in_ok-list.ensures given lines r))
