use Rattle.std.proofs.Common.{ap, ◌∙◌}
use Rattle.zb_spelling.specs.Spelling.{list_text, name_text}
use Rattle.zb_spelling.specs.Reading.{shown_name}
use Rattle.zb_spelling.proofs.Fitting.{list_text-shown}
use Rattle.zb_spelling.proofs.names.push_names.Goals as goal

pub returns : goal.returns
returns c =
    rw (list_text-shown shown_name name_text c.entries.result.now ∙ ap (list_text name_text) c.entries.ensures) at c.push_list.ensures.text
