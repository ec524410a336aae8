use Rattle.std.proofs.Common.{◌≡◌}
use Rattle.std.specs.Prelude.{[]}
use Rattle.zb_types.specs.declared.lines.Kind.TheVariants.{Idle}
use Rattle.zb_client.specs.Seen.{SeenClient, kind_of}
use Rattle.zb_finishing.proofs.Alone.{each_place, idle_seen, keeps_none, seen_idle}
use Rattle.zb_finishing.proofs.Resting.{idle_rests}
use Rattle.zb_finishing.proofs.seeing.clients_are_seen.Goals as goal

pub returns-clause-idle : goal.returns-clause-idle
returns-clause-idle c n i e = seen_idle n i e

pub returns-clause-kind : goal.returns-clause-kind
returns-clause-kind c n i lt idle = idle_seen n i lt idle

pub returns-clause-rests : goal.returns-clause-rests
returns-clause-rests c client idle = idle_rests client idle

pub returns-clause-none_kept : goal.returns-clause-none_kept
returns-clause-none_kept c n i none = keeps_none n i none

pub returns-clause-all_idle : goal.returns-clause-all_idle
returns-clause-all_idle c n each = each_place (λ (d : SeenClient). kind_of d ≡ Idle) n each

pub returns-clause-all_keep_none : goal.returns-clause-all_keep_none
returns-clause-all_keep_none c n each = each_place (λ (d : SeenClient). d.kept ≡ []) n each
