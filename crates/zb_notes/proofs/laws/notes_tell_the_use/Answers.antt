use Rattle.zb_notes.proofs.Telling.{batch_leads}
use Rattle.zb_notes.proofs.laws.notes_tell_the_use.Goals as goal

pub returns : goal.returns
returns c z t batch pieces after are may notable done log stripe = batch_leads z t batch pieces after are may notable done log stripe
