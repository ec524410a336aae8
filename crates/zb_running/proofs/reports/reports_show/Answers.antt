use Rattle.zb_course.proofs.Giving.{next_is_new}
use Rattle.zb_course.proofs.Stepping.{nodes_sound, owns_rest}
use Rattle.zb_running.proofs.Shown.{shows_clients, shows_fits, shows_legal, shows_own, shows_places}
use Rattle.zb_running.proofs.reports.reports_show.Goals as goal

pub returns-clause-sound : goal.returns-clause-sound
returns-clause-sound c geo given lines course r = nodes_sound given lines course r.sound

pub returns-clause-clients : goal.returns-clause-clients
returns-clause-clients c geo given lines course r = shows_clients r

pub returns-clause-own : goal.returns-clause-own
returns-clause-own c geo given lines course r = shows_own r

pub returns-clause-rest : goal.returns-clause-rest
returns-clause-rest c geo given lines course r = owns_rest given lines course r.sound

pub returns-clause-fits : goal.returns-clause-fits
returns-clause-fits c geo given lines course r = shows_fits r

pub returns-clause-places : goal.returns-clause-places
returns-clause-places c geo given lines course client r high = shows_places r client high

pub returns-clause-fresh : goal.returns-clause-fresh
returns-clause-fresh c geo given lines course client r = next_is_new given lines course client r.settled

pub returns-clause-legal : goal.returns-clause-legal
returns-clause-legal c geo given lines course r = shows_legal r

pub returns-clause-updates : goal.returns-clause-updates
returns-clause-updates c geo given lines course r = r.settled.keeps.updates
