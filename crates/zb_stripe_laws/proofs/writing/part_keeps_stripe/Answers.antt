use Rattle.zb_stripe_laws.proofs.Keeping.{each_law, whole_law, fresh_law}
use Rattle.zb_stripe_laws.proofs.writing.part_keeps_stripe.Goals as goal

pub returns-clause-each : goal.returns-clause-each
returns-clause-each c v out class log part end fits le spared h s i = each_law v.servers v.fragment out v.away class log part spared fits v.maps end le h s i

pub returns-clause-whole : goal.returns-clause-whole
returns-clause-whole c v out class log part end fits le spared h s = whole_law v.servers v.fragment out v.away class log part spared fits v.maps end h s

pub returns-clause-fresh : goal.returns-clause-fresh
returns-clause-fresh c v out class log part fits start spared none = fresh_law v.servers v.fragment out v.away class log part spared fits v.maps start none
