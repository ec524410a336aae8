use Rattle.zb_sound.proofs.Fitness.{none_lost_fit, serving_fit}
use Rattle.zb_sound.proofs.nodes_fit.fit_nodes_leave_others_fit.Goals as goal

pub returns-clause-serving : goal.returns-clause-serving
returns-clause-serving c z members st nodes a others fit = serving_fit z members st nodes a fit others

pub returns-clause-none_lost : goal.returns-clause-none_lost
returns-clause-none_lost c z members st nodes a others fit = none_lost_fit z members st nodes a fit others
