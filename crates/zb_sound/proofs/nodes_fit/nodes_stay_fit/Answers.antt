use Rattle.zb_sound.proofs.Fitness.{away_fit, mark_fit, stop_fit, up_fit, whole_fit}
use Rattle.zb_sound.proofs.nodes_fit.nodes_stay_fit.Goals as goal

pub returns-clause-whole : goal.returns-clause-whole
returns-clause-whole c n members st nodes whole none = whole_fit n members st.blank nodes whole none

pub returns-clause-request : goal.returns-clause-request
returns-clause-request c n members st nodes asked fit = fit

pub returns-clause-stops : goal.returns-clause-stops
returns-clause-stops c n members st nodes new stop fit = stop_fit n members st.blank nodes fit new stop

pub returns-clause-up : goal.returns-clause-up
returns-clause-up c n members st nodes new a stay own fit = up_fit n members st.blank nodes fit new a stay own

pub returns-clause-away : goal.returns-clause-away
returns-clause-away c n members st after nodes new a stay stopped lost fit = away_fit n members st.blank nodes fit after.blank new a stay stopped lost

pub returns-clause-mark : goal.returns-clause-mark
returns-clause-mark c n before members st nodes a state stopped others fit = mark_fit n before members st.blank nodes a state stopped others fit
