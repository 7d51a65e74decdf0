use Rattle.outside_hosted.proofs.NewsLemmas.{load_stays_told, order_stays_told, told_load_known, told_order}
use Rattle.outside_hosted.proofs.laws.news_is_told_once.Goals as goal

pub returns-clause-order : goal.returns-clause-order
returns-clause-order c old = told_order old.call

pub returns-clause-no_order : goal.returns-clause-no_order
returns-clause-no_order c old new step other made none = order_stays_told old new step other made none

pub returns-clause-load : goal.returns-clause-load
returns-clause-load c old = told_load_known old.load

pub returns-clause-no_load : goal.returns-clause-no_load
returns-clause-no_load c old new step other made told = load_stays_told old new step other made told
