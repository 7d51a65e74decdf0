use Rattle.laws_program.proofs.hosts.Conversed.{alike_begins, alike_talks, one_begins_other, one_end, one_talk}
use Rattle.laws_program.proofs.hosts.hosts_are_determined.Goals as goal

pub returns-clause-begins : goal.returns-clause-begins
returns-clause-begins c = alike_begins

pub returns-clause-talks : goal.returns-clause-talks
returns-clause-talks c = alike_talks

pub returns-clause-status : goal.returns-clause-status
returns-clause-status c = one_end

pub returns-clause-fronts : goal.returns-clause-fronts
returns-clause-fronts c = one_begins_other

pub returns-clause-text : goal.returns-clause-text
returns-clause-text c = one_talk
