use Rattle.retry_quota.proofs.BookLemmas.{end_of-append, legal-joined, legal-begun}
use Rattle.retry_quota.proofs.laws.histories_join.Goals as goal

pub returns-clause-joined : goal.returns-clause-joined
returns-clause-joined c = λ b xs ys. legal-joined xs ys b

pub returns-clause-begun : goal.returns-clause-begun
returns-clause-begun c = λ b xs ys. legal-begun xs ys b

pub returns-clause-ends : goal.returns-clause-ends
returns-clause-ends c = λ b xs ys. end_of-append xs ys b
