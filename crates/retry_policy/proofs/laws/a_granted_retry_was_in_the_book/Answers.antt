use Rattle.retry_policy.proofs.GrantLemmas.{had_once_settled, had_before}
use Rattle.retry_policy.proofs.laws.a_granted_retry_was_in_the_book.Goals as goal

pub returns-clause-settled : goal.returns-clause-settled
returns-clause-settled g c means m n case held reply grant cost made e = had_once_settled means m n case held reply grant cost made e

pub returns-clause-failed : goal.returns-clause-failed
returns-clause-failed g c means m n case held reply grant cost f made e = had_before means m n case held reply grant cost f made e
