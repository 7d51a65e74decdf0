use Rattle.retry_quota.proofs.BookLemmas.{balanced-end_of}
use Rattle.retry_quota.proofs.laws.sums_balance.Goals as goal

pub returns-clause-kept : goal.returns-clause-kept
returns-clause-kept c = λ b entries. balanced-end_of entries b
