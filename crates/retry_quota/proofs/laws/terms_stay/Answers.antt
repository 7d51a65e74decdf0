use Rattle.retry_quota.proofs.BookLemmas.{terms-end_of}
use Rattle.retry_quota.proofs.laws.terms_stay.Goals as goal

pub returns : goal.returns
returns c = λ b entries. terms-end_of entries b
