use Rattle.retry_policy.specs.Decision.{held_on}
use Rattle.retry_policy.proofs.WaitLemmas.{wait_within}
use Rattle.retry_policy.proofs.laws.a_wait_is_at_most_the_longest_backoff.Goals as goal

pub returns : goal.returns
returns c case held reply grant wait h e is = wait_within case case.verdict (held_on case.failed held) reply grant wait h e is
