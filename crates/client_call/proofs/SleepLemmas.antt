-- The sleeps of the roles.
use Rattle.std.proofs.Common.{◌≡◌, ℕ, Option, refl}
use Rattle.run_grammar.specs.declared.kind.Role.{Role}
use Rattle.run_grammar.specs.declared.kind.Role.TheVariants.{Operation, Attempt, Send, Retry, LongPoll}
use Rattle.client_call.specs.declared.sleeping.Sleeps.{Sleeps}
use Rattle.client_call.specs.Sleeping.{with_sleep}

-- of two sleeps of a role the last stands
pub last_sleep_stands : (role : Role) (first sleep : Option ℕ) (s : Sleeps) → with_sleep role sleep (with_sleep role first s) ≡ with_sleep role sleep s
last_sleep_stands Operation first sleep s = refl
last_sleep_stands Attempt first sleep s = refl
last_sleep_stands Send first sleep s = refl
last_sleep_stands Retry first sleep s = refl
last_sleep_stands LongPoll first sleep s = refl
