-- The call behind a present moment that was asked for.
use Rattle.std.specs.Prelude.{ℕ, List, [], ◌∷◌, Option, None, Some}
use Rattle.smithy_types.specs.declared.timers.TimersCall.TheVariants.{Now}
use Rattle.outside.specs.Calls.{OutsideCall, OfTimers}

-- without a time source nothing is asked
abbrev pub clock_calls : Option ℕ → List OutsideCall
clock_calls None = []
clock_calls (Some moment) = OfTimers (Now moment) ∷ []
