-- How invocations came out, counted.
use Rattle.std.specs.Prelude.{◌≡◌, ℕ, ◌+◌, Bool, true, false, cond, List, [], ◌∷◌, map, length}
use Rattle.cli_client_runs.specs.Running.{InvokedIn, Ran, Runs}
use Rattle.cli_client_runs.specs.declared.set.ClientSet.{ClientSet}
use Rattle.json_scripts.specs.declared.client.terms.InvocationRecord.{InvocationRecord}
use Rattle.run_grammar.specs.declared.answer.Entry.{Entry}
use Rattle.json_print.specs.declared.ending.Ending.{Ending}
use Rattle.json_print.specs.declared.ending.Ending.TheVariants as endings
use Rattle.client_scripted.specs.Clients.{ServiceWorld}
use Rattle.smithy_types.specs.Chain.{Chained}
use Rattle.cli_client.specs.declared.tally.Tally.{Tally}

-- whether an invocation came to an output
abbrev pub is_output : Ending → Bool
is_output (endings.Output payload) = true
is_output (endings.Stopped request) = false
is_output (endings.Error error) = false
is_output endings.Unfinished = false
is_output (endings.WrongType payload) = false

-- how many came to an output,
abbrev pub outputs_in : List Ran → ℕ
outputs_in [] = 0
outputs_in (r ∷ rs) = cond (is_output r.ending) 1 0 + outputs_in rs

-- how many to anything else,
abbrev pub errors_in : List Ran → ℕ
errors_in [] = 0
errors_in (r ∷ rs) = cond (is_output r.ending) 0 1 + errors_in rs

-- and how many calls they made together
abbrev pub calls_in : List Ran → ℕ
calls_in [] = 0
calls_in (r ∷ rs) = length r.log + calls_in rs

module _ {C I : Type 0} (relates : ServiceWorld C I → List Entry → ServiceWorld C I → Type 0) where
  -- One is made, and counted beside the earlier ones.
  pub record TalliesOne (old : ClientSet C I) (i : InvocationRecord) (earlier t : Tally)
      (new : ClientSet C I) : Type 0 where
    pub log : List Entry
    pub ending : Ending
    pub made : InvokedIn relates old i log ending new
    pub counted : t ≡ record {
      outputs = earlier.outputs + cond (is_output ending) 1 0;
      errors = earlier.errors + cond (is_output ending) 0 1;
      calls = earlier.calls + length log;
    }

  -- These invocations are made in their order, each over what the one before it left, and counted.
  pub record Tallies (old : ClientSet C I) (invocations : List InvocationRecord) (t : Tally)
      (new : ClientSet C I) : Type 0 where
    pub runs : List Ran
    pub made : Chained (Runs relates) old runs new
    pub these : map (λ (r : Ran). r.invocation) runs ≡ invocations
    pub outputs : t.outputs ≡ outputs_in runs
    pub errors : t.errors ≡ errors_in runs
    pub calls : t.calls ≡ calls_in runs
