-- The invocations of a script's clients, one after another.
use Rattle.std.specs.Prelude.{◌≡◌, ℕ, ◌+◌, ◌-◌, ◌^◌, List, [], ◌∷◌, ◌++◌, map, min, Some, slice_get, slice_set, sum_by}
use Rattle.client_auth.specs.Identities.{loads_of}
use Rattle.json_scripts.specs.declared.client.terms.InvocationRecord.{InvocationRecord}
use Rattle.run_grammar.specs.declared.answer.Entry.{Entry}
use Rattle.json_print.specs.Print.{line}
use Rattle.json_print.specs.declared.ending.Ending.{Ending}
use Rattle.client_scripted.specs.Clients.{ServiceWorld}
use Rattle.client_scripted.specs.declared.client.ScriptedClient.{ScriptedClient}
use Rattle.cli_shell.specs.declared.status.PrintStatus.{PrintStatus}
use Rattle.cli_shell.specs.declared.status.PrintStatus.TheVariants as outcomes
use Rattle.smithy_types.specs.Chain.{Chained}
use Rattle.json_print.specs.World.Outcome.{came_to}
use Rattle.cli_client_runs.specs.Invoking.{Invoked}
use Rattle.cli_client_runs.specs.Print.{buckets_text, invocation_text, loads_data}
use Rattle.cli_client_runs.specs.declared.set.ClientSet.{ClientSet}

-- an invocation that was made: what was asked for, its entries, and how it ended
pub record Ran : Type 0 where
  pub invocation : InvocationRecord
  pub log : List Entry
  pub ending : Ending

-- the invocations' lines, numbered from here on
unfoldable pub invocations_text : ℕ → List Ran → List ℕ
invocations_text number [] = []
invocations_text number (r ∷ rs) =
    invocation_text number r.invocation.client r.log r.ending ++ invocations_text (number + 1) rs

-- what the last invocation came to; without one nothing failed
abbrev pub last_outcome : PrintStatus → List Ran → PrintStatus
last_outcome before [] = before
last_outcome before (r ∷ rs) = last_outcome (came_to r.ending) rs

module _ {C I : Type 0} where
  -- how many loads were begun into the clients' caches
  abbrev pub loads_in : List (ScriptedClient C I) → ℕ
  loads_in clients = sum_by (λ (c : ScriptedClient C I). loads_of c.world.parts.identities.cached) clients

module _ {C I : Type 0} (relates : ServiceWorld C I → List Entry → ServiceWorld C I → Type 0) where
  -- one of the clients is invoked over the shared outside and quota, and the others stay
  pub record InvokedIn (old : ClientSet C I) (i : InvocationRecord) (log : List Entry) (ending : Ending)
      (new : ClientSet C I) : Type 0 where
    pub client : ScriptedClient C I
    pub after : ScriptedClient C I
    pub there : slice_get old.clients.items i.client ≡ Some client
    pub invoked : Invoked relates client old.outside old.quota i log ending after new.outside new.quota
    pub clients : new.clients.items ≡ slice_set old.clients.items i.client after

  -- the same of an invocation that was made, as one step of a list
  abbrev pub Runs : ClientSet C I → Ran → ClientSet C I → Type 0
  Runs old r new = InvokedIn old r.invocation r.log r.ending new

  -- One is made, and printed with this number behind what was there.
  pub record RunsOne (number : ℕ) (old : ClientSet C I) (invocation : InvocationRecord) (before : List ℕ)
      (new : ClientSet C I) (text : List ℕ) (outcome : PrintStatus) : Type 0 where
    pub log : List Entry
    pub ending : Ending
    pub made : InvokedIn old invocation log ending new
    pub printed : text ≡ before ++ invocation_text number invocation.client log ending
    pub came : outcome ≡ came_to ending

  -- All are made in their order, and printed behind what was there. The last one tells what it came to.
  pub record RunsAll (old : ClientSet C I) (invocations : List InvocationRecord) (before : List ℕ) (new : ClientSet C I)
      (text : List ℕ) (outcome : PrintStatus) : Type 0 where
    pub runs : List Ran
    pub made : Chained Runs old runs new
    pub these : map (λ (r : Ran). r.invocation) runs ≡ invocations
    pub printed : text ≡ before ++ invocations_text 0 runs
    pub came : outcome ≡ last_outcome outcomes.Ok runs

  -- The invocations, the sums of all buckets and the number of loads stand behind what was there.
  pub record Plays (old : ClientSet C I) (invocations : List InvocationRecord) (before : List ℕ) (new : ClientSet C I)
      (text : List ℕ) (outcome : PrintStatus) : Type 0 where
    pub printed : List ℕ
    pub runs : RunsAll old invocations before new printed outcome
    pub text_is : text
        ≡ printed ++ buckets_text 0 new.quota.books ++ line (loads_data (min (loads_in new.clients.items) (2 ^ 64 - 1)))
