-- The invocations of a caller's client, one after another.
use Rattle.std.specs.Prelude.{◌≡◌, ℕ, List, [], ◌∷◌, ◌++◌, map, Option, None, Some}
use Rattle.cli_client_runs.specs.Invoking.{begun, head_by}
use Rattle.cli_client_runs.specs.Print.{invocation_text}
use Rattle.cli_client_runs.specs.Running.{Ran, invocations_text}
use Rattle.json_scripts.specs.declared.client.terms.InvocationRecord.{InvocationRecord}
use Rattle.client_components.specs.Resting as resting
use Rattle.client_scripted.specs.Clients.{ServiceMeaning}
use Rattle.client_components.specs.Serving.{Served}
use Rattle.run_grammar.specs.declared.answer.Entry.{Entry}
use Rattle.json_print.specs.Endings.{Ends}
use Rattle.json_print.specs.declared.ending.Ending.{Ending}
use Rattle.outside_scripted.specs.Makes.{Makes}
use Rattle.outside_scripted.specs.declared.records.IdentityRecord.{IdentityRecord}
use Rattle.outside_scripted.specs.declared.scripted_outside.ScriptedOutside.{ScriptedOutside}
use Rattle.cli_shell.specs.declared.status.PrintStatus.{PrintStatus}
use Rattle.smithy_types.specs.Chain.{Chained}
use Rattle.json_print.specs.World.Outcome.{came_to}
use Rattle.cli_fleet.specs.Means.{CallerParts}

-- what the last invocation came to, if there is one
abbrev pub last_of : Option PrintStatus → List Ran → Option PrintStatus
last_of before [] = before
last_of before (r ∷ rs) = last_of (Some (came_to r.ending)) rs

module _ {Q P L C I : Type 0} (means : ServiceMeaning ScriptedOutside Q C I P L)
    (identities : List IdentityRecord) where
  -- The outside gets the invocation's responses, the operation is run over the client to this ending,
  -- each entry is answered from the client's parts, and what is open is ended.
  pub record InvokedOver (old : CallerParts Q P L C I) (i : InvocationRecord) (log : List Entry) (ending : Ending)
      (new : CallerParts Q P L C I) : Type 0 where
    pub served : CallerParts Q P L C I
    pub serves : Served means (record old { outside = begun i.responses identities old.outside }) log served
    pub rests : resting.Ends Makes served new
    pub ends : Ends (head_by i) [] log ending

  -- the same of an invocation that was made, as one step of a list
  abbrev pub Runs : CallerParts Q P L C I → Ran → CallerParts Q P L C I → Type 0
  Runs old r new = InvokedOver old r.invocation r.log r.ending new

  -- One is made, and printed with this number behind what was there.
  pub record RunsOne (number : ℕ) (old : CallerParts Q P L C I) (invocation : InvocationRecord) (before : List ℕ)
      (new : CallerParts Q P L C I) (text : List ℕ) (outcome : PrintStatus) : Type 0 where
    pub log : List Entry
    pub ending : Ending
    pub made : InvokedOver old invocation log ending new
    pub printed : text ≡ before ++ invocation_text number invocation.client log ending
    pub came : outcome ≡ came_to ending

  -- All are made in their order, and printed behind what was there. The last one tells what it came to.
  pub record RunsAll (old : CallerParts Q P L C I) (invocations : List InvocationRecord) (before : List ℕ)
      (new : CallerParts Q P L C I) (text : List ℕ) (outcome : Option PrintStatus) : Type 0 where
    pub runs : List Ran
    pub made : Chained Runs old runs new
    pub these : map (λ (r : Ran). r.invocation) runs ≡ invocations
    pub printed : text ≡ before ++ invocations_text 0 runs
    pub came : outcome ≡ last_of None runs
