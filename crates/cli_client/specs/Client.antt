-- What `client` says of its input.
use Rattle.std.specs.Prelude.{ℕ, ℤ, ◌≤◌, ◌<◌, List}
use Rattle.cli_client_runs.specs.declared.set.ClientSet.{ClientSet}
use Rattle.json_scripts.specs.Client.Limits.{client_script_fits}
use Rattle.json_scripts.specs.Client.Placed.{IsPlaced}
use Rattle.json_scripts.specs.Client.Script.{IsClientScript}
use Rattle.json_scripts.specs.declared.client.script.ClientScript.{ClientScript}
use Rattle.client_scripted.specs.declared.service.error.ServiceError.{ServiceError}
use Rattle.client_builder.specs.declared.own_interceptor.OwnInterceptor.{OwnInterceptor}
use Rattle.retry_policy.specs.declared.classify.Classifier.{Classifier}
use Rattle.run_grammar.specs.declared.answer.Entry.{Entry}
use Rattle.client_scripted.specs.Clients.{ServiceWorld}
use Rattle.smithy_base.specs.declared.intercept.Slot.{Slot}
use Rattle.cli_shell.specs.Said.{Said, prints, refuses}
use Rattle.cli_shell.specs.Scripts.{ScriptMeaning, bytes_say}
use Rattle.cli_shell.specs.declared.status.PrintStatus.{PrintStatus}
use Rattle.cli_shell.specs.declared.status.Refusal.TheVariants as refusals
use Rattle.json_scripts.specs.Workload.Made.{made_script}
use Rattle.cli_client.specs.Means.{NoClassifier, NoInterceptor, none, own_ranked, OwnServed}
use Rattle.cli_client.specs.Opening.{IsOpened}
use Rattle.cli_client.specs.Report.{Reports}
use Rattle.cli_client.specs.declared.report.Report.{Report}
use Rattle.cli_client.specs.declared.report.Report.TheVariants as reports

module _ {V W : Type 0} {v : V → Type 0} {w : W → Type 0} (ranked : Classifier ServiceError V v → ℤ)
    (relates : ServiceWorld (Classifier ServiceError V v) (Slot OwnInterceptor W w) → List Entry
    → ServiceWorld (Classifier ServiceError V v) (Slot OwnInterceptor W w) → Type 0) where
  -- the clients are built, and the invocations are made one after another,
  -- each over the outside and the quota that the one before it left; this is told of them
  pub record PlaysScript (report : Report) (script : ClientScript) (text : List ℕ)
      (outcome : PrintStatus) : Type 0 where
    pub first : ClientSet (Classifier ServiceError V v) (Slot OwnInterceptor W w)
    pub opened : IsOpened ranked script.buckets script.start script.words script.clients first
    pub last : ClientSet (Classifier ServiceError V v) (Slot OwnInterceptor W w)
    pub reports : Reports relates report first script.invocations last text outcome

-- what is told of a script's invocations, and what it comes to
abbrev pub IsToldOf : Report → ClientScript → List ℕ → PrintStatus → Type 0
IsToldOf report script text outcome =
    PlaysScript {V = NoClassifier} {W = NoInterceptor} {v = none} {w = none} own_ranked OwnServed
    report script text outcome

-- the print of a script's invocations with the buckets' sums and the number of loads, and what the last one came to
abbrev pub IsClientRun : ClientScript → List ℕ → PrintStatus → Type 0
IsClientRun script text outcome = IsToldOf reports.Print script text outcome

-- the counts of the script that is made of so many invocations and a seed
abbrev pub IsMade : ℕ → ℕ → List ℕ → PrintStatus → Type 0
IsMade count seed text outcome = IsToldOf (reports.Counts count seed) (made_script count seed) text outcome

-- what the scripts of `client` are, and what is printed of each
abbrev pub client_means : ScriptMeaning ClientScript
client_means = record {
  is_script = IsClientScript;
  is_sound = IsPlaced;
  fits = client_script_fits;
  is_print = IsClientRun;
}

-- The bytes are a script, of which this is its print or which is past its limits; or they are none.
abbrev pub client_says : List ℕ → Said → Type 0
client_says = bytes_say client_means

-- at most a thousand invocations are made
abbrev pub make_says : ℕ → ℕ → Said → Type 0
make_says count seed (prints outcome text) = (count ≤ 1000) × IsMade count seed text outcome
make_says count seed (refuses refusals.TooLarge) = 1000 < count
make_says count seed (refuses refusals.BadScript) = ⊥
make_says count seed (refuses refusals.NotBuilt) = ⊥
