-- Sample runs under Retry Behavior 2.1: what each is, call by call, and what it comes to.
use Rattle.std.specs.Prelude.{ℕ, Option, None, Some, List, ◌∷◌, ◌++◌}
use Rattle.smithy_types.specs.declared.config.RetryConfig.{RetryConfig}
use Rattle.smithy_types.specs.declared.config.RetrySpec.{RetrySpec}
use Rattle.smithy_types.specs.declared.config.RetrySpecVersion.TheVariants as versions
use Rattle.smithy_types.specs.declared.fault.Fault.{Fault}
use Rattle.smithy_types.specs.declared.fault.FaultKind.TheVariants as faults
use Rattle.smithy_types.specs.declared.fault.Outcome.TheVariants as outcomes
use Rattle.smithy_types.specs.declared.kinds.StopPoint.TheVariants as stops
use Rattle.smithy_types.specs.declared.notes.Choice.TheVariants as choices
use Rattle.smithy_context.specs.declared.layer.LayerEntry.{LayerEntry}
use Rattle.smithy_context.specs.declared.setting.Setting.TheVariants as settings
use Rattle.smithy_context.specs.declared.setting.SettingKey.TheVariants as keys
use Rattle.run_grammar.specs.declared.kind.Abandonable.TheVariants as abandoned
use Rattle.run_grammar.specs.declared.kind.Kind.TheVariants as kinds
use Rattle.run_grammar.specs.declared.kind.Role.TheVariants as roles
use Rattle.run_grammar.specs.declared.answer.Answer.TheVariants as answers
use Rattle.run_grammar.specs.Change.{absent_text, operation_timeout_text}
use Rattle.run_grammar.specs.Samples.{Comes, Parts, Said, attempt_calls, config_calls, deadlines, decided, finish_calls}
use Rattle.run_grammar.specs.Samples.{front_calls, go, said}
use Rattle.run_grammar.specs.SampleRuns.{failure, in_memory, over, started, waiting}

-- a layer that sets a retry configuration whose spec is of version 2.1, and these timeouts
abbrev pub version_2_1 : RetryConfig → RetrySpec → RetryConfig
version_2_1 r x = record r { spec = Some (record x { version = versions.V2_1 }) }

-- a layer with this retry configuration under version 2.1, and with these timeouts
abbrev pub tokens : RetryConfig → RetrySpec → Option ℕ → Option ℕ → List LayerEntry
tokens r x o a = record { key = keys.Retry; value = Some (settings.Retry (version_2_1 r x)) } ∷ deadlines o a

-- a first attempt that comes to this failure, without deadlines
abbrev pub first_failed : Parts → RetryConfig → RetrySpec → List ℕ → Fault → List Said
first_failed p r x b f =
    config_calls (tokens r x None None) ++ front_calls (in_memory p.request b)
    ++ go ∷ attempt_calls p (outcomes.Failed f)

-- a further attempt that succeeds, and the end
abbrev pub then_succeeds : Parts → List Said
then_succeeds p = attempt_calls p (outcomes.Output p.output) ++ decided choices.No ∷ finish_calls

-- a further attempt after d nanoseconds asks for its token, which comes after t more
abbrev pub token_delays : Parts → RetryConfig → RetrySpec → List ℕ → Fault → ℕ → ℕ → List Said
token_delays p r x b f d t =
    first_failed p r x b f ++ decided (choices.Delay d) ∷ started roles.Retry ∷ over roles.Retry
    ∷ said kinds.Initial (answers.Delay t) ∷ started roles.Send ∷ over roles.Send ∷ go ∷ then_succeeds p

-- these are the 61 calls of a whole run, which comes to the output
abbrev pub TokenDelays : Type 0
TokenDelays =
    (p : Parts) (r : RetryConfig) (x : RetrySpec) (b : List ℕ) (f : Fault) (d t : ℕ) →
    Comes stops.None p.input (token_delays p r x b f d t) 61 (Some (outcomes.Output p.output))

-- a token that is answered No lets the attempt go on
abbrev pub token_refused : Parts → RetryConfig → RetrySpec → List ℕ → Fault → List Said
token_refused p r x b f =
    first_failed p r x b f ++ decided choices.Yes ∷ said kinds.Initial answers.No ∷ then_succeeds p

-- these are the 56 calls of a whole run, which comes to the output
abbrev pub TokenRefused : Type 0
TokenRefused =
    (p : Parts) (r : RetryConfig) (x : RetrySpec) (b : List ℕ) (f : Fault) →
    Comes stops.None p.input (token_refused p r x b f) 56 (Some (outcomes.Output p.output))

-- a token that fails ends the loop with its failure
abbrev pub token_fails : Parts → RetryConfig → RetrySpec → List ℕ → Fault → ℕ → List Said
token_fails p r x b f d =
    first_failed p r x b f ++ decided (choices.Delay d) ∷ started roles.Retry ∷ over roles.Retry
    ∷ said kinds.Initial (answers.Failed p.text) ∷ finish_calls

-- these are the 37 calls of a whole run, which comes to the token's failure
abbrev pub TokenFails : Type 0
TokenFails =
    (p : Parts) (r : RetryConfig) (x : RetrySpec) (b : List ℕ) (f : Fault) (d : ℕ) →
    Comes stops.None p.input (token_fails p r x b f d) 37 (failure faults.Other p.text)

-- a token that is delayed where there is no sleep ends the loop
abbrev pub token_unslept : Parts → RetryConfig → RetrySpec → List ℕ → Fault → ℕ → List Said
token_unslept p r x b f t =
    first_failed p r x b f ++ decided choices.Yes ∷ said kinds.Initial (answers.Delay t)
    ∷ said (kinds.Start roles.Send) answers.Absent ∷ finish_calls

-- these are the 36 calls of a whole run, which comes to the failure of an absent part
abbrev pub TokenUnslept : Type 0
TokenUnslept =
    (p : Parts) (r : RetryConfig) (x : RetrySpec) (b : List ℕ) (f : Fault) (t : ℕ) →
    Comes stops.None p.input (token_unslept p r x b f t) 36 (failure faults.Other absent_text)

-- a refused further attempt is followed by a pause of n nanoseconds, and the first one's failure stays
abbrev pub refusal_pauses : Parts → RetryConfig → RetrySpec → List ℕ → Fault → ℕ → List Said
refusal_pauses p r x b f n =
    first_failed p r x b f ++ decided (choices.NoAfter n) ∷ started roles.LongPoll ∷ waiting roles.LongPoll
    ∷ said kinds.Park answers.Parked ∷ over roles.LongPoll ∷ finish_calls

-- these are the 38 calls of a whole run, which comes to the first attempt's failure
abbrev pub RefusalPauses : Type 0
RefusalPauses =
    (p : Parts) (r : RetryConfig) (x : RetrySpec) (b : List ℕ) (f : Fault) (n : ℕ) →
    Comes stops.None p.input (refusal_pauses p r x b f n) 38 (Some (outcomes.Failed f))

-- where there is no sleep there is no pause
abbrev pub refusal_unslept : Parts → RetryConfig → RetrySpec → List ℕ → Fault → ℕ → List Said
refusal_unslept p r x b f n =
    first_failed p r x b f ++ decided (choices.NoAfter n) ∷ said (kinds.Start roles.LongPoll) answers.Absent
    ∷ finish_calls

-- these are the 35 calls of a whole run, which comes to the first attempt's failure
abbrev pub RefusalUnslept : Type 0
RefusalUnslept =
    (p : Parts) (r : RetryConfig) (x : RetrySpec) (b : List ℕ) (f : Fault) (n : ℕ) →
    Comes stops.None p.input (refusal_unslept p r x b f n) 35 (Some (outcomes.Failed f))

-- the operation's deadline of n nanoseconds cuts the wait of a token, where the attempt's is not asked:
-- the finalizers alone follow
abbrev pub token_cut : Parts → RetryConfig → RetrySpec → List ℕ → Fault → ℕ → ℕ → ℕ → List Said
token_cut p r x b f n m t =
    config_calls (tokens r x (Some n) (Some m)) ++ started roles.Operation ∷ front_calls (in_memory p.request b)
    ++ go ∷ started roles.Attempt ∷ attempt_calls p (outcomes.Failed f)
    ++ decided choices.Yes ∷ said kinds.Initial (answers.Delay t) ∷ started roles.Send ∷ waiting roles.Send
    ∷ over roles.Operation ∷ said (kinds.Abandon abandoned.WaitSend) answers.Abandoned ∷ finish_calls

-- these are the 41 calls of a whole run, which comes to the operation's timeout
abbrev pub TokenCut : Type 0
TokenCut =
    (p : Parts) (r : RetryConfig) (x : RetrySpec) (b : List ℕ) (f : Fault) (n m t : ℕ) →
    Comes stops.None p.input (token_cut p r x b f n m t) 41 (failure faults.Timeout (operation_timeout_text n))

-- the same of the pause after a refused attempt
abbrev pub pause_cut : Parts → RetryConfig → RetrySpec → List ℕ → Fault → ℕ → ℕ → ℕ → List Said
pause_cut p r x b f n m d =
    config_calls (tokens r x (Some n) (Some m)) ++ started roles.Operation ∷ front_calls (in_memory p.request b)
    ++ go ∷ started roles.Attempt ∷ attempt_calls p (outcomes.Failed f)
    ++ decided (choices.NoAfter d) ∷ started roles.LongPoll ∷ waiting roles.LongPoll ∷ over roles.Operation
    ∷ said (kinds.Abandon abandoned.WaitLongPoll) answers.Abandoned ∷ finish_calls

-- these are the 40 calls of a whole run, which comes to the operation's timeout
abbrev pub PauseCut : Type 0
PauseCut =
    (p : Parts) (r : RetryConfig) (x : RetrySpec) (b : List ℕ) (f : Fault) (n m d : ℕ) →
    Comes stops.None p.input (pause_cut p r x b f n m d) 40 (failure faults.Timeout (operation_timeout_text n))
