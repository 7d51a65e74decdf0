-- Which notes, answers of hooks, answers and kinds JSON spells.
use Rattle.std.specs.Prelude.{ℕ, ◌^◌, List, [], Option, Some, None, ◌||◌, codes, if◌then◌else◌}
use Rattle.serde_json.specs.Data.{Data}
use Rattle.serde_json.specs.Find.{as_str}
use Rattle.smithy_context.specs.declared.intercept.HookAnswer.{HookAnswer}
use Rattle.smithy_types.specs.declared.notes.Choice.{Choice}
use Rattle.smithy_types.specs.declared.notes.Choice.TheVariants as choices
use Rattle.smithy_types.specs.declared.notes.ChooseNote.{ChooseNote}
use Rattle.smithy_types.specs.declared.notes.ChooseNote.TheVariants as choose_notes
use Rattle.smithy_types.specs.declared.notes.DecideNote.{DecideNote}
use Rattle.smithy_types.specs.declared.notes.Reason.{Reason}
use Rattle.smithy_types.specs.declared.notes.Reason.TheVariants as reasons
use Rattle.smithy_types.specs.declared.notes.RetryAction.{RetryAction}
use Rattle.smithy_types.specs.declared.notes.RetryAction.TheVariants as actions
use Rattle.smithy_types.specs.declared.sums.Sums.{Sums}
use Rattle.run_grammar.specs.declared.answer.Answer.{Answer}
use Rattle.run_grammar.specs.declared.answer.Answer.TheVariants as answers
use Rattle.run_grammar.specs.declared.answer.Chosen.{Chosen}
use Rattle.run_grammar.specs.declared.kind.Kind.{Kind}
use Rattle.run_grammar.specs.declared.kind.Kind.TheVariants as kinds
use Rattle.json_forms.specs.Forms.{says, starts, word_at, tagged_at, named, optional_at, blob_at}
use Rattle.json_values.specs.Names.{kind_text, all_kinds}
use Rattle.json_forms.specs.Plain.{number_at, number_below, triple_at, quadruple_at, quintuple_at, sextuple_at}
use Rattle.json_forms.specs.Reading.{◌>>=◌}
use Rattle.json_values.specs.Readings.{error_kind_at, connector_at, request_at, response_at, identity_at, endpoint_at}
use Rattle.json_values.specs.Readings.{outcome_at, change_at}
use Rattle.json_values.specs.SettingReadings.{layer_at}
use Rattle.json_values.specs.Values.{does_nothing}

-- ---- notes

-- where an identity came from
unfoldable pub choose_note_at : Data → Option ChooseNote
choose_note_at d = if says (codes "Hit") d then Some choose_notes.Hit
    else (if says (codes "Load") d then Some choose_notes.Load
    else (word_at (codes "Uncached") d >>= λ _. Some choose_notes.Uncached))

-- whether a further attempt is made, and the pause that goes with it
unfoldable pub choice_at : Data → Option Choice
choice_at d = if says (codes "Yes") d then Some choices.Yes
    else (if says (codes "No") d then Some choices.No
    else (if starts (codes "NoAfter") d
    then (tagged_at (codes "NoAfter") d >>= number_at >>= λ n. Some (choices.NoAfter n))
    else (tagged_at (codes "Delay") d >>= number_at >>= λ n. Some (choices.Delay n))))

-- a retry would help: the kind of the error, and how long the service asks to wait or null
unfoldable pub indicated_at : Data → Option RetryAction
indicated_at d = triple_at d >>= λ p. word_at (codes "RetryIndicated") p.0 >>= λ _. error_kind_at p.1 >>= λ k.
    optional_at number_at p.2 >>= λ a. Some (actions.RetryIndicated k a)

-- what a retry classifier says
unfoldable pub action_at : Data → Option RetryAction
action_at d = if says (codes "NoActionIndicated") d then Some actions.NoActionIndicated
    else (if says (codes "RetryForbidden") d then Some actions.RetryForbidden else indicated_at d)

-- why a retry strategy chose so, with the tokens that it is about
unfoldable pub reason_at : Data → Option Reason
reason_at d = if says (codes "NotIndicated") d then Some reasons.NotIndicated
    else (if says (codes "OutOfAttempts") d then Some reasons.OutOfAttempts
    else (if starts (codes "NoQuota") d
    then (tagged_at (codes "NoQuota") d >>= number_below (2 ^ 32) >>= λ n. Some (reasons.NoQuota n))
    else (tagged_at (codes "Granted") d >>= number_below (2 ^ 32) >>= λ n. Some (reasons.Granted n))))

-- the five sums of a token bucket
unfoldable pub sums_at : Data → Option Sums
sums_at d = quintuple_at d >>= λ p. number_at p.0 >>= λ c. number_at p.1 >>= λ g. number_at p.2 >>= λ a.
    number_at p.3 >>= λ h. number_at p.4 >>= λ f.
    Some (record { capacity = c; granted = g; available = a; held = h; forgotten = f })

-- what a decision was made from
unfoldable pub note_at : Data → Option DecideNote
note_at d = quintuple_at d >>= λ p. action_at p.0 >>= λ v. optional_at number_at p.1 >>= λ m. number_at p.2 >>= λ w.
    reason_at p.3 >>= λ r. optional_at sums_at p.4 >>= λ s.
    Some (record { verdict = v; moment = m; word = w; reason = r; sums = s })

-- ---- answers of hooks

-- the answer that does nothing is written `Done`
abbrev pub unless_done : HookAnswer → Option HookAnswer
unless_done a = if does_nothing a then None else Some a

-- what a hook did, where it did something
unfoldable pub hooked_at : Data → Option HookAnswer
hooked_at d = quadruple_at d >>= λ p. word_at (codes "Hook") p.0 >>= λ _. optional_at change_at p.1 >>= λ c.
    layer_at p.2 >>= λ l. optional_at as_str p.3 >>= λ t. unless_done (record { change = c; settings = l; failure = t })

-- the answer of a hook that did nothing
abbrev pub done : HookAnswer
done = record { change = None; settings = []; failure = None }

-- what a hook did, or one word where it did nothing
unfoldable pub hook_answer_at : Data → Option HookAnswer
hook_answer_at d = if says (codes "Done") d then Some done else hooked_at d

-- ---- answers

-- the world has no such part
unfoldable pub absent_at : Data → Option Answer
absent_at d = word_at (codes "Absent") d >>= λ _. Some answers.Absent

-- absent, or failed with a text
unfoldable pub absence_at : Data → Option Answer
absence_at d =
    if starts (codes "Failed") d then (tagged_at (codes "Failed") d >>= as_str >>= λ t. Some (answers.Failed t))
    else absent_at d

-- the same, or pending
unfoldable pub waiting_at : Data → Option Answer
waiting_at d = if says (codes "Pending") d then Some answers.Pending else absence_at d

-- a layer of settings, or that it is absent or failed
unfoldable pub configured_at : Data → Option Answer
configured_at d =
    if starts (codes "Layer") d then (tagged_at (codes "Layer") d >>= layer_at >>= λ l. Some (answers.Layer l))
    else absence_at d

-- a request, or that it is absent or failed
unfoldable pub requested_at : Data → Option Answer
requested_at d =
    if starts (codes "Request") d then (tagged_at (codes "Request") d >>= request_at >>= λ r. Some (answers.Request r))
    else absence_at d

-- a body in memory, or that it is pending, absent or failed
unfoldable pub loaded_at : Data → Option Answer
loaded_at d =
    if starts (codes "Loaded") d then (tagged_at (codes "Loaded") d >>= blob_at >>= λ b. Some (answers.Loaded b))
    else waiting_at d

-- whether the attempt is made, or asked for again after a delay, or that this is absent or failed
unfoldable pub initial_at : Data → Option Answer
initial_at d = if says (codes "Go") d then Some answers.Go
    else (if says (codes "No") d then Some answers.No
    else (if starts (codes "Delay") d then (tagged_at (codes "Delay") d >>= number_at >>= λ n. Some (answers.Delay n))
    else absence_at d))

-- a sleep was started, or there is no part that sleeps
unfoldable pub started_at : Data → Option Answer
started_at d = if says (codes "Started") d then Some answers.Started else absent_at d

-- whether a sleep is over
unfoldable pub waited_at : Data → Option Answer
waited_at d = if says (codes "Pending") d then Some answers.Pending
    else (word_at (codes "Ready") d >>= λ _. Some answers.Ready)

-- the scheme and the identity of a choice, with what goes with them
unfoldable pub chosen_at : Data → Option Chosen
chosen_at d = sextuple_at d >>= λ p. word_at (codes "Chosen") p.0 >>= λ _. as_str p.1 >>= λ s. identity_at p.2 >>= λ i.
    optional_at endpoint_at p.3 >>= λ e. layer_at p.4 >>= λ l. optional_at choose_note_at p.5 >>= λ n.
    Some (record { scheme = s; identity = i; endpoint = e; settings = l; note = n })

-- a choice, or that it is pending, absent or failed
unfoldable pub choosing_at : Data → Option Answer
choosing_at d = if starts (codes "Chosen") d then (chosen_at d >>= λ c. Some (answers.Chosen c)) else waiting_at d

-- an endpoint, or that it is pending, absent or failed
unfoldable pub resolved_at : Data → Option Answer
resolved_at d = if starts (codes "Endpoint") d
    then (tagged_at (codes "Endpoint") d >>= endpoint_at >>= λ e. Some (answers.Endpoint e))
    else waiting_at d

-- no response came, for this reason of the connector
unfoldable pub connector_failed_at : Data → Option Answer
connector_failed_at d = triple_at d >>= λ p. word_at (codes "Failed") p.0 >>= λ _. connector_at p.1 >>= λ k.
    as_str p.2 >>= λ t. Some (answers.ConnectorFailed k t)

-- a response, or that it is pending, absent or failed by the connector
unfoldable pub transmitted_at : Data → Option Answer
transmitted_at d = if says (codes "Pending") d then Some answers.Pending
    else (if starts (codes "Response") d
    then (tagged_at (codes "Response") d >>= response_at >>= λ r. Some (answers.Response r))
    else (if starts (codes "Failed") d then connector_failed_at d else absent_at d))

-- the output or the error that a response is, or that it is absent
unfoldable pub outcome_answer_at : Data → Option Answer
outcome_answer_at d =
    if starts (codes "Outcome") d then (tagged_at (codes "Outcome") d >>= outcome_at >>= λ o. Some (answers.Outcome o))
    else absent_at d

-- the outcome of a streaming operation's response, or that the operation doesn't stream
unfoldable pub streamed_at : Data → Option Answer
streamed_at d = if says (codes "NotStreaming") d then Some answers.NotStreaming else outcome_answer_at d

-- the whole body of a response, or that it is pending, absent or failed
unfoldable pub body_read_at : Data → Option Answer
body_read_at d = if starts (codes "Read") d then (tagged_at (codes "Read") d >>= blob_at >>= λ b. Some (answers.Read b))
    else waiting_at d

-- a decision with what it was made from
unfoldable pub noted_at : Data → Option Answer
noted_at d = triple_at d >>= λ p. word_at (codes "Noted") p.0 >>= λ _. choice_at p.1 >>= λ c. note_at p.2 >>= λ n.
    Some (answers.Decided c (Some n))

-- a decision alone
unfoldable pub plainly_decided_at : Data → Option Answer
plainly_decided_at d = choice_at d >>= λ c. Some (answers.Decided c None)

-- whether a further attempt is made, or that the decision is absent or failed
unfoldable pub decided_at : Data → Option Answer
decided_at d = if starts (codes "Noted") d then noted_at d
    else (if starts (codes "Failed") d || says (codes "Absent") d then absence_at d else plainly_decided_at d)

-- this answer, for this word
abbrev pub said_at : List ℕ → Answer → Data → Option Answer
said_at word a d = word_at word d >>= λ _. Some a

-- the answer to a question of this kind
unfoldable pub answer_at : Kind → Data → Option Answer
answer_at (kinds.Configure stage) d = configured_at d
answer_at (kinds.Hook hook) d = hook_answer_at d >>= λ a. Some (answers.Hooked a)
answer_at kinds.Serialize d = requested_at d
answer_at kinds.Load d = loaded_at d
answer_at kinds.Initial d = initial_at d
answer_at (kinds.Start role) d = started_at d
answer_at (kinds.Wait role) d = waited_at d
answer_at kinds.Choose d = choosing_at d
answer_at kinds.Endpoint d = resolved_at d
answer_at kinds.Apply d = requested_at d
answer_at kinds.Sign d = requested_at d
answer_at kinds.Transmit d = transmitted_at d
answer_at kinds.Stream d = streamed_at d
answer_at kinds.Body d = body_read_at d
answer_at kinds.Deserialize d = outcome_answer_at d
answer_at kinds.Decide d = decided_at d
answer_at (kinds.Abandon what) d = said_at (codes "Abandoned") answers.Abandoned d
answer_at kinds.Park d = said_at (codes "Parked") answers.Parked d

-- the kind that prints so
unfoldable pub kind_at : Data → Option Kind
kind_at d = as_str d >>= named kind_text all_kinds
