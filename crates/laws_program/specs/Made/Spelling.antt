-- What stands in JSON for a script of clients that sign nothing: arrays in order, the members of an object by their
-- names.
use Rattle.std.specs.Prelude.{ℕ, List, [], ◌∷◌, map, codes}
use Rattle.serde_json.specs.Data.{Data, boolean, string, object, no_members, member}
use Rattle.serde_json.specs.Written.{compact_text}
use Rattle.outside_scripted.specs.declared.records.Frame.{Frame}
use Rattle.outside_scripted.specs.declared.records.RecordAnswer.{RecordAnswer}
use Rattle.outside_scripted.specs.declared.records.RecordAnswer.TheVariants as given
use Rattle.outside_scripted.specs.declared.records.ResponseRecord.{ResponseRecord}
use Rattle.json_forms.specs.Prints.{row, num, null_or, blob_data}
use Rattle.json_values.specs.Names.{stop_text}
use Rattle.json_values.specs.Values.{payload_data, headers_data, connector_data}
use Rattle.json_values.specs.SettingForms.{timeouts_data, retry_data, stall_data}
use Rattle.json_scripts.specs.declared.client.script.ClientScript.{ClientScript}
use Rattle.retry_quota.specs.declared.state.BucketTerms.{BucketTerms}
use Rattle.json_scripts.specs.declared.client.terms.ClassifierChoice.{ClassifierChoice}
use Rattle.json_scripts.specs.declared.client.terms.ClassifierChoice.TheVariants as classifiers
use Rattle.json_scripts.specs.declared.client.terms.ClientObject.{ClientObject}
use Rattle.json_scripts.specs.declared.client.terms.InvocationRecord.{InvocationRecord}
use Rattle.json_scripts.specs.declared.client.terms.RetryChoice.{RetryChoice}
use Rattle.json_scripts.specs.declared.client.terms.RetryChoice.TheVariants as retries
use Rattle.json_scripts.specs.Workload.Made.{made_script}

-- ---- buckets and clients

-- a capacity, the costs of a retry, of throttling and of a transient error, a reward and a rate
unfoldable pub bucket_data : BucketTerms → Data
bucket_data b = row (
    num b.capacity ∷ num b.retry_cost ∷ num b.throttling_retry_cost ∷ num b.timeout_retry_cost ∷ num b.success_reward
    ∷ num b.refill_rate ∷ [])

-- never, or what the standard strategy goes by
abbrev pub retry_choice_data : RetryChoice → Data
retry_choice_data retries.Never = string (codes "never")
retry_choice_data (retries.Standard r) = retry_data r

-- the modeled one, that of transient errors, or one of these statuses
abbrev pub classifier_data : ClassifierChoice → Data
classifier_data classifiers.Modeled = string (codes "modeled")
classifier_data classifiers.Transient = string (codes "transient")
classifier_data (classifiers.Status cs) = row (string (codes "status") ∷ row (map num cs) ∷ [])

-- a client that signs nothing
unfoldable pub client_data : ClientObject → Data
client_data c = object (
    member (codes "auth") (string (codes "none")) (
    member (codes "bucket") (null_or num (c.rules).bucket) (
    member (codes "classifiers") (row (map classifier_data c.classifiers)) (
    member (codes "enforce") (boolean (c.rules).flags.enforce) (
    member (codes "operation") (string (c.target).operation) (
    member (codes "poisoning") (boolean (c.rules).flags.poisoning) (
    member (codes "prefix") (null_or string (c.target).prefix) (
    member (codes "retry") (retry_choice_data (c.rules).retry) (
    member (codes "service") (string (c.target).service) (
    member (codes "sleep") (boolean (c.rules).flags.sleep) (
    member (codes "stall") (null_or stall_data (c.rules).stall) (
    member (codes "time") (boolean (c.rules).flags.time) (
    member (codes "timeouts") (timeouts_data (c.rules).timeouts) (
    member (codes "url") (string (c.target).url) (
    member (codes "v2") (boolean (c.rules).flags.v2) no_members)))))))))))))))

-- ---- invocations

-- a delay and bytes
unfoldable pub frame_data : Frame → Data
frame_data f = row (num f.delay ∷ blob_data f.bytes ∷ [])

-- a delay and a failure, or a delay, a status, headers, frames, whether they begin again, and a moment or null
abbrev pub record_answer_data : ℕ → RecordAnswer → Data
record_answer_data delay (given.Failed k t) =
    row (num delay ∷ row (string (codes "Failed") ∷ connector_data k ∷ string t ∷ []) ∷ [])
record_answer_data delay (given.Response r) = row (
    num delay ∷ num r.status ∷ headers_data r.headers ∷ row (map frame_data r.frames) ∷ boolean r.repeat ∷
    null_or num r.clock ∷ [])

-- one answer of the connector, with its delay
unfoldable pub record_data : ResponseRecord → Data
record_data r = record_answer_data r.delay r.answer

-- a client's number, fuel, an input, the connector's answers and where the run stops
unfoldable pub invocation_data : InvocationRecord → Data
invocation_data i = object (
    member (codes "client") (num i.client) (
    member (codes "fuel") (num i.fuel) (
    member (codes "input") (payload_data i.input) (
    member (codes "responses") (row (map record_data i.responses)) (
    member (codes "stop") (string (stop_text i.stop)) no_members)))))

-- ---- scripts

-- buckets, clients, their invocations, the moment of the start and words
unfoldable pub script_data : ClientScript → Data
script_data s = object (
    member (codes "buckets") (row (map bucket_data s.buckets)) (
    member (codes "clients") (row (map client_data s.clients)) (
    member (codes "invocations") (row (map invocation_data s.invocations)) (
    member (codes "start") (num s.start) (
    member (codes "words") (row (map num s.words)) no_members)))))

-- the text of a made script, with no space
abbrev pub made_text : ℕ → ℕ → List ℕ
made_text count seed = compact_text (script_data (made_script count seed))
