-- What the parts of a caller's client mean, over any quota.
use Rattle.std.specs.Prelude.{◌≡◌, true, List, None}
use Rattle.client_auth.specs.declared.serializer.Serialized.TheVariants as serialized
use Rattle.retry_quota_cell.specs.Caller.{Caller, caller_meaning}
use Rattle.retry_quota_cell.specs.Known.{Place}
use Rattle.cli_client_runs.specs.Means.{resolver_polls, scheme_names, scheme_signs}
use Rattle.client_scripted.specs.Service.Service.{posted, read_outcome}
use Rattle.client_components.specs.Serving.{Served}
use Rattle.client_scripted.specs.Clients.{ServiceClient, ServiceMeaning, ServiceParts}
use Rattle.rate_limit.specs.Pace.{Pace, pace_from}
use Rattle.rate_limit.specs.Steps.{after_acquire, after_update, reply_to}
use Rattle.client_retries.specs.Meanings.{InterceptorMeans, QuotaMeans}
use Rattle.retry_quota.specs.Calls.{limiters_by}
use Rattle.retry_quota.specs.declared.permit.Permit.{Permit}
use Rattle.run_grammar.specs.declared.answer.Entry.{Entry}
use Rattle.outside_scripted.specs.Makes.{Makes}
use Rattle.outside_scripted.specs.declared.scripted_outside.ScriptedOutside.{ScriptedOutside}
use Rattle.smithy_context.specs.declared.context.InterceptorContext.{InterceptorContext}
use Rattle.smithy_types.specs.declared.notes.RetryAction.{RetryAction}

-- a caller's client over a quota Q with permits P and limiters L
abbrev pub CallerWorld : (Q P L C I : Type 0) → Type 0
CallerWorld Q P L C I = ServiceClient ScriptedOutside Q C I P L

-- the parts of such a client
abbrev pub CallerParts : (Q P L C I : Type 0) → Type 0
CallerParts Q P L C I = ServiceParts ScriptedOutside Q C I P L

-- the meaning of a client, by what its quota means, what its classifiers say and what its interceptors do
abbrev pub world_means : {Q P L C I : Type 0} → QuotaMeans Q P L
    → (C → InterceptorContext → RetryAction → RetryAction) → InterceptorMeans I
    → ServiceMeaning ScriptedOutside Q C I P L
world_means quota says chain = record {
  makes = Makes;
  sleeps = λ outside. true;
  quota = quota;
  says = says;
  chain = chain;
  names = scheme_names;
  signs = scheme_signs;
  polls = resolver_polls;
  serializes = λ serializer input settings s. s ≡ serialized.Request (posted input);
  streams = λ deserializer response settings outcome. outcome ≡ None;
  deserializes = λ deserializer response settings outcome. outcome ≡ read_outcome response;
}

-- each entry is answered from the client's parts
abbrev pub ServedOver : {Q P L C I : Type 0} → ServiceMeaning ScriptedOutside Q C I P L
    → CallerWorld Q P L C I → List Entry → CallerWorld Q P L C I → Type 0
ServedOver means old log new = Served means old.parts log new.parts

-- a caller's quota over its pass on the bucket at this place
abbrev pub cell_means : Place → QuotaMeans (Caller Pace) Permit Pace
cell_means place = record {
  meaning = caller_meaning place;
  permit_bucket = λ p. p.bucket;
  permit_amount = λ p. p.amount;
  limiters = limiters_by pace_from after_acquire reply_to after_update;
}
