-- The parts that stand, and how an entry changes which of them do.
use Rattle.std.proofs.Common.{Bool, true, false, cond, ℕ, Option, None, Some, is_some, List, ◌≡◌, refl, sym, ap, ◌∙◌, subst}
use Rattle.smithy_types.specs.declared.fault.FaultKind.TheVariants as faults
use Rattle.smithy_types.specs.declared.hook.Hook.{Hook}
use Rattle.smithy_types.specs.declared.http.HttpRequest.{HttpRequest}
use Rattle.smithy_types.specs.declared.http.HttpResponse.{HttpResponse}
use Rattle.smithy_types.specs.declared.identity.Endpoint.{Endpoint as StandingEndpoint}
use Rattle.smithy_types.specs.declared.identity.Identity.{Identity as StandingIdentity}
use Rattle.smithy_types.specs.declared.kinds.Phase.TheVariants as phases
use Rattle.smithy_types.specs.declared.notes.Choice.TheVariants as choices
use Rattle.smithy_types.specs.declared.payload.Payload.{Payload}
use Rattle.smithy_context.specs.Context.{restored_to}
use Rattle.smithy_context.specs.Hooks.{writes_input, writes_request, writes_response, writes_outcome}
use Rattle.smithy_context.specs.declared.intercept.Change.{Change}
use Rattle.smithy_context.specs.declared.intercept.Change.TheVariants as changes
use Rattle.run_grammar.specs.declared.kind.ConfigureStage.{ConfigureStage}
use Rattle.run_grammar.specs.declared.kind.ConfigureStage.TheVariants as stages
use Rattle.run_grammar.specs.declared.kind.Role.{Role}
use Rattle.run_grammar.specs.declared.kind.Role.TheVariants as roles
use Rattle.run_grammar.specs.declared.kind.Kind.{Kind}
use Rattle.run_grammar.specs.declared.kind.Kind.TheVariants as kinds
use Rattle.run_grammar.specs.declared.answer.Answer.{Answer}
use Rattle.run_grammar.specs.declared.answer.Answer.TheVariants as answers
use Rattle.run_grammar.specs.declared.answer.Chosen.{Chosen}
use Rattle.run_grammar.specs.declared.answer.Entry.{Entry}
use Rattle.run_grammar.specs.declared.production.Test.{Test}
use Rattle.run_grammar.specs.declared.production.Test.TheVariants as tests
use Rattle.run_grammar.specs.declared.standing.Standing.{Standing}
use Rattle.run_grammar.specs.Change.{absent, changed, chosen_by, fails_with, granted, is_unbegun, refused_text, or_fails, on_configure, on_hook, on_serialize, on_load, on_initial, on_start, on_wait, on_choose, on_endpoint, on_request, on_transmit, on_stream, on_body, on_deserialize, on_decide, rewound_to, written_by, merged_into, hook_failed, with_body, with_response_body, with_outcome, with_input, with_request, with_response, with_phase, serializing, loads_body}
use Rattle.run_grammar.specs.Entry.{can_wait, fails, is_pending, kind_of, pending, sets_failure}
use Rattle.run_grammar.specs.Fits.{fits, fits_choose, fits_endpoint, fits_request, fits_transmit}
use Rattle.run_grammar.specs.Question.{nanos_of}
use Rattle.run_grammar.specs.Standing.{State, step}
use Rattle.run_grammar.specs.Tests.{endpoint_stands, failed, holds}
use Rattle.run_grammar.proofs.Outcomes.{either_way}
use Rattle.laws_client.proofs.questions.Levels.{Fact}

pub data Part : Type 0 where
  Input : Part
  Request : Part
  Response : Part
  Scheme : Part
  Identity : Part
  Endpoint : Part

abbrev pub has : Part → Standing → Bool
has Input s = is_some s.context.view.input
has Request s = is_some s.context.view.request
has Response s = is_some s.context.view.response
has Scheme s = is_some s.scheme
has Identity s = is_some s.identity
has Endpoint s = is_some s.endpoint

abbrev pub Has : Part → Standing → Type 0
Has x s = has x s ≡ true

-- ---- which kinds need a part, may take it away, and bring it

abbrev is_input : Part → Bool
is_input Input = true
is_input _ = false

abbrev is_request : Part → Bool
is_request Request = true
is_request _ = false

abbrev is_response : Part → Bool
is_response Response = true
is_response _ = false

abbrev is_endpoint : Part → Bool
is_endpoint Endpoint = true
is_endpoint _ = false

-- what a choice brings
abbrev is_chosen : Part → Bool
is_chosen Scheme = true
is_chosen Identity = true
is_chosen _ = false

-- what a rewind takes away
abbrev is_rewound : Part → Bool
is_rewound Input = false
is_rewound Request = false
is_rewound _ = true

abbrev is_applied : Part → Bool
is_applied Request = true
is_applied Endpoint = true
is_applied _ = false

abbrev is_signed : Part → Bool
is_signed Input = false
is_signed Response = false
is_signed _ = true

abbrev pub needs : Part → Kind → Bool
needs x kinds.Serialize = is_input x
needs x kinds.Load = is_request x
needs x kinds.Apply = is_applied x
needs x kinds.Sign = is_signed x
needs x kinds.Transmit = is_request x
needs x kinds.Stream = is_response x
needs x kinds.Body = is_response x
needs x kinds.Deserialize = is_response x
needs x _ = false

abbrev pub drops : Part → Kind → Bool
drops x kinds.Serialize = is_input x
drops x kinds.Choose = is_endpoint x
drops x (kinds.Start roles.Retry) = is_rewound x
drops x kinds.Decide = is_rewound x
drops x _ = false

abbrev pub brings : Part → Kind → Bool
brings x kinds.Serialize = is_request x
brings x kinds.Choose = is_chosen x
brings x kinds.Endpoint = is_endpoint x
brings x kinds.Transmit = is_response x
brings x _ = false

abbrev pub tells : Part → Test → Bool
tells Endpoint tests.EndpointStands = true
tells _ _ = false

-- ---- what stands, stands on

record SixParts : Type 0 where
  input : Option Payload
  request : Option HttpRequest
  response : Option HttpResponse
  scheme : Option (List ℕ)
  identity : Option StandingIdentity
  endpoint : Option StandingEndpoint

abbrev parts : Standing → SixParts
parts s = record {
  input = s.context.view.input;
  request = s.context.view.request;
  response = s.context.view.response;
  scheme = s.scheme;
  identity = s.identity;
  endpoint = s.endpoint;
}

-- a change of none of the parts
same : (x : Part) (s t : Standing) → parts t ≡ parts s → Has x s → Has x t
same Input s t e h = ap (λ c. is_some c.input) e ∙ h
same Request s t e h = ap (λ c. is_some c.request) e ∙ h
same Response s t e h = ap (λ c. is_some c.response) e ∙ h
same Scheme s t e h = ap (λ c. is_some c.scheme) e ∙ h
same Identity s t e h = ap (λ c. is_some c.identity) e ∙ h
same Endpoint s t e h = ap (λ c. is_some c.endpoint) e ∙ h

by_failing : (x : Part) (s : Standing) (a : Answer) → Has x s → Has x (or_fails s a)
by_failing x s (answers.Failed t) h = same x s (fails_with s faults.Other t) refl h
by_failing x s answers.Absent h = same x s (absent s) refl h
by_failing x s _ h = h

by_rewind : (x : Part) → is_rewound x ≡ false → (o : Option HttpRequest) (s : Standing) → s.context.checkpoint ≡ o → Has x s → Has x (rewound_to o s)
by_rewind x l None s e h = h
by_rewind Input l (Some r) s e h = subst (λ o. is_some (restored_to o s.context).view.input ≡ true) (sym e) h
by_rewind Request l (Some r) s e h = subst (λ o. is_some (restored_to o s.context).view.request ≡ true) (sym e) refl
by_rewind _ l (Some r) s e h = absurd (cc)

by_configure : (x : Part) (w : ConfigureStage) (s : Standing) (a : Answer) → Has x s → Has x (on_configure w s a)
by_configure x stages.Client s (answers.Layer l) h = same x s (on_configure stages.Client s (answers.Layer l)) refl h
by_configure x stages.Operation s (answers.Layer l) h = same x s (on_configure stages.Operation s (answers.Layer l)) refl h
by_configure x stages.Final s (answers.Layer l) h = same x s (on_configure stages.Final s (answers.Layer l)) refl h
by_configure x w s a h = by_failing x s a h

put_input : (x : Part) (s : Standing) (p : Payload) → Has x s → Has x (with_input s p)
put_input Input s p h = refl
put_input _ s p h = h

put_request : (x : Part) (s : Standing) (r : HttpRequest) → Has x s → Has x (with_request s r)
put_request Request s r h = refl
put_request _ s r h = h

put_response : (x : Part) (s : Standing) (r : HttpResponse) → Has x s → Has x (with_response s r)
put_response Response s r h = refl
put_response _ s r h = h

by_written : (x : Part) (h : Hook) (s : Standing) (c : Option Change) → Has x s → Has x (written_by h s c)
by_written x h s None g = g
by_written x h s (Some (changes.Input p)) g = either_way (Has x) (writes_input h) (with_input s p) s (put_input x s p g) g
by_written x h s (Some (changes.Request r)) g = either_way (Has x) (writes_request h) (with_request s r) s (put_request x s r g) g
by_written x h s (Some (changes.Response r)) g = either_way (Has x) (writes_response h) (with_response s r) s (put_response x s r g) g
by_written x h s (Some (changes.Outcome o)) g = either_way (Has x) (writes_outcome h) (with_outcome s o) s (same x s (with_outcome s o) refl g) g

by_text : (x : Part) (h : Hook) (s : Standing) (t : Option (List ℕ)) → Has x s → Has x (hook_failed h s t)
by_text x h s None g = g
by_text x h s (Some t) g = same x s (hook_failed h s (Some t)) refl g

by_hook : (x : Part) (h : Hook) (s : Standing) (a : Answer) → Has x s → Has x (on_hook h s a)
by_hook x h s (answers.Hooked a) g =
    let t = written_by h s a.change in
    by_text x h (merged_into t a.settings) a.failure (same x t (merged_into t a.settings) refl (by_written x h s a.change g))
by_hook x h s _ g = g

by_serializing : (x : Part) (s : Standing) → is_input x ≡ false → Has x s → Has x (serializing s)
by_serializing Input s d h = absurd (cc)
by_serializing _ s d h = h

made_request : (x : Part) (s : Standing) (r : HttpRequest) → Has x (with_request (serializing s) r) → Has x (on_serialize s (answers.Request r))
made_request x s r h =
    let t = with_request (serializing s) r in
    either_way (Has x) (loads_body t.context.view.settings) t (with_phase t phases.BeforeTransmit) h (same x t (with_phase t phases.BeforeTransmit) refl h)

by_serialize : (x : Part) (s : Standing) (a : Answer) → is_input x ≡ false → Has x s → Has x (on_serialize s a)
by_serialize x s (answers.Request r) d h = made_request x s r (put_request x (serializing s) r (by_serializing x s d h))
by_serialize x s a d h = by_failing x (serializing s) a (by_serializing x s d h)

some_body : (o : Option HttpRequest) (b : List ℕ) → is_some o ≡ true → is_some (with_body o b) ≡ true
some_body None b h = h
some_body (Some r) b h = refl

loaded : (x : Part) (s : Standing) (b : List ℕ) → Has x s → Has x (on_load s (answers.Loaded b))
loaded Request s b h = some_body s.context.view.request b h
loaded _ s b h = h

by_load : (x : Part) (s : Standing) (a : Answer) → Has x s → Has x (on_load s a)
by_load x s (answers.Loaded b) h = loaded x s b h
by_load x s a h = by_failing x s a h

by_initial : (x : Part) (s : Standing) (a : Answer) → Has x s → Has x (on_initial s a)
by_initial x s answers.Go h = either_way (Has x) (is_unbegun s) (granted s) s (same x s (granted s) refl h) h
by_initial x s answers.No h =
    either_way (Has x) (is_unbegun s) (fails_with s faults.Other refused_text) s (same x s (fails_with s faults.Other refused_text) refl h) h
by_initial x s (answers.Delay n) h = same x s (on_initial s (answers.Delay n)) refl h
by_initial x s a h = by_failing x s a h

by_start : (x : Part) (r : Role) (n : Option ℕ) (s : Standing) (a : Answer) → drops x (kinds.Start r) ≡ false → Has x s → Has x (on_start r n s a)
by_start x roles.Operation n s answers.Started d h = same x s (on_start roles.Operation n s answers.Started) refl h
by_start x roles.Attempt n s answers.Started d h = same x s (on_start roles.Attempt n s answers.Started) refl h
by_start x roles.Retry n s answers.Started d h = by_rewind x d s.context.checkpoint s refl h
by_start x roles.Send n s answers.Absent d h = same x s (absent s) refl h
by_start x roles.Retry n s answers.Absent d h = same x s (absent s) refl h
by_start x _ n s _ d h = h

by_wait : (x : Part) (r : Role) (s : Standing) (a : Answer) → Has x s → Has x (on_wait r s a)
by_wait x roles.Operation s answers.Ready h = same x s (on_wait roles.Operation s answers.Ready) refl h
by_wait x roles.Attempt s answers.Ready h = same x s (on_wait roles.Attempt s answers.Ready) refl h
by_wait x _ s _ h = h

chosen : (x : Part) (s : Standing) (c : Chosen) → is_endpoint x ≡ false → Has x s → Has x (chosen_by s c)
chosen Endpoint s c d h = absurd (cc)
chosen Scheme s c d h = refl
chosen Identity s c d h = refl
chosen _ s c d h = h

by_choose : (x : Part) (s : Standing) (a : Answer) → is_endpoint x ≡ false → Has x s → Has x (on_choose s a)
by_choose x s (answers.Chosen c) d h = chosen x s c d h
by_choose x s a d h = by_failing x s a h

put_endpoint : (x : Part) (s : Standing) (a : Answer) → Has x s → Has x (on_endpoint s a)
put_endpoint Endpoint s (answers.Endpoint e) h = refl
put_endpoint Input s (answers.Endpoint e) h = h
put_endpoint Request s (answers.Endpoint e) h = h
put_endpoint Response s (answers.Endpoint e) h = h
put_endpoint Scheme s (answers.Endpoint e) h = h
put_endpoint Identity s (answers.Endpoint e) h = h
put_endpoint x s a h = by_failing x s a h

by_request : (x : Part) (s : Standing) (a : Answer) → Has x s → Has x (on_request s a)
by_request x s (answers.Request r) h = put_request x s r h
by_request x s a h = by_failing x s a h

by_transmit : (x : Part) (s : Standing) (a : Answer) → Has x s → Has x (on_transmit s a)
by_transmit x s answers.Pending h = h
by_transmit x s (answers.Response r) h = same x (with_response s r) (on_transmit s (answers.Response r)) refl (put_response x s r h)
by_transmit x s (answers.ConnectorFailed k t) h = same x s (on_transmit s (answers.ConnectorFailed k t)) refl h
by_transmit x s a h = by_failing x (with_phase s phases.Transmit) a (same x s (with_phase s phases.Transmit) refl h)

by_stream : (x : Part) (s : Standing) (a : Answer) → Has x s → Has x (on_stream s a)
by_stream x s (answers.Outcome o) h = same x s (on_stream s (answers.Outcome o)) refl h
by_stream x s answers.Absent h = same x s (on_stream s answers.Absent) refl h
by_stream x s _ h = same x s (with_phase s phases.Deserialization) refl h

some_response : (o : Option HttpResponse) (b : List ℕ) → is_some o ≡ true → is_some (with_response_body o b) ≡ true
some_response None b h = h
some_response (Some r) b h = refl

read : (x : Part) (s : Standing) (b : List ℕ) → Has x s → Has x (on_body s (answers.Read b))
read Response s b h = some_response s.context.view.response b h
read _ s b h = h

by_body : (x : Part) (s : Standing) (a : Answer) → Has x s → Has x (on_body s a)
by_body x s (answers.Read b) h = read x s b h
by_body x s (answers.Failed t) h = same x s (on_body s (answers.Failed t)) refl h
by_body x s answers.Absent h = same x s (on_body s answers.Absent) refl h
by_body x s _ h = h

by_deserialize : (x : Part) (s : Standing) (a : Answer) → Has x s → Has x (on_deserialize s a)
by_deserialize x s (answers.Outcome o) h = same x s (on_deserialize s (answers.Outcome o)) refl h
by_deserialize x s answers.Absent h = same x s (on_deserialize s answers.Absent) refl h
by_deserialize x s _ h = h

by_decide : (x : Part) (s : Standing) (a : Answer) → is_rewound x ≡ false → Has x s → Has x (on_decide s a)
by_decide x s (answers.Decided choices.Yes n) d h = by_rewind x d s.context.checkpoint s refl h
by_decide x s (answers.Decided choices.No n) d h = h
by_decide x s (answers.Decided (choices.NoAfter m) n) d h = same x s (on_decide s (answers.Decided (choices.NoAfter m) n)) refl h
by_decide x s (answers.Decided (choices.Delay m) n) d h = same x s (on_decide s (answers.Decided (choices.Delay m) n)) refl h
by_decide x s a d h = by_failing x s a h

part_kept : (x : Part) (k : Kind) (n : Option ℕ) (a : Answer) (s : Standing) → drops x k ≡ false → Has x s → Has x (changed k n a s)
unfolding changed
part_kept x (kinds.Configure w) n a s d h = by_configure x w s a h
part_kept x (kinds.Hook y) n a s d h = by_hook x y s a h
part_kept x kinds.Serialize n a s d h = by_serialize x s a d h
part_kept x kinds.Load n a s d h = by_load x s a h
part_kept x kinds.Initial n a s d h = by_initial x s a h
part_kept x (kinds.Start r) n a s d h = by_start x r n s a d h
part_kept x (kinds.Wait r) n a s d h = by_wait x r s a h
part_kept x kinds.Choose n a s d h = by_choose x s a d h
part_kept x kinds.Endpoint n a s d h = put_endpoint x s a h
part_kept x kinds.Apply n a s d h = by_request x s a h
part_kept x kinds.Sign n a s d h = by_request x s a h
part_kept x kinds.Transmit n a s d h = by_transmit x s a h
part_kept x kinds.Stream n a s d h = by_stream x s a h
part_kept x kinds.Body n a s d h = by_body x s a h
part_kept x kinds.Deserialize n a s d h = by_deserialize x s a h
part_kept x kinds.Decide n a s d h = by_decide x s a d h
part_kept x (kinds.Abandon y) n a s d h = h
part_kept x kinds.Park n a s d h = h

-- ---- what an answer brings

serialized : (x : Part) (m : ℕ) (s : Standing) (a : Answer) → is_request x ≡ true → fits_request a ≡ true → sets_failure kinds.Serialize m a ≡ false → Has x (on_serialize s a)
serialized Request m s (answers.Request r) b f h = made_request Request s r refl
serialized _ m s (answers.Request r) b f h = absurd (cc)
serialized x m s (answers.Failed t) b f h = absurd (cc)
serialized x m s answers.Absent b f h = absurd (cc)
serialized x m s _ b f h = absurd (cc)

chosen_stands : (x : Part) (m : ℕ) (s : Standing) (a : Answer) → is_chosen x ≡ true → is_pending a ≡ false → fits_choose a ≡ true → sets_failure kinds.Choose m a ≡ false → Has x (on_choose s a)
chosen_stands Scheme m s (answers.Chosen c) b p f h = refl
chosen_stands Identity m s (answers.Chosen c) b p f h = refl
chosen_stands _ m s (answers.Chosen c) b p f h = absurd (cc)
chosen_stands x m s answers.Pending b p f h = absurd (cc)
chosen_stands x m s (answers.Failed t) b p f h = absurd (cc)
chosen_stands x m s answers.Absent b p f h = absurd (cc)
chosen_stands x m s _ b p f h = absurd (cc)

resolved : (x : Part) (m : ℕ) (s : Standing) (a : Answer) → is_endpoint x ≡ true → is_pending a ≡ false → fits_endpoint a ≡ true → sets_failure kinds.Endpoint m a ≡ false → Has x (on_endpoint s a)
resolved Endpoint m s (answers.Endpoint e) b p f h = refl
resolved _ m s (answers.Endpoint e) b p f h = absurd (cc)
resolved x m s answers.Pending b p f h = absurd (cc)
resolved x m s (answers.Failed t) b p f h = absurd (cc)
resolved x m s answers.Absent b p f h = absurd (cc)
resolved x m s _ b p f h = absurd (cc)

transmitted : (x : Part) (m : ℕ) (s : Standing) (a : Answer) → is_response x ≡ true → is_pending a ≡ false → fits_transmit a ≡ true → sets_failure kinds.Transmit m a ≡ false → Has x (on_transmit s a)
transmitted Response m s (answers.Response r) b p f h = refl
transmitted _ m s (answers.Response r) b p f h = absurd (cc)
transmitted x m s answers.Pending b p f h = absurd (cc)
transmitted x m s (answers.ConnectorFailed k t) b p f h = absurd (cc)
transmitted x m s answers.Absent b p f h = absurd (cc)
transmitted x m s _ b p f h = absurd (cc)

-- a question of the kind was answered otherwise than Pending
abbrev IsDone : Kind → Answer → Type 0
IsDone k a = cond (can_wait k) (is_pending a) false ≡ false

part_brought : (x : Part) (k : Kind) (n : Option ℕ) (m : ℕ) (a : Answer) (s : Standing) → brings x k ≡ true → IsDone k a → fits k a ≡ true → sets_failure k m a ≡ false → Has x (changed k n a s)
unfolding changed fits
part_brought x kinds.Serialize n m a s b p f h = serialized x m s a b f h
part_brought x kinds.Choose n m a s b p f h = chosen_stands x m s a b p f h
part_brought x kinds.Endpoint n m a s b p f h = resolved x m s a b p f h
part_brought x kinds.Transmit n m a s b p f h = transmitted x m s a b p f h
part_brought x _ n m a s b p f h = absurd (cc)

-- ---- the facts

pub kept_by_entry : (x : Part) (s : State) (e : Entry) → drops x (kind_of e) ≡ false → Has x s.context → Has x (step s e).context
unfolding step
kept_by_entry x s e d h = part_kept x (kind_of e) (nanos_of e.question) e.answer s.context d h

pub brought_by_entry : (x : Part) (s : State) (e : Entry) → brings x (kind_of e) ≡ true → pending e ≡ false → fits (kind_of e) e.answer ≡ true → failed (step s e) ≡ false → Has x (step s e).context
unfolding step failed fails pending
brought_by_entry x s e b p f h = part_brought x (kind_of e) (nanos_of e.question) (step s e).context.context.view.attempt e.answer s.context b p f h

pub told_by_test : (x : Part) (t : Test) (s : State) → tells x t ≡ true → holds t s ≡ true → Has x s.context
unfolding endpoint_stands
told_by_test Endpoint tests.EndpointStands s b h = h
told_by_test _ _ s b h = absurd (cc)

abbrev pub fact : Part → Fact
fact x = record {
  stands = λ s. Has x s.context;
  needs = needs x;
  drops = drops x;
  brings = brings x;
  tells = tells x;
  needs_aside = record { waits = λ d. refl; parks = refl; gives_up = λ y. refl };
  drops_aside = record { waits = λ d. refl; parks = refl; gives_up = λ y. refl };
  kept = kept_by_entry x;
  brought = brought_by_entry x;
  told = told_by_test x;
}
