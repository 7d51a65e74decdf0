-- One entry, and whether a request or an outcome stands.
use Rattle.std.proofs.Common.{true, ℕ, Option, None, Some, is_some, List, ◌≡◌, ◌⊎◌, refl, sym, subst, inl, inr}
use Rattle.smithy_types.specs.declared.fault.FaultKind.TheVariants as faults
use Rattle.smithy_types.specs.declared.hook.Hook.{Hook}
use Rattle.smithy_types.specs.declared.http.HttpRequest.{HttpRequest}
use Rattle.smithy_context.specs.declared.intercept.Change.{Change}
use Rattle.smithy_context.specs.declared.intercept.Change.TheVariants as changes
use Rattle.smithy_types.specs.declared.kinds.Phase.TheVariants as phases
use Rattle.smithy_types.specs.declared.notes.Choice.TheVariants as choices
use Rattle.smithy_context.specs.Context.{restored_to}
use Rattle.run_grammar.specs.declared.kind.ConfigureStage.{ConfigureStage}
use Rattle.run_grammar.specs.declared.kind.ConfigureStage.TheVariants as stages
use Rattle.run_grammar.specs.declared.kind.Role.{Role}
use Rattle.run_grammar.specs.declared.kind.Role.TheVariants as roles
use Rattle.run_grammar.specs.declared.kind.Kind.{Kind}
use Rattle.run_grammar.specs.declared.kind.Kind.TheVariants as kinds
use Rattle.run_grammar.specs.declared.answer.Answer.{Answer}
use Rattle.run_grammar.specs.declared.answer.Answer.TheVariants as answers
use Rattle.run_grammar.specs.declared.standing.Standing.{Standing}
use Rattle.smithy_context.specs.Hooks.{writes_input, writes_request, writes_response, writes_outcome}
use Rattle.run_grammar.specs.Fits.{fits, fits_request}
use Rattle.run_grammar.specs.Change.{changed, fails_with, granted, is_unbegun, refused_text, or_fails, on_configure, on_hook, on_serialize, on_load, on_initial, on_start, on_wait, on_choose, on_endpoint, on_request, on_transmit, on_stream, on_body, on_deserialize, on_decide, rewound_to, written_by, merged_into, hook_failed, with_body, with_outcome, with_input, with_request, with_response, with_phase, serializing, loads_body}
use Rattle.run_grammar.proofs.Outcomes.{Has, either_way}

-- a request stands
abbrev pub HasRequest : Standing → Type 0
HasRequest s = is_some s.context.view.request ≡ true

abbrev pub HasEither : Standing → Type 0
HasEither s = HasRequest s ⊎ Has s

-- ---- the question that makes the request

sent_or_failed : (s : Standing) (a : Answer) → fits_request a ≡ true → HasEither (on_serialize s a)
sent_or_failed s (answers.Request r) f =
    let t = with_request (serializing s) r in
    either_way HasEither (loads_body t.context.view.settings) t (with_phase t phases.BeforeTransmit) (inl refl) (inl refl)
sent_or_failed s (answers.Failed t) f = inr refl
sent_or_failed s answers.Absent f = inr refl
sent_or_failed s _ f = absurd (cc)

-- a serialization that is answered leaves a request, or its failure
pub serialized : (n : Option ℕ) (a : Answer) (s : Standing) → fits kinds.Serialize a ≡ true → HasEither (changed kinds.Serialize n a s)
unfolding fits changed
serialized n a s f = sent_or_failed s a f

-- ---- what stands, stands on

on_or_fails : (s : Standing) (a : Answer) → HasEither s → HasEither (or_fails s a)
on_or_fails s (answers.Failed t) h = inr refl
on_or_fails s answers.Absent h = inr refl
on_or_fails s _ h = h

-- a rewind takes the outcome away only where it puts the checkpoint's request in
after_rewind : (o : Option HttpRequest) (s : Standing) → s.context.checkpoint ≡ o → HasEither s → HasEither (rewound_to o s)
after_rewind None s e h = h
after_rewind (Some r) s e h = inl (subst (λ o. is_some (restored_to o s.context).view.request ≡ true) (sym e) refl)

after_configure : (w : ConfigureStage) (s : Standing) (a : Answer) → HasEither s → HasEither (on_configure w s a)
after_configure stages.Client s (answers.Layer l) h = h
after_configure stages.Operation s (answers.Layer l) h = h
after_configure stages.Final s (answers.Layer l) h = h
after_configure w s a h = on_or_fails s a h

after_written : (h : Hook) (s : Standing) (c : Option Change) → HasEither s → HasEither (written_by h s c)
after_written h s None g = g
after_written h s (Some (changes.Input p)) g = either_way HasEither (writes_input h) (with_input s p) s g g
after_written h s (Some (changes.Request r)) g = either_way HasEither (writes_request h) (with_request s r) s (inl refl) g
after_written h s (Some (changes.Response r)) g = either_way HasEither (writes_response h) (with_response s r) s g g
after_written h s (Some (changes.Outcome o)) g = either_way HasEither (writes_outcome h) (with_outcome s o) s (inr refl) g

unless_failed : (h : Hook) (s : Standing) (t : Option (List ℕ)) → HasEither s → HasEither (hook_failed h s t)
unless_failed h s None g = g
unless_failed h s (Some t) g = inr refl

after_hook : (h : Hook) (s : Standing) (a : Answer) → HasEither s → HasEither (on_hook h s a)
after_hook h s (answers.Hooked a) g = unless_failed h (merged_into (written_by h s a.change) a.settings) a.failure (after_written h s a.change g)
after_hook h s _ g = g

after_serialize : (s : Standing) (a : Answer) → HasEither s → HasEither (on_serialize s a)
after_serialize s (answers.Request r) h = sent_or_failed s (answers.Request r) refl
after_serialize s a h = on_or_fails (serializing s) a h

with_body_stands : (o : Option HttpRequest) (b : List ℕ) → is_some o ≡ true → is_some (with_body o b) ≡ true
with_body_stands None b h = h
with_body_stands (Some r) b h = refl

after_loaded : (s : Standing) (b : List ℕ) → HasEither s → HasEither (on_load s (answers.Loaded b))
after_loaded s b (inl h) = inl (with_body_stands s.context.view.request b h)
after_loaded s b (inr h) = inr h

after_load : (s : Standing) (a : Answer) → HasEither s → HasEither (on_load s a)
after_load s (answers.Loaded b) h = after_loaded s b h
after_load s a h = on_or_fails s a h

after_initial : (s : Standing) (a : Answer) → HasEither s → HasEither (on_initial s a)
after_initial s answers.Go h = either_way HasEither (is_unbegun s) (granted s) s h h
after_initial s answers.No h = either_way HasEither (is_unbegun s) (fails_with s faults.Other refused_text) s (inr refl) h
after_initial s (answers.Delay n) h = h
after_initial s a h = on_or_fails s a h

after_start : (r : Role) (n : Option ℕ) (s : Standing) (a : Answer) → HasEither s → HasEither (on_start r n s a)
after_start roles.Operation n s answers.Started h = h
after_start roles.Attempt n s answers.Started h = h
after_start roles.Retry n s answers.Started h = after_rewind s.context.checkpoint s refl h
after_start roles.Send n s answers.Absent h = inr refl
after_start roles.Retry n s answers.Absent h = inr refl
after_start _ n s _ h = h

after_wait : (r : Role) (s : Standing) (a : Answer) → HasEither s → HasEither (on_wait r s a)
after_wait roles.Operation s answers.Ready h = inr refl
after_wait roles.Attempt s answers.Ready h = inr refl
after_wait _ s _ h = h

after_choose : (s : Standing) (a : Answer) → HasEither s → HasEither (on_choose s a)
after_choose s (answers.Chosen c) h = h
after_choose s a h = on_or_fails s a h

after_endpoint : (s : Standing) (a : Answer) → HasEither s → HasEither (on_endpoint s a)
after_endpoint s (answers.Endpoint e) h = h
after_endpoint s a h = on_or_fails s a h

after_request : (s : Standing) (a : Answer) → HasEither s → HasEither (on_request s a)
after_request s (answers.Request r) h = inl refl
after_request s a h = on_or_fails s a h

after_transmit : (s : Standing) (a : Answer) → HasEither s → HasEither (on_transmit s a)
after_transmit s answers.Pending h = h
after_transmit s (answers.Response r) h = h
after_transmit s (answers.ConnectorFailed k t) h = inr refl
after_transmit s a h = on_or_fails (with_phase s phases.Transmit) a h

after_stream : (s : Standing) (a : Answer) → HasEither s → HasEither (on_stream s a)
after_stream s (answers.Outcome o) h = inr refl
after_stream s answers.Absent h = inr refl
after_stream s _ h = h

after_body : (s : Standing) (a : Answer) → HasEither s → HasEither (on_body s a)
after_body s (answers.Read b) h = h
after_body s (answers.Failed t) h = inr refl
after_body s answers.Absent h = inr refl
after_body s _ h = h

after_deserialize : (s : Standing) (a : Answer) → HasEither s → HasEither (on_deserialize s a)
after_deserialize s (answers.Outcome o) h = inr refl
after_deserialize s answers.Absent h = inr refl
after_deserialize s _ h = h

after_decide : (s : Standing) (a : Answer) → HasEither s → HasEither (on_decide s a)
after_decide s (answers.Decided choices.Yes n) h = after_rewind s.context.checkpoint s refl h
after_decide s (answers.Decided choices.No n) h = h
after_decide s (answers.Decided (choices.NoAfter d) n) h = h
after_decide s (answers.Decided (choices.Delay d) n) h = h
after_decide s a h = on_or_fails s a h

-- after every entry, whatever its answer, a request or an outcome stands on
pub either_stands : (k : Kind) (n : Option ℕ) (a : Answer) (s : Standing) → HasEither s → HasEither (changed k n a s)
unfolding changed
either_stands (kinds.Configure w) n a s h = after_configure w s a h
either_stands (kinds.Hook x) n a s h = after_hook x s a h
either_stands kinds.Serialize n a s h = after_serialize s a h
either_stands kinds.Load n a s h = after_load s a h
either_stands kinds.Initial n a s h = after_initial s a h
either_stands (kinds.Start r) n a s h = after_start r n s a h
either_stands (kinds.Wait r) n a s h = after_wait r s a h
either_stands kinds.Choose n a s h = after_choose s a h
either_stands kinds.Endpoint n a s h = after_endpoint s a h
either_stands kinds.Apply n a s h = after_request s a h
either_stands kinds.Sign n a s h = after_request s a h
either_stands kinds.Transmit n a s h = after_transmit s a h
either_stands kinds.Stream n a s h = after_stream s a h
either_stands kinds.Body n a s h = after_body s a h
either_stands kinds.Deserialize n a s h = after_deserialize s a h
either_stands kinds.Decide n a s h = after_decide s a h
either_stands (kinds.Abandon x) n a s h = h
either_stands kinds.Park n a s h = h
