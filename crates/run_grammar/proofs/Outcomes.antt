-- One entry, and whether an outcome stands.
use Rattle.std.proofs.Common.{Bool, true, false, cond, ℕ, nat_eq, Option, None, Some, is_some, List, ◌≡◌, ◌⊎◌, refl, ap, ◌∙◌, subst, inl, inr}
use Rattle.smithy_context.specs.declared.context.InterceptorContext.{InterceptorContext}
use Rattle.smithy_types.specs.declared.fault.FaultKind.TheVariants as faults
use Rattle.smithy_types.specs.declared.hook.Hook.{Hook}
use Rattle.smithy_types.specs.declared.http.HttpRequest.{HttpRequest}
use Rattle.smithy_context.specs.declared.intercept.Change.{Change}
use Rattle.smithy_context.specs.declared.intercept.Change.TheVariants as changes
use Rattle.smithy_context.specs.declared.layer.LayerEntry.{LayerEntry}
use Rattle.smithy_types.specs.declared.notes.Choice.TheVariants as choices
use Rattle.smithy_types.specs.declared.kinds.Phase.TheVariants as phases
use Rattle.smithy_context.specs.Context.{restored_to}
use Rattle.run_grammar.specs.declared.kind.ConfigureStage.{ConfigureStage}
use Rattle.run_grammar.specs.declared.kind.ConfigureStage.TheVariants as stages
use Rattle.run_grammar.specs.declared.kind.Role.{Role}
use Rattle.run_grammar.specs.declared.kind.Role.TheVariants as roles
use Rattle.run_grammar.specs.declared.kind.Kind.{Kind}
use Rattle.run_grammar.specs.declared.kind.Kind.TheVariants as kinds
use Rattle.run_grammar.specs.declared.answer.Answer.{Answer}
use Rattle.run_grammar.specs.declared.answer.Answer.TheVariants as answers
use Rattle.run_grammar.specs.declared.standing.Standing.{Standing}
use Rattle.smithy_context.specs.Hooks.{writes_input, writes_request, writes_response, writes_outcome}
use Rattle.run_grammar.specs.Entry.{sets_failure, writes_failure, is_failed, is_pending, is_ready}
use Rattle.run_grammar.specs.Tests.{answers_delay, answers_go, answers_go_or_no, answers_started, answers_not_streaming, answers_read, answers_decided_yes}
use Rattle.run_grammar.specs.Fits.{fits, fits_configure, fits_hook, fits_request, fits_load, fits_initial, fits_start, fits_wait, fits_choose, fits_endpoint, fits_transmit, fits_stream, fits_body, fits_deserialize, fits_decide, fits_abandon, fits_park}
use Rattle.run_grammar.specs.Change.{changed, fails_with, granted, is_unbegun, refused_text, on_configure, on_hook, on_serialize, on_load, on_initial, on_start, on_wait, on_choose, on_endpoint, on_request, on_transmit, on_stream, on_body, on_deserialize, on_decide, rewound_to, written_by, merged_into, hook_failed, with_outcome, with_input, with_request, with_response, with_phase, serializing, loads_body}

-- an output or a failure stands
abbrev pub Has : Standing → Type 0
Has s = is_some s.context.view.outcome ≡ true

abbrev pub is_deadline : Role → Bool
is_deadline roles.Operation = true
is_deadline roles.Attempt = true
is_deadline _ = false

-- the kinds that never go back to the checkpoint
abbrev pub is_calm : Kind → Bool
is_calm kinds.Decide = false
is_calm (kinds.Start roles.Retry) = false
is_calm _ = true

pub either_way : (P : Standing → Type 0) (b : Bool) (s t : Standing) → P s → P t → P (cond b s t)
either_way P true s t h g = h
either_way P false s t h g = g

-- ---- what fails leaves a failure

failed_configure : (m : ℕ) → (w : ConfigureStage) (s : Standing) (a : Answer) → fits_configure a ≡ true → sets_failure (kinds.Configure w) m a ≡ true → Has (on_configure w s a)
failed_configure m w s (answers.Layer l) f h = absurd (cc)
failed_configure m w s (answers.Failed t) f h = refl
failed_configure m w s answers.Absent f h = refl
failed_configure m w s _ f h = absurd (cc)

written_failure : (b x : Bool) (s t : Standing) (l : List LayerEntry) → Has t → cond b x false ≡ true → Has (merged_into (cond b t s) l)
written_failure true x s t l g h = g
written_failure false x s t l g h = absurd (cc)

no_failure : (b : Bool) → cond b false false ≡ true → ⊥
no_failure true h = cc
no_failure false h = cc

failed_by : (h : Hook) (s : Standing) (c : Option Change) (l : List LayerEntry) (t : Option (List ℕ)) → cond (is_some t) true (cond (writes_outcome h) (writes_failure c) false) ≡ true →
    Has (hook_failed h (merged_into (written_by h s c) l) t)
failed_by h s c l (Some t) g = refl
failed_by h s None l None g = absurd (no_failure (writes_outcome h) g)
failed_by h s (Some (changes.Input p)) l None g = absurd (no_failure (writes_outcome h) g)
failed_by h s (Some (changes.Request r)) l None g = absurd (no_failure (writes_outcome h) g)
failed_by h s (Some (changes.Response r)) l None g = absurd (no_failure (writes_outcome h) g)
failed_by h s (Some (changes.Outcome o)) l None g = written_failure (writes_outcome h) (is_failed o) s (with_outcome s o) l refl g

failed_hook : (m : ℕ) → (h : Hook) (s : Standing) (a : Answer) → fits_hook a ≡ true → sets_failure (kinds.Hook h) m a ≡ true → Has (on_hook h s a)
failed_hook m h s (answers.Hooked a) f g = failed_by h s a.change a.settings a.failure g
failed_hook m h s _ f g = absurd (cc)

failed_serialize : (m : ℕ) → (s : Standing) (a : Answer) → fits_request a ≡ true → sets_failure kinds.Serialize m a ≡ true → Has (on_serialize s a)
failed_serialize m s (answers.Request r) f h = absurd (cc)
failed_serialize m s (answers.Failed t) f h = refl
failed_serialize m s answers.Absent f h = refl
failed_serialize m s _ f h = absurd (cc)

failed_load : (m : ℕ) → (s : Standing) (a : Answer) → fits_load a ≡ true → sets_failure kinds.Load m a ≡ true → Has (on_load s a)
failed_load m s (answers.Loaded b) f h = absurd (cc)
failed_load m s answers.Pending f h = absurd (cc)
failed_load m s (answers.Failed t) f h = refl
failed_load m s answers.Absent f h = refl
failed_load m s _ f h = absurd (cc)

refused : (s : Standing) (b : Bool) → b ≡ true → Has (cond b (fails_with s faults.Other refused_text) s)
refused s true h = refl
refused s false h = absurd (cc)

kept_number : (s : Standing) (b : Bool) → (cond b (fails_with s faults.Other refused_text) s).context.view.attempt ≡ s.context.view.attempt
kept_number s true = refl
kept_number s false = refl

-- No fails where no attempt was made, and leaves the number as it is
failed_initial : (s : Standing) (a : Answer) → fits_initial a ≡ true → sets_failure kinds.Initial (on_initial s a).context.view.attempt a ≡ true → Has (on_initial s a)
failed_initial s answers.Go f h = absurd (cc)
failed_initial s (answers.Delay n) f h = absurd (cc)
failed_initial s answers.No f h = refused s (is_unbegun s) (subst (λ n. nat_eq n 0 ≡ true) (kept_number s (is_unbegun s)) h)
failed_initial s (answers.Failed t) f h = refl
failed_initial s answers.Absent f h = refl
failed_initial s _ f h = absurd (cc)

failed_start : (m : ℕ) → (r : Role) (n : Option ℕ) (s : Standing) (a : Answer) → fits_start a ≡ true → sets_failure (kinds.Start r) m a ≡ true → Has (on_start r n s a)
failed_start m r n s answers.Started f h = absurd (cc)
failed_start m roles.Operation n s answers.Absent f h = absurd (cc)
failed_start m roles.Attempt n s answers.Absent f h = absurd (cc)
failed_start m roles.Send n s answers.Absent f h = refl
failed_start m roles.Retry n s answers.Absent f h = refl
failed_start m roles.LongPoll n s answers.Absent f h = absurd (cc)
failed_start m r n s _ f h = absurd (cc)

failed_wait : (m : ℕ) → (r : Role) (s : Standing) (a : Answer) → fits_wait a ≡ true → sets_failure (kinds.Wait r) m a ≡ true → Has (on_wait r s a)
failed_wait m r s answers.Pending f h = absurd (cc)
failed_wait m roles.Operation s answers.Ready f h = refl
failed_wait m roles.Attempt s answers.Ready f h = refl
failed_wait m roles.Send s answers.Ready f h = absurd (cc)
failed_wait m roles.Retry s answers.Ready f h = absurd (cc)
failed_wait m roles.LongPoll s answers.Ready f h = absurd (cc)
failed_wait m r s _ f h = absurd (cc)

failed_choose : (m : ℕ) → (s : Standing) (a : Answer) → fits_choose a ≡ true → sets_failure kinds.Choose m a ≡ true → Has (on_choose s a)
failed_choose m s answers.Pending f h = absurd (cc)
failed_choose m s (answers.Chosen c) f h = absurd (cc)
failed_choose m s (answers.Failed t) f h = refl
failed_choose m s answers.Absent f h = refl
failed_choose m s _ f h = absurd (cc)

failed_endpoint : (m : ℕ) → (s : Standing) (a : Answer) → fits_endpoint a ≡ true → sets_failure kinds.Endpoint m a ≡ true → Has (on_endpoint s a)
failed_endpoint m s answers.Pending f h = absurd (cc)
failed_endpoint m s (answers.Endpoint c) f h = absurd (cc)
failed_endpoint m s (answers.Failed t) f h = refl
failed_endpoint m s answers.Absent f h = refl
failed_endpoint m s _ f h = absurd (cc)

failed_apply : (m : ℕ) → (s : Standing) (a : Answer) → fits_request a ≡ true → sets_failure kinds.Apply m a ≡ true → Has (on_request s a)
failed_apply m s (answers.Request r) f h = absurd (cc)
failed_apply m s (answers.Failed t) f h = refl
failed_apply m s answers.Absent f h = refl
failed_apply m s _ f h = absurd (cc)

failed_sign : (m : ℕ) → (s : Standing) (a : Answer) → fits_request a ≡ true → sets_failure kinds.Sign m a ≡ true → Has (on_request s a)
failed_sign m s (answers.Request r) f h = absurd (cc)
failed_sign m s (answers.Failed t) f h = refl
failed_sign m s answers.Absent f h = refl
failed_sign m s _ f h = absurd (cc)

failed_transmit : (m : ℕ) → (s : Standing) (a : Answer) → fits_transmit a ≡ true → sets_failure kinds.Transmit m a ≡ true → Has (on_transmit s a)
failed_transmit m s answers.Pending f h = absurd (cc)
failed_transmit m s (answers.Response r) f h = absurd (cc)
failed_transmit m s (answers.ConnectorFailed k t) f h = refl
failed_transmit m s answers.Absent f h = refl
failed_transmit m s _ f h = absurd (cc)

failed_stream : (m : ℕ) → (s : Standing) (a : Answer) → fits_stream a ≡ true → sets_failure kinds.Stream m a ≡ true → Has (on_stream s a)
failed_stream m s answers.NotStreaming f h = absurd (cc)
failed_stream m s (answers.Outcome o) f h = refl
failed_stream m s answers.Absent f h = refl
failed_stream m s _ f h = absurd (cc)

failed_body : (m : ℕ) → (s : Standing) (a : Answer) → fits_body a ≡ true → sets_failure kinds.Body m a ≡ true → Has (on_body s a)
failed_body m s answers.Pending f h = absurd (cc)
failed_body m s (answers.Read b) f h = absurd (cc)
failed_body m s (answers.Failed t) f h = refl
failed_body m s answers.Absent f h = refl
failed_body m s _ f h = absurd (cc)

failed_decide : (m : ℕ) → (s : Standing) (a : Answer) → fits_decide a ≡ true → sets_failure kinds.Decide m a ≡ true → Has (on_decide s a)
failed_decide m s (answers.Decided c n) f h = absurd (cc)
failed_decide m s (answers.Failed t) f h = refl
failed_decide m s answers.Absent f h = refl
failed_decide m s _ f h = absurd (cc)

-- a response that is deserialized leaves its outcome
pub deserialized : (s : Standing) (a : Answer) → fits_deserialize a ≡ true → Has (on_deserialize s a)
deserialized s (answers.Outcome o) f = refl
deserialized s answers.Absent f = refl
deserialized s _ f = absurd (cc)

never_abandoned : (m : ℕ) (a : Answer) → fits_abandon a ≡ true → (k : Kind) → sets_failure k m a ≡ true → ⊥
never_abandoned m answers.Abandoned f k h = cc
never_abandoned m _ f k h = cc

never_parked : (m : ℕ) (a : Answer) → fits_park a ≡ true → (k : Kind) → sets_failure k m a ≡ true → ⊥
never_parked m answers.Parked f k h = cc
never_parked m _ f k h = cc

-- an entry that fails leaves a failure
pub failed_stands : (k : Kind) (n : Option ℕ) (a : Answer) (s : Standing) → fits k a ≡ true → sets_failure k (changed k n a s).context.view.attempt a ≡ true → Has (changed k n a s)
unfolding fits changed
failed_stands (kinds.Configure w) n a s f h = failed_configure (on_configure w s a).context.view.attempt w s a f h
failed_stands (kinds.Hook x) n a s f h = failed_hook (on_hook x s a).context.view.attempt x s a f h
failed_stands kinds.Serialize n a s f h = failed_serialize (on_serialize s a).context.view.attempt s a f h
failed_stands kinds.Load n a s f h = failed_load (on_load s a).context.view.attempt s a f h
failed_stands kinds.Initial n a s f h = failed_initial s a f h
failed_stands (kinds.Start r) n a s f h = failed_start (on_start r n s a).context.view.attempt r n s a f h
failed_stands (kinds.Wait r) n a s f h = failed_wait (on_wait r s a).context.view.attempt r s a f h
failed_stands kinds.Choose n a s f h = failed_choose (on_choose s a).context.view.attempt s a f h
failed_stands kinds.Endpoint n a s f h = failed_endpoint (on_endpoint s a).context.view.attempt s a f h
failed_stands kinds.Apply n a s f h = failed_apply (on_request s a).context.view.attempt s a f h
failed_stands kinds.Sign n a s f h = failed_sign (on_request s a).context.view.attempt s a f h
failed_stands kinds.Transmit n a s f h = failed_transmit (on_transmit s a).context.view.attempt s a f h
failed_stands kinds.Stream n a s f h = failed_stream (on_stream s a).context.view.attempt s a f h
failed_stands kinds.Body n a s f h = failed_body (on_body s a).context.view.attempt s a f h
failed_stands kinds.Deserialize n a s f h = deserialized s a f
failed_stands kinds.Decide n a s f h = failed_decide (on_decide s a).context.view.attempt s a f h
failed_stands (kinds.Abandon x) n a s f h = absurd (never_abandoned s.context.view.attempt a f (kinds.Abandon x) h)
failed_stands kinds.Park n a s f h = absurd (never_parked s.context.view.attempt a f kinds.Park h)

-- ---- what stands, stands on

kept_configure : (w : ConfigureStage) (s : Standing) (a : Answer) → fits_configure a ≡ true → Has s → Has (on_configure w s a)
kept_configure stages.Client s (answers.Layer l) f h = h
kept_configure stages.Operation s (answers.Layer l) f h = h
kept_configure stages.Final s (answers.Layer l) f h = h
kept_configure w s (answers.Failed t) f h = refl
kept_configure w s answers.Absent f h = refl
kept_configure w s _ f h = absurd (cc)

kept_written : (h : Hook) (s : Standing) (c : Option Change) → Has s → Has (written_by h s c)
kept_written h s None g = g
kept_written h s (Some (changes.Input p)) g = either_way Has (writes_input h) (with_input s p) s g g
kept_written h s (Some (changes.Request r)) g = either_way Has (writes_request h) (with_request s r) s g g
kept_written h s (Some (changes.Response r)) g = either_way Has (writes_response h) (with_response s r) s g g
kept_written h s (Some (changes.Outcome o)) g = either_way Has (writes_outcome h) (with_outcome s o) s refl g

kept_unfailed : (h : Hook) (s : Standing) (t : Option (List ℕ)) → Has s → Has (hook_failed h s t)
kept_unfailed h s None g = g
kept_unfailed h s (Some t) g = refl

kept_hook : (h : Hook) (s : Standing) (a : Answer) → fits_hook a ≡ true → Has s → Has (on_hook h s a)
kept_hook h s (answers.Hooked a) f g = kept_unfailed h (merged_into (written_by h s a.change) a.settings) a.failure (kept_written h s a.change g)
kept_hook h s _ f g = absurd (cc)

kept_serialize : (s : Standing) (a : Answer) → fits_request a ≡ true → Has s → Has (on_serialize s a)
kept_serialize s (answers.Request r) f h =
    let t = with_request (serializing s) r in
    either_way Has (loads_body t.context.view.settings) t (with_phase t phases.BeforeTransmit) h h
kept_serialize s (answers.Failed t) f h = refl
kept_serialize s answers.Absent f h = refl
kept_serialize s _ f h = absurd (cc)

kept_load : (s : Standing) (a : Answer) → fits_load a ≡ true → Has s → Has (on_load s a)
kept_load s (answers.Loaded b) f h = h
kept_load s answers.Pending f h = h
kept_load s (answers.Failed t) f h = refl
kept_load s answers.Absent f h = refl
kept_load s _ f h = absurd (cc)

kept_initial : (s : Standing) (a : Answer) → fits_initial a ≡ true → Has s → Has (on_initial s a)
kept_initial s answers.Go f h = either_way Has (is_unbegun s) (granted s) s h h
kept_initial s (answers.Delay n) f h = h
kept_initial s answers.No f h = either_way Has (is_unbegun s) (fails_with s faults.Other refused_text) s refl h
kept_initial s (answers.Failed t) f h = refl
kept_initial s answers.Absent f h = refl
kept_initial s _ f h = absurd (cc)

kept_start : (r : Role) (n : Option ℕ) (s : Standing) (a : Answer) → is_calm (kinds.Start r) ≡ true → fits_start a ≡ true → Has s → Has (on_start r n s a)
kept_start roles.Operation n s answers.Started c f h = h
kept_start roles.Attempt n s answers.Started c f h = h
kept_start roles.Send n s answers.Started c f h = h
kept_start roles.Retry n s answers.Started c f h = absurd (cc)
kept_start roles.LongPoll n s answers.Started c f h = h
kept_start roles.Operation n s answers.Absent c f h = h
kept_start roles.Attempt n s answers.Absent c f h = h
kept_start roles.Send n s answers.Absent c f h = refl
kept_start roles.Retry n s answers.Absent c f h = refl
kept_start roles.LongPoll n s answers.Absent c f h = h
kept_start r n s _ c f h = absurd (cc)

kept_wait : (r : Role) (s : Standing) (a : Answer) → fits_wait a ≡ true → Has s → Has (on_wait r s a)
kept_wait roles.Operation s answers.Pending f h = h
kept_wait roles.Attempt s answers.Pending f h = h
kept_wait roles.Send s answers.Pending f h = h
kept_wait roles.Retry s answers.Pending f h = h
kept_wait roles.LongPoll s answers.Pending f h = h
kept_wait roles.Operation s answers.Ready f h = refl
kept_wait roles.Attempt s answers.Ready f h = refl
kept_wait roles.Send s answers.Ready f h = h
kept_wait roles.Retry s answers.Ready f h = h
kept_wait roles.LongPoll s answers.Ready f h = h
kept_wait r s _ f h = absurd (cc)

kept_choose : (s : Standing) (a : Answer) → fits_choose a ≡ true → Has s → Has (on_choose s a)
kept_choose s answers.Pending f h = h
kept_choose s (answers.Chosen c) f h = h
kept_choose s (answers.Failed t) f h = refl
kept_choose s answers.Absent f h = refl
kept_choose s _ f h = absurd (cc)

kept_endpoint : (s : Standing) (a : Answer) → fits_endpoint a ≡ true → Has s → Has (on_endpoint s a)
kept_endpoint s answers.Pending f h = h
kept_endpoint s (answers.Endpoint e) f h = h
kept_endpoint s (answers.Failed t) f h = refl
kept_endpoint s answers.Absent f h = refl
kept_endpoint s _ f h = absurd (cc)

kept_request : (s : Standing) (a : Answer) → fits_request a ≡ true → Has s → Has (on_request s a)
kept_request s (answers.Request r) f h = h
kept_request s (answers.Failed t) f h = refl
kept_request s answers.Absent f h = refl
kept_request s _ f h = absurd (cc)

kept_transmit : (s : Standing) (a : Answer) → fits_transmit a ≡ true → Has s → Has (on_transmit s a)
kept_transmit s answers.Pending f h = h
kept_transmit s (answers.Response r) f h = h
kept_transmit s (answers.ConnectorFailed k t) f h = refl
kept_transmit s answers.Absent f h = refl
kept_transmit s _ f h = absurd (cc)

kept_stream : (s : Standing) (a : Answer) → fits_stream a ≡ true → Has s → Has (on_stream s a)
kept_stream s answers.NotStreaming f h = h
kept_stream s (answers.Outcome o) f h = refl
kept_stream s answers.Absent f h = refl
kept_stream s _ f h = absurd (cc)

kept_body : (s : Standing) (a : Answer) → fits_body a ≡ true → Has s → Has (on_body s a)
kept_body s answers.Pending f h = h
kept_body s (answers.Read b) f h = h
kept_body s (answers.Failed t) f h = refl
kept_body s answers.Absent f h = refl
kept_body s _ f h = absurd (cc)

-- an outcome stands on after every entry that never goes back to the checkpoint
pub kept_stands : (k : Kind) (n : Option ℕ) (a : Answer) (s : Standing) → is_calm k ≡ true → fits k a ≡ true → Has s → Has (changed k n a s)
unfolding fits changed
kept_stands (kinds.Configure w) n a s c f h = kept_configure w s a f h
kept_stands (kinds.Hook x) n a s c f h = kept_hook x s a f h
kept_stands kinds.Serialize n a s c f h = kept_serialize s a f h
kept_stands kinds.Load n a s c f h = kept_load s a f h
kept_stands kinds.Initial n a s c f h = kept_initial s a f h
kept_stands (kinds.Start r) n a s c f h = kept_start r n s a c f h
kept_stands (kinds.Wait r) n a s c f h = kept_wait r s a f h
kept_stands kinds.Choose n a s c f h = kept_choose s a f h
kept_stands kinds.Endpoint n a s c f h = kept_endpoint s a f h
kept_stands kinds.Apply n a s c f h = kept_request s a f h
kept_stands kinds.Sign n a s c f h = kept_request s a f h
kept_stands kinds.Transmit n a s c f h = kept_transmit s a f h
kept_stands kinds.Stream n a s c f h = kept_stream s a f h
kept_stands kinds.Body n a s c f h = kept_body s a f h
kept_stands kinds.Deserialize n a s c f h = deserialized s a f
kept_stands kinds.Decide n a s c f h = absurd (cc)
kept_stands (kinds.Abandon x) n a s c f h = h
kept_stands kinds.Park n a s c f h = h

-- ---- the two that may go back: where they do, a checkpoint stands

restored_checkpoint : (o : Option HttpRequest) (c : InterceptorContext) → (restored_to o c).checkpoint ≡ c.checkpoint
restored_checkpoint None c = refl
restored_checkpoint (Some r) c = refl

went_back : (o : Option HttpRequest) (s : Standing) → s.context.checkpoint ≡ o → Has s → Has (rewound_to o s) ⊎ (is_some (rewound_to o s).context.checkpoint ≡ true)
went_back None s e h = inl h
went_back (Some r) s e h = inr (ap is_some (restored_checkpoint s.context.checkpoint s.context ∙ e))

pub decided_stands : (n : Option ℕ) (a : Answer) (s : Standing) → fits kinds.Decide a ≡ true → Has s →
    Has (changed kinds.Decide n a s) ⊎ ((answers_decided_yes a ≡ true) × (is_some (changed kinds.Decide n a s).context.checkpoint ≡ true))
unfolding fits changed
decided_stands n (answers.Decided choices.No m) s f h = inl h
decided_stands n (answers.Decided (choices.NoAfter d) m) s f h = inl h
decided_stands n (answers.Decided (choices.Delay d) m) s f h = inl h
decided_stands n (answers.Decided choices.Yes m) s f h = either_back (went_back s.context.checkpoint s refl h)
  where
    either_back : {A B : Type 0} → A ⊎ B → A ⊎ ((true ≡ true) × B)
    either_back (inl x) = inl x
    either_back (inr x) = inr (refl, x)
decided_stands n (answers.Failed t) s f h = inl refl
decided_stands n answers.Absent s f h = inl refl
decided_stands n _ s f h = absurd (cc)

pub retried_stands : (n : Option ℕ) (a : Answer) (s : Standing) → fits (kinds.Start roles.Retry) a ≡ true → Has s →
    Has (changed (kinds.Start roles.Retry) n a s) ⊎ ((answers_started a ≡ true) × (is_some (changed (kinds.Start roles.Retry) n a s).context.checkpoint ≡ true))
unfolding fits changed
retried_stands n answers.Started s f h = either_back (went_back s.context.checkpoint s refl h)
  where
    either_back : {A B : Type 0} → A ⊎ B → A ⊎ ((true ≡ true) × B)
    either_back (inl x) = inl x
    either_back (inr x) = inr (refl, x)
retried_stands n answers.Absent s f h = inl refl
retried_stands n _ s f h = absurd (cc)

-- ---- the tests by which the grammar goes on

pub streamed_stands : (n : Option ℕ) (a : Answer) (s : Standing) → fits kinds.Stream a ≡ true → (answers_not_streaming a ≡ true) ⊎ Has (changed kinds.Stream n a s)
unfolding fits changed
streamed_stands n answers.NotStreaming s f = inl refl
streamed_stands n (answers.Outcome o) s f = inr refl
streamed_stands n answers.Absent s f = inr refl
streamed_stands n _ s f = absurd (cc)

pub read_stands : (n : Option ℕ) (a : Answer) (s : Standing) → fits kinds.Body a ≡ true → is_pending a ≡ false → (answers_read a ≡ true) ⊎ Has (changed kinds.Body n a s)
unfolding fits changed
read_stands n answers.Pending s f p = absurd (cc)
read_stands n (answers.Read b) s f p = inl refl
read_stands n (answers.Failed t) s f p = inr refl
read_stands n answers.Absent s f p = inr refl
read_stands n _ s f p = absurd (cc)

-- the first attempt is granted, or delayed, or an outcome stands: no attempt was made before it
abbrev pub Unbegun : Standing → Type 0
Unbegun s = (is_unbegun s ≡ true) ⊎ Has s

refused_or_stood : (s : Standing) → Unbegun s → Has (cond (is_unbegun s) (fails_with s faults.Other refused_text) s)
refused_or_stood s (inl e) = refused s (is_unbegun s) e
refused_or_stood s (inr h) = either_way Has (is_unbegun s) (fails_with s faults.Other refused_text) s refl h

pub granted_stands : (n : Option ℕ) (a : Answer) (s : Standing) → fits kinds.Initial a ≡ true → Unbegun s →
    (answers_delay a ≡ true → Unbegun (changed kinds.Initial n a s)) × (answers_delay a ≡ false → (answers_go a ≡ true) ⊎ Has (changed kinds.Initial n a s))
unfolding fits changed
granted_stands n answers.Go s f u = (λ h. absurd (cc), λ h. inl refl)
granted_stands n (answers.Delay d) s f u = (λ h. u, λ h. absurd (cc))
granted_stands n answers.No s f u = (λ h. absurd (cc), λ h. inr (refused_or_stood s u))
granted_stands n (answers.Failed t) s f u = (λ h. absurd (cc), λ h. inr refl)
granted_stands n answers.Absent s f u = (λ h. absurd (cc), λ h. inr refl)
granted_stands n _ s f u = absurd (cc)

-- a token is granted by Go or No, or delayed, or an outcome stands
pub token_stands : (n : Option ℕ) (a : Answer) (s : Standing) → fits kinds.Initial a ≡ true →
    (answers_delay a ≡ true → Unit {0}) × (answers_delay a ≡ false → (answers_go_or_no a ≡ true) ⊎ Has (changed kinds.Initial n a s))
unfolding fits changed
token_stands n answers.Go s f = (λ h. tt, λ h. inl refl)
token_stands n (answers.Delay d) s f = (λ h. tt, λ h. absurd (cc))
token_stands n answers.No s f = (λ h. tt, λ h. inl refl)
token_stands n (answers.Failed t) s f = (λ h. tt, λ h. inr refl)
token_stands n answers.Absent s f = (λ h. tt, λ h. inr refl)
token_stands n _ s f = absurd (cc)

pub sent_stands : (n : Option ℕ) (a : Answer) (s : Standing) → fits (kinds.Start roles.Send) a ≡ true → (answers_started a ≡ true) ⊎ Has (changed (kinds.Start roles.Send) n a s)
unfolding fits changed
sent_stands n answers.Started s f = inl refl
sent_stands n answers.Absent s f = inr refl
sent_stands n _ s f = absurd (cc)

pub struck_stands : (r : Role) (n : Option ℕ) (a : Answer) (s : Standing) → is_deadline r ≡ true → is_ready a ≡ true → Has (changed (kinds.Wait r) n a s)
unfolding changed
struck_stands roles.Operation n answers.Ready s d r = refl
struck_stands roles.Attempt n answers.Ready s d r = refl
struck_stands roles.Send n a s d r = absurd (cc)
struck_stands roles.Retry n a s d r = absurd (cc)
struck_stands roles.LongPoll n a s d r = absurd (cc)
struck_stands _ n _ s d r = absurd (cc)
