-- The number of the attempt never falls along a run.
use Rattle.std.proofs.Common.{◌≡◌, ◌∙◌, ap, refl, sym, ℕ, ◌+◌, ◌≤◌, Bool, true, false, cond, List, [], ◌∷◌, Option, None, Some, arith}
use Rattle.std.specs.Prelude.{◌==◌, is_some}
use Rattle.std.proofs.lemmas.Bool.{false≢true}
use Rattle.std.proofs.lemmas.Bool.Decides.{nat_tests}
use Rattle.smithy_context.specs.Context.{restored_to}
use Rattle.smithy_context.specs.Hooks.{writes_input, writes_request, writes_response, writes_outcome}
use Rattle.smithy_context.specs.declared.context.InterceptorContext.{InterceptorContext}
use Rattle.smithy_context.specs.declared.intercept.Change.{Change}
use Rattle.smithy_context.specs.declared.intercept.Change.TheVariants as changes
use Rattle.smithy_types.specs.declared.hook.Hook.{Hook}
use Rattle.smithy_types.specs.declared.http.HttpRequest.{HttpRequest}
use Rattle.smithy_types.specs.declared.notes.Choice.TheVariants as choices
use Rattle.run_grammar.specs.declared.kind.ConfigureStage.{ConfigureStage}
use Rattle.run_grammar.specs.declared.kind.ConfigureStage.TheVariants as stages
use Rattle.run_grammar.specs.declared.kind.Role.{Role}
use Rattle.run_grammar.specs.declared.kind.Role.TheVariants as roles
use Rattle.run_grammar.specs.declared.kind.Kind.{Kind}
use Rattle.run_grammar.specs.declared.kind.Kind.TheVariants as kinds
use Rattle.run_grammar.specs.declared.answer.Answer.{Answer}
use Rattle.run_grammar.specs.declared.answer.Answer.TheVariants as answers
use Rattle.run_grammar.specs.declared.answer.Entry.{Entry}
use Rattle.run_grammar.specs.declared.standing.Standing.{Standing}
use Rattle.run_grammar.specs.Entry.{kind_of}
use Rattle.run_grammar.specs.Question.{nanos_of}
use Rattle.run_grammar.specs.Change.{changed, granted, is_unbegun, fails_with, with_phase, with_input, with_request, with_response, with_outcome, merged_into, serializing, refused_text, or_fails, on_configure, on_hook, on_serialize, on_load, on_initial, on_start, on_wait, on_choose, on_endpoint, on_request, on_transmit, on_stream, on_body, on_deserialize, on_decide, written, written_by, hook_failed, rewound_to, loads_body}
use Rattle.run_grammar.specs.Standing.{State, standing, step}
use Rattle.smithy_types.specs.declared.fault.FaultKind.TheVariants as faults
use Rattle.smithy_types.specs.declared.kinds.Phase.TheVariants as phases
use Rattle.laws_client.specs.Attempts.Deciding.{capped}

abbrev pub attempt : Standing → ℕ
attempt s = s.context.view.attempt

abbrev pub number : Standing → ℕ
number s = capped (attempt s)

either : (b : Bool) (x y s : Standing) → attempt x ≡ attempt s → attempt y ≡ attempt s → attempt (cond b x y) ≡ attempt s
either true x y s e f = e
either false x y s e f = f

same_failed : (s : Standing) (a : Answer) → attempt (or_fails s a) ≡ attempt s
same_failed s (answers.Failed t) = refl
same_failed s answers.Absent = refl
same_failed s _ = refl

same_configure : (stage : ConfigureStage) (s : Standing) (a : Answer) → attempt (on_configure stage s a) ≡ attempt s
same_configure stages.Client s (answers.Layer l) = refl
same_configure stages.Operation s (answers.Layer l) = refl
same_configure stages.Final s (answers.Layer l) = refl
same_configure stage s a = same_failed s a

same_written : (h : Hook) (s : Standing) (c : Change) → attempt (written h s c) ≡ attempt s
same_written h s (changes.Input p) = either (writes_input h) (with_input s p) s s refl refl
same_written h s (changes.Request r) = either (writes_request h) (with_request s r) s s refl refl
same_written h s (changes.Response r) = either (writes_response h) (with_response s r) s s refl refl
same_written h s (changes.Outcome o) = either (writes_outcome h) (with_outcome s o) s s refl refl

same_written_by : (h : Hook) (s : Standing) (c : Option Change) → attempt (written_by h s c) ≡ attempt s
same_written_by h s None = refl
same_written_by h s (Some c) = same_written h s c

same_hook_failed : (h : Hook) (s : Standing) (t : Option (List ℕ)) → attempt (hook_failed h s t) ≡ attempt s
same_hook_failed h s None = refl
same_hook_failed h s (Some t) = refl

same_hook : (h : Hook) (s : Standing) (a : Answer) → attempt (on_hook h s a) ≡ attempt s
same_hook h s (answers.Hooked a) = same_hook_failed h (merged_into (written_by h s a.change) a.settings) a.failure ∙ same_written_by h s a.change
same_hook h s _ = refl

same_serialize : (s : Standing) (a : Answer) → attempt (on_serialize s a) ≡ attempt s
same_serialize s (answers.Request r) =
    let t = with_request (serializing s) r in
    either (loads_body t.context.view.settings) t (with_phase t phases.BeforeTransmit) s refl refl
same_serialize s a = same_failed (serializing s) a

same_load : (s : Standing) (a : Answer) → attempt (on_load s a) ≡ attempt s
same_load s (answers.Loaded b) = refl
same_load s a = same_failed s a

same_wait : (role : Role) (s : Standing) (a : Answer) → attempt (on_wait role s a) ≡ attempt s
same_wait roles.Operation s answers.Ready = refl
same_wait roles.Operation s _ = refl
same_wait roles.Attempt s answers.Ready = refl
same_wait roles.Attempt s _ = refl
same_wait roles.Send s a = refl
same_wait roles.Retry s a = refl
same_wait roles.LongPoll s a = refl

same_choose : (s : Standing) (a : Answer) → attempt (on_choose s a) ≡ attempt s
same_choose s (answers.Chosen c) = refl
same_choose s a = same_failed s a

same_endpoint : (s : Standing) (a : Answer) → attempt (on_endpoint s a) ≡ attempt s
same_endpoint s (answers.Endpoint e) = refl
same_endpoint s a = same_failed s a

same_request : (s : Standing) (a : Answer) → attempt (on_request s a) ≡ attempt s
same_request s (answers.Request r) = refl
same_request s a = same_failed s a

same_transmit : (s : Standing) (a : Answer) → attempt (on_transmit s a) ≡ attempt s
same_transmit s answers.Pending = refl
same_transmit s (answers.Response r) = refl
same_transmit s (answers.ConnectorFailed k t) = refl
same_transmit s a = same_failed (with_phase s phases.Transmit) a

same_stream : (s : Standing) (a : Answer) → attempt (on_stream s a) ≡ attempt s
same_stream s (answers.Outcome o) = refl
same_stream s answers.Absent = refl
same_stream s _ = refl

same_body : (s : Standing) (a : Answer) → attempt (on_body s a) ≡ attempt s
same_body s (answers.Read b) = refl
same_body s (answers.Failed t) = refl
same_body s answers.Absent = refl
same_body s _ = refl

same_deserialize : (s : Standing) (a : Answer) → attempt (on_deserialize s a) ≡ attempt s
same_deserialize s (answers.Outcome o) = refl
same_deserialize s answers.Absent = refl
same_deserialize s _ = refl

-- ---- where it grows

alike : (m n : ℕ) → n ≡ m → capped m ≤ capped n
alike m n e = omega (arith, e)

begun : (t : Bool) (s : Standing) → (attempt s == 0) ≡ t → number s ≤ number (cond t (granted s) s)
begun true s e = grind (arith, nat_tests)
begun false s e = alike (attempt s) (attempt s) refl

grown_initial : (s : Standing) (a : Answer) → number s ≤ number (on_initial s a)
grown_initial s answers.Go = begun (attempt s == 0) s refl
grown_initial s answers.No = alike (attempt s) _ (either (is_unbegun s) (fails_with s faults.Other refused_text) s s refl refl)
grown_initial s (answers.Delay n) = alike (attempt s) (attempt s) refl
grown_initial s a = alike (attempt s) _ (same_failed s a)

same_restored : (k : Option HttpRequest) (c : InterceptorContext) → (restored_to k c).view.attempt ≡ c.view.attempt
same_restored None c = refl
same_restored (Some r) c = refl

grown_rewound : (k : Option HttpRequest) (s : Standing) → number s ≤ number (rewound_to k s)
grown_rewound None s = alike (attempt s) (attempt s) refl
grown_rewound (Some r) s = let e = same_restored s.context.checkpoint s.context in omega (arith, e)

-- a rewind to a checkpoint begins the next attempt
pub next_number : (k : Option HttpRequest) (s : Standing) → s.context.checkpoint ≡ k → is_some (rewound_to k s).context.checkpoint ≡ true → capped (attempt s + 1) ≤ number (rewound_to k s)
next_number None s e h = absurd (false≢true (sym (ap is_some e) ∙ h))
next_number (Some r) s e h = let f = same_restored s.context.checkpoint s.context in omega (arith, f)

grown_start : (role : Role) (n : Option ℕ) (s : Standing) (a : Answer) → number s ≤ number (on_start role n s a)
grown_start roles.Operation n s answers.Started = alike (attempt s) (attempt s) refl
grown_start roles.Operation n s _ = alike (attempt s) (attempt s) refl
grown_start roles.Attempt n s answers.Started = alike (attempt s) (attempt s) refl
grown_start roles.Attempt n s _ = alike (attempt s) (attempt s) refl
grown_start roles.Retry n s answers.Started = grown_rewound s.context.checkpoint s
grown_start roles.Retry n s answers.Absent = alike (attempt s) (attempt s) refl
grown_start roles.Retry n s _ = alike (attempt s) (attempt s) refl
grown_start roles.Send n s answers.Absent = alike (attempt s) (attempt s) refl
grown_start roles.Send n s _ = alike (attempt s) (attempt s) refl
grown_start roles.LongPoll n s _ = alike (attempt s) (attempt s) refl

grown_decided : (s : Standing) (a : Answer) → number s ≤ number (on_decide s a)
grown_decided s (answers.Decided choices.Yes n) = grown_rewound s.context.checkpoint s
grown_decided s (answers.Decided choices.No n) = alike (attempt s) (attempt s) refl
grown_decided s (answers.Decided (choices.NoAfter m) n) = alike (attempt s) (attempt s) refl
grown_decided s (answers.Decided (choices.Delay m) n) = alike (attempt s) (attempt s) refl
grown_decided s a = alike (attempt s) _ (same_failed s a)

grown_by : (k : Kind) (n : Option ℕ) (a : Answer) (s : Standing) → number s ≤ number (changed k n a s)
unfolding changed
grown_by (kinds.Configure stage) n a s = alike (attempt s) _ (same_configure stage s a)
grown_by (kinds.Hook h) n a s = alike (attempt s) _ (same_hook h s a)
grown_by kinds.Serialize n a s = alike (attempt s) _ (same_serialize s a)
grown_by kinds.Load n a s = alike (attempt s) _ (same_load s a)
grown_by kinds.Initial n a s = grown_initial s a
grown_by (kinds.Start role) n a s = grown_start role n s a
grown_by (kinds.Wait role) n a s = alike (attempt s) _ (same_wait role s a)
grown_by kinds.Choose n a s = alike (attempt s) _ (same_choose s a)
grown_by kinds.Endpoint n a s = alike (attempt s) _ (same_endpoint s a)
grown_by kinds.Apply n a s = alike (attempt s) _ (same_request s a)
grown_by kinds.Sign n a s = alike (attempt s) _ (same_request s a)
grown_by kinds.Transmit n a s = alike (attempt s) _ (same_transmit s a)
grown_by kinds.Stream n a s = alike (attempt s) _ (same_stream s a)
grown_by kinds.Body n a s = alike (attempt s) _ (same_body s a)
grown_by kinds.Deserialize n a s = alike (attempt s) _ (same_deserialize s a)
grown_by kinds.Decide n a s = grown_decided s a
grown_by (kinds.Abandon x) n a s = alike (attempt s) (attempt s) refl
grown_by kinds.Park n a s = alike (attempt s) (attempt s) refl

pub grown_step : (s : State) (e : Entry) → number s.context ≤ number (step s e).context
unfolding step
grown_step s e = grown_by (kind_of e) (nanos_of e.question) e.answer s.context

le_then : (x y z : ℕ) → x ≤ y → y ≤ z → x ≤ z
le_then x y z h g = omega (arith, h, g)

pub grown : (s : State) (l : List Entry) → number s.context ≤ number (standing s l).context
grown s [] = alike (attempt s.context) (attempt s.context) refl
grown s (e ∷ l) = le_then _ _ _ (grown_step s e) (grown (step s e) l)
