-- The scheme that stands is one of the client's, which never change.
use Rattle.std.proofs.Common.{◌≡◌, ◌∙◌, sym, ap, subst, ℕ, true, List, [], ◌∷◌, map, Option, None, Some}
use Rattle.smithy_types.specs.declared.fault.FaultKind.TheVariants as faults
use Rattle.smithy_types.specs.declared.hook.Hook.{Hook}
use Rattle.smithy_types.specs.declared.http.HttpRequest.{HttpRequest}
use Rattle.smithy_types.specs.declared.kinds.Phase.TheVariants as phases
use Rattle.smithy_types.specs.declared.notes.Choice.TheVariants as choices
use Rattle.smithy_context.specs.Hooks.{writes_input, writes_request, writes_response, writes_outcome}
use Rattle.smithy_context.specs.declared.intercept.Change.{Change}
use Rattle.smithy_context.specs.declared.intercept.Change.TheVariants as changes
use Rattle.auth_endpoint.specs.Choice.{is_named}
use Rattle.run_grammar.specs.declared.kind.Abandonable.TheVariants as abandoned
use Rattle.run_grammar.specs.declared.kind.ConfigureStage.{ConfigureStage}
use Rattle.run_grammar.specs.declared.kind.ConfigureStage.TheVariants as stages
use Rattle.run_grammar.specs.declared.kind.Role.{Role}
use Rattle.run_grammar.specs.declared.kind.Role.TheVariants as roles
use Rattle.run_grammar.specs.declared.kind.Kind.{Kind}
use Rattle.run_grammar.specs.declared.kind.Kind.TheVariants as kinds
use Rattle.run_grammar.specs.declared.answer.Answer.{Answer}
use Rattle.run_grammar.specs.declared.answer.Answer.TheVariants as answers
use Rattle.run_grammar.specs.declared.answer.Entry.{Entry}
use Rattle.run_grammar.specs.declared.question.Question.{Question}
use Rattle.run_grammar.specs.declared.question.Question.TheVariants as questions
use Rattle.run_grammar.specs.declared.standing.Standing.{Standing}
use Rattle.run_grammar.specs.Change.{changed, fails_with, granted, is_unbegun, refused_text, or_fails, on_configure, on_hook, on_serialize, on_load, on_initial, on_start, on_wait, on_choose, on_endpoint, on_request, on_transmit, on_stream, on_body, on_deserialize, on_decide, rewound_to, written_by, merged_into, hook_failed, with_outcome, with_input, with_request, with_response, with_phase, serializing, loads_body}
use Rattle.run_grammar.specs.Entry.{kind_of}
use Rattle.run_grammar.specs.Question.{kind_of_question, nanos_of}
use Rattle.run_grammar.specs.Standing.{State, asked, standing, step}
use Rattle.run_grammar.proofs.Outcomes.{either_way}
use Rattle.client_components.specs.Meaning.{ClientMeaning}
use Rattle.client_components.specs.Serving.{Answers, Served}
use Rattle.client_components.specs.declared.parts.Parts.{Parts}
use Rattle.laws_client.proofs.questions.Choices.{ChoosesWell, chooses_well}

-- the id, if there is one, is one of these
abbrev pub Known : List (List ℕ) → Option (List ℕ) → Type 0
Known names None = Unit {0}
Known names (Some id) = is_named names id ≡ true

-- so it is of the id that a question hands on
abbrev pub HandsKnown : List (List ℕ) → Question → Type 0
HandsKnown names (questions.Sign settings request scheme identity endpoint) = Known names scheme
HandsKnown names _ = Unit {0}

module _ (names : List (List ℕ)) where
  abbrev pub Knows : Standing → Type 0
  Knows s = Known names s.scheme

  by_failing : (s : Standing) (a : Answer) → Knows s → Knows (or_fails s a)
  by_failing s (answers.Failed t) h = h
  by_failing s answers.Absent h = h
  by_failing s _ h = h

  by_rewind : (o : Option HttpRequest) (s : Standing) → Knows s → Knows (rewound_to o s)
  by_rewind None s h = h
  by_rewind (Some r) s h = tt

  by_configure : (w : ConfigureStage) (s : Standing) (a : Answer) → Knows s → Knows (on_configure w s a)
  by_configure stages.Client s (answers.Layer l) h = h
  by_configure stages.Operation s (answers.Layer l) h = h
  by_configure stages.Final s (answers.Layer l) h = h
  by_configure w s a h = by_failing s a h

  by_written : (h : Hook) (s : Standing) (c : Option Change) → Knows s → Knows (written_by h s c)
  by_written h s None g = g
  by_written h s (Some (changes.Input p)) g = either_way Knows (writes_input h) (with_input s p) s g g
  by_written h s (Some (changes.Request r)) g = either_way Knows (writes_request h) (with_request s r) s g g
  by_written h s (Some (changes.Response r)) g = either_way Knows (writes_response h) (with_response s r) s g g
  by_written h s (Some (changes.Outcome o)) g = either_way Knows (writes_outcome h) (with_outcome s o) s g g

  by_text : (h : Hook) (s : Standing) (t : Option (List ℕ)) → Knows s → Knows (hook_failed h s t)
  by_text h s None g = g
  by_text h s (Some t) g = g

  by_hook : (h : Hook) (s : Standing) (a : Answer) → Knows s → Knows (on_hook h s a)
  by_hook h s (answers.Hooked a) g = by_text h (merged_into (written_by h s a.change) a.settings) a.failure (by_written h s a.change g)
  by_hook h s _ g = g

  by_serialize : (s : Standing) (a : Answer) → Knows s → Knows (on_serialize s a)
  by_serialize s (answers.Request r) h =
      let t = with_request (serializing s) r in
      either_way Knows (loads_body t.context.view.settings) t (with_phase t phases.BeforeTransmit) h h
  by_serialize s a h = by_failing (serializing s) a h

  by_load : (s : Standing) (a : Answer) → Knows s → Knows (on_load s a)
  by_load s (answers.Loaded b) h = h
  by_load s a h = by_failing s a h

  by_initial : (s : Standing) (a : Answer) → Knows s → Knows (on_initial s a)
  by_initial s answers.Go h = either_way Knows (is_unbegun s) (granted s) s h h
  by_initial s answers.No h = either_way Knows (is_unbegun s) (fails_with s faults.Other refused_text) s h h
  by_initial s (answers.Delay n) h = h
  by_initial s a h = by_failing s a h

  by_start : (r : Role) (n : Option ℕ) (s : Standing) (a : Answer) → Knows s → Knows (on_start r n s a)
  by_start roles.Operation n s answers.Started h = h
  by_start roles.Attempt n s answers.Started h = h
  by_start roles.Retry n s answers.Started h = by_rewind s.context.checkpoint s h
  by_start roles.Send n s answers.Absent h = h
  by_start roles.Retry n s answers.Absent h = h
  by_start _ n s _ h = h

  by_wait : (r : Role) (s : Standing) (a : Answer) → Knows s → Knows (on_wait r s a)
  by_wait roles.Operation s answers.Ready h = h
  by_wait roles.Attempt s answers.Ready h = h
  by_wait _ s _ h = h

  by_choose : (s : Standing) (a : Answer) → ChoosesWell names a → Knows s → Knows (on_choose s a)
  by_choose s (answers.Chosen c) w h = w
  by_choose s a w h = by_failing s a h

  by_endpoint : (s : Standing) (a : Answer) → Knows s → Knows (on_endpoint s a)
  by_endpoint s (answers.Endpoint e) h = h
  by_endpoint s a h = by_failing s a h

  by_request : (s : Standing) (a : Answer) → Knows s → Knows (on_request s a)
  by_request s (answers.Request r) h = h
  by_request s a h = by_failing s a h

  by_transmit : (s : Standing) (a : Answer) → Knows s → Knows (on_transmit s a)
  by_transmit s answers.Pending h = h
  by_transmit s (answers.Response r) h = h
  by_transmit s (answers.ConnectorFailed k t) h = h
  by_transmit s a h = by_failing (with_phase s phases.Transmit) a h

  by_stream : (s : Standing) (a : Answer) → Knows s → Knows (on_stream s a)
  by_stream s (answers.Outcome o) h = h
  by_stream s answers.Absent h = h
  by_stream s _ h = h

  by_body : (s : Standing) (a : Answer) → Knows s → Knows (on_body s a)
  by_body s (answers.Read b) h = h
  by_body s (answers.Failed t) h = h
  by_body s answers.Absent h = h
  by_body s _ h = h

  by_deserialize : (s : Standing) (a : Answer) → Knows s → Knows (on_deserialize s a)
  by_deserialize s (answers.Outcome o) h = h
  by_deserialize s answers.Absent h = h
  by_deserialize s _ h = h

  by_decide : (s : Standing) (a : Answer) → Knows s → Knows (on_decide s a)
  by_decide s (answers.Decided choices.Yes n) h = by_rewind s.context.checkpoint s h
  by_decide s (answers.Decided choices.No n) h = h
  by_decide s (answers.Decided (choices.NoAfter d) n) h = h
  by_decide s (answers.Decided (choices.Delay d) n) h = h
  by_decide s a h = by_failing s a h

  -- a choice is of a scheme that is known
  abbrev pub ChosenWell : Kind → Answer → Type 0
  ChosenWell kinds.Choose a = ChoosesWell names a
  ChosenWell _ a = Unit {0}

  known_on : (k : Kind) (n : Option ℕ) (a : Answer) (s : Standing) → ChosenWell k a → Knows s → Knows (changed k n a s)
  unfolding changed
  known_on (kinds.Configure w) n a s c h = by_configure w s a h
  known_on (kinds.Hook x) n a s c h = by_hook x s a h
  known_on kinds.Serialize n a s c h = by_serialize s a h
  known_on kinds.Load n a s c h = by_load s a h
  known_on kinds.Initial n a s c h = by_initial s a h
  known_on (kinds.Start r) n a s c h = by_start r n s a h
  known_on (kinds.Wait r) n a s c h = by_wait r s a h
  known_on kinds.Choose n a s c h = by_choose s a c h
  known_on kinds.Endpoint n a s c h = by_endpoint s a h
  known_on kinds.Apply n a s c h = by_request s a h
  known_on kinds.Sign n a s c h = by_request s a h
  known_on kinds.Transmit n a s c h = by_transmit s a h
  known_on kinds.Stream n a s c h = by_stream s a h
  known_on kinds.Body n a s c h = by_body s a h
  known_on kinds.Deserialize n a s c h = by_deserialize s a h
  known_on kinds.Decide n a s c h = by_decide s a h
  known_on (kinds.Abandon x) n a s c h = h
  known_on kinds.Park n a s c h = h

  known_step : (s : State) (e : Entry) → ChosenWell (kind_of e) e.answer → Knows s.context → Knows (step s e).context
  unfolding step
  known_step s e c h = known_on (kind_of e) (nanos_of e.question) e.answer s.context c h

  pub known_asked : (k : Kind) (s : State) → Knows s.context → HandsKnown names (asked k s)
  unfolding asked
  known_asked kinds.Sign s h = h
  known_asked _ s h = tt

module _ {T X Q C I A R Z D P L : Type 0} (means : ClientMeaning T X Q C I A R Z D P L) where
  abbrev pub scheme_ids : Parts T X Q C I A R Z D P L → List (List ℕ)
  scheme_ids parts = map means.names parts.given.schemes.items

  -- no entry changes what a client was given
  same_given : (old new : Parts T X Q C I A R Z D P L) (q : Question) (a : Answer) → Answers means old q a new → new.given ≡ old.given
  same_given old new (questions.Configure stages.Client settings) a h = ap (λ (parts : Parts T X Q C I A R Z D P L). parts.given) h.1.others
  same_given old new (questions.Configure stages.Operation settings) a h = ap (λ (parts : Parts T X Q C I A R Z D P L). parts.given) h.1
  same_given old new (questions.Configure stages.Final settings) a h = ap (λ (parts : Parts T X Q C I A R Z D P L). parts.given) h.1
  same_given old new (questions.Hook hook view) a h = ap (λ (parts : Parts T X Q C I A R Z D P L). parts.given) h.others
  same_given old new (questions.Serialize input settings) a h = ap (λ (parts : Parts T X Q C I A R Z D P L). parts.given) h.1
  same_given old new (questions.Load request) a h = ap (λ (parts : Parts T X Q C I A R Z D P L). parts.given) h.1
  same_given old new (questions.Initial settings) a h = ap (λ (parts : Parts T X Q C I A R Z D P L). parts.given) h.others
  same_given old new (questions.Start role nanos) a h = ap (λ (parts : Parts T X Q C I A R Z D P L). parts.given) h.1
  same_given old new (questions.Wait role) a h = ap (λ (parts : Parts T X Q C I A R Z D P L). parts.given) h.1
  same_given old new (questions.Choose settings) a h = ap (λ (parts : Parts T X Q C I A R Z D P L). parts.given) h.others
  same_given old new (questions.Endpoint settings identity) a h = ap (λ (parts : Parts T X Q C I A R Z D P L). parts.given) h.1
  same_given old new (questions.Apply settings request endpoint) a h = ap (λ (parts : Parts T X Q C I A R Z D P L). parts.given) h.1
  same_given old new (questions.Sign settings request scheme identity endpoint) a h = ap (λ (parts : Parts T X Q C I A R Z D P L). parts.given) h.1
  same_given old new (questions.Transmit settings request) a h = ap (λ (parts : Parts T X Q C I A R Z D P L). parts.given) h.1
  same_given old new (questions.Stream settings response) a h = ap (λ (parts : Parts T X Q C I A R Z D P L). parts.given) h.1
  same_given old new (questions.Body settings response) a h = ap (λ (parts : Parts T X Q C I A R Z D P L). parts.given) h.1
  same_given old new (questions.Deserialize settings response) a h = ap (λ (parts : Parts T X Q C I A R Z D P L). parts.given) h.1
  same_given old new (questions.Decide settings request response outcome attempt) a h = ap (λ (parts : Parts T X Q C I A R Z D P L). parts.given) h.others
  same_given old new (questions.Abandon abandoned.Choose) a h = ap (λ (parts : Parts T X Q C I A R Z D P L). parts.given) h.2
  same_given old new (questions.Abandon _) a h = ap (λ (parts : Parts T X Q C I A R Z D P L). parts.given) h.2
  same_given old new questions.Park a h = ap (λ (parts : Parts T X Q C I A R Z D P L). parts.given) h.2

  pub given_on : (before : List Entry) (old mid : Parts T X Q C I A R Z D P L) → Served means old before mid → mid.given ≡ old.given
  given_on [] old mid same = ap (λ (parts : Parts T X Q C I A R Z D P L). parts.given) same
  given_on (x ∷ before) old mid (next, serves, rest) = given_on before next mid rest ∙ same_given old next x.question x.answer serves

  pub chosen_well : (old new : Parts T X Q C I A R Z D P L) (q : Question) (a : Answer) → Answers means old q a new → ChosenWell (scheme_ids old) (kind_of_question q) a
  chosen_well old new (questions.Choose settings) a h =
      chooses_well means.polls means.names old.given.options old.given.schemes.items old.given.endpoint old.given.time_source settings old.identities.cached old.identities a new.identities h.calls h.chooses
  chosen_well old new _ a h = tt

  -- the scheme that stands before the last entry is one of the client's
  pub known_at : (before : List Entry) (old mid : Parts T X Q C I A R Z D P L) (s : State) → Served means old before mid → Known (scheme_ids old) s.context.scheme → Known (scheme_ids mid) (standing s before).context.scheme
  known_at [] old mid s same h = subst (λ (parts : Parts T X Q C I A R Z D P L). Known (scheme_ids parts) s.context.scheme) (sym same) h
  known_at (x ∷ before) old mid s (next, serves, rest) h =
      known_at before next mid (step s x) rest
      (subst (λ ids. Known ids (step s x).context.scheme) (sym (ap (λ g. map means.names g.schemes.items) (same_given old next x.question x.answer serves)))
      (known_step (scheme_ids old) s x (chosen_well old next x.question x.answer serves) h))
