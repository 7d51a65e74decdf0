-- Each answer of a client is determined, with what it leaves.
use Rattle.std.proofs.Common.{◌≡◌, ◌∙◌, refl, sym, ap, subst, ℕ, Bool, true, false, [], ◌∷◌, ◌++◌, Option, None, Some}
use Rattle.std.specs.Prelude.{is_some}
use Rattle.client_auth.specs.Deserializing as deserializing
use Rattle.client_auth.specs.Identities.{ChoosesBy, at_rest, ending_choice}
use Rattle.client_auth.specs.Serializing as serializing
use Rattle.client_auth.specs.Signing as signing
use Rattle.client_call.specs.Ending.{abandoning, call_without, ending_calls, sleeps_without}
use Rattle.client_call.specs.Reading as reading
use Rattle.client_call.specs.Sleeping as sleeping
use Rattle.client_call.specs.Transmitting as transmitting
use Rattle.client_call.specs.Sleeping.{no_sleeps}
use Rattle.client_call.specs.declared.call.Call.TheVariants.{Idle}
use Rattle.client_components.specs.Calling.{Abandons, Parks, Reads, Starts, Transmits, Waits}
use Rattle.client_components.specs.Choosing.{Chooses}
use Rattle.client_components.specs.Resting.{Ends}
use Rattle.client_components.specs.Retrying.{Begins, Configures, Decides, RunsHook, decided_view, needs_of, sleeps_after, sleeps_ended, verdict_on}
use Rattle.client_components.specs.Meaning.{ClientMeaning}
use Rattle.client_components.specs.Serving.{Answers}
use Rattle.client_components.specs.declared.parts.Parts.{Parts}
use Rattle.outside.specs.Calls.{Park}
use Rattle.client_retries.specs.Configuring.{configured}
use Rattle.client_retries.specs.Deciding.{IsDecided}
use Rattle.client_retries.specs.Hooking.{Hooks, seen_context}
use Rattle.client_retries.specs.Initially.{Begun}
use Rattle.retry_quota.specs.Calls.{Limiters}
use Rattle.retry_quota.specs.Registers.{Registers}
use Rattle.run_grammar.specs.declared.answer.Answer.{Answer}
use Rattle.run_grammar.specs.declared.answer.Answer.TheVariants as answers
use Rattle.run_grammar.specs.declared.kind.Abandonable.{Abandonable}
use Rattle.run_grammar.specs.declared.kind.Abandonable.TheVariants as abandoned
use Rattle.run_grammar.specs.declared.kind.ConfigureStage.{ConfigureStage}
use Rattle.run_grammar.specs.declared.kind.ConfigureStage.TheVariants as stages
use Rattle.run_grammar.specs.declared.kind.Role.{Role}
use Rattle.run_grammar.specs.declared.question.Question.{Question}
use Rattle.run_grammar.specs.declared.question.Question.TheVariants as questions
use Rattle.smithy_context.specs.StandingLayers.{StandingLayers}
use Rattle.smithy_context.specs.declared.intercept.HookView.{HookView}
use Rattle.smithy_types.specs.Chain.{ByCalls, Chained}
use Rattle.smithy_types.specs.declared.notes.RetryAction.TheVariants.{NoActionIndicated}
use Rattle.retry_policy.specs.Verdict.{verdict_of}
use Rattle.laws_determined.specs.Calls.Alike.{CallsAlike}
use Rattle.smithy_types.specs.declared.hook.Hook.{Hook}
use Rattle.smithy_types.specs.declared.http.HttpRequest.{HttpRequest}
use Rattle.smithy_types.specs.declared.http.HttpResponse.{HttpResponse}
use Rattle.smithy_types.specs.declared.payload.Payload.{Payload}
use Rattle.laws_determined.proofs.steady.Calls.{same_calls}
use Rattle.laws_determined.proofs.auth.Applied.{applies_once}
use Rattle.laws_determined.proofs.auth.Chosen.{choices}
use Rattle.laws_determined.proofs.auth.Signatures.{signs_once}
use Rattle.laws_determined.proofs.calls.Asked.{bodies, transmits}
use Rattle.laws_determined.specs.Retries.Alike.{RetriesAlike, registers_mean}
use Rattle.laws_determined.proofs.retries.Hooked.{hooks}
use Rattle.laws_determined.proofs.retries.Retries.{decisions, initials}
use Rattle.laws_determined.specs.Client.Alike.{PartsAlike}
use Rattle.laws_determined.specs.Client.Answering.{AnswersAreDetermined, ArePlain, over_registers}
use Rattle.laws_determined.proofs.client.Sleeping.{abandoning_alike, choice_ends, endings_alike, rest_alike, starts_alike, waits_alike, without_alike}

module _ {T X C I A R Z D P L : Type 0} (bucket amount : P → ℕ) (limiters : Limiters L) (means : ClientMeaning T X (Registers L) C I A R Z D P L) (plain : ArePlain means) where
  abbrev Client : Type 0
  Client = Parts T X (Registers L) C I A R Z D P L

  abbrev Alike : Client → Client → Type 0
  Alike = PartsAlike bucket amount

  by_others : (new base more also : Client) → new ≡ base → more ≡ also → Alike base also → Alike new more
  by_others new base more also p q alike = subst (λ x. Alike x more) (sym p) (subst (λ x. Alike base x) (sym q) alike)

  module _ (old other new more : Client) (a b : Answer) (alike : Alike old other) where
    -- nothing is left but an answer
    stays : (says : Answer → Type 0) → ((x y : Answer) → says x → says y → x ≡ y) → says a → says b → new ≡ old → more ≡ other → (a ≡ b) × Alike new more
    stays says once s t p q = (once a b s t, by_others new old more other p q alike)

    pub ends_alike : Ends means.makes old new → Ends means.makes other more → Alike new more
    ends_alike s t =
        let same : ending_choice old.identities ++ ending_calls old.sleeps old.call ≡ ending_choice other.identities ++ ending_calls other.sleeps other.call =
        (λ i. choice_ends old.identities other.identities alike.identities i ++ (endings_alike old.sleeps old.call other.call alike.call ∙ ap (λ x. ending_calls x other.call) alike.sleeps) i) in
        let outside = same_calls means.makes plain.outside (ending_choice other.identities ++ ending_calls other.sleeps other.call) other.outside new.outside more.outside
        (subst (λ x. Chained means.makes x (ending_choice other.identities ++ ending_calls other.sleeps other.call) new.outside) alike.outside (subst (λ l. Chained means.makes old.outside l new.outside) same s.calls)) t.calls in
        by_others new (record old { sleeps = no_sleeps; call = Idle; identities = at_rest old.identities; outside = new.outside })
        more (record other { sleeps = no_sleeps; call = Idle; identities = at_rest other.identities; outside = more.outside }) s.others t.others (record {
          given = alike.given;
          sleeps = refl;
          call = tt;
          strategy = alike.strategy;
          interceptors = alike.interceptors;
          identities = rest_alike old.identities other.identities alike.identities;
          outside = outside;
          quota = alike.quota;
        })

    needs_same : needs_of means.makes old ≡ needs_of means.makes other
    needs_same = λ i. record { lazy_cache = is_some (alike.identities.cached i); time_source = alike.given.time_source i; sleep_impl = alike.given.sleep_impl i }

    configured_same : (stage : ConfigureStage) → configured stage old.given.client (needs_of means.makes old) ≡ configured stage other.given.client (needs_of means.makes other)
    configured_same stage = λ i. configured stage (alike.given.client i) (needs_same i)

    configures : (stage : ConfigureStage) → Configures means.makes old stage a new → Configures means.makes other stage b more → (a ≡ b) × Alike new more
    configures stages.Client s t = (s.0 ∙ (configured_same stages.Client ∙ sym t.0), ends_alike s.1 t.1)
    configures stages.Operation s t = (s.0 ∙ (configured_same stages.Operation ∙ sym t.0), by_others new old more other s.1 t.1 alike)
    configures stages.Final s t = (s.0 ∙ (configured_same stages.Final ∙ sym t.0), by_others new old more other s.1 t.1 alike)

    verdict_same : (view : HookView) → verdict_on means.makes means.says old (seen_context view) ≡ verdict_on means.makes means.says other (seen_context view)
    verdict_same view = λ i. verdict_of means.says (seen_context view) (alike.given.classifiers i) NoActionIndicated

    runs_hook : (hook : Hook) (view : HookView) → RunsHook means.makes means.says (registers_mean bucket amount limiters) means.chain old hook view a new → RunsHook means.makes means.says (registers_mean bucket amount limiters) means.chain other hook view b more
        → (a ≡ b) × Alike new more
    runs_hook hook view s t =
        let verdict = verdict_on means.makes means.says old (seen_context view) in
        let met = hooks means.makes bucket amount limiters means.chain plain.outside plain.interceptors (sleeps_ended hook old.sleeps) verdict hook view
        (record { outside = old.outside; chain = old.interceptors.items; quota = old.quota }) (record { outside = other.outside; chain = other.interceptors.items; quota = other.quota })
        (record { outside = new.outside; chain = new.interceptors.items; quota = new.quota }) (record { outside = more.outside; chain = more.interceptors.items; quota = more.quota }) a b
        (record { outside = alike.outside; chain = alike.interceptors; quota = alike.quota })
        (s.calls, s.made, s.hooks) (
          t.calls,
          subst (λ x. Chained means.makes other.outside (sleeps_ended hook x ++ t.calls) more.outside) (sym alike.sleeps) t.made,
          subst (λ v. Hooks (registers_mean bucket amount limiters) means.chain v hook view other.interceptors.items other.quota b more.interceptors.items t.calls more.quota) (sym (verdict_same view)) t.hooks,
        ) in (
          met.0,
          by_others new (record old { sleeps = sleeps_after hook old.sleeps; interceptors = new.interceptors; outside = new.outside; quota = new.quota })
              more (record other { sleeps = sleeps_after hook other.sleeps; interceptors = more.interceptors; outside = more.outside; quota = more.quota }) s.others t.others (record {
                given = alike.given;
                sleeps = ap (sleeps_after hook) alike.sleeps;
                call = alike.call;
                strategy = alike.strategy;
                interceptors = met.1.chain;
                identities = alike.identities;
                outside = met.1.outside;
                quota = met.1.quota;
              }),
        )

    retried : (base also : Client) → new ≡ record old { strategy = new.strategy; outside = new.outside; quota = new.quota } → more ≡ record other { strategy = more.strategy; outside = more.outside; quota = more.quota }
        → RetriesAlike bucket amount (record { outside = new.outside; strategy = new.strategy; quota = new.quota }) (record { outside = more.outside; strategy = more.strategy; quota = more.quota }) → Alike new more
    retried base also p q left =
        by_others new (record old { strategy = new.strategy; outside = new.outside; quota = new.quota }) more (record other { strategy = more.strategy; outside = more.outside; quota = more.quota }) p q (record {
          given = alike.given;
          sleeps = alike.sleeps;
          call = alike.call;
          strategy = left.strategy;
          interceptors = alike.interceptors;
          identities = alike.identities;
          outside = left.outside;
          quota = left.quota;
        })

    begins : (settings : StandingLayers) → Begins means.makes (registers_mean bucket amount limiters) old settings a new → Begins means.makes (registers_mean bucket amount limiters) other settings b more → (a ≡ b) × Alike new more
    begins settings s t =
        let met = initials bucket amount limiters means.makes plain.outside old.given.time_source settings
        (record { outside = old.outside; strategy = old.strategy; quota = old.quota }) (record { outside = other.outside; strategy = other.strategy; quota = other.quota })
        (record { outside = new.outside; strategy = new.strategy; quota = new.quota }) (record { outside = more.outside; strategy = more.strategy; quota = more.quota }) a b
        (record { outside = alike.outside; strategy = alike.strategy; quota = alike.quota })
        (s.calls, s.made, s.begun)
        (t.calls, t.made, subst (λ g. Begun (registers_mean bucket amount limiters) g settings other.strategy other.quota b more.strategy t.calls more.quota) (sym alike.given.time_source) t.begun) in
        (met.0, retried old other s.others t.others met.1)

    decides : (view : HookView) → Decides means.makes means.says (registers_mean bucket amount limiters) old view a new → Decides means.makes means.says (registers_mean bucket amount limiters) other view b more → (a ≡ b) × Alike new more
    decides view s t =
        let verdict = verdict_on means.makes means.says old (seen_context view) in
        let met = decisions bucket amount limiters means.makes plain.outside verdict old.given.time_source (seen_context view)
        (record { outside = old.outside; strategy = old.strategy; quota = old.quota }) (record { outside = other.outside; strategy = other.strategy; quota = other.quota })
        (record { outside = new.outside; strategy = new.strategy; quota = new.quota }) (record { outside = more.outside; strategy = more.strategy; quota = more.quota }) a b
        (record { outside = alike.outside; strategy = alike.strategy; quota = alike.quota })
        (s.calls, s.made, s.decided) (
          t.calls,
          t.made,
          subst (λ v. IsDecided (registers_mean bucket amount limiters) v old.given.time_source (seen_context view) other.strategy other.quota b more.strategy t.calls more.quota) (sym (verdict_same view))
              (subst (λ g. IsDecided (registers_mean bucket amount limiters) (verdict_on means.makes means.says other (seen_context view)) g (seen_context view) other.strategy other.quota b more.strategy t.calls more.quota) (sym alike.given.time_source) t.decided),
        ) in
        (met.0, retried old other s.others t.others met.1)

    starts : (role : Role) (nanos : Option ℕ) → Starts means.makes old role nanos a new → Starts means.makes other role nanos b more → (a ≡ b) × Alike new more
    starts role nanos s t =
        let u = subst (λ g. sleeping.Starts g role nanos old.sleeps b more.sleeps t.0.calls) (sym alike.given.sleep_impl)
        (subst (λ x. sleeping.Starts other.given.sleep_impl role nanos x b more.sleeps t.0.calls) (sym alike.sleeps) t.0.these) in
        let met = starts_alike means.makes plain.outside old.given.sleep_impl role nanos old.sleeps a b new.sleeps more.sleeps s.0.calls t.0.calls other.outside new.outside more.outside s.0.these u
        (subst (λ x. Chained means.makes x s.0.calls new.outside) alike.outside s.0.made) t.0.made in (
          met.0,
          by_others new (record old { sleeps = new.sleeps; outside = new.outside }) more (record other { sleeps = more.sleeps; outside = more.outside }) s.1 t.1 (record {
            given = alike.given;
            sleeps = met.1;
            call = alike.call;
            strategy = alike.strategy;
            interceptors = alike.interceptors;
            identities = alike.identities;
            outside = met.2;
            quota = alike.quota;
          }),
        )

    moves : (s : new ≡ record old { outside = new.outside }) (t : more ≡ record other { outside = more.outside }) → new.outside ≡ more.outside → Alike new more
    moves s t same = by_others new (record old { outside = new.outside }) more (record other { outside = more.outside }) s t (record {
      given = alike.given;
      sleeps = alike.sleeps;
      call = alike.call;
      strategy = alike.strategy;
      interceptors = alike.interceptors;
      identities = alike.identities;
      outside = same;
      quota = alike.quota;
    })

    waits : (role : Role) → Waits means.makes old role a new → Waits means.makes other role b more → (a ≡ b) × Alike new more
    waits role s t =
        let met = waits_alike means.makes plain.outside (sleeping.sleep_of role old.sleeps) a b s.0.calls t.0.calls other.outside new.outside more.outside s.0.these
        (subst (λ x. sleeping.Waits (sleeping.sleep_of role x) b t.0.calls) (sym alike.sleeps) t.0.these)
        (subst (λ x. Chained means.makes x s.0.calls new.outside) alike.outside s.0.made) t.0.made in
        (met.0, moves s.1 t.1 met.1)

    chooses : (settings : StandingLayers) → Chooses means.makes means.names means.polls old settings a new → Chooses means.makes means.names means.polls other settings b more → (a ≡ b) × Alike new more
    chooses settings s t =
        let met = choices means.makes means.names means.polls plain.outside plain.resolvers plain.sleeps old.given.options old.given.schemes.items old.given.endpoint old.given.time_source settings
        (record { outside = old.outside; identities = old.identities }) (record { outside = other.outside; identities = other.identities })
        (record { outside = new.outside; identities = new.identities }) (record { outside = more.outside; identities = more.identities }) a b
        (record { outside = alike.outside; identities = alike.identities }) (s.calls, s.made, s.chooses)
        (t.calls, t.made, subst (λ g. g) (λ i. ChoosesBy means.names means.polls (sym alike.given.options i) (sym alike.given.schemes i) (sym alike.given.endpoint i) (sym alike.given.time_source i) settings other.identities.cached other.identities b more.identities t.calls) t.chooses) in (
          met.0,
          by_others new (record old { identities = new.identities; outside = new.outside }) more (record other { identities = more.identities; outside = more.outside }) s.others t.others (record {
            given = alike.given;
            sleeps = alike.sleeps;
            call = alike.call;
            strategy = alike.strategy;
            interceptors = alike.interceptors;
            identities = met.1.identities;
            outside = met.1.outside;
            quota = alike.quota;
          }),
        )

    asked : (left : CallsAlike (record { outside = new.outside; call = new.call }) (record { outside = more.outside; call = more.call }))
        → new ≡ record old { call = new.call; outside = new.outside } → more ≡ record other { call = more.call; outside = more.outside } → Alike new more
    asked left s t = by_others new (record old { call = new.call; outside = new.outside }) more (record other { call = more.call; outside = more.outside }) s t (record {
      given = alike.given;
      sleeps = alike.sleeps;
      call = left.call;
      strategy = alike.strategy;
      interceptors = alike.interceptors;
      identities = alike.identities;
      outside = left.outside;
      quota = alike.quota;
    })

    transmits_one : (settings : StandingLayers) (request : Option HttpRequest) → Transmits means.makes means.sleeps old settings request a new → Transmits means.makes means.sleeps other settings request b more → (a ≡ b) × Alike new more
    transmits_one settings request s t =
        let met = transmits means.makes plain.outside (means.sleeps other.outside) settings request
        (record { outside = old.outside; call = old.call }) (record { outside = other.outside; call = other.call }) (record { outside = new.outside; call = new.call }) (record { outside = more.outside; call = more.call }) a b
        (record { outside = alike.outside; call = alike.call })
        (subst (λ x. ByCalls means.makes old.outside (transmitting.Transmits (means.sleeps x) settings request old.call a new.call) new.outside) alike.outside s.0) t.0 in
        (met.0, asked met.1 s.1 t.1)

    reads_one : (settings : StandingLayers) (response : Option HttpResponse) → Reads means.makes means.sleeps old settings response a new → Reads means.makes means.sleeps other settings response b more → (a ≡ b) × Alike new more
    reads_one settings response s t =
        let met = bodies means.makes plain.outside (means.sleeps other.outside) settings response
        (record { outside = old.outside; call = old.call }) (record { outside = other.outside; call = other.call }) (record { outside = new.outside; call = new.call }) (record { outside = more.outside; call = more.call }) a b
        (record { outside = alike.outside; call = alike.call })
        (subst (λ x. ByCalls means.makes old.outside (reading.Reads (means.sleeps x) settings response old.call a new.call) new.outside) alike.outside s.0) t.0 in
        (met.0, asked met.1 s.1 t.1)

    gives_up : (pending : Abandonable) → (a ≡ answers.Abandoned) × Chained means.makes old.outside (abandoning pending old.sleeps old.call) new.outside
        × (new ≡ record old { sleeps = sleeps_without pending old.sleeps; call = call_without pending old.call; outside = new.outside })
        → (b ≡ answers.Abandoned) × Chained means.makes other.outside (abandoning pending other.sleeps other.call) more.outside
        × (more ≡ record other { sleeps = sleeps_without pending other.sleeps; call = call_without pending other.call; outside = more.outside }) → (a ≡ b) × Alike new more
    gives_up pending s t =
        let same : abandoning pending old.sleeps old.call ≡ abandoning pending other.sleeps other.call = abandoning_alike pending old.sleeps old.call other.call alike.call ∙ ap (λ x. abandoning pending x other.call) alike.sleeps in
        let outside = same_calls means.makes plain.outside (abandoning pending other.sleeps other.call) other.outside new.outside more.outside
        (subst (λ x. Chained means.makes x (abandoning pending other.sleeps other.call) new.outside) alike.outside (subst (λ l. Chained means.makes old.outside l new.outside) same s.1)) t.1 in (
          s.0 ∙ sym t.0,
          by_others new (record old { sleeps = sleeps_without pending old.sleeps; call = call_without pending old.call; outside = new.outside })
              more (record other { sleeps = sleeps_without pending other.sleeps; call = call_without pending other.call; outside = more.outside }) s.2 t.2 (record {
                given = alike.given;
                sleeps = ap (sleeps_without pending) alike.sleeps;
                call = without_alike pending old.call other.call alike.call;
                strategy = alike.strategy;
                interceptors = alike.interceptors;
                identities = alike.identities;
                outside = outside;
                quota = alike.quota;
              }),
        )

    abandons : (pending : Abandonable) → Abandons means.makes old pending a new → Abandons means.makes other pending b more → (a ≡ b) × Alike new more
    abandons abandoned.Choose s t =
        let outside = same_calls means.makes plain.outside (ending_choice other.identities) other.outside new.outside more.outside
        (subst (λ x. Chained means.makes x (ending_choice other.identities) new.outside) alike.outside
        (subst (λ l. Chained means.makes old.outside l new.outside) (choice_ends old.identities other.identities alike.identities) s.1)) t.1 in (
          s.0 ∙ sym t.0,
          by_others new (record old { identities = at_rest old.identities; outside = new.outside }) more (record other { identities = at_rest other.identities; outside = more.outside }) s.2 t.2 (record {
            given = alike.given;
            sleeps = alike.sleeps;
            call = alike.call;
            strategy = alike.strategy;
            interceptors = alike.interceptors;
            identities = rest_alike old.identities other.identities alike.identities;
            outside = outside;
            quota = alike.quota;
          }),
        )
    abandons abandoned.Load s t = gives_up abandoned.Load s t
    abandons abandoned.Endpoint s t = gives_up abandoned.Endpoint s t
    abandons abandoned.Transmit s t = gives_up abandoned.Transmit s t
    abandons abandoned.Body s t = gives_up abandoned.Body s t
    abandons abandoned.WaitSend s t = gives_up abandoned.WaitSend s t
    abandons abandoned.WaitRetry s t = gives_up abandoned.WaitRetry s t
    abandons abandoned.WaitLongPoll s t = gives_up abandoned.WaitLongPoll s t

    parks : Parks means.makes old a new → Parks means.makes other b more → (a ≡ b) × Alike new more
    parks s t = (s.0 ∙ sym t.0, moves s.2 t.2 (same_calls means.makes plain.outside (Park ∷ []) other.outside new.outside more.outside (subst (λ x. Chained means.makes x (Park ∷ []) new.outside) alike.outside s.1) t.1))

  -- ---- the kinds that leave all as it is

  serialized_once : (serializer : Z) (input : Option Payload) (settings : StandingLayers) (a b : Answer) → serializing.Serializes means.serializes serializer input settings a → serializing.Serializes means.serializes serializer input settings b → a ≡ b
  serialized_once serializer None settings a b s t = s ∙ sym t
  serialized_once serializer (Some input) settings a b (one, s, is) (two, t, it) = is ∙ (ap serializing.answer_of (plain.serializers serializer input settings one two s t) ∙ sym it)

  streamed_once : (deserializer : D) (may : Bool) (response : Option HttpResponse) (settings : StandingLayers) (a b : Answer) → deserializing.Streams means.streams deserializer may response settings a → deserializing.Streams means.streams deserializer may response settings b → a ≡ b
  streamed_once deserializer may None settings a b s t = s ∙ sym t
  streamed_once deserializer false (Some response) settings a b s t = s ∙ sym t
  streamed_once deserializer true (Some response) settings a b (one, s, is) (two, t, it) = is ∙ (ap deserializing.streamed (plain.streams deserializer response settings one two s t) ∙ sym it)

  deserialized_once : (deserializer : D) (response : Option HttpResponse) (settings : StandingLayers) (a b : Answer) → deserializing.Deserializes means.deserializes deserializer response settings a → deserializing.Deserializes means.deserializes deserializer response settings b → a ≡ b
  deserialized_once deserializer None settings a b s t = s ∙ sym t
  deserialized_once deserializer (Some response) settings a b (one, s, is) (two, t, it) = is ∙ (ap answers.Outcome (plain.deserializers deserializer response settings one two s t) ∙ sym it)

  pub answer_once : (question : Question) (old other new more : Client) (a b : Answer) → Alike old other → Answers (over_registers bucket amount limiters means) old question a new → Answers (over_registers bucket amount limiters means) other question b more
      → (a ≡ b) × Alike new more
  answer_once (questions.Configure stage settings) old other new more a b alike s t = configures old other new more a b alike stage s t
  answer_once (questions.Hook hook view) old other new more a b alike s t = runs_hook old other new more a b alike hook view s t
  answer_once (questions.Serialize input settings) old other new more a b alike s t =
      stays old other new more a b alike (serializing.Serializes means.serializes old.given.serializer input settings) (serialized_once old.given.serializer input settings) s.0
      (subst (λ g. serializing.Serializes means.serializes g input settings b) (sym alike.given.serializer) t.0) s.1 t.1
  answer_once (questions.Load request) old other new more a b alike s t = (s.0 ∙ sym t.0, by_others new old more other s.1 t.1 alike)
  answer_once (questions.Initial settings) old other new more a b alike s t = begins old other new more a b alike settings s t
  answer_once (questions.Start role nanos) old other new more a b alike s t = starts old other new more a b alike role nanos s t
  answer_once (questions.Wait role) old other new more a b alike s t = waits old other new more a b alike role s t
  answer_once (questions.Choose settings) old other new more a b alike s t = chooses old other new more a b alike settings s t
  answer_once (questions.Endpoint settings identity) old other new more a b alike s t = (s.0 ∙ (ap answers.Endpoint alike.given.endpoint ∙ sym t.0), by_others new old more other s.1 t.1 alike)
  answer_once (questions.Apply settings request endpoint) old other new more a b alike s t = (applies_once request endpoint settings a b s.0 t.0, by_others new old more other s.1 t.1 alike)
  answer_once (questions.Sign settings request scheme identity endpoint) old other new more a b alike s t =
      stays old other new more a b alike (signing.Signs means.names means.signs old.given.schemes.items request scheme identity endpoint) (signs_once means.names means.signs plain.schemes old.given.schemes.items request scheme identity endpoint) s.0
      (subst (λ g. signing.Signs means.names means.signs g request scheme identity endpoint b) (sym alike.given.schemes) t.0) s.1 t.1
  answer_once (questions.Transmit settings request) old other new more a b alike s t = transmits_one old other new more a b alike settings request s t
  answer_once (questions.Stream settings response) old other new more a b alike s t =
      stays old other new more a b alike (deserializing.Streams means.streams old.given.deserializer old.given.may_stream response settings) (streamed_once old.given.deserializer old.given.may_stream response settings) s.0
      (subst (λ g. deserializing.Streams means.streams g old.given.may_stream response settings b) (sym alike.given.deserializer) (subst (λ m. deserializing.Streams means.streams other.given.deserializer m response settings b) (sym alike.given.may_stream) t.0)) s.1 t.1
  answer_once (questions.Body settings response) old other new more a b alike s t = reads_one old other new more a b alike settings response s t
  answer_once (questions.Deserialize settings response) old other new more a b alike s t =
      stays old other new more a b alike (deserializing.Deserializes means.deserializes old.given.deserializer response settings) (deserialized_once old.given.deserializer response settings) s.0
      (subst (λ g. deserializing.Deserializes means.deserializes g response settings b) (sym alike.given.deserializer) t.0) s.1 t.1
  answer_once (questions.Decide settings request response outcome attempt) old other new more a b alike s t = decides old other new more a b alike (decided_view settings request response outcome attempt) s t
  answer_once (questions.Abandon pending) old other new more a b alike s t = abandons old other new more a b alike pending s t
  answer_once questions.Park old other new more a b alike s t = parks old other new more a b alike s t

pub answers_once : {T X C I A R Z D P L : Type 0} (bucket amount : P → ℕ) (limiters : Limiters L) (means : ClientMeaning T X (Registers L) C I A R Z D P L) → AnswersAreDetermined bucket amount limiters means
answers_once bucket amount limiters means plain question one two after left a b alike s t = answer_once bucket amount limiters means plain question one two after left a b alike s t
