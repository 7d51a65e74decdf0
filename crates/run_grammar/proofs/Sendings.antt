-- A transmission is handed a request.
use Rattle.run_grammar.specs.declared.production.Test.{Test}
use Rattle.run_grammar.specs.declared.production.Test.TheVariants as tests
use Rattle.std.proofs.Common.{Bool, true, false, cond, ℕ, Option, None, Some, is_some, List, [], ◌∷◌, ◌++◌, ◌≡◌, refl, sym, ap, ◌∙◌, subst, inl, inr, append_assoc}
use Rattle.smithy_types.specs.declared.fault.FaultKind.TheVariants as faults
use Rattle.smithy_types.specs.declared.hook.Hook.{Hook}
use Rattle.smithy_types.specs.declared.hook.Hook.TheVariants as hooks
use Rattle.smithy_types.specs.declared.http.HttpRequest.{HttpRequest}
use Rattle.smithy_types.specs.declared.kinds.Phase.TheVariants as phases
use Rattle.smithy_types.specs.declared.kinds.StopPoint.{StopPoint}
use Rattle.smithy_types.specs.declared.notes.Choice.TheVariants as choices
use Rattle.smithy_context.specs.Context.{restored_to}
use Rattle.smithy_context.specs.declared.intercept.Change.{Change}
use Rattle.smithy_context.specs.declared.intercept.Change.TheVariants as changes
use Rattle.smithy_context.specs.Hooks.{writes_input, writes_request, writes_response, writes_outcome}
use Rattle.run_grammar.specs.declared.kind.ConfigureStage.{ConfigureStage}
use Rattle.run_grammar.specs.declared.kind.ConfigureStage.TheVariants as stages
use Rattle.run_grammar.specs.declared.kind.Role.{Role}
use Rattle.run_grammar.specs.declared.kind.Role.TheVariants as roles
use Rattle.run_grammar.specs.declared.kind.Kind.{Kind}
use Rattle.run_grammar.specs.declared.kind.Kind.TheVariants as kinds
use Rattle.run_grammar.specs.declared.answer.Answer.{Answer}
use Rattle.run_grammar.specs.declared.answer.Answer.TheVariants as answers
use Rattle.run_grammar.specs.declared.answer.Entry.{Entry}
use Rattle.run_grammar.specs.declared.standing.Standing.{Standing}
use Rattle.run_grammar.specs.declared.question.Question.TheVariants as questions
use Rattle.run_grammar.specs.Entry.{fails, kind_of, sets_failure}
use Rattle.run_grammar.specs.Question.{nanos_of}
use Rattle.run_grammar.specs.Fits.{fits, fits_request}
use Rattle.run_grammar.specs.Change.{changed, fails_with, granted, is_unbegun, refused_text, or_fails, on_configure, on_hook, on_serialize, on_load, on_initial, on_start, on_wait, on_choose, on_endpoint, on_request, on_transmit, on_stream, on_body, on_deserialize, on_decide, rewound_to, written_by, merged_into, hook_failed, with_body, with_outcome, with_input, with_request, with_response, with_phase, serializing, loads_body}
use Rattle.run_grammar.specs.Standing.{State, WellHanded, asked, standing, start, step}
use Rattle.run_grammar.specs.Tests.{failed, holds}
use Rattle.run_grammar.specs.Production.{Production, Nothing, Work, ◌⨟◌, Where, Under, End, Ended}
use Rattle.run_grammar.specs.Words.{Word}
use Rattle.run_grammar.specs.Grammar.{hook, halted, arm, armed, settle, loop, front, grant, op, finish, configured, run}
use Rattle.run_grammar.specs.Laws.{EachFits, IsWhole}
use Rattle.run_grammar.specs.Sendings.{HandsRequest, TransmitsHaveRequests}
use Rattle.run_grammar.proofs.Spots.{standing-append}
use Rattle.run_grammar.proofs.Paths.{fits_of}
use Rattle.run_grammar.proofs.Outcomes.{either_way}
use Rattle.run_grammar.proofs.Requests.{HasRequest}
use Rattle.run_grammar.proofs.Avoiding.{Avoids, Aside, avoids, avoids_scope, word_avoids}
use Rattle.run_grammar.proofs.Watching.{answered_alone}

-- ---- a request that stands stands on

by_failing : (s : Standing) (a : Answer) → HasRequest s → HasRequest (or_fails s a)
by_failing s (answers.Failed t) h = h
by_failing s answers.Absent h = h
by_failing s _ h = h

by_rewind : (o : Option HttpRequest) (s : Standing) → s.context.checkpoint ≡ o → HasRequest s → HasRequest (rewound_to o s)
by_rewind None s e h = h
by_rewind (Some r) s e h = subst (λ o. is_some (restored_to o s.context).view.request ≡ true) (sym e) refl

by_configure : (w : ConfigureStage) (s : Standing) (a : Answer) → HasRequest s → HasRequest (on_configure w s a)
by_configure stages.Client s (answers.Layer l) h = h
by_configure stages.Operation s (answers.Layer l) h = h
by_configure stages.Final s (answers.Layer l) h = h
by_configure w s a h = by_failing s a h

by_written : (h : Hook) (s : Standing) (c : Option Change) → HasRequest s → HasRequest (written_by h s c)
by_written h s None g = g
by_written h s (Some (changes.Input p)) g = either_way HasRequest (writes_input h) (with_input s p) s g g
by_written h s (Some (changes.Request r)) g = either_way HasRequest (writes_request h) (with_request s r) s refl g
by_written h s (Some (changes.Response r)) g = either_way HasRequest (writes_response h) (with_response s r) s g g
by_written h s (Some (changes.Outcome o)) g = either_way HasRequest (writes_outcome h) (with_outcome s o) s g g

by_text : (h : Hook) (s : Standing) (t : Option (List ℕ)) → HasRequest s → HasRequest (hook_failed h s t)
by_text h s None g = g
by_text h s (Some t) g = g

by_hook : (h : Hook) (s : Standing) (a : Answer) → HasRequest s → HasRequest (on_hook h s a)
by_hook h s (answers.Hooked a) g = by_text h (merged_into (written_by h s a.change) a.settings) a.failure (by_written h s a.change g)
by_hook h s _ g = g

made_request : (s : Standing) (r : HttpRequest) → HasRequest (on_serialize s (answers.Request r))
made_request s r =
    let t = with_request (serializing s) r in
    either_way HasRequest (loads_body t.context.view.settings) t (with_phase t phases.BeforeTransmit) refl refl

by_serialize : (s : Standing) (a : Answer) → HasRequest s → HasRequest (on_serialize s a)
by_serialize s (answers.Request r) h = made_request s r
by_serialize s a h = by_failing (serializing s) a h

by_body : (o : Option HttpRequest) (b : List ℕ) → is_some o ≡ true → is_some (with_body o b) ≡ true
by_body None b h = h
by_body (Some r) b h = refl

by_load : (s : Standing) (a : Answer) → HasRequest s → HasRequest (on_load s a)
by_load s (answers.Loaded b) h = by_body s.context.view.request b h
by_load s a h = by_failing s a h

by_initial : (s : Standing) (a : Answer) → HasRequest s → HasRequest (on_initial s a)
by_initial s answers.Go h = either_way HasRequest (is_unbegun s) (granted s) s h h
by_initial s answers.No h = either_way HasRequest (is_unbegun s) (fails_with s faults.Other refused_text) s h h
by_initial s (answers.Delay n) h = h
by_initial s a h = by_failing s a h

by_start : (r : Role) (n : Option ℕ) (s : Standing) (a : Answer) → HasRequest s → HasRequest (on_start r n s a)
by_start roles.Operation n s answers.Started h = h
by_start roles.Attempt n s answers.Started h = h
by_start roles.Retry n s answers.Started h = by_rewind s.context.checkpoint s refl h
by_start roles.Send n s answers.Absent h = h
by_start roles.Retry n s answers.Absent h = h
by_start _ n s _ h = h

by_wait : (r : Role) (s : Standing) (a : Answer) → HasRequest s → HasRequest (on_wait r s a)
by_wait roles.Operation s answers.Ready h = h
by_wait roles.Attempt s answers.Ready h = h
by_wait _ s _ h = h

by_choose : (s : Standing) (a : Answer) → HasRequest s → HasRequest (on_choose s a)
by_choose s (answers.Chosen c) h = h
by_choose s a h = by_failing s a h

by_endpoint : (s : Standing) (a : Answer) → HasRequest s → HasRequest (on_endpoint s a)
by_endpoint s (answers.Endpoint e) h = h
by_endpoint s a h = by_failing s a h

by_request : (s : Standing) (a : Answer) → HasRequest s → HasRequest (on_request s a)
by_request s (answers.Request r) h = refl
by_request s a h = by_failing s a h

by_transmit : (s : Standing) (a : Answer) → HasRequest s → HasRequest (on_transmit s a)
by_transmit s answers.Pending h = h
by_transmit s (answers.Response r) h = h
by_transmit s (answers.ConnectorFailed k t) h = h
by_transmit s a h = by_failing (with_phase s phases.Transmit) a h

by_stream : (s : Standing) (a : Answer) → HasRequest s → HasRequest (on_stream s a)
by_stream s (answers.Outcome o) h = h
by_stream s answers.Absent h = h
by_stream s _ h = h

by_read : (s : Standing) (a : Answer) → HasRequest s → HasRequest (on_body s a)
by_read s (answers.Read b) h = h
by_read s (answers.Failed t) h = h
by_read s answers.Absent h = h
by_read s _ h = h

by_deserialize : (s : Standing) (a : Answer) → HasRequest s → HasRequest (on_deserialize s a)
by_deserialize s (answers.Outcome o) h = h
by_deserialize s answers.Absent h = h
by_deserialize s _ h = h

by_decide : (s : Standing) (a : Answer) → HasRequest s → HasRequest (on_decide s a)
by_decide s (answers.Decided choices.Yes n) h = by_rewind s.context.checkpoint s refl h
by_decide s (answers.Decided choices.No n) h = h
by_decide s (answers.Decided (choices.NoAfter d) n) h = h
by_decide s (answers.Decided (choices.Delay d) n) h = h
by_decide s a h = by_failing s a h

request_stands : (k : Kind) (n : Option ℕ) (a : Answer) (s : Standing) → HasRequest s → HasRequest (changed k n a s)
unfolding changed
request_stands (kinds.Configure w) n a s h = by_configure w s a h
request_stands (kinds.Hook x) n a s h = by_hook x s a h
request_stands kinds.Serialize n a s h = by_serialize s a h
request_stands kinds.Load n a s h = by_load s a h
request_stands kinds.Initial n a s h = by_initial s a h
request_stands (kinds.Start r) n a s h = by_start r n s a h
request_stands (kinds.Wait r) n a s h = by_wait r s a h
request_stands kinds.Choose n a s h = by_choose s a h
request_stands kinds.Endpoint n a s h = by_endpoint s a h
request_stands kinds.Apply n a s h = by_request s a h
request_stands kinds.Sign n a s h = by_request s a h
request_stands kinds.Transmit n a s h = by_transmit s a h
request_stands kinds.Stream n a s h = by_stream s a h
request_stands kinds.Body n a s h = by_read s a h
request_stands kinds.Deserialize n a s h = by_deserialize s a h
request_stands kinds.Decide n a s h = by_decide s a h
request_stands (kinds.Abandon x) n a s h = h
request_stands kinds.Park n a s h = h

-- ---- over a list

abbrev Made : State → Type 0
Made s = HasRequest s.context

made_step : (s : State) (e : Entry) → Made s → Made (step s e)
unfolding step
made_step s e h = request_stands (kind_of e) (nanos_of e.question) e.answer s.context h

made_on : (l : List Entry) (s : State) → Made s → Made (standing s l)
made_on [] s h = h
made_on (e ∷ l) s h = made_on l (step s e) (made_step s e h)

abbrev sends : Kind → Bool
sends kinds.Transmit = true
sends _ = false

beside : Aside sends
beside = record { waits = λ d. refl; parks = refl; gives_up = λ x. refl }

-- a request stands at each Transmit
abbrev Sends : State → List Entry → Type 0
Sends s [] = Unit {0}
Sends s (e ∷ l) = (kind_of e ≡ kinds.Transmit → Made s) × Sends (step s e) l

sends_made : (l : List Entry) (s : State) → Made s → Sends s l
sends_made [] s h = tt
sends_made (e ∷ l) s h = (λ k. h, sends_made l (step s e) (made_step s e h))

sends_never : (l : List Entry) (s : State) → Avoids sends l → Sends s l
sends_never [] s n = tt
sends_never (e ∷ l) s n = (λ k. absurd (let clash = sym (ap sends k) ∙ n.0 in cc clash), sends_never l (step s e) n.1)

sends_joined : (a b : List Entry) (s : State) → Sends s a → Sends (standing s a) b → Sends s (a ++ b)
sends_joined [] b s g h = h
sends_joined (e ∷ a) b s g h = (g.0, sends_joined a b (step s e) g.1 h)

sends_both : (a b l : List Entry) (s : State) → l ≡ a ++ b → Sends s a → Sends (standing s a) b → Sends s l
sends_both a b l s e g h = subst (Sends s) (sym e) (sends_joined a b s g h)

-- ---- the front of an operation leaves a request, where it doesn't fail

abbrev Makes : Production → Type 0
Makes p = (ds : List Role) (s : State) (l : List Entry) → EachFits l → Word p ds Ended s l → failed (standing s l) ≡ false → Made (standing s l)

-- what follows a step that didn't fail
makes_behind : (p q : Production) (ds : List Role) (s : State) (l : List Entry) → EachFits l → Word (p ⨟ Where tests.Failed Nothing q) ds Ended s l → failed (standing s l) ≡ false →
    ((a b : List Entry) → l ≡ a ++ b → EachFits a → EachFits b → Word p ds Ended s a → failed (standing s a) ≡ false → Word q ds Ended (standing s a) b → Made (standing (standing s a) b)) → Made (standing s l)
makes_behind p q ds s l f (inr (n, w)) r then_made = absurd (cc n)
makes_behind p q ds s l f (inl (a, b, e, v, w)) r then_made =
    let y = fits_of a b (subst EachFits e f) in
    let ends : standing s l ≡ standing (standing s a) b = ap (standing s) e ∙ standing-append a b s in
    (elim (failed (standing s a)) as (λ t. failed (standing s a) ≡ t → cond t (Word Nothing ds Ended (standing s a) b) (Word q ds Ended (standing s a) b) → Made (standing s l)) [
      | true ↦ λ halts v.
          let none : standing (standing s a) b ≡ standing s a = ap (standing (standing s a)) v.1 in
          let clash = sym halts ∙ (ap failed (sym (ends ∙ none)) ∙ r) in absurd (cc clash)
      | false ↦ λ goes u. subst Made (sym ends) (then_made a b e y.0 y.1 v goes u)
    ]) refl w

makes_then : (p q : Production) → Makes q → Makes (p ⨟ Where tests.Failed Nothing q)
makes_then p q g ds s l f w r = makes_behind p q ds s l f w r
    (λ a b e fa fb v goes u. g ds (standing s a) b fb u (let ends : standing s l ≡ standing (standing s a) b = ap (standing s) e ∙ standing-append a b s in ap failed (sym ends) ∙ r))

serialized_made : (attempt : ℕ) (a : Answer) (s : Standing) → fits_request a ≡ true → sets_failure kinds.Serialize attempt a ≡ false → HasRequest (on_serialize s a)
serialized_made attempt (answers.Request r) s f h = made_request s r
serialized_made attempt (answers.Failed t) s f h = absurd (cc h)
serialized_made attempt answers.Absent s f h = absurd (cc h)
serialized_made attempt _ s f h = absurd (cc f)

made_by_serialize : (s : State) (e : Entry) → kind_of e ≡ kinds.Serialize → fits (kind_of e) e.answer ≡ true → failed (step s e) ≡ false → Made (step s e)
unfolding step failed fails changed fits
made_by_serialize s e k f h =
    let n = (step s e).context.context.view.attempt in
    subst (λ j. HasRequest (changed j (nanos_of e.question) e.answer s.context)) (sym k)
    (serialized_made n e.answer s.context (subst (λ j. fits j e.answer ≡ true) k f) (subst (λ j. sets_failure j n e.answer ≡ false) k h))

makes_serialize : (q : Production) → Makes (Work kinds.Serialize ⨟ Where tests.Failed Nothing q)
makes_serialize q ds s l f w r = makes_behind (Work kinds.Serialize) q ds s l f w r (λ a b e fa fb v goes u.
    let alone = answered_alone kinds.Serialize ds Ended s a refl v in
    made_on b (standing s a) (subst (λ m. Made (standing s m)) (sym alone.1)
    (made_by_serialize s alone.0 alone.2 (subst EachFits alone.1 fa).0 (subst (λ m. failed (standing s m) ≡ false) alone.1 goes))))

abbrev loading : Production
loading = halted (Where tests.LoadBody (Work kinds.Load) Nothing ∷ hook hooks.ReadAfterSerialization ∷ hook hooks.ModifyBeforeRetryLoop ∷ [])

abbrev serialization : Production
serialization = Work kinds.Serialize ⨟ Where tests.Failed Nothing loading

makes_front : Makes front
makes_front =
    makes_then (hook hooks.ModifyBeforeSerialization) (hook hooks.ReadBeforeSerialization ⨟ Where tests.Failed Nothing serialization)
    (makes_then (hook hooks.ReadBeforeSerialization) serialization (makes_serialize loading))

-- ---- a run

abbrev Hands : Production → Type 0
Hands p = (ds : List Role) (x : End) (s : State) (l : List Entry) → EachFits l → Word p ds x s l → Sends s l

hands_never : (p : Production) → avoids sends p ≡ true → Hands p
hands_never p n ds x s l f w = sends_never l s (word_avoids sends beside p n ds x s l w)

hands_then : (p q : Production) → Hands p → Hands q → Hands (p ⨟ q)
hands_then p q g k ds x s l f (inl (a, b, e, v, w)) =
    let y = fits_of a b (subst EachFits e f) in
    sends_both a b l s e (g ds Ended s a y.0 v) (k ds x (standing s a) b y.1 w)
hands_then p q g k ds x s l f (inr (e, w)) = g ds x s l f w

hands_where : (test : Test) (p q : Production) → Hands p → Hands q → Hands (Where test p q)
hands_where test p q g k ds x s l f w =
    (elim (holds test s) as (λ b. cond b (Word p ds x s l) (Word q ds x s l) → Sends s l) [ true ↦ λ v. g ds x s l f v | false ↦ λ v. k ds x s l f v ]) w

hands_under : (d : Role) (p q : Production) → Hands p → avoids sends q ≡ true → Hands (Under d p q)
hands_under d p q g n ds x s l f (a, b, y, e, v, w) =
    let z = fits_of a b (subst EachFits e f) in
    sends_both a b l s e (g (d ∷ ds) y s a z.0 v)
    (sends_never b (standing s a) (avoids_scope sends beside d (λ o m. Word q ds o (standing s a) m) (λ o m u. word_avoids sends beside q n ds o (standing s a) m u) y x b w))

-- behind the front a request stands
hands_op : (stop : StopPoint) → Hands (op stop)
hands_op stop ds x s l f (inr (e, w)) = hands_never front refl ds x s l f w
hands_op stop ds x s l f (inl (a, b, e, v, w)) =
    let y = fits_of a b (subst EachFits e f) in
    let later = grant ⨟ Where tests.Went (loop stop) Nothing in
    sends_both a b l s e (hands_never front refl ds Ended s a y.0 v)
    ((elim (failed (standing s a)) as (λ t. failed (standing s a) ≡ t → cond t (Word Nothing ds x (standing s a) b) (Word later ds x (standing s a) b) → Sends (standing s a) b) [
      | true ↦ λ halts u. subst (Sends (standing s a)) (sym u.1) tt
      | false ↦ λ goes u. sends_made b (standing s a) (makes_front ds s a y.0 v goes)
    ]) refl w)

hands_worked : (stop : StopPoint) → Hands (armed roles.Operation (op stop) settle ⨟ finish)
hands_worked stop =
    hands_then (armed roles.Operation (op stop) settle) finish
    (hands_then (arm roles.Operation) (Where (tests.HasStarted roles.Operation) (Under roles.Operation (op stop) settle) (op stop)) (hands_never (arm roles.Operation) refl)
    (hands_where (tests.HasStarted roles.Operation) (Under roles.Operation (op stop) settle) (op stop) (hands_under roles.Operation (op stop) settle (hands_op stop) refl) (hands_op stop)))
    (hands_never finish refl)

hands_configured : (p : Production) → Hands p → Hands (configured p)
hands_configured p g =
    let halt : (q : Production) → Hands q → Hands (Where tests.Failed Nothing q) = λ q k. hands_where tests.Failed Nothing q (hands_never Nothing refl) k in
    let third = hook hooks.ReadBeforeExecutionOperation ⨟ Work (kinds.Configure stages.Final) ⨟ Where tests.Failed Nothing p in
    let second = hook hooks.ReadBeforeExecutionClient ⨟ Work (kinds.Configure stages.Operation) ⨟ Where tests.Failed Nothing third in
    hands_then (Work (kinds.Configure stages.Client)) (Where tests.Failed Nothing second) (hands_never (Work (kinds.Configure stages.Client)) refl) (halt second
    (hands_then (hook hooks.ReadBeforeExecutionClient) (Work (kinds.Configure stages.Operation) ⨟ Where tests.Failed Nothing third) (hands_never (hook hooks.ReadBeforeExecutionClient) refl)
    (hands_then (Work (kinds.Configure stages.Operation)) (Where tests.Failed Nothing third) (hands_never (Work (kinds.Configure stages.Operation)) refl) (halt third
    (hands_then (hook hooks.ReadBeforeExecutionOperation) (Work (kinds.Configure stages.Final) ⨟ Where tests.Failed Nothing p) (hands_never (hook hooks.ReadBeforeExecutionOperation) refl)
    (hands_then (Work (kinds.Configure stages.Final)) (Where tests.Failed Nothing p) (hands_never (Work (kinds.Configure stages.Final)) refl) (halt p g)))))))

hands_run : (stop : StopPoint) → Hands (run stop)
unfolding run
hands_run stop =
    hands_configured (Where tests.FailureStands (arm roles.Operation ⨟ finish) (armed roles.Operation (op stop) settle ⨟ finish))
    (hands_where tests.FailureStands (arm roles.Operation ⨟ finish) (armed roles.Operation (op stop) settle ⨟ finish) (hands_never (arm roles.Operation ⨟ finish) refl) (hands_worked stop))

sends_at : (before : List Entry) (e : Entry) (after : List Entry) (s : State) → Sends s (before ++ e ∷ after) → kind_of e ≡ kinds.Transmit → Made (standing s before)
sends_at [] e after s g k = g.0 k
sends_at (x ∷ before) e after s g k = sends_at before e after (step s x) g.1 k

handed_at : (before : List Entry) (e : Entry) (after : List Entry) (s : State) → WellHanded s (before ++ e ∷ after) → e.question ≡ asked (kind_of e) (standing s before)
handed_at [] e after s h = h.0
handed_at (x ∷ before) e after s h = handed_at before e after (step s x) h.1

some_request : (o : Option HttpRequest) → is_some o ≡ true → (r : HttpRequest) × (o ≡ Some r)
some_request None h = absurd (cc h)
some_request (Some r) h = (r, refl)

hands_asked : (s : State) (e : Entry) → kind_of e ≡ kinds.Transmit → e.question ≡ asked (kind_of e) s → Made s → HandsRequest e
unfolding asked
hands_asked s e k q made =
    let request = some_request s.context.context.view.request made in (
      s.context.context.view.settings,
      request.0,
      q ∙ (ap (λ j. asked j s) k ∙ ap (λ o. questions.Transmit s.context.context.view.settings o) request.1),
    )

pub transmits_have_requests : TransmitsHaveRequests
transmits_have_requests stop p before e begun k =
    let whole = subst (IsWhole stop (start p)) (append_assoc before (e ∷ []) begun.0) begun.1 in
    hands_asked (standing (start p) before) e k (handed_at before e begun.0 (start p) whole.handed)
    (sends_at before e begun.0 (start p) (hands_run stop [] Ended (start p) (before ++ e ∷ begun.0) whole.fitting whole.run) k)
