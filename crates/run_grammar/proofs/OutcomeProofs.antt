-- At the end of a whole run without a stop point an outcome stands.
use Rattle.run_grammar.specs.declared.production.Test.TheVariants as tests
use Rattle.std.proofs.Common.{true, false, cond, is_some, List, [], ◌∷◌, ◌≡◌, ◌⊎◌, refl, sym, subst, inl, inr}
use Rattle.smithy_types.specs.declared.hook.Hook.{Hook}
use Rattle.smithy_types.specs.declared.hook.Hook.TheVariants as hooks
use Rattle.smithy_types.specs.declared.kinds.StopPoint.TheVariants as stops
use Rattle.run_grammar.specs.declared.kind.Role.{Role}
use Rattle.run_grammar.specs.declared.kind.Role.TheVariants as roles
use Rattle.run_grammar.specs.declared.kind.Kind.TheVariants as kinds
use Rattle.run_grammar.specs.declared.answer.Entry.{Entry}
use Rattle.run_grammar.specs.Entry.{kind_of, pending, can_wait, is_pending}
use Rattle.run_grammar.specs.Question.{nanos_of}
use Rattle.run_grammar.specs.Fits.{fits}
use Rattle.run_grammar.specs.Change.{changed}
use Rattle.run_grammar.specs.Standing.{State, standing, step}
use Rattle.run_grammar.specs.Production.{Production, Nothing, Work, ◌⨟◌, Where, InAttempt, Ended}
use Rattle.run_grammar.specs.Words.{Word}
use Rattle.run_grammar.specs.Grammar.{hook, halted, arm, armed, opening, sending, streaming, attempt, settle, turn, again, round, loop, front, grant, op, finish, run}
use Rattle.run_grammar.specs.Tests.{answers_started, answers_not_streaming, answers_read, answers_decided_yes, is_start_of, went, started, not_streaming, body_read, decided_yes, checkpoint_stands}
use Rattle.run_grammar.specs.Laws.{EachFits}
use Rattle.run_grammar.specs.Outcomes.{OutcomeStands}
use Rattle.run_grammar.proofs.Spots.{standing-append}
use Rattle.run_grammar.proofs.Paths.{fits_of}
use Rattle.run_grammar.proofs.Outcomes.{Has, is_calm, deserialized, decided_stands, retried_stands, streamed_stands, read_stands}
use Rattle.run_grammar.proofs.OutcomeWords.{Stood, Sound, Keeps, Gives, LeavesFrom, answered_from, sound_on, joined, stood_covers, leaves_work, leaves_after, from_after, from_halt, keeps_nothing, keeps_work, keeps_then, keeps_where, gives_halt, gives_in_attempt, gives_rounds, carries_sound}
use Rattle.run_grammar.proofs.Grants.{Fresh, Gone, by_answer, by_one_answer, otherwise, no_choice, unless, early_fresh, begins_fresh, first_granted, gives_again}
use Rattle.run_grammar.proofs.RunLeaves.{behind_whole, from_armed, leaves_run}

-- ---- after the last answer of a kind

abbrev Streamed : State → Type 0
Streamed s = (not_streaming s ≡ true) ⊎ Stood s

streamed : (s : State) (e : Entry) → kind_of e ≡ kinds.Stream → pending e ≡ false → fits (kind_of e) e.answer ≡ true → Streamed (step s e)
unfolding step not_streaming
streamed s e k p f =
    subst (λ j. (answers_not_streaming e.answer ≡ true) ⊎ Has (changed j (nanos_of e.question) e.answer s.context)) (sym k)
    (streamed_stands (nanos_of e.question) e.answer s.context (subst (λ j. fits j e.answer ≡ true) k f))

abbrev Bodied : State → Type 0
Bodied s = (body_read s ≡ true) ⊎ Stood s

bodied : (s : State) (e : Entry) → kind_of e ≡ kinds.Body → pending e ≡ false → fits (kind_of e) e.answer ≡ true → Bodied (step s e)
unfolding step body_read pending
bodied s e k p f =
    subst (λ j. (answers_read e.answer ≡ true) ⊎ Has (changed j (nanos_of e.question) e.answer s.context)) (sym k)
    (read_stands (nanos_of e.question) e.answer s.context (subst (λ j. fits j e.answer ≡ true) k f) (subst (λ j. cond (can_wait j) (is_pending e.answer) false ≡ false) k p))

formed : (s : State) (e : Entry) → kind_of e ≡ kinds.Deserialize → pending e ≡ false → fits (kind_of e) e.answer ≡ true → Stood (step s e)
unfolding step changed fits
formed s e k p f =
    subst (λ j. Has (changed j (nanos_of e.question) e.answer s.context)) (sym k) (deserialized s.context e.answer (subst (λ j. fits j e.answer ≡ true) k f))

abbrev Decided : State → Type 0
Decided s = Stood s ⊎ ((decided_yes s ≡ true) × (checkpoint_stands s ≡ true))

decided : (s : State) (e : Entry) → Stood s → kind_of e ≡ kinds.Decide → fits (kind_of e) e.answer ≡ true → Decided (step s e)
unfolding step decided_yes checkpoint_stands
decided s e h k f =
    subst (λ j. Has (changed j (nanos_of e.question) e.answer s.context) ⊎ ((answers_decided_yes e.answer ≡ true) × (is_some (changed j (nanos_of e.question) e.answer s.context).context.checkpoint ≡ true))) (sym k)
    (decided_stands (nanos_of e.question) e.answer s.context (subst (λ j. fits j e.answer ≡ true) k f) h)

abbrev Retried : State → Type 0
Retried s = Stood s ⊎ ((started roles.Retry s ≡ true) × (checkpoint_stands s ≡ true))

retried : (s : State) (e : Entry) → Stood s → kind_of e ≡ kinds.Start roles.Retry → fits (kind_of e) e.answer ≡ true → Retried (step s e)
unfolding step started checkpoint_stands
retried s e h k f =
    subst (λ j. Has (changed j (nanos_of e.question) e.answer s.context) ⊎ ((cond (is_start_of roles.Retry j) (answers_started e.answer) false ≡ true) × (is_some (changed j (nanos_of e.question) e.answer s.context).context.checkpoint ≡ true))) (sym k)
    (retried_stands (nanos_of e.question) e.answer s.context (subst (λ j. fits j e.answer ≡ true) k f) h)

-- ---- the productions

gives_deserialize : Gives (Work kinds.Deserialize)
gives_deserialize = leaves_work Stood kinds.Deserialize formed

after_body : (ds : List Role) (s : State) (l : List Entry) → EachFits l → Word (Where tests.BodyRead (Work kinds.Deserialize) Nothing) ds Ended s l → Sound s → Bodied s → Stood (standing s l)
after_body ds s l fit w h p =
    (elim (body_read s) as (λ b. body_read s ≡ b → cond b (Word (Work kinds.Deserialize) ds Ended s l) (Word Nothing ds Ended s l) → Stood (standing s l)) [
      | true ↦ λ e v. gives_deserialize ds s l fit v h
      | false ↦ λ e v. keeps_nothing ds s l fit v (otherwise p (λ x. no_choice (body_read s) x e))
    ]) refl w

gives_body : Gives (Work kinds.Body ⨟ Where tests.BodyRead (Work kinds.Deserialize) Nothing)
gives_body = by_answer Bodied kinds.Body (Where tests.BodyRead (Work kinds.Deserialize) Nothing) bodied after_body

-- the response is read where it isn't streaming
abbrev reading : Production
reading = Where tests.NotStreaming (Work kinds.Body ⨟ Where tests.BodyRead (Work kinds.Deserialize) Nothing) Nothing

after_stream : (ds : List Role) (s : State) (l : List Entry) → EachFits l → Word reading ds Ended s l → Sound s → Streamed s → Stood (standing s l)
after_stream ds s l fit w h p =
    (elim (not_streaming s) as (λ b. not_streaming s ≡ b → cond b (Word (Work kinds.Body ⨟ Where tests.BodyRead (Work kinds.Deserialize) Nothing) ds Ended s l) (Word Nothing ds Ended s l) → Stood (standing s l)) [
      | true ↦ λ e v. gives_body ds s l fit v h
      | false ↦ λ e v. keeps_nothing ds s l fit v (otherwise p (λ x. no_choice (not_streaming s) x e))
    ]) refl w

after_streamed : (ds : List Role) (s : State) (l : List Entry) → EachFits l → Word (reading ⨟ hook hooks.ReadAfterDeserialization) ds Ended s l → Sound s → Streamed s → Stood (standing s l)
after_streamed ds s l fit (inl (a, b, e, v, w)) h p =
    let y = fits_of a b (subst EachFits e fit) in
    subst (λ m. Stood (standing s m)) (sym e)
    (subst Stood (sym (standing-append a b s)) (keeps_work (kinds.Hook hooks.ReadAfterDeserialization) refl ds (standing s a) b y.1 w (after_stream ds s a y.0 v h p)))
after_streamed ds s l fit (inr (x, w)) h p = absurd (cc)

gives_streaming : Gives streaming
gives_streaming = by_answer Streamed kinds.Stream (reading ⨟ hook hooks.ReadAfterDeserialization) streamed after_streamed

gives_attempt : Gives (attempt stops.None)
gives_attempt =
    leaves_after Stood opening (Where tests.Failed Nothing (halted (sending ∷ streaming ∷ [])))
    (gives_halt (halted (sending ∷ streaming ∷ [])) (leaves_after Stood sending (Where tests.Failed Nothing streaming) (gives_halt streaming gives_streaming)))

keeps_hook : (h : Hook) → Keeps (hook h)
keeps_hook h = keeps_work (kinds.Hook h) refl

keeps_settle : Keeps settle
keeps_settle = keeps_then (hook hooks.ModifyBeforeAttemptCompletion) (hook hooks.ReadAfterAttempt) (keeps_hook hooks.ModifyBeforeAttemptCompletion) (keeps_hook hooks.ReadAfterAttempt)

keeps_finish : Keeps finish
keeps_finish = keeps_then (hook hooks.ModifyBeforeCompletion) (hook hooks.ReadAfterExecution) (keeps_hook hooks.ModifyBeforeCompletion) (keeps_hook hooks.ReadAfterExecution)

-- what follows a Start Retry, and a Decide
abbrev waiting_again : Production
waiting_again = Where (tests.HasStarted roles.Retry) (Where tests.CheckpointStands (Work (kinds.Wait roles.Retry) ⨟ again) Nothing) Nothing

gives_waited : Gives (Work (kinds.Wait roles.Retry) ⨟ again)
gives_waited = leaves_after Stood (Work (kinds.Wait roles.Retry)) again gives_again

after_retry : (ds : List Role) (s : State) (l : List Entry) → EachFits l → Word waiting_again ds Ended s l → Sound s → Retried s → Stood (standing s l)
after_retry ds s l fit w h p =
    (elim (started roles.Retry s) as (λ b. started roles.Retry s ≡ b →
    cond b (cond (checkpoint_stands s) (Word (Work (kinds.Wait roles.Retry) ⨟ again) ds Ended s l) (Word Nothing ds Ended s l)) (Word Nothing ds Ended s l) → Stood (standing s l)) [
      | true ↦ λ e.
          elim (checkpoint_stands s) as (λ b. checkpoint_stands s ≡ b → cond b (Word (Work (kinds.Wait roles.Retry) ⨟ again) ds Ended s l) (Word Nothing ds Ended s l) → Stood (standing s l)) [
            | true ↦ λ f v. gives_waited ds s l fit v h
            | false ↦ λ f v. keeps_nothing ds s l fit v (unless p (λ x. no_choice (checkpoint_stands s) x.1 f))
          ] refl
      | false ↦ λ e v. keeps_nothing ds s l fit v (unless p (λ x. no_choice (started roles.Retry s) x.0 e))
    ]) refl w

-- a pause before the operation ends
abbrev pausing : Production
pausing = Work (kinds.Start roles.LongPoll) ⨟ Where (tests.HasStarted roles.LongPoll) (Work (kinds.Wait roles.LongPoll)) Nothing

keeps_pausing : Keeps pausing
keeps_pausing =
    keeps_then (Work (kinds.Start roles.LongPoll)) (Where (tests.HasStarted roles.LongPoll) (Work (kinds.Wait roles.LongPoll)) Nothing) (keeps_work (kinds.Start roles.LongPoll) refl)
    (keeps_where (tests.HasStarted roles.LongPoll) (Work (kinds.Wait roles.LongPoll)) Nothing (keeps_work (kinds.Wait roles.LongPoll) refl) keeps_nothing)

abbrev retrying : Production
retrying = Where tests.DecidedDelay (Work (kinds.Start roles.Retry) ⨟ waiting_again) Nothing

keeps_retrying : Keeps retrying
keeps_retrying = keeps_where tests.DecidedDelay (Work (kinds.Start roles.Retry) ⨟ waiting_again) Nothing (by_one_answer Retried (kinds.Start roles.Retry) waiting_again refl retried after_retry) keeps_nothing

abbrev going_on : Production
going_on = Where tests.DecidedYes (Where tests.CheckpointStands again Nothing) (Where tests.DecidedNoAfter pausing retrying)

after_decision : (ds : List Role) (s : State) (l : List Entry) → EachFits l → Word going_on ds Ended s l → Sound s → Decided s → Stood (standing s l)
after_decision ds s l fit w h p =
    (elim (decided_yes s) as (λ b. decided_yes s ≡ b →
    cond b (cond (checkpoint_stands s) (Word again ds Ended s l) (Word Nothing ds Ended s l)) (Word (Where tests.DecidedNoAfter pausing retrying) ds Ended s l) →
    Stood (standing s l)) [
      | true ↦ λ e.
          elim (checkpoint_stands s) as (λ b. checkpoint_stands s ≡ b → cond b (Word again ds Ended s l) (Word Nothing ds Ended s l) → Stood (standing s l)) [
            | true ↦ λ f v. gives_again ds s l fit v h
            | false ↦ λ f v. keeps_nothing ds s l fit v (unless p (λ x. no_choice (checkpoint_stands s) x.1 f))
          ] refl
      | false ↦ λ e v. keeps_where tests.DecidedNoAfter pausing retrying keeps_pausing keeps_retrying ds s l fit v (unless p (λ x. no_choice (decided_yes s) x.0 e))
    ]) refl w

-- an attempt and its completion; the decision, and what follows it
decided_after_work : (ds : List Role) (s : State) (l : List Entry) → EachFits l → Word (Work kinds.Decide) ds Ended s l → Stood s → Decided (standing s l)
decided_after_work ds s l fit (inl (x, (n, v))) h = answered_from Stood Decided kinds.Decide refl decided ds n l s fit v h
decided_after_work ds s l fit (inr (d, x, v)) h = absurd (cc)

settled_decided : (ds : List Role) (s : State) (l : List Entry) → EachFits l → Word (settle ⨟ Work kinds.Decide) ds Ended s l → Stood s → Decided (standing s l)
settled_decided ds s l fit (inl (a, b, e, v, w)) h =
    let y = fits_of a b (subst EachFits e fit) in
    joined Decided a b l s e (decided_after_work ds (standing s a) b y.1 w (keeps_settle ds s a y.0 v h))
settled_decided ds s l fit (inr (x, w)) h = absurd (cc)

gives_tried : Gives (armed roles.Attempt (InAttempt (attempt stops.None)) Nothing)
gives_tried = from_armed Sound Stood roles.Attempt (InAttempt (attempt stops.None)) Nothing stood_covers refl (carries_sound (arm roles.Attempt)) (gives_in_attempt (attempt stops.None) gives_attempt) keeps_nothing

turn_decided : (ds : List Role) (s : State) (l : List Entry) → EachFits l → Word (turn stops.None) ds Ended s l → Sound s → Decided (standing s l)
turn_decided ds s l fit (inl (a, b, e, v, w)) h =
    let y = fits_of a b (subst EachFits e fit) in
    joined Decided a b l s e (settled_decided ds (standing s a) b y.1 w (gives_tried ds s a y.0 v h))
turn_decided ds s l fit (inr (x, w)) h = absurd (cc)

gives_round : Gives (round stops.None)
gives_round ds s l fit (inl (a, b, e, v, w)) h =
    let y = fits_of a b (subst EachFits e fit) in
    joined Stood a b l s e (after_decision ds (standing s a) b y.1 w (sound_on a s y.0 h) (turn_decided ds s a y.0 v h))
gives_round ds s l fit (inr (x, w)) h = absurd (cc)

gives_loop : Gives (loop stops.None)
gives_loop = gives_rounds (round stops.None) (round stops.None) gives_round gives_round

-- ---- the operation

after_gone : (ds : List Role) (s : State) (l : List Entry) → EachFits l → Word (Where tests.Went (loop stops.None) Nothing) ds Ended s l → Sound s → Gone s → Stood (standing s l)
after_gone ds s l fit w h p =
    (elim (went s) as (λ b. went s ≡ b → cond b (Word (loop stops.None) ds Ended s l) (Word Nothing ds Ended s l) → Stood (standing s l)) [
      | true ↦ λ e v. gives_loop ds s l fit v h
      | false ↦ λ e v. keeps_nothing ds s l fit v (otherwise p (λ x. no_choice (went s) x e))
    ]) refl w

gives_granted : LeavesFrom Fresh Stood (grant ⨟ Where tests.Went (loop stops.None) Nothing)
gives_granted ds s l fit (inl (a, b, e, v, w)) h =
    let y = fits_of a b (subst EachFits e fit) in
    joined Stood a b l s e (after_gone ds (standing s a) b y.1 w (sound_on a s y.0 h.0) (first_granted ds s a y.0 v h))
gives_granted ds s l fit (inr (x, w)) h = absurd (cc)

gives_op : LeavesFrom Fresh Stood (op stops.None)
gives_op =
    from_after Fresh Stood front (Where tests.Failed Nothing (grant ⨟ Where tests.Went (loop stops.None) Nothing)) (early_fresh.carried front refl)
    (from_halt Fresh Stood (grant ⨟ Where tests.Went (loop stops.None) Nothing) stood_covers early_fresh.sound gives_granted)

-- ---- the run

keeps_arm : (d : Role) → is_calm (kinds.Start d) ≡ true → Keeps (arm d)
keeps_arm d c = keeps_where (tests.TimeoutStands d) (Work (kinds.Start d)) Nothing (keeps_work (kinds.Start d) c) keeps_nothing

gives_run : LeavesFrom Fresh Stood (run stops.None)
gives_run = leaves_run Fresh Stood stops.None early_fresh stood_covers (keeps_arm roles.Operation refl) keeps_settle keeps_finish gives_op

pub outcome_stands : OutcomeStands
outcome_stands = behind_whole Fresh Stood stops.None begins_fresh gives_run
