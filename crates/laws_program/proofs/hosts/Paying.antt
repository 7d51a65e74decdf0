-- A line moves the registers by the entries of its seat.
use Rattle.std.proofs.Common.{◌≡◌, ◌∙◌, inl, inr, refl, sym, ap, subst, ℕ, zero, suc, Bool, List, [], ◌∷◌, ◌++◌, append-nil, Option, None, Some, slice_get, slice_set}
use Rattle.cli_client.specs.Means.{own_chain, own_says}
use Rattle.cli_client_runs.specs.Means.{quota_means}
use Rattle.cli_serve.specs.Means.{client_means}
use Rattle.cli_serve.specs.Opening.{ServedClient, ServedTypes}
use Rattle.client_builder.specs.declared.scheme.IdentityResolver.{IdentityResolver}
use Rattle.client_builder.specs.declared.scheme.Scheme.{Scheme}
use Rattle.client_components.proofs.PaidLemmas.{all_paid}
use Rattle.client_components.proofs.QuotaLemmas.{stays}
use Rattle.client_components.specs.Retrying.{decided_view}
use Rattle.client_components.specs.Serving.{Answers, Served, Serves}
use Rattle.client_components.specs.declared.parts.Parts.{Parts}
use Rattle.client_retries.specs.Deciding.{IsDecided}
use Rattle.client_retries.specs.Hooking.{seen_context}
use Rattle.client_retries.specs.Meanings.{InterceptorMeans}
use Rattle.client_retries.specs.declared.strategy.RetryStrategy.{RetryStrategy}
use Rattle.client_retries.specs.declared.strategy.RetryStrategy.TheVariants.{Never, Standard}
use Rattle.client_scripted.specs.declared.service.scheme.ServiceScheme.{ServiceScheme}
use Rattle.host_session.specs.Feeding.{Meets, MeetsBy, TakesAt, lent}
use Rattle.host_session.specs.Refusing.{refusal_at}
use Rattle.host_session.specs.Seats.{Drives, GivesAnyUp, GoesOn, GoesOnAs, Rests, Takes, feeding}
use Rattle.host_session.specs.Talking.{Stand}
use Rattle.host_session.specs.declared.seat.Seat.{Seat}
use Rattle.host_session.specs.declared.seat.SeatRun.{SeatRun}
use Rattle.host_session.specs.declared.seat.SeatTerms.{SeatTerms}
use Rattle.host_session.specs.declared.service.classifier.HostedClassifier.{HostedClassifier}
use Rattle.host_session.specs.declared.service.deserializer.HostedDeserializer.{HostedDeserializer}
use Rattle.host_session.specs.declared.service.serializer.HostedSerializer.{HostedSerializer}
use Rattle.host_session.specs.declared.session.Fed.{Fed}
use Rattle.host_session.specs.declared.session.Fed.TheVariants.{Open}
use Rattle.host_session.specs.declared.session.Session.{Session}
use Rattle.host_session.specs.declared.why.Why.{Why}
use Rattle.identity_cell.specs.declared.no_auth.NoAuthIdentityResolver.{NoAuthIdentityResolver}
use Rattle.json_host.specs.Messages.{IsMessage}
use Rattle.json_host.specs.declared.message.HostMessage.{HostMessage}
use Rattle.json_host.specs.declared.message.HostMessage.TheVariants as message
use Rattle.json_host.specs.declared.message.SeatMessage.{SeatMessage}
use Rattle.json_host.specs.declared.message.SeatMessage.TheVariants as seat_message
use Rattle.outside.specs.Calls.{OutsideCall}
use Rattle.outside_hosted.specs.declared.hosted_outside.HostedOutside.{HostedOutside}
use Rattle.rate_limit.specs.Pace.{Pace}
use Rattle.retry_quota.specs.Registers.{Registers}
use Rattle.retry_quota.specs.declared.permit.Permit.{Permit}
use Rattle.run_grammar.specs.declared.answer.Answer.{Answer}
use Rattle.run_grammar.specs.declared.answer.Answer.TheVariants as answers
use Rattle.run_grammar.specs.declared.answer.Entry.{Entry}
use Rattle.run_grammar.specs.declared.question.Question.{Question}
use Rattle.run_grammar.specs.declared.question.Question.TheVariants as questions
use Rattle.smithy_context.specs.declared.context.InterceptorContext.{InterceptorContext}
use Rattle.smithy_types.specs.Chain.{Chained}
use Rattle.smithy_types.specs.declared.notes.Choice.{Choice}
use Rattle.smithy_types.specs.declared.notes.Choice.TheVariants.{No}
use Rattle.smithy_types.specs.declared.notes.DecideNote.{DecideNote}
use Rattle.smithy_types.specs.declared.notes.RetryAction.{RetryAction}
use Rattle.laws_program.proofs.hosts.Worlds.{means}
use Rattle.laws_program.specs.Hosts.Paying.{AnswerTells, ConversationMoves, ConversationsPay, EachLineMoves, Grew, LinesPay, Moves, NoteTells, Steps, Tells}

-- ---- what a decision's note tells

note_tells : (verdict : RetryAction) (time_source : Bool) (c : InterceptorContext) (old : RetryStrategy Permit) (q : Registers Pace) (choice : Choice) (note : Option DecideNote) (new : RetryStrategy Permit) (calls : List OutsideCall) (after : Registers Pace)
    → IsDecided quota_means verdict time_source c old q (answers.Decided choice note) new calls after → NoteTells after c.view.settings note
note_tells verdict time_source c (Never never) q choice None new calls after h = tt
note_tells verdict time_source c (Never never) q choice (Some note) new calls after h = absurd (noted choice note h.0)
  where
    noted : (choice : Choice) (note : DecideNote) → answers.Decided choice (Some note) ≡ answers.Decided No None → ⊥
    noted choice note e = absurd (cc e)
note_tells verdict time_source c (Standard standard) q choice None new calls after h = tt
note_tells verdict time_source c (Standard standard) q choice (Some note) new calls after h = ap (λ (n : DecideNote). n.sums) h.2.decides.3

answer_tells : (verdict : RetryAction) (time_source : Bool) (c : InterceptorContext) (old : RetryStrategy Permit) (q : Registers Pace) (a : Answer) (new : RetryStrategy Permit) (calls : List OutsideCall) (after : Registers Pace)
    → IsDecided quota_means verdict time_source c old q a new calls after → AnswerTells after c.view.settings a
answer_tells verdict time_source c old q (answers.Decided choice note) new calls after h = note_tells verdict time_source c old q choice note new calls after h
answer_tells verdict time_source c old q _ new calls after h = tt

-- ---- an element of a list is exchanged

set_stands : {X : Type 0} (xs : List X) (i : ℕ) (x y : X) → slice_get xs i ≡ Some x → slice_get (slice_set xs i y) i ≡ Some y
set_stands [] i x y e = absurd (cc e)
set_stands (z ∷ xs) zero x y e = refl
set_stands (z ∷ xs) (suc i) x y e = set_stands xs i x y e

-- the parts of a host's client
abbrev ServedParts : (C I : Type 0) → Type 0
ServedParts C I =
    Parts (ServedTypes C I) HostedOutside (Registers Pace) (HostedClassifier C) I (Scheme ServiceScheme) (IdentityResolver NoAuthIdentityResolver) HostedSerializer HostedDeserializer Permit Pace

module _ {C I : Type 0} where
  abbrev log_of : ServedClient C I → List Entry
  log_of c = c.components.log

  abbrev registers_of : ServedClient C I → Registers Pace
  registers_of c = c.components.parts.quota

  -- the client with these parts
  abbrev with_parts : ServedClient C I → ServedParts C I → ServedClient C I
  with_parts c parts = record c { components = record c.components { parts = parts } }

  module _ (says : C → InterceptorContext → RetryAction → RetryAction) (chain : InterceptorMeans I) where
    tells : (old new : ServedParts C I) (q : Question) (a : Answer) → Answers (client_means says chain) old q a new → Tells new.quota q a
    tells old new (questions.Decide settings request response outcome attempt) a h =
        answer_tells _ old.given.time_source (seen_context (decided_view settings request response outcome attempt)) old.strategy old.quota a new.strategy h.calls new.quota h.decided
    tells old new _ a h = tt

    -- what one entry makes of the registers
    step : (c : ServedClient C I) (old new : ServedParts C I) (e : Entry) → Serves (client_means says chain) old e new → Steps says chain old.quota e new.quota
    step c old new e serves = record {
      from = with_parts c old;
      to = with_parts c new;
      serves = serves;
      old_is = refl;
      new_is = refl;
      still = λ other. stays (client_means says chain) old new e.question e.answer serves other;
      pays = (all_paid (client_means says chain) old new (e ∷ []) (new, serves, refl)).0;
      tells = tells old new e.question e.answer serves;
    }

    steps : (c : ServedClient C I) (old new : ServedParts C I) (l : List Entry) → Served (client_means says chain) old l new → Chained (Steps says chain) old.quota l new.quota
    steps c old new [] same = ap (λ (p : ServedParts C I). p.quota) same
    steps c old new (e ∷ es) (mid, serves, rest) = (mid.quota, step c old mid e serves, steps c mid new es rest)

    -- ---- a run is driven on

    -- its log grew by these entries, and so the registers were moved
    record Made (old new : ServedClient C I) : Type 0 where
      entries : List Entry
      steps : Chained (Steps says chain) (registers_of old) entries (registers_of new)
      grew : log_of new ≡ log_of old ++ entries

    driven : (run after : SeatRun) (old new : ServedClient C I) → Drives (means says chain) old run new after → Made old new
    driven run after old new d = record {
      entries = d.related.0;
      steps = steps old old.components.parts new.components.parts d.related.0 (d.related.2 old [] refl);
      grew = d.related.1;
    }

    -- what follows touches neither
    made_then : (old mid new : ServedClient C I) → Made old mid → registers_of new ≡ registers_of mid → log_of new ≡ log_of mid → Made old new
    made_then old mid new made registers log = record {
      entries = made.entries;
      steps = subst (λ q. Chained (Steps says chain) (registers_of old) made.entries q) (sym registers) made.steps;
      grew = log ∙ made.grew;
    }

    -- nothing was made
    made_none : (old new : ServedClient C I) → registers_of new ≡ registers_of old → log_of new ≡ log_of old → Made old new
    made_none old new registers log = record { entries = []; steps = registers; grew = log ∙ sym (append-nil (log_of old)) }

    rested : (number : ℕ) (old new : ServedClient C I) (before text : List ℕ) → Rests (means says chain) number old before new text → registers_of new ≡ registers_of old
    rested number old new before text r = ap registers_of r.after ∙ ap (λ (p : ServedParts C I). p.quota) r.ends.0.others

    quiet : (number : ℕ) (old new : ServedClient C I) (before text : List ℕ) → Rests (means says chain) number old before new text → log_of new ≡ log_of old
    quiet number old new before text r = ap log_of r.after ∙ r.ends.1

    goes_on_as : (run : SeatRun) (old : ServedClient C I) (terms : SeatTerms) (new : Seat (ServedClient C I)) (before text : List ℕ) → GoesOnAs (means says chain) run old terms before new text → Made old new.world
    goes_on_as run old terms new before text g =
        let made = driven run g.after old g.world g.drives in
        elim g.told as (λ _. Made old new.world) [
          | inl w ↦ made_then old g.world new.world made (ap (λ (s : Seat (ServedClient C I)). registers_of s.world) w.1.after) (ap (λ (s : Seat (ServedClient C I)). log_of s.world) w.1.after)
          | inr (through, c) ↦ made_then old g.world new.world made (rested terms.number g.world new.world before c.told c.rest) (quiet terms.number g.world new.world before c.told c.rest)
        ]

    goes_on : (run : Option SeatRun) (old : ServedClient C I) (terms : SeatTerms) (new : Seat (ServedClient C I)) (before text : List ℕ) → GoesOn (means says chain) run old terms before new text → Made old new.world
    goes_on None old terms new before text g =
        made_none old new.world (ap (λ (s : Seat (ServedClient C I)). registers_of s.world) g.0) (ap (λ (s : Seat (ServedClient C I)). log_of s.world) g.0)
    goes_on (Some run) old terms new before text g = goes_on_as run old terms new before text g

    -- ---- a seat takes a message

    record Taken (m : SeatMessage) (old new : Seat (ServedClient C I)) : Type 0 where
      entries : List Entry
      steps : Chained (Steps says chain) (registers_of old.world) entries (registers_of new.world)
      grew : Grew m (log_of old.world) entries (log_of new.world)

    gives_up : (moment : ℕ) (run : Option SeatRun) (old new : Seat (ServedClient C I)) (before text : List ℕ) → GivesAnyUp (means says chain) run (feeding (means says chain) moment [] old.world) old.terms before new text → Taken (seat_message.GiveUp moment) old new
    gives_up moment None old new before text g = record {
      entries = [];
      steps = ap (λ (s : Seat (ServedClient C I)). registers_of s.world) g.0;
      grew = (refl, ap (λ (s : Seat (ServedClient C I)). log_of s.world) g.0);
    }
    gives_up moment (Some run) old new before text g =
        let fed = feeding (means says chain) moment [] old.world in
        record {
          entries = [];
          steps = rested old.terms.number fed new.world before g.told g.rest;
          grew = (refl, quiet old.terms.number fed new.world before g.told g.rest);
        }

    taken : (m : SeatMessage) (old new : Seat (ServedClient C I)) (before text : List ℕ) → Takes (means says chain) m old before new text → Taken m old new
    taken (seat_message.Invoke i) old new before text t =
        let made = goes_on_as t.run (feeding (means says chain) i.moment [] ((means says chain).emptied old.world)) old.terms new before text t.goes_on in
        record { entries = made.entries; steps = made.steps; grew = made.grew }
    taken (seat_message.At moment events) old new before text t =
        let made = goes_on old.run (feeding (means says chain) moment events old.world) old.terms new before text t in
        record { entries = made.entries; steps = made.steps; grew = made.grew }
    taken (seat_message.GiveUp moment) old new before text t = gives_up moment old.run old new before text t

    -- ---- a session takes a line

    nothing : (line : List ℕ) (old new : Session (ServedClient C I)) → new ≡ old → Moves says chain old line new
    nothing line old new same = record { entries = []; steps = ap (λ (s : Session (ServedClient C I)). s.quota) same; grew = inr (refl, same) }

    taken_at : (line : List ℕ) (number : ℕ) (m : SeatMessage) (old new : Session (ServedClient C I)) (before text : List ℕ) → IsMessage line (message.Seat number m) → TakesAt (means says chain) number m old before new text → Moves says chain old line new
    taken_at line number m old new before text is t =
        let seat = lent (means says chain) old.quota t.seat in
        let came = taken m seat t.after before text t.takes in
        let left = lent (means says chain) ((means says chain).quota t.seat.world) t.after in
        record {
          entries = came.entries;
          steps = subst (λ q. Chained (Steps says chain) old.quota came.entries q) (sym t.quota) came.steps;
          grew = inl (record {
            number = number;
            asked = m;
            is = is;
            seat = t.seat;
            stands = t.stands;
            after = left;
            stands_after = subst (λ l. slice_get l number ≡ Some left) (sym t.seats) (set_stands old.seats.items number t.seat left t.stands);
            grew = came.grew;
          });
        }

    met_by : (refusal : Option Why) (line : List ℕ) (number : ℕ) (m : SeatMessage) (old new : Session (ServedClient C I)) (before text : List ℕ) (come : Fed) → IsMessage line (message.Seat number m) → MeetsBy (means says chain) refusal number m old before new text come → Moves says chain old line new
    met_by (Some reason) line number m old new before text come is h = nothing line old new h.same
    met_by None line number m old new before text come is h = taken_at line number m old new before text is h.0

    met : (line : List ℕ) (m : HostMessage) (old new : Session (ServedClient C I)) (before text : List ℕ) (come : Fed) → IsMessage line m → Meets (means says chain) m old before new text come → Moves says chain old line new
    met line (message.Seat number m) old new before text come is h = met_by (refusal_at old.seats.items number m) line number m old new before text come is h
    met line message.Sums old new before text come is h = nothing line old new h.0
    met line message.Close old new before text come is h = nothing line old new h.0

    each_line : EachLineMoves says chain
    each_line line old new before text come (inl (m, is, h)) = met line m old new before text come is h
    each_line line old new before text come (inr (none, h)) = nothing line old new h.same

    conversation : ConversationMoves says chain
    conversation [] old new same = ap (λ (s : Stand (ServedClient C I)). s.session) same
    conversation (line ∷ lines) old new (mid, turn, rest) =
        (mid.session, each_line line old.session mid.session [] turn.tells.told Open turn.tells.feeds, conversation lines mid new rest)

pub lines_pay : LinesPay
lines_pay = each_line own_says own_chain

pub conversations_pay : ConversationsPay
conversations_pay = conversation own_says own_chain
