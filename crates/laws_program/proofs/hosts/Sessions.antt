-- What a session tells its host of a line is determined.
use Rattle.std.proofs.Common.{◌≡◌, ◌∙◌, inl, inr, refl, sym, ap, subst, ℕ, true, List, [], ◌++◌, Option, None, Some, slice_get, slice_set, is_some}
use Rattle.cli_serve.specs.Opening.{ServedClient}
use Rattle.client_retries.specs.Meanings.{InterceptorMeans}
use Rattle.host_session.specs.Feeding.{Feeds, Meets, MeetsBy, Refuses, RefusesLine, TakesAt, lent}
use Rattle.host_session.specs.Refusing.{refusal_at, refusal_by, refusal_of}
use Rattle.host_session.specs.declared.seat.Seat.{Seat}
use Rattle.host_session.specs.declared.seat.SeatRun.{SeatRun}
use Rattle.host_session.specs.declared.session.Fed.{Fed}
use Rattle.host_session.specs.declared.session.Session.{Session}
use Rattle.host_session.specs.declared.why.Why.{Why}
use Rattle.json_buckets.specs.Buckets.{buckets_text}
use Rattle.json_forms.specs.Lines.{line}
use Rattle.json_host.specs.Messages.{IsMessage}
use Rattle.json_host.specs.Replies.{end_data}
use Rattle.json_host.specs.declared.message.HostMessage.{HostMessage}
use Rattle.json_host.specs.declared.message.HostMessage.TheVariants as message
use Rattle.json_host.specs.declared.message.SeatMessage.{SeatMessage}
use Rattle.json_print.proofs.determined.Endings.{same_some}
use Rattle.rate_limit.specs.Pace.{Pace}
use Rattle.retry_quota.specs.Registers.{Registers}
use Rattle.run_grammar.specs.declared.answer.Entry.{Entry}
use Rattle.smithy_context.specs.declared.context.InterceptorContext.{InterceptorContext}
use Rattle.smithy_types.specs.declared.notes.RetryAction.{RetryAction}
use Rattle.laws_determined.specs.Calls.Alike.{MaybeAlike}
use Rattle.laws_determined.specs.Retries.Alike.{AreAlike}
use Rattle.laws_determined.specs.Retries.Kinds.{RunsAlike}
use Rattle.laws_program.proofs.clients.Each.{EachAlike, alike_at, found_alike, set_alike}
use Rattle.laws_program.proofs.hosts.Running.{UnderWayAlike}
use Rattle.laws_program.proofs.hosts.Seats.{SeatsAlike, takes_alike}
use Rattle.laws_program.proofs.hosts.Spoken.{OneTelling}
use Rattle.laws_program.proofs.hosts.Worlds.{BareAlike, back_alike, lent_alike, means}
use Rattle.laws_program.specs.Hosts.Telling.{AlikeOf}

-- a line is one message
one_message : (bytes : List ℕ) (m n : HostMessage) → IsMessage bytes m → IsMessage bytes n → m ≡ n
one_message bytes m n s t = same_some m n (sym s.1 ∙ t.1)

-- a run is under way at both, or at none
both_running : (one two : Option SeatRun) (log other : List Entry) → UnderWayAlike one two log other → is_some one ≡ is_some two
both_running None None log other going = refl
both_running None (Some two) log other going = absurd going
both_running (Some one) None log other going = absurd going
both_running (Some one) (Some two) log other going = refl

module _ {C I : Type 0} where
  -- as many seats, each alike but for its own quota, and registers that are alike
  pub record SessionsAlike (one two : Session (ServedClient C I)) : Type 0 where
    pub seats : EachAlike (SeatsAlike BareAlike) one.seats.items two.seats.items
    pub quota : AreAlike one.quota two.quota

  -- both refuse a message, or neither
  refused_by : (m : SeatMessage) (one two : Option (Seat (ServedClient C I))) → MaybeAlike (SeatsAlike BareAlike) one two → refusal_by one m ≡ refusal_by two m
  refused_by m None None same = refl
  refused_by m None (Some two) same = absurd same
  refused_by m (Some one) None same = absurd same
  refused_by m (Some one) (Some two) same = ap (refusal_of m) (both_running one.run two.run one.world.components.log two.world.components.log same.run)

  refused_at : (number : ℕ) (m : SeatMessage) (one two : Session (ServedClient C I)) → SessionsAlike one two → refusal_at one.seats.items number m ≡ refusal_at two.seats.items number m
  refused_at number m one two alike = refused_by m (slice_get one.seats.items number) (slice_get two.seats.items number) (alike_at (SeatsAlike BareAlike) one.seats.items two.seats.items number alike.seats)

  module _ (says : C → InterceptorContext → RetryAction → RetryAction) (chain : InterceptorMeans I) (runs : RunsAlike chain.runs) where
    -- what a message tells, and what it leaves
    abbrev Once : List ℕ → List ℕ → Fed → Fed → Session (ServedClient C I) → Session (ServedClient C I) → Type 0
    Once text other come came new more = OneTelling SessionsAlike (λ a b. a ≡ b) text other come came new more

    -- what a line tells, and what it leaves
    abbrev OnceOf : List ℕ → List ℕ → List ℕ → Fed → Fed → Session (ServedClient C I) → Session (ServedClient C I) → Type 0
    OnceOf bytes text other come came new more = OneTelling SessionsAlike (AlikeOf true bytes) text other come came new more

    taken_once : (number : ℕ) (m : SeatMessage) (old two new more : Session (ServedClient C I)) (before text other : List ℕ) (come came : Fed) → SessionsAlike old two → come ≡ came
        → TakesAt (means says chain) number m old before new text → TakesAt (means says chain) number m two before more other → Once text other come came new more
    taken_once number m old two new more before text other come came alike same s t =
        let found = found_alike (SeatsAlike BareAlike) old.seats.items two.seats.items number s.seat t.seat alike.seats s.stands t.stands in
        let told = takes_alike says chain runs m (lent (means says chain) old.quota s.seat) (lent (means says chain) two.quota t.seat) s.after t.after before text other
        (record { worlds = lent_alike says chain s.seat.world t.seat.world old.quota two.quota found.worlds alike.quota; run = found.run; terms = found.terms }) s.takes t.takes in
        let new_seat = lent (means says chain) ((means says chain).quota s.seat.world) s.after in
        let more_seat = lent (means says chain) ((means says chain).quota t.seat.world) t.after in
        let back : SeatsAlike BareAlike new_seat more_seat = record {
          worlds = back_alike says chain s.after.world t.after.world ((means says chain).quota s.seat.world) ((means says chain).quota t.seat.world) told.seats.worlds;
          run = told.seats.run;
          terms = told.seats.terms;
        } in
        let set = set_alike (SeatsAlike BareAlike) old.seats.items two.seats.items number new_seat more_seat alike.seats back in
        record {
          told_is = told.text_is;
          come_is = same;
          left = record {
            seats = subst (λ l. EachAlike (SeatsAlike BareAlike) l more.seats.items) (sym s.seats) (subst (λ l. EachAlike (SeatsAlike BareAlike) (slice_set old.seats.items number new_seat) l) (sym t.seats) set);
            quota = subst (λ (q : Registers Pace). AreAlike q more.quota) (sym s.quota) (subst (λ (q : Registers Pace). AreAlike ((means says chain).quota s.after.world) q) (sym t.quota) told.seats.worlds.halted.parts.quota);
          };
        }

    -- both sessions stay
    stays : (old two new more : Session (ServedClient C I)) → SessionsAlike old two → new ≡ old → more ≡ two → SessionsAlike new more
    stays old two new more alike p q = subst (λ x. SessionsAlike x more) (sym p) (subst (λ x. SessionsAlike old x) (sym q) alike)

    refused_once : (reason : Why) (old two new more : Session (ServedClient C I)) (before text other : List ℕ) (come came : Fed) → SessionsAlike old two
        → Refuses reason old before new text come → Refuses reason two before more other came → Once text other come came new more
    refused_once reason old two new more before text other come came alike s t = record { told_is = s.text_is ∙ sym t.text_is; come_is = s.stays ∙ sym t.stays; left = stays old two new more alike s.same t.same }

    met_by : (refusal : Option Why) (number : ℕ) (m : SeatMessage) (old two new more : Session (ServedClient C I)) (before text other : List ℕ) (come came : Fed) → SessionsAlike old two
        → MeetsBy (means says chain) refusal number m old before new text come → MeetsBy (means says chain) refusal number m two before more other came → Once text other come came new more
    met_by (Some reason) number m old two new more before text other come came alike s t = refused_once reason old two new more before text other come came alike s t
    met_by None number m old two new more before text other come came alike s t = taken_once number m old two new more before text other come came alike (s.1 ∙ sym t.1) s.0 t.0

    met_once : (m : HostMessage) (old two new more : Session (ServedClient C I)) (before text other : List ℕ) (come came : Fed) → SessionsAlike old two
        → Meets (means says chain) m old before new text come → Meets (means says chain) m two before more other came → Once text other come came new more
    met_once (message.Seat number m) old two new more before text other come came alike s t =
        met_by (refusal_at old.seats.items number m) number m old two new more before text other come came alike s
        (subst (λ r. MeetsBy (means says chain) r number m two before more other came) (sym (refused_at number m old two alike)) t)
    met_once message.Sums old two new more before text other come came alike s t = record {
      told_is = s.1 ∙ ap (λ books. (before ++ buckets_text 0 books) ++ line end_data) alike.quota.books ∙ sym t.1;
      come_is = s.2 ∙ sym t.2;
      left = stays old two new more alike s.0 t.0;
    }
    met_once message.Close old two new more before text other come came alike s t = record { told_is = s.1 ∙ sym t.1; come_is = s.2 ∙ sym t.2; left = stays old two new more alike s.0 t.0 }

    -- both tell that a line is no message
    unread_once : (bytes : List ℕ) (old two new more : Session (ServedClient C I)) (text other : List ℕ) (come came : Fed) → SessionsAlike old two → ((m : HostMessage) → IsMessage bytes m → ⊥)
        → RefusesLine old [] new text come → RefusesLine two [] more other came → OnceOf bytes text other come came new more
    unread_once bytes old two new more text other come came alike none s t = record {
      told_is = inr (record { none = none; first = s.told; second = t.told });
      come_is = s.stays ∙ sym t.stays;
      left = stays old two new more alike s.same t.same;
    }

    heard_once : (bytes text other : List ℕ) (new more : Session (ServedClient C I)) (come came : Fed) → Once text other come came new more → OnceOf bytes text other come came new more
    heard_once bytes text other new more come came once = record { told_is = inl once.told_is; come_is = once.come_is; left = once.left }

    pub fed_once : (bytes : List ℕ) (old two new more : Session (ServedClient C I)) (text other : List ℕ) (come came : Fed) → SessionsAlike old two
        → Feeds (means says chain) bytes old [] new text come → Feeds (means says chain) bytes two [] more other came → OnceOf bytes text other come came new more
    fed_once bytes old two new more text other come came alike (inl (m, is, s)) (inl (n, it, t)) =
        heard_once bytes text other new more come came
        (met_once m old two new more [] text other come came alike s (subst (λ x. Meets (means says chain) x two [] more other came) (sym (one_message bytes m n is it)) t))
    fed_once bytes old two new more text other come came alike (inl (m, is, s)) (inr (none, t)) = absurd (none m is)
    fed_once bytes old two new more text other come came alike (inr (none, s)) (inl (n, it, t)) = absurd (none n it)
    fed_once bytes old two new more text other come came alike (inr (none, s)) (inr (not, t)) = unread_once bytes old two new more text other come came alike none s t
