-- A turn of the walk, put together from its parts.
use Rattle.std.proofs.Common.{◌≡◌, ◌≢◌, ℕ, ◌+◌, ◌-◌, ◌<◌, ◌≤◌, ◌⊎◌, List, [], ◌∷◌, ◌++◌, Bool, true, false, Result, Ok, Err, Some, arith, refl, sym, subst, append_assoc, ap, ◌∙◌, min, ◌^◌, cond}
use Rattle.std.specs.Prelude.{◌==◌, map}
use Rattle.std.proofs.Math.Bool.{or-false}
use Rattle.std.proofs.lemmas.List.Sums.{sum_by-cons}
use Rattle.std.specs.Borrow.{Bor, MutBor}
use Rattle.smithy_types.specs.declared.acceptor.AcceptorState.{AcceptorState}
use Rattle.smithy_types.specs.declared.fault.SdkError.{SdkError}
use Rattle.smithy_types.specs.declared.timers.TimersCall.TheVariants.{Now, Start}
use Rattle.waiters.specs.declared.asking.Stop.{Stop}
use Rattle.waiters.specs.declared.asking.Stop.TheVariants as stop
use Rattle.waiters.specs.declared.backoff.Backoff.{Backoff}
use Rattle.waiters.specs.declared.outcome.WaiterError.{WaiterError}
use Rattle.waiters.specs.declared.outcome.WaiterError.TheVariants as end
use Rattle.waiters.specs.declared.progress.Progress.{Progress}
use Rattle.waiters.specs.declared.timers.WaiterCall.{WaiterCall}
use Rattle.waiters.specs.declared.timers.WaiterCall.TheVariants.{Timers, Word}
use Rattle.waiters.specs.Calls.{Answer, Call, Handed, called, is_ready_call, polled}
use Rattle.waiters.specs.Delay.{IsDelay}
use Rattle.waiters.specs.Steps.{GoesOn, Spends, StandsAfter, Stops, TimersSpend, ask_calls, error_of, pause_calls}
use Rattle.waiters.specs.Walk.{Accepts, End, EndsAt, EndsBy, IsTurn, Poll, Turn, goes_on, number_after, verdict, zero_used}
use Rattle.waiters.specs.WalkCalls.{delay_calls, ended, unready, poll_calls, poll_refused, polling, sleep_refused, sleeping, unanswered}
use Rattle.waiters.proofs.Spending.{spends-append, spends-called}

module _ {T O E : Type 0} (backoff : Backoff) (says : Result (Bor O) (Bor E) → AcceptorState → Type 0)
    (makes : T → WaiterCall → T → Type 0) (answers : MutBor T → ℕ → Answer O E → MutBor T → Type 0) where
  -- whether there are sleeps stays over all calls
  pub sleeps-handed : (sleeps : T → Bool) → ((old : T) (call : WaiterCall) (new : T) → makes old call new → sleeps new ≡ sleeps old) →
      (old : T) (calls : List (Call O E)) (new : T) → Handed makes answers old calls new → sleeps new ≡ sleeps old
  sleeps-handed sleeps stay old [] new same = ap sleeps (sym same)
  sleeps-handed sleeps stay old (polled number answer ∷ calls) new (mid, takes, rest) =
      sleeps-handed sleeps stay mid calls new rest ∙ stay _ _ _ takes.0
  sleeps-handed sleeps stay old (called call ∷ calls) new (mid, takes, rest) =
      sleeps-handed sleeps stay mid calls new rest ∙ stay _ _ _ takes

  -- a poll ends the walk by itself
  ends_at-by : (start : ℕ) (before : List (Turn O E)) (poll : Poll O E) (ending : End O E) →
      EndsBy poll.result poll.state ending → EndsAt backoff says start before poll ending
  ends_at-by start before poll (Ok final) by = by
  ends_at-by start before poll (Err (end.OperationFailed error)) by = by
  ends_at-by start before poll (Err (end.FailureState final)) by = by
  ends_at-by start before poll (Err (end.ExceededMaxWait max_wait elapsed poll_count)) by = absurd by
  ends_at-by start before poll (Err end.Unfinished) by = by
  ends_at-by start before poll (Err end.OutOfMemory) by = by

  -- no poll leaves the walk unfinished
  ends_at-finished : (start : ℕ) (before : List (Turn O E)) (poll : Poll O E) (ending : End O E) →
      EndsAt backoff says start before poll ending → ending ≢ Err end.Unfinished
  ends_at-finished start before poll ending at unfinished =
      let P : End O E → Type 0 = λ one. EndsAt backoff says start before poll one in
      subst P unfinished at

  -- the asks of a poll and of the clock after it
  pub spends-poll : {old mid new : T} {full left : ℕ} (number times moment : ℕ) (result : Result O (SdkError E)) (state : AcceptorState) →
      Spends makes answers old full (ask_calls number times (Ok result)) mid left → makes mid (Timers (Now moment)) new →
      Spends makes answers old full (poll_calls number (record { pending = times; result = result; state = state; moment = moment })) new left
  spends-poll {old} {mid} {new} {full} {left} number times moment result state asked told =
      let more : Spends makes answers mid left (called (Timers (Now moment)) ∷ []) new left = record { handed = (new, told, refl); spent = omega arith } in
      let P : List (Call O E) → Type 0 = λ calls. Spends makes answers old full calls new left in
      subst P (append_assoc (unanswered number times) (polled number (Ok (Some result)) ∷ []) (called (Timers (Now moment)) ∷ []))
      (spends-append makes answers asked more)

  module _ (before : List (Turn O E)) (was is : Progress) (stands : StandsAfter before was) (old mid new : T) where
    -- the operation was asked until the fuel was spent, or found no memory
    pub stops-asking : (reason : Stop) (error : WaiterError O E) → error ≡ error_of reason → (times : ℕ) →
        Spends makes answers old was.fuel (ask_calls was.number times (Err reason)) new is.fuel →
        (◌≡◌ {A = Result (Result O (SdkError E)) Stop} (Err reason) (Err stop.Unfinished) → is.fuel ≡ 0) →
        Stops backoff says makes answers before old was new is (Err error)
    stops-asking stop.Unfinished error same times asked spent =
        rw same (record {
          rest = unanswered (number_after before) times;
          ends = polling times;
          spends = rw (← stands.numbered) asked;
          all_spent = λ _. spent refl;
        })
    stops-asking (stop.OutOfMemory refused) error same times asked spent =
        rw same (record {
          rest = unanswered (number_after before) times ++ (polled (number_after before) (Err refused) ∷ []);
          ends = poll_refused times refused;
          spends = rw (← stands.numbered) asked;
          all_spent = λ other. absurd (cc other);
        })

    -- a poll ended the walk
    pub stops-ended : (poll : Poll O E) (ending : End O E) → Accepts says poll.result poll.state → EndsAt backoff says was.start before poll ending →
        Spends makes answers old was.fuel (poll_calls was.number poll) new is.fuel →
        Stops backoff says makes answers before old was new is ending
    stops-ended poll ending accepts at asked = record {
      rest = poll_calls (number_after before) poll;
      ends = ended poll (record { accepts = accepts; ends = at });
      spends = rw (← stands.numbered) asked;
      all_spent = λ unfinished. absurd (ends_at-finished was.start before poll ending at unfinished);
    }

    pub stops-by : (poll : Poll O E) (ending : End O E) → Accepts says poll.result poll.state → EndsBy poll.result poll.state ending →
        Spends makes answers old was.fuel (poll_calls was.number poll) new is.fuel →
        Stops backoff says makes answers before old was new is ending
    stops-by poll ending accepts by asked = stops-ended poll ending accepts (ends_at-by was.start before poll ending by) asked

    pub stops-exceeded : (poll : Poll O E) (number elapsed left : ℕ) → number ≡ was.number → elapsed ≡ poll.moment - was.start → is.fuel ≡ left →
        Accepts says poll.result poll.state → verdict poll.result poll.state ≡ goes_on →
        ((was.zero_used ≡ true) ⊎ (backoff.max_wait < elapsed)) →
        Spends makes answers old was.fuel (poll_calls was.number poll) new left →
        Stops backoff says makes answers before old was new is (Err (end.ExceededMaxWait backoff.max_wait elapsed number))
    stops-exceeded poll number elapsed left same_number same_elapsed same_fuel accepts goes over asked =
        let why : (zero_used before ≡ true) ⊎ (backoff.max_wait < poll.moment - was.start) = rw (← stands.zero, ← same_elapsed) over in
        let all : Spends makes answers old was.fuel (poll_calls was.number poll) new is.fuel = rw same_fuel asked in
        stops-ended poll (Err (end.ExceededMaxWait backoff.max_wait elapsed number)) accepts
        (goes, why, refl, same_elapsed, same_number ∙ stands.numbered) all

    -- the turn that a poll, its word and its delay make
    pub is_turn : (turn : Turn O E) → Accepts says turn.poll.result turn.poll.state → verdict turn.poll.result turn.poll.state ≡ goes_on →
        was.zero_used ≡ false → turn.poll.moment - was.start ≤ backoff.max_wait →
        IsDelay backoff.min_delay backoff.max_delay backoff.max_wait was.number (turn.poll.moment - was.start) turn.word turn.delay →
        IsTurn backoff says was.start before turn
    is_turn turn accepts goes zero in_time delays = record {
      accepts = accepts;
      goes = goes;
      no_zero = sym stands.zero ∙ zero;
      in_time = in_time;
      delays = rw (← stands.numbered) delays;
    }

    -- the poll's calls, the word's and those of the delay
    spends-paused : (poll : Poll O E) (word : ℕ) (calls : List WaiterCall) (drawn : T) (left : ℕ) →
        Spends makes answers old was.fuel (poll_calls was.number poll) mid left → makes mid (Word word) drawn →
        TimersSpend makes drawn left calls new is.fuel →
        Spends makes answers old was.fuel (poll_calls (number_after before) poll ++ map called (Word word ∷ calls)) new is.fuel
    spends-paused poll word calls drawn left asked draws pauses =
        let further : TimersSpend makes mid left (Word word ∷ calls) new is.fuel = record {
          handed = (drawn, draws, pauses.handed);
          spent = omega (arith, pauses.spent, sum_by-cons (λ call. cond (is_ready_call call) 1 0) (Word word) calls);
        } in
        rw (← stands.numbered) (spends-append makes answers asked (spends-called makes answers further))

    -- the sleep was asked until the fuel was spent, or found no memory
    pub stops-pausing : (reason : Stop) (error : WaiterError O E) → error ≡ error_of reason →
        (poll : Poll O E) (word delay sleep times : ℕ) (drawn : T) (left : ℕ) →
        Accepts says poll.result poll.state → verdict poll.result poll.state ≡ goes_on →
        was.zero_used ≡ false → poll.moment - was.start ≤ backoff.max_wait →
        IsDelay backoff.min_delay backoff.max_delay backoff.max_wait was.number (poll.moment - was.start) word delay → delay ≢ 0 →
        Spends makes answers old was.fuel (poll_calls was.number poll) mid left → makes mid (Word word) drawn →
        TimersSpend makes drawn left (pause_calls delay sleep times (Err reason)) new is.fuel →
        (◌≡◌ {A = Result Unit Stop} (Err reason) (Err stop.Unfinished) → is.fuel ≡ 0) →
        Stops backoff says makes answers before old was new is (Err error)
    stops-pausing stop.Unfinished error same poll word delay sleep times drawn left accepts goes zero in_time delays some asked draws pauses spent =
        let turn : Turn O E = record { poll = poll; word = word; delay = delay; sleep = sleep; unready = times } in
        rw same (record {
          rest = poll_calls (number_after before) poll ++ map called (Word word ∷ Timers (Start delay (Ok (Some sleep))) ∷ unready sleep times);
          ends = sleeping turn times (is_turn turn accepts goes zero in_time delays) some;
          spends = spends-paused poll word (Timers (Start delay (Ok (Some sleep))) ∷ unready sleep times) drawn left asked draws pauses;
          all_spent = λ _. spent refl;
        })
    stops-pausing (stop.OutOfMemory refused) error same poll word delay sleep times drawn left accepts goes zero in_time delays some asked draws pauses spent =
        let turn : Turn O E = record { poll = poll; word = word; delay = delay; sleep = sleep; unready = times } in
        rw same (record {
          rest = poll_calls (number_after before) poll ++ map called (Word word ∷ Timers (Start delay (Err refused)) ∷ []);
          ends = sleep_refused turn refused (is_turn turn accepts goes zero in_time delays) some;
          spends = spends-paused poll word (Timers (Start delay (Err refused)) ∷ []) drawn left asked draws pauses;
          all_spent = λ other. absurd (cc other);
        })

    -- the whole turn was made
    pub goes_on-paused : (poll : Poll O E) (word delay sleep times : ℕ) (drawn : T) (left : ℕ) →
        Accepts says poll.result poll.state → verdict poll.result poll.state ≡ goes_on →
        was.zero_used ≡ false → poll.moment - was.start ≤ backoff.max_wait →
        IsDelay backoff.min_delay backoff.max_delay backoff.max_wait was.number (poll.moment - was.start) word delay →
        Spends makes answers old was.fuel (poll_calls was.number poll) mid left → makes mid (Word word) drawn →
        TimersSpend makes drawn left (delay_calls delay sleep times) new is.fuel →
        is.start ≡ was.start → is.number ≡ min (was.number + 1) (2 ^ 32 - 1) → is.zero_used ≡ (delay == 0) →
        GoesOn backoff says makes answers before old was new is
    goes_on-paused poll word delay sleep times drawn left accepts goes zero in_time delays asked draws pauses same_start numbered used =
        let turn : Turn O E = record { poll = poll; word = word; delay = delay; sleep = sleep; unready = times } in
        let none : zero_used before ≡ false = sym stands.zero ∙ zero in
        record {
          turn = turn;
          follows = is_turn turn accepts goes zero in_time delays;
          stands = record {
            numbered = let before_it = stands.numbered in omega arith;
            zero = used ∙ rw (none, or-false (delay == 0)) refl;
          };
          same_start = same_start;
          spends = spends-paused poll word (delay_calls delay sleep times) drawn left asked draws pauses;
        }
