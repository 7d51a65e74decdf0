-- The last call of a walk.
use Rattle.std.proofs.Common.{◌≡◌, ◌≢◌, ℕ, zero, suc, List, [], ◌∷◌, ◌++◌, Bool, true, false, Ok, Err, Some, Result, refl, ap, subst, ◌∙◌, map, cond}
use Rattle.std.specs.Prelude.{◌==◌}
use Rattle.std.specs.Borrow.{Bor}
use Rattle.smithy_types.specs.declared.acceptor.AcceptorState.{AcceptorState}
use Rattle.smithy_types.specs.declared.timers.TimersCall.TheVariants.{Now, Start, Ready, GiveUp}
use Rattle.waiters.specs.declared.backoff.Backoff.{Backoff}
use Rattle.waiters.specs.declared.outcome.WaiterError.TheVariants as end
use Rattle.waiters.specs.declared.timers.WaiterCall.TheVariants as own
use Rattle.waiters.specs.Calls.{Call, called, polled}
use Rattle.waiters.specs.Walk.{End, EndsAt, Poll, Turn, number_after}
use Rattle.waiters.specs.WalkCalls.{Rest, delay_calls, ended, poll_calls, poll_refused, polling, sleep_refused, sleeping, turn_calls, unanswered, unready, walk_calls}

abbrev asks_clock : {O E : Type 0} → Call O E → Bool
asks_clock (polled number answer) = false
asks_clock (called (own.Timers (Now moment))) = true
asks_clock (called (own.Timers (Start nanos sleep))) = false
asks_clock (called (own.Timers (Ready sleep over))) = false
asks_clock (called (own.Timers (GiveUp sleep))) = false
asks_clock (called (own.Word word)) = false
asks_clock (called own.Park) = false
asks_clock (called (own.Poll number told)) = false

-- whether the last call asks the clock, or what stands where there is none
abbrev last_asks : {O E : Type 0} → Bool → List (Call O E) → Bool
last_asks none [] = none
last_asks none (call ∷ calls) = last_asks (asks_clock call) calls

last_asks-append : {O E : Type 0} (none : Bool) (xs ys : List (Call O E)) → last_asks none (xs ++ ys) ≡ last_asks (last_asks none xs) ys
last_asks-append none [] ys = refl
last_asks-append none (x ∷ xs) ys = last_asks-append (asks_clock x) xs ys

pending-last : (O E : Type 0) (number times : ℕ) → last_asks false (unanswered {O = O} {E = E} number times) ≡ false
pending-last O E number zero = refl
pending-last O E number (suc times) = pending-last O E number times

unready-last : (O E : Type 0) (sleep times : ℕ) → last_asks {O = O} {E = E} false (map called (unready sleep times)) ≡ false
unready-last O E sleep zero = refl
unready-last O E sleep (suc times) = unready-last O E sleep times

sleep-last : (O E : Type 0) (sleep times : ℕ) (none : Bool) →
    last_asks {O = O} {E = E} none (map called (unready sleep times ++ (own.Timers (Ready sleep true) ∷ []))) ≡ false
sleep-last O E sleep zero none = refl
sleep-last O E sleep (suc times) none = sleep-last O E sleep times false

delay-last : (O E : Type 0) (delay sleep times : ℕ) → last_asks {O = O} {E = E} false (map called (delay_calls delay sleep times)) ≡ false
delay-last O E delay sleep times =
    elim (delay == 0) as (λ none. last_asks {O = O} {E = E} false (map called (cond none [] (own.Timers (Start delay (Ok (Some sleep))) ∷ (unready sleep times ++ (own.Timers (Ready sleep true) ∷ []))))) ≡ false) [
      | true ↦ refl
      | false ↦ sleep-last O E sleep times false
    ]

module _ {O E : Type 0} where
  poll-last : (none : Bool) (number : ℕ) (poll : Poll O E) → last_asks none (poll_calls number poll) ≡ true
  poll-last none number poll =
      last_asks-append none (unanswered number poll.pending) (polled number (Ok (Some poll.result)) ∷ called (own.Timers (Now poll.moment)) ∷ [])

  turn-last : (none : Bool) (number : ℕ) (turn : Turn O E) → last_asks none (turn_calls number turn) ≡ false
  turn-last none number turn =
      last_asks-append none (poll_calls number turn.poll) (map called (own.Word turn.word ∷ delay_calls turn.delay turn.sleep turn.unready))
      ∙ delay-last O E turn.delay turn.sleep turn.unready

  walk-last : (turns : List (Turn O E)) → last_asks false (walk_calls turns) ≡ false
  walk-last [] = refl
  walk-last (turn ∷ before) =
      last_asks-append false (walk_calls before) (turn_calls (number_after before) turn)
      ∙ turn-last (last_asks false (walk_calls before)) (number_after before) turn

  module _ (backoff : Backoff) (says : Result (Bor O) (Bor E) → AcceptorState → Type 0) (start : ℕ) where
    ended-last : (turns : List (Turn O E)) (ending : End O E) (rest : List (Call O E)) →
        ending ≢ Err end.Unfinished → ending ≢ Err end.OutOfMemory → Rest backoff says start turns ending rest →
        last_asks false (walk_calls turns ++ rest) ≡ true
    ended-last turns ending rest finished remembered (ended poll ends) =
        last_asks-append false (walk_calls turns) (poll_calls (number_after turns) poll)
        ∙ poll-last (last_asks false (walk_calls turns)) (number_after turns) poll
    ended-last turns ending rest finished remembered (polling times) = absurd (finished refl)
    ended-last turns ending rest finished remembered (sleeping turn times follows some) = absurd (finished refl)
    ended-last turns ending rest finished remembered (poll_refused times refused) = absurd (remembered refl)
    ended-last turns ending rest finished remembered (sleep_refused turn refused follows some) = absurd (remembered refl)

    unfinished-last : (turns : List (Turn O E)) (ending : End O E) (rest : List (Call O E)) →
        ending ≡ Err end.Unfinished → Rest backoff says start turns ending rest →
        last_asks false (walk_calls turns ++ rest) ≡ false
    unfinished-last turns ending rest stays (ended poll ends) =
        let P : End O E → Type 0 = λ one. EndsAt backoff says start turns poll one in
        absurd (subst P stays ends.ends)
    unfinished-last turns ending rest stays (polling times) =
        last_asks-append false (walk_calls turns) (unanswered (number_after turns) times)
        ∙ rw (walk-last turns) (pending-last O E (number_after turns) times)
    unfinished-last turns ending rest stays (sleeping turn times follows some) =
        let tail : List (Call O E) = map called (own.Word turn.word ∷ own.Timers (Start turn.delay (Ok (Some turn.sleep))) ∷ unready turn.sleep times) in
        last_asks-append false (walk_calls turns) (poll_calls (number_after turns) turn.poll ++ tail)
        ∙ (last_asks-append (last_asks false (walk_calls turns)) (poll_calls (number_after turns) turn.poll) tail
        ∙ unready-last O E turn.sleep times)
    unfinished-last turns ending rest stays (poll_refused times refused) = absurd (cc stays)
    unfinished-last turns ending rest stays (sleep_refused turn refused follows some) = absurd (cc stays)

  pub ended-not-unfinished : (backoff : Backoff) (says : Result (Bor O) (Bor E) → AcceptorState → Type 0)
      (start other_start : ℕ) (turns other_turns : List (Turn O E)) (rest other_rest : List (Call O E)) (ending : End O E) →
      ending ≢ Err end.Unfinished → ending ≢ Err end.OutOfMemory →
      Rest backoff says start turns ending rest → Rest backoff says other_start other_turns (Err end.Unfinished) other_rest →
      walk_calls turns ++ rest ≢ walk_calls other_turns ++ other_rest
  ended-not-unfinished backoff says start other_start turns other_turns rest other_rest ending finished remembered ends stays same =
      let first : last_asks false (walk_calls turns ++ rest) ≡ true = ended-last backoff says start turns ending rest finished remembered ends in
      let second : last_asks false (walk_calls other_turns ++ other_rest) ≡ false = unfinished-last backoff says other_start other_turns (Err end.Unfinished) other_rest refl stays in
      let both : last_asks false (walk_calls turns ++ rest) ≡ last_asks false (walk_calls other_turns ++ other_rest) = ap (last_asks false) same in
      cc
