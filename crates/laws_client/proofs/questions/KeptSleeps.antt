-- A sleep that was started is open until it is ended, and over only where the outside said so.
use Rattle.std.proofs.Common.{◌≡◌, ◌∙◌, ◌↔◌, ap, refl, subst, sym, ℕ, Bool, true, not, IsSome, IsTrue, List, [], ◌∷◌, ◌++◌, Ok, Option, None, Some}
use Rattle.std.specs.List.{AllByRecursion}
use Rattle.client_call.specs.Ending.{sleeps_without}
use Rattle.client_call.specs.Sleeping as sleeping
use Rattle.client_call.specs.Sleeping.{giving_up, sleep_of, with_sleep}
use Rattle.client_call.specs.declared.sleeping.Sleeps.{Sleeps}
use Rattle.client_components.specs.Retrying.{sleeps_after}
use Rattle.client_components.specs.Meaning.{ClientMeaning}
use Rattle.client_components.specs.Serving.{Answers, Served}
use Rattle.client_components.specs.declared.parts.Parts.{Parts}
use Rattle.outside.specs.Calls.{OutsideCall, OfTimers}
use Rattle.run_grammar.specs.Entry.{entry, same_role}
use Rattle.run_grammar.specs.declared.answer.Answer.{Answer}
use Rattle.run_grammar.specs.declared.answer.Answer.TheVariants as answers
use Rattle.run_grammar.specs.declared.answer.Entry.{Entry}
use Rattle.run_grammar.specs.declared.kind.Abandonable.{Abandonable}
use Rattle.run_grammar.specs.declared.kind.Abandonable.TheVariants as abandoned
use Rattle.run_grammar.specs.declared.kind.ConfigureStage.TheVariants as stages
use Rattle.run_grammar.specs.declared.kind.Role.{Role}
use Rattle.run_grammar.specs.declared.kind.Role.TheVariants.{Operation, Attempt, Send, Retry, LongPoll}
use Rattle.run_grammar.specs.declared.question.Question.{Question}
use Rattle.run_grammar.specs.declared.question.Question.TheVariants as questions
use Rattle.smithy_types.specs.Chain.{Chained}
use Rattle.smithy_types.specs.declared.hook.Hook.{Hook}
use Rattle.smithy_types.specs.declared.hook.Hook.TheVariants as hooks
use Rattle.smithy_types.specs.declared.timers.TimersCall.TheVariants.{Ready, Start}
use Rattle.laws_client.specs.Questions.Sleeping.{SaidOver, WaitsAreOverAsTold, abandoned_leaves, hook_leaves, leaves_sleep}

-- ---- the sleep of one role beside those of the others

put_sleep : (role : Role) (sleep : Option ℕ) (s : Sleeps) → sleep_of role (with_sleep role sleep s) ≡ sleep
put_sleep Operation sleep s = refl
put_sleep Attempt sleep s = refl
put_sleep Send sleep s = refl
put_sleep Retry sleep s = refl
put_sleep LongPoll sleep s = refl

other_sleep : (role other : Role) (sleep : Option ℕ) (s : Sleeps) → not (same_role role other) ≡ true → sleep_of role (with_sleep other sleep s) ≡ sleep_of role s
other_sleep Operation Operation sleep s e = absurd (cc e)
other_sleep Operation _ sleep s e = refl
other_sleep Attempt Attempt sleep s e = absurd (cc e)
other_sleep Attempt _ sleep s e = refl
other_sleep Send Send sleep s e = absurd (cc e)
other_sleep Send _ sleep s e = refl
other_sleep Retry Retry sleep s e = absurd (cc e)
other_sleep Retry _ sleep s e = refl
other_sleep LongPoll LongPoll sleep s e = absurd (cc e)
other_sleep LongPoll _ sleep s e = refl

hook_kept : (role : Role) (hook : Hook) (s : Sleeps) → hook_leaves role hook ≡ true → sleep_of role (sleeps_after hook s) ≡ sleep_of role s
hook_kept role hooks.ModifyBeforeAttemptCompletion s e = other_sleep role Attempt None s e
hook_kept role hooks.ModifyBeforeCompletion s e = absurd (cc e)
hook_kept role _ s e = refl

abandoned_kept : (role : Role) (given_up : Abandonable) (s : Sleeps) → abandoned_leaves role given_up ≡ true → sleep_of role (sleeps_without given_up s) ≡ sleep_of role s
abandoned_kept role abandoned.WaitSend s e = other_sleep role Send None s e
abandoned_kept role abandoned.WaitRetry s e = other_sleep role Retry None s e
abandoned_kept role abandoned.WaitLongPoll s e = other_sleep role LongPoll None s e
abandoned_kept role _ s e = refl

started_kept : (has : Bool) (role other : Role) (nanos : Option ℕ) (old : Sleeps) (a : Answer) (new : Sleeps) (calls : List OutsideCall)
    → not (same_role role other) ≡ true → sleeping.Starts has other nanos old a new calls → sleep_of role new ≡ sleep_of role old
started_kept has role other nanos old answers.Absent new calls e h = ap (sleep_of role) h.1
started_kept has role other nanos old answers.Started new calls e (there, (sleep, is, calls_are)) = ap (sleep_of role) is ∙ other_sleep role other sleep old e
started_kept has role other nanos old _ new calls e h = absurd h

-- an answer that is there
number_of : (sleep : Option ℕ) → IsSome sleep → (number : ℕ) × (sleep ≡ Some number)
number_of None e = absurd (cc e)
number_of (Some number) e = (number, refl)

-- a Wait of an open sleep is Ready by one call
waited : (sleep : Option ℕ) (number : ℕ) (calls : List OutsideCall) → sleep ≡ Some number → sleeping.Waits sleep answers.Ready calls → calls ≡ OfTimers (Ready number true) ∷ []
waited sleep number calls is h = subst (λ s. sleeping.Waits s answers.Ready calls) is h

module _ {X : Type 0} (makes : X → OutsideCall → X → Type 0) (sleeps : X → Bool) (stay : (old : X) (call : OutsideCall) (new : X) → makes old call new → sleeps new ≡ sleeps old)
    (starts : (old : X) (nanos : ℕ) (sleep : Option ℕ) (new : X) → makes old (OfTimers (Start nanos (Ok sleep))) new → IsSome sleep ↔ IsTrue (sleeps old)) where
  -- behind some calls a sleep was started
  started_behind : (before : List OutsideCall) (old new : X) (nanos : ℕ) (sleep : Option ℕ) → sleeps old ≡ true → Chained makes old (before ++ OfTimers (Start nanos (Ok sleep)) ∷ []) new → IsSome sleep
  started_behind [] old new nanos sleep there (mid, made, same) = (starts old nanos sleep mid made).1 there
  started_behind (call ∷ before) old new nanos sleep there (mid, made, rest) = started_behind before mid new nanos sleep (stay old call mid made ∙ there) rest

  one_made : (old new : X) (calls : List OutsideCall) (call : OutsideCall) → calls ≡ call ∷ [] → Chained makes old calls new → makes old call new
  one_made old new calls call is made = let one = subst (λ l. Chained makes old l new) is made in subst (makes old call) (sym one.2) one.1

module _ {T X Q C I A R Z D P L : Type 0} (means : ClientMeaning T X Q C I A R Z D P L) (stay : (old : X) (call : OutsideCall) (new : X) → means.makes old call new → means.sleeps new ≡ means.sleeps old)
    (starts : (old : X) (nanos : ℕ) (sleep : Option ℕ) (new : X) → means.makes old (OfTimers (Start nanos (Ok sleep))) new → IsSome sleep ↔ IsTrue (means.sleeps old)) where
  abbrev sleep_in : Role → Parts T X Q C I A R Z D P L → Option ℕ
  sleep_in role parts = sleep_of role parts.sleeps

  -- a question that leaves the role's sleep alone keeps it
  kept : (role : Role) (old new : Parts T X Q C I A R Z D P L) (q : Question) (a : Answer) → leaves_sleep role q ≡ true → Answers means old q a new → sleep_in role new ≡ sleep_in role old
  kept role old new (questions.Configure stages.Client settings) a e h = absurd (cc e)
  kept role old new (questions.Configure stages.Operation settings) a e h = ap (sleep_in role) h.1
  kept role old new (questions.Configure stages.Final settings) a e h = ap (sleep_in role) h.1
  kept role old new (questions.Hook hook view) a e h = ap (sleep_in role) h.others ∙ hook_kept role hook old.sleeps e
  kept role old new (questions.Serialize input settings) a e h = ap (sleep_in role) h.1
  kept role old new (questions.Load request) a e h = ap (sleep_in role) h.1
  kept role old new (questions.Initial settings) a e h = ap (sleep_in role) h.others
  kept role old new (questions.Start other nanos) a e h = started_kept old.given.sleep_impl role other nanos old.sleeps a new.sleeps h.0.calls e h.0.these
  kept role old new (questions.Wait other) a e h = ap (sleep_in role) h.1
  kept role old new (questions.Choose settings) a e h = ap (sleep_in role) h.others
  kept role old new (questions.Endpoint settings identity) a e h = ap (sleep_in role) h.1
  kept role old new (questions.Apply settings request endpoint) a e h = ap (sleep_in role) h.1
  kept role old new (questions.Sign settings request scheme identity endpoint) a e h = ap (sleep_in role) h.1
  kept role old new (questions.Transmit settings request) a e h = ap (sleep_in role) h.1
  kept role old new (questions.Stream settings response) a e h = ap (sleep_in role) h.1
  kept role old new (questions.Body settings response) a e h = ap (sleep_in role) h.1
  kept role old new (questions.Deserialize settings response) a e h = ap (sleep_in role) h.1
  kept role old new (questions.Decide settings request response outcome attempt) a e h = ap (sleep_in role) h.others
  kept role old new (questions.Abandon abandoned.Choose) a e h = ap (sleep_in role) h.2
  kept role old new (questions.Abandon given_up) a e h = ap (sleep_in role) h.2 ∙ abandoned_kept role given_up old.sleeps e
  kept role old new questions.Park a e h = ap (sleep_in role) h.2

  -- entries that leave it alone, and then a Wait for it
  waits_behind : (role : Role) (l : List Entry) (old new : Parts T X Q C I A R Z D P L) (number : ℕ) → sleep_in role old ≡ Some number
      → Served means old (l ++ entry (questions.Wait role) answers.Ready ∷ []) new → AllByRecursion (λ e. leaves_sleep role e.question ≡ true) l → SaidOver means old role l new
  waits_behind role [] old new number running (mid, waits, same) alone =
      let one = waited (sleep_in role old) number waits.0.calls running waits.0.these in
      record {
        parts = old;
        served = refl;
        sleep = number;
        running = running;
        said = subst (λ (p : Parts T X Q C I A R Z D P L). means.makes old.outside (OfTimers (Ready number true)) p.outside) (sym same)
            (one_made means.makes means.sleeps stay starts old.outside mid.outside waits.0.calls (OfTimers (Ready number true)) one waits.0.made);
      }
  waits_behind role (e ∷ l) old new number running (mid, serves, rest) alone =
      let later = waits_behind role l mid new number (kept role old mid e.question e.answer alone.0 serves ∙ running) rest alone.1 in
      record { parts = later.parts; served = (mid, serves, later.served); sleep = later.sleep; running = later.running; said = later.said }

  pub waits_are_over_as_told : WaitsAreOverAsTold means
  waits_are_over_as_told old new role nanos l there (mid, begins, rest) alone =
      let (has, (sleep, is, calls_are)) = begins.0.these in
      let behind = subst (λ c. Chained means.makes old.outside c mid.outside) calls_are begins.0.made in
      let given = number_of sleep (started_behind means.makes means.sleeps stay starts (giving_up (sleep_in role old)) old.outside mid.outside _ sleep there behind) in
      let running = ap (sleep_of role) is ∙ put_sleep role sleep old.sleeps ∙ given.1 in
      let later = waits_behind role l mid new given.0 running rest alone in
      record { parts = later.parts; served = (mid, begins, later.served); sleep = later.sleep; running = later.running; said = later.said }
