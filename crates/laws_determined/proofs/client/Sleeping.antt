-- Start, Wait, and what is ended are determined.
use Rattle.std.proofs.Common.{◌≡◌, ◌∙◌, refl, sym, ap, subst, ℕ, Bool, true, false, List, [], ◌∷◌, ◌++◌, Option, None, Some, Ok}
use Rattle.std.specs.Prelude.{unwrap_or}
use Rattle.std.proofs.lemmas.Bool.{false≢true}
use Rattle.client_auth.specs.Identities.{at_rest, ending_choice, ending_cached, rested}
use Rattle.client_auth.specs.Choosing.{ending_load}
use Rattle.client_auth.specs.declared.identities.CachedIdentities.{CachedIdentities}
use Rattle.client_auth.specs.declared.identities.Identities.{Identities}
use Rattle.client_call.specs.Ending.{abandoning, call_without, ending_call, ending_calls}
use Rattle.client_call.specs.Sleeping.{Starts, Waits, give_up_all, giving_up, sleep_of, with_sleep}
use Rattle.client_call.specs.declared.call.Call.{Call}
use Rattle.client_call.specs.declared.call.Call.TheVariants.{Idle, Sending, Arrived, Reading, Left}
use Rattle.client_call.specs.declared.sleeping.Sleeps.{Sleeps}
use Rattle.outside.specs.Calls.{OutsideCall, OfTimers, DropCall}
use Rattle.run_grammar.specs.declared.answer.Answer.{Answer}
use Rattle.run_grammar.specs.declared.answer.Answer.TheVariants as answers
use Rattle.run_grammar.specs.declared.kind.Abandonable.{Abandonable}
use Rattle.run_grammar.specs.declared.kind.Abandonable.TheVariants as abandoned
use Rattle.run_grammar.specs.declared.kind.Role.{Role}
use Rattle.smithy_types.specs.Chain.{Chained}
use Rattle.smithy_types.specs.declared.timers.TimersCall.TheVariants.{Start, Ready}
use Rattle.laws_determined.specs.Steady.Steady.{IsSteady}
use Rattle.laws_determined.proofs.steady.Calls.{onward, past, same_calls}
use Rattle.laws_determined.specs.Auth.Alike.{IdentitiesAlike, LoadIsTimed}
use Rattle.laws_determined.specs.Calls.Alike.{OpenAlike}
use Rattle.laws_determined.proofs.calls.Asked.{quieting_alike}

-- ---- what is ended

pub ending_alike : (one two : Call) → OpenAlike one two → ending_call one ≡ ending_call two
ending_alike Idle Idle alike = refl
ending_alike (Sending one) (Sending two) alike = refl
ending_alike Arrived Arrived alike = refl
ending_alike (Reading one) (Reading two) alike = ap (λ l. l ++ DropCall ∷ []) (quieting_alike (Reading one) (Reading two) alike)
ending_alike Left Left alike = refl
ending_alike one two alike = absurd alike

pub endings_alike : (sleeps : Sleeps) (one two : Call) → OpenAlike one two → ending_calls sleeps one ≡ ending_calls sleeps two
endings_alike sleeps one two alike = ap (λ l. l ++ give_up_all sleeps) (ending_alike one two alike)

pub abandoning_alike : (pending : Abandonable) (sleeps : Sleeps) (one two : Call) → OpenAlike one two → abandoning pending sleeps one ≡ abandoning pending sleeps two
abandoning_alike abandoned.Load sleeps one two alike = refl
abandoning_alike abandoned.Choose sleeps one two alike = refl
abandoning_alike abandoned.Endpoint sleeps one two alike = refl
abandoning_alike abandoned.Transmit sleeps one two alike = ending_alike one two alike
abandoning_alike abandoned.Body sleeps one two alike = ending_alike one two alike
abandoning_alike abandoned.WaitSend sleeps one two alike = refl
abandoning_alike abandoned.WaitRetry sleeps one two alike = refl
abandoning_alike abandoned.WaitLongPoll sleeps one two alike = refl

pub without_alike : (pending : Abandonable) (one two : Call) → OpenAlike one two → OpenAlike (call_without pending one) (call_without pending two)
without_alike abandoned.Load one two alike = alike
without_alike abandoned.Choose one two alike = alike
without_alike abandoned.Endpoint one two alike = alike
without_alike abandoned.Transmit one two alike = tt
without_alike abandoned.Body one two alike = tt
without_alike abandoned.WaitSend one two alike = alike
without_alike abandoned.WaitRetry one two alike = alike
without_alike abandoned.WaitLongPoll one two alike = alike

module _ {R : Type 0} (one two : Identities R) (alike : IdentitiesAlike one two) where
  pub choice_ends : ending_choice one ≡ ending_choice two
  choice_ends = λ i. ending_load (alike.load i) ++ ending_cached (alike.cached i)

  pub rest_alike : IdentitiesAlike (at_rest one) (at_rest two)
  rest_alike = record { sources = alike.sources; cached = ap rested alike.cached; load = refl; timed = timed one.cached }
    where
      timed : (cached : Option CachedIdentities) → LoadIsTimed (rested cached)
      timed None = tt
      timed (Some cached) = tt

-- ---- sleeps

-- the two ways in which a sleep is started
abbrev Begins : Bool → Role → Option ℕ → Sleeps → Answer → Sleeps → List OutsideCall → Type 0
Begins true role nanos old a new calls = (sleep : Option ℕ) × (a ≡ answers.Started) × (new ≡ with_sleep role sleep old) × (calls ≡ giving_up (sleep_of role old) ++ OfTimers (Start (unwrap_or nanos 0) (Ok sleep)) ∷ [])
Begins false role nanos old a new calls = (a ≡ answers.Absent) × (new ≡ old) × (calls ≡ [])

begins : (has : Bool) (role : Role) (nanos : Option ℕ) (old : Sleeps) (a : Answer) (new : Sleeps) (calls : List OutsideCall) → Starts has role nanos old a new calls → Begins has role nanos old a new calls
begins true role nanos old answers.Started new calls h = (h.1.0, refl, h.1.1, h.1.2)
begins false role nanos old answers.Started new calls h = absurd (false≢true h.0)
begins true role nanos old answers.Absent new calls h = absurd (false≢true (sym h.0))
begins false role nanos old answers.Absent new calls h = (refl, h.1, h.2)
begins has role nanos old _ new calls h = absurd h

abbrev ready_or : Bool → Answer
ready_or true = answers.Ready
ready_or false = answers.Pending

-- a sleep was asked, and is over or not
abbrev Waited : Option ℕ → Answer → List OutsideCall → Type 0
Waited None a calls = (a ≡ answers.Ready) × (calls ≡ [])
Waited (Some sleep) a calls = (over : Bool) × (a ≡ ready_or over) × (calls ≡ OfTimers (Ready sleep over) ∷ [])

waited : (sleep : Option ℕ) (a : Answer) (calls : List OutsideCall) → Waits sleep a calls → Waited sleep a calls
waited None answers.Ready calls h = (refl, h)
waited (Some sleep) answers.Ready calls h = (true, refl, h)
waited (Some sleep) answers.Pending calls h = (false, refl, h)
waited sleep _ calls h = absurd h

module _ {X : Type 0} (makes : X → OutsideCall → X → Type 0) (steady : IsSteady makes) where
  starts_by : (has : Bool) (role : Role) (nanos : Option ℕ) (old : Sleeps) (a b : Answer) (new more : Sleeps) (calls later : List OutsideCall) (from made too : X)
      → Begins has role nanos old a new calls → Begins has role nanos old b more later → Chained makes from calls made → Chained makes from later too → (a ≡ b) × (new ≡ more) × (made ≡ too)
  starts_by true role nanos old a b new more calls later from made too (sleep, s, s1, s2) (slept, t, t1, t2) did again =
      let front = giving_up (sleep_of role old) in
      let given = past makes steady front (OfTimers (Start (unwrap_or nanos 0) (Ok sleep)) ∷ []) (OfTimers (Start (unwrap_or nanos 0) (Ok slept)) ∷ []) from made too
      (subst (λ l. Chained makes from l made) s2 did) (subst (λ l. Chained makes from l too) t2 again) in
      let met = onward makes steady (λ x. OfTimers (Start (unwrap_or nanos 0) (Ok x))) (steady.start (unwrap_or nanos 0)) sleep slept [] [] given.state made too given.first given.second in
      (s ∙ sym t, s1 ∙ (ap (λ x. with_sleep role x old) met.0 ∙ sym t1), met.1.first ∙ sym met.1.second)
  starts_by false role nanos old a b new more calls later from made too s t did again =
      (s.0 ∙ sym t.0, s.1 ∙ sym t.1, same_calls makes steady [] from made too (subst (λ l. Chained makes from l made) s.2 did) (subst (λ l. Chained makes from l too) t.2 again))

  pub starts_alike : (has : Bool) (role : Role) (nanos : Option ℕ) (old : Sleeps) (a b : Answer) (new more : Sleeps) (calls later : List OutsideCall) (from made too : X)
      → Starts has role nanos old a new calls → Starts has role nanos old b more later → Chained makes from calls made → Chained makes from later too → (a ≡ b) × (new ≡ more) × (made ≡ too)
  starts_alike has role nanos old a b new more calls later from made too s t did again =
      starts_by has role nanos old a b new more calls later from made too (begins has role nanos old a new calls s) (begins has role nanos old b more later t) did again

  waits_by : (sleep : Option ℕ) (a b : Answer) (calls later : List OutsideCall) (from made too : X) → Waited sleep a calls → Waited sleep b later → Chained makes from calls made → Chained makes from later too → (a ≡ b) × (made ≡ too)
  waits_by None a b calls later from made too s t did again =
      (s.0 ∙ sym t.0, same_calls makes steady [] from made too (subst (λ l. Chained makes from l made) s.1 did) (subst (λ l. Chained makes from l too) t.1 again))
  waits_by (Some sleep) a b calls later from made too (over, s, s1) (end, t, t1) did again =
      let met = onward makes steady (λ x. OfTimers (Ready sleep x)) (steady.ready sleep) over end [] [] from made too (subst (λ l. Chained makes from l made) s1 did) (subst (λ l. Chained makes from l too) t1 again) in
      (s ∙ (ap ready_or met.0 ∙ sym t), met.1.first ∙ sym met.1.second)

  pub waits_alike : (sleep : Option ℕ) (a b : Answer) (calls later : List OutsideCall) (from made too : X) → Waits sleep a calls → Waits sleep b later → Chained makes from calls made → Chained makes from later too → (a ≡ b) × (made ≡ too)
  waits_alike sleep a b calls later from made too s t did again = waits_by sleep a b calls later from made too (waited sleep a calls s) (waited sleep b later t) did again
