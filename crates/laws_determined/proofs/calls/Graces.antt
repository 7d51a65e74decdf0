-- What a look makes of a stream is determined.
use Rattle.std.proofs.Common.{◌≡◌, ◌∙◌, refl, sym, ap, subst, ℕ, Bool, true, false, List, ◌++◌, ◌∷◌, [], map, Option, None, Some, Result, Ok, Err}
use Rattle.std.proofs.lemmas.Bool.{false≢true}
use Rattle.body_guard.specs.Grace.{AsksSleep, Grants, Opens, give_up_calls, opening}
use Rattle.body_guard.specs.declared.grace.Grace.{Grace}
use Rattle.body_guard.specs.declared.grace.GraceAnswer.{GraceAnswer}
use Rattle.body_guard.specs.declared.grace.GraceAnswer.TheVariants.{InTime, NoSleep, Over}
use Rattle.outside.specs.Calls.{OutsideCall, OfTimers}
use Rattle.smithy_types.specs.Chain.{Chained}
use Rattle.smithy_types.specs.declared.memory.OutOfMemory.{OutOfMemory}
use Rattle.smithy_types.specs.declared.timers.TimersCall.{TimersCall}
use Rattle.smithy_types.specs.declared.timers.TimersCall.TheVariants.{Start, Ready, GiveUp}
use Rattle.stream_guard.specs.declared.throughput.Throughput.{Throughput}
use Rattle.laws_determined.specs.Steady.Steady.{IsSteady}
use Rattle.laws_determined.proofs.steady.Calls.{Onward, onward, past}

-- there was memory
abbrev pub Had : {A E : Type 0} → Result A E → Type 0
Had (Ok x) = Unit {0}
Had (Err e) = ⊥

module _ {X : Type 0} (makes : X → OutsideCall → X → Type 0) (steady : IsSteady makes) where
  -- lists of timers' calls that are the same
  pub timed_past : (front other same : List TimersCall) (calls more : List OutsideCall) (old new also : X) → front ≡ same → other ≡ same
      → Chained makes old (map OfTimers front ++ calls) new → Chained makes old (map OfTimers other ++ more) also → Onward makes calls more new also
  timed_past front other same calls more old new also p q made again =
      past makes steady (map OfTimers same) calls more old new also
      (subst (λ l. Chained makes old (map OfTimers l ++ calls) new) p made) (subst (λ l. Chained makes old (map OfTimers l ++ more) also) q again)

  sleeps_alike : (sleep : ℕ) (one two : Bool) (front other : List TimersCall) (after later : List TimersCall) (calls more : List OutsideCall) (old new also : X)
      → front ≡ Ready sleep one ∷ after → other ≡ Ready sleep two ∷ later
      → Chained makes old (map OfTimers front ++ calls) new → Chained makes old (map OfTimers other ++ more) also → one ≡ two
  sleeps_alike sleep one two front other after later calls more old new also p q made again =
      (onward makes steady (λ is_over. OfTimers (Ready sleep is_over)) (steady.ready sleep) one two (map OfTimers after ++ calls) (map OfTimers later ++ more) old new also
      (subst (λ l. Chained makes old (map OfTimers l ++ calls) new) p made) (subst (λ l. Chained makes old (map OfTimers l ++ more) also) q again)).0

  asks_alike : (found : Result (Option ℕ) OutOfMemory) (actual : Throughput) (grace : Grace) (said also : Result GraceAnswer OutOfMemory) (new other : Grace) (asking asked : List TimersCall) (calls more : List OutsideCall) (old made too : X)
      → Had said → Had also → AsksSleep found actual grace said new asking → AsksSleep found actual grace also other asked
      → Chained makes old (map OfTimers asking ++ calls) made → Chained makes old (map OfTimers asked ++ more) too → (said ≡ also) × (new ≡ other) × Onward makes calls more made too
  asks_alike (Err e) actual grace said also new other asking asked calls more old made too h k s t did again = absurd (subst Had s.0 h)
  asks_alike (Ok None) actual grace said also new other asking asked calls more old made too h k s t did again =
      (s.0 ∙ sym t.0, s.1 ∙ sym t.1, timed_past asking asked [] calls more old made too s.2 t.2 did again)
  asks_alike (Ok (Some sleep)) actual grace (Ok InTime) (Ok InTime) new other asking asked calls more old made too h k s t did again =
      (refl, s.0 ∙ sym t.0, timed_past asking asked (Ready sleep false ∷ []) calls more old made too s.1 t.1 did again)
  asks_alike (Ok (Some sleep)) actual grace (Ok (Over one)) (Ok (Over two)) new other asking asked calls more old made too h k s t did again =
      (ap (λ x. Ok (Over x)) (s.0 ∙ sym t.0), s.1 ∙ sym t.1, timed_past asking asked (Ready sleep true ∷ GiveUp sleep ∷ []) calls more old made too s.2 t.2 did again)
  asks_alike (Ok (Some sleep)) actual grace (Ok InTime) (Ok (Over two)) new other asking asked calls more old made too h k s t did again =
      absurd (false≢true (sleeps_alike sleep false true asking asked [] (GiveUp sleep ∷ []) calls more old made too s.1 t.2 did again))
  asks_alike (Ok (Some sleep)) actual grace (Ok (Over one)) (Ok InTime) new other asking asked calls more old made too h k s t did again =
      absurd (false≢true (sym (sleeps_alike sleep true false asking asked (GiveUp sleep ∷ []) [] calls more old made too s.2 t.1 did again)))
  asks_alike (Ok (Some sleep)) actual grace (Ok NoSleep) also new other asking asked calls more old made too h k s t did again = absurd s
  asks_alike (Ok (Some sleep)) actual grace (Ok InTime) (Ok NoSleep) new other asking asked calls more old made too h k s t did again = absurd t
  asks_alike (Ok (Some sleep)) actual grace (Ok (Over one)) (Ok NoSleep) new other asking asked calls more old made too h k s t did again = absurd t
  asks_alike (Ok (Some sleep)) actual grace (Err e) also new other asking asked calls more old made too h k s t did again = absurd h
  asks_alike (Ok (Some sleep)) actual grace (Ok said) (Err e) new other asking asked calls more old made too h k s t did again = absurd k

  found_had : (found : Result (Option ℕ) OutOfMemory) (actual : Throughput) (grace : Grace) (said : Result GraceAnswer OutOfMemory) (new : Grace) (asking : List TimersCall) → Had said → AsksSleep found actual grace said new asking → Had found
  found_had (Ok found) actual grace said new asking h s = tt
  found_had (Err e) actual grace said new asking h s = subst Had s.0 h

  -- the same sleep is open, or is started
  opens_alike : (sleeps : Bool) (period : ℕ) (sleep : Option ℕ) (found other : Result (Option ℕ) OutOfMemory) (asking asked : List TimersCall) (calls more : List OutsideCall) (old made too : X)
      → Had found → Had other → Opens sleeps sleep found → Opens sleeps sleep other
      → Chained makes old (map OfTimers (opening period sleep found ++ asking) ++ calls) made → Chained makes old (map OfTimers (opening period sleep other ++ asked) ++ more) too
      → (found ≡ other) × Onward makes (map OfTimers asking ++ calls) (map OfTimers asked ++ more) made too
  opens_alike sleeps period (Some open_sleep) found other asking asked calls more old made too h k s t did again = (s ∙ sym t, record { state = old; first = did; second = again })
  opens_alike sleeps period None (Ok one) (Ok two) asking asked calls more old made too h k s t did again =
      let met = onward makes steady (λ sleep. OfTimers (Start period (Ok sleep))) (steady.start period) one two (map OfTimers asking ++ calls) (map OfTimers asked ++ more) old made too did again in
      (ap Ok met.0, met.1)
  opens_alike sleeps period None (Ok one) (Err e) asking asked calls more old made too h k s t did again = absurd k
  opens_alike sleeps period None (Err e) other asking asked calls more old made too h k s t did again = absurd h

  -- what a look makes of a grace
  pub grants_alike : (sleeps : Bool) (violation : Option Throughput) (grace : Grace) (said also : Result GraceAnswer OutOfMemory) (new other : Grace) (granting granted : List TimersCall) (calls more : List OutsideCall) (old made too : X)
      → Had said → Had also → Grants sleeps violation grace said new granting → Grants sleeps violation grace also other granted
      → Chained makes old (map OfTimers granting ++ calls) made → Chained makes old (map OfTimers granted ++ more) too → (said ≡ also) × (new ≡ other) × Onward makes calls more made too
  grants_alike sleeps None grace said also new other granting granted calls more old made too h k s t did again =
      (s.0 ∙ sym t.0, s.1 ∙ sym t.1, timed_past granting granted (give_up_calls grace.sleep) calls more old made too s.2 t.2 did again)
  grants_alike sleeps (Some actual) grace said also new other granting granted calls more old made too h k s t did again =
      let opened = opens_alike sleeps grace.options.grace_period grace.sleep s.found t.found s.asking t.asking calls more old made too
      (found_had s.found actual grace said new s.asking h s.asks) (found_had t.found actual grace also other t.asking k t.asks) s.opens t.opens
      (subst (λ l. Chained makes old (map OfTimers l ++ calls) made) s.calls_are did) (subst (λ l. Chained makes old (map OfTimers l ++ more) too) t.calls_are again) in
      asks_alike s.found actual grace said also new other s.asking t.asking calls more opened.1.state made too h k s.asks
      (subst (λ f. AsksSleep f actual grace also other t.asking) (sym opened.0) t.asks) opened.1.first opened.1.second
