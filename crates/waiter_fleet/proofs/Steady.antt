-- Calls that a steady world makes in one way.
use Rattle.std.proofs.Common.{◌≡◌, ℕ, ◌<◌, true, false, List, [], ◌∷◌, ◌++◌, Option, None, Some, Ok, zero, suc, arith, ap, sym, subst, refl, ◌∙◌, append_assoc}
use Rattle.std.specs.Prelude.{unwrap_or}
use Rattle.smithy_types.specs.Chain.{Chained}
use Rattle.smithy_types.specs.declared.acceptor.AcceptorState.{AcceptorState}
use Rattle.smithy_types.specs.declared.timers.TimersCall.TheVariants.{Now, Ready}
use Rattle.waiter_fleet.specs.declared.event.Seen.{Seen}
use Rattle.waiter_fleet.specs.Calls.{FleetCall, awaited, parked, polled, timed, unanswered, unready}
use Rattle.waiter_fleet.specs.Laws.{IsSteady}

-- how often something was asked, what came, and where that led
pub record SameAsks {T A : Type 0} (n k : ℕ) (f g : A) (i j : ℕ) (x y : T) : Type 0 where
  pub times : n ≡ k
  pub found : f ≡ g
  pub moment : i ≡ j
  pub world : x ≡ y

some_is : {A : Type 0} (a b : A) → Some a ≡ Some b → a ≡ b
some_is a b is = ap (λ o. unwrap_or o a) is

module _ {T : Type 0} (does : T → FleetCall → T → Type 0) (steady : IsSteady does) where
  -- the clock is asked from one world
  same_clock : {A : Type 0} (f : A) (i j : ℕ) (m x y : T) → Chained does m (timed (Now i) ∷ []) x → Chained does m (timed (Now j) ∷ []) y → SameAsks 0 0 f f i j x y
  same_clock f i j m x y (a, p, e) (b, q, h) =
      let at = steady.tells m a b i j p q in
      let moved = steady.moves m a b (timed (Now i)) p (subst (λ one. does m (timed (Now one)) b) (sym at) q) in
      record { times = refl; found = refl; moment = at; world = e ∙ (moved ∙ sym h) }

  pub same_polls : (waiter n k : ℕ) (f g : Seen × AcceptorState) (i j : ℕ) (m l x y : T) → m ≡ l →
      Chained does m (unanswered waiter n ++ (polled waiter (Ok (Some f)) ∷ timed (Now i) ∷ [])) x →
      Chained does l (unanswered waiter k ++ (polled waiter (Ok (Some g)) ∷ timed (Now j) ∷ [])) y → SameAsks n k f g i j x y
  same_polls waiter zero zero f g i j m l x y same (a, p, r) (b, q, s) =
      let q' = subst (λ t. does t (polled waiter (Ok (Some g))) b) (sym same) q in
      let found = some_is f g (steady.polls m a b waiter (Some f) (Some g) p q') in
      let moved = steady.moves m a b (polled waiter (Ok (Some f))) p (subst (λ one. does m (polled waiter (Ok (Some one))) b) (sym found) q') in
      let clock = same_clock f i j a x y r (subst (λ t. Chained does t (timed (Now j) ∷ []) y) (sym moved) s) in
      record { times = refl; found = found; moment = clock.moment; world = clock.world }
  same_polls waiter zero (suc k) f g i j m l x y same (a, p, r) (b, q, s) =
      let q' = subst (λ t. does t (polled waiter (Ok None)) b) (sym same) q in
      absurd (cc (steady.polls m a b waiter (Some f) None p q'))
  same_polls waiter (suc n) zero f g i j m l x y same (a, p, r) (b, q, s) =
      let q' = subst (λ t. does t (polled waiter (Ok (Some g))) b) (sym same) q in
      absurd (cc (steady.polls m a b waiter None (Some g) p q'))
  same_polls waiter (suc n) (suc k) f g i j m l x y same (a, p, (c, parks, r)) (b, q, (d, waits, s)) =
      let q' = subst (λ t. does t (polled waiter (Ok None)) b) (sym same) q in
      let asked = steady.moves m a b (polled waiter (Ok None)) p q' in
      let rested = steady.moves a c d parked parks (subst (λ t. does t parked d) (sym asked) waits) in
      let rest = same_polls waiter n k f g i j c d x y rested r s in
      record { times = ap suc rest.times; found = rest.found; moment = rest.moment; world = rest.world }

  woken : (sleep n k : ℕ) (i j : ℕ) (m l x y : T) → m ≡ l →
      Chained does m (unready sleep n ++ (timed (Ready sleep true) ∷ timed (Now i) ∷ [])) x →
      Chained does l (unready sleep k ++ (timed (Ready sleep true) ∷ timed (Now j) ∷ [])) y → SameAsks {A = ℕ} n k 0 0 i j x y
  woken sleep zero zero i j m l x y same (a, p, r) (b, q, s) =
      let q' = subst (λ t. does t (timed (Ready sleep true)) b) (sym same) q in
      let moved = steady.moves m a b (timed (Ready sleep true)) p q' in
      let clock = same_clock {A = ℕ} 0 i j a x y r (subst (λ t. Chained does t (timed (Now j) ∷ []) y) (sym moved) s) in
      record { times = refl; found = refl; moment = clock.moment; world = clock.world }
  woken sleep zero (suc k) i j m l x y same (a, p, r) (b, q, s) =
      let q' = subst (λ t. does t (timed (Ready sleep false)) b) (sym same) q in
      absurd (cc (steady.wakes m a b sleep true false p q'))
  woken sleep (suc n) zero i j m l x y same (a, p, r) (b, q, s) =
      let q' = subst (λ t. does t (timed (Ready sleep true)) b) (sym same) q in
      absurd (cc (steady.wakes m a b sleep false true p q'))
  woken sleep (suc n) (suc k) i j m l x y same (a, p, (c, parks, r)) (b, q, (d, waits, s)) =
      let q' = subst (λ t. does t (timed (Ready sleep false)) b) (sym same) q in
      let asked = steady.moves m a b (timed (Ready sleep false)) p q' in
      let rested = steady.moves a c d parked parks (subst (λ t. does t parked d) (sym asked) waits) in
      let rest = woken sleep n k i j c d x y rested r s in
      record { times = ap suc rest.times; found = refl; moment = rest.moment; world = rest.world }

  -- an ask of the bucket, with the sleep before it
  pub same_asks : (slept : Option ℕ) (n k : ℕ) (i j : ℕ) (m x y : T) →
      Chained does m (awaited slept n ++ timed (Now i) ∷ []) x → Chained does m (awaited slept k ++ timed (Now j) ∷ []) y →
      SameAsks 0 0 (awaited slept n) (awaited slept k) i j x y
  same_asks None n k i j m x y made other =
      let clock = same_clock {A = List FleetCall} [] i j m x y made other in
      record { times = refl; found = refl; moment = clock.moment; world = clock.world }
  same_asks (Some sleep) n k i j m x y made other =
      let P : (at : ℕ) (z : T) → List FleetCall → Type 0 = λ at z calls. Chained does m calls z in
      let over = woken sleep n k i j m m x y refl
      (subst (P i x) (append_assoc (unready sleep n) (timed (Ready sleep true) ∷ []) (timed (Now i) ∷ [])) made)
      (subst (P j y) (append_assoc (unready sleep k) (timed (Ready sleep true) ∷ []) (timed (Now j) ∷ [])) other) in
      record { times = refl; found = ap (λ times. awaited (Some sleep) times) over.times; moment = over.moment; world = over.world }

  -- A poll that is answered after so many asks isn't pending any longer,
  pub no_answer : (waiter n k : ℕ) (f : Seen × AcceptorState) (later : List FleetCall) (m l x y : T) → m ≡ l →
      Chained does m (unanswered waiter n) x →
      Chained does l (unanswered waiter k ++ polled waiter (Ok (Some f)) ∷ later) y → k < n → ⊥
  no_answer waiter zero k f later m l x y same made other less = absurd (omega (arith, less))
  no_answer waiter (suc n) zero f later m l x y same (a, p, r) (b, q, s) less =
      let q' = subst (λ t. does t (polled waiter (Ok (Some f))) b) (sym same) q in
      cc (steady.polls m a b waiter None (Some f) p q')
  no_answer waiter (suc n) (suc k) f later m l x y same (a, p, (c, parks, r)) (b, q, (d, waits, s)) less =
      let q' = subst (λ t. does t (polled waiter (Ok None)) b) (sym same) q in
      let asked = steady.moves m a b (polled waiter (Ok None)) p q' in
      let rested = steady.moves a c d parked parks (subst (λ t. does t parked d) (sym asked) waits) in
      no_answer waiter n k f later c d x y rested r s (omega (arith, less))

  -- and a sleep that is over doesn't go on.
  pub no_sleep : (sleep n k : ℕ) (later : List FleetCall) (m l x y : T) → m ≡ l →
      Chained does m (unready sleep n) x → Chained does l (unready sleep k ++ timed (Ready sleep true) ∷ later) y → k < n → ⊥
  no_sleep sleep zero k later m l x y same made other less = absurd (omega (arith, less))
  no_sleep sleep (suc n) zero later m l x y same (a, p, r) (b, q, s) less =
      let q' = subst (λ t. does t (timed (Ready sleep true)) b) (sym same) q in
      cc (steady.wakes m a b sleep false true p q')
  no_sleep sleep (suc n) (suc k) later m l x y same (a, p, (c, parks, r)) (b, q, (d, waits, s)) less =
      let q' = subst (λ t. does t (timed (Ready sleep false)) b) (sym same) q in
      let asked = steady.moves m a b (timed (Ready sleep false)) p q' in
      let rested = steady.moves a c d parked parks (subst (λ t. does t parked d) (sym asked) waits) in
      no_sleep sleep n k later c d x y rested r s (omega (arith, less))
