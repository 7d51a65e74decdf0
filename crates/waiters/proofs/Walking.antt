-- The walk, from turn to turn.
use Rattle.std.proofs.Common.{◌≡◌, ℕ, ◌+◌, ◌<◌, ◌^◌, List, [], ◌∷◌, ◌++◌, Bool, true, false, Result, arith, refl, sym, subst, ◌∙◌, cond}
use Rattle.std.specs.Borrow.{Bor, MutBor}
use Rattle.std.specs.Prelude.{count_by}
use Rattle.std.proofs.lemmas.List.Sums.{sum_by-cons}
use Rattle.smithy_types.specs.declared.acceptor.AcceptorState.{AcceptorState}
use Rattle.smithy_types.specs.declared.timers.TimersCall.TheVariants.{Now}
use Rattle.waiters.specs.declared.backoff.Backoff.{Backoff}
use Rattle.waiters.specs.declared.progress.Progress.{Progress}
use Rattle.waiters.specs.declared.timers.WaiterCall.{WaiterCall}
use Rattle.waiters.specs.declared.timers.WaiterCall.TheVariants.{Timers}
use Rattle.waiters.specs.Calls.{Answer, Call, called, is_ask, is_unready}
use Rattle.waiters.specs.Count.{Counts}
use Rattle.waiters.specs.Steps.{GoesOn, Spends, StandsAfter, Stops}
use Rattle.waiters.specs.Walk.{End, IsWalk, Turn}
use Rattle.waiters.specs.WalkCalls.{Waits, walk_calls}
use Rattle.waiters.proofs.Counting.{counted-handed, unready-le-asks}
use Rattle.waiters.proofs.Spending.{spends-append}
use Rattle.waiters.proofs.Turning.{sleeps-handed}

-- the walk stands at these timers with this progress
pub record Along {T O E : Type 0} (backoff : Backoff) (says : Result (Bor O) (Bor E) → AcceptorState → Type 0)
    (makes : T → WaiterCall → T → Type 0) (answers : MutBor T → ℕ → Answer O E → MutBor T → Type 0)
    (sleeps : T → Bool) (old : T) (full : ℕ) (progress : Progress) (new : T) : Type 0 where
  pub turns : List (Turn O E)
  pub walks : IsWalk backoff says progress.start turns
  pub stands : StandsAfter turns progress
  pub spends : Spends makes answers old full (called (Timers (Now progress.start)) ∷ walk_calls turns) new progress.fuel
  pub has_sleep : sleeps new ≡ true

module _ {T O E : Type 0} (backoff : Backoff) (says : Result (Bor O) (Bor E) → AcceptorState → Type 0)
    (makes : T → WaiterCall → T → Type 0) (answers : MutBor T → ℕ → Answer O E → MutBor T → Type 0) (sleeps : T → Bool)
    (old : T) (full : ℕ) where
  pub along-start : (new : T) (progress : Progress) → makes old (Timers (Now progress.start)) new → sleeps new ≡ true →
      progress.number ≡ 1 → progress.zero_used ≡ false → progress.fuel ≡ full →
      Along backoff says makes answers sleeps old full progress new
  along-start new progress told has_sleep numbered used fuel = record {
    turns = [];
    walks = tt;
    stands = record { numbered = omega arith; zero = used };
    spends = record { handed = (new, told, refl); spent = omega arith };
    has_sleep = has_sleep;
  }

  pub along-turn : ((one : T) (call : WaiterCall) (next : T) → makes one call next → sleeps next ≡ sleeps one) →
      (mid new : T) (was is : Progress) (along : Along backoff says makes answers sleeps old full was mid) →
      GoesOn backoff says makes answers along.turns mid was new is → Along backoff says makes answers sleeps old full is new
  along-turn stay mid new was is along goes = record {
    turns = goes.turn ∷ along.turns;
    walks =
        let P : ℕ → Type 0 = λ start. IsWalk backoff says start (goes.turn ∷ along.turns) in
        subst P (sym goes.same_start) (goes.follows, along.walks);
    stands = goes.stands;
    spends =
        let P : ℕ → Type 0 = λ start. Spends makes answers old full (called (Timers (Now start)) ∷ walk_calls (goes.turn ∷ along.turns)) new is.fuel in
        subst P (sym goes.same_start) (spends-append makes answers along.spends goes.spends);
    has_sleep = sleeps-handed backoff says makes answers sleeps stay mid _ new goes.spends.handed ∙ along.has_sleep;
  }

  pub waits-stopped : (count : T → ℕ) → ((one : T) (call : WaiterCall) (next : T) → makes one call next → Counts (count one) call (count next)) →
      count old + full < 2 ^ 64 →
      (mid new : T) (was is : Progress) (ending : End O E) (along : Along backoff says makes answers sleeps old full was mid) →
      Stops backoff says makes answers along.turns mid was new is ending → Waits backoff says makes count answers old full ending new
  waits-stopped count counts room mid new was is ending along stops =
      let all = spends-append makes answers along.spends stops.spends in
      let calls : List (Call O E) = walk_calls along.turns ++ stops.rest in
      let first : Call O E = called (Timers (Now was.start)) in
      let asked = sum_by-cons (λ one. cond (is_ask one) 1 0) first calls in
      let counted = sum_by-cons (λ one. cond (is_unready one) 1 0) first calls in
      let whole : count new ≡ count old + count_by is_unready (first ∷ calls) =
      counted-handed makes answers count counts old (first ∷ calls) new all.handed (omega (arith, unready-le-asks (first ∷ calls), all.spent)) in
      record {
        start = was.start;
        turns = along.turns;
        walks = along.walks;
        rest = stops.rest;
        ends = stops.ends;
        handed = all.handed;
        within = omega (arith, all.spent);
        spent = λ unfinished. omega (arith, all.spent, stops.all_spent unfinished);
        counted = omega arith;
      }
