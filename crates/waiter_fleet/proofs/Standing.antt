-- Stretches of calls put together, and acts that follow one another.
use Rattle.std.proofs.Common.{◌≡◌, ◌≢◌, ℕ, ◌+◌, Bool, true, false, List, [], ◌∷◌, ◌++◌, arith, ap, refl, ◌∙◌}
use Rattle.smithy_types.specs.declared.kinds.ErrorKind.TheVariants.{ServerError}
use Rattle.smithy_types.proofs.ChainLemmas.{chained_join}
use Rattle.retry_quota.specs.Book.{Book, cost_of}
use Rattle.waiter_fleet.specs.declared.event.FleetEvent.{FleetEvent}
use Rattle.std.proofs.lemmas.Bool.{false≢true}
use Rattle.waiter_fleet.specs.Acts.{Act, calls_of, calls_with, events_of, is_ask, open_sleep}
use Rattle.smithy_types.specs.Chain.{Chained}
use Rattle.smithy_types.specs.declared.timers.TimersCall.TheVariants.{Now}
use Rattle.waiter_fleet.specs.Calls.{FleetCall, asks, timed}
use Rattle.waiter_fleet.specs.Calls as calls
use Rattle.waiter_fleet.specs.Events.{book_with, waiter_of}
use Rattle.waiter_fleet.specs.Fleet.{Follows, is_settled}
use Rattle.waiter_fleet.specs.Steps.{Halts, Kept, Origin, Rest, RunsOut, Spends, Stands}

pub asks-append : (xs ys : List FleetCall) → asks (xs ++ ys) ≡ asks xs + asks ys
asks-append [] ys = omega arith
asks-append (x ∷ xs) ys = omega (arith, asks-append xs ys)

-- what asks no bucket needs no fuel
pub no_ask : {left : ℕ} → false ≡ true → left ≢ 0
no_ask is = absurd (false≢true is)

-- whether there are sleeps never changes
pub sleeps-chained : {T : Type 0} (does : T → FleetCall → T → Type 0) (sleeps : T → Bool) →
    ((one : T) (call : FleetCall) (next : T) → does one call next → sleeps next ≡ sleeps one) →
    (old new : T) (calls : List FleetCall) → Chained does old calls new → sleeps new ≡ sleeps old
sleeps-chained does sleeps stay old new [] same = ap sleeps same
sleeps-chained does sleeps stay old new (call ∷ calls) (mid, done, made) =
    sleeps-chained does sleeps stay mid new calls made ∙ stay old call mid done

module _ {T : Type 0} (does : T → FleetCall → T → Type 0) where
  pub spends-none : (world : T) (fuel : ℕ) → Spends does world fuel [] world fuel
  spends-none world fuel = record { made = refl; spent = omega arith }

  pub spends-append : {old mid new : T} {before between after : ℕ} {xs ys : List FleetCall} →
      Spends does old before xs mid between → Spends does mid between ys new after →
      Spends does old before (xs ++ ys) new after
  spends-append {old} {mid} {new} {before} {between} {after} {xs} {ys} first second = record {
    made = chained_join does old mid new xs ys first.made second.made;
    spent = omega (arith, first.spent, second.spent, asks-append xs ys);
  }

  -- one call that spends this much
  pub spends-one : (old new : T) (before after : ℕ) (call : FleetCall) → does old call new →
      after + calls.cost_of call ≡ before → Spends does old before (call ∷ []) new after
  spends-one old new before after call done spent = record { made = (new, done, refl); spent = omega (arith, spent) }

  module _ (o : Origin T) (start : ℕ) where
    -- further calls behind the acts
    pub kept-beyond : {acts : List Act} {some own : List FleetCall} {book : Book} {mid new : T} {between left : ℕ} →
        Kept does o start acts some book mid between → Spends does mid between own new left →
        Kept does o start acts (some ++ own) book new left
    kept-beyond {acts} {some} {own} {book} {mid} {new} {between} {left} kept further = record {
      fleet = kept.fleet;
      books = kept.books;
      funded = kept.funded;
      spends = spends-append kept.spends further;
    }

    module _ (acts : List Act) (event : FleetEvent) (times sleep : ℕ) where
      -- a further act
      pub kept-act : {book after : Book} {mid new : T} {between left : ℕ} →
          Kept does o start acts (calls_of acts) book mid between →
          Follows o.plans o.book start (events_of acts) event →
          Spends does mid between (calls_with event times sleep (open_sleep (waiter_of event) acts)) new left →
          after ≡ book_with (cost_of ServerError o.book) event book →
          (is_ask event ≡ true → left ≢ 0) →
          let act : Act = record { event = event; times = times; sleep = sleep } in
          Kept does o start (act ∷ acts) (calls_of (act ∷ acts)) after new left
      kept-act {book} {after} {mid} {new} {between} {left} kept follows further is spare =
          let own = calls_with event times sleep (open_sleep (waiter_of event) acts) in
          let spends = spends-append kept.spends further in
          let spent : left + asks (timed (Now start) ∷ (calls_of acts ++ own)) ≡ o.fuel = spends.spent in
          record {
            fleet = (follows, kept.fleet);
            books = is ∙ ap (book_with (cost_of ServerError o.book) event) kept.books;
            funded = (λ ask. let some = spare ask in omega (arith, spent, some), kept.funded);
            spends = spends;
          }

      pub stands-act : {before events : List FleetEvent} {book after : Book} {mid new : T} {between left : ℕ} →
          Stands does o start acts before book mid between →
          Follows o.plans o.book start (events_of acts) event →
          Spends does mid between (calls_with event times sleep (open_sleep (waiter_of event) acts)) new left →
          after ≡ book_with (cost_of ServerError o.book) event book →
          events ≡ before ++ event ∷ [] → (is_ask event ≡ true → left ≢ 0) →
          let act : Act = record { event = event; times = times; sleep = sleep } in
          Stands does o start (act ∷ acts) events after new left
      stands-act {before} {events} {book} {after} {mid} {new} {between} {left} stands follows further is logged spare = record {
        kept = kept-act stands.kept follows further is spare;
        logged = logged ∙ ap (λ items. items ++ event ∷ []) stands.logged;
      }

    -- an allocation was refused behind these acts
    pub kept-halts : {acts : List Act} {some : List FleetCall} {book : Book} {world : T} {left : ℕ} →
        Kept does o start acts some book world left → Halts does o start book world
    kept-halts {acts} {some} {book} {world} {left} kept = record {
      acts = acts;
      calls = some;
      fleet = kept.fleet;
      books = kept.books;
      made = kept.spends.made;
    }

    -- or behind further calls
    pub halts-beyond : {acts : List Act} {before : List FleetEvent} {book : Book} {mid : T} {between : ℕ} (own : List FleetCall) (new : T) →
        Stands does o start acts before book mid between → Chained does mid own new →
        Halts does o start book new
    halts-beyond {acts} {before} {book} {mid} {between} own new stands further = record {
      acts = acts;
      calls = calls_of acts ++ own;
      fleet = stands.kept.fleet;
      books = stands.kept.books;
      made = chained_join does o.world mid new (timed (Now start) ∷ calls_of acts) own stands.kept.spends.made further;
    }

    pub halts-spent : {acts : List Act} {before : List FleetEvent} {own : List FleetCall} {book : Book} {mid new : T} {between left : ℕ} →
        Stands does o start acts before book mid between → Spends does mid between own new left →
        Halts does o start book new
    halts-spent {acts} {before} {own} {book} {mid} {new} {between} {left} stands further = halts-beyond own new stands further.made

    -- the fuel is spent behind these calls
    pub runs_out : {acts : List Act} {events : List FleetEvent} {rest : List FleetCall} {book : Book} {mid new : T} {between left : ℕ} →
        Stands does o start acts events book mid between → Spends does mid between rest new left →
        Rest does o start acts rest → is_settled (events_of acts) ≡ true → left ≡ 0 → RunsOut does o start acts events book new left
    runs_out {acts} {events} {rest} {book} {mid} {new} {between} {left} stands further is settled spent = record {
      rest = rest;
      is_rest = is;
      kept = kept-beyond stands.kept further;
      logged = stands.logged;
      settled = settled;
      all_spent = spent;
    }
