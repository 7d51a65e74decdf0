-- What `waiters` says is determined by its input.
use Rattle.std.proofs.Common.{◌≡◌, ℕ, List, [], length, Some, ap, sym, subst, ◌∙◌}
use Rattle.std.specs.Prelude.{replicate}
use Rattle.retry_quota.specs.Book.{book_of, sums_of}
use Rattle.cli_shell.specs.Determined.{IsFunctional}
use Rattle.cli_shell.specs.Said.{prints}
use Rattle.cli_shell.proofs.Saying.{bytes-say-once}
use Rattle.cli_shell.specs.declared.status.PrintStatus.{PrintStatus}
use Rattle.cli_waiters.specs.Fleet.Makes.{Does}
use Rattle.cli_waiters.specs.Fleet.Waiters.{first_place, plans_of}
use Rattle.cli_waiters.specs.declared.fleet.scripted_fleet.ScriptedFleet.{ScriptedFleet}
use Rattle.cli_waiters.proofs.fleet.Steady.{scripts-are-steady}
use Rattle.waiter_fleet.specs.Waiting.{WaitsAll}
use Rattle.waiter_fleet.proofs.Determined.{runs-determined}
use Rattle.cli_waiters.specs.Script.Script.{IsScript}
use Rattle.cli_waiters.specs.declared.script.terms.WaitersScript.{WaitersScript}
use Rattle.cli_waiters.specs.Print.{came_to, fleet_text}
use Rattle.cli_waiters.specs.Waiters.{IsFirst, IsWaiters, waiters_means, waiters_says, waits_of}

same_some : {X : Type 0} (x y : X) → Some x ≡ Some y → x ≡ y
same_some x y is = cc

one-script : (bytes : List ℕ) (s t : WaitersScript) → IsScript bytes s → IsScript bytes t → s ≡ t
one-script bytes s t one two = same_some s t (sym one.1 ∙ two.1)

-- the world of a script of which nothing was asked yet
first_of : WaitersScript → ScriptedFleet
first_of s = record {
  moment = s.start;
  words = s.words;
  waiters = s.waiters;
  places = replicate (length s.waiters) first_place;
  sleeps = [];
  unready = 0;
  waits = 0;
}

first-is : (s : WaitersScript) (world : ScriptedFleet) → IsFirst s world → world ≡ first_of s
unfolding first_of
first-is s world is =
    ap (λ x. record world { moment = x }) is.moment
    ∙ (ap (λ x. record world { moment = s.start; words = x }) is.words
    ∙ (ap (λ x. record world { moment = s.start; words = s.words; waiters = x }) is.waiters
    ∙ (ap (λ x. record world { moment = s.start; words = s.words; waiters = s.waiters; places = x }) is.places
    ∙ (ap (λ x. record world { moment = s.start; words = s.words; waiters = s.waiters; places = replicate (length s.waiters) first_place; sleeps = x }) is.sleeps
    ∙ (ap (λ x. record (first_of s) { unready = x; waits = world.waits }) is.unready
    ∙ ap (λ x. record (first_of s) { waits = x }) is.waits)))))

record SamePrint (text other : List ℕ) (status too : PrintStatus) : Type 0 where
  text_is : text ≡ other
  status_is : status ≡ too

one-print : (s : WaitersScript) (text other : List ℕ) (status too : PrintStatus) → IsWaiters s text status → IsWaiters s other too → SamePrint text other status too
one-print s text other status too one two =
    let same : two.first ≡ one.first = first-is s two.first two.is_first ∙ sym (first-is s one.first one.is_first) in
    let again = subst (λ world. WaitsAll Does waits_of (record { plans = plans_of s.waiters; book = book_of s.bucket; world = world; fuel = s.fuel }) two.events two.book two.last) same two.waits in
    let met = runs-determined Does waits_of scripts-are-steady (record { plans = plans_of s.waiters; book = book_of s.bucket; world = one.first; fuel = s.fuel })
    one.events two.events one.book two.book one.last two.last one.waits again in
    record {
      text_is = one.text_is ∙ (ap (λ es. fleet_text es (sums_of one.book)) met.0 ∙ (ap (λ b. fleet_text two.events (sums_of b)) met.1 ∙ sym two.text_is));
      status_is = one.status_is ∙ (ap came_to met.0 ∙ sym two.status_is);
    }

one-said : (s : WaitersScript) (a b : PrintStatus) (t u : List ℕ) → IsWaiters s t a → IsWaiters s u b → prints a t ≡ prints b u
one-said s a b t u one two =
    let same = one-print s t u a b one two in
    ap (λ o. prints o t) same.status_is ∙ ap (λ x. prints b x) same.text_is

pub waiters-once : IsFunctional waiters_says
waiters-once = bytes-say-once waiters_means one-script one-said
