-- An event of one waiter changes nothing for the others.
use Rattle.std.proofs.Common.{◌≡◌, ◌≢◌, ℕ, Bool, true, false, Option, List, ◌∷◌, arith, refl, ◌∙◌}
use Rattle.std.specs.Prelude.{◌==◌}
use Rattle.std.proofs.lemmas.Bool.Decides.{nat_tests}
use Rattle.waiter_fleet.specs.declared.event.FleetEvent.{FleetEvent}
use Rattle.waiter_fleet.specs.declared.event.FleetEvent.TheVariants.{Poll, Sleep, Charged, Refused, End}
use Rattle.waiter_fleet.specs.Acts.{Act, sleep_behind}
use Rattle.waiter_fleet.specs.Events.{charges_with, ended_with, moment_with, polls_with, sleep_with, waiter_of, zero_with}
use Rattle.waiter_fleet.specs.Steps.{KeepsOthers}

pub eq_self : (n : ℕ) → (n == n) ≡ true
eq_self n = grind (arith, nat_tests)

pub eq_apart : (m n : ℕ) → n ≢ m → (m == n) ≡ false
eq_apart m n apart = grind (arith, nat_tests)

module _ (other : ℕ) where
  polls_with-other : (event : FleetEvent) (n : ℕ) → other ≢ waiter_of event → polls_with other event n ≡ n
  polls_with-other (Poll one number moment seen state) n apart = let test = eq_apart one other apart in rw test refl
  polls_with-other (Sleep one nanos elapsed word) n apart = refl
  polls_with-other (Charged one moment) n apart = refl
  polls_with-other (Refused one cost moment) n apart = refl
  polls_with-other (End one ending) n apart = refl

  charges_with-other : (event : FleetEvent) (n : ℕ) → other ≢ waiter_of event → charges_with other event n ≡ n
  charges_with-other (Poll one number moment seen state) n apart = refl
  charges_with-other (Sleep one nanos elapsed word) n apart = refl
  charges_with-other (Charged one moment) n apart = let test = eq_apart one other apart in rw test refl
  charges_with-other (Refused one cost moment) n apart = refl
  charges_with-other (End one ending) n apart = refl

  moment_with-other : (event : FleetEvent) (n : ℕ) → other ≢ waiter_of event → moment_with other event n ≡ n
  moment_with-other (Poll one number moment seen state) n apart = let test = eq_apart one other apart in rw test refl
  moment_with-other (Sleep one nanos elapsed word) n apart = refl
  moment_with-other (Charged one moment) n apart = refl
  moment_with-other (Refused one cost moment) n apart = refl
  moment_with-other (End one ending) n apart = refl

  sleep_with-other : (event : FleetEvent) (n : ℕ) → other ≢ waiter_of event → sleep_with other event n ≡ n
  sleep_with-other (Poll one number moment seen state) n apart = refl
  sleep_with-other (Sleep one nanos elapsed word) n apart = let test = eq_apart one other apart in rw test refl
  sleep_with-other (Charged one moment) n apart = refl
  sleep_with-other (Refused one cost moment) n apart = refl
  sleep_with-other (End one ending) n apart = refl

  zero_with-other : (event : FleetEvent) (used : Bool) → other ≢ waiter_of event → zero_with other event used ≡ used
  zero_with-other (Poll one number moment seen state) used apart = refl
  zero_with-other (Sleep one nanos elapsed word) used apart = let test = eq_apart one other apart in rw test refl
  zero_with-other (Charged one moment) used apart = refl
  zero_with-other (Refused one cost moment) used apart = refl
  zero_with-other (End one ending) used apart = refl

  ended_with-other : (event : FleetEvent) (over : Bool) → other ≢ waiter_of event → ended_with other event over ≡ over
  ended_with-other (Poll one number moment seen state) over apart = refl
  ended_with-other (Sleep one nanos elapsed word) over apart = refl
  ended_with-other (Charged one moment) over apart = refl
  ended_with-other (Refused one cost moment) over apart = refl
  ended_with-other (End one ending) over apart = let test = eq_apart one other apart in rw test refl

  sleep_behind-other : (event : FleetEvent) (sleep : ℕ) (before : Option ℕ) → other ≢ waiter_of event → sleep_behind other event sleep before ≡ before
  sleep_behind-other (Poll one number moment seen state) sleep before apart = refl
  sleep_behind-other (Sleep one nanos elapsed word) sleep before apart = let test = eq_apart one other apart in rw test refl
  sleep_behind-other (Charged one moment) sleep before apart = refl
  sleep_behind-other (Refused one cost moment) sleep before apart = refl
  sleep_behind-other (End one ending) sleep before apart = refl

pub others-none : (start waiter : ℕ) (acts : List Act) → KeepsOthers start waiter acts acts
others-none start waiter acts = record {
  same_polls = λ other apart. refl;
  same_charges = λ other apart. refl;
  same_moment = λ other apart. refl;
  same_sleep = λ other apart. refl;
  same_zero = λ other apart. refl;
  same_end = λ other apart. refl;
  same_open = λ other apart. refl;
}

pub others-more : (start : ℕ) (old acts : List Act) (act : Act) → KeepsOthers start (waiter_of act.event) old acts →
    KeepsOthers start (waiter_of act.event) old (act ∷ acts)
others-more start old acts act keeps = record {
  same_polls = λ other apart. polls_with-other other act.event _ apart ∙ keeps.same_polls other apart;
  same_charges = λ other apart. charges_with-other other act.event _ apart ∙ keeps.same_charges other apart;
  same_moment = λ other apart. moment_with-other other act.event _ apart ∙ keeps.same_moment other apart;
  same_sleep = λ other apart. sleep_with-other other act.event _ apart ∙ keeps.same_sleep other apart;
  same_zero = λ other apart. zero_with-other other act.event _ apart ∙ keeps.same_zero other apart;
  same_end = λ other apart. ended_with-other other act.event _ apart ∙ keeps.same_end other apart;
  same_open = λ other apart. sleep_behind-other other act.event act.sleep _ apart ∙ keeps.same_open other apart;
}

pub others-join : (start waiter : ℕ) (old mid new : List Act) → KeepsOthers start waiter old mid → KeepsOthers start waiter mid new →
    KeepsOthers start waiter old new
others-join start waiter old mid new first second = record {
  same_polls = λ other apart. second.same_polls other apart ∙ first.same_polls other apart;
  same_charges = λ other apart. second.same_charges other apart ∙ first.same_charges other apart;
  same_moment = λ other apart. second.same_moment other apart ∙ first.same_moment other apart;
  same_sleep = λ other apart. second.same_sleep other apart ∙ first.same_sleep other apart;
  same_zero = λ other apart. second.same_zero other apart ∙ first.same_zero other apart;
  same_end = λ other apart. second.same_end other apart ∙ first.same_end other apart;
  same_open = λ other apart. second.same_open other apart ∙ first.same_open other apart;
}
