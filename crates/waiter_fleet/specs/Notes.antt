-- What a world keeps of its answers to a fleet, by the fleet's events. The last event stands first.
use Rattle.std.specs.Prelude.{◌≡◌, ℕ, ◌==◌, List, [], ◌∷◌, ◌++◌, Option, IfSome, if◌then◌else◌, ◌⊎◌}
use Rattle.waiter_fleet.specs.declared.event.FleetEvent.{FleetEvent}
use Rattle.waiter_fleet.specs.declared.event.FleetEvent.TheVariants.{Poll, Sleep, Charged, Refused, End}
use Rattle.smithy_types.specs.declared.timers.TimersCall.TheVariants.{Now}
use Rattle.waiter_fleet.specs.Calls.{FleetAnswer, FleetCall, answered, drawn, noted, started, timed, told, woken}

-- the sleep of a waiter was over, if it had one
abbrev pub Wakes : List FleetAnswer → Type 0
Wakes notes = (notes ≡ []) ⊎ ((sleep : ℕ) × (notes ≡ woken sleep ∷ []))

-- What is kept of an event: of a poll its answer, at the moment that the clock tells behind it; of a
-- sleep its word, and its length if it isn't 0; of an ask of the bucket the moment, which is told
-- once the waiter's sleep is over.
abbrev pub AreNotesOf : FleetEvent → List FleetAnswer → Type 0
AreNotesOf (Poll waiter number moment seen state) notes =
    (at : Option ℕ) × IfSome at (λ one. moment ≡ one) × (notes ≡ answered waiter seen state at ∷ told moment ∷ [])
AreNotesOf (Sleep waiter nanos elapsed word) notes =
    (sleep : ℕ) × (notes ≡ drawn word ∷ (if nanos == 0 then [] else started nanos sleep ∷ []))
AreNotesOf (Charged waiter moment) notes = (woke : List FleetAnswer) × Wakes woke × (notes ≡ woke ++ told moment ∷ [])
AreNotesOf (Refused waiter cost moment) notes =
    (woke : List FleetAnswer) × Wakes woke × (notes ≡ woke ++ told moment ∷ [])
AreNotesOf (End waiter ending) notes = notes ≡ []

-- and of all events, one after another
abbrev pub AreNotes : List FleetEvent → List FleetAnswer → Type 0
AreNotes [] notes = notes ≡ []
AreNotes (event ∷ before) notes =
    (some own : List FleetAnswer) × (notes ≡ some ++ own) × AreNotes before some × AreNotesOf event own

-- What the world kept in a call that began with a clock that told the start: the notes of the
-- events, and of a sleep that was over with the last unit of fuel.
pub record Keeps (start : ℕ) (events : List FleetEvent) (old new : List FleetAnswer) : Type 0 where
  pub notes : List FleetAnswer
  pub last : List FleetAnswer
  pub are : AreNotes events notes
  pub woke : Wakes last
  pub kept : new ≡ old ++ (told start ∷ (notes ++ last))

-- A world keeps a list of its answers: each poll that was answered with the moment then, where the
-- world tells it, each moment and word, each sleep that was started and each that was over, and
-- nothing else. What its clock answers is the moment that it tells.
pub record KeepsAnswers {T : Type 0} (does : T → FleetCall → T → Type 0) (answers : T → List FleetAnswer)
    (moment : T → Option ℕ) : Type 0 where
  pub notes : (old : T) (call : FleetCall) (new : T) → does old call new →
      answers new ≡ answers old ++ noted (moment new) call
  pub tells : (old : T) (at : ℕ) (new : T) → does old (timed (Now at)) new → IfSome (moment old) (λ one. at ≡ one)
