-- Outsides whose answers follow from what they were.
use Rattle.std.specs.Prelude.{◌≡◌, ℕ, List, Ok}
use Rattle.outside.specs.Calls.{OutsideCall, OfTimers, Poll, Frame, Resolve, Word}
use Rattle.smithy_types.specs.declared.timers.TimersCall.TheVariants.{Now, Start, Ready}

-- the same call from one state, answered twice, has one answer
abbrev pub Tells : {X A : Type 0} → (X → OutsideCall → X → Type 0) → (A → OutsideCall) → Type 0
Tells {X} {A} makes call =
    (old new other : X) (answer answered : A) → makes old (call answer) new → makes old (call answered) other
    → answer ≡ answered

-- a call with its answer leaves one state, and each answer but want of memory follows from the state before
pub record IsSteady {X : Type 0} (makes : X → OutsideCall → X → Type 0) : Type 0 where
  pub moves : (old new other : X) (call : OutsideCall) → makes old call new → makes old call other → new ≡ other
  pub now : Tells makes (λ moment. OfTimers (Now moment))
  pub start : (nanos : ℕ) → Tells makes (λ sleep. OfTimers (Start nanos (Ok sleep)))
  pub ready : (sleep : ℕ) → Tells makes (λ is_over. OfTimers (Ready sleep is_over))
  pub poll : Tells makes (λ answer. Poll (Ok answer))
  pub frame : Tells makes (λ polled. Frame (Ok polled))
  pub resolve : (id : List ℕ) → Tells makes (λ answer. Resolve id (Ok answer))
  pub word : Tells makes Word

-- from states that are alike there is one answer, and the states that are left are alike
abbrev pub AnswersAlike : {S A : Type 0} → (S → S → Type 0) → (S → A → S → Type 0) → Type 0
AnswersAlike {S} {A} alike does =
    (one two after left : S) (a b : A) → alike one two → does one a after → does two b left → (a ≡ b) × alike after left
