-- What one event more does to a history.
use Rattle.std.proofs.Common.{◌≡◌, ℕ, ◌+◌, ◌≤◌, Option, Some, None, option_and_then, List, [], ◌∷◌, ◌++◌, length, arith, refl, ap, ◌∙◌, sym, add-zero, zero-add, add_assoc}
use Rattle.std.proofs.lemmas.Option.{option_and_then_some}
use Rattle.identity_cell.specs.declared.event.Event.{Event}
use Rattle.identity_cell.specs.declared.event.Event.TheVariants.{Begin, Hit, Wait, Done, Failed, Dropped, Clear}
use Rattle.identity_cell.specs.History.{Standing, Empty, after, begins, begun_in, replay_from, replay}

pub begun_in-append : (es : List Event) (e : Event) → begun_in (es ++ e ∷ []) ≡ begun_in es + begins e
begun_in-append [] e = omega arith
begun_in-append (d ∷ es) e = omega (arith, begun_in-append es e)

pub begins-le : (e : Event) → begins e ≤ 1
begins-le (Begin t) = omega arith
begins-le (Hit t) = omega arith
begins-le Wait = omega arith
begins-le (Done t x) = omega arith
begins-le (Failed t) = omega arith
begins-le (Dropped t) = omega arith
begins-le (Clear n w r) = omega arith

pub begun_in-le : (es : List Event) → begun_in es ≤ length es
begun_in-le [] = omega arith
begun_in-le (e ∷ es) = omega (arith, begins-le e, begun_in-le es)

option_and_then_of_some : {A : Type 0} (o : Option A) → option_and_then (λ x. Some x) o ≡ o
option_and_then_of_some None = refl
option_and_then_of_some (Some x) = refl

pub some_injective : {A : Type 0} {x y : A} → Some x ≡ Some y → x ≡ y
some_injective h = cc

-- where a history leads somewhere, one event more leads where it may go from there
pub replay_from-append : (buffer begun : ℕ) (standing : Standing) (es : List Event) (e : Event) (mid : Standing) → replay_from buffer begun standing es ≡ Some mid → replay_from buffer begun standing (es ++ e ∷ []) ≡ after buffer (begun + begun_in es) mid e
replay_from-append buffer begun standing [] e mid h =
    option_and_then_of_some (after buffer begun standing e) ∙ ap (λ s. after buffer begun s e) (some_injective h) ∙ ap (λ k. after buffer k mid e) (sym (add-zero begun))
replay_from-append buffer begun standing (d ∷ es) e mid h =
    option_and_then_some _ (after buffer begun standing d) mid h (λ next step rest.
    rw step (replay_from-append buffer (begun + begins d) next es e mid rest ∙ ap (λ k. after buffer k mid e) (add_assoc begun (begins d) (begun_in es))))

-- one event more that may come leads where it goes
pub replay-last : (buffer : ℕ) (es all : List Event) (e : Event) (old new : Standing) → replay buffer es ≡ Some old → all ≡ es ++ e ∷ [] → after buffer (begun_in es) old e ≡ Some new → replay buffer all ≡ Some new
replay-last buffer es all e old new legal grown next =
    ap (replay buffer) grown ∙ replay_from-append buffer 0 Empty es e old legal ∙ ap (λ k. after buffer k old e) (zero-add (begun_in es)) ∙ next
