-- Each round of the grammar asks something.
use Rattle.run_grammar.specs.declared.production.Test.TheVariants as tests
use Rattle.std.proofs.Common.{Bool, true, false, cond, List, ◌∷◌, ◌≡◌, refl}
use Rattle.run_grammar.specs.declared.kind.Role.{Role}
use Rattle.smithy_types.specs.declared.kinds.StopPoint.{StopPoint}
use Rattle.run_grammar.specs.declared.kind.Kind.TheVariants.{Start}
use Rattle.run_grammar.specs.declared.kind.Role.TheVariants.{Attempt, Operation}
use Rattle.smithy_types.specs.declared.kinds.StopPoint.TheVariants as stops
use Rattle.run_grammar.specs.Standing.{State}
use Rattle.run_grammar.specs.Grammar.{run, op, loop, again, round, turn, attempt, armed, arm, grant, grant_round, front, settle, finish}
use Rattle.run_grammar.specs.Tests.{timeout_stands, started}
use Rattle.run_grammar.specs.Production.{Production, Nothing, Work, ◌⨟◌, Where, Rounds, Again, InAttempt, Under}
use Rattle.run_grammar.specs.Machine.{Spot, AtEnd, AtAgain, At, first, then_spot, under_spot}
use Rattle.run_grammar.proofs.Spots.{IsAt, Fine}

-- no Rounds in it
abbrev pub plain : Production → Bool
plain Nothing = true
plain Again = true
plain (Work k) = true
plain (p ⨟ q) = cond (plain p) (plain q) false
plain (Where t p q) = cond (plain p) (plain q) false
plain (Rounds p q) = false
plain (InAttempt p) = plain p
plain (Under d p q) = cond (plain p) (plain q) false

pub both_plain : (a b : Bool) → cond a b false ≡ true → (a ≡ true) × (b ≡ true)
both_plain true b h = (refl, h)
both_plain false b h = (absurd (cc), absurd (cc))

pub plain_fine : (p : Production) → plain p ≡ true → Fine p
plain_fine Nothing h = tt
plain_fine Again h = tt
plain_fine (Work k) h = tt
plain_fine (p ⨟ q) h = let b = both_plain (plain p) (plain q) h in (plain_fine p b.0, plain_fine q b.1)
plain_fine (Where t p q) h = let b = both_plain (plain p) (plain q) h in (plain_fine p b.0, plain_fine q b.1)
plain_fine (Rounds p q) h = absurd (cc)
plain_fine (InAttempt p) h = plain_fine p h
plain_fine (Under d p q) h = let b = both_plain (plain p) (plain q) h in (plain_fine p b.0, plain_fine q b.1)

then_at : (t u : Spot) (q : Production) → IsAt t → IsAt (then_spot t q u)
then_at AtEnd u q a = absurd a
then_at AtAgain u q a = absurd a
then_at (At k es r) u q a = tt

under_at : (d : Role) (t : Spot) (q : Production) → IsAt t → IsAt (under_spot d t q)
under_at d AtEnd q a = absurd a
under_at d AtAgain q a = absurd a
under_at d (At k es r) q a = tt

armed_at : (d : Role) (p after : Production) (ds : List Role) (s : State) → ((es : List Role) → IsAt (first p es s)) → IsAt (first (armed d p after) ds s)
armed_at d p after ds s f =
    elim (timeout_stands d s) as (λ b. IsAt (then_spot (cond b (At (Start d) ds Nothing) AtEnd) (Where (tests.HasStarted d) (Under d p after) p) (cond (started d s) (under_spot d (first p (d ∷ ds) s) after) (first p ds s)))) [
      | true ↦ tt
      | false ↦ elim (started d s) as (λ c. IsAt (cond c (under_spot d (first p (d ∷ ds) s) after) (first p ds s))) [ true ↦ under_at d (first p (d ∷ ds) s) after (f (d ∷ ds)) | false ↦ f ds ]
    ]

attempt_at : (stop : StopPoint) (ds : List Role) (s : State) → IsAt (first (InAttempt (attempt stop)) ds s)
attempt_at stops.None ds s = tt
attempt_at stops.BeforeTransmit ds s = tt

round_at : (stop : StopPoint) (ds : List Role) (s : State) → IsAt (first (round stop) ds s)
round_at stop ds s = then_at (first (turn stop) ds s) _ _ (then_at (first (armed Attempt (InAttempt (attempt stop)) Nothing) ds s) _ _ (armed_at Attempt (InAttempt (attempt stop)) Nothing ds s (λ es. attempt_at stop es s)))

pub attempt_plain : (stop : StopPoint) → plain (attempt stop) ≡ true
attempt_plain stops.None = refl
attempt_plain stops.BeforeTransmit = refl

-- the turn has no Rounds in it
pub turn_plain : (stop : StopPoint) → plain (turn stop) ≡ true
turn_plain stops.None = refl
turn_plain stops.BeforeTransmit = refl

pub fine_grant : Fine grant
fine_grant = let f = plain_fine grant_round refl in (f, f, λ ds s. tt)

fine_again : Fine again
fine_again = ((fine_grant, (tt, tt)), tt)

fine_round : (stop : StopPoint) → Fine (round stop)
fine_round stop = (plain_fine (turn stop) (turn_plain stop), ((fine_again, tt), ((tt, (tt, tt)), ((tt, (((tt, fine_again), tt), tt)), tt))))

pub fine_loop : (stop : StopPoint) → Fine (loop stop)
fine_loop stop = let f = fine_round stop in (f, f, λ ds s. round_at stop ds s)

pub fine_op : (stop : StopPoint) → Fine (op stop)
fine_op stop = (plain_fine front refl, (tt, (fine_grant, (fine_loop stop, tt))))

pub fine_run : (stop : StopPoint) → Fine (run stop)
unfolding run
fine_run stop =
    let o = fine_op stop in
    let l : Fine (arm Operation ⨟ finish) = plain_fine (arm Operation ⨟ finish) refl in
    let f : Fine finish = plain_fine finish refl in
    let s : Fine settle = plain_fine settle refl in
    let m : Fine (armed Operation (op stop) settle ⨟ finish) = (((tt, tt), ((o, s), o)), f) in
    (tt, (tt, (tt, (tt, (tt, (tt, (tt, (tt, (l, m)))))))))
