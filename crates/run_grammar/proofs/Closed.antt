-- The rounds of the grammar can be ended.
use Rattle.run_grammar.specs.declared.production.Test.TheVariants as tests
use Rattle.std.proofs.Common.{Bool, true, false, cond, List, ◌≡◌, refl, sym, ap, ◌∙◌, subst}
use Rattle.run_grammar.specs.declared.kind.Role.{Role}
use Rattle.run_grammar.specs.declared.kind.Kind.{Kind}
use Rattle.smithy_types.specs.declared.kinds.StopPoint.{StopPoint}
use Rattle.run_grammar.specs.declared.kind.Kind.TheVariants.{Decide, Initial}
use Rattle.run_grammar.specs.declared.kind.Role.TheVariants.{Attempt, Operation}
use Rattle.smithy_types.specs.declared.kinds.StopPoint.TheVariants as stops
use Rattle.run_grammar.specs.Standing.{State, standing, step}
use Rattle.run_grammar.specs.Grammar.{run, op, loop, again, round, turn, attempt, armed, arm, grant, grant_round, front, settle, finish}
use Rattle.run_grammar.specs.Tests.{decided_yes, decided_no_after, decided_delay, delayed}
use Rattle.run_grammar.specs.Production.{Production, Nothing, Work, ◌⨟◌, Where, Rounds, Again, InAttempt, Under, Ended}
use Rattle.run_grammar.proofs.Spots.{standing-append}
use Rattle.run_grammar.proofs.Rounds.{plain, both_plain, attempt_plain, turn_plain}
use Rattle.run_grammar.proofs.Finishing.{Done, Closing, closed, ending, closer, done_work, done_then_here, done_where_false, done_nothing}

pub plain_closing : (p : Production) → plain p ≡ true → Closing p
plain_closing Nothing h = tt
plain_closing Again h = tt
plain_closing (Work k) h = tt
plain_closing (p ⨟ q) h = let b = both_plain (plain p) (plain q) h in (plain_closing p b.0, plain_closing q b.1)
plain_closing (Where t p q) h = let b = both_plain (plain p) (plain q) h in (plain_closing p b.0, plain_closing q b.1)
plain_closing (Rounds p q) h = absurd (cc)
plain_closing (InAttempt p) h = plain_closing p h
plain_closing (Under d p q) h = let b = both_plain (plain p) (plain q) h in (plain_closing p b.0, plain_closing q b.1)

-- it can be ended with the closing answer of k
abbrev EndsBy : Kind → Production → List Role → State → Type 0
EndsBy k p ds s = (d : Done p ds Ended s) × ((test : State → Bool) → ((t : State) → test (step t (closer k t)) ≡ false) → test (standing s d.list) ≡ false)

ends_work : (k : Kind) (ds : List Role) (s : State) → EndsBy k (Work k) ds s
ends_work k ds s = (done_work k ds s, λ test f. f s)

ends_then : (k : Kind) (p q : Production) (ds : List Role) (s : State) → Done p ds Ended s → ((t : State) → EndsBy k q ds t) → EndsBy k (p ⨟ q) ds s
ends_then k p q ds s d f =
    let e = f (standing s d.list) in
    (done_then_here p q ds Ended s d e.0, λ test g. ap test (standing-append d.list e.0.list s) ∙ e.1 test g)

pub attempt_closed : (stop : StopPoint) → closed (attempt stop) ≡ true
attempt_closed stops.None = refl
attempt_closed stops.BeforeTransmit = refl

armed_plain : (d : Role) (p after : Production) → plain p ≡ true → plain after ≡ true → plain (armed d p after) ≡ true
armed_plain d p after h g = subst (λ b. cond (cond b (plain after) false) b false ≡ true) (sym h) (subst (λ b. cond b true false ≡ true) (sym g) refl)

pub armed_closed : (d : Role) (p after : Production) → closed p ≡ true → closed after ≡ true → closed (armed d p after) ≡ true
armed_closed d p after h g = subst (λ b. cond (cond b (closed after) false) b false ≡ true) (sym h) (subst (λ b. cond b true false ≡ true) (sym g) refl)

done_attempt : (stop : StopPoint) (ds : List Role) (s : State) → Done (armed Attempt (InAttempt (attempt stop)) Nothing) ds Ended s
done_attempt stop ds s =
    ending (armed Attempt (InAttempt (attempt stop)) Nothing) (plain_closing (armed Attempt (InAttempt (attempt stop)) Nothing) (armed_plain Attempt (InAttempt (attempt stop)) Nothing (attempt_plain stop) refl))
    (armed_closed Attempt (InAttempt (attempt stop)) Nothing (attempt_closed stop) refl) ds s

done_settle : (ds : List Role) (s : State) → Done settle ds Ended s
done_settle ds s = ending settle (plain_closing settle refl) refl ds s

ends_turn : (stop : StopPoint) (ds : List Role) (s : State) → EndsBy Decide (turn stop) ds s
ends_turn stop ds s =
    ends_then Decide (armed Attempt (InAttempt (attempt stop)) Nothing) (settle ⨟ Work Decide) ds s (done_attempt stop ds s)
    (λ t. ends_then Decide settle (Work Decide) ds t (done_settle ds t) (λ u. ends_work Decide ds u))

not_yes : (t : State) → decided_yes (step t (closer Decide t)) ≡ false
unfolding decided_yes step
not_yes t = refl

not_delay : (t : State) → decided_delay (step t (closer Decide t)) ≡ false
unfolding decided_delay step
not_delay t = refl

not_no_after : (t : State) → decided_no_after (step t (closer Decide t)) ≡ false
unfolding decided_no_after step
not_no_after t = refl

not_delayed : (t : State) → delayed (step t (closer Initial t)) ≡ false
unfolding delayed step
not_delayed t = refl

pub done_round : (stop : StopPoint) (ds : List Role) (s : State) → Done (round stop) ds Ended s
done_round stop ds s =
    let e = ends_turn stop ds s in
    done_then_here (turn stop) _ ds Ended s e.0
    (done_where_false tests.DecidedYes _ _ ds Ended (standing s e.0.list) (e.1 decided_yes not_yes)
    (done_where_false tests.DecidedNoAfter _ _ ds Ended (standing s e.0.list) (e.1 decided_no_after not_no_after)
    (done_where_false tests.DecidedDelay _ _ ds Ended (standing s e.0.list) (e.1 decided_delay not_delay) (done_nothing ds (standing s e.0.list)))))

pub done_grant_round : (ds : List Role) (s : State) → Done grant_round ds Ended s
done_grant_round ds s =
    let e = ends_work Initial ds s in
    done_then_here (Work Initial) _ ds Ended s e.0
    (done_where_false tests.Delayed _ _ ds Ended (standing s e.0.list) (e.1 delayed not_delayed) (done_nothing ds (standing s e.0.list)))

closing_grant : Closing grant
closing_grant = let f = plain_closing grant_round refl in (f, f, λ ds s. done_grant_round ds s)

closing_again : Closing again
closing_again = ((closing_grant, (tt, tt)), tt)

closing_round : (stop : StopPoint) → Closing (round stop)
closing_round stop = (plain_closing (turn stop) (turn_plain stop), ((closing_again, tt), ((tt, (tt, tt)), ((tt, (((tt, closing_again), tt), tt)), tt))))

closing_loop : (stop : StopPoint) → Closing (loop stop)
closing_loop stop = let f = closing_round stop in (f, f, λ ds s. done_round stop ds s)

closing_op : (stop : StopPoint) → Closing (op stop)
closing_op stop = (plain_closing front refl, (tt, (closing_grant, (closing_loop stop, tt))))

pub closing_run : (stop : StopPoint) → Closing (run stop)
unfolding run
closing_run stop =
    let o = closing_op stop in
    let l : Closing (arm Operation ⨟ finish) = plain_closing (arm Operation ⨟ finish) refl in
    let f : Closing finish = plain_closing finish refl in
    let s : Closing settle = plain_closing settle refl in
    let m : Closing (armed Operation (op stop) settle ⨟ finish) = (((tt, tt), ((o, s), o)), f) in
    (tt, (tt, (tt, (tt, (tt, (tt, (tt, (tt, (l, m)))))))))

pub closed_run : (stop : StopPoint) → closed (run stop) ≡ true
unfolding run
closed_run stop = refl
