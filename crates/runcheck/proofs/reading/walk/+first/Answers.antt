use Rattle.std.proofs.Common.{◌++◌, ◌∷◌, [], sym, ap, ◌∙◌, refl}
use Rattle.runcheck.specs.Reading.Productions.{production_of}
use Rattle.runcheck.specs.Reading.Frames.{armed, arms, state_of}
use Rattle.runcheck.specs.declared.reading.walk.Frame.TheVariants.{Then, Round, Scope, Within}
use Rattle.run_grammar.specs.Machine.{first}
use Rattle.run_grammar.specs.Production.{◌⨟◌, Rounds, InAttempt, Under}
use Rattle.runcheck.proofs.reading.Frames.{found_in, found_wrapped, first_within, first_scope, found_then, found_after, found_round, found_again, found_of, found_behind, found_or_over}
use Rattle.runcheck.proofs.reading.walk.+first.Goals as goal

pub returns-in_ok-begun-in-InAttempt : goal.returns-in_ok-begun-in-InAttempt
returns-in_ok-begun-in-InAttempt t c =
    let p = production_of c.deref-in-InAttempt.result.now in
    let e = ap production_of c.in-InAttempt.is ∙ ap (λ m. InAttempt (production_of m)) (sym c.deref-in-InAttempt.ensures) in
    let s = state_of c.args.seen in
    let fs = c.args.left.now.items in
    found_wrapped _ fs _ Within p _ s e (first_within p s)
    (c.outward-in-InAttempt.ensures fs Within (first p (armed fs) s) (found_in _ fs _ _ Within p s c.in_ok-enter-in-InAttempt.ensures c.in_ok-begun-in-InAttempt.ensures))

pub returns-in_ok-begun-in-Under : goal.returns-in_ok-begun-in-Under
returns-in_ok-begun-in-Under t c =
    let p = production_of c.deref-in-Under-2.result.now in
    let e = ap production_of c.in-Under.is ∙ (ap (λ m. Under c.in-Under.role (production_of m) (production_of c.in-Under.after.value)) (sym c.deref-in-Under-2.ensures) ∙ ap (λ m. Under c.in-Under.role p (production_of m)) (sym c.deref-in-Under.ensures)) in
    let s = state_of c.args.seen in
    let fs = c.args.left.now.items in
    let f = Scope c.in-Under.role c.deref-in-Under.result in
    found_wrapped _ fs _ f p _ s e (first_scope c.in-Under.role c.deref-in-Under.result p s)
    (c.outward-in-Under.ensures fs f (first p (arms f (armed fs)) s) (found_in _ fs _ _ f p s c.in_ok-enter-in-Under.ensures c.in_ok-begun-in-Under.ensures))

pub returns-else-is_over : goal.returns-else-is_over
returns-else-is_over t c =
    let p = production_of c.deref-in-Then-2.result.now in
    let e = ap production_of c.in-Then.is ∙ (ap (λ m. production_of m ⨟ production_of c.in-Then.other.value) (sym c.deref-in-Then-2.ensures) ∙ ap (λ m. p ⨟ production_of m) (sym c.deref-in-Then.ensures)) in
    let s = state_of c.args.seen in
    let fs = c.args.left.now.items in
    let q = c.deref-in-Then.result in
    let r = found_then _ fs _ _ q p s (sym c.is_over.ensures ∙ c.if-is_over.false) c.in_ok-enter-in-Then.ensures c.in_ok-begun-in-Then.ensures in
    found_of _ fs _ _ _ (sym (ap (λ m. first m (armed fs) s) e ∙ r.1)) (c.outward.ensures fs (Then q) (first p (armed fs) s) r.0)

pub returns-in_ok-after-in-Then : goal.returns-in_ok-after-in-Then
returns-in_ok-after-in-Then t c =
    let p = production_of c.deref-in-Then-2.result.now in
    let e = ap production_of c.in-Then.is ∙ (ap (λ m. production_of m ⨟ production_of c.in-Then.other.value) (sym c.deref-in-Then-2.ensures) ∙ ap (λ m. p ⨟ production_of m) (sym c.deref-in-Then.ensures)) in
    let s = state_of c.args.seen in
    let fs = c.args.left.now.items in
    let q = c.deref-in-Then.result in
    let r = found_after _ fs _ _ q p s (sym c.is_over.ensures ∙ c.if-is_over.true) c.in_ok-enter-in-Then.ensures c.in_ok-begun-in-Then.ensures in
    let l = c.leave.ensures fs (Then q) r.0 in
    found_of _ fs _ _ _ (sym (ap (λ m. first m (armed fs) s) e ∙ r.1)) (found_behind _ _ _ fs _ q.now s (c.deref-then-is_over.ensures ∙ sym c.deref-in-Then.ensures) l c.in_ok-after-in-Then.ensures)

pub returns-else-is_further : goal.returns-else-is_further
returns-else-is_further t c =
    let p = production_of c.deref-in-Rounds-2.result.now in
    let e = ap production_of c.in-Rounds.is ∙ (ap (λ m. Rounds (production_of m) (production_of c.in-Rounds.other.value)) (sym c.deref-in-Rounds-2.ensures) ∙ ap (λ m. Rounds p (production_of m)) (sym c.deref-in-Rounds.ensures)) in
    let s = state_of c.args.seen in
    let fs = c.args.left.now.items in
    let q = c.deref-in-Rounds.result in
    let r = found_round _ fs _ _ q p s (sym c.is_further.ensures ∙ c.if-is_further.false) c.in_ok-enter-in-Rounds.ensures c.in_ok-begun-in-Rounds.ensures in
    found_of _ fs _ _ _ (sym (ap (λ m. first m (armed fs) s) e ∙ r.1)) (c.outward-else-is_further.ensures fs (Round q) (first p (armed fs) s) r.0)

pub returns-in_ok-again-in-Rounds : goal.returns-in_ok-again-in-Rounds
returns-in_ok-again-in-Rounds t c =
    let p = production_of c.deref-in-Rounds-2.result.now in
    let e = ap production_of c.in-Rounds.is ∙ (ap (λ m. Rounds (production_of m) (production_of c.in-Rounds.other.value)) (sym c.deref-in-Rounds-2.ensures) ∙ ap (λ m. Rounds p (production_of m)) (sym c.deref-in-Rounds.ensures)) in
    let s = state_of c.args.seen in
    let fs = c.args.left.now.items in
    let q = c.deref-in-Rounds.result in
    let r = found_again _ _ fs _ _ _ q p s (sym c.is_further.ensures ∙ c.if-is_further.true) c.in_ok-enter-in-Rounds.ensures c.in_ok-begun-in-Rounds.ensures (found_behind _ _ _ _ _ q.now s (c.deref-then-is_further.ensures ∙ sym c.deref-in-Rounds.ensures) refl c.in_ok-again-in-Rounds.ensures) in
    found_of _ fs _ _ _ (sym (ap (λ m. first m (armed fs) s) e ∙ r.2)) (c.outward-then-is_further.ensures fs (Round q) r.0 (found_or_over _ _ (fs ++ Round q ∷ []) _ r.0 c.or_over.ensures r.1))
