use Rattle.std.proofs.Common.{[], ◌++◌, ◌∷◌, sym, ap, ◌∙◌}
use Rattle.runcheck.specs.declared.reading.walk.Frame.TheVariants.{Round}
use Rattle.runcheck.specs.Reading.Frames.{armed, state_of, around, spot_of}
use Rattle.runcheck.proofs.reading.Frames.{found_again_round, found_of, found_or_over}
use Rattle.runcheck.proofs.reading.walk.around.Goals as goal

pub returns-in_ok-again-in-Round : goal.returns-in_ok-again-in-Round
returns-in_ok-again-in-Round c =
    let s = state_of c.args.seen in
    let fs = c.args.left.now.items in
    let q = c.in-Round.further in
    let r = found_again_round c.args.begun _ fs _ _ q s (sym c.is_further.ensures ∙ c.if-is_further.true) c.in_ok-enter-in-Round.ensures c.in_ok-again-in-Round.ensures in
    found_of _ fs _ _ _ (sym (ap (λ f. around f (spot_of c.args.begun) (armed fs) s) c.in-Round.is ∙ r.2)) (c.outward.ensures fs (Round q) r.0 (found_or_over _ _ (fs ++ Round q ∷ []) _ r.0 c.or_over.ensures r.1))
