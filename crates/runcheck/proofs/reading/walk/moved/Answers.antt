use Rattle.std.proofs.Common.{cond, sym, ap, ◌∙◌, refl}
use Rattle.run_grammar.specs.Production.{Nothing}
use Rattle.run_grammar.specs.Machine.{AtEnd, begin, next, Waiting}
use Rattle.runcheck.specs.Reading.Frames.{armed, plug, state_of}
use Rattle.runcheck.specs.Reading.Places.{place}
use Rattle.runcheck.proofs.reading.Staged.{resumed_place}
use Rattle.runcheck.proofs.reading.walk.moved.Goals as goal

pub returns-in_ok-reached-in-Asking : goal.returns-in_ok-reached-in-Asking
returns-in_ok-reached-in-Asking c =
    let s = state_of c.args.seen in
    let fs = c.args.left.now.items in
    let gs = c.resume.new.left.items in
    let k = c.in-Asking.kind in
    let r = plug fs Nothing in
    ap (λ g. place g gs) c.staged.ensures ∙ (resumed_place c.in_ok-reached-in-Asking.reached fs gs s (c.in_ok-reached-in-Asking.ensures fs AtEnd (refl, refl))
    ∙ sym (ap (λ g. next (place g fs) s c.args.entry.now) c.in-Asking.is ∙ ap (λ b. cond b (Waiting k (armed fs) (armed fs) r) (begin r s)) (sym c.pending.ensures ∙ c.if-pending.false)))
