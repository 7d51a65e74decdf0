use Rattle.std.proofs.Common.{[], cond, sym, ap, ◌∙◌, inl, inr}
use Rattle.run_grammar.specs.Production.{Production, Nothing}
use Rattle.run_grammar.specs.Machine.{Out, first, under_rest}
use Rattle.runcheck.specs.Reading.Productions.{production_of}
use Rattle.runcheck.specs.Reading.Frames.{armed, state_of, plug}
use Rattle.runcheck.proofs.reading.Cuts.{cut_plug, cut_left, outside_cut, cut_around, cut_passed}
use Rattle.runcheck.proofs.reading.Outside.{first_plug, reached_of}
use Rattle.runcheck.proofs.reading.walk.cut.Goals as goal

pub frames-init : goal.frames-init
frames-init c = cut_plug c.args.left.now.items Nothing c.args.role

pub frames-preserved-in-Within : goal.frames-preserved-in-Within
frames-preserved-in-Within c =
    let d = c.args.role in
    cut_passed _ _ c.inner.new.left.items c.in-Some.frame (Out c.frames.inside) d c.frames.invariant c.in-Some.ensures.some
    ∙ ap (λ f. outside_cut c.inner.new.left.items (cut_around f (Out c.frames.inside) d) d) c.in-Within.is

pub frames-preserved-else-is : goal.frames-preserved-else-is
frames-preserved-else-is c =
    let d = c.args.role in
    let q = c.in-Scope.after in
    cut_passed _ _ c.inner.new.left.items c.in-Some.frame (Out c.frames.inside) d c.frames.invariant c.in-Some.ensures.some
    ∙ (ap (λ f. outside_cut c.inner.new.left.items (cut_around f (Out c.frames.inside) d) d) c.in-Scope.is
    ∙ ap (λ b. outside_cut c.inner.new.left.items (under_rest b c.in-Scope.armed (Out c.frames.inside) (production_of q.now)) d) (sym c.is.ensures ∙ c.if-is.false))

pub frames-preserved : goal.frames-preserved
frames-preserved c =
    let d = c.args.role in
    cut_passed _ _ c.inner.new.left.items c.in-Some.frame (Out c.frames.inside) d c.frames.invariant c.in-Some.ensures.some
    ∙ ap (λ x. outside_cut c.inner.new.left.items x d)
    (elim c.in-Then.is [ inl (q, e) ↦ ap (λ f. cut_around f (Out c.frames.inside) d) e | inr (q, e) ↦ ap (λ f. cut_around f (Out c.frames.inside) d) e ])

pub returns-then-is : goal.returns-then-is
returns-then-is c =
    let d = c.args.role in
    let q = c.in-Scope.after in
    let s = state_of c.args.seen in
    let fs = c.inner.new.left.items in
    let x : Production = cond c.frames.inside (production_of q.now) Nothing in
    let e = cut_passed _ _ fs c.in-Some.frame (Out c.frames.inside) d c.frames.invariant c.in-Some.ensures.some
    ∙ (ap (λ f. outside_cut fs (cut_around f (Out c.frames.inside) d) d) c.in-Scope.is
    ∙ (ap (λ b. outside_cut fs (under_rest b c.in-Scope.armed (Out c.frames.inside) (production_of q.now)) d) (sym c.is.ensures ∙ c.if-is.true)
    ∙ cut_left fs x d)) in
    (plug fs x, e, reached_of _ _ _ _ (sym (first_plug fs x [] s)) (c.in_ok-reached-in-Scope.ensures fs (first x (armed fs) s) c.in_ok-begun-in-Scope.ensures))
