use Rattle.std.proofs.Common.{sym, ◌∙◌, refl}
use Rattle.runcheck.specs.Reading.Frames.{armed, state_of, around, spot_of}
use Rattle.runcheck.proofs.reading.Outside.{reached_at, reached_end, found_around}
use Rattle.runcheck.proofs.reading.walk.resume.Goals as goal

pub frames-init : goal.frames-init
frames-init c = λ fs t h. (fs, t, h, refl)

pub frames-preserved : goal.frames-preserved
frames-preserved c = λ fs t h.
    let s = state_of c.args.seen in
    let gs = c.inner.new.left.items in
    let i = c.frames.invariant fs t h in (
      gs,
      around c.in-Some.frame (spot_of c.frames.found) (armed gs) s,
      c.in_ok-found-in-Some.ensures,
      i.3 ∙ found_around c.frames.found c.in_ok-found-in-Some.found i.0 gs _ _ c.in-Some.frame i.1 s (sym c.is_at.ensures ∙ c.frames-test.true) c.in-Some.ensures.some i.2 c.in_ok-found-in-Some.ensures,
    )

pub returns : goal.returns
returns c = λ fs t h. let i = c.frames.invariant fs t h in reached_at c.frames.found i.0 _ i.1 _ (state_of c.args.seen) (sym c.frames-test.ensures) i.2 i.3

pub returns-in-None : goal.returns-in-None
returns-in-None c = λ fs t h. let i = c.frames.invariant fs t h in reached_end c.frames.found i.0 _ _ i.1 _ (state_of c.args.seen) (sym c.is_at.ensures ∙ c.frames-test.true) c.in-None.ensures.none.0 i.2 i.3
