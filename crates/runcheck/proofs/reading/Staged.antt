-- The position where a stage was reached.
use Rattle.std.proofs.Common.{List, [], ◌≡◌, sym, ap, ◌∙◌}
use Rattle.run_grammar.specs.Standing.{State}
use Rattle.run_grammar.specs.Production.{Production, Nothing}
use Rattle.run_grammar.specs.Machine.{Spot, AtEnd, position, first, begin}
use Rattle.runcheck.specs.declared.reading.walk.Frame.{Frame}
use Rattle.runcheck.specs.declared.reading.walk.Begun.{Begun}
use Rattle.runcheck.specs.declared.reading.walk.Begun.TheVariants as begun
use Rattle.runcheck.specs.Reading.Frames.{Reached, plug, outside}
use Rattle.runcheck.specs.Reading.Places.{place, staged}
use Rattle.runcheck.proofs.reading.Outside.{first_plug}

pub place_staged : (b : Begun) (gs : List Frame) (t : Spot) → Reached b gs t → place (staged b) gs ≡ position t
place_staged begun.Over gs t h = ap position (sym h)
place_staged begun.Further gs t h = ap position (sym h)
place_staged (begun.At k) gs t h = ap position (sym h)

-- a production begun within no frames
pub begun_place : (b c : Begun) (gs : List Frame) (p : Production) (s : State) → Reached c gs (outside [] (first p [] s) [] s) → place (staged c) gs ≡ begin p s
begun_place b c gs p s h = place_staged c gs _ h

-- what is left goes on where nothing more is asked within it
pub resumed_place : (b : Begun) (fs gs : List Frame) (s : State) → Reached b gs (outside fs AtEnd [] s) → place (staged b) gs ≡ begin (plug fs Nothing) s
resumed_place b fs gs s h = place_staged b gs _ h ∙ ap position (sym (first_plug fs Nothing [] s))
