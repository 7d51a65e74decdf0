-- What is left around a question.
use Rattle.std.specs.Prelude.{Bool, true, false, Option, None, Some, option_map, List, [], ◌∷◌, ◌++◌, ◌≡◌}
use Rattle.run_grammar.specs.declared.kind.Role.{Role}
use Rattle.run_grammar.specs.Standing.{State}
use Rattle.run_grammar.specs.Production.{Production, Nothing, ◌⨟◌, Rounds, InAttempt, Under}
use Rattle.run_grammar.specs.Machine.{Spot, AtEnd, AtAgain, At, Rest, Left, Out, first, then_spot, round_spot}
use Rattle.run_grammar.specs.Machine.{under_spot, within_spot}
use Rattle.runcheck.specs.declared.reading.walk.Frame.{Frame}
use Rattle.runcheck.specs.declared.reading.walk.Frame.TheVariants.{Then, Round, Scope, Within}
use Rattle.runcheck.specs.declared.reading.walk.Begun.{Begun}
use Rattle.runcheck.specs.declared.reading.walk.Begun.TheVariants as begun
use Rattle.runcheck.specs.declared.reading.walk.Seen.{Seen}
use Rattle.runcheck.specs.Reading.Productions.{production_of}

-- what a walk has seen, as a state of the grammar: what stands, and the last entry
abbrev pub state_of : Seen → State
state_of v = record { context = v.standing.now; last = option_map (λ r. r.now) v.last }

-- r within the frame
abbrev pub wrap : Frame → Production → Production
wrap (Then q) r = r ⨟ production_of q.now
wrap (Round q) r = Rounds r (production_of q.now)
wrap (Scope d q) r = Under d r (production_of q.now)
wrap Within r = InAttempt r

-- r within the frames, the outermost first
abbrev pub plug : List Frame → Production → Production
plug [] r = r
plug (f ∷ fs) r = wrap f (plug fs r)

-- a scope arms its deadline, and other frames none
abbrev pub arms : Frame → List Role → List Role
arms (Scope d q) ds = d ∷ ds
arms _ ds = ds

-- these deadlines with those that the frames arm, the inner first
abbrev pub armed_in : List Role → List Frame → List Role
armed_in ds [] = ds
armed_in ds (f ∷ fs) = armed_in (arms f ds) fs

-- the deadlines that are armed within the frames, the inner first
abbrev pub armed : List Frame → List Role
armed fs = armed_in [] fs

-- the frames after it is found where a production begins, that begins at this spot
abbrev pub Found : Begun → List Frame → List Frame → Spot → Type 0
Found begun.Over fs gs t = (gs ≡ fs) × (t ≡ AtEnd)
Found begun.Further fs gs t = (gs ≡ fs) × (t ≡ AtAgain)
Found (begun.At k) fs gs t = (hs : List Frame) × (gs ≡ fs ++ hs) × (t ≡ At k (armed gs) (plug hs Nothing))

-- nothing is asked, and the production is over
abbrev pub is_over : Begun → Bool
is_over begun.Over = true
is_over _ = false

-- nothing is asked, and a further round follows
abbrev pub is_further : Begun → Bool
is_further begun.Further = true
is_further _ = false

-- a further round counts as over
abbrev pub or_over : Begun → Begun
or_over begun.Further = begun.Over
or_over b = b

-- a spot within a frame, where the frame goes on with nothing
abbrev pub through : Frame → Spot → Spot
through f AtEnd = AtEnd
through f AtAgain = AtAgain
through f (At k es r) = At k es (wrap f r)

-- a question is asked
abbrev pub is_at : Begun → Bool
is_at (begun.At k) = true
is_at _ = false

-- where a production stands that asks nothing: at a further round, or at its end
abbrev pub spot_of : Begun → Spot
spot_of begun.Further = AtAgain
spot_of _ = AtEnd

-- what a frame makes of the spot within it
abbrev pub around : Frame → Spot → List Role → State → Spot
around (Then q) t ds s = then_spot t (production_of q.now) (first (production_of q.now) ds s)
around (Round q) t ds s = round_spot t (production_of q.now) (first (production_of q.now) ds s)
around (Scope d q) t ds s = under_spot d t (production_of q.now)
around Within t ds s = within_spot t

-- what the frames make of it
abbrev pub outside : List Frame → Spot → List Role → State → Spot
outside [] t ds s = t
outside (f ∷ fs) t ds s = around f (outside fs t (arms f ds) s) ds s

-- where the whole stands, with these frames left
abbrev pub Reached : Begun → List Frame → Spot → Type 0
Reached begun.Over gs t = t ≡ AtEnd
Reached begun.Further gs t = t ≡ AtAgain
Reached (begun.At k) gs t = t ≡ At k (armed gs) (plug gs Nothing)

-- where the whole stands after a cut
abbrev pub CutTo : Option Begun → List Frame → Rest → State → Type 0
CutTo None gs r s = (inside : Bool) × (r ≡ Out inside)
CutTo (Some b) gs r s = (q : Production) × (r ≡ Left q) × Reached b gs (first q [] s)
