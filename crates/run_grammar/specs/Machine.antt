-- The same as a machine that takes one entry at a time.
use Rattle.run_grammar.specs.Tests.{holds}
use Rattle.std.specs.Prelude.{Bool, true, false, cond, List, [], ◌∷◌, ◌≡◌}
use Rattle.run_grammar.specs.declared.kind.Role.{Role}
use Rattle.run_grammar.specs.declared.kind.Kind.{Kind}
use Rattle.run_grammar.specs.declared.answer.Entry.{Entry}
use Rattle.run_grammar.specs.declared.kind.Kind.TheVariants.{Park, Wait}
use Rattle.run_grammar.specs.Entry.{kind_of, pending, ready, same_role, abandon_of}
use Rattle.run_grammar.specs.Standing.{State, step}
use Rattle.run_grammar.specs.Production.{Production, Nothing, Work, ◌⨟◌, Where, Rounds, Again, InAttempt, Under}

-- where a production begins: it is over, or at a question, with the deadlines armed there and what is left after it
pub data Spot : Type 0 where
  AtEnd : Spot
  AtAgain : Spot
  At : Kind → List Role → Production → Spot

-- where a production begins that goes on with a second one
abbrev pub then_spot : Spot → Production → Spot → Spot
then_spot AtEnd q s = s
then_spot AtAgain q s = AtAgain
then_spot (At k es r) q s = At k es (r ⨟ q)

-- where a further round begins
abbrev pub fresh_spot : Spot → Production → Spot
fresh_spot AtEnd q = AtEnd
fresh_spot AtAgain q = AtEnd
fresh_spot (At k es r) q = At k es (Rounds r q)

-- where rounds begin
abbrev pub round_spot : Spot → Production → Spot → Spot
round_spot AtEnd q s = AtEnd
round_spot AtAgain q s = fresh_spot s q
round_spot (At k es r) q s = At k es (Rounds r q)

-- where a production under a deadline begins
abbrev pub under_spot : Role → Spot → Production → Spot
under_spot d AtEnd q = AtEnd
under_spot d AtAgain q = AtAgain
under_spot d (At k es r) q = At k es (Under d r q)

-- where an attempt begins
abbrev pub within_spot : Spot → Spot
within_spot AtEnd = AtEnd
within_spot AtAgain = AtAgain
within_spot (At k es r) = At k es (InAttempt r)

-- where a production begins, with these deadlines armed and this state standing
abbrev pub first : Production → List Role → State → Spot
first Nothing ds s = AtEnd
first Again ds s = AtAgain
first (Work k) ds s = At k ds Nothing
first (p ⨟ q) ds s = then_spot (first p ds s) q (first q ds s)
first (Where test p q) ds s = cond (holds test s) (first p ds s) (first q ds s)
first (Rounds p q) ds s = round_spot (first p ds s) q (first q ds s)
first (InAttempt p) ds s = within_spot (first p ds s)
first (Under d p q) ds s = under_spot d (first p (d ∷ ds) s) q

-- what is left where the question at hand is cut by d
pub data Rest : Type 0 where
  Left : Production → Rest
  Out : (inside : Bool) → Rest

-- what is left of a cut production that goes on with a second one
abbrev pub then_rest : Rest → Production → Rest
then_rest (Left r) q = Left (r ⨟ q)
then_rest (Out inside) q = Out inside

-- what is left of cut rounds
abbrev pub round_rest : Rest → Production → Rest
round_rest (Left r) q = Left (Rounds r q)
round_rest (Out inside) q = Out inside

-- what is left under the deadline c; a cut by c itself in an attempt goes on with what follows there
abbrev pub under_rest : Bool → Role → Rest → Production → Rest
under_rest same c (Left r) q = Left (Under c r q)
under_rest same c (Out inside) q = cond same (Left (cond inside q Nothing)) (Out inside)

-- what is left of a cut attempt: the cut lies in an attempt
abbrev pub within_rest : Rest → Rest
within_rest (Left r) = Left (InAttempt r)
within_rest (Out inside) = Out true

-- what is left of a production whose question at hand is cut by the deadline d
abbrev pub cut : Production → Role → Rest
cut Nothing d = Out false
cut Again d = Out false
cut (Work k) d = Out false
cut (p ⨟ q) d = then_rest (cut p d) q
cut (Where test p q) d = Out false
cut (Rounds p q) d = round_rest (cut p d) q
cut (InAttempt p) d = within_rest (cut p d)
cut (Under c p q) d = under_rest (same_role c d) c (cut p d) q

-- where the machine stands between two entries: at a run's end, nowhere in a run, or before a question
pub data Position : Type 0 where
  Whole : Position
  Dead : Position
  -- before the question, with these deadlines armed and what is left after it
  Asking : Kind → List Role → Production → Position
  -- after Pending: these of the deadlines are still to be asked, and then Park
  Waiting : Kind → List Role → List Role → Production → Position
  -- after Ready of the deadline
  Cutting : Kind → Role → Production → Position

-- the position at which something begins so
abbrev pub position : Spot → Position
position AtEnd = Whole
position AtAgain = Dead
position (At k es r) = Asking k es r

-- the position at which a production begins
abbrev pub begin : Production → State → Position
begin p s = position (first p [] s)

-- the position after a cut that left this
abbrev pub after_cut : Rest → State → Position
after_cut (Left r) s = begin r s
after_cut (Out inside) s = Dead

-- the position after an entry; s stands after it
abbrev pub next : Position → State → Entry → Position
next Whole s e = Dead
next Dead s e = Dead
next (Asking k es r) s e = cond (pending e) (Waiting k es es r) (begin r s)
next (Waiting k es [] r) s e = Asking k es r
next (Waiting k es (d ∷ ds) r) s e = cond (pending e) (Waiting k es ds r) (cond (ready e) (Cutting k d r) Dead)
next (Cutting k d r) s e = after_cut (cut r d) s

-- at the position the machine asks a question of this kind
abbrev pub Asks : Position → Kind → Type 0
Asks Whole k = ⊥
Asks Dead k = ⊥
Asks (Asking j es r) k = k ≡ j
Asks (Waiting j es [] r) k = k ≡ Park
Asks (Waiting j es (d ∷ ds) r) k = k ≡ Wait d
Asks (Cutting j d r) k = k ≡ abandon_of j

-- from the position these entries lead to a run's end
abbrev pub Accepts : Position → State → List Entry → Type 0
Accepts p s [] = p ≡ Whole
Accepts p s (e ∷ l) = Asks p (kind_of e) × Accepts (next p (step s e) e) (step s e) l

-- the position after a list
abbrev pub after : Position → State → List Entry → Position
after p s [] = p
after p s (e ∷ l) = after (next p (step s e) e) (step s e) l

-- each entry has the question that the machine asks there
abbrev pub Path : Position → State → List Entry → Type 0
Path p s [] = Unit {0}
Path p s (e ∷ l) = Asks p (kind_of e) × Path (next p (step s e) e) (step s e) l
