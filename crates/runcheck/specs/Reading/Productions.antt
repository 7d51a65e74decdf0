-- What a production of the code is.
use Rattle.runcheck.specs.declared.reading.production.Production as code
use Rattle.run_grammar.specs.Production.{Production, Nothing, Work, ◌⨟◌, Where, Rounds, Again, InAttempt, Under}

-- the production of the grammar that the code's tree is
abbrev pub production_of : code.Production → Production
production_of code.Nothing = Nothing
production_of (code.Work k) = Work k
production_of (code.Then' a p b q) = production_of p ⨟ production_of q
production_of (code.Where' t a p b q) = Where t (production_of p) (production_of q)
production_of (code.Rounds' a p b q) = Rounds (production_of p) (production_of q)
production_of code.Again = Again
production_of (code.InAttempt' a p) = InAttempt (production_of p)
production_of (code.Under' d a p b q) = Under d (production_of p) (production_of q)
