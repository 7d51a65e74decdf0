-- Productions of the phase grammar.
use Rattle.std.specs.Prelude.{Bool}
use Rattle.run_grammar.specs.declared.kind.Role.{Role}
use Rattle.run_grammar.specs.declared.kind.Kind.{Kind}
use Rattle.run_grammar.specs.declared.production.Test.{Test}

infixr 5 ◌⨟◌
-- which questions are asked, in which order, by the answers
pub data Production : Type 0 where
  -- nothing
  Nothing : Production
  -- the question until it has another answer than Pending
  Work : Kind → Production
  -- the first, and then the second
  ◌⨟◌ : Production → Production → Production
  -- the first where the test holds, and the second where it does not
  Where : Test → Production → Production → Production
  -- this round, and after each round that ends with Again a further one, of the second production
  Rounds : Production → Production → Production
  -- nothing; and the enclosing Rounds goes on with a further round
  Again : Production
  -- an attempt: a cut of it lies in an attempt
  InAttempt : Production → Production
  -- the production with this deadline armed; where the deadline cuts it in an attempt, the second follows
  Under : Role → Production → Production → Production

-- how a word ends: by itself, by Again, or cut by this deadline, in an attempt or not
pub data End : Type 0 where
  Ended : End
  Further : End
  CutBy : Role → (inside : Bool) → End
