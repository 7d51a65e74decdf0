-- What a word of a production is.
use Rattle.run_grammar.specs.Tests.{holds}
use Rattle.std.specs.Prelude.{Bool, true, false, cond, ℕ, zero, suc, List, [], ◌∷◌, ◌++◌, ◌≡◌, ◌⊎◌}
use Rattle.run_grammar.specs.declared.kind.Role.{Role}
use Rattle.run_grammar.specs.declared.kind.Kind.{Kind}
use Rattle.run_grammar.specs.declared.answer.Entry.{Entry}
use Rattle.run_grammar.specs.declared.kind.Kind.TheVariants.{Park, Wait}
use Rattle.run_grammar.specs.Entry.{kind_of, pending, ready, same_role, abandon_of}
use Rattle.run_grammar.specs.Standing.{State, standing}
use Rattle.run_grammar.specs.Production.{Production, Nothing, Work, ◌⨟◌, Where, Rounds, Again, InAttempt, Under, End}
use Rattle.run_grammar.specs.Production.{Ended, Further, CutBy}

-- Wait of each deadline answered Pending, and then Park
abbrev pub WaitsOf : List Role → List Entry → Type 0
WaitsOf ds [] = ⊥
WaitsOf [] (e ∷ l) = ((kind_of e) ≡ Park) × (l ≡ [])
WaitsOf (d ∷ ds) (e ∷ l) = ((kind_of e) ≡ Wait d) × (pending e ≡ true) × WaitsOf ds l

-- Idle(k, ds): k Pending, then those
abbrev pub Idle : Kind → List Role → List Entry → Type 0
Idle k ds [] = ⊥
Idle k ds (e ∷ l) = ((kind_of e) ≡ k) × (pending e ≡ true) × WaitsOf ds l

-- the end of a cut: Wait Pending of the deadlines before d, Wait of d answered Ready, Abandon of k
abbrev pub Struck : Kind → Role → List Role → List Entry → Type 0
Struck k d [] l = ⊥
Struck k d (c ∷ ds) [] = ⊥
Struck k d (c ∷ ds) (e ∷ l) =
    ((kind_of e) ≡ Wait c) ×
    (((pending e ≡ true) × Struck k d ds l)
    ⊎ ((c ≡ d) × (pending e ≡ false) × (ready e ≡ true) × (a : Entry) × (l ≡ a ∷ []) × ((kind_of a) ≡ abandon_of k)))

-- this many of Idle(k, ds), and then such a list
abbrev pub AfterIdles : Kind → List Role → (List Entry → Type 0) → ℕ → List Entry → Type 0
AfterIdles k ds last zero l = last l
AfterIdles k ds last (suc n) l =
    (a : List Entry) × (b : List Entry) × (l ≡ a ++ b) × Idle k ds a × AfterIdles k ds last n b

-- one question of this kind, with another answer than Pending
abbrev pub Answered : Kind → List Entry → Type 0
Answered k l = (e : Entry) × (l ≡ e ∷ []) × ((kind_of e) ≡ k) × (pending e ≡ false)

-- one question of this kind that is pending, until d cuts it
abbrev pub CutOnce : Kind → Role → List Role → List Entry → Type 0
CutOnce k d ds [] = ⊥
CutOnce k d ds (e ∷ l) = ((kind_of e) ≡ k) × (pending e ≡ true) × Struck k d ds l

-- Work(k, ds) and Cut(k, d, ds) (timeout.rs, `MaybeTimeoutFuture::poll`)
abbrev pub WorkOf : Kind → List Role → List Entry → Type 0
WorkOf k ds l = (n : ℕ) × AfterIdles k ds (Answered k) n l

-- the question is pending any number of times, and then d cuts it
abbrev pub CutOf : Kind → Role → List Role → List Entry → Type 0
CutOf k d ds l = (n : ℕ) × AfterIdles k ds (CutOnce k d ds) n l

-- the word ended by Again
abbrev pub is_further : End → Bool
is_further Ended = false
is_further Further = true
is_further (CutBy d inside) = false

-- the word ended by itself
abbrev pub is_ended : End → Bool
is_ended Ended = true
is_ended Further = false
is_ended (CutBy d inside) = false

-- a round, and this many further rounds of the second
abbrev pub RoundsOf : (End → State → List Entry → Type 0) → (End → State → List Entry → Type 0) → ℕ → End → State →
    List Entry → Type 0
RoundsOf round further zero x s l = (is_further x ≡ false) × round x s l
RoundsOf round further (suc n) x s l =
    (a : List Entry) × (b : List Entry) × (l ≡ a ++ b) × round Further s a
    × RoundsOf further further n x (standing s a) b

-- how a scope of d ends and what follows in it, where its production ended by y
abbrev pub ScopeEnds : Role → (End → List Entry → Type 0) → End → End → List Entry → Type 0
ScopeEnds d inner Ended x l = (x ≡ Ended) × (l ≡ [])
ScopeEnds d inner Further x l = (x ≡ Further) × (l ≡ [])
ScopeEnds d inner (CutBy c inside) x l =
    cond (same_role d c) (cond inside (inner x l) ((x ≡ Ended) × (l ≡ []))) ((x ≡ CutBy c inside) × (l ≡ []))

-- the end of an attempt that ended so: a cut of it lies in an attempt
abbrev pub marked : End → End
marked Ended = Ended
marked Further = Further
marked (CutBy d inside) = CutBy d true

-- l is, from what stands in s and with these deadlines armed, a word of the production that ends so
abbrev pub Word : Production → List Role → End → State → List Entry → Type 0
Word Nothing ds x s l = (x ≡ Ended) × (l ≡ [])
Word Again ds x s l = (x ≡ Further) × (l ≡ [])
Word (Work k) ds x s l = ((x ≡ Ended) × WorkOf k ds l) ⊎ ((d : Role) × (x ≡ CutBy d false) × CutOf k d ds l)
Word (p ⨟ q) ds x s l =
    ((a : List Entry) × (b : List Entry) × (l ≡ a ++ b) × Word p ds Ended s a × Word q ds x (standing s a) b)
    ⊎ ((is_ended x ≡ false) × Word p ds x s l)
Word (Where test p q) ds x s l = cond (holds test s) (Word p ds x s l) (Word q ds x s l)
Word (Rounds p q) ds x s l = (n : ℕ) × RoundsOf (Word p ds) (Word q ds) n x s l
Word (InAttempt p) ds x s l = (y : End) × (x ≡ marked y) × Word p ds y s l
Word (Under d p q) ds x s l =
    (a : List Entry) × (b : List Entry) × (y : End) × (l ≡ a ++ b) × Word p (d ∷ ds) y s a
    × ScopeEnds d (λ z m. Word q ds z (standing s a) m) y x b
