-- What a spot's words are, and what a production must keep.
use Rattle.std.proofs.Common.{false, List, [], ◌∷◌, ◌++◌, ◌≡◌, ◌⊎◌, refl, sym, ap, ◌∙◌, subst, append_assoc}
use Rattle.run_grammar.specs.declared.kind.Role.{Role}
use Rattle.run_grammar.specs.declared.answer.Entry.{Entry}
use Rattle.run_grammar.specs.Standing.{State, standing, step}
use Rattle.run_grammar.specs.Production.{Production, Nothing, Work, ◌⨟◌, Where, Rounds, Again, InAttempt, Under, End, Ended, Further, CutBy}
use Rattle.run_grammar.specs.Words.{Word, WorkOf, CutOf, is_ended, is_further}
use Rattle.run_grammar.specs.Machine.{Spot, AtEnd, AtAgain, At, Rest, Left, Out, cut, first}

-- the words of what is left where d cuts
abbrev pub RestWord : Role → Rest → List Role → End → State → List Entry → Type 0
RestWord d (Left r) ds x s l = Word r ds x s l
RestWord d (Out inside) ds x s l = (x ≡ CutBy d inside) × (l ≡ [])

abbrev pub SpotWord : Spot → List Role → End → State → List Entry → Type 0
SpotWord AtEnd ds x s l = (x ≡ Ended) × (l ≡ [])
SpotWord AtAgain ds x s l = (x ≡ Further) × (l ≡ [])
SpotWord (At k es r) ds x s l =
    ((a : List Entry) × (b : List Entry) × (l ≡ a ++ b) × WorkOf k es a × Word r ds x (standing s a) b)
    ⊎ ((d : Role) × (a : List Entry) × (b : List Entry) × (l ≡ a ++ b) × CutOf k d es a × RestWord d (cut r d) ds x (standing s a) b)

abbrev pub IsAt : Spot → Type 0
IsAt AtEnd = ⊥
IsAt AtAgain = ⊥
IsAt (At k es r) = Unit {0}

-- each round asks something
abbrev pub Fine : Production → Type 0
Fine Nothing = Unit {0}
Fine Again = Unit {0}
Fine (Work k) = Unit {0}
Fine (p ⨟ q) = Fine p × Fine q
Fine (Where test p q) = Fine p × Fine q
Fine (Rounds p q) = Fine p × Fine q × ((ds : List Role) (s : State) → IsAt (first q ds s))
Fine (InAttempt p) = Fine p
Fine (Under d p q) = Fine p × Fine q

pub standing-append : (a : List Entry) (b : List Entry) (s : State) → standing s (a ++ b) ≡ standing (standing s a) b
standing-append [] b s = refl
standing-append (e ∷ a) b s = standing-append a b (step s e)

-- a fact past nothing is a fact here
pub at_nil : (V : State → List Entry → Type 0) (s : State) (l a b : List Entry) → l ≡ a ++ b → a ≡ [] → V (standing s a) b → V s l
at_nil V s l [] b e n v = subst (λ m. V s m) (sym e) v
at_nil V s l (c ∷ a) b e n v = absurd (cc)

pub carry : (V : State → List Entry → Type 0) (s : State) (a a1 a2 b : List Entry) → a ≡ a1 ++ a2 → V (standing s a) b → V (standing (standing s a1) a2) b
carry V s a a1 a2 b e v = subst (λ t. V t b) (ap (λ m. standing s m) e ∙ standing-append a1 a2 s) v

pub carry_back : (V : State → List Entry → Type 0) (s : State) (a1 a2 b : List Entry) → V (standing (standing s a1) a2) b → V (standing s (a1 ++ a2)) b
carry_back V s a1 a2 b v = subst (λ t. V t b) (sym (standing-append a1 a2 s)) v

pub split_more : (l a b a1 a2 : List Entry) → l ≡ a ++ b → a ≡ a1 ++ a2 → l ≡ a1 ++ (a2 ++ b)
split_more l a b a1 a2 e f = e ∙ ap (λ m. m ++ b) f ∙ append_assoc a1 a2 b

pub not_ended : (x : End) → is_ended x ≡ false → x ≡ Ended → ⊥
not_ended Ended h e = cc
not_ended Further h e = cc
not_ended (CutBy d i) h e = cc

pub not_further : (x : End) → is_further x ≡ false → x ≡ Further → ⊥
not_further Ended h e = cc
not_further Further h e = cc
not_further (CutBy d i) h e = cc
