-- Lists that the machine goes through: their fronts, and that one question continues them.
use Rattle.std.proofs.Common.{List, [], ◌∷◌, ◌++◌, ◌≡◌, refl, sym, ap, ◌∙◌, subst}
use Rattle.run_grammar.specs.declared.kind.Kind.{Kind}
use Rattle.run_grammar.specs.declared.answer.Entry.{Entry}
use Rattle.run_grammar.specs.Entry.{kind_of}
use Rattle.run_grammar.specs.Standing.{State, standing, step, WellHanded, asked}
use Rattle.run_grammar.specs.Machine.{Position, Whole, Dead, Asking, Waiting, Cutting, next, Asks, Accepts, after, Path}
use Rattle.run_grammar.specs.Laws.{EachFits}

pub path_of : (l m : List Entry) (p : Position) (s : State) → Accepts p s (l ++ m) → Path p s l × Accepts (after p s l) (standing s l) m
path_of [] m p s a = (tt, a)
path_of (e ∷ l) m p s (a, w) = let r = path_of l m (next p (step s e) e) (step s e) w in ((a, r.0), r.1)

pub accepts_on : (l m : List Entry) (p : Position) (s : State) → Path p s l → Accepts (after p s l) (standing s l) m → Accepts p s (l ++ m)
accepts_on [] m p s g a = a
accepts_on (e ∷ l) m p s (h, g) a = (h, accepts_on l m (next p (step s e) e) (step s e) g a)

pub handed_of : (l m : List Entry) (s : State) → WellHanded s (l ++ m) → WellHanded s l × WellHanded (standing s l) m
handed_of [] m s h = (tt, h)
handed_of (e ∷ l) m s (h, g) = let r = handed_of l m (step s e) g in ((h, r.0), r.1)

pub handed_on : (l m : List Entry) (s : State) → WellHanded s l → WellHanded (standing s l) m → WellHanded s (l ++ m)
handed_on [] m s h g = g
handed_on (e ∷ l) m s (h, f) g = (h, handed_on l m (step s e) f g)

pub fits_of : (l m : List Entry) → EachFits (l ++ m) → EachFits l × EachFits m
fits_of [] m h = (tt, h)
fits_of (e ∷ l) m (h, g) = let r = fits_of l m g in ((h, r.0), r.1)

pub fits_on : (l m : List Entry) → EachFits l → EachFits m → EachFits (l ++ m)
fits_on [] m h g = g
fits_on (e ∷ l) m (h, f) g = (h, fits_on l m f g)

nothing_after : (m : List Entry) (p : Position) (s : State) → p ≡ Whole → Accepts p s m → m ≡ []
nothing_after [] p s e a = refl
nothing_after (x ∷ m) p s e a = absurd (subst (λ q. Asks q (kind_of x)) e a.0)

pub no_prefix : (l m : List Entry) (p : Position) (s : State) → Accepts p s l → Accepts p s (l ++ m) → m ≡ []
no_prefix [] m p s a b = nothing_after m p s a b
no_prefix (e ∷ l) m p s (h, a) (g, b) = no_prefix l m (next p (step s e) e) (step s e) a b

asks_one : (p : Position) (j k : Kind) → Asks p j → Asks p k → j ≡ k
asks_one Whole j k a b = absurd a
asks_one Dead j k a b = absurd a
asks_one (Asking i es r) j k a b = a ∙ sym b
asks_one (Waiting i es [] r) j k a b = a ∙ sym b
asks_one (Waiting i es (d ∷ ds) r) j k a b = a ∙ sym b
asks_one (Cutting i d r) j k a b = a ∙ sym b

pub one_question : (l m n : List Entry) (e f : Entry) (p : Position) (s : State) → Accepts p s (l ++ e ∷ m) → Accepts p s (l ++ f ∷ n) →
    WellHanded s (l ++ e ∷ m) → WellHanded s (l ++ f ∷ n) → e.question ≡ f.question
one_question [] m n e f p s (a, w) (b, v) (h, x) (g, y) =
    h ∙ ap (λ j. asked j s) (asks_one p (kind_of e) (kind_of f) a b) ∙ sym g
one_question (c ∷ l) m n e f p s (a, w) (b, v) (h, x) (g, y) = one_question l m n e f (next p (step s c) c) (step s c) w v x y
