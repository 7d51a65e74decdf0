-- A list of which a front was changed, item by item.
use Rattle.std.proofs.Common.{◌≡◌, ◌<◌, ◌≤◌, ◌+◌, ◌∙◌, ℕ, zero, suc, List, [], ◌∷◌, length, set, get_or, map, ap, refl, subst, sym, arith}

-- the first items are changed
abbrev pub front_changed : {X : Type 0} → (X → X) → ℕ → List X → List X
front_changed f zero xs = xs
front_changed f (suc i) [] = []
front_changed f (suc i) (x ∷ xs) = f x ∷ front_changed f i xs

front-more : {X : Type 0} → (f : X → X) (xs : List X) (i : ℕ) (d : X) → i < length xs
    → set (front_changed f i xs) i (f (get_or (front_changed f i xs) i d)) ≡ front_changed f (suc i) xs
front-more f [] i d within = absurd (omega arith)
front-more f (x ∷ xs) zero d within = refl
front-more f (x ∷ xs) (suc i) d within = ap (λ ys. f x ∷ ys) (front-more f xs i d (omega arith))

-- one item more is changed where it is read and written
pub front-stepped : {X : Type 0} → (f : X → X) (xs cs : List X) (i : ℕ) (d y : X) → i < length xs
    → cs ≡ front_changed f i xs → y ≡ f (get_or cs i d) → set cs i y ≡ front_changed f (i + 1) xs
front-stepped f xs cs i d y within is made =
    ap (λ z. set cs i z) made ∙ subst (λ l. set l i (f (get_or l i d)) ≡ front_changed f (suc i) xs) (sym is) (front-more f xs i d within)
    ∙ ap (λ n. front_changed f n xs) (let next : suc i ≡ i + 1 = omega arith in next)

-- all are changed once there is none behind the front
pub front-all : {X : Type 0} → (f : X → X) (xs : List X) (i : ℕ) → length xs ≤ i → front_changed f i xs ≡ map f xs
front-all f [] zero past = refl
front-all f [] (suc i) past = refl
front-all f (x ∷ xs) zero past = absurd (omega arith)
front-all f (x ∷ xs) (suc i) past = ap (λ ys. f x ∷ ys) (front-all f xs i (omega arith))
