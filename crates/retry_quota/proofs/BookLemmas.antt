-- What every step of a book keeps.
use Rattle.std.proofs.Common.{◌≡◌, ◌∙◌, ap, refl, ℕ, ◌+◌, ◌-◌, ◌/◌, ◌%◌, ◌^◌, ◌≤◌, Bool, true, false, if◌then◌else◌, List, [], ◌∷◌, ◌++◌, arith, nat_lt, nat_le}
use Rattle.std.proofs.lemmas.Bool.{leb-true}
use Rattle.smithy_types.specs.declared.kinds.ErrorKind.{ErrorKind}
use Rattle.retry_quota.specs.Book.{Book, terms_in, IsBalanced, cost_of, cost_under, refill, add, convert, ready, spend, fitting}
use Rattle.retry_quota.specs.History.{Step, Acquire, Release, Forget, Reward, Regenerate, Convert, Look, Entry, after, end_of, is_granted, IsLegal}

-- what two values share, the chosen one has
same_if : {X Y : Type 0} → (g : X → Y) (t : Bool) (x y : X) (n : Y) → g x ≡ n → g y ≡ n → g (if t then x else y) ≡ n
same_if g true x y n first second = first
same_if g false x y n first second = second

-- what holds of each of two values where it is chosen, holds of the chosen one
holds_if : {X : Type 0} → (P : X → Type 0) (t : Bool) (x y : X) → (t ≡ true → P x) → P y → P (if t then x else y)
holds_if P true x y first second = first refl
holds_if P false x y first second = second

terms-refill : (second : ℕ) (b : Book) → terms_in (refill second b) ≡ terms_in b
terms-refill second b = same_if terms_in _ _ _ (terms_in b) refl refl

terms-add : (tokens : ℕ) (b : Book) → terms_in (add tokens b) ≡ terms_in b
terms-add tokens b = same_if terms_in _ _ _ (terms_in b) refl refl

terms-convert : (b : Book) → terms_in (convert b) ≡ terms_in b
terms-convert b = terms-add (b.fraction / 1000) (record b { fraction = b.fraction % 1000 })

terms-ready : (second : ℕ) (b : Book) → terms_in (ready second b) ≡ terms_in b
terms-ready second b = terms-convert (refill second b) ∙ terms-refill second b

-- no step changes the terms
pub terms-after : (step : Step) (b : Book) → terms_in (after step b) ≡ terms_in b
terms-after (Acquire kind second) b =
    same_if terms_in (is_granted kind second b) (spend (cost_of kind b) (ready second b)) (ready second b) (terms_in b)
    (terms-ready second b) (terms-ready second b)
terms-after (Release amount) b = same_if terms_in _ _ _ (terms_in b) refl refl
terms-after (Forget amount) b = same_if terms_in _ _ _ (terms_in b) refl refl
terms-after Reward b = refl
terms-after Regenerate b = terms-add 1 b
terms-after Convert b = terms-convert b
terms-after Look b = refl

pub terms-end_of : (entries : List Entry) (b : Book) → terms_in (end_of b entries) ≡ terms_in b
terms-end_of [] b = refl
terms-end_of (e ∷ es) b = terms-end_of es (after e.step b) ∙ terms-after e.step b

-- the cost of a kind is one of the terms
pub cost-terms : (kind : ErrorKind) (a b : Book) → terms_in a ≡ terms_in b → cost_of kind a ≡ cost_of kind b
cost-terms kind a b same = ap (cost_under kind) same

pub cost-after : (kind : ErrorKind) (step : Step) (b : Book) → cost_of kind (after step b) ≡ cost_of kind b
cost-after kind step b = cost-terms kind (after step b) b (terms-after step b)

balanced-refill : (second : ℕ) (b : Book) → IsBalanced b → IsBalanced (refill second b)
balanced-refill second b balanced = holds_if IsBalanced _ _ _ (λ _. balanced) balanced

balanced-add : (tokens : ℕ) (b : Book) → IsBalanced b → IsBalanced (add tokens b)
balanced-add tokens b balanced =
    let more = fitting tokens b in
    holds_if IsBalanced (nat_lt (b.capacity + (b.granted + more)) (2 ^ 64))
    (record b { available = b.available + more; granted = b.granted + more }) b
    (λ _. omega arith) balanced

balanced-convert : (b : Book) → IsBalanced b → IsBalanced (convert b)
balanced-convert b balanced = balanced-add (b.fraction / 1000) (record b { fraction = b.fraction % 1000 }) balanced

balanced-spend : (cost : ℕ) (b : Book) → cost ≤ b.available → IsBalanced b → IsBalanced (spend cost b)
balanced-spend cost b enough balanced = omega arith

-- every step keeps the balance
pub balanced-after : (step : Step) (b : Book) → IsBalanced b → IsBalanced (after step b)
balanced-after (Acquire kind second) b balanced =
    let found : IsBalanced (ready second b) = balanced-convert (refill second b) (balanced-refill second b balanced) in
    holds_if IsBalanced (is_granted kind second b) (spend (cost_of kind b) (ready second b)) (ready second b)
    (λ granted. balanced-spend (cost_of kind b) (ready second b) (leb-true (cost_of kind b) (ready second b).available granted) found)
    found
balanced-after (Release amount) b balanced =
    holds_if IsBalanced (nat_le amount b.held) (record b { held = b.held - amount; available = b.available + amount }) b
    (λ there. let enough : amount ≤ b.held = leb-true amount b.held there in omega arith) balanced
balanced-after (Forget amount) b balanced =
    holds_if IsBalanced (nat_le amount b.held) (record b { held = b.held - amount; forgotten = b.forgotten + amount }) b
    (λ there. let enough : amount ≤ b.held = leb-true amount b.held there in omega arith) balanced
balanced-after Reward b balanced = balanced
balanced-after Regenerate b balanced = balanced-add 1 b balanced
balanced-after Convert b balanced = balanced-convert b balanced
balanced-after Look b balanced = balanced

pub balanced-end_of : (entries : List Entry) (b : Book) → IsBalanced b → IsBalanced (end_of b entries)
balanced-end_of [] b balanced = balanced
balanced-end_of (e ∷ es) b balanced = balanced-end_of es (after e.step b) (balanced-after e.step b balanced)

pub end_of-append : (xs ys : List Entry) (b : Book) → end_of b (xs ++ ys) ≡ end_of (end_of b xs) ys
end_of-append [] ys b = refl
end_of-append (e ∷ es) ys b = end_of-append es ys (after e.step b)

pub legal-joined : (xs ys : List Entry) (b : Book) → IsLegal b xs → IsLegal (end_of b xs) ys → IsLegal b (xs ++ ys)
legal-joined [] ys b first second = second
legal-joined (e ∷ es) ys b first second = (first.0, legal-joined es ys (after e.step b) first.1 second)

pub legal-begun : (xs ys : List Entry) (b : Book) → IsLegal b (xs ++ ys) → IsLegal b xs × IsLegal (end_of b xs) ys
legal-begun [] ys b both = (tt, both)
legal-begun (e ∷ es) ys b both =
    let rest = legal-begun es ys (after e.step b) both.1 in
    ((both.0, rest.0), rest.1)
