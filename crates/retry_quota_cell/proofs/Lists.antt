-- Totals over views, and how often a number stands in a list.
use Rattle.std.proofs.Common.{◌≡◌, ℕ, zero, suc, ◌+◌, ◌≤◌, List, [], ◌∷◌, ◌++◌, set, refl, sym, ap, ◌∙◌, arith, append-nil, append_assoc}
use mathlib.Core.Option.{some, some-injective, some-ne-none}
use mathlib.Core.List.{IsPrefix}
use lib.ListN.{get_elem?}
use Rattle.retry_quota_cell.specs.View.{View}
use Rattle.retry_quota.specs.Book.{Book}
use Rattle.retry_quota.specs.History.{Entry, after, reply_to, IsLegal, end_of}
use Rattle.retry_quota_cell.specs.Rule.{total, times, below, AreBegun}

-- the total after a change of one view
pub total_set : (f : View → ℕ) (views : List View) (port : ℕ) (v w : View) → get_elem? views port ≡ some v → total f (set views port w) + f v ≡ total f views + f w
total_set f [] port v w e = absurd (some-ne-none v (sym e))
total_set f (x ∷ xs) zero v w e = let same : f x ≡ f v = ap f (some-injective x v e) in omega arith
total_set f (x ∷ xs) (suc port) v w e = let rest = total_set f xs port v w e in omega arith

pub total_snoc : (f : View → ℕ) (views : List View) (w : View) → total f (views ++ w ∷ []) ≡ total f views + f w
total_snoc f [] w = omega arith
total_snoc f (x ∷ xs) w = let rest = total_snoc f xs w in omega arith

pub at_most : (f : View → ℕ) (views : List View) (port : ℕ) (v : View) → get_elem? views port ≡ some v → f v ≤ total f views
at_most f [] port v e = absurd (some-ne-none v (sym e))
at_most f (x ∷ xs) zero v e = let same : f x ≡ f v = ap f (some-injective x v e) in omega arith
at_most f (x ∷ xs) (suc port) v e = let rest = at_most f xs port v e in omega arith

-- where no view has a part, and a view without a part has nothing, there is nothing
total_none : (f g : View → ℕ) (views : List View) → ((by : ℕ) (u : View) → get_elem? views by ≡ some u → g u ≡ 0 → f u ≡ 0) → total g views ≡ 0 → total f views ≡ 0
total_none f g [] idle e = refl
total_none f g (x ∷ xs) idle e =
    let here : f x ≡ 0 = idle 0 x refl (omega arith) in
    let rest = total_none f g xs (λ by u at. idle (suc by) u at) (omega arith) in
    omega arith

-- where one view has all parts, and a view without a part has nothing, it has everything
pub total_alone : (f g : View → ℕ) (views : List View) (port : ℕ) (v : View) → get_elem? views port ≡ some v → ((by : ℕ) (u : View) → get_elem? views by ≡ some u → g u ≡ 0 → f u ≡ 0) → total g views ≤ g v → total f views ≡ f v
total_alone f g [] port v at idle e = absurd (some-ne-none v (sym at))
total_alone f g (x ∷ xs) zero v at idle e =
    let same : x ≡ v = some-injective x v at in
    let f_same : f x ≡ f v = ap f same in
    let g_same : g x ≡ g v = ap g same in
    let rest = total_none f g xs (λ by u there. idle (suc by) u there) (omega arith) in
    omega arith
total_alone f g (x ∷ xs) (suc port) v at idle e =
    let most = at_most g xs port v at in
    let here : f x ≡ 0 = idle 0 x refl (omega arith) in
    let rest = total_alone f g xs port v at (λ by u there. idle (suc by) u there) (omega arith) in
    omega arith

pub times-append : (n : ℕ) (xs ys : List ℕ) → times n (xs ++ ys) ≡ times n xs + times n ys
times-append n [] ys = omega arith
times-append n (x ∷ xs) ys = let rest = times-append n xs ys in omega arith

-- one number more is below the next count
pub below_next : (n count : ℕ) → below n (count + 1) ≡ below n count + times n (count ∷ [])
below_next n count = grind arith

pub below_none : (n : ℕ) → below n 0 ≡ 0
below_none n = grind arith

pub prefix_self : (xs : List Entry) → IsPrefix xs xs
prefix_self xs = ([], append-nil xs)

pub prefix_trans : (xs ys zs : List Entry) → IsPrefix xs ys → IsPrefix ys zs → IsPrefix xs zs
prefix_trans xs ys zs p q = (p.0 ++ q.0, sym (append_assoc xs p.0 q.0) ∙ ap (λ l. l ++ q.0) p.1 ∙ q.1)

pub prefix_more : (xs ys more : List Entry) → IsPrefix xs ys → IsPrefix xs (ys ++ more)
prefix_more xs ys more p = (p.0 ++ more, sym (append_assoc xs p.0 more) ∙ ap (λ l. l ++ more) p.1)

pub begun_more : (olds : List (List Entry)) (ys more : List Entry) → AreBegun olds ys → AreBegun olds (ys ++ more)
begun_more [] ys more a = tt
begun_more (x ∷ xs) ys more a = (prefix_more x ys more a.0, begun_more xs ys more a.1)

pub begun_both : (log : List Entry) (xs ys : List (List Entry)) → AreBegun xs log → AreBegun ys log → AreBegun (xs ++ ys) log
begun_both log [] ys a b = b
begun_both log (x ∷ xs) ys a b = (a.0, begun_both log xs ys a.1 b)

pub legal_more : (b : Book) (log : List Entry) (e : Entry) → IsLegal b log → e.reply ≡ reply_to e.step (end_of b log) → IsLegal b (log ++ e ∷ [])
legal_more b [] e legal r = (r, tt)
legal_more b (x ∷ xs) e legal r = (legal.0, legal_more (after x.step b) xs e legal.1 r)

pub end_more : (b : Book) (log : List Entry) (e : Entry) → end_of b (log ++ e ∷ []) ≡ after e.step (end_of b log)
end_more b [] e = refl
end_more b (x ∷ xs) e = end_more (after x.step b) xs e
