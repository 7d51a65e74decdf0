-- A pass that can make calls still can after a call, a look, a split and a join.
use Rattle.std.proofs.Common.{◌≡◌, sym, ap, subst, refl, ℕ, ◌<◌, ◌≤◌, Bool, true, false, nat_le, if◌then◌else◌, List, [], ◌∷◌, ◌++◌, length, arith, length-append}
use mathlib.Core.List.{IsPrefix}
use Rattle.retry_quota_cell.specs.View.{Opening, View}
use Rattle.retry_quota.specs.History.{Step, Reply, Entry}
use Rattle.retry_quota_cell.specs.Rule.{entry, opened, told, longer, united, looked, entered, with_parts, Looks, Adds}
use Rattle.retry_quota_cell.specs.Known.{AreBelow, IsWorking}

pub prefix_length : (xs ys : List Entry) → IsPrefix xs ys → length xs ≤ length ys
prefix_length xs ys p = omega (arith, ap length p.1, length-append xs p.0)

pub below_more : (n m : ℕ) (ps : List ℕ) → n ≤ m → AreBelow n ps → AreBelow m ps
below_more n m [] le b = tt
below_more n m (p ∷ ps) le b = (let h = b.0 in omega arith, below_more n m ps le b.1)

pub below_both : (n : ℕ) (ps qs : List ℕ) → AreBelow n ps → AreBelow n qs → AreBelow n (ps ++ qs)
below_both n [] qs a b = b
below_both n (p ∷ ps) qs a b = (a.0, below_both n ps qs a.1 b)

-- what the view is after a call, works
entered_works : (v : View) (before : List Entry) (e : Entry) → IsPrefix v.seen before → IsWorking v → IsWorking (entered v (before ++ e ∷ []) (length before))
entered_works v before e grown k =
    let more = prefix_length v.seen before grown in
    let next = length-append before (e ∷ []) in
    record {
      live = k.live;
      some_part = k.some_part;
      few = k.few;
      below = below_both (length (before ++ e ∷ [])) v.places (length before ∷ []) (below_more (length v.seen) (length (before ++ e ∷ [])) v.places (omega arith) k.below) ((omega arith, tt));
    }

pub adds_works : (step : Step) (v : View) (reply : Reply) (w : View) → Adds step v reply w → IsWorking v → IsWorking w
adds_works step v reply w a k = subst IsWorking (sym a.same) (entered_works v a.before (entry step reply) a.grown k)

looked_works : (v : View) (log : List Entry) → IsPrefix v.seen log → IsWorking v → IsWorking (looked v log)
looked_works v log grown k = record {
  live = k.live;
  some_part = k.some_part;
  few = k.few;
  below = below_more (length v.seen) (length log) v.places (prefix_length v.seen log grown) k.below;
}

pub looks_works : (v : View) (words : List ℕ) (w : View) → Looks v words w → IsWorking v → IsWorking w
looks_works v words w s k = subst IsWorking (sym s.same) (looked_works v w.seen s.grown k)

pub opened_works : (o : Opening) → 0 < o.callers → o.callers ≤ 16 → IsWorking (opened o)
opened_works o some few = record { live = refl; some_part = some; few = few; below = tt }

pub parts_work : (v : View) (n : ℕ) → 0 < n → IsWorking v → IsWorking (with_parts v n)
parts_work v n some k = record { live = k.live; some_part = some; few = k.few; below = k.below }

pub told_works : (v : View) (n : ℕ) → 0 < n → IsWorking v → IsWorking (with_parts (told v) n)
told_works v n some k = record { live = k.live; some_part = some; few = k.few; below = tt }

holds_if : {X : Type 0} → (P : X → Type 0) (t : Bool) (x y : X) → (t ≡ true → P x) → (t ≡ false → P y) → P (if t then x else y)
holds_if P true x y first second = first refl
holds_if P false x y first second = second refl

longer_left : (xs ys : List Entry) → length xs ≤ length (longer xs ys)
longer_left xs ys = holds_if (λ l. length xs ≤ length l) (nat_le (length ys) (length xs)) xs ys (λ t. omega arith) (λ t. grind (arith, t))

longer_right : (xs ys : List Entry) → length ys ≤ length (longer xs ys)
longer_right xs ys = holds_if (λ l. length ys ≤ length l) (nat_le (length ys) (length xs)) xs ys (λ t. grind (arith, t)) (λ t. omega arith)

pub united_works : (v w : View) → IsWorking v → IsWorking w → IsWorking (united v w)
united_works v w k l =
    let n = length (longer v.seen w.seen) in
    let some = k.some_part in
    record {
      live = k.live;
      some_part = omega arith;
      few = k.few;
      below = below_both n v.places w.places (below_more (length v.seen) n v.places (longer_left v.seen w.seen) k.below) (below_more (length w.seen) n w.places (longer_right v.seen w.seen) l.below);
    }
