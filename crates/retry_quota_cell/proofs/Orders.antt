-- The places of a pass's steps, and what it made since.
use Rattle.std.proofs.Common.{◌≡◌, ◌∙◌, sym, ap, subst, refl, ℕ, zero, suc, ◌<◌, ◌≤◌, List, [], ◌∷◌, ◌++◌, length, arith, length-append, append_assoc}
use mathlib.Core.List.{IsPrefix}
use Rattle.retry_quota.specs.History.{Step, Reply, Entry}
use Rattle.retry_quota_cell.specs.View.{View}
use Rattle.retry_quota_cell.specs.Rule.{entry, Adds, entered}
use Rattle.retry_quota_cell.specs.Known.{AreBelow}
use Rattle.retry_quota_cell.specs.Callers.{at_place, calls_at, own, RisesFrom, IsOrdered, HasMade, IsUnused}
use Rattle.retry_quota_cell.proofs.Lists.{prefix_trans}
use Rattle.retry_quota_cell.proofs.Works.{prefix_length, below_more, below_both}

-- calls at places of a beginning are those of the whole
at_front : (p : ℕ) (log more : List Entry) → p < length log → at_place p (log ++ more) ≡ at_place p log
at_front p [] more h = absurd (omega arith)
at_front zero (e ∷ es) more h = refl
at_front (suc p) (e ∷ es) more h = at_front p es more (omega arith)

calls_front : (ps : List ℕ) (log more : List Entry) → AreBelow (length log) ps → calls_at ps (log ++ more) ≡ calls_at ps log
calls_front [] log more b = refl
calls_front (p ∷ ps) log more b = λ i. at_front p log more b.0 i ++ calls_front ps log more b.1 i

pub calls_in : (ps : List ℕ) (log whole : List Entry) → AreBelow (length log) ps → IsPrefix log whole → calls_at ps whole ≡ calls_at ps log
calls_in ps log whole b p = ap (calls_at ps) (sym p.1) ∙ calls_front ps log p.0 b

at_end : (log : List Entry) (e : Entry) → at_place (length log) (log ++ e ∷ []) ≡ e ∷ []
at_end [] e = refl
at_end (x ∷ xs) e = at_end xs e

calls_both : (ps qs : List ℕ) (log : List Entry) → calls_at (ps ++ qs) log ≡ calls_at ps log ++ calls_at qs log
calls_both [] qs log = refl
calls_both (p ∷ ps) qs log = ap (λ l. at_place p log ++ l) (calls_both ps qs log) ∙ sym (append_assoc (at_place p log) (calls_at ps log) (calls_at qs log))

rises_snoc : (n : ℕ) (ps : List ℕ) (count : ℕ) → n ≤ count → AreBelow count ps → RisesFrom n ps → RisesFrom n (ps ++ count ∷ [])
rises_snoc n [] count le b r = (le, tt)
rises_snoc n (p ∷ ps) count le b r = (r.0, rises_snoc (suc p) ps count (let h = b.0 in omega arith) b.1 r.1)

entered_ordered : (v : View) (before : List Entry) (e : Entry) → IsPrefix v.seen before → IsOrdered v → IsOrdered (entered v (before ++ e ∷ []) (length before))
entered_ordered v before e grown o =
    let n = length before in
    let now = before ++ e ∷ [] in
    let next = length-append before (e ∷ []) in
    let known : AreBelow n v.places = below_more (length v.seen) n v.places (prefix_length v.seen before grown) o.1 in
    (rises_snoc 0 v.places n (omega arith) known o.0, below_both (length now) v.places (n ∷ []) (below_more n (length now) v.places (omega arith) known) ((omega arith, tt)))

entered_own : (v : View) (before : List Entry) (e : Entry) → IsPrefix v.seen before → IsOrdered v → own (entered v (before ++ e ∷ []) (length before)) ≡ own v ++ e ∷ []
entered_own v before e grown o =
    let n = length before in
    let now = before ++ e ∷ [] in
    let more : IsPrefix v.seen now = prefix_trans v.seen before now grown (e ∷ [], refl) in
    calls_both v.places (n ∷ []) now ∙ (λ i. calls_in v.places v.seen now o.1 more i ++ (at_end before e i ++ []))

-- a step more comes behind those before
pub ordered_more : (step : Step) (v : View) (reply : Reply) (w : View) → Adds step v reply w → IsOrdered v → IsOrdered w
ordered_more step v reply w a o = subst IsOrdered (sym a.same) (entered_ordered v a.before (entry step reply) a.grown o)

pub own_more : (step : Step) (v : View) (reply : Reply) (w : View) → Adds step v reply w → IsOrdered v → own w ≡ own v ++ entry step reply ∷ []
own_more step v reply w a o = ap own a.same ∙ entered_own v a.before (entry step reply) a.grown o

pub parts_same : (step : Step) (v : View) (reply : Reply) (w : View) → Adds step v reply w → w.parts ≡ v.parts
parts_same step v reply w a = ap (λ (u : View). u.parts) a.same

pub opening_same : (step : Step) (v : View) (reply : Reply) (w : View) → Adds step v reply w → w.opening ≡ v.opening
opening_same step v reply w a = ap (λ (u : View). u.opening) a.same

-- one step more of a caller
pub made_more : (steps : List Entry) (step : Step) (v : View) (reply : Reply) (w : View) → HasMade steps v → Adds step v reply w → HasMade (steps ++ entry step reply ∷ []) w
made_more steps step v reply w m a = record {
  one = parts_same step v reply w a ∙ m.one;
  ordered = ordered_more step v reply w a m.ordered;
  own_steps = own_more step v reply w a m.ordered ∙ ap (λ l. l ++ entry step reply ∷ []) m.own_steps;
}

pub unused_ordered : (v : View) → v.places ≡ [] → IsOrdered v
unused_ordered v none = subst (λ (l : List ℕ). RisesFrom 0 l × AreBelow (length v.seen) l) (sym none) ((tt, tt))

-- a caller that has made no step yet
pub made_none : (v : View) → IsUnused v → HasMade [] v
made_none v u = record { one = u.one; ordered = unused_ordered v u.unused; own_steps = ap (λ l. calls_at l v.seen) u.unused }
