-- Callers that join one after the other.
use Rattle.std.proofs.Common.{◌≡◌, ◌∙◌, sym, ap, subst, refl, inl, inr, ⊎_elim, ℕ, suc, ◌-◌, ◌<◌, List, [], ◌∷◌, ◌++◌, length, map, arith, append-nil, append_assoc}
use mathlib.Core.List.{IsPrefix}
use Rattle.retry_quota_cell.specs.View.{Opening, View}
use Rattle.smithy_types.specs.declared.sums.Sums.{Sums}
use Rattle.retry_quota.specs.History.{Entry, IsLegal}
use Rattle.retry_quota_cell.specs.Rule.{AreAll, AreBegun, united, with_parts}
use Rattle.retry_quota_cell.specs.Known.{Sees}
use Rattle.retry_quota_cell.specs.Callers.{HasMade}
use Rattle.retry_quota_cell.specs.Fleet.{Each, StandsAt, AreTheirs, all_of}
use Rattle.retry_quota_cell.specs.Met.{IsAmong, StoodAt, Met}
use Rattle.retry_quota_cell.proofs.Orders.{calls_in}

-- where a relation implies another, it does so along two lists
pub each_weaker : {A B : Type 0} → (R Q : A → B → Type 0) → ((x : A) (y : B) → R x y → Q x y) → (xs : List A) (ys : List B) → Each R xs ys → Each Q xs ys
each_weaker R Q f [] [] e = tt
each_weaker R Q f [] (y ∷ ys) e = absurd e
each_weaker R Q f (x ∷ xs) [] e = absurd e
each_weaker R Q f (x ∷ xs) (y ∷ ys) e = (f x y e.0, each_weaker R Q f xs ys e.1)

-- one more at the end of both
pub each_snoc : {A B : Type 0} → (R : A → B → Type 0) (xs : List A) (ys : List B) (x : A) (y : B) → Each R xs ys → R x y → Each R (xs ++ x ∷ []) (ys ++ y ∷ [])
each_snoc R [] [] x y e r = (r, tt)
each_snoc R [] (z ∷ ys) x y e r = absurd e
each_snoc R (z ∷ xs) [] x y e r = absurd e
each_snoc R (z ∷ xs) (t ∷ ys) x y e r = (e.0, each_snoc R xs ys x y e.1 r)

pub each_length : {A B : Type 0} → (R : A → B → Type 0) (xs : List A) (ys : List B) → Each R xs ys → length ys ≡ length xs
each_length R [] [] e = refl
each_length R [] (y ∷ ys) e = absurd e
each_length R (x ∷ xs) [] e = absurd e
each_length R (x ∷ xs) (y ∷ ys) e = ap suc (each_length R xs ys e.1)

pub map_snoc : {A B : Type 0} → (f : A → B) (xs : List A) (x : A) → map f (xs ++ x ∷ []) ≡ map f xs ++ f x ∷ []
map_snoc f [] x = refl
map_snoc f (y ∷ ys) x = ap (λ l. f y ∷ l) (map_snoc f ys x)

pub no_items : {A : Type 0} → (xs : List A) → length xs ≡ 0 → xs ≡ []
no_items [] e = refl
no_items (x ∷ xs) e = absurd (omega arith)

all_of-snoc : (pss : List (List ℕ)) (ps : List ℕ) → all_of (pss ++ ps ∷ []) ≡ all_of pss ++ ps
all_of-snoc [] ps = append-nil ps
all_of-snoc (qs ∷ pss) ps = ap (λ l. qs ++ l) (all_of-snoc pss ps) ∙ sym (append_assoc qs (all_of pss) ps)

among_more : (x : List Entry) (xs ys : List (List Entry)) → IsAmong x xs → IsAmong x (xs ++ ys)
among_more x [] ys a = absurd a
among_more x (z ∷ xs) ys (inl is) = inl is
among_more x (z ∷ xs) ys (inr a) = inr (among_more x xs ys a)

stood_wider : (known wider : List (List Entry)) → ((x : List Entry) → IsAmong x known → IsAmong x wider) → (steps : List Entry) (ps : List ℕ) → StoodAt known steps ps → StoodAt wider steps ps
stood_wider known wider more steps ps s = record { seen = s.seen; among = more s.seen s.among; rising = s.rising; below = s.below; own_steps = s.own_steps }

made_stood : (steps : List Entry) (w : View) (known : List (List Entry)) → IsAmong w.seen known → HasMade steps w → StoodAt known steps w.places
made_stood steps w known among m = record { seen = w.seen; among = among; rising = m.ordered.0; below = m.ordered.1; own_steps = m.own_steps }

-- no callers
pub met_none : (v : View) → v.places ≡ [] → Met [] v v
met_none v none = record { opening = refl; parts = refl; places = []; places_are = none; team = tt }

-- a caller alone
pub met_one : (steps : List Entry) (v w : View) → w.opening ≡ v.opening → v.parts ≡ 1 → HasMade steps w → Met (steps ∷ []) v w
met_one steps v w opening one m = record {
  opening = opening;
  parts = m.one ∙ sym one;
  places = w.places ∷ [];
  places_are = sym (append-nil w.places);
  team = (made_stood steps w (w.seen ∷ w.olds) (inl refl) m, tt);
}

-- callers that have all parts but one, and one more
pub met_more : (all : List (List Entry)) (steps : List Entry) (v b a : View) → 1 < v.parts → Met all (with_parts v (v.parts - 1)) b → HasMade steps a → Met (all ++ steps ∷ []) v (united b a)
met_more all steps v b a some m k =
    let known = (united b a).seen ∷ (united b a).olds in
    let p = k.one in
    let q = m.parts in
    let wider : (x : List Entry) → IsAmong x (b.seen ∷ b.olds) → IsAmong x known =
    λ x among. ⊎_elim (λ is. inr (inl is)) (λ there. inr (inr (inr (among_more x b.olds a.olds there)))) among in
    record {
      opening = m.opening;
      parts = omega arith;
      places = m.places ++ a.places ∷ [];
      places_are = ap (λ l. l ++ a.places) m.places_are ∙ sym (all_of-snoc m.places a.places);
      team = each_snoc (StoodAt known) all m.places steps a.places
          (each_weaker (StoodAt (b.seen ∷ b.olds)) (StoodAt known) (stood_wider (b.seen ∷ b.olds) known wider) all m.places m.team)
          (made_stood steps a known (inr (inr (inl refl))) k);
    }

begun_at : (x : List Entry) (xs : List (List Entry)) (log : List Entry) → IsAmong x xs → AreBegun xs log → IsPrefix x log
begun_at x [] log a b = absurd a
begun_at x (y ∷ ys) log (inl is) b = subst (λ l. IsPrefix l log) (sym is) b.0
begun_at x (y ∷ ys) log (inr a) b = begun_at x ys log a b.1

stands : (known : List (List Entry)) (log : List Entry) → AreBegun known log → (steps : List Entry) (ps : List ℕ) → StoodAt known steps ps → StandsAt log steps ps
stands known log b steps ps s = record { rising = s.rising; steps_are = calls_in ps s.seen log s.below (begun_at s.seen known log s.among b) ∙ s.own_steps }

-- once the joined pass has all parts and looks, the history is theirs
pub theirs : (all : List (List Entry)) (v u w : View) (sums : Sums) (count : ℕ) → v.parts ≡ v.opening.callers → Met all v u → Sees u sums count w → AreTheirs v.opening all w.seen
theirs all v u w sums count whole m s = record {
  legal = subst (λ (k : Opening). IsLegal k.book w.seen) m.opening s.legal;
  places = m.places;
  steps = each_weaker (StoodAt (u.seen ∷ u.olds)) (StandsAt w.seen) (stands (u.seen ∷ u.olds) w.seen ((s.grown, s.olds))) all m.places m.team;
  once = subst (λ l. AreAll l w.seen) m.places_are (s.whole (m.parts ∙ whole ∙ sym (ap (λ (k : Opening). k.callers) m.opening)));
}
