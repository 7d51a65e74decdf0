-- Names in a set.
use Rattle.std.proofs.Common.{◌≡◌, List, [], ◌∷◌, ◌++◌, map, Bool, ◌||◌, nat_eq, ℕ, refl, ap, String, string_bytes}
use Rattle.std.specs.declared.alloc.Global.{Global}
use Rattle.std.specs.Cmp.Lexicographic.{pointwise}
use Rattle.std.specs.List.{list_any}

pub any_seen : (n : List ℕ) (seen : List (String Global)) → list_any (λ k. pointwise nat_eq n (string_bytes k)) seen ≡ list_any (pointwise nat_eq n) (map string_bytes seen)
any_seen n [] = refl
any_seen n (k ∷ ks) = ap (λ (b : Bool). pointwise nat_eq n (string_bytes k) || b) (any_seen n ks)

pub map-push : (seen : List (String Global)) (k : String Global) → map string_bytes (seen ++ k ∷ []) ≡ map string_bytes seen ++ string_bytes k ∷ []
map-push [] k = refl
map-push (s ∷ seen) k = ap (λ (l : List (List ℕ)). string_bytes s ∷ l) (map-push seen k)

pub ruleset seen_names = (any_seen, map-push)
