-- A table's pairs, when a new key comes.
use Rattle.std.proofs.Common.{◌≡◌, ◌∙◌, ap, refl, Bool, true, false, if◌then◌else◌, cond, List, [], ◌∷◌, ◌++◌, Some, None}
use Rattle.std.specs.Map.{lookup}
use Rattle.indexmap.specs.IndexMap.{insert_entry}

-- a new key goes last
pub insert_entry-new : {K V : Type 0} → (eq : K → K → Bool) (k : K) (v : V) (es : List (K × V))
    → lookup (eq k) es ≡ None → insert_entry eq es k v ≡ es ++ (k, v) ∷ []
insert_entry-new eq k v [] none = refl
insert_entry-new {K} {V} eq k v (e ∷ es) none = by (eq k e.0) none (insert_entry-new eq k v es)
  where
    by : (t : Bool) → cond t (Some e.1) (lookup (eq k) es) ≡ None
        → (lookup (eq k) es ≡ None → insert_entry eq es k v ≡ es ++ (k, v) ∷ [])
        → (if t then (e.0, v) ∷ es else e ∷ insert_entry eq es k v) ≡ e ∷ (es ++ (k, v) ∷ [])
    by true some later = cc
    by false rest later = ap (λ xs. e ∷ xs) (later rest)

-- the new key has its value
pub lookup-new : {K V : Type 0} → (test : K → Bool) (k : K) (v : V) (es : List (K × V))
    → lookup test es ≡ None → test k ≡ true → lookup test (es ++ (k, v) ∷ []) ≡ Some v
lookup-new test k v [] none passes = ap (λ t. cond t (Some v) None) passes
lookup-new test k v (e ∷ es) none passes = by (test e.0) none (λ rest. lookup-new test k v es rest passes)
  where
    by : (t : Bool) → cond t (Some e.1) (lookup test es) ≡ None
        → (lookup test es ≡ None → lookup test (es ++ (k, v) ∷ []) ≡ Some v)
        → cond t (Some e.1) (lookup test (es ++ (k, v) ∷ [])) ≡ Some v
    by true some later = cc
    by false rest later = later rest

-- other keys have what they had
pub lookup-other : {K V : Type 0} → (test : K → Bool) (k : K) (v : V) (es : List (K × V))
    → test k ≡ false → lookup test (es ++ (k, v) ∷ []) ≡ lookup test es
lookup-other test k v [] fails = ap (λ t. cond t (Some v) None) fails
lookup-other test k v (e ∷ es) fails = ap (λ rest. cond (test e.0) (Some e.1) rest) (lookup-other test k v es fails)

-- a map that got a new key, against what the table was
pub table-new : {K V : Type 0} → (eq : K → K → Bool) (k : K) (v : V) (es old new : List (K × V))
    → es ≡ old → lookup (eq k) old ≡ None → new ≡ insert_entry eq es k v → new ≡ old ++ (k, v) ∷ []
table-new {K} {V} eq k v es old new same none inserted =
    let absent : lookup (eq k) es ≡ None = ap (λ (xs : List (K × V)). lookup (eq k) xs) same ∙ none in
    inserted ∙ (insert_entry-new eq k v es absent ∙ ap (λ (xs : List (K × V)). xs ++ (k, v) ∷ []) same)
