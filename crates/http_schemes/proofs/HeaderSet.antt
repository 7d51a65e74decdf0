-- A header that is set.
use Rattle.std.proofs.Common.{◌≡◌, ◌≢◌, ◌∷◌, [], ℕ, suc, List, Bool, true, false, refl, ap, arith, subst, inl, inr, Option, None, Some, Result, Ok, Err, IfOk}
use Rattle.std.proofs.lemmas.Slice.Eq.{bytes_eq-Decides}
use Rattle.std.specs.Str.{bytes_eq}
use Rattle.http_header.specs.FieldName.{IsFieldName}
use Rattle.http_header.specs.FieldValue.{FieldValue, IsFieldValue}
use Rattle.http_header.specs.HeaderMap.{Entries, insert, ContainsKey, RefusesInsert}
use Rattle.http_header.specs.Token.{lowercase}
use Rattle.smithy_types.specs.HeaderList.{HeaderList}
use Rattle.http_schemes.specs.Signing.{Unless, with_header, RefusesHeader, secret_value}

module _ {X : Type 0} where
  -- a name that was set is there
  pub contains_inserted : (m : Entries X) (name : List ℕ) (value : X) → ContainsKey (insert m name value) name
  contains_inserted [] name value = (0, omega arith, refl)
  contains_inserted (e ∷ m) name value = here (bytes_eq e.0 name) refl (contains_inserted m name value)
    where
      here : (b : Bool) → bytes_eq e.0 name ≡ b → ContainsKey (insert m name value) name → ContainsKey (insert (e ∷ m) name value) name
      here true same later = rw same (0, omega arith, (bytes_eq-Decides e.0 name).0 same)
      here false other (k, within, is) = rw other (suc k, omega (arith, within), is)

  -- a value that is set twice is set once
  pub inserted_twice : (m : Entries X) (name : List ℕ) (value : X) → insert (insert m name value) name value ≡ insert m name value
  inserted_twice [] name value = rw ((bytes_eq-Decides name name).1 refl) refl
  inserted_twice (e ∷ m) name value = here (bytes_eq e.0 name) refl (inserted_twice m name value)
    where
      here : (b : Bool) → bytes_eq e.0 name ≡ b → insert (insert m name value) name value ≡ insert m name value → insert (insert (e ∷ m) name value) name value ≡ insert (e ∷ m) name value
      here true same later = rw (same, same) refl
      here false other later = rw (other, other) (ap (λ l. e ∷ l) later)

-- a list that can't be other than empty is empty
pub empty_unless : {X : Type 0} (xs : List X) → (xs ≢ [] → false ≡ true) → xs ≡ []
empty_unless [] h = refl
empty_unless (x ∷ xs) h = absurd (untrue (h (clash x xs)))
  where
    clash : {X : Type 0} (x : X) (xs : List X) → x ∷ xs ≡ [] → ⊥
    clash x xs e = cc

    untrue : false ≡ true → ⊥
    untrue e = cc

-- the name and the value are such, so all depends on the map
pub set_or_refused : {E : Type 0} (headers : HeaderList) (name value : List ℕ) (map : HeaderList) (lower : List ℕ) (field : FieldValue) (r : Result (Option HeaderList) E) → (lower ≡ lowercase name) × (¬ (¬ (IsFieldName name))) → (field ≡ secret_value value) × (¬ (¬ (IsFieldValue value))) → map ≡ headers → IfOk r (Unless (RefusesInsert map lower) (insert map lower field)) → IfOk r (Unless (RefusesHeader headers name value) (with_header headers name value))
set_or_refused headers name value map lower field r n v m h = by r (subst (λ x. IfOk r (Unless (RefusesInsert headers (lowercase name)) (insert headers (lowercase name) x))) v.0 (subst (λ x. IfOk r (Unless (RefusesInsert headers x) (insert headers x field))) n.0 (subst (λ x. IfOk r (Unless (RefusesInsert x lower) (insert x lower field))) m h)))
  where
    by : {E : Type 0} (r : Result (Option HeaderList) E) → IfOk r (Unless (RefusesInsert headers (lowercase name)) (insert headers (lowercase name) (secret_value value))) → IfOk r (Unless (RefusesHeader headers name value) (with_header headers name value))
    by (Ok None) refused = inr (inr refused)
    by (Ok (Some new)) (is, fits) = (is, λ refused. elim refused [ inl bad ↦ n.1 bad | inr other ↦ elim other [ inl worse ↦ v.1 worse | inr full ↦ fits full ] ])
    by (Err e) h = tt
