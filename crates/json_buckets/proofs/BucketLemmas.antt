-- One bucket more is printed.
use Rattle.std.proofs.Common.{◌≡◌, ◌∙◌, ◌⊎◌, inl, inr, refl, sym, ap, ℕ, suc, ◌+◌, ◌<◌, ◌≤◌, List, [], ◌∷◌, ◌++◌, length, drop, drop-cons, get_or, append_assoc, append-nil, add-one}
use Rattle.std.proofs.lemmas.List.{drop_all}
use Rattle.std.proofs.lemmas.Option.{get_or_from_slice_get, slice_get_cases, slice_get_within}
use Rattle.std.specs.Prelude.{Option, None, Some, option_map, slice_get}
use Rattle.retry_quota.specs.Book.{Book, sums_of}
use Rattle.json_forms.specs.Lines.{line}
use Rattle.smithy_types.specs.declared.sums.Sums.{Sums}
use Rattle.json_buckets.specs.Buckets.{bucket_data, buckets_text}

pub buckets_nil : (n : ℕ) → buckets_text n [] ≡ []
unfolding buckets_text
buckets_nil n = refl

pub buckets_cons : (n : ℕ) (b : Book) (bs : List Book) → buckets_text n (b ∷ bs) ≡ line (bucket_data n (sums_of b)) ++ buckets_text (n + 1) bs
unfolding buckets_text
buckets_cons n b bs = refl

same_some : {X : Type 0} (x y : X) → Some x ≡ Some y → x ≡ y
same_some x y e = cc

-- the bucket of a number comes first of those from it on
first_of : (n : ℕ) (bs : List Book) (b : Book) → slice_get bs n ≡ Some b → drop n bs ≡ b ∷ drop (n + 1) bs
first_of n bs b e = drop-cons bs n b (slice_get_within bs n b e) ∙ ap (λ x. x ∷ drop (suc n) bs) (get_or_from_slice_get bs n b b e) ∙ ap (λ k. b ∷ drop k bs) (sym (add-one n))

module _ (n : ℕ) (bs : List Book) where
  text_at : (o : Option Book) (s : Sums) → slice_get bs n ≡ o → option_map sums_of o ≡ Some s
      → buckets_text n (drop n bs) ≡ line (bucket_data n s) ++ buckets_text (n + 1) (drop (n + 1) bs)
  text_at None s e h = absurd (cc)
  text_at (Some b) s e h = ap (buckets_text n) (first_of n bs b e) ∙ buckets_cons n b (drop (n + 1) bs)
      ∙ ap (λ t. line (bucket_data n t) ++ buckets_text (n + 1) (drop (n + 1) bs)) (same_some (sums_of b) s h)

  -- the line of a bucket that is there comes first
  pub text_here : (s : Sums) → option_map sums_of (slice_get bs n) ≡ Some s
      → buckets_text n (drop n bs) ≡ line (bucket_data n s) ++ buckets_text (n + 1) (drop (n + 1) bs)
  text_here s h = text_at (slice_get bs n) s refl h

  past : ((x : Book) × (n < length bs) × (slice_get bs n ≡ Some x) × (get_or bs n x ≡ x)) ⊎ ((length bs ≤ n) × (slice_get bs n ≡ None)) → slice_get bs n ≡ None → length bs ≤ n
  past (inl h) e = let f = sym e ∙ h.2 in absurd (cc)
  past (inr h) e = h.0

  none_at : (o : Option Book) → slice_get bs n ≡ o → option_map sums_of o ≡ None → buckets_text n (drop n bs) ≡ []
  none_at None e h = ap (buckets_text n) (drop_all n bs (past (slice_get_cases bs n).1 e)) ∙ buckets_nil n
  none_at (Some b) e h = absurd (cc)

  -- behind the last bucket nothing is printed
  pub text_end : option_map sums_of (slice_get bs n) ≡ None → buckets_text n (drop n bs) ≡ []
  text_end h = none_at (slice_get bs n) refl h

-- one bucket more is printed
pub more : (n m : ℕ) (bs : List Book) (s : Sums) (out new whole : List ℕ) → m ≡ n + 1 → new ≡ out ++ line (bucket_data n s) → option_map sums_of (slice_get bs n) ≡ Some s
    → out ++ buckets_text n (drop n bs) ≡ whole → new ++ buckets_text m (drop m bs) ≡ whole
more n m bs s out new whole e p h i = ap (λ k. new ++ buckets_text k (drop k bs)) e ∙ ap (λ x. x ++ buckets_text (n + 1) (drop (n + 1) bs)) p
    ∙ append_assoc out (line (bucket_data n s)) (buckets_text (n + 1) (drop (n + 1) bs)) ∙ ap (λ x. out ++ x) (sym (text_here n bs s h)) ∙ i

-- all buckets are printed
pub ended : (n : ℕ) (bs : List Book) (out whole : List ℕ) → option_map sums_of (slice_get bs n) ≡ None → out ++ buckets_text n (drop n bs) ≡ whole → out ≡ whole
ended n bs out whole h i = sym (append-nil out) ∙ ap (λ x. out ++ x) (sym (text_end n bs h)) ∙ i
