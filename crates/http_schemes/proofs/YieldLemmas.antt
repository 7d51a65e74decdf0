-- A walk over the items of an iterator that writes what each item comes to.
use Rattle.std.proofs.Common.{◌≡◌, ◌++◌, ◌∷◌, [], ℕ, List, sym, ap, ◌∙◌, append_assoc, append-nil, flat_map, Option, None, Some}
use Rattle.std.proofs.lemmas.Iterator.{YieldsList}

module _ {S A B : Type 0} (steps : S → Option A → S → Type 0) (v : A → B) (f : B → List ℕ) where
  -- what is written and what is left come to the whole
  pub record IsWritten (before whole : List ℕ) (s : S) : Type 0 where
    pub left : List B
    pub yields : YieldsList steps v s left
    pub comes_to : before ++ flat_map f left ≡ whole

  pub written_more : (before after whole : List ℕ) (s t : S) (x : A) → IsWritten before whole s → steps s (Some x) t → after ≡ before ++ f (v x) → IsWritten after whole t
  written_more before after whole s t x w k made = by w.left w.yields w.comes_to
    where
      by : (left : List B) → YieldsList steps v s left → before ++ flat_map f left ≡ whole → IsWritten after whole t
      by [] y e = absurd (y.runs x t k)
      by (b ∷ left) y e =
          let m = y.runs.1 x t k in
          record {
            left = left;
            yields = record { runs = m.1 };
            comes_to = ap (λ w. w ++ flat_map f left) made ∙ append_assoc before (f (v x)) (flat_map f left) ∙ ap (λ b. before ++ (f b ++ flat_map f left)) m.0 ∙ e;
          }

  pub written_all : (before whole : List ℕ) (s t : S) → IsWritten before whole s → steps s None t → before ≡ whole
  written_all before whole s t w k = by w.left w.yields w.comes_to
    where
      by : (left : List B) → YieldsList steps v s left → before ++ flat_map f left ≡ whole → before ≡ whole
      by [] y e = sym (append-nil before) ∙ e
      by (b ∷ left) y e = absurd (y.runs.0 t k)
