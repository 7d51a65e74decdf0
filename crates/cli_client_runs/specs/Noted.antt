-- Moments that are noted.
use Rattle.std.proofs.Common.{append-nil, sym}
use Rattle.std.specs.Prelude.{◌≡◌, ℕ, List, [], ◌∷◌, ◌++◌, refl}
use Rattle.run_grammar.specs.declared.answer.Entry.{Entry}

module _ {W : Type 0} (relates : W → List Entry → W → Type 0) (clock : W → ℕ) where
  -- each entry leads from one world to the next, at whose clock its moment stands
  abbrev pub Steps : W → List Entry → List ℕ → W → Type 0
  Steps old [] [] new = new ≡ old
  Steps old (e ∷ es) (m ∷ ms) new = (mid : W) × relates old (e ∷ []) mid × (m ≡ clock mid) × Steps mid es ms new
  Steps old [] (m ∷ ms) new = ⊥
  Steps old (e ∷ es) [] new = ⊥

  -- A moment was noted for each entry, behind those that stood there.
  pub record Noted (old : W) (before : List ℕ) (log : List Entry) (new : W) (after : List ℕ) : Type 0 where
    pub served : relates old log new
    pub moments : List ℕ
    pub grown : after ≡ before ++ moments
    pub steps : Steps old log moments new

  pub noted_nothing : (w : W) (before : List ℕ) → relates w [] w → Noted w before [] w before
  noted_nothing w before none = record { served = none; moments = []; grown = sym (append-nil before); steps = refl }
