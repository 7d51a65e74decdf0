-- One moment more is noted.
use Rattle.std.proofs.Common.{◌≡◌, ◌∙◌, ◌<◌, ℕ, zero, suc, List, [], ◌∷◌, ◌++◌, length, refl, sym, ap, subst, append_assoc, arith}
use Rattle.std.specs.Prelude.{slice_set}
use Rattle.std.specs.List.{insert, remove}
use Rattle.orchestrate.specs.Handing.{HandedOn}
use Rattle.run_grammar.specs.declared.answer.Entry.{Entry}
use Rattle.cli_client_runs.specs.Noted.{Noted, Steps, noted_nothing}

module _ {W : Type 0} (relates : W → List Entry → W → Type 0) (clock : W → ℕ) where
  steps_more : (old mid new : W) (es : List Entry) (ms : List ℕ) (e : Entry) (m : ℕ) → Steps relates clock old es ms mid → relates mid (e ∷ []) new → m ≡ clock new
      → Steps relates clock old (es ++ e ∷ []) (ms ++ m ∷ []) new
  steps_more old mid new [] [] e m h r c = (new, subst (λ w. relates w (e ∷ []) new) h r, c, refl)
  steps_more old mid new (x ∷ es) (y ∷ ms) e m (w, s, k, h) r c = (w, s, k, steps_more w mid new es ms e m h r c)
  steps_more old mid new [] (y ∷ ms) e m h r c = absurd h
  steps_more old mid new (x ∷ es) [] e m h r c = absurd h

  pub noted_more : (old mid new : W) (before between after : List ℕ) (log : List Entry) (e : Entry) (m : ℕ) → Noted relates clock old before log mid between
      → relates old (log ++ e ∷ []) new → relates mid (e ∷ []) new → m ≡ clock new → after ≡ between ++ m ∷ [] → Noted relates clock old before (log ++ e ∷ []) new after
  noted_more old mid new before between after log e m h served r c g = record {
    served = served;
    moments = h.moments ++ m ∷ [];
    grown = g ∙ ap (λ l. l ++ m ∷ []) h.grown ∙ append_assoc before h.moments (m ∷ []);
    steps = steps_more old mid new log h.moments e m h.steps r c;
  }

-- what a run hands on from an empty log is its whole log
pub handed_whole : {W : Type 0} (relates : W → List Entry → W → Type 0) (old new : W) (before after log : List Entry)
    → HandedOn relates old new before after → before ≡ [] → log ≡ after → relates old [] old → relates old log new
handed_whole relates old new before after log (m, e, f) b l r = subst (λ x. relates old x new) (sym (l ∙ e ∙ ap (λ x. x ++ m) b)) (f old [] r)

-- an element that was taken out and another that was put in its place
pub put_back : {X : Type 0} (xs : List X) (i : ℕ) (y : X) → i < length xs → insert (remove xs i) i y ≡ slice_set xs i y
put_back [] i y h = absurd (omega arith)
put_back (x ∷ xs) zero y h = refl
put_back (x ∷ xs) (suc i) y h = ap (λ l. x ∷ l) (put_back xs i y (omega arith))
