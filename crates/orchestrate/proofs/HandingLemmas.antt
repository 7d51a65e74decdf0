-- The relation of a world, handed on.
use Rattle.std.proofs.Common.{List, [], ◌++◌, sym, ap, ◌∙◌, subst, append-nil, append_assoc}
use Rattle.run_grammar.specs.declared.answer.Entry.{Entry}
use Rattle.orchestrate.specs.Handing.{HandedOn}

module _ {W : Type 0} (relates : W → List Entry → W → Type 0) where
  pub handed_nothing : (v : W) (log : List Entry) → HandedOn relates v v log log
  handed_nothing v log = ([], sym (append-nil log), λ w l h. subst (λ m. relates w m v) (sym (append-nil l)) h)

  pub handed_more : (u v w : W) (before log more : List Entry) → HandedOn relates u v before log → HandedOn relates v w log more → HandedOn relates u w before more
  handed_more u v w before log more (a, e, f) (b, g, h) = (
    a ++ b,
    g ∙ ap (λ l. l ++ b) e ∙ append_assoc before a b,
    λ x l r. subst (λ m. relates x m w) (append_assoc l a b) (h x (l ++ a) (f x l r)),
  )
