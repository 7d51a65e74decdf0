-- What a run over a client leaves, from an empty log on.
use Rattle.std.proofs.Common.{◌≡◌, ◌∙◌, sym, ap, subst, List, [], ◌++◌, Result, Ok, Err}
use Rattle.std.specs.Prelude.{OnErr}
use Rattle.orchestrate.specs.Handing.{HandedOn}
use Rattle.run_grammar.specs.declared.answer.Entry.{Entry}
use Rattle.json_print.specs.Endings.{Ends}
use Rattle.json_print.specs.declared.ending.Ending.{Ending}
use Rattle.json_print.specs.declared.head.RunHead.{RunHead}

-- the whole log is related
pub served_whole : {W : Type 0} (relates : W → List Entry → W → Type 0) (old new : W) (before after log : List Entry)
    → HandedOn relates old new before after → before ≡ [] → log ≡ after → relates old [] old → relates old log new
served_whole relates old new before after log (m, e, f) b l r = subst (λ x. relates old x new) (sym (l ∙ e ∙ ap (λ x. x ++ m) b)) (f old [] r)

-- the run begins with nothing
pub ended_whole : (h k : RunHead) (before after log : List Entry) (e : Ending) → h ≡ k → before ≡ [] → log ≡ after → Ends h before after e → Ends k [] log e
ended_whole h k before after log e same none whole r =
    subst (λ x. Ends k [] x e) (sym whole) (subst (λ x. Ends k x after e) none (subst (λ x. Ends x before after e) same r))

-- what is left at an error
pub at_err : {A E : Type 0} (result : Result A E) (P : Type 0) → P → OnErr result P
at_err (Ok a) P p = tt
at_err (Err e) P p = p
