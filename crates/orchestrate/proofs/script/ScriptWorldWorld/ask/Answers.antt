use Rattle.std.proofs.Common.{◌≡◌, true, ◌++◌, ◌∷◌, [], ap, sym, ◌∙◌, subst}
use Rattle.run_grammar.specs.Entry.{entry}
use Rattle.run_grammar.specs.Fits.{fits}
use Rattle.run_grammar.specs.Question.{kind_of_question}
use Rattle.orchestrate.specs.Script.{RepliesBy, left_by, next_of}
use Rattle.orchestrate.proofs.ScriptLemmas.{spelled_more}
use Rattle.orchestrate.proofs.script.ScriptWorldWorld.ask.Goals as goal

replied_by : (c : goal.After-answer) → RepliesBy (next_of c.self.inside.answers) c.kind-kind.result c.in_ok-noted.noted c.in_ok-noted.taken
replied_by c = subst (λ o. RepliesBy o c.kind-kind.result c.in_ok-noted.noted c.in_ok-noted.taken) c.peek.ensures c.in_ok-noted.ensures.replies

same : (c : goal.After-answer) → c.answer.result ≡ c.in_ok-noted.noted
same c = c.answer.ensures.answer c.in_ok-noted.noted (replied_by c)

pub returns-clause-told : goal.returns-clause-told
returns-clause-told c =
    c.in_ok-push.ensures.ok
    ∙ ap (λ w. w.log ++ entry c.args.question c.in_ok-noted.noted ∷ []) c.self.view_is
    ∙ ap (λ a. c.args.self.now.log ++ entry c.args.question a ∷ []) (sym (same c))

pub returns-clause-fitting : goal.returns-clause-fitting
returns-clause-fitting c =
    subst (λ a. fits (kind_of_question c.args.question) a ≡ true) (sym (same c)) (subst (λ k. fits k c.in_ok-noted.noted ≡ true) c.kind-kind.ensures c.in_ok-noted.ensures.fitting)

pub returns-clause-related : goal.returns-clause-related
returns-clause-related c = λ v l h.
    let p = subst (λ a. RepliesBy (next_of c.self.inside.answers) c.kind-kind.result a c.in_ok-noted.taken) (sym (same c)) (replied_by c) in
    let q = subst (λ k. RepliesBy (next_of c.self.inside.answers) k c.answer.result c.in_ok-noted.taken) c.kind-kind.ensures p in
    let r = subst (λ w. RepliesBy (next_of w.answers) (kind_of_question c.args.question) c.answer.result c.in_ok-noted.taken) c.self.view_is q in
    let e = c.answer.ensures.rest ∙ ap (λ w. left_by c.in_ok-noted.taken w.answers) c.self.view_is in
    spelled_more v.answers c.args.self.now.answers c.answer.new.self l (entry c.args.question c.answer.result) c.in_ok-noted.taken e h r
