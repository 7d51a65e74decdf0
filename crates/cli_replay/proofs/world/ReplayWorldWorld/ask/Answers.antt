use Rattle.std.proofs.Common.{◌≡◌, suc, ◌+◌, true, ◌++◌, ◌∷◌, [], length, ap, sym, ◌∙◌, subst, add-one, length-append}
use Rattle.run_grammar.specs.Entry.{entry}
use Rattle.run_grammar.specs.Fits.{fits}
use Rattle.run_grammar.specs.Question.{kind_of_question}
use Rattle.orchestrate.specs.Script.{RepliesBy, left_by, next_of}
use Rattle.cli_replay.specs.Taking.{until_by}
use Rattle.cli_replay.proofs.Taken.{takes_more}
use Rattle.cli_replay.proofs.world.ReplayWorldWorld.ask.Goals as goal

replied_by : (c : goal.After-answer) → RepliesBy (next_of c.self.inside.answers) c.kind-kind.result c.in_ok-noted.noted c.in_ok-noted.taken
replied_by c = subst (λ o. RepliesBy o c.kind-kind.result c.in_ok-noted.noted c.in_ok-noted.taken) c.peek.ensures c.in_ok-noted.ensures.replies

same : (c : goal.After-answer) → c.answer.result ≡ c.in_ok-noted.noted
same c = c.answer.ensures.answer c.in_ok-noted.noted (replied_by c)

pub returns-clause-told : goal.returns-clause-told
returns-clause-told c =
    c.in_ok-push.ensures.ok
    ∙ ap (λ w. w.log ++ entry c.args.question c.in_ok-noted.noted ∷ []) c.self.view_is
    ∙ ap (λ a. c.args.self.now.log ++ entry c.args.question a ∷ []) (sym (same c))

pub returns-clause-fitting : goal.returns-clause-fitting
returns-clause-fitting c =
    subst (λ a. fits (kind_of_question c.args.question) a ≡ true) (sym (same c)) (subst (λ k. fits k c.in_ok-noted.noted ≡ true) c.kind-kind.ensures c.in_ok-noted.ensures.fitting)

pub returns-clause-related : goal.returns-clause-related
returns-clause-related c = λ v l h.
    let p = subst (λ a. RepliesBy (next_of c.self.inside.answers) c.kind-kind.result a c.in_ok-noted.taken) (sym (same c)) (replied_by c) in
    let q = subst (λ k. RepliesBy (next_of c.self.inside.answers) k c.answer.result c.in_ok-noted.taken) c.kind-kind.ensures p in
    let r = subst (λ w. RepliesBy (next_of w.answers) (kind_of_question c.args.question) c.answer.result c.in_ok-noted.taken) c.self.view_is q in
    let e = c.answer.ensures.rest ∙ ap (λ w. left_by c.in_ok-noted.taken w.answers) c.self.view_is in
    let grown = ap length c.in_ok-push.ensures.ok ∙ length-append c.self.inside.log (entry c.args.question c.in_ok-noted.noted ∷ []) ∙ add-one (length c.self.inside.log) ∙ ap (λ w. suc (length w.log)) c.self.view_is in
    let until = c.until_by-self-inside.ensures ∙ ap (λ k. until_by c.in_ok-noted.taken k c.self.inside.until) (c.len.ensures ∙ grown) ∙ ap (λ w. until_by c.in_ok-noted.taken (suc (length c.args.self.now.log)) w.until) c.self.view_is in
    takes_more v.answers c.args.self.now.answers c.answer.new.self l (entry c.args.question c.answer.result) c.in_ok-noted.taken (length v.log) v.until (length c.args.self.now.log) c.args.self.now.until _ _ e grown until h r
