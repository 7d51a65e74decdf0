use Rattle.std.proofs.Common.{◌≡◌, ◌∙◌, ◌<◌, sym, ap, subst, arith, List, [], ◌∷◌, ◌++◌, map, vec_len}
use Rattle.std.proofs.lemmas.Bool.{eqb-true, eqb-false}
use Rattle.retry_quota_cell.specs.View.{View}
use Rattle.retry_quota_cell.specs.Fleet.{Each}
use Rattle.retry_quota_cell.specs.Met.{Met}
use Rattle.retry_quota_cell.proofs.Meets.{each_length, each_snoc, map_snoc, met_more, met_one, no_items}
use Rattle.retry_quota_cell.proofs.fleet.+fn-gather-join+arg3+gather.Goals as goal

pub returns-then-is_empty-clause-met : goal.returns-then-is_empty-clause-met
returns-then-is_empty-clause-met g t c =
    let made = g.C.Caller.made in
    let rest = c.pop.new.self in
    let v = c.args.pass.view in
    let w = c.run-last.result.1.view in
    let x = c.run-last.result.0 in
    let zero : vec_len rest ≡ 0 = eqb-true _ _ (sym c.is_empty.ensures ∙ c.if-is_empty.true) in
    let none : rest.items ≡ [] = no_items rest.items (sym rest.ok.0 ∙ zero) in
    let pop = c.in-Some.ensures.len in
    let parts = c.requires.parts in
    let one : v.parts ≡ 1 = omega arith in
    let opening = c.run-last.ensures.own.opening ∙ sym c.requires.own.opening in
    let items = c.push_reserved.ensures.items ∙ ap (λ (l : List _). l ++ x ∷ []) none in
    subst (λ (l : List _). Met (map made l) v w) (sym items) (met_one (made x) v w opening one c.run-last.ensures.made)

pub push_reserved-requires-2 : goal.push_reserved-requires-2
push_reserved-requires-2 g t c =
    let rest = c.pop.new.self in
    let done = c.join-last.result.1.0 in
    let ends = c.join-last.ensures.second in
    let same = each_length (g.C.Caller.ends c.args.bucket.now) rest.items done.items ends.0 in
    let room = ends.1 in
    let pop = c.in-Some.ensures.len in
    let kept = c.in-Some.ensures.capacity in
    let fits = c.args.callers.ok.1 in
    let mine = rest.ok.0 in
    let theirs = done.ok.0 in
    omega arith

pub returns-clause-ends : goal.returns-clause-ends
returns-clause-ends g t c =
    let ends = g.C.Caller.ends c.args.bucket.now in
    let rest = c.pop.new.self in
    let last = c.in-Some.last in
    let done = c.join-last.result.1.0 in
    let x = c.join-last.result.0.0 in
    let both = each_snoc ends rest.items done.items last x c.join-last.ensures.second.0 c.join-last.ensures.first.0 in
    subst (λ (l : List _). Each ends l c.push_reserved-2.new.self.items) (sym c.in-Some.ensures.items) (subst (λ (l : List _). Each ends (rest.items ++ last ∷ []) l) (sym c.push_reserved-2.ensures.items) both)

pub returns-clause-met : goal.returns-clause-met
returns-clause-met g t c =
    let made = g.C.Caller.made in
    let v = c.args.pass.view in
    let done = c.join-last.result.1.0 in
    let x = c.join-last.result.0.0 in
    let a = c.join-last.result.0.1.view in
    let b = c.join-last.result.1.1.view in
    let some = eqb-false _ _ (sym c.is_empty.ensures ∙ c.if-is_empty.false) in
    let pop = c.in-Some.ensures.len in
    let parts = c.requires.parts in
    let more : 1 < v.parts = omega arith in
    let all = map made done.items in
    let met = subst (λ (u : View). Met all u b) c.split-other.ensures.kept c.join-last.ensures.second.3 in
    let joined = met_more all (made x) v b a more met c.join-last.ensures.first.2 in
    let items = ap (map made) c.push_reserved-2.ensures.items ∙ map_snoc made done.items x in
    subst (λ (u : View). Met (map made c.push_reserved-2.new.self.items) v u) (sym c.join.ensures.both) (subst (λ (l : List (List _)). Met l v (Rattle.retry_quota_cell.specs.Rule.united b a)) (sym items) joined)
