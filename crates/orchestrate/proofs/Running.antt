-- The loop of a run.
use Rattle.std.proofs.Common.{ℕ, ◌+◌, ◌≤◌, None, Some, List, [], ◌∷◌, ◌++◌, length, ◌≡◌, refl, sym, ap, ◌∙◌, subst, inl, inr, arith, append-nil, append_assoc, length-append}
use Rattle.smithy_types.specs.declared.kinds.StopPoint.{StopPoint}
use Rattle.smithy_types.specs.declared.payload.Payload.{Payload}
use Rattle.run_grammar.specs.declared.answer.Entry.{Entry}
use Rattle.run_grammar.specs.declared.answer.Answer.TheVariants.{NoMemory}
use Rattle.run_grammar.specs.Entry.{entry}
use Rattle.run_grammar.specs.Standing.{start}
use Rattle.run_grammar.specs.Laws.{IsWhole, Begins}
use Rattle.orchestrate.specs.declared.point.Point.{Point}
use Rattle.orchestrate.specs.declared.invocation.Invocation.{Invocation}
use Rattle.orchestrate.specs.declared.invocation.Step.TheVariants.{Asked, Ended}
use Rattle.orchestrate.specs.Stands.{Stands, Drove, Lost, LostAt, Progress, Ran, RunLost}
use Rattle.orchestrate.proofs.Standings.{stands_whole, stands_begins_run, not_whole}

pub progress_start : (p : Payload) (stop : StopPoint) (v : Invocation) (before : List Entry) → v.stop ≡ stop → Stands (start p) [] v → Progress p stop v before before 0
progress_start p stop v before e w = record { list = []; grown = sym (append-nil before); counted = refl; stands = w; same = e }

pub progress_more : (p : Payload) (stop : StopPoint) (v w : Invocation) (before log more : List Entry) (n : ℕ) → Progress p stop v before log n → Drove Asked v w log more →
    Progress p stop w before more (n + 1)
progress_more p stop v w before log more n q (e, g, i, h) = record {
  list = q.list ++ e ∷ [];
  grown = g ∙ ap (λ m. m ++ e ∷ []) q.grown ∙ append_assoc before q.list (e ∷ []);
  counted = length-append q.list (e ∷ []) ∙ ap (λ k. k + 1) q.counted;
  stands = (h (start p) q.list q.stands).1;
  same = i ∙ q.same;
}

pub ran_over : (p : Payload) (stop : StopPoint) (fuel : ℕ) (v w : Invocation) (before log more : List Entry) (n : ℕ) → n ≤ fuel → Progress p stop v before log n → Drove Ended v w log more →
    Ran p stop fuel (Some w.standing) before more
ran_over p stop fuel v w before log more n le q (same, g, h) =
    (q.list, g ∙ q.grown, subst (λ k. k ≤ fuel) (sym q.counted) le, subst (λ t. IsWhole t (start p) q.list) q.same (h (start p) q.list q.stands), ap (λ u. u.standing) same ∙ q.stands.context)

pub ran_whole : (p : Payload) (stop : StopPoint) (fuel : ℕ) (v : Invocation) (before log : List Entry) → v.stage.place.point ≡ None → Progress p stop v before log fuel →
    Ran p stop fuel (Some v.standing) before log
ran_whole p stop fuel v before log h q =
    (q.list, q.grown, omega (arith, q.counted), subst (λ t. IsWhole t (start p) q.list) q.same (stands_whole (start p) q.list v h q.stands), q.stands.context)

pub ran_unfinished : (p : Payload) (stop : StopPoint) (fuel : ℕ) (v : Invocation) (o : Point) (before log : List Entry) → v.stage.place.point ≡ Some o → Progress p stop v before log fuel →
    Ran p stop fuel None before log
ran_unfinished p stop fuel v o before log h q = (
  q.list,
  q.grown,
  q.counted,
  subst (λ t. Begins t (start p) q.list) q.same (stands_begins_run (start p) q.list v q.stands),
  λ i. not_whole (start p) q.list v o h q.stands (subst (λ t. IsWhole t (start p) q.list) (sym q.same) i),
)

-- where memory runs out with nothing asked for it, the calls so far begin a run
pub progress_lost : (p : Payload) (stop : StopPoint) (fuel : ℕ) (v : Invocation) (before log : List Entry) (n : ℕ) → n ≤ fuel → Progress p stop v before log n → RunLost p stop fuel before log
progress_lost p stop fuel v before log n le q =
    (q.list, q.grown, omega (arith, q.counted), inl (subst (λ t. Begins t (start p) q.list) q.same (stands_begins_run (start p) q.list v q.stands)))

lost_by : (p : Payload) (stop : StopPoint) (fuel : ℕ) (before log more m : List Entry) (n : ℕ) → n + 1 ≤ fuel → log ≡ before ++ m → length m ≡ n → Begins stop (start p) m →
    LostAt stop (start p) m log more → RunLost p stop fuel before more
lost_by p stop fuel before log more m n le e c b (inl h) = (m, h ∙ e, omega (arith, c), inl b)
lost_by p stop fuel before log more m n le e c b (inr (inl (q, h, k))) = (
  m ++ entry q NoMemory ∷ [],
  h ∙ ap (λ x. x ++ entry q NoMemory ∷ []) e ∙ append_assoc before m (entry q NoMemory ∷ []),
  omega (arith, c, length-append m (entry q NoMemory ∷ [])),
  inr (m, q, refl, b, k),
)
lost_by p stop fuel before log more m n le e c b (inr (inr (x, h, k))) =
    (m ++ x ∷ [], h ∙ ap (λ y. y ++ x ∷ []) e ∙ append_assoc before m (x ∷ []), omega (arith, c, length-append m (x ∷ [])), inl k)

pub run_lost : (p : Payload) (stop : StopPoint) (fuel : ℕ) (v w : Invocation) (before log more : List Entry) (n : ℕ) → n + 1 ≤ fuel → Progress p stop v before log n → Lost v w log more →
    RunLost p stop fuel before more
run_lost p stop fuel v w before log more n le q (i, h) =
    lost_by p stop fuel before log more q.list n le q.grown q.counted (subst (λ t. Begins t (start p) q.list) q.same (stands_begins_run (start p) q.list v q.stands))
    (subst (λ t. LostAt t (start p) q.list log more) q.same (h (start p) q.list q.stands))
