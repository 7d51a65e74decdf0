-- An invocation that stands at a list goes on to one that stands at the list and its entry.
use Rattle.std.proofs.Common.{Bool, true, false, cond, Option, None, Some, List, [], ◌∷◌, ◌++◌, ◌≡◌, ◌⊎◌, refl, sym, ap, ◌∙◌, subst, inl, inr, arith, append-nil}
use Rattle.run_grammar.specs.declared.kind.Role.{Role}
use Rattle.run_grammar.specs.declared.kind.Role.TheVariants.{Attempt, Operation}
use Rattle.run_grammar.specs.declared.kind.Kind.{Kind}
use Rattle.run_grammar.specs.declared.answer.Answer.{Answer}
use Rattle.run_grammar.specs.declared.standing.Standing.{Standing}
use Rattle.run_grammar.specs.declared.answer.Entry.{Entry}
use Rattle.smithy_types.specs.declared.kinds.StopPoint.{StopPoint}
use Rattle.orchestrate.specs.declared.stage.Armed.{Armed}
use Rattle.orchestrate.specs.declared.stage.Place.{Place}
use Rattle.orchestrate.specs.declared.point.Point.{Point}
use Rattle.orchestrate.specs.declared.stage.Waiting.{Waiting}
use Rattle.orchestrate.specs.declared.stage.Waiting.TheVariants.{NotWaiting, ForAttempt, ForOperation, ForPark, CutByAttempt, CutByOperation}
use Rattle.orchestrate.specs.declared.invocation.Invocation.{Invocation}
use Rattle.run_grammar.specs.Entry.{kind_of, pending, ready}
use Rattle.run_grammar.specs.Fits.{fits}
use Rattle.run_grammar.specs.declared.kind.Kind.TheVariants as kinds
use Rattle.smithy_types.specs.declared.payload.Payload.{Payload}
use Rattle.run_grammar.specs.Question.{kind_of_question, nanos_of}
use Rattle.run_grammar.specs.Change.{changed}
use Rattle.orchestrate.specs.Fresh.{fresh}
use Rattle.run_grammar.specs.Standing.{State, standing, step, start, asked, asks}
use Rattle.run_grammar.specs.Grammar.{run}
use Rattle.run_grammar.specs.Machine.{Position, Whole, Dead, Cutting, begin, next, after, Asks, cut}
use Rattle.run_grammar.specs.Machine.{Waiting as Waits}
use Rattle.orchestrate.specs.Points.{kind_at, left_at, scope_at, operation_scope, here, next_point, placed, asking_at}
use Rattle.orchestrate.specs.declared.invocation.Step.TheVariants.{Asked}
use Rattle.orchestrate.specs.Driving.{waiting_at, position_of, stage_position, asks_at, first_wait, stage, moved_at}
use Rattle.orchestrate.specs.Stands.{Drove, Stands, made, driven}
use Rattle.run_grammar.specs.Laws.{IsWhole, Begins}
use Rattle.run_grammar.proofs.Spots.{standing-append}
use Rattle.orchestrate.proofs.PointCases.{follows, waits_first, cut_by_attempt, cut_by_operation, left_is}
use Rattle.run_grammar.proofs.Paths.{handed_on, fits_on}
use Rattle.run_grammar.proofs.Going.{GoodAt, good_begin, good_after, wait_answer}
use Rattle.run_grammar.proofs.Closed.{closing_run, closed_run}
use Rattle.run_grammar.specs.Machine.{Accepts}
use Rattle.run_grammar.proofs.TheLaws.{run_accepted, whole_of, stands_begins, path_more}

asks_waiting : (stop : StopPoint) (m : Armed) (p : Point) (w : Waiting) → Asks (waiting_at stop m p w) (asks_at p w)
asks_waiting stop m p NotWaiting = refl
asks_waiting stop m p ForAttempt = refl
asks_waiting stop m p ForOperation = refl
asks_waiting stop m p ForPark = refl
asks_waiting stop m p CutByAttempt = refl
asks_waiting stop m p CutByOperation = refl

placed_point : (stop : StopPoint) (m : Armed) (o : Option Point) → asking_at stop m o ≡ position_of stop m o NotWaiting
placed_point stop m None = refl
placed_point stop m (Some p) = refl

placed_is : (stop : StopPoint) (q : Place) → placed stop q ≡ stage_position stop (stage q NotWaiting)
placed_is stop q = placed_point stop q.armed q.point

answered_moves : (b : Bool) (stop : StopPoint) (m : Armed) (p : Point) (s : State) → begin (left_at stop m p) s ≡ placed stop (next_point stop m p s) →
    cond b (Waits (kind_at p) (scope_at m p) (scope_at m p) (left_at stop m p)) (begin (left_at stop m p) s)
    ≡ stage_position stop (cond b (stage (here m p) (first_wait m p)) (stage (next_point stop m p s) NotWaiting))
answered_moves true stop m p s h = waits_first stop m p
answered_moves false stop m p s h = h ∙ placed_is stop (next_point stop m p s)

scope_left : (stop : StopPoint) (m : Armed) (p : Point) → Waits (kind_at p) (scope_at m p) (operation_scope m) (left_at stop m p) ≡ waiting_at stop m p (cond m.operation ForOperation ForPark)
scope_left stop m p = grind arith

waited_moves : (b c : Bool) (stop : StopPoint) (m : Armed) (p : Point) (d : Role) (ds : List Role) (w x : Waiting) → (b ≡ true) ⊎ ((b ≡ false) × (c ≡ true)) →
    Waits (kind_at p) (scope_at m p) ds (left_at stop m p) ≡ waiting_at stop m p w → Cutting (kind_at p) d (left_at stop m p) ≡ waiting_at stop m p x →
    cond b (Waits (kind_at p) (scope_at m p) ds (left_at stop m p)) (cond c (Cutting (kind_at p) d (left_at stop m p)) Dead) ≡ stage_position stop (stage (here m p) (cond b w x))
waited_moves true c stop m p d ds w x h e f = e
waited_moves false true stop m p d ds w x h e f = f
waited_moves false false stop m p d ds w x (inl h) e f = absurd (cc)
waited_moves false false stop m p d ds w x (inr h) e f = absurd (let g = h.1 in cc)

pub moves_stage : (stop : StopPoint) (m : Armed) (p : Point) (w : Waiting) (s : State) (e : Entry) → kind_of e ≡ asks_at p w → fits (kind_of e) e.answer ≡ true →
    GoodAt (waiting_at stop m p w) → next (waiting_at stop m p w) (step s e) e ≡ stage_position stop (moved_at stop m p w (step s e) e)
moves_stage stop m p NotWaiting s e k h g = answered_moves (pending e) stop m p (step s e) (follows stop m p s e k h)
moves_stage stop m p ForAttempt s e k h g =
    waited_moves (pending e) (ready e) stop m p Attempt (operation_scope m) (cond m.operation ForOperation ForPark) CutByAttempt (wait_answer e Attempt k h) (scope_left stop m p) refl
moves_stage stop m p ForOperation s e k h g = waited_moves (pending e) (ready e) stop m p Operation [] ForPark CutByOperation (wait_answer e Operation k h) refl refl
moves_stage stop m p ForPark s e k h g = refl
moves_stage stop m p CutByAttempt s e k h g = cut_by_attempt stop m p (step s e) (left_is (cut (left_at stop m p) Attempt) g.2)
moves_stage stop m p CutByOperation s e k h g = cut_by_operation stop m p (step s e) (left_is (cut (left_at stop m p) Operation) g.2) ∙ placed_is stop _

after_more : (l : List Entry) (e : Entry) (p : Position) (s : State) → after p s (l ++ e ∷ []) ≡ next (after p s l) (step (standing s l) e) e
after_more [] e p s = refl
after_more (x ∷ l) e p s = after_more l e (next p (step s x) x) (step s x)

step_is : (t : State) (c : Standing) (e : Entry) → c ≡ t.context → step t e ≡ record { context = changed (kind_of e) (nanos_of e.question) e.answer c; last = Some e }
unfolding step
step_is t c e h = ap (λ (d : Standing). let x : State = record { context = changed (kind_of e) (nanos_of e.question) e.answer d; last = Some e } in x) (sym h)

handed_is : (t : State) (c : Standing) (k : Kind) → c ≡ t.context → asks k c ≡ asked k t
unfolding asked
handed_is t c k h = ap (λ d. asks k d) h

-- a question of a kind is of that kind
pub asks_kind : (k : Kind) (c : Standing) → kind_of_question (asks k c) ≡ k
asks_kind (kinds.Configure w) c = refl
asks_kind (kinds.Hook h) c = refl
asks_kind kinds.Serialize c = refl
asks_kind kinds.Load c = refl
asks_kind kinds.Initial c = refl
asks_kind (kinds.Start r) c = refl
asks_kind (kinds.Wait r) c = refl
asks_kind kinds.Choose c = refl
asks_kind kinds.Endpoint c = refl
asks_kind kinds.Apply c = refl
asks_kind kinds.Sign c = refl
asks_kind kinds.Transmit c = refl
asks_kind kinds.Stream c = refl
asks_kind kinds.Body c = refl
asks_kind kinds.Deserialize c = refl
asks_kind kinds.Decide c = refl
asks_kind (kinds.Abandon x) c = refl
asks_kind kinds.Park c = refl

-- its position, where it has a point
position_there : (v : Invocation) (p : Point) → v.stage.place.point ≡ Some p → stage_position v.stop v.stage ≡ waiting_at v.stop v.stage.place.armed p v.stage.waiting
position_there v p h = ap (λ o. position_of v.stop v.stage.place.armed o v.stage.waiting) h

pub stands_on : (s : State) (l : List Entry) (v : Invocation) (p : Point) (a : Answer) → v.stage.place.point ≡ Some p → fits (asks_at p v.stage.waiting) a ≡ true →
    Stands s l v → Stands s (l ++ made v p a ∷ []) (driven v p a)
stands_on s l v p a h f w =
    let m = v.stage.place.armed in
    let k = asks_at p v.stage.waiting in
    let e = made v p a in
    let b = begin (run v.stop) s in
    let is : kind_of e ≡ k = asks_kind k v.standing in
    let fit : fits (kind_of e) e.answer ≡ true = subst (λ j. fits j a ≡ true) (sym is) f in
    let there : after b s l ≡ waiting_at v.stop m p v.stage.waiting = sym w.at ∙ position_there v p h in
    let good : GoodAt (waiting_at v.stop m p v.stage.waiting) =
    subst GoodAt there (good_after l b (good_begin (run v.stop) (closing_run v.stop) (closed_run v.stop) s) s w.path w.fitting) in
    let moved : next (waiting_at v.stop m p v.stage.waiting) (step (standing s l) e) e ≡ stage_position v.stop (moved_at v.stop m p v.stage.waiting (step (standing s l) e) e) =
    moves_stage v.stop m p v.stage.waiting (standing s l) e is fit good in
    let stepped = step_is (standing s l) v.standing e w.context in
    let handed : e.question ≡ asked (kind_of e) (standing s l) = handed_is (standing s l) v.standing k w.context ∙ ap (λ j. asked j (standing s l)) (sym is) in
    record {
      path = path_more l e b s w.path (subst (λ q. Asks q (kind_of e)) (sym there) (subst (λ j. Asks (waiting_at v.stop m p v.stage.waiting) j) (sym is) (asks_waiting v.stop m p v.stage.waiting)));
      handed = handed_on l (e ∷ []) s w.handed (handed, tt);
      fitting = fits_on l (e ∷ []) w.fitting (fit, tt);
      at = sym (after_more l e b s ∙ ap (λ q. next q (step (standing s l) e) e) there ∙ moved
          ∙ ap (λ t. stage_position v.stop (moved_at v.stop m p v.stage.waiting t e)) stepped);
      context = sym (ap (λ t. t.context) (standing-append l (e ∷ []) s ∙ stepped));
    }

pub stands_begins_run : (s : State) (l : List Entry) (v : Invocation) → Stands s l v → Begins v.stop s l
stands_begins_run s l v w =
    stands_begins v.stop s l (after (begin (run v.stop) s) s l) (record { path = w.path; handed = w.handed; fitting = w.fitting; at = refl })

pub stands_whole : (s : State) (l : List Entry) (v : Invocation) → v.stage.place.point ≡ None → Stands s l v → IsWhole v.stop s l
stands_whole s l v h w =
    let there : after (begin (run v.stop) s) s l ≡ Whole = sym w.at ∙ ap (λ o. position_of v.stop v.stage.place.armed o v.stage.waiting) h in
    subst (λ k. IsWhole v.stop s k) (append-nil l) (whole_of v.stop s l [] w.path w.handed w.fitting there tt tt)

pub start_stands : (p : Payload) (stop : StopPoint) → Stands (start p) [] (fresh p stop)
unfolding run
start_stands p stop = record { path = tt; handed = tt; fitting = tt; at = refl; context = refl }

pub never_whole : (stop : StopPoint) (m : Armed) (p : Point) (w : Waiting) → waiting_at stop m p w ≡ Whole → ⊥
never_whole stop m p NotWaiting h = cc
never_whole stop m p ForAttempt h = cc
never_whole stop m p ForOperation h = cc
never_whole stop m p ForPark h = cc
never_whole stop m p CutByAttempt h = cc
never_whole stop m p CutByOperation h = cc

accepted_after : (l : List Entry) (p : Position) (s : State) → Accepts p s l → after p s l ≡ Whole
accepted_after [] p s a = a
accepted_after (e ∷ l) p s a = accepted_after l (next p (step s e) e) (step s e) a.1

pub not_whole : (s : State) (l : List Entry) (v : Invocation) (p : Point) → v.stage.place.point ≡ Some p → Stands s l v → IsWhole v.stop s l → ⊥
not_whole s l v p h w i =
    let there : stage_position v.stop v.stage ≡ Whole = w.at ∙ accepted_after l (begin (run v.stop) s) s (run_accepted v.stop s l i.run) in
    never_whole v.stop v.stage.place.armed p v.stage.waiting (sym (ap (λ o. position_of v.stop v.stage.place.armed o v.stage.waiting) h) ∙ there)

pub drove : (v w : Invocation) (p : Point) (a : Answer) (before log : List Entry) → v.stage.place.point ≡ Some p →
    log ≡ before ++ made v p a ∷ [] → fits (asks_at p v.stage.waiting) a ≡ true → w ≡ driven v p a → Drove Asked v w before log
drove v w p a before log h g f i =
    subst (λ u. Drove Asked v u before log) (sym i) (made v p a, g, refl, λ s l z. ((λ k. not_whole s l v p h z k), stands_on s l v p a h f z))
