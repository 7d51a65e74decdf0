-- A run is one of the four cases.
use Rattle.run_grammar.specs.declared.production.Test.TheVariants as tests
use Rattle.std.proofs.Common.{Bool, true, false, cond, List, [], ◌∷◌, ◌++◌, ◌≡◌, ◌⊎◌, refl, sym, ap, ◌∙◌, subst, inl, inr, append_assoc, append-nil}
use Rattle.run_grammar.specs.declared.kind.Role.TheVariants.{Operation, Attempt, Send, LongPoll, Retry}
use Rattle.run_grammar.specs.declared.answer.Entry.{Entry}
use Rattle.smithy_types.specs.declared.kinds.StopPoint.{StopPoint}
use Rattle.run_grammar.specs.Standing.{State, standing}
use Rattle.run_grammar.specs.Production.{Production, Nothing, Work, ◌⨟◌, Where, Under, End, Ended, Further, CutBy}
use Rattle.run_grammar.specs.Words.{Word, ScopeEnds}
use Rattle.run_grammar.specs.declared.kind.Kind.TheVariants.{Configure}
use Rattle.smithy_types.specs.declared.hook.Hook.TheVariants.{ReadBeforeExecutionClient, ReadBeforeExecutionOperation}
use Rattle.run_grammar.specs.declared.kind.ConfigureStage.TheVariants as stages
use Rattle.run_grammar.specs.Grammar.{hook, arm, armed, configured, finish, op, settle, run}
use Rattle.run_grammar.specs.Tests.{failed, failure_stands, started}
use Rattle.run_grammar.specs.Laws.{IsRun}
use Rattle.run_grammar.specs.Cases.{AndThen, armed_after, OpThenFinish, CutOpThenFinish, RunCases}
use Rattle.run_grammar.proofs.Spots.{carry, carry_back, at_nil}
use Rattle.run_grammar.proofs.Up.{join}

abbrev pub Ends : Production → State → List Entry → Type 0
Ends p s l = Word p [] Ended s l

split : (p q : Production) (s : State) (l : List Entry) → Ends (p ⨟ q) s l → AndThen p s l (λ t m. Ends q t m)
split p q s l (inl v) = v
split p q s l (inr (h, v)) = absurd (cc)

-- what a production that stops where something failed, and else goes on with p, comes to
abbrev pub Halts : (Production → Production) → Production → State → List Entry → Type 0
Halts c p s l = (Ends (c Nothing) s l × (failed (standing s l) ≡ true)) ⊎ AndThen (c Nothing) s l (λ t m. (failed t ≡ false) × Ends p t m)

abbrev pub Halting : (Production → Production) → Type 0
Halting c = (p : Production) (s : State) (l : List Entry) → Ends (c p) s l → Halts c p s l

abbrev Halted : (Production → Production) → Type 0
Halted c = (p : Production) (s : State) (l : List Entry) → Halts c p s l → Ends (c p) s l

abbrev unless : (Production → Production) → Production → Production
unless c p = Where tests.Failed Nothing (c p)

where_true : (p q : Production) (s : State) (l : List Entry) → failed s ≡ true → Ends p s l → Ends (Where tests.Failed p q) s l
where_true p q s l h v = subst (λ b. cond b (Ends p s l) (Ends q s l)) (sym h) v

where_false : (p q : Production) (s : State) (l : List Entry) → failed s ≡ false → Ends q s l → Ends (Where tests.Failed p q) s l
where_false p q s l h v = subst (λ b. cond b (Ends p s l) (Ends q s l)) (sym h) v

nothing_here : (s : State) (l : List Entry) (b : Bool) → failed s ≡ b → l ≡ [] → failed (standing s l) ≡ b
nothing_here s l b h n = subst (λ m. failed (standing s m) ≡ b) (sym n) h

-- the base: where nothing failed, p
base_halting : Halting (λ p. Where tests.Failed Nothing p)
base_halting p s l w =
    (elim (failed s) as (λ b. failed s ≡ b → cond b (Ends Nothing s l) (Ends p s l) → Halts (λ q. Where tests.Failed Nothing q) p s l) [
      | true ↦ λ h v. inl (where_true Nothing Nothing s l h v, nothing_here s l true h v.1)
      | false ↦ λ h v. inr ([], l, refl, where_false Nothing Nothing s [] h (refl, refl), (h, v))
    ]) refl w

both_nothing : (s : State) (l : List Entry) → Ends (Where tests.Failed Nothing Nothing) s l → l ≡ []
both_nothing s l w =
    (elim (failed s) as (λ b. cond b (Ends Nothing s l) (Ends Nothing s l) → l ≡ []) [ true ↦ λ v. v.1 | false ↦ λ v. v.1 ]) w

base_halted : Halted (λ p. Where tests.Failed Nothing p)
base_halted p s l (inl (w, h)) =
    let n = both_nothing s l w in where_true Nothing p s l (subst (λ m. failed (standing s m) ≡ true) n h) (refl, n)
base_halted p s l (inr (a, b, e, w, (h, v))) =
    let n = both_nothing s a w in
    where_false Nothing p s l (subst (λ m. failed (standing s m) ≡ false) n h) (at_nil (λ t m. Ends p t m) s l a b e n v)

-- q, and then such a production
seq_halting : (q : Production) (c : Production → Production) → Halting c → Halting (λ p. q ⨟ c p)
seq_halting q c f p s l w =
    let (a, b, e, v, u) = split q (c p) s l w in
    elim (f p (standing s a) b u) [
      | inl (x, h) ↦ inl (inl (a, b, e, v, x), subst (λ m. failed (standing s m) ≡ true) (sym e) (carry_back (λ t m. failed t ≡ true) s a b [] h))
      | inr (b1, b2, g, x, (h, y)) ↦ inr (
        a ++ b1,
        b2,
        join l a b b1 b2 e g,
        inl (a, b1, refl, v, x),
        (carry_back (λ t m. failed t ≡ false) s a b1 [] h, carry_back (λ t m. Ends p t m) s a b1 b2 y),
      )
    ]

seq_halted : (q : Production) (c : Production → Production) → Halted c → Halted (λ p. q ⨟ c p)
seq_halted q c f p s l (inl (w, h)) =
    let (a, b, e, v, u) = split q (c Nothing) s l w in
    inl (a, b, e, v, f p (standing s a) b (inl (u, carry (λ t m. failed t ≡ true) s l a b [] e h)))
seq_halted q c f p s l (inr (a, b, e, w, (h, y))) =
    let (a1, a2, g, v, u) = split q (c Nothing) s a w in
    inl (
      a1,
      a2 ++ b,
      e ∙ ap (λ m. m ++ b) g ∙ append_assoc a1 a2 b,
      v,
      f p (standing s a1) (a2 ++ b) (inr (a2, b, refl, u, (carry (λ t m. failed t ≡ false) s a a1 a2 [] g h, carry (λ t m. Ends p t m) s a a1 a2 b g y))),
    )

-- where nothing failed, such a production
where_halting : (c : Production → Production) → Halting c → Halting (unless c)
where_halting c f p s l w =
    (elim (failed s) as (λ b. failed s ≡ b → cond b (Ends Nothing s l) (Ends (c p) s l) → Halts (unless c) p s l) [
      | true ↦ λ h v. inl (where_true Nothing (c Nothing) s l h v, nothing_here s l true h v.1)
      | false ↦ λ h v. elim (f p s l v) [
        | inl (x, g) ↦ inl (where_false Nothing (c Nothing) s l h x, g)
        | inr (a, b, e, x, y) ↦ inr (a, b, e, where_false Nothing (c Nothing) s a h x, y)
      ]
    ]) refl w

where_halted : (c : Production → Production) → Halted c → Halted (unless c)
where_halted c f p s l (inl (w, g)) =
    (elim (failed s) as (λ b. failed s ≡ b → cond b (Ends Nothing s l) (Ends (c Nothing) s l) → Ends (unless c p) s l) [
      | true ↦ λ h v. where_true Nothing (c p) s l h v
      | false ↦ λ h v. where_false Nothing (c p) s l h (f p s l (inl (v, g)))
    ]) refl w
where_halted c f p s l (inr (a, b, e, w, (g, y))) =
    (elim (failed s) as (λ b. failed s ≡ b → cond b (Ends Nothing s a) (Ends (c Nothing) s a) → Ends (unless c p) s l) [
      | true ↦ λ h v. absurd (let z : true ≡ false = sym h ∙ subst (λ m. failed (standing s m) ≡ false) v.1 g in cc)
      | false ↦ λ h v. where_false Nothing (c p) s l h (f p s l (inr (a, b, e, v, (g, y))))
    ]) refl w

abbrev base : Production → Production
base p = Where tests.Failed Nothing p

abbrev pub third : Production → Production
third p = hook ReadBeforeExecutionOperation ⨟ Work (Configure stages.Final) ⨟ Where tests.Failed Nothing p

abbrev pub second : Production → Production
second p = hook ReadBeforeExecutionClient ⨟ Work (Configure stages.Operation) ⨟ Where tests.Failed Nothing (third p)

third_halting : Halting third
third_halting = seq_halting (hook ReadBeforeExecutionOperation) (λ p. Work (Configure stages.Final) ⨟ base p) (seq_halting (Work (Configure stages.Final)) base base_halting)

third_halted : Halted third
third_halted = seq_halted (hook ReadBeforeExecutionOperation) (λ p. Work (Configure stages.Final) ⨟ base p) (seq_halted (Work (Configure stages.Final)) base base_halted)

second_halting : Halting second
second_halting =
    seq_halting (hook ReadBeforeExecutionClient) (λ p. Work (Configure stages.Operation) ⨟ unless third p)
    (seq_halting (Work (Configure stages.Operation)) (unless third) (where_halting third third_halting))

second_halted : Halted second
second_halted =
    seq_halted (hook ReadBeforeExecutionClient) (λ p. Work (Configure stages.Operation) ⨟ unless third p)
    (seq_halted (Work (Configure stages.Operation)) (unless third) (where_halted third third_halted))

pub config_halting : Halting configured
config_halting = seq_halting (Work (Configure stages.Client)) (unless second) (where_halting second second_halting)

config_halted : Halted configured
config_halted = seq_halted (Work (Configure stages.Client)) (unless second) (where_halted second second_halted)

abbrev scoped : StopPoint → Production
scoped stop = Where (tests.HasStarted Operation) (Under Operation (op stop) settle) (op stop)

abbrev pub body : StopPoint → Production
body stop = Where tests.FailureStands (arm Operation ⨟ finish) (armed Operation (op stop) settle ⨟ finish)

-- what follows Arm(Operation)
abbrev Tail : StopPoint → State → List Entry → Type 0
Tail stop u n = OpThenFinish stop u n ⊎ CutOpThenFinish stop u n

op_armed : (stop : StopPoint) (u : State) (c : List Entry) (b : Bool) → started Operation u ≡ b → Word (op stop) (cond b (Operation ∷ []) []) Ended u c → Word (op stop) (armed_after u) Ended u c
op_armed stop u c b h v = subst (λ k. Word (op stop) (cond k (Operation ∷ []) []) Ended u c) (sym h) v

scope_cut : (inside : Bool) (t : State) (d : List Entry) → cond inside (Ends settle t d) ((Ended ≡ Ended) × (d ≡ [])) → Ends (cond inside settle Nothing) t d
scope_cut true t d v = v
scope_cut false t d v = v

cut_scope : (inside : Bool) (t : State) (d : List Entry) → Ends (cond inside settle Nothing) t d → cond inside (Ends settle t d) ((Ended ≡ Ended) × (d ≡ []))
cut_scope true t d v = v
cut_scope false t d v = v

scope_down : (stop : StopPoint) (u : State) (c d b : List Entry) (y : End) → started Operation u ≡ true → Word (op stop) (Operation ∷ []) y u c →
    ScopeEnds Operation (λ z m. Word settle [] z (standing u c) m) y Ended d → Ends finish (standing (standing u c) d) b → Tail stop u (c ++ (d ++ b))
scope_down stop u c d b Ended h v z f =
    inl (c, b, ap (λ m. c ++ m) (ap (λ m. m ++ b) z.1), op_armed stop u c true h v, subst (λ m. Ends finish (standing (standing u c) m) b) z.1 f)
scope_down stop u c d b Further h v z f = absurd (let e = z.0 in cc)
scope_down stop u c d b (CutBy Operation i) h v z f = inr (h, i, c, d ++ b, refl, v, (d, b, refl, scope_cut i (standing u c) d z, f))
scope_down stop u c d b (CutBy Attempt i) h v z f = absurd (let e = z.0 in cc)
scope_down stop u c d b (CutBy Send i) h v z f = absurd (let e = z.0 in cc)
scope_down stop u c d b (CutBy Retry i) h v z f = absurd (let e = z.0 in cc)
scope_down stop u c d b (CutBy LongPoll i) h v z f = absurd (let e = z.0 in cc)

tail_true : (stop : StopPoint) (u : State) (a b : List Entry) → started Operation u ≡ true → Ends (Under Operation (op stop) settle) u a → Ends finish (standing u a) b → Tail stop u (a ++ b)
tail_true stop u a b h (c, d, y, e, v, z) f =
    subst (λ m. Tail stop u m) (sym (append_assoc c d b) ∙ ap (λ m. m ++ b) (sym e))
    (scope_down stop u c d b y h v z (carry (λ t m. Ends finish t m) u a c d b e f))

tail_down : (stop : StopPoint) (u : State) (a b : List Entry) → Ends (scoped stop) u a → Ends finish (standing u a) b → Tail stop u (a ++ b)
tail_down stop u a b w f =
    (elim (started Operation u) as (λ k. started Operation u ≡ k → cond k (Ends (Under Operation (op stop) settle) u a) (Ends (op stop) u a) → Tail stop u (a ++ b)) [
      | true ↦ λ h v. tail_true stop u a b h v f
      | false ↦ λ h v. inl (a, b, refl, op_armed stop u a false h v, f)
    ]) refl w

body_down : (stop : StopPoint) (t : State) (m : List Entry) → Ends (armed Operation (op stop) settle ⨟ finish) t m → AndThen (arm Operation) t m (λ u n. Tail stop u n)
body_down stop t m w =
    let (a, b, e, v, f) = split (armed Operation (op stop) settle) finish t m w in
    let (a1, a2, g, x, z) = split (arm Operation) (scoped stop) t a v in
    (a1, a2 ++ b, e ∙ ap (λ k. k ++ b) g ∙ append_assoc a1 a2 b, x, tail_down stop (standing t a1) a2 b z (carry (λ u k. Ends finish u k) t a a1 a2 b g f))

scoped_true : (stop : StopPoint) (u : State) (a : List Entry) → started Operation u ≡ true → Ends (Under Operation (op stop) settle) u a → Ends (scoped stop) u a
scoped_true stop u a h v = subst (λ k. cond k (Ends (Under Operation (op stop) settle) u a) (Ends (op stop) u a)) (sym h) v

scoped_op : (stop : StopPoint) (u : State) (c : List Entry) → Word (op stop) (armed_after u) Ended u c → Ends (scoped stop) u c
scoped_op stop u c w =
    (elim (started Operation u) as (λ k. Word (op stop) (cond k (Operation ∷ []) []) Ended u c → cond k (Ends (Under Operation (op stop) settle) u c) (Ends (op stop) u c))
    [ true ↦ λ v. (c, [], Ended, sym (append-nil c), v, (refl, refl)) | false ↦ λ v. v ]) w

tail_up : (stop : StopPoint) (t : State) (m a n : List Entry) → m ≡ a ++ n → Ends (arm Operation) t a → Tail stop (standing t a) n → Ends (armed Operation (op stop) settle ⨟ finish) t m
tail_up stop t m a n e x (inl (c, d, g, v, f)) =
    inl (a ++ c, d, join m a n c d e g, inl (a, c, refl, x, scoped_op stop (standing t a) c v), carry_back (λ u k. Ends finish u k) t a c d f)
tail_up stop t m a n e x (inr (h, i, c, d, g, v, (d1, d2, k, w, f))) =
    inl (
      a ++ (c ++ d1),
      d2,
      join m a n (c ++ d1) d2 e (join n c d d1 d2 g k),
      inl (a, c ++ d1, refl, x, scoped_true stop (standing t a) (c ++ d1) h (c, d1, CutBy Operation i, refl, v, cut_scope i (standing (standing t a) c) d1 w)),
      carry_back (λ u o. Ends finish u o) t a (c ++ d1) d2 (carry_back (λ u o. Ends finish u o) (standing t a) c d1 d2 f),
    )

pub to_cases : (stop : StopPoint) (s : State) (l : List Entry) → IsRun stop s l → RunCases stop s l
unfolding run
to_cases stop s l w =
    elim (config_halting (body stop) s l w) [
      | inl x ↦ inl x
      | inr (a, b, e, x, (h, y)) ↦
          (elim (failure_stands (standing s a)) as (λ k. failure_stands (standing s a) ≡ k →
          cond k (Ends (arm Operation ⨟ finish) (standing s a) b) (Ends (armed Operation (op stop) settle ⨟ finish) (standing s a) b) → RunCases stop s l) [
            | true ↦ λ g v. inr (inl (a, b, e, x, (h, (g, v))))
            | false ↦ λ g v. inr (inr (a, b, e, x, (h, (g, body_down stop (standing s a) b v))))
          ]) refl y
    ]

body_is : (stop : StopPoint) (t : State) (m : List Entry) (k : Bool) → failure_stands t ≡ k →
    cond k (Ends (arm Operation ⨟ finish) t m) (Ends (armed Operation (op stop) settle ⨟ finish) t m) → Ends (body stop) t m
body_is stop t m k h v = subst (λ j. cond j (Ends (arm Operation ⨟ finish) t m) (Ends (armed Operation (op stop) settle ⨟ finish) t m)) (sym h) v

pub from_cases : (stop : StopPoint) (s : State) (l : List Entry) → RunCases stop s l → IsRun stop s l
unfolding run
from_cases stop s l (inl x) = config_halted (body stop) s l (inl x)
from_cases stop s l (inr (inl (a, b, e, x, (h, (g, v))))) = config_halted (body stop) s l (inr (a, b, e, x, (h, body_is stop (standing s a) b true g v)))
from_cases stop s l (inr (inr (a, b, e, x, (h, (g, (c, d, k, y, z)))))) =
    config_halted (body stop) s l (inr (a, b, e, x, (h, body_is stop (standing s a) b false g (tail_up stop (standing s a) b c d k y z))))
