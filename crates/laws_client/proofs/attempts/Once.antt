-- A round of the loop begins one attempt at most, and nothing beside it begins one.
use Rattle.std.proofs.Common.{◌≡◌, ◌∙◌, ap, refl, sym, subst, ℕ, ◌+◌, ◌≤◌, Bool, true, false, cond, List, [], ◌∷◌, ◌++◌, length, inl, inr, arith}
use Rattle.smithy_types.specs.declared.hook.Hook.TheVariants as hooks
use Rattle.smithy_types.specs.declared.kinds.StopPoint.{StopPoint}
use Rattle.smithy_types.specs.declared.kinds.StopPoint.TheVariants as stops
use Rattle.run_grammar.specs.declared.production.Test.{Test}
use Rattle.run_grammar.specs.declared.production.Test.TheVariants as tests
use Rattle.run_grammar.specs.declared.kind.Role.{Role}
use Rattle.run_grammar.specs.declared.kind.Role.TheVariants as roles
use Rattle.run_grammar.specs.declared.kind.Kind.{Kind}
use Rattle.run_grammar.specs.declared.kind.Kind.TheVariants as kinds
use Rattle.run_grammar.specs.declared.answer.Entry.{Entry}
use Rattle.run_grammar.specs.Entry.{kind_of}
use Rattle.run_grammar.specs.Standing.{State, standing}
use Rattle.run_grammar.specs.Tests.{holds}
use Rattle.run_grammar.specs.Production.{Production, Nothing, Work, ◌⨟◌, Where, InAttempt, Under, End, Ended}
use Rattle.run_grammar.specs.Words.{Word, ScopeEnds}
use Rattle.run_grammar.specs.Grammar.{hook, halted, arm, armed, opening, sending, streaming, attempt, settle, turn, round}
use Rattle.run_grammar.specs.Attempts.{asked_of, begins_attempt}
use Rattle.run_grammar.proofs.Avoiding.{Avoids, Aside, avoids, avoids_scope, word_avoids}
use Rattle.run_grammar.proofs.Watching.{answered_alone}
use Rattle.laws_client.specs.Attempts.Deciding.{attempts_begun}

abbrev pub Never : List Entry → Type 0
Never l = Avoids begins_attempt l

pub beside : Aside begins_attempt
beside = record { waits = λ d. refl; parks = refl; gives_up = λ x. refl }

abbrev pub never : Production → Bool
never p = avoids begins_attempt p

pub word_never : (p : Production) → never p ≡ true → (ds : List Role) (x : End) (s : State) (l : List Entry) → Word p ds x s l → Never l
word_never p h ds x s l w = word_avoids begins_attempt beside p h ds x s l w

pub never_scope : (d : Role) (inner : End → List Entry → Type 0) → ((x : End) (l : List Entry) → inner x l → Never l) → (y x : End) (l : List Entry) → ScopeEnds d inner y x l → Never l
never_scope d inner f y x l w = avoids_scope begins_attempt beside d inner f y x l w

-- ---- counts

pub counts_one : (b : Bool) (k : Kind) (ks : List Kind) → length (cond b (k ∷ ks) ks) ≤ length ks + 1
counts_one true k ks = omega arith
counts_one false k ks = omega arith

pub begun_never : (l : List Entry) → Never l → attempts_begun l ≡ 0
begun_never [] n = refl
begun_never (e ∷ l) n = subst (λ b. length (cond b (kind_of e ∷ asked_of begins_attempt l) (asked_of begins_attempt l)) ≡ 0) (sym n.0) (begun_never l n.1)

counted : (b : Bool) (k : Kind) (ks js hs : List Kind) (n : ℕ) → length ks ≡ length js + n → length (cond b (k ∷ ks) ks) ≡ length (cond b (k ∷ js) js) + n
counted true k ks js hs n e = omega (arith, e)
counted false k ks js hs n e = e

pub begun_append : (a b : List Entry) → attempts_begun (a ++ b) ≡ attempts_begun a + attempts_begun b
begun_append [] b = omega arith
begun_append (e ∷ a) b =
    counted (begins_attempt (kind_of e)) (kind_of e) (asked_of begins_attempt (a ++ b)) (asked_of begins_attempt a) [] (attempts_begun b) (begun_append a b)

pub begun_both : (a b l : List Entry) → l ≡ a ++ b → attempts_begun l ≡ attempts_begun a + attempts_begun b
begun_both a b l e = ap attempts_begun e ∙ begun_append a b

-- ---- words with one attempt at most

abbrev Once : Production → Type 0
Once p = (ds : List Role) (x : End) (s : State) (l : List Entry) → Word p ds x s l → attempts_begun l ≤ 1

none_is_once : (l : List Entry) → Never l → attempts_begun l ≤ 1
none_is_once l n = let e = begun_never l n in omega (arith, e)

once_never : (p q : Production) → Once p → never q ≡ true → Once (p ⨟ q)
once_never p q f n ds x s l (inl (a, b, e, v, w)) =
    let h = begun_both a b l e in
    let g = f ds Ended s a v in
    let k = begun_never b (word_never q n ds x (standing s a) b w) in
    omega (arith, h, g, k)
once_never p q f n ds x s l (inr (e, w)) = f ds x s l w

never_once : (p q : Production) → never p ≡ true → Once q → Once (p ⨟ q)
never_once p q n f ds x s l (inl (a, b, e, v, w)) =
    let h = begun_both a b l e in
    let g = f ds x (standing s a) b w in
    let k = begun_never a (word_never p n ds Ended s a v) in
    omega (arith, h, g, k)
never_once p q n f ds x s l (inr (e, w)) = none_is_once l (word_never p n ds x s l w)

once_where : (test : Test) (p q : Production) → Once p → Once q → Once (Where test p q)
once_where test p q f g ds x s l w =
    (elim (holds test s) as (λ b. cond b (Word p ds x s l) (Word q ds x s l) → attempts_begun l ≤ 1) [ true ↦ λ v. f ds x s l v | false ↦ λ v. g ds x s l v ]) w

once_hook : Once (hook hooks.ReadBeforeAttempt)
once_hook ds x s l w =
    let r = answered_alone (kinds.Hook hooks.ReadBeforeAttempt) ds x s l refl w in
    subst (λ m. attempts_begun m ≤ 1) (sym r.1) (counts_one (begins_attempt (kind_of r.0)) (kind_of r.0) [])

abbrev behind : Production → Production
behind (p ⨟ q) = q
behind p = p

once_opening : Once opening
once_opening = once_never (hook hooks.ReadBeforeAttempt) (behind opening) once_hook refl

once_attempt : (stop : StopPoint) → Once (attempt stop)
once_attempt stops.None = once_never opening (Where tests.Failed Nothing (halted (sending ∷ streaming ∷ []))) once_opening refl
once_attempt stops.BeforeTransmit = once_opening

once_within : (stop : StopPoint) → Once (InAttempt (attempt stop))
once_within stop ds x s l (y, e, w) = once_attempt stop ds y s l w

once_under : (stop : StopPoint) → Once (Under roles.Attempt (InAttempt (attempt stop)) Nothing)
once_under stop ds x s l (a, b, y, e, v, w) =
    let h = begun_both a b l e in
    let g = once_within stop (roles.Attempt ∷ ds) y s a v in
    let k = begun_never b (never_scope roles.Attempt (λ z m. Word Nothing ds z (standing s a) m) (λ z m u. subst Never (sym u.1) tt) y x b w) in
    omega (arith, h, g, k)

once_armed : (stop : StopPoint) → Once (armed roles.Attempt (InAttempt (attempt stop)) Nothing)
once_armed stop =
    never_once (arm roles.Attempt) (Where (tests.HasStarted roles.Attempt) (Under roles.Attempt (InAttempt (attempt stop)) Nothing) (InAttempt (attempt stop))) refl
    (once_where (tests.HasStarted roles.Attempt) (Under roles.Attempt (InAttempt (attempt stop)) Nothing) (InAttempt (attempt stop)) (once_under stop) (once_within stop))

once_turn : (stop : StopPoint) → Once (turn stop)
once_turn stop = once_never (armed roles.Attempt (InAttempt (attempt stop)) Nothing) (settle ⨟ Work kinds.Decide) (once_armed stop) refl

pub once_round : (stop : StopPoint) (ds : List Role) (x : End) (s : State) (l : List Entry) → Word (round stop) ds x s l → attempts_begun l ≤ 1
once_round stop = once_never (turn stop) (behind (round stop)) (once_turn stop) refl
