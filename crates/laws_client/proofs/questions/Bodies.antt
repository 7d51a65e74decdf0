-- A Body is asked while a body is open: a response came, and each Body since then was answered Pending.
use Rattle.std.proofs.Common.{Bool, true, false, cond, ℕ, zero, suc, List, [], ◌∷◌, ◌++◌, ◌≡◌, refl, sym, ap, ◌∙◌, subst, inl, inr, append_assoc}
use Rattle.smithy_types.specs.declared.hook.Hook.{Hook}
use Rattle.smithy_types.specs.declared.hook.Hook.TheVariants as hooks
use Rattle.smithy_types.specs.declared.kinds.StopPoint.{StopPoint}
use Rattle.smithy_types.specs.declared.kinds.StopPoint.TheVariants as stops
use Rattle.smithy_types.specs.declared.payload.Payload.{Payload}
use Rattle.run_grammar.specs.declared.answer.Answer.{Answer}
use Rattle.run_grammar.specs.declared.answer.Answer.TheVariants as answers
use Rattle.run_grammar.specs.declared.answer.Entry.{Entry}
use Rattle.run_grammar.specs.declared.kind.ConfigureStage.TheVariants as stages
use Rattle.run_grammar.specs.declared.kind.Kind.{Kind}
use Rattle.run_grammar.specs.declared.kind.Kind.TheVariants as kinds
use Rattle.run_grammar.specs.declared.kind.Role.{Role}
use Rattle.run_grammar.specs.declared.kind.Role.TheVariants as roles
use Rattle.run_grammar.specs.declared.production.Test.{Test}
use Rattle.run_grammar.specs.declared.production.Test.TheVariants as tests
use Rattle.run_grammar.specs.Entry.{can_wait, fails, is_pending, kind_of, pending, same_role, sets_failure}
use Rattle.run_grammar.specs.Fits.{fits, fits_transmit}
use Rattle.run_grammar.specs.Grammar.{again, arm, armed, attempt, configured, finish, front, grant, hook, loop, op, opening, round, run, sending, settle, streaming, turn}
use Rattle.run_grammar.specs.Laws.{Begins, EachFits, IsWhole}
use Rattle.run_grammar.specs.Production.{Production, Nothing, Work, ◌⨟◌, Where, InAttempt, Under, End, Ended, Further, CutBy}
use Rattle.run_grammar.specs.Standing.{State, standing, start, step}
use Rattle.run_grammar.specs.Tests.{failed, holds}
use Rattle.run_grammar.specs.Words.{AfterIdles, Answered, CutOnce, Idle, RoundsOf, ScopeEnds, Struck, WaitsOf, Word}
use Rattle.run_grammar.proofs.Avoiding.{Aside, Avoids, avoids, word_avoids}
use Rattle.run_grammar.proofs.Paths.{fits_of}
use Rattle.run_grammar.proofs.Spots.{standing-append}
use Rattle.run_grammar.proofs.Watching.{answered_alone}

-- ---- whether a body is open

abbrev pub came : Answer → Bool
came (answers.Response r) = true
came _ = false

-- behind an answer to a question of this kind
abbrev pub opens : Bool → Kind → Answer → Bool
opens b kinds.Transmit a = came a
opens b kinds.Body a = cond (is_pending a) b false
opens b (kinds.Configure w) a = false
opens b (kinds.Abandon x) a = false
opens b _ a = b

abbrev pub along : Bool → List Entry → Bool
along b [] = b
along b (e ∷ l) = along (opens b (kind_of e) e.answer) l

-- one is open at each Body
abbrev pub Bodied : Bool → List Entry → Type 0
Bodied b [] = Unit {0}
Bodied b (e ∷ l) = (kind_of e ≡ kinds.Body → b ≡ true) × Bodied (opens b (kind_of e) e.answer) l

along-append : (a c : List Entry) (b : Bool) → along b (a ++ c) ≡ along (along b a) c
along-append [] c b = refl
along-append (e ∷ a) c b = along-append a c (opens b (kind_of e) e.answer)

bodied_joined : (a c : List Entry) (b : Bool) → Bodied b a → Bodied (along b a) c → Bodied b (a ++ c)
bodied_joined [] c b g h = h
bodied_joined (e ∷ a) c b g h = (g.0, bodied_joined a c (opens b (kind_of e) e.answer) g.1 h)

bodied_both : (a c l : List Entry) (b : Bool) → l ≡ a ++ c → Bodied b a → Bodied (along b a) c → Bodied b l
bodied_both a c l b e g h = subst (Bodied b) (sym e) (bodied_joined a c b g h)

abbrev is_body : Kind → Bool
is_body kinds.Body = true
is_body _ = false

beside : Aside is_body
beside = record { waits = λ d. refl; parks = refl; gives_up = λ x. refl }

never_bodied : (l : List Entry) (b : Bool) → Avoids is_body l → Bodied b l
never_bodied [] b n = tt
never_bodied (e ∷ l) b n = (λ k. absurd (let clash = sym (ap is_body k) ∙ n.0 in cc clash), never_bodied l (opens b (kind_of e) e.answer) n.1)

-- ---- from any bit on

abbrev Any : Production → Type 0
Any p = (ds : List Role) (x : End) (s : State) (l : List Entry) → EachFits l → Word p ds x s l → (b : Bool) → Bodied b l

any_never : (p : Production) → avoids is_body p ≡ true → Any p
any_never p n ds x s l f w b = never_bodied l b (word_avoids is_body beside p n ds x s l w)

any_then : (p q : Production) → Any p → Any q → Any (p ⨟ q)
any_then p q g k ds x s l f (inl (a, c, e, v, w)) b =
    let y = fits_of a c (subst EachFits e f) in
    bodied_both a c l b e (g ds Ended s a y.0 v b) (k ds x (standing s a) c y.1 w (along b a))
any_then p q g k ds x s l f (inr (e, w)) b = g ds x s l f w b

any_where : (test : Test) (p q : Production) → Any p → Any q → Any (Where test p q)
any_where test p q g k ds x s l f w b =
    (elim (holds test s) as (λ t. cond t (Word p ds x s l) (Word q ds x s l) → Bodied b l) [ true ↦ λ v. g ds x s l f v b | false ↦ λ v. k ds x s l f v b ]) w

any_rounds : (V W : End → State → List Entry → Type 0) → ((x : End) (s : State) (l : List Entry) → EachFits l → V x s l → (b : Bool) → Bodied b l) → ((x : End) (s : State) (l : List Entry) → EachFits l → W x s l → (b : Bool) → Bodied b l) →
    (n : ℕ) (x : End) (s : State) (l : List Entry) → EachFits l → RoundsOf V W n x s l → (b : Bool) → Bodied b l
any_rounds V W i j zero x s l f (h, w) b = i x s l f w b
any_rounds V W i j (suc n) x s l f (a, c, e, v, w) b =
    let y = fits_of a c (subst EachFits e f) in
    bodied_both a c l b e (i Further s a y.0 v b) (any_rounds W W j j n x (standing s a) c y.1 w (along b a))

any_scope : (d : Role) (inner : End → List Entry → Type 0) → ((x : End) (l : List Entry) → EachFits l → inner x l → (b : Bool) → Bodied b l) → (y x : End) (l : List Entry) → EachFits l → ScopeEnds d inner y x l → (b : Bool) → Bodied b l
any_scope d inner i Ended x l f (e, n) b = subst (Bodied b) (sym n) tt
any_scope d inner i Further x l f (e, n) b = subst (Bodied b) (sym n) tt
any_scope d inner i (CutBy c inside) x l f w b =
    (elim (same_role d c) as (λ t. cond t (cond inside (inner x l) ((x ≡ Ended) × (l ≡ []))) ((x ≡ CutBy c inside) × (l ≡ [])) → Bodied b l) [
      | true ↦ elim inside as (λ t. cond t (inner x l) ((x ≡ Ended) × (l ≡ [])) → Bodied b l) [ true ↦ λ u. i x l f u b | false ↦ λ u. subst (Bodied b) (sym u.1) tt ]
      | false ↦ λ u. subst (Bodied b) (sym u.1) tt
    ]) w

any_under : (d : Role) (p q : Production) → Any p → Any q → Any (Under d p q)
any_under d p q g k ds x s l f (a, c, y, e, v, w) b =
    let z = fits_of a c (subst EachFits e f) in
    bodied_both a c l b e (g (d ∷ ds) y s a z.0 v b) (any_scope d (λ o m. Word q ds o (standing s a) m) (λ o m h u. k ds o (standing s a) m h u) y x c z.1 w (along b a))

-- ---- parts that change nothing of it

abbrev Keeps : Production → Type 0
Keeps p = (ds : List Role) (s : State) (l : List Entry) → Word p ds Ended s l → (b : Bool) → along b l ≡ b

keeps_nothing : Keeps Nothing
keeps_nothing ds s l (e, n) b = ap (along b) n

keeps_work : (k : Kind) → can_wait k ≡ false → ((b : Bool) (a : Answer) → opens b k a ≡ b) → Keeps (Work k)
keeps_work k c o ds s l w b =
    let alone = answered_alone k ds Ended s l c w in
    ap (along b) alone.1 ∙ (ap (λ j. opens b j alone.0.answer) alone.2 ∙ o b alone.0.answer)

keeps_then : (p q : Production) → Keeps p → Keeps q → Keeps (p ⨟ q)
keeps_then p q g k ds s l (inl (a, c, e, v, w)) b = ap (along b) e ∙ (along-append a c b ∙ (k ds (standing s a) c w (along b a) ∙ g ds s a v b))
keeps_then p q g k ds s l (inr (e, w)) b = absurd (cc)

keeps_where : (test : Test) (p q : Production) → Keeps p → Keeps q → Keeps (Where test p q)
keeps_where test p q g k ds s l w b =
    (elim (holds test s) as (λ t. cond t (Word p ds Ended s l) (Word q ds Ended s l) → along b l ≡ b) [ true ↦ λ v. g ds s l v b | false ↦ λ v. k ds s l v b ]) w

keeps_hook : (h : Hook) → Keeps (hook h)
keeps_hook h = keeps_work (kinds.Hook h) refl (λ b a. refl)

keeps_halt : (q : Production) → Keeps q → Keeps (Where tests.Failed Nothing q)
keeps_halt q k = keeps_where tests.Failed Nothing q keeps_nothing k

-- ---- a transmission that doesn't fail leaves one open

abbrev Opened : Production → Type 0
Opened p = (ds : List Role) (s : State) (l : List Entry) → EachFits l → Word p ds Ended s l → failed (standing s l) ≡ false → (b : Bool) → along b l ≡ true

came_of : (m : ℕ) (a : Answer) → is_pending a ≡ false → fits_transmit a ≡ true → sets_failure kinds.Transmit m a ≡ false → came a ≡ true
came_of m (answers.Response r) p f h = refl
came_of m answers.Pending p f h = absurd (cc)
came_of m (answers.ConnectorFailed k t) p f h = absurd (cc)
came_of m answers.Absent p f h = absurd (cc)
came_of m _ p f h = absurd (cc)

opened_entry : (s : State) (e : Entry) → kind_of e ≡ kinds.Transmit → pending e ≡ false → fits (kind_of e) e.answer ≡ true → failed (step s e) ≡ false → (b : Bool) → opens b (kind_of e) e.answer ≡ true
unfolding step failed fails fits pending
opened_entry s e k p f h b =
    let m = (step s e).context.context.view.attempt in
    subst (λ j. opens b j e.answer ≡ true) (sym k)
    (came_of m e.answer (subst (λ j. cond (can_wait j) (is_pending e.answer) false ≡ false) k p) (subst (λ j. fits j e.answer ≡ true) k f) (subst (λ j. sets_failure j m e.answer ≡ false) k h))

opened_idles : (ds : List Role) (n : ℕ) (l : List Entry) (s : State) → EachFits l → AfterIdles kinds.Transmit ds (Answered kinds.Transmit) n l → failed (standing s l) ≡ false → (b : Bool) → along b l ≡ true
opened_idles ds zero l s f (e, n, k, p) r b =
    ap (along b) n ∙ opened_entry s e k p (subst EachFits n f).0 (subst (λ m. failed (standing s m) ≡ false) n r) b
opened_idles ds (suc n) l s f (a, c, e, i, w) r b =
    let y = fits_of a c (subst EachFits e f) in
    let ends : standing s l ≡ standing (standing s a) c = ap (standing s) e ∙ standing-append a c s in
    ap (along b) e ∙ (along-append a c b ∙ opened_idles ds n c (standing s a) y.1 w (ap failed (sym ends) ∙ r) (along b a))

opened_transmit : Opened (Work kinds.Transmit)
opened_transmit ds s l f (inl (x, (n, w))) r b = opened_idles ds n l s f w r b
opened_transmit ds s l f (inr (d, e, w)) r b = absurd (cc)

opened_then : (p q : Production) → Opened p → Keeps q → Opened (p ⨟ Where tests.Failed Nothing q)
opened_then p q g k ds s l f (inr (e, w)) r b = absurd (cc)
opened_then p q g k ds s l f (inl (a, c, e, v, w)) r b =
    let y = fits_of a c (subst EachFits e f) in
    let ends : standing s l ≡ standing (standing s a) c = ap (standing s) e ∙ standing-append a c s in
    (elim (failed (standing s a)) as (λ t. failed (standing s a) ≡ t → cond t (Word Nothing ds Ended (standing s a) c) (Word q ds Ended (standing s a) c) → along b l ≡ true) [
      | true ↦ λ halts u.
          let none : standing (standing s a) c ≡ standing s a = ap (standing (standing s a)) u.1 in
          let clash = sym halts ∙ (ap failed (sym (ends ∙ none)) ∙ r) in absurd (cc clash)
      | false ↦ λ goes u. ap (along b) e ∙ (along-append a c b ∙ (k ds (standing s a) c u (along b a) ∙ g ds s a y.0 v goes b))
    ]) refl w

abbrev last_hooks : Production
last_hooks = hook hooks.ModifyBeforeDeserialization ⨟ Where tests.Failed Nothing (hook hooks.ReadBeforeDeserialization)

abbrev sent_hooks : Production
sent_hooks = hook hooks.ReadAfterTransmit ⨟ Where tests.Failed Nothing last_hooks

keeps_hooks : Keeps sent_hooks
keeps_hooks =
    keeps_then (hook hooks.ReadAfterTransmit) (Where tests.Failed Nothing last_hooks) (keeps_hook hooks.ReadAfterTransmit) (keeps_halt last_hooks
    (keeps_then (hook hooks.ModifyBeforeDeserialization) (Where tests.Failed Nothing (hook hooks.ReadBeforeDeserialization)) (keeps_hook hooks.ModifyBeforeDeserialization)
    (keeps_halt (hook hooks.ReadBeforeDeserialization) (keeps_hook hooks.ReadBeforeDeserialization))))

opened_sending : Opened sending
opened_sending = opened_then (Work kinds.Transmit) sent_hooks opened_transmit keeps_hooks

-- ---- from an open body on

abbrev From : Production → Type 0
From p = (ds : List Role) (x : End) (s : State) (l : List Entry) → EachFits l → Word p ds x s l → Bodied true l

from_any : (p : Production) → Any p → From p
from_any p g ds x s l f w = g ds x s l f w true

from_then : (p q : Production) → From p → Any q → From (p ⨟ q)
from_then p q g k ds x s l f (inl (a, c, e, v, w)) =
    let y = fits_of a c (subst EachFits e f) in
    bodied_both a c l true e (g ds Ended s a y.0 v) (k ds x (standing s a) c y.1 w (along true a))
from_then p q g k ds x s l f (inr (e, w)) = g ds x s l f w

from_behind : (p q : Production) → Any p → Keeps p → From q → From (p ⨟ q)
from_behind p q g k j ds x s l f (inl (a, c, e, v, w)) =
    let y = fits_of a c (subst EachFits e f) in
    bodied_both a c l true e (g ds Ended s a y.0 v true) (subst (λ b. Bodied b c) (sym (k ds s a v true)) (j ds x (standing s a) c y.1 w))
from_behind p q g k j ds x s l f (inr (e, w)) = g ds x s l f w true

from_where : (test : Test) (p q : Production) → From p → From q → From (Where test p q)
from_where test p q g k ds x s l f w =
    (elim (holds test s) as (λ t. cond t (Word p ds x s l) (Word q ds x s l) → Bodied true l) [ true ↦ λ v. g ds x s l f v | false ↦ λ v. k ds x s l f v ]) w

not_body : (k : Kind) (e : Entry) → is_body k ≡ false → kind_of e ≡ k → (b : Bool) → kind_of e ≡ kinds.Body → b ≡ true
not_body k e n h b j = absurd (let clash = sym (ap is_body (sym h ∙ j)) ∙ n in cc clash)

waits_bodied : (ds : List Role) (l : List Entry) → WaitsOf ds l → (b : Bool) → Bodied b l × (along b l ≡ b)
waits_bodied [] [] w b = absurd w
waits_bodied (d ∷ ds) [] w b = absurd w
waits_bodied [] (e ∷ l) (k, n) b = (
  (not_body kinds.Park e refl k b, subst (Bodied (opens b (kind_of e) e.answer)) (sym n) tt),
  ap (along (opens b (kind_of e) e.answer)) n ∙ ap (λ j. opens b j e.answer) k,
)
waits_bodied (d ∷ ds) (e ∷ l) (k, p, w) b =
    let r = waits_bodied ds l w (opens b (kind_of e) e.answer) in
    ((not_body (kinds.Wait d) e refl k b, r.0), r.1 ∙ ap (λ j. opens b j e.answer) k)

struck_bodied : (d : Role) (ds : List Role) (l : List Entry) → Struck kinds.Body d ds l → (b : Bool) → Bodied b l
struck_bodied d [] l w b = absurd w
struck_bodied d (c ∷ ds) [] w b = absurd w
struck_bodied d (c ∷ ds) (e ∷ l) (k, inl (p, w)) b = (not_body (kinds.Wait c) e refl k b, struck_bodied d ds l w (opens b (kind_of e) e.answer))
struck_bodied d (c ∷ ds) (e ∷ l) (k, inr (same, p, r, x, n, i)) b = (
  not_body (kinds.Wait c) e refl k b,
  subst (Bodied (opens b (kind_of e) e.answer)) (sym n) (λ j. absurd (let clash = sym j ∙ i in cc clash), tt),
)

still_open : (e : Entry) → kind_of e ≡ kinds.Body → pending e ≡ true → opens true (kind_of e) e.answer ≡ true
unfolding pending
still_open e k p =
    let waits = subst (λ j. cond (can_wait j) (is_pending e.answer) false ≡ true) k p in
    ap (λ j. opens true j e.answer) k ∙ ap (λ t. cond t true false) waits

idle_bodied : (ds : List Role) (l : List Entry) → Idle kinds.Body ds l → Bodied true l × (along true l ≡ true)
idle_bodied ds [] w = absurd w
idle_bodied ds (e ∷ l) (k, p, w) =
    let o = still_open e k p in
    let r = waits_bodied ds l w true in
    ((λ j. refl, subst (λ b. Bodied b l) (sym o) r.0), ap (λ b. along b l) o ∙ r.1)

idles_bodied : (ds : List Role) (last : List Entry → Type 0) → ((l : List Entry) → last l → Bodied true l) → (n : ℕ) (l : List Entry) → AfterIdles kinds.Body ds last n l → Bodied true l
idles_bodied ds last f zero l w = f l w
idles_bodied ds last f (suc n) l (a, c, e, i, w) =
    let r = idle_bodied ds a i in
    bodied_both a c l true e r.0 (subst (λ b. Bodied b c) (sym r.1) (idles_bodied ds last f n c w))

answered_bodied : (l : List Entry) → Answered kinds.Body l → Bodied true l
answered_bodied l (e, n, k, p) = subst (Bodied true) (sym n) (λ j. refl, tt)

cut_bodied : (d : Role) (ds : List Role) (l : List Entry) → CutOnce kinds.Body d ds l → Bodied true l
cut_bodied d ds [] w = absurd w
cut_bodied d ds (e ∷ l) (k, p, w) = (λ j. refl, struck_bodied d ds l w (opens true (kind_of e) e.answer))

from_body : From (Work kinds.Body)
from_body ds x s l f (inl (e, (n, w))) = idles_bodied ds (Answered kinds.Body) answered_bodied n l w
from_body ds x s l f (inr (d, e, (n, w))) = idles_bodied ds (CutOnce kinds.Body d ds) (cut_bodied d ds) n l w

abbrev reading : Production
reading = Work kinds.Body ⨟ Where tests.BodyRead (Work kinds.Deserialize) Nothing

from_streaming : From streaming
from_streaming =
    from_behind (Work kinds.Stream) (Where tests.NotStreaming reading Nothing ⨟ hook hooks.ReadAfterDeserialization) (any_never (Work kinds.Stream) refl) (keeps_work kinds.Stream refl (λ b a. refl))
    (from_then (Where tests.NotStreaming reading Nothing) (hook hooks.ReadAfterDeserialization)
    (from_where tests.NotStreaming reading Nothing
    (from_then (Work kinds.Body) (Where tests.BodyRead (Work kinds.Deserialize) Nothing) from_body (any_never (Where tests.BodyRead (Work kinds.Deserialize) Nothing) refl))
    (from_any Nothing (any_never Nothing refl)))
    (any_never (hook hooks.ReadAfterDeserialization) refl))

-- ---- a run

any_sent : Any (sending ⨟ Where tests.Failed Nothing streaming)
any_sent ds x s l f (inr (e, w)) b = any_never sending refl ds x s l f w b
any_sent ds x s l f (inl (a, c, e, v, w)) b =
    let y = fits_of a c (subst EachFits e f) in
    bodied_both a c l b e (any_never sending refl ds Ended s a y.0 v b)
    ((elim (failed (standing s a)) as (λ t. failed (standing s a) ≡ t → cond t (Word Nothing ds x (standing s a) c) (Word streaming ds x (standing s a) c) → Bodied (along b a) c) [
      | true ↦ λ halts u. subst (Bodied (along b a)) (sym u.1) tt
      | false ↦ λ goes u. subst (λ o. Bodied o c) (sym (opened_sending ds s a y.0 v goes b)) (from_streaming ds x (standing s a) c y.1 u)
    ]) refl w)

any_halt : (q : Production) → Any q → Any (Where tests.Failed Nothing q)
any_halt q k = any_where tests.Failed Nothing q (any_never Nothing refl) k

any_attempt : (stop : StopPoint) → Any (attempt stop)
any_attempt stops.None =
    any_then opening (Where tests.Failed Nothing (sending ⨟ Where tests.Failed Nothing streaming)) (any_never opening refl) (any_halt (sending ⨟ Where tests.Failed Nothing streaming) any_sent)
any_attempt stops.BeforeTransmit = any_never opening refl

any_armed : (d : Role) (p after : Production) → Any p → Any after → Any (armed d p after)
any_armed d p after g k =
    any_then (arm d) (Where (tests.HasStarted d) (Under d p after) p) (any_never (arm d) refl) (any_where (tests.HasStarted d) (Under d p after) p (any_under d p after g k) g)

any_tried : (stop : StopPoint) → Any (InAttempt (attempt stop))
any_tried stop ds x s l f (y, e, w) b = any_attempt stop ds y s l f w b

any_turn : (stop : StopPoint) → Any (turn stop)
any_turn stop =
    any_then (armed roles.Attempt (InAttempt (attempt stop)) Nothing) (settle ⨟ Work kinds.Decide) (any_armed roles.Attempt (InAttempt (attempt stop)) Nothing (any_tried stop) (any_never Nothing refl))
    (any_never (settle ⨟ Work kinds.Decide) refl)

-- what follows a decision
abbrev pausing : Production
pausing = Work (kinds.Start roles.LongPoll) ⨟ Where (tests.HasStarted roles.LongPoll) (Work (kinds.Wait roles.LongPoll)) Nothing

abbrev retrying : Production
retrying = Work (kinds.Start roles.Retry) ⨟ Where (tests.HasStarted roles.Retry) (Where tests.CheckpointStands (Work (kinds.Wait roles.Retry) ⨟ again) Nothing) Nothing

abbrev going_on : Production
going_on = Where tests.DecidedYes (Where tests.CheckpointStands again Nothing) (Where tests.DecidedNoAfter pausing (Where tests.DecidedDelay retrying Nothing))

any_round : (stop : StopPoint) → Any (round stop)
any_round stop = any_then (turn stop) going_on (any_turn stop) (any_never going_on refl)

any_loop : (stop : StopPoint) → Any (loop stop)
any_loop stop ds x s l f (n, w) b =
    any_rounds (Word (round stop) ds) (Word (round stop) ds) (λ y t m h v. any_round stop ds y t m h v) (λ y t m h v. any_round stop ds y t m h v) n x s l f w b

any_op : (stop : StopPoint) → Any (op stop)
any_op stop =
    let granted = Where tests.Went (loop stop) Nothing in
    any_then front (Where tests.Failed Nothing (grant ⨟ granted)) (any_never front refl)
    (any_halt (grant ⨟ granted) (any_then grant granted (any_never grant refl) (any_where tests.Went (loop stop) Nothing (any_loop stop) (any_never Nothing refl))))

any_configured : (p : Production) → Any p → Any (configured p)
any_configured p g =
    let third = hook hooks.ReadBeforeExecutionOperation ⨟ Work (kinds.Configure stages.Final) ⨟ Where tests.Failed Nothing p in
    let second = hook hooks.ReadBeforeExecutionClient ⨟ Work (kinds.Configure stages.Operation) ⨟ Where tests.Failed Nothing third in
    any_then (Work (kinds.Configure stages.Client)) (Where tests.Failed Nothing second) (any_never (Work (kinds.Configure stages.Client)) refl) (any_halt second
    (any_then (hook hooks.ReadBeforeExecutionClient) (Work (kinds.Configure stages.Operation) ⨟ Where tests.Failed Nothing third) (any_never (hook hooks.ReadBeforeExecutionClient) refl)
    (any_then (Work (kinds.Configure stages.Operation)) (Where tests.Failed Nothing third) (any_never (Work (kinds.Configure stages.Operation)) refl) (any_halt third
    (any_then (hook hooks.ReadBeforeExecutionOperation) (Work (kinds.Configure stages.Final) ⨟ Where tests.Failed Nothing p) (any_never (hook hooks.ReadBeforeExecutionOperation) refl)
    (any_then (Work (kinds.Configure stages.Final)) (Where tests.Failed Nothing p) (any_never (Work (kinds.Configure stages.Final)) refl) (any_halt p g)))))))

any_run : (stop : StopPoint) → Any (run stop)
unfolding run
any_run stop =
    any_configured (Where tests.FailureStands (arm roles.Operation ⨟ finish) (armed roles.Operation (op stop) settle ⨟ finish))
    (any_where tests.FailureStands (arm roles.Operation ⨟ finish) (armed roles.Operation (op stop) settle ⨟ finish) (any_never (arm roles.Operation ⨟ finish) refl)
    (any_then (armed roles.Operation (op stop) settle) finish (any_armed roles.Operation (op stop) settle (any_op stop) (any_never settle refl)) (any_never finish refl)))

bodied_at : (before : List Entry) (e : Entry) (after : List Entry) (b : Bool) → Bodied b (before ++ e ∷ after) → kind_of e ≡ kinds.Body → along b before ≡ true
bodied_at [] e after b g k = g.0 k
bodied_at (x ∷ before) e after b g k = bodied_at before e after (opens b (kind_of x) x.answer) g.1 k

-- in a list that begins a run one is open before each Body
pub open_before : (stop : StopPoint) (p : Payload) (before : List Entry) (e : Entry) → Begins stop (start p) (before ++ e ∷ []) → kind_of e ≡ kinds.Body → (b : Bool) → along b before ≡ true
open_before stop p before e begun k b =
    let whole = subst (IsWhole stop (start p)) (append_assoc before (e ∷ []) begun.0) begun.1 in
    bodied_at before e begun.0 b (any_run stop [] Ended (start p) (before ++ e ∷ begun.0) whole.fitting whole.run b) k
