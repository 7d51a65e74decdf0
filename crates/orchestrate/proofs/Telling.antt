-- A reply tells the tests of its entry, and asking once moves an invocation.
use Rattle.std.proofs.Common.{Bool, true, false, cond, ℕ, Option, Some, List, [], ◌∷◌, ◌++◌, ◌≡◌, refl, sym, ap, ◌∙◌, subst, inl, inr}
use Rattle.run_grammar.specs.declared.kind.Role.{Role}
use Rattle.run_grammar.specs.declared.kind.Kind.{Kind}
use Rattle.run_grammar.specs.declared.kind.Kind.TheVariants as kinds
use Rattle.run_grammar.specs.declared.question.Question.{Question}
use Rattle.run_grammar.specs.declared.answer.Answer.{Answer}
use Rattle.run_grammar.specs.declared.answer.Entry.{Entry}
use Rattle.run_grammar.specs.declared.standing.Standing.{Standing}
use Rattle.run_grammar.specs.Question.{kind_of_question, nanos_of}
use Rattle.run_grammar.specs.Entry.{entry, kind_of, pending, fails, same_role}
use Rattle.run_grammar.specs.Fits.{fits}
use Rattle.run_grammar.specs.Change.{changed}
use Rattle.run_grammar.specs.Standing.{State, asks}
use Rattle.run_grammar.specs.Tests.{answers_started, is_start_of, failed, delayed, went, went_on, started, not_streaming, body_read, decided_yes, decided_no_after, decided_delay}
use Rattle.orchestrate.specs.declared.point.Point.{Point}
use Rattle.orchestrate.specs.declared.stage.Stage.{Stage}
use Rattle.orchestrate.specs.declared.reply.Reply.{Reply}
use Rattle.orchestrate.specs.declared.invocation.Invocation.{Invocation}
use Rattle.orchestrate.specs.Replies.{reply_of, started_if, started_by, started_of, Tells}
use Rattle.orchestrate.specs.Driving.{asks_at, moved_at}
use Rattle.orchestrate.specs.Stands.{made, stood, driven, Drove, Lost, AskedOnce, AskedInVain}
use Rattle.orchestrate.proofs.Standings.{asks_kind, stands_on, stands_begins_run, drove}
use Rattle.orchestrate.specs.declared.invocation.Step.TheVariants.{Asked}

started_both : (b c : Bool) (q r : Role) → same_role r q ≡ c → cond c b false ≡ started_by (started_if b q) r
started_both true true q r h = sym h
started_both true false q r h = sym h
started_both false true q r h = refl
started_both false false q r h = refl

started_tells : (k : Kind) (a : Answer) (r : Role) → cond (is_start_of r k) (answers_started a) false ≡ started_by (started_of k a) r
started_tells (kinds.Configure w) a r = refl
started_tells (kinds.Hook h) a r = refl
started_tells kinds.Serialize a r = refl
started_tells kinds.Load a r = refl
started_tells kinds.Initial a r = refl
started_tells (kinds.Start q) a r = started_both (answers_started a) (same_role r q) q r refl
started_tells (kinds.Wait q) a r = refl
started_tells kinds.Choose a r = refl
started_tells kinds.Endpoint a r = refl
started_tells kinds.Apply a r = refl
started_tells kinds.Sign a r = refl
started_tells kinds.Transmit a r = refl
started_tells kinds.Stream a r = refl
started_tells kinds.Body a r = refl
started_tells kinds.Deserialize a r = refl
started_tells kinds.Decide a r = refl
started_tells (kinds.Abandon x) a r = refl
started_tells kinds.Park a r = refl

abbrev after_entry : Standing → Entry → State
after_entry c e = record { context = c; last = Some e }

tells_itself : (c : Standing) (e : Entry) → Tells (after_entry c e) (reply_of (kind_of e) c.context.view.attempt e.answer)
unfolding failed delayed went went_on started not_streaming body_read decided_yes decided_no_after decided_delay fails
tells_itself c e = record {
  failing = refl;
  delaying = refl;
  going = refl;
  going_on = refl;
  starting = λ r. started_tells (kind_of e) e.answer r;
  streaming = refl;
  reading = refl;
  repeating = refl;
  pausing = refl;
  repeating_later = refl;
}

pending_itself : (n : ℕ) (e : Entry) → pending e ≡ (reply_of (kind_of e) n e.answer).pending
unfolding pending
pending_itself n e = refl

pub asked_step : (v : Invocation) (p : Point) (k : Kind) (q : Question) (n : Option ℕ) (a : Answer) (c : Standing) (r : Reply) (g : Stage) →
    k ≡ asks_at p v.stage.waiting → q ≡ asks k v.standing → n ≡ nanos_of q → r ≡ reply_of k c.context.view.attempt a → c ≡ changed k n a v.standing →
    ((s : State) (e : Entry) → s.context ≡ c → Tells s r → pending e ≡ r.pending → g ≡ moved_at v.stop v.stage.place.armed p v.stage.waiting s e) →
    (let x : Invocation = record { stop = v.stop; standing = c; stage = g; lost = v.lost } in x) ≡ record (driven v p a) { lost = v.lost }
asked_step v p k q n a c r g hk hq hn hr hc hg =
    let e = made v p a in
    let is : kind_of e ≡ k = asks_kind (asks_at p v.stage.waiting) v.standing ∙ sym hk in
    let handed : q ≡ e.question = hq ∙ ap (λ j. asks j v.standing) hk in
    let after : c ≡ stood v e = hc ∙ ap (λ m. changed k m a v.standing) (hn ∙ ap nanos_of handed) ∙ ap (λ j. changed j (nanos_of e.question) a v.standing) (sym is) in
    let number = (stood v e).context.view.attempt in
    let told : reply_of (kind_of e) number e.answer ≡ r = ap (λ j. reply_of j number a) is ∙ ap (λ (d : Standing). reply_of k d.context.view.attempt a) (sym after) ∙ sym hr in
    let moved = hg (after_entry (stood v e) e) e (sym after) (subst (λ t. Tells (after_entry (stood v e) e) t) told (tells_itself (stood v e) e)) (pending_itself number e ∙ ap (λ t. t.pending) told) in
    ap (λ (d : Standing). let x : Invocation = record { stop = v.stop; standing = d; stage = g; lost = v.lost } in x) after
    ∙ ap (λ (h : Stage). let x : Invocation = record { stop = v.stop; standing = stood v e; stage = h; lost = v.lost } in x) moved

pub told_made : (v : Invocation) (p : Point) (k : Kind) (q : Question) (a : Answer) (before log : List Entry) → k ≡ asks_at p v.stage.waiting → q ≡ asks k v.standing →
    log ≡ before ++ entry q a ∷ [] → log ≡ before ++ made v p a ∷ []
told_made v p k q a before log hk hq h =
    subst (λ r. log ≡ before ++ entry r a ∷ []) (hq ∙ ap (λ j. asks j v.standing) hk) h

pub fits_made : (v : Invocation) (p : Point) (k : Kind) (q : Question) (a : Answer) → k ≡ asks_at p v.stage.waiting → q ≡ asks k v.standing →
    fits (kind_of_question q) a ≡ true → fits (asks_at p v.stage.waiting) a ≡ true
fits_made v p k q a hk hq h =
    subst (λ j. fits j a ≡ true) (ap kind_of_question (hq ∙ ap (λ j. asks j v.standing) hk) ∙ asks_kind (asks_at p v.stage.waiting) v.standing) h

-- the invocation while it asks
abbrev pub asking : Invocation → Invocation
asking v = record v { lost = true }

pub drove_once : (v w x : Invocation) (p : Point) (before log : List Entry) → v.stage.place.point ≡ Some p → AskedOnce (asking v) w p before log → x ≡ record w { lost = false } → Drove Asked v x before log
drove_once v w x p before log h (a, g, f, i) j =
    drove v x p a before log h g f (j ∙ ap (λ (u : Invocation). let y : Invocation = record u { lost = false } in y) i)

pub lost_once : (v w : Invocation) (p : Point) (before log : List Entry) → v.stage.place.point ≡ Some p → AskedInVain (asking v) w p before log → Lost v w before log
lost_once v w p before log h (g, inl i) = (g, λ s l z. inl i)
lost_once v w p before log h (g, inr (inl i)) = (
  g,
  λ s l z. inr (inl (
    asks (asks_at p v.stage.waiting) v.standing,
    i,
    λ a f. stands_begins_run s (l ++ made v p a ∷ []) (driven v p a) (stands_on s l v p a h (subst (λ j. fits j a ≡ true) (asks_kind (asks_at p v.stage.waiting) v.standing) f) z),
  )),
)
lost_once v w p before log h (g, inr (inr (a, i, f))) = (g, λ s l z. inr (inr (made v p a, i, stands_begins_run s (l ++ made v p a ∷ []) (driven v p a) (stands_on s l v p a h f z))))
