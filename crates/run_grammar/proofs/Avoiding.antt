-- Words none of whose entries is of such a kind.
use Rattle.run_grammar.specs.Tests.{holds}
use Rattle.std.proofs.Common.{Bool, true, false, cond, not, ℕ, zero, suc, List, [], ◌∷◌, ◌++◌, ◌≡◌, refl, sym, ap, ◌∙◌, subst, inl, inr}
use Rattle.run_grammar.specs.declared.kind.Abandonable.{Abandonable}
use Rattle.run_grammar.specs.declared.kind.Abandonable.TheVariants as abandoned
use Rattle.run_grammar.specs.declared.kind.Role.{Role}
use Rattle.run_grammar.specs.declared.kind.Role.TheVariants as roles
use Rattle.run_grammar.specs.declared.kind.Kind.{Kind}
use Rattle.run_grammar.specs.declared.kind.Kind.TheVariants as kinds
use Rattle.run_grammar.specs.declared.answer.Entry.{Entry}
use Rattle.run_grammar.specs.Entry.{kind_of, same_role, abandon_of}
use Rattle.run_grammar.specs.Standing.{State, standing}
use Rattle.run_grammar.specs.Production.{Production, Nothing, Work, ◌⨟◌, Where, Rounds, Again, InAttempt, Under, End, Ended, Further, CutBy}
use Rattle.run_grammar.specs.Words.{Word, WaitsOf, Struck, Idle, AfterIdles, Answered, CutOnce, RoundsOf, ScopeEnds}
use Rattle.run_grammar.proofs.Watch.{both}

-- no entry of the list is of such a kind
abbrev pub Avoids : (Kind → Bool) → List Entry → Type 0
Avoids c [] = Unit {0}
Avoids c (e ∷ l) = (c (kind_of e) ≡ false) × Avoids c l

-- the questions that may come beside any other are not of such a kind
pub record Aside (c : Kind → Bool) : Type 0 where
  pub waits : (d : Role) → c (kinds.Wait d) ≡ false
  pub parks : c kinds.Park ≡ false
  pub gives_up : (x : Abandonable) → c (kinds.Abandon x) ≡ false

-- no question of the production is of such a kind
abbrev pub avoids : (Kind → Bool) → Production → Bool
avoids c Nothing = true
avoids c Again = true
avoids c (Work k) = not (c k)
avoids c (p ⨟ q) = cond (avoids c p) (avoids c q) false
avoids c (Where t p q) = cond (avoids c p) (avoids c q) false
avoids c (Rounds p q) = cond (avoids c p) (avoids c q) false
avoids c (InAttempt p) = avoids c p
avoids c (Under d p q) = cond (avoids c p) (avoids c q) false

not_true : (b : Bool) → not b ≡ true → b ≡ false
not_true true h = absurd (cc)
not_true false h = refl

module _ (c : Kind → Bool) (o : Aside c) where
  avoids_both : (a b l : List Entry) → l ≡ a ++ b → Avoids c a → Avoids c b → Avoids c l
  avoids_both a b l e h g = subst (Avoids c) (sym e) (joined a h)
    where
      joined : (d : List Entry) → Avoids c d → Avoids c (d ++ b)
      joined [] n = g
      joined (x ∷ d) n = (n.0, joined d n.1)

  of_kind : (e : Entry) (k : Kind) → kind_of e ≡ k → c k ≡ false → c (kind_of e) ≡ false
  of_kind e k h b = ap c h ∙ b

  avoids_abandon : (k : Kind) → c (abandon_of k) ≡ false
  avoids_abandon (kinds.Configure w) = o.parks
  avoids_abandon (kinds.Hook h) = o.parks
  avoids_abandon kinds.Serialize = o.parks
  avoids_abandon kinds.Load = o.gives_up abandoned.Load
  avoids_abandon kinds.Initial = o.parks
  avoids_abandon (kinds.Start r) = o.parks
  avoids_abandon (kinds.Wait roles.Operation) = o.parks
  avoids_abandon (kinds.Wait roles.Attempt) = o.parks
  avoids_abandon (kinds.Wait roles.Send) = o.gives_up abandoned.WaitSend
  avoids_abandon (kinds.Wait roles.Retry) = o.gives_up abandoned.WaitRetry
  avoids_abandon (kinds.Wait roles.LongPoll) = o.gives_up abandoned.WaitLongPoll
  avoids_abandon kinds.Choose = o.gives_up abandoned.Choose
  avoids_abandon kinds.Endpoint = o.gives_up abandoned.Endpoint
  avoids_abandon kinds.Apply = o.parks
  avoids_abandon kinds.Sign = o.parks
  avoids_abandon kinds.Transmit = o.gives_up abandoned.Transmit
  avoids_abandon kinds.Stream = o.parks
  avoids_abandon kinds.Body = o.gives_up abandoned.Body
  avoids_abandon kinds.Deserialize = o.parks
  avoids_abandon kinds.Decide = o.parks
  avoids_abandon (kinds.Abandon p) = o.parks
  avoids_abandon kinds.Park = o.parks

  avoids_waits : (ds : List Role) (l : List Entry) → WaitsOf ds l → Avoids c l
  avoids_waits [] [] w = absurd w
  avoids_waits (d ∷ ds) [] w = absurd w
  avoids_waits [] (e ∷ l) (k, n) = (of_kind e kinds.Park k o.parks, subst (Avoids c) (sym n) tt)
  avoids_waits (d ∷ ds) (e ∷ l) (k, p, w) = (of_kind e (kinds.Wait d) k (o.waits d), avoids_waits ds l w)

  avoids_struck : (k : Kind) (d : Role) (ds : List Role) (l : List Entry) → Struck k d ds l → Avoids c l
  avoids_struck k d [] l w = absurd w
  avoids_struck k d (x ∷ ds) [] w = absurd w
  avoids_struck k d (x ∷ ds) (e ∷ l) (j, inl (p, w)) = (of_kind e (kinds.Wait x) j (o.waits x), avoids_struck k d ds l w)
  avoids_struck k d (x ∷ ds) (e ∷ l) (j, inr (same, p, r, a, n, i)) =
      (of_kind e (kinds.Wait x) j (o.waits x), subst (Avoids c) (sym n) (of_kind a (abandon_of k) i (avoids_abandon k), tt))

  avoids_idle : (k : Kind) (ds : List Role) (l : List Entry) → c k ≡ false → Idle k ds l → Avoids c l
  avoids_idle k ds [] b w = absurd w
  avoids_idle k ds (e ∷ l) b (j, p, w) = (of_kind e k j b, avoids_waits ds l w)

  avoids_idles : (k : Kind) (ds : List Role) (last : List Entry → Type 0) → c k ≡ false → ((l : List Entry) → last l → Avoids c l) → (n : ℕ) (l : List Entry) → AfterIdles k ds last n l → Avoids c l
  avoids_idles k ds last b f zero l w = f l w
  avoids_idles k ds last b f (suc n) l (a, d, e, i, w) = avoids_both a d l e (avoids_idle k ds a b i) (avoids_idles k ds last b f n d w)

  avoids_answered : (k : Kind) → c k ≡ false → (l : List Entry) → Answered k l → Avoids c l
  avoids_answered k b l (e, n, j, p) = subst (Avoids c) (sym n) (of_kind e k j b, tt)

  avoids_cut : (k : Kind) (d : Role) (ds : List Role) → c k ≡ false → (l : List Entry) → CutOnce k d ds l → Avoids c l
  avoids_cut k d ds b [] w = absurd w
  avoids_cut k d ds b (e ∷ l) (j, p, w) = (of_kind e k j b, avoids_struck k d ds l w)

  avoids_rounds : (V W : End → State → List Entry → Type 0) → ((x : End) (s : State) (l : List Entry) → V x s l → Avoids c l) → ((x : End) (s : State) (l : List Entry) → W x s l → Avoids c l) →
      (n : ℕ) (x : End) (s : State) (l : List Entry) → RoundsOf V W n x s l → Avoids c l
  avoids_rounds V W f g zero x s l (h, w) = f x s l w
  avoids_rounds V W f g (suc n) x s l (a, b, e, v, w) = avoids_both a b l e (f Further s a v) (avoids_rounds W W g g n x (standing s a) b w)

  pub avoids_scope : (d : Role) (inner : End → List Entry → Type 0) → ((x : End) (l : List Entry) → inner x l → Avoids c l) → (y x : End) (l : List Entry) → ScopeEnds d inner y x l → Avoids c l
  avoids_scope d inner f Ended x l (e, n) = subst (Avoids c) (sym n) tt
  avoids_scope d inner f Further x l (e, n) = subst (Avoids c) (sym n) tt
  avoids_scope d inner f (CutBy g i) x l w =
      (elim (same_role d g) as (λ t. cond t (cond i (inner x l) ((x ≡ Ended) × (l ≡ []))) ((x ≡ CutBy g i) × (l ≡ [])) → Avoids c l) [
        | true ↦ elim i as (λ t. cond t (inner x l) ((x ≡ Ended) × (l ≡ [])) → Avoids c l) [ true ↦ λ u. f x l u | false ↦ λ u. subst (Avoids c) (sym u.1) tt ]
        | false ↦ λ u. subst (Avoids c) (sym u.1) tt
      ]) w

  pub word_avoids : (p : Production) → avoids c p ≡ true → (ds : List Role) (x : End) (s : State) (l : List Entry) → Word p ds x s l → Avoids c l
  word_avoids Nothing h ds x s l (e, n) = subst (Avoids c) (sym n) tt
  word_avoids Again h ds x s l (e, n) = subst (Avoids c) (sym n) tt
  word_avoids (Work k) h ds x s l (inl (e, (n, w))) = let b = not_true (c k) h in avoids_idles k ds (Answered k) b (avoids_answered k b) n l w
  word_avoids (Work k) h ds x s l (inr (d, e, (n, w))) = let b = not_true (c k) h in avoids_idles k ds (CutOnce k d ds) b (avoids_cut k d ds b) n l w
  word_avoids (p ⨟ q) h ds x s l (inl (a, b, e, v, w)) =
      let g = both (avoids c p) (avoids c q) h in avoids_both a b l e (word_avoids p g.0 ds Ended s a v) (word_avoids q g.1 ds x (standing s a) b w)
  word_avoids (p ⨟ q) h ds x s l (inr (e, w)) = word_avoids p (both (avoids c p) (avoids c q) h).0 ds x s l w
  word_avoids (Where t p q) h ds x s l w =
      let g = both (avoids c p) (avoids c q) h in
      (elim (holds t s) as (λ b. cond b (Word p ds x s l) (Word q ds x s l) → Avoids c l) [ true ↦ λ v. word_avoids p g.0 ds x s l v | false ↦ λ v. word_avoids q g.1 ds x s l v ]) w
  word_avoids (Rounds p q) h ds x s l (n, w) =
      let g = both (avoids c p) (avoids c q) h in
      avoids_rounds (Word p ds) (Word q ds) (λ y t m v. word_avoids p g.0 ds y t m v) (λ y t m v. word_avoids q g.1 ds y t m v) n x s l w
  word_avoids (InAttempt p) h ds x s l (y, e, w) = word_avoids p h ds y s l w
  word_avoids (Under d p q) h ds x s l (a, b, y, e, v, w) =
      let g = both (avoids c p) (avoids c q) h in
      avoids_both a b l e (word_avoids p g.0 (d ∷ ds) y s a v) (avoids_scope d (λ z m. Word q ds z (standing s a) m) (λ z m u. word_avoids q g.1 ds z (standing s a) m u) y x b w)
