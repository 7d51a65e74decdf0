-- From every position some whole list goes on.
use Rattle.run_grammar.specs.declared.production.Test.{Test}
use Rattle.run_grammar.specs.Tests.{holds}
use Rattle.std.proofs.Common.{Bool, true, false, cond, zero, suc, None, List, [], ◌∷◌, ◌++◌, ◌≡◌, ◌⊎◌, refl, sym, ap, subst, inl, inr, append-nil}
use Rattle.run_grammar.specs.declared.kind.Role.{Role}
use Rattle.run_grammar.specs.declared.kind.Kind.{Kind}
use Rattle.run_grammar.specs.declared.answer.Answer.{Answer}
use Rattle.run_grammar.specs.declared.answer.Entry.{Entry}
use Rattle.run_grammar.specs.declared.answer.Answer.TheVariants.{Abandoned, Absent, Hooked, Parked, Ready}
use Rattle.run_grammar.specs.declared.kind.Kind.TheVariants as kinds
use Rattle.smithy_context.specs.declared.intercept.HookAnswer.{HookAnswer}
use Rattle.run_grammar.specs.Question.{kind_of_question}
use Rattle.run_grammar.specs.Entry.{kind_of, pending, can_wait, is_pending}
use Rattle.run_grammar.specs.Fits.{fits}
use Rattle.run_grammar.specs.Standing.{State, standing, WellHanded, asked}
use Rattle.run_grammar.specs.Production.{Production, Nothing, Work, ◌⨟◌, Where, Rounds, Again, InAttempt, Under, End, Ended, Further}
use Rattle.run_grammar.specs.Words.{Word}
use Rattle.run_grammar.specs.Laws.{EachFits}
use Rattle.run_grammar.specs.Entry.{entry}
use Rattle.run_grammar.proofs.Paths.{handed_on, fits_on}

-- a question of a kind is of that kind
pub asked_kind : (k : Kind) (s : State) → kind_of_question (asked k s) ≡ k
unfolding asked
asked_kind (kinds.Configure w) s = refl
asked_kind (kinds.Hook h) s = refl
asked_kind kinds.Serialize s = refl
asked_kind kinds.Load s = refl
asked_kind kinds.Initial s = refl
asked_kind (kinds.Start r) s = refl
asked_kind (kinds.Wait r) s = refl
asked_kind kinds.Choose s = refl
asked_kind kinds.Endpoint s = refl
asked_kind kinds.Apply s = refl
asked_kind kinds.Sign s = refl
asked_kind kinds.Transmit s = refl
asked_kind kinds.Stream s = refl
asked_kind kinds.Body s = refl
asked_kind kinds.Deserialize s = refl
asked_kind kinds.Decide s = refl
asked_kind (kinds.Abandon p) s = refl
asked_kind kinds.Park s = refl

-- the entry of this answer to the question that is asked of what stands
abbrev pub made : Kind → State → Answer → Entry
made k s a = entry (asked k s) a

pub made_handed : (k : Kind) (s : State) → asked k s ≡ asked (kind_of_question (asked k s)) s
made_handed k s = ap (λ j. asked j s) (sym (asked_kind k s))

pub made_fits : (k : Kind) (s : State) (a : Answer) → fits k a ≡ true → fits (kind_of (made k s a)) a ≡ true
made_fits k s a f = subst (λ j. fits j a ≡ true) (sym (asked_kind k s)) f

-- the answer of a hook that does nothing
abbrev pub done : HookAnswer
done = record { change = None; settings = []; failure = None }

-- an answer that fits and is not Pending
abbrev pub closing : Kind → Answer
closing (kinds.Hook h) = Hooked done
closing (kinds.Wait r) = Ready
closing (kinds.Abandon p) = Abandoned
closing kinds.Park = Parked
closing _ = Absent

pub closing_fits : (k : Kind) → fits k (closing k) ≡ true
unfolding fits
closing_fits (kinds.Configure w) = refl
closing_fits (kinds.Hook h) = refl
closing_fits kinds.Serialize = refl
closing_fits kinds.Load = refl
closing_fits kinds.Initial = refl
closing_fits (kinds.Start r) = refl
closing_fits (kinds.Wait r) = refl
closing_fits kinds.Choose = refl
closing_fits kinds.Endpoint = refl
closing_fits kinds.Apply = refl
closing_fits kinds.Sign = refl
closing_fits kinds.Transmit = refl
closing_fits kinds.Stream = refl
closing_fits kinds.Body = refl
closing_fits kinds.Deserialize = refl
closing_fits kinds.Decide = refl
closing_fits (kinds.Abandon p) = refl
closing_fits kinds.Park = refl

closing_tells : (k : Kind) → cond (can_wait k) (is_pending (closing k)) false ≡ false
closing_tells (kinds.Configure w) = refl
closing_tells (kinds.Hook h) = refl
closing_tells kinds.Serialize = refl
closing_tells kinds.Load = refl
closing_tells kinds.Initial = refl
closing_tells (kinds.Start r) = refl
closing_tells (kinds.Wait r) = refl
closing_tells kinds.Choose = refl
closing_tells kinds.Endpoint = refl
closing_tells kinds.Apply = refl
closing_tells kinds.Sign = refl
closing_tells kinds.Transmit = refl
closing_tells kinds.Stream = refl
closing_tells kinds.Body = refl
closing_tells kinds.Deserialize = refl
closing_tells kinds.Decide = refl
closing_tells (kinds.Abandon p) = refl
closing_tells kinds.Park = refl

abbrev pub closer : Kind → State → Entry
closer k s = made k s (closing k)

pub closing_pending : (k : Kind) (s : State) → pending (closer k s) ≡ false
unfolding pending
closing_pending k s = subst (λ j. cond (can_wait j) (is_pending (closing k)) false ≡ false) (sym (asked_kind k s)) (closing_tells k)

-- a word that ends so, each of whose entries is well handed and fits
pub record Done (p : Production) (ds : List Role) (x : End) (s : State) : Type 0 where
  pub list : List Entry
  pub word : Word p ds x s list
  pub handed : WellHanded s list
  pub fitting : EachFits list

-- it has no Again of its own
abbrev pub closed : Production → Bool
closed Nothing = true
closed Again = false
closed (Work k) = true
closed (p ⨟ q) = cond (closed p) (closed q) false
closed (Where test p q) = cond (closed p) (closed q) false
closed (Rounds p q) = true
closed (InAttempt p) = closed p
closed (Under d p q) = cond (closed p) (closed q) false

-- each further round can end the rounds
abbrev pub Closing : Production → Type 0
Closing Nothing = Unit {0}
Closing Again = Unit {0}
Closing (Work k) = Unit {0}
Closing (p ⨟ q) = Closing p × Closing q
Closing (Where test p q) = Closing p × Closing q
Closing (Rounds p q) = Closing p × Closing q × ((ds : List Role) (s : State) → Done q ds Ended s)
Closing (InAttempt p) = Closing p
Closing (Under d p q) = Closing p × Closing q

left_open : (a b : Bool) → a ≡ false → cond a b false ≡ false
left_open a b h = subst (λ c. cond c b false ≡ false) (sym h) refl

right_open : (a b : Bool) → b ≡ false → cond a b false ≡ false
right_open true b h = h
right_open false b h = refl

abbrev pub done_work : (k : Kind) (ds : List Role) (s : State) → Done (Work k) ds Ended s
done_work k ds s = record {
  list = closer k s ∷ [];
  word = inl (refl, (zero, (closer k s, refl, asked_kind k s, closing_pending k s)));
  handed = (made_handed k s, tt);
  fitting = (made_fits k s (closing k) (closing_fits k), tt);
}

pub done_then : (p q : Production) (ds : List Role) (x : End) (s : State) → Done p ds Ended s → ((t : State) → Done q ds x t) → Done (p ⨟ q) ds x s
done_then p q ds x s d f =
    let e = f (standing s d.list) in
    record {
      list = d.list ++ e.list;
      word = inl (d.list, e.list, refl, d.word, e.word);
      handed = handed_on d.list e.list s d.handed e.handed;
      fitting = fits_on d.list e.list d.fitting e.fitting;
    }

abbrev pub done_then_here : (p q : Production) (ds : List Role) (x : End) (s : State) (d : Done p ds Ended s) → Done q ds x (standing s d.list) → Done (p ⨟ q) ds x s
done_then_here p q ds x s d e =
    record {
      list = d.list ++ e.list;
      word = inl (d.list, e.list, refl, d.word, e.word);
      handed = handed_on d.list e.list s d.handed e.handed;
      fitting = fits_on d.list e.list d.fitting e.fitting;
    }

done_early : (p q : Production) (ds : List Role) (s : State) → Done p ds Further s → Done (p ⨟ q) ds Further s
done_early p q ds s d = record { list = d.list; word = inr (refl, d.word); handed = d.handed; fitting = d.fitting }

done_last : (p q : Production) (ds : List Role) (s : State) → Done p ds Ended s → Done (Rounds p q) ds Ended s
done_last p q ds s d = record { list = d.list; word = (zero, (refl, d.word)); handed = d.handed; fitting = d.fitting }

done_more : (p q : Production) (ds : List Role) (s : State) (d : Done p ds Further s) → Done q ds Ended (standing s d.list) → Done (Rounds p q) ds Ended s
done_more p q ds s d e =
    record {
      list = d.list ++ e.list;
      word = (suc zero, (d.list, e.list, refl, d.word, (refl, e.word)));
      handed = handed_on d.list e.list s d.handed e.handed;
      fitting = fits_on d.list e.list d.fitting e.fitting;
    }

done_under : (c : Role) (p q : Production) (ds : List Role) (s : State) → Done p (c ∷ ds) Ended s → Done (Under c p q) ds Ended s
done_under c p q ds s d = record { list = d.list; word = (d.list, [], Ended, sym (append-nil d.list), d.word, (refl, refl)); handed = d.handed; fitting = d.fitting }

done_under_further : (c : Role) (p q : Production) (ds : List Role) (s : State) → Done p (c ∷ ds) Further s → Done (Under c p q) ds Further s
done_under_further c p q ds s d = record { list = d.list; word = (d.list, [], Further, sym (append-nil d.list), d.word, (refl, refl)); handed = d.handed; fitting = d.fitting }

done_within : (p : Production) (ds : List Role) (s : State) → Done p ds Ended s → Done (InAttempt p) ds Ended s
done_within p ds s d = record { list = d.list; word = (Ended, refl, d.word); handed = d.handed; fitting = d.fitting }

done_within_further : (p : Production) (ds : List Role) (s : State) → Done p ds Further s → Done (InAttempt p) ds Further s
done_within_further p ds s d = record { list = d.list; word = (Further, refl, d.word); handed = d.handed; fitting = d.fitting }

abbrev pub Finish : Production → List Role → State → Type 0
Finish p ds s = Done p ds Ended s ⊎ ((closed p ≡ false) × Done p ds Further s)

finish_then_here : (p q : Production) (ds : List Role) (s : State) (d : Done p ds Ended s) → Finish q ds (standing s d.list) → Finish (p ⨟ q) ds s
finish_then_here p q ds s d (inl e) = inl (done_then_here p q ds Ended s d e)
finish_then_here p q ds s d (inr (h, e)) = inr (right_open (closed p) (closed q) h, done_then_here p q ds Further s d e)

finish_then : (p q : Production) (ds : List Role) (s : State) → Finish p ds s → ((t : State) → Finish q ds t) → Finish (p ⨟ q) ds s
finish_then p q ds s (inl d) f = finish_then_here p q ds s d (f (standing s d.list))
finish_then p q ds s (inr (h, d)) f = inr (left_open (closed p) (closed q) h, done_early p q ds s d)

finish_rounds : (p q : Production) (ds : List Role) (s : State) → Finish p ds s → ((t : State) → Done q ds Ended t) → Finish (Rounds p q) ds s
finish_rounds p q ds s (inl d) f = inl (done_last p q ds s d)
finish_rounds p q ds s (inr (h, d)) f = inl (done_more p q ds s d (f (standing s d.list)))

finish_under : (c : Role) (p q : Production) (ds : List Role) (s : State) → Finish p (c ∷ ds) s → Finish (Under c p q) ds s
finish_under c p q ds s (inl d) = inl (done_under c p q ds s d)
finish_under c p q ds s (inr (h, d)) = inr (left_open (closed p) (closed q) h, done_under_further c p q ds s d)

done_where_true : (t : Test) (p q : Production) (ds : List Role) (x : End) (s : State) → holds t s ≡ true → Done p ds x s → Done (Where t p q) ds x s
done_where_true t p q ds x s h d =
    record { list = d.list; word = subst (λ b. cond b (Word p ds x s d.list) (Word q ds x s d.list)) (sym h) d.word; handed = d.handed; fitting = d.fitting }

pub done_where_false : (t : Test) (p q : Production) (ds : List Role) (x : End) (s : State) → holds t s ≡ false → Done q ds x s → Done (Where t p q) ds x s
done_where_false t p q ds x s h d =
    record { list = d.list; word = subst (λ b. cond b (Word p ds x s d.list) (Word q ds x s d.list)) (sym h) d.word; handed = d.handed; fitting = d.fitting }

finish_where_true : (t : Test) (p q : Production) (ds : List Role) (s : State) → holds t s ≡ true → Finish p ds s → Finish (Where t p q) ds s
finish_where_true t p q ds s h (inl d) = inl (done_where_true t p q ds Ended s h d)
finish_where_true t p q ds s h (inr (o, d)) = inr (left_open (closed p) (closed q) o, done_where_true t p q ds Further s h d)

finish_where_false : (t : Test) (p q : Production) (ds : List Role) (s : State) → holds t s ≡ false → Finish q ds s → Finish (Where t p q) ds s
finish_where_false t p q ds s h (inl d) = inl (done_where_false t p q ds Ended s h d)
finish_where_false t p q ds s h (inr (o, d)) = inr (right_open (closed p) (closed q) o, done_where_false t p q ds Further s h d)

pub done_nothing : (ds : List Role) (s : State) → Done Nothing ds Ended s
done_nothing ds s = record { list = []; word = (refl, refl); handed = tt; fitting = tt }

finish_within : (p : Production) (ds : List Role) (s : State) → Finish p ds s → Finish (InAttempt p) ds s
finish_within p ds s (inl d) = inl (done_within p ds s d)
finish_within p ds s (inr (h, d)) = inr (h, done_within_further p ds s d)

pub finishing : (p : Production) → Closing p → (ds : List Role) (s : State) → Finish p ds s
finishing Nothing c ds s = inl (done_nothing ds s)
finishing Again c ds s = inr (refl, record { list = []; word = (refl, refl); handed = tt; fitting = tt })
finishing (Work k) c ds s = inl (done_work k ds s)
finishing (p ⨟ q) c ds s = finish_then p q ds s (finishing p c.0 ds s) (λ t. finishing q c.1 ds t)
finishing (Where test p q) c ds s =
    (elim (holds test s) as (λ b. holds test s ≡ b → Finish (Where test p q) ds s) [
      | true ↦ λ h. finish_where_true test p q ds s h (finishing p c.0 ds s)
      | false ↦ λ h. finish_where_false test p q ds s h (finishing q c.1 ds s)
    ]) refl
finishing (Rounds p q) c ds s = finish_rounds p q ds s (finishing p c.0 ds s) (λ t. c.2 ds t)
finishing (InAttempt p) c ds s = finish_within p ds s (finishing p c ds s)
finishing (Under d p q) c ds s = finish_under d p q ds s (finishing p c.0 (d ∷ ds) s)

ended_of : (p : Production) (ds : List Role) (s : State) → closed p ≡ true → Finish p ds s → Done p ds Ended s
ended_of p ds s h (inl d) = d
ended_of p ds s h (inr (g, d)) = absurd (cc)

-- a closed production can be ended
pub ending : (p : Production) → Closing p → closed p ≡ true → (ds : List Role) (s : State) → Done p ds Ended s
ending p c h ds s = ended_of p ds s h (finishing p c ds s)
