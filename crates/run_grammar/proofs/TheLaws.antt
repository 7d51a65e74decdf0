-- No whole list is a prefix of another, one question continues a list, and a begun list goes on.
use Rattle.std.proofs.Common.{sym, true, List, [], ◌∷◌, ◌++◌, ◌≡◌, refl, subst, inl, inr, append_assoc, append-nil}
use Rattle.run_grammar.specs.declared.answer.Entry.{Entry}
use Rattle.smithy_types.specs.declared.kinds.StopPoint.{StopPoint}
use Rattle.run_grammar.specs.Entry.{kind_of}
use Rattle.run_grammar.specs.Question.{kind_of_question}
use Rattle.run_grammar.specs.Fits.{fits}
use Rattle.run_grammar.specs.Standing.{State, standing, step, asked, WellHanded}
use Rattle.run_grammar.specs.Grammar.{run}
use Rattle.run_grammar.specs.Machine.{Position, Whole, begin, next, Asks, Accepts, after, Path}
use Rattle.run_grammar.specs.Laws.{EachFits, IsRun, IsWhole, Begins, NoPrefix, OneQuestion, GoesOn, SomeAnswerFits}
use Rattle.run_grammar.proofs.Finishing.{asked_kind, closing, closing_fits, made, made_handed}
use Rattle.run_grammar.proofs.Positions.{FineAt, fine_begin, word_coming, coming_word}
use Rattle.run_grammar.proofs.Steps.{accepted, accepted_back}
use Rattle.run_grammar.proofs.Rounds.{fine_run}
use Rattle.run_grammar.proofs.Paths.{path_of, accepts_on, handed_of, handed_on, fits_of, fits_on, no_prefix, one_question}
use Rattle.run_grammar.proofs.Going.{GoodAt, good_begin, good_after, fine_after, rescue, asked_at}
use Rattle.run_grammar.proofs.Closed.{closing_run, closed_run}

pub run_accepted : (stop : StopPoint) (s : State) (l : List Entry) → IsRun stop s l → Accepts (begin (run stop) s) s l
run_accepted stop s l w = accepted l (begin (run stop) s) (fine_begin (run stop) (fine_run stop) s) s (word_coming (run stop) (fine_run stop) s l w)

pub accepted_run : (stop : StopPoint) (s : State) (l : List Entry) → Accepts (begin (run stop) s) s l → IsRun stop s l
accepted_run stop s l a = coming_word (run stop) (fine_run stop) s l (accepted_back l (begin (run stop) s) (fine_begin (run stop) (fine_run stop) s) s a)

pub no_prefix_law : NoPrefix
no_prefix_law stop s l m w v = no_prefix l m (begin (run stop) s) s (run_accepted stop s l w.run) (run_accepted stop s (l ++ m) v.run)

regroup : (l m : List Entry) (e : Entry) → (l ++ e ∷ []) ++ m ≡ l ++ e ∷ m
regroup l m e = append_assoc l (e ∷ []) m

pub one_question_law : OneQuestion
one_question_law stop s l e f (m, w) (n, v) =
    one_question l m n e f (begin (run stop) s) s
    (subst (λ k. Accepts (begin (run stop) s) s k) (regroup l m e) (run_accepted stop s ((l ++ e ∷ []) ++ m) w.run))
    (subst (λ k. Accepts (begin (run stop) s) s k) (regroup l n f) (run_accepted stop s ((l ++ f ∷ []) ++ n) v.run))
    (subst (λ k. WellHanded s k) (regroup l m e) w.handed)
    (subst (λ k. WellHanded s k) (regroup l n f) v.handed)

-- a list that the machine goes through begins a run, and so it stands at a position
pub record Stands (stop : StopPoint) (s : State) (l : List Entry) (p : Position) : Type 0 where
  pub path : Path (begin (run stop) s) s l
  pub handed : WellHanded s l
  pub fitting : EachFits l
  pub at : p ≡ after (begin (run stop) s) s l

abbrev pub there : StopPoint → State → List Entry → Position
there stop s l = after (begin (run stop) s) s l

pub stands_fine : (stop : StopPoint) (s : State) (l : List Entry) → FineAt (there stop s l)
stands_fine stop s l = fine_after l (begin (run stop) s) (fine_begin (run stop) (fine_run stop) s) s

pub stands_good : (stop : StopPoint) (s : State) (l : List Entry) (p : Position) → Stands stop s l p → GoodAt (there stop s l)
stands_good stop s l p w = good_after l (begin (run stop) s) (good_begin (run stop) (closing_run stop) (closed_run stop) s) s w.path w.fitting

pub whole_of : (stop : StopPoint) (s : State) (l m : List Entry) → Path (begin (run stop) s) s l → WellHanded s l → EachFits l →
    Accepts (there stop s l) (standing s l) m → WellHanded (standing s l) m → EachFits m → IsWhole stop s (l ++ m)
whole_of stop s l m p h f a g i =
    record { run = accepted_run stop s (l ++ m) (accepts_on l m (begin (run stop) s) s p a); handed = handed_on l m s h g; fitting = fits_on l m f i }

pub stands_begins : (stop : StopPoint) (s : State) (l : List Entry) (p : Position) → Stands stop s l p → Begins stop s l
stands_begins stop s l p w =
    let r = rescue (there stop s l) (stands_fine stop s l) (stands_good stop s l p w) (standing s l) in
    (r.list, whole_of stop s l r.list w.path w.handed w.fitting r.accepts r.handed r.fitting)

pub begins_stands : (stop : StopPoint) (s : State) (l : List Entry) → Begins stop s l → Stands stop s l (there stop s l)
begins_stands stop s l (m, w) =
    record {
      path = (path_of l m (begin (run stop) s) s (run_accepted stop s (l ++ m) w.run)).0;
      handed = (handed_of l m s w.handed).0;
      fitting = (fits_of l m w.fitting).0;
      at = refl;
    }

pub whole_stands : (stop : StopPoint) (s : State) (l : List Entry) (p : Position) → Stands stop s l p → there stop s l ≡ Whole → IsWhole stop s l
whole_stands stop s l p w e = subst (λ k. IsWhole stop s k) (append-nil l) (whole_of stop s l [] w.path w.handed w.fitting e tt tt)

pub path_more : (l : List Entry) (e : Entry) (p : Position) (s : State) → Path p s l → Asks (after p s l) (kind_of e) → Path p s (l ++ e ∷ [])
path_more [] e p s g a = (a, tt)
path_more (x ∷ l) e p s (h, g) a = (h, path_more l e (next p (step s x) x) (step s x) g a)

-- one more entry
pub stands_more : (stop : StopPoint) (s : State) (l : List Entry) (p : Position) → Stands stop s l p → (e : Entry) → Asks (there stop s l) (kind_of e) →
    e.question ≡ asked (kind_of e) (standing s l) → fits (kind_of e) e.answer ≡ true → Stands stop s (l ++ e ∷ []) (there stop s (l ++ e ∷ []))
stands_more stop s l p w e a h f =
    record { path = path_more l e (begin (run stop) s) s w.path a; handed = handed_on l (e ∷ []) s w.handed (h, tt); fitting = fits_on l (e ∷ []) w.fitting (f, tt); at = refl }

pub goes_on_law : GoesOn
goes_on_law stop s l b =
    let w = begins_stands stop s l b in
    elim (asked_at (there stop s l) (stands_good stop s l (there stop s l) w)) [
      | inl e ↦ inl (whole_stands stop s l (there stop s l) w e)
      | inr (k, a) ↦ inr (
        asked k (standing s l),
        λ x f.
            let e = made k (standing s l) x in
            let b = subst (λ j. Asks (there stop s l) j) (sym (asked_kind k (standing s l))) a in
            stands_begins stop s (l ++ e ∷ []) (there stop s (l ++ e ∷ [])) (stands_more stop s l (there stop s l) w e b (made_handed k (standing s l)) f),
      )
    ]

pub some_answer_fits : SomeAnswerFits
some_answer_fits q = (closing (kind_of_question q), closing_fits (kind_of_question q))
