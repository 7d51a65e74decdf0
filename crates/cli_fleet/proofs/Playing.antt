-- Callers before they begin, and what they come to.
use Rattle.std.proofs.Common.{◌≡◌, ◌∙◌, refl, sym, ap, subst, ℕ, suc, ◌+◌, ◌≤◌, Bool, true, false, ◌&&◌, List, [], ◌∷◌, ◌++◌, length, map, arith}
use Rattle.std.specs.Prelude.{Ok, Err}
use Rattle.std.proofs.lemmas.Bool.{leb-true}
use Rattle.std.specs.List.{AllByRecursion}
use Rattle.retry_quota_cell.specs.Fleet.{Each}
use Rattle.retry_quota_cell.specs.Known.{Place}
use Rattle.json_scripts.specs.Fleet.Limits.{fleet_script_fits}
use Rattle.json_scripts.specs.declared.fleet.terms.CallerRecord.{CallerRecord}
use Rattle.json_scripts.specs.declared.fleet.terms.FleetScript.{FleetScript}
use Rattle.cli_fleet.specs.Fleet.{Done, DoneAt, work_of, works_from}
use Rattle.cli_fleet.specs.Print.{IsEnded, IsTold, outcome_in, text_in}
use Rattle.cli_fleet.specs.Working.{EndsSo, steps_of}
use Rattle.cli_fleet.specs.declared.caller.CallerState.{CallerState}
use Rattle.cli_fleet.specs.declared.caller.CallerState.TheVariants.{Ready, Ended}
use Rattle.cli_fleet.specs.declared.work.CallerWork.{CallerWork}
use Rattle.cli_fleet.proofs.Printing.{mapped_more}

-- ---- before they begin

works_more : (start : ℕ) (words : List ℕ) (n m : ℕ) (cs : List CallerRecord) (c : CallerRecord) → m ≡ n + length cs
    → works_from start words n (cs ++ c ∷ []) ≡ works_from start words n cs ++ work_of start words m c ∷ []
works_more start words n m [] c h = ap (λ k. work_of start words k c ∷ []) (sym (h ∙ omega arith))
works_more start words n m (x ∷ cs) c h = ap (λ l. work_of start words n x ∷ l) (works_more start words (n + 1) m cs c (h ∙ omega arith))

-- those before are ready
pub record ReadySo (start : ℕ) (words : List ℕ) (done : List CallerRecord) (number count : ℕ) (states : List CallerState) : Type 0 where
  pub ready : states ≡ map Ready (works_from start words 0 done)
  pub counted : number ≡ length done
  pub as_many : count ≡ length done

pub none_ready : (start : ℕ) (words : List ℕ) → ReadySo start words [] 0 0 []
none_ready start words = record { ready = refl; counted = refl; as_many = refl }

pub one_ready : (start : ℕ) (words : List ℕ) (done : List CallerRecord) (c : CallerRecord) (number next count more : ℕ) (states after : List CallerState) (work : CallerWork)
    → ReadySo start words done number count states → work ≡ work_of start words number c → next ≡ number + 1 → more ≡ count + 1 → after ≡ states ++ Ready work ∷ []
    → ReadySo start words (done ++ c ∷ []) next more after
one_ready start words done c number next count more states after work h w e f a = record {
  ready = a ∙ ap (λ s. s ++ Ready work ∷ []) h.ready ∙ ap (λ x. map Ready (works_from start words 0 done) ++ Ready x ∷ []) w
      ∙ sym (mapped_more Ready (works_from start words 0 done) (work_of start words number c)) ∙ ap (map Ready) (sym (works_more start words 0 number done c (h.counted ∙ omega arith)));
  counted = e ∙ ap (λ n. n + 1) h.counted ∙ sym (longer done c);
  as_many = f ∙ ap (λ n. n + 1) h.as_many ∙ sym (longer done c);
} where
  longer : (xs : List CallerRecord) (x : CallerRecord) → length (xs ++ x ∷ []) ≡ length xs + 1
  longer [] x = omega arith
  longer (y ∷ xs) x = ap suc (longer xs x) ∙ omega arith

-- ---- what they come to

abbrev pub done_of : CallerState → Done
done_of s = record { text = text_in s; outcome = outcome_in s; steps = steps_of s }

-- pairs of what is made of each
pub each_mapped : {A B C D : Type 0} (f : A → C) (g : B → D) (R : C → D → Type 0) (xs : List A) (ys : List B) → Each (λ x y. R (f x) (g y)) xs ys → Each R (map f xs) (map g ys)
each_mapped f g R [] [] e = tt
each_mapped f g R [] (y ∷ ys) e = absurd e
each_mapped f g R (x ∷ xs) [] e = absurd e
each_mapped f g R (x ∷ xs) (y ∷ ys) e = (e.0, each_mapped f g R xs ys e.1)

pub has_ended : (place : Place) (old new : CallerState) → EndsSo place old new → IsEnded new
has_ended place old (Ready work) e = absurd e
has_ended place old (Ended told end) e = tt

one_done : (place : Place) (work : CallerWork) (s : CallerState) → EndsSo place (Ready work) s → IsTold s → DoneAt place work (done_of s)
one_done place work (Ready other) e t = absurd e
one_done place work (Ended (Ok told) end) e t = e
one_done place work (Ended (Err error) end) e t = absurd t

all_done : (place : Place) (works : List CallerWork) (states : List CallerState) → Each (EndsSo place) (map Ready works) states → AllByRecursion IsTold states → Each (DoneAt place) works (map done_of states)
all_done place [] [] e t = tt
all_done place [] (s ∷ states) e t = absurd e
all_done place (w ∷ works) [] e t = absurd e
all_done place (w ∷ works) (s ∷ states) e t = (one_done place w s e.0 t.0, all_done place works states e.1 t.1)

-- each caller that was ready has done its work
pub works_done : (place : Place) (works : List CallerWork) (before after : List CallerState) → before ≡ map Ready works → Each (EndsSo place) before after → AllByRecursion IsTold after → Each (DoneAt place) works (map done_of after)
works_done place works before after r e t = all_done place works after (subst (λ b. Each (EndsSo place) b after) r e) t

-- what is read of each of these
pub read_of : {A : Type 0} (f : Done → A) (states : List CallerState) → map f (map done_of states) ≡ map (λ s. f (done_of s)) states
read_of f [] = refl
read_of f (s ∷ states) = ap (λ l. f (done_of s) ∷ l) (read_of f states)

pub mapped_twice : {A B C : Type 0} (f : A → B) (h : B → C) (xs : List A) → map h (map f xs) ≡ map (λ x. h (f x)) xs
mapped_twice f h [] = refl
mapped_twice f h (x ∷ xs) = ap (λ l. h (f x) ∷ l) (mapped_twice f h xs)

-- ---- limits

first_of : (a b : Bool) → (a && b) ≡ true → a ≡ true
first_of true b h = refl
first_of false b h = h

second_of : (a b : Bool) → (a && b) ≡ true → b ≡ true
second_of true b h = h
second_of false b h = absurd (cc)

-- a script within its limits has at most 16 callers
pub few_callers : (s : FleetScript) → fleet_script_fits s ≡ true → length s.callers ≤ 16
unfolding fleet_script_fits
few_callers s h = leb-true _ _ (first_of _ _ (second_of _ _ (second_of _ _ h)))
