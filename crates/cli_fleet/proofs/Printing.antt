-- One caller more is printed.
use Rattle.std.proofs.Common.{◌≡◌, ◌∙◌, refl, sym, ap, ℕ, zero, suc, ◌+◌, ◌<◌, List, [], ◌∷◌, ◌++◌, length, map, append_assoc, append-nil, arith}
use Rattle.std.specs.Prelude.{Option, unwrap_or, slice_index_or}
use Rattle.std.specs.List.{AllByRecursion}
use Rattle.retry_quota_cell.specs.Fleet.{Each}
use Rattle.json_print.specs.Print.{line}
use Rattle.cli_shell.specs.declared.status.PrintStatus.{PrintStatus}
use Rattle.cli_shell.specs.declared.status.PrintStatus.TheVariants as outcomes
use Rattle.cli_fleet.specs.Print.{IsTold, TellsAll, TellsOne, caller_data, callers_text, latest, outcome_in, text_in}
use Rattle.cli_fleet.specs.declared.caller.CallerState.{CallerState}

-- ---- lists that grow at their end

pub mapped_more : {A B : Type 0} (f : A → B) (xs : List A) (x : A) → map f (xs ++ x ∷ []) ≡ map f xs ++ f x ∷ []
mapped_more f [] x = refl
mapped_more f (y ∷ xs) x = ap (λ l. f y ∷ l) (mapped_more f xs x)

length_more : {A : Type 0} (xs : List A) (x : A) → length (xs ++ x ∷ []) ≡ length xs + 1
length_more [] x = omega arith
length_more (y ∷ xs) x = ap suc (length_more xs x) ∙ omega arith

all_more : {A : Type 0} (P : A → Type 0) (xs : List A) (x : A) → AllByRecursion P xs → P x → AllByRecursion P (xs ++ x ∷ [])
all_more P [] x h p = (p, tt)
all_more P (y ∷ xs) x h p = (h.0, all_more P xs x h.1 p)

text_nil : (n : ℕ) → callers_text n [] ≡ []
unfolding callers_text
text_nil n = refl

text_cons : (n : ℕ) (t : List ℕ) (ts : List (List ℕ)) → callers_text n (t ∷ ts) ≡ line (caller_data n) ++ t ++ callers_text (n + 1) ts
unfolding callers_text
text_cons n t ts = refl

abbrev piece : ℕ → List ℕ → List ℕ
piece n t = line (caller_data n) ++ t

text_more : (n m : ℕ) (ts : List (List ℕ)) (t : List ℕ) → m ≡ n + length ts → callers_text n (ts ++ t ∷ []) ≡ callers_text n ts ++ piece m t
text_more n m [] t h = text_cons n t [] ∙ ap (λ l. piece n t ++ l) (text_nil (n + 1)) ∙ append-nil (piece n t)
    ∙ ap (λ k. piece k t) (sym (h ∙ omega arith)) ∙ ap (λ l. l ++ piece m t) (sym (text_nil n))
text_more n m (x ∷ ts) t h = text_cons n x (ts ++ t ∷ [])
    ∙ ap (λ l. piece n x ++ l) (text_more (n + 1) m ts t (h ∙ omega arith))
    ∙ sym (append_assoc (piece n x) (callers_text (n + 1) ts) (piece m t))
    ∙ ap (λ l. l ++ piece m t) (sym (text_cons n x ts))

latest_more : (before : PrintStatus) (os : List (Option PrintStatus)) (o : Option PrintStatus) → latest before (os ++ o ∷ []) ≡ unwrap_or o (latest before os)
latest_more before [] o = refl
latest_more before (x ∷ os) o = latest_more (unwrap_or x before) os o

mapped_length : {A B : Type 0} (f : A → B) (xs : List A) → length (map f xs) ≡ length xs
mapped_length f [] = refl
mapped_length f (x ∷ xs) = ap suc (mapped_length f xs)

-- ---- those before are printed

pub record ToldSo (done : List CallerState) (number : ℕ) (old now : List ℕ) (came : PrintStatus) : Type 0 where
  pub all : TellsAll done old now came
  pub counted : number ≡ length done

pub none_told : (old : List ℕ) → ToldSo [] 0 old old outcomes.Ok
none_told old = record { all = record { told = tt; printed = sym (ap (λ l. old ++ l) (text_nil 0) ∙ append-nil old); came_is = refl }; counted = refl }

pub one_told : (done : List CallerState) (s : CallerState) (number next : ℕ) (old now new : List ℕ) (before came : PrintStatus)
    → next ≡ number + 1 → ToldSo done number old now before → TellsOne number s before now new came → ToldSo (done ++ s ∷ []) next old new came
one_told done s number next old now new before came e h t = record {
  all = record {
    told = all_more IsTold done s h.all.told t.told;
    printed = t.printed ∙ append_assoc now (line (caller_data number)) (text_in s) ∙ ap (λ l. l ++ piece number (text_in s)) h.all.printed
        ∙ append_assoc old (callers_text 0 (map text_in done)) (piece number (text_in s))
        ∙ ap (λ l. old ++ l) (sym (text_more 0 number (map text_in done) (text_in s) (h.counted ∙ sym (mapped_length text_in done) ∙ omega arith)) ∙ ap (callers_text 0) (sym (mapped_more text_in done s)));
    came_is = t.came_is ∙ ap (unwrap_or (outcome_in s)) h.all.came_is ∙ sym (latest_more outcomes.Ok (map outcome_in done) (outcome_in s)) ∙ ap (latest outcomes.Ok) (sym (mapped_more outcome_in done s));
  };
  counted = e ∙ ap (λ n. n + 1) h.counted ∙ sym (length_more done s);
}

-- what holds of each pair's second is so at each place
pub at_each : {A B : Type 0} (R : A → B → Type 0) (P : B → Type 0) → ((x : A) (y : B) → R x y → P y) → (xs : List A) (ys : List B) → Each R xs ys → (k : ℕ) (d : B) → k < length ys → P (slice_index_or ys k d)
at_each R P f [] [] e k d h = let n = h in absurd (omega arith)
at_each R P f [] (y ∷ ys) e k d h = absurd e
at_each R P f (x ∷ xs) [] e k d h = absurd e
at_each R P f (x ∷ xs) (y ∷ ys) e zero d h = f x y e.0
at_each R P f (x ∷ xs) (y ∷ ys) e (suc k) d h = at_each R P f xs ys e.1 k d (let n = h in omega arith)
