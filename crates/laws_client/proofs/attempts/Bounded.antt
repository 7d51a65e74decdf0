-- Where decisions go on below a number alone, no more attempts are begun.
use Rattle.std.proofs.Common.{◌≡◌, refl, subst, ℕ, zero, suc, ◌+◌, ◌<◌, ◌≤◌, true, List, [], ◌∷◌, ◌++◌, length, arith}
use Rattle.std.specs.Prelude.{max}
use Rattle.std.specs.List.{AllByRecursion}
use Rattle.run_grammar.specs.Attempts.{asked_of, begins_attempt}
use Rattle.run_grammar.specs.Entry.{kind_of}
use Rattle.run_grammar.specs.declared.answer.Answer.{Answer}
use Rattle.run_grammar.specs.declared.answer.Entry.{Entry}
use Rattle.run_grammar.specs.declared.question.Question.{Question}
use Rattle.run_grammar.specs.declared.question.Question.TheVariants as questions
use Rattle.laws_client.specs.Attempts.Deciding.{AttemptsAreBounded, DecidesFrom, GoesOnBelow, attempts_begun, capped, goes_on}
use Rattle.laws_client.proofs.attempts.Decided.{decided}
use Rattle.laws_client.proofs.attempts.Once.{counts_one}

begun_le : (l : List Entry) → attempts_begun l ≤ length l
begun_le [] = omega arith
begun_le (e ∷ l) =
    let h = begun_le l in
    let c = counts_one (begins_attempt (kind_of e)) (kind_of e) (asked_of begins_attempt l) in
    omega (arith, h, c)

-- what holds of each holds of the one between two parts
all_at : (P : Entry → Type 0) (before : List Entry) (e : Entry) (after : List Entry) → AllByRecursion P (before ++ e ∷ after) → P e
all_at P [] e after h = h.0
all_at P (x ∷ before) e after h = all_at P before e after h.1

below : (m n : ℕ) (q : Question) (a : Answer) → DecidesFrom m q → goes_on a ≡ true → GoesOnBelow n q a → capped m < n
below m n (questions.Decide settings request response outcome attempt) a from goes h = let less = h goes in omega (arith, from, less)
below m n _ a from goes h = absurd from

pub bounded : AttemptsAreBounded
bounded stop p l n w short all = by_count (attempts_begun l) refl
  where
    by_count : (k : ℕ) → attempts_begun l ≡ k → k ≤ max 1 n
    by_count zero e = omega arith
    by_count (suc zero) e = omega arith
    by_count (suc (suc k)) e =
        let d = decided stop p l k w (omega (arith, e)) in
        let goes = all_at (λ x. GoesOnBelow n x.question x.answer) d.before d.decision d.after (subst (AllByRecursion (λ x. GoesOnBelow n x.question x.answer)) d.there all) in
        let less = below (k + 1) n d.decision.question d.decision.answer d.from d.further goes in
        let long = begun_le l in
        omega (arith, e, long, short, less)
