-- Made invocations are read as they are spelled, and their spelling is printed.
use Rattle.std.proofs.Common.{◌≡◌, ◌∙◌, refl, sym, ap, subst, ℕ, zero, suc, ◌+◌, ◌*◌, ◌%◌, ◌^◌, ◌<◌, ◌≤◌, true, false, List, [], ◌∷◌, ◌++◌, map, length, codes, decimal, Some, arith}
use Rattle.std.proofs.lemmas.Bool.{and_from}
use Rattle.std.proofs.lemmas.Fmt.{length-decimal-le}
use Rattle.std.proofs.lemmas.List.{length-append}
use Rattle.std.specs.List.{AllByRecursion, list_all}
use Rattle.serde_json.specs.Data.{Data, boolean, null, string, object, no_members, member}
use Rattle.serde_json.specs.View.{items_of}
use Rattle.json_forms.specs.Forms.{blob_at, optional_at, word_at}
use Rattle.json_forms.specs.Lists.{list_of}
use Rattle.json_forms.specs.Prints.{row, num, is_shown, blob_data}
use Rattle.json_values.specs.Readings.{headers_at, payload_at}
use Rattle.json_values.specs.Values.{payload_data, headers_data}
use Rattle.json_values.proofs.PrintedForms.{printed_shown}
use Rattle.json_scripts.specs.Records.Responses.{answered_record_at, failed_record_at, frame_at, frames_at, may_repeat, records_at, response_at, response_record_at}
use Rattle.json_scripts.specs.Stop.{stop_at}
use Rattle.json_scripts.specs.Client.Invocations.{invocation_at, run_at}
use Rattle.json_scripts.specs.Client.Members.{members_at}
use Rattle.json_scripts.specs.declared.client.terms.InvocationRecord.{InvocationRecord}
use Rattle.smithy_types.specs.declared.kinds.StopPoint.TheVariants as stops
use Rattle.json_scripts.specs.Workload.Made.{available, made_invocation, made_invocations, unavailable}
use Rattle.json_scripts.specs.Workload.Words.{word_behind}
use Rattle.laws_program.specs.Made.Spelling.{frame_data, invocation_data, record_data}
use Rattle.laws_program.proofs.made.Digits.{decimal_shown}
use Rattle.laws_program.proofs.made.Lengths.{text_len}
use Rattle.laws_program.proofs.made.Shown.{IsPrintable}

-- ---- one invocation: three shapes, but for the digits of its number

-- the invocation with this input, which the service fails so often
abbrev made_of : List ℕ → ℕ → InvocationRecord
made_of digits times = record { client = 0; input = record { kind = 1; bytes = digits }; fuel = 100; stop = stops.None; responses = unavailable times ++ available ∷ [] }

abbrev response : ℕ → List Data → Data
response status frames = row (num 0 ∷ num status ∷ row [] ∷ row frames ∷ boolean false ∷ null ∷ [])

abbrev responses : ℕ → List Data
responses zero = response 200 (row (num 0 ∷ string (codes "ok") ∷ []) ∷ []) ∷ []
responses (suc n) = response 503 [] ∷ responses n

-- what stands for it, with this in the place of the input's bytes
abbrev spelled : Data → ℕ → Data
spelled bytes times = object (
    member (codes "client") (num 0) (
    member (codes "fuel") (num 100) (
    member (codes "input") (row (num 1 ∷ bytes ∷ [])) (
    member (codes "responses") (row (responses times)) (
    member (codes "stop") (string (codes "None")) no_members)))))

past_three : {P : Type 0} (n : ℕ) → suc (suc (suc n)) < 3 → P
past_three n h = absurd (omega (arith, h))

spelled_so : (digits : List ℕ) (times : ℕ) → times < 3 → invocation_data (made_of digits times) ≡ spelled (blob_data digits) times
unfolding invocation_data payload_data record_data headers_data frame_data blob_data is_shown
spelled_so digits zero h = refl
spelled_so digits (suc zero) h = refl
spelled_so digits (suc (suc zero)) h = refl
spelled_so digits (suc (suc (suc n))) h = past_three n h

spelled_as_text : (digits : List ℕ) (times : ℕ) → times < 3 → list_all is_shown digits ≡ true → invocation_data (made_of digits times) ≡ spelled (string digits) times
spelled_as_text digits times h shown = spelled_so digits times h ∙ ap (λ b. spelled b times) (printed_shown digits shown)

read_again : (digits : List ℕ) (times : ℕ) → times < 3 → invocation_at 1 (spelled (string digits) times) ≡ Some (made_of digits times)
unfolding invocation_at run_at members_at stop_at payload_at blob_at records_at list_of response_record_at failed_record_at answered_record_at response_at may_repeat frames_at frame_at headers_at optional_at word_at
read_again digits zero h = refl
read_again digits (suc zero) h = refl
read_again digits (suc (suc zero)) h = refl
read_again digits (suc (suc (suc n))) h = past_three n h

printable : (digits : List ℕ) (times : ℕ) → times < 3 → list_all is_shown digits ≡ true → IsPrintable 5 (spelled (string digits) times)
unfolding is_shown
printable digits zero h shown = record { carried = refl; shown = rw shown refl; shallow = omega arith }
printable digits (suc zero) h shown = record { carried = refl; shown = rw shown refl; shallow = omega arith }
printable digits (suc (suc zero)) h shown = record { carried = refl; shown = rw shown refl; shallow = omega arith }
printable digits (suc (suc (suc n))) h shown = past_three n h

short : (digits : List ℕ) (times : ℕ) → times < 3 → length digits ≤ 4 → text_len (spelled (string digits) times) ≤ 1000
short digits zero h few = omega (arith, few)
short digits (suc zero) h few = omega (arith, few)
short digits (suc (suc zero)) h few = omega (arith, few)
short digits (suc (suc (suc n))) h few = past_three n h

-- ---- all invocations

-- it is read as it is spelled, and its spelling is printed in at most a thousand bytes
pub record IsSpelled (i : InvocationRecord) : Type 0 where
  pub read : invocation_at 1 (invocation_data i) ≡ Some i
  pub printed : IsPrintable 5 (invocation_data i)
  pub short : text_len (invocation_data i) ≤ 1000

one_spelled : (number word : ℕ) → number < 10 ^ 4 → IsSpelled (made_invocation number word)
one_spelled number word h =
    let digits = decimal number in
    let times : word % 3 < 3 = omega arith in
    let shown = decimal_shown number (omega (arith, h)) in
    let few = length-decimal-le 4 number (omega arith) h (omega (arith, h)) in
    let same = spelled_as_text digits (word % 3) times shown in
    record {
      read = ap (invocation_at 1) same ∙ read_again digits (word % 3) times;
      printed = subst (IsPrintable 5) (sym same) (printable digits (word % 3) times shown);
      short = subst (λ d. text_len d ≤ 1000) (sym same) (short digits (word % 3) times few);
    }

each_behind : {X : Type 0} (P : X → Type 0) (xs : List X) (x : X) → AllByRecursion P xs → P x → AllByRecursion P (xs ++ x ∷ [])
each_behind P [] x h p = (p, tt)
each_behind P (y ∷ xs) x h p = (h.0, each_behind P xs x h.1 p)

pub all_spelled : (seed count : ℕ) → count ≤ 1000 → AllByRecursion IsSpelled (made_invocations seed count)
all_spelled seed zero h = tt
all_spelled seed (suc n) h =
    each_behind IsSpelled (made_invocations seed n) (made_invocation (n + 1) (word_behind seed n)) (all_spelled seed n (omega (arith, h))) (one_spelled (n + 1) (word_behind seed n) (omega (arith, h)))

pub each_read : (is : List InvocationRecord) → AllByRecursion IsSpelled is → list_of (invocation_at 1) (items_of (map invocation_data is)) ≡ Some is
unfolding list_of
each_read [] h = refl
each_read (i ∷ is) h = rw ((h.0).read, each_read is h.1) refl

pub row_printed : (is : List InvocationRecord) → AllByRecursion IsSpelled is → IsPrintable 6 (row (map invocation_data is))
row_printed [] h = record { carried = refl; shown = refl; shallow = omega arith }
row_printed (i ∷ is) h =
    let one = (h.0).printed in
    let rest = row_printed is h.1 in
    record {
      carried = and_from _ _ one.carried rest.carried;
      shown = and_from _ _ one.shown rest.shown;
      shallow = omega (arith, one.shallow, rest.shallow);
    }

pub row_short : (is : List InvocationRecord) → AllByRecursion IsSpelled is → text_len (row (map invocation_data is)) ≤ 2 + 1001 * length is
row_short [] h = omega arith
row_short (i ∷ is) h = omega (arith, (h.0).short, row_short is h.1)

pub as_many : (seed count : ℕ) → length (made_invocations seed count) ≡ count
as_many seed zero = refl
as_many seed (suc n) = omega (arith, length-append (made_invocations seed n) (made_invocation (n + 1) (word_behind seed n) ∷ []), as_many seed n)
