-- A made script names what it has, and is within the limits of a script.
use Rattle.std.proofs.Common.{◌≡◌, ◌∙◌, refl, ap, ℕ, zero, suc, ◌+◌, ◌*◌, ◌%◌, ◌≤◌, Bool, true, ◌&&◌, List, [], ◌∷◌, ◌++◌, length, arith, rules}
use Rattle.std.proofs.lemmas.List.Elements.{All-append, All-replicate}
use Rattle.std.proofs.lemmas.List.{length-append}
use Rattle.std.proofs.lemmas.List.Folds.{list_all-append}
use Rattle.std.proofs.lemmas.List.Sums.{sum_by-append}
use Rattle.std.specs.Prelude.{All, nat_le, sum_by, replicate}
use Rattle.std.specs.List.{list_all}
use Rattle.json_scripts.specs.Client.Limits.{auth_fits, capacity_fits, client_fits, client_script_fits, fuel_of, invocation_fits}
use Rattle.json_scripts.specs.Client.Placed.{HasBucket, HasClient, IsPlaced}
use Rattle.json_scripts.specs.Records.Limits.{record_fits}
use Rattle.json_scripts.specs.Heads.{head_fits}
use Rattle.json_scripts.specs.Texts.{text_fits}
use Rattle.json_scripts.specs.Workload.Made.{available, made_client, made_invocation, made_invocations, made_script, response_at_once, unavailable}
use Rattle.json_scripts.specs.Workload.Words.{word_behind}

response_fits : (status : ℕ) (frames : _) → record_fits (response_at_once status frames) ≡ true
unfolding record_fits head_fits
response_fits status frames = refl

unavailable_fit : (times : ℕ) → list_all record_fits (unavailable times) ≡ true
unavailable_fit zero = refl
unavailable_fit (suc n) = ap (λ b. b && list_all record_fits (unavailable n)) (response_fits 503 []) ∙ unavailable_fit n

one_fits : (number word : ℕ) → invocation_fits (made_invocation number word) ≡ true
unfolding invocation_fits
one_fits number word = list_all-append record_fits (unavailable (word % 3)) (available ∷ []) ∙ ap (λ b. b && list_all record_fits (available ∷ [])) (unavailable_fit (word % 3))
    ∙ ap (λ b. b && true) (response_fits 200 _)

all_fit : (seed count : ℕ) → list_all invocation_fits (made_invocations seed count) ≡ true
all_fit seed zero = refl
all_fit seed (suc n) = list_all-append invocation_fits (made_invocations seed n) (made_invocation (n + 1) (word_behind seed n) ∷ [])
    ∙ ap (λ b. b && list_all invocation_fits (made_invocation (n + 1) (word_behind seed n) ∷ [])) (all_fit seed n) ∙ ap (λ b. b && true) (one_fits (n + 1) (word_behind seed n))

as_many : (seed count : ℕ) → length (made_invocations seed count) ≡ count
as_many seed zero = refl
as_many seed (suc n) = length-append (made_invocations seed n) (made_invocation (n + 1) (word_behind seed n) ∷ []) ∙ ap (λ k. k + 1) (as_many seed n) ∙ omega arith

all_fuel : (seed count : ℕ) → sum_by fuel_of (made_invocations seed count) ≡ 100 * count
all_fuel seed zero = refl
all_fuel seed (suc n) = sum_by-append fuel_of (made_invocations seed n) (made_invocation (n + 1) (word_behind seed n) ∷ []) ∙ ap (λ k. k + 100) (all_fuel seed n) ∙ omega arith

all_placed : (seed count : ℕ) → All (HasClient 1) (made_invocations seed count)
all_placed seed zero = λ i d h. absurd (omega arith)
all_placed seed (suc n) = All-append (HasClient 1) (made_invocations seed n) (made_invocation (n + 1) (word_behind seed n) ∷ []) (all_placed seed n) (All-replicate (HasClient 1) 1 (made_invocation (n + 1) (word_behind seed n)) (omega arith))

-- what a made script names is there
pub made_placed : (count seed : ℕ) → IsPlaced (made_script count seed)
made_placed count seed = (All-replicate (HasBucket 1) 1 made_client (omega arith), all_placed seed count)

within : (n most : ℕ) → n ≤ most → nat_le n most ≡ true
within n most h = grind (arith, h)

client_here : client_fits made_client ≡ true
unfolding client_fits text_fits auth_fits
client_here = search rules

-- and it is within the limits
pub made_fits : (count seed : ℕ) → count ≤ 1000 → client_script_fits (made_script count seed) ≡ true
unfolding client_script_fits capacity_fits
made_fits count seed h =
    ap (λ b. b && true && (list_all invocation_fits (made_invocations seed count) && (nat_le (length (made_invocations seed count)) 10000 && nat_le (sum_by fuel_of (made_invocations seed count)) 100000))) client_here
    ∙ ap (λ b. b && (nat_le (length (made_invocations seed count)) 10000 && nat_le (sum_by fuel_of (made_invocations seed count)) 100000)) (all_fit seed count)
    ∙ ap (λ k. nat_le k 10000 && nat_le (sum_by fuel_of (made_invocations seed count)) 100000) (as_many seed count)
    ∙ ap (λ k. nat_le count 10000 && nat_le k 100000) (all_fuel seed count)
    ∙ ap (λ b. b && nat_le (100 * count) 100000) (within count 10000 (omega (arith, h))) ∙ within (100 * count) 100000 (omega (arith, h))
