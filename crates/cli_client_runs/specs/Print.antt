-- The print of invocations, and of what is left behind them.
use Rattle.std.specs.Prelude.{ℕ, ◌+◌, List, [], ◌∷◌, ◌++◌, codes}
use Rattle.json_forms.specs.Prints.{row, num}
use Rattle.retry_quota.specs.Book.{Book, sums_of}
use Rattle.run_grammar.specs.declared.answer.Entry.{Entry}
use Rattle.json_print.specs.Print.{line, entries_text, ending_data}
use Rattle.json_print.specs.declared.ending.Ending.{Ending}
use Rattle.serde_json.specs.Data.{Data, string}
use Rattle.smithy_types.specs.declared.sums.Sums.{Sums}
use Rattle.json_values.specs.Values.{sums_data}

-- the line before an invocation: its number and that of its client
unfoldable pub invocation_data : ℕ → ℕ → Data
invocation_data number client = row (string (codes "invocation") ∷ num number ∷ num client ∷ [])

-- the number of an invocation and that of its client, the entries, and the ending
unfoldable pub invocation_text : ℕ → ℕ → List Entry → Ending → List ℕ
invocation_text number client log ending =
    line (invocation_data number client) ++ entries_text 1 log ++ line (ending_data ending)

-- a bucket's number and its sums
unfoldable pub bucket_data : ℕ → Sums → Data
bucket_data number sums = row (string (codes "bucket") ∷ num number ∷ sums_data sums ∷ [])

-- the lines of these buckets, numbered from here on
unfoldable pub buckets_text : ℕ → List Book → List ℕ
buckets_text number [] = []
buckets_text number (b ∷ bs) = line (bucket_data number (sums_of b)) ++ buckets_text (number + 1) bs

-- how many loads were begun
unfoldable pub loads_data : ℕ → Data
loads_data loads = row (string (codes "loads") ∷ num loads ∷ [])
