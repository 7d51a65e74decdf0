-- The print of buckets.
use Rattle.std.specs.Prelude.{ℕ, ◌+◌, List, [], ◌∷◌, ◌++◌, codes}
use Rattle.json_forms.specs.Lines.{line}
use Rattle.json_forms.specs.Prints.{row, num}
use Rattle.json_values.specs.Values.{sums_data}
use Rattle.retry_quota.specs.Book.{Book, sums_of}
use Rattle.serde_json.specs.Data.{Data, string}
use Rattle.smithy_types.specs.declared.sums.Sums.{Sums}

-- a bucket's number and its sums
unfoldable pub bucket_data : ℕ → Sums → Data
bucket_data number sums = row (string (codes "bucket") ∷ num number ∷ sums_data sums ∷ [])

-- the lines of these buckets, numbered from here on
unfoldable pub buckets_text : ℕ → List Book → List ℕ
buckets_text number [] = []
buckets_text number (b ∷ bs) = line (bucket_data number (sums_of b)) ++ buckets_text (number + 1) bs
