-- Which ways to retry, and which classifiers, a script spells.
use Rattle.std.specs.Prelude.{ℕ, ◌^◌, List, Option, Some, codes, if◌then◌else◌}
use Rattle.serde_json.specs.Data.{Data}
use Rattle.serde_json.specs.Find.{as_array}
use Rattle.json_forms.specs.Forms.{says, tagged_at}
use Rattle.json_forms.specs.Lists.{list_of}
use Rattle.json_forms.specs.Plain.{number_below}
use Rattle.json_forms.specs.Reading.{◌>>=◌}
use Rattle.json_values.specs.SettingForms.{retry_at}
use Rattle.json_scripts.specs.declared.client.terms.ClassifierChoice.{ClassifierChoice}
use Rattle.json_scripts.specs.declared.client.terms.ClassifierChoice.TheVariants as classifiers
use Rattle.json_scripts.specs.declared.client.terms.RetryChoice.{RetryChoice}
use Rattle.json_scripts.specs.declared.client.terms.RetryChoice.TheVariants as retries

-- `never`, or the value of the Retry setting
unfoldable pub retry_choice_at : Data → Option RetryChoice
retry_choice_at d = if says (codes "never") d then Some retries.Never
    else (retry_at d >>= λ r. Some (retries.Standard r))

-- a status of HTTP, of 16 bits
unfoldable pub code_at : Data → Option ℕ
code_at d = number_below (2 ^ 16) d

-- `modeled`, `transient`, or `status` with a list of statuses
unfoldable pub classifier_at : Data → Option ClassifierChoice
classifier_at d = if says (codes "modeled") d then Some classifiers.Modeled
    else (if says (codes "transient") d then Some classifiers.Transient
    else (tagged_at (codes "status") d >>= as_array >>= list_of code_at >>= λ cs. Some (classifiers.Status cs)))

-- the classifiers of a client
unfoldable pub classifiers_at : Data → Option (List ClassifierChoice)
classifiers_at d = as_array d >>= list_of classifier_at
