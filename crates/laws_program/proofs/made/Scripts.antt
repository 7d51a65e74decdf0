-- Made scripts are read as they are spelled.
use Rattle.std.proofs.Common.{◌≡◌, ◌∙◌, refl, ap, ℕ, ◌≤◌, length, [], ◌∷◌, map, Some, arith}
use Rattle.serde_json.specs.Data.{depth}
use Rattle.serde_json.specs.Read.{max_depth}
use Rattle.json_forms.proofs.Characters.{characters}
use Rattle.json_forms.proofs.ReadBack.{read-compact_text}
use Rattle.json_forms.specs.Forms.{optional_at, tagged_at, word_at, says}
use Rattle.json_forms.specs.Lists.{list_of}
use Rattle.json_forms.specs.Prints.{row, is_shown}
use Rattle.json_forms.specs.Reading.{◌>>=◌}
use Rattle.json_values.specs.SettingForms.{mode_at, reconnect_at, retry_at, spec_at, stall_at, timeouts_at}
use Rattle.json_values.specs.SettingForms.{retry_data, timeouts_data}
use Rattle.json_scripts.specs.Words.{words_at}
use Rattle.json_scripts.specs.Client.Auth.{auth_at}
use Rattle.json_scripts.specs.Buckets.{bucket_terms_at, buckets_at}
use Rattle.json_scripts.specs.Client.Clients.{client_at, clients_at, flags_at, rules_at, target_at, text_member}
use Rattle.json_scripts.specs.Client.Invocations.{invocations_at}
use Rattle.json_scripts.specs.Client.Members.{members_at}
use Rattle.json_scripts.specs.Client.Retries.{classifier_at, classifiers_at, code_at, retry_choice_at}
use Rattle.json_scripts.specs.Client.Script.{IsClientScript, client_script_at}
use Rattle.json_scripts.specs.Workload.Made.{made_bucket, made_client, made_invocations, made_script}
use Rattle.laws_program.specs.Made.Spelling.{bucket_data, client_data, invocation_data, made_text, script_data}
use Rattle.laws_program.proofs.made.Invocations.{all_spelled, as_many, each_read, row_printed, row_short}
use Rattle.laws_program.proofs.made.Lengths.{text_len, text_short}
use Rattle.laws_program.proofs.made.Shown.{IsPrintable, texts_shown}

-- ---- the bucket and the client

buckets_read : buckets_at (row (bucket_data made_bucket ∷ [])) ≡ Some (made_bucket ∷ [])
unfolding buckets_at bucket_terms_at list_of bucket_data
buckets_read = refl

buckets_printed : IsPrintable 2 (row (bucket_data made_bucket ∷ []))
unfolding bucket_data
buckets_printed = record { carried = refl; shown = refl; shallow = omega arith }

clients_read : clients_at 1 (row (client_data made_client ∷ [])) ≡ Some (made_client ∷ [])
unfolding clients_at client_at members_at rules_at flags_at target_at text_member classifiers_at classifier_at code_at retry_choice_at retry_at mode_at reconnect_at spec_at timeouts_at stall_at auth_at tagged_at word_at says optional_at list_of client_data retry_data timeouts_data
clients_read = refl

clients_printed : IsPrintable 5 (row (client_data made_client ∷ []))
unfolding client_data retry_data timeouts_data is_shown
clients_printed = record { carried = refl; shown = refl; shallow = omega arith }

buckets_short : text_len (row (bucket_data made_bucket ∷ [])) ≤ 200
unfolding bucket_data
buckets_short = omega arith

clients_short : text_len (row (client_data made_client ∷ [])) ≤ 2000
unfolding client_data retry_data timeouts_data
clients_short = omega arith

words_read : words_at (row []) ≡ Some []
unfolding words_at list_of
words_read = refl

-- ---- the script

invocations_read : (count seed : ℕ) → count ≤ 1000 → invocations_at 1 (row (map invocation_data (made_invocations seed count))) ≡ Some (made_invocations seed count)
unfolding invocations_at
invocations_read count seed h = each_read (made_invocations seed count) (all_spelled seed count h)

script_read : (count seed : ℕ) → count ≤ 1000 → client_script_at (script_data (made_script count seed)) ≡ Some (made_script count seed)
unfolding client_script_at members_at script_data
script_read count seed h = rw (buckets_read, words_read, clients_read, invocations_read count seed h) refl

script_printed : (count seed : ℕ) → count ≤ 1000 → IsPrintable 7 (script_data (made_script count seed))
unfolding script_data is_shown
script_printed count seed h =
    let bs = buckets_printed in
    let cs = clients_printed in
    let is = row_printed (made_invocations seed count) (all_spelled seed count h) in
    record {
      carried = rw (bs.carried, cs.carried, is.carried) refl;
      shown = rw (bs.shown, cs.shown, is.shown) refl;
      shallow = omega (arith, bs.shallow, cs.shallow, is.shallow);
    }

pub made_read : (count seed : ℕ) → count ≤ 1000 → IsClientScript (made_text count seed) (made_script count seed)
made_read count seed h =
    let d = script_data (made_script count seed) in
    let p = script_printed count seed h in
    let shallow : depth d ≤ max_depth = omega (arith, p.shallow) in
    (characters d p.carried (texts_shown d p.shown), ap (λ o. o >>= client_script_at) (read-compact_text d p.carried shallow) ∙ script_read count seed h)

script_short : (count seed : ℕ) → count ≤ 1000 → text_len (script_data (made_script count seed)) ≤ 16777216
unfolding script_data
script_short count seed h =
    omega (arith, h, buckets_short, clients_short, row_short (made_invocations seed count) (all_spelled seed count h), as_many seed count)

pub made_short : (count seed : ℕ) → count ≤ 1000 → length (made_text count seed) ≤ 16777216
made_short count seed h = omega (arith, text_short (script_data (made_script count seed)) (script_printed count seed h).carried, script_short count seed h)
