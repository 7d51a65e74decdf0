-- What is read of data whose texts are of bytes fits, can be spelled, and is read again.
use Rattle.std.proofs.Common.{◌≡◌, true, Some}
use Rattle.json_forms.specs.Bytes.{of_bytes}
use Rattle.serde_json.specs.Data.{Data}
use Rattle.smithy_types.specs.declared.payload.Payload.{Payload}
use Rattle.run_grammar.specs.Fits.{fits}
use Rattle.run_grammar.specs.declared.answer.Answer.{Answer}
use Rattle.run_grammar.specs.declared.kind.Kind.{Kind}
use Rattle.json_values.specs.AnswerReadings.{answer_at}
use Rattle.json_values.specs.Readings.{payload_at}
use Rattle.json_values.specs.Spellable.{payload_spellable, answer_spellable}
use Rattle.json_values.specs.Values.{answer_data}
use Rattle.json_values.proofs.PrintedAnswers.{answer_read}
use Rattle.json_values.proofs.SpelledAnswers.{Fitting, answer_fits}
use Rattle.json_values.proofs.SameBytes.{same_bytes}
use Rattle.json_values.proofs.SpelledForms.{held}
use Rattle.json_values.proofs.SpelledHeads.{payload_spelled}

fitting : (k : Kind) (d : Data) (a : Answer) → of_bytes d ≡ true → answer_at k d ≡ Some a → Fitting k a
fitting k d a h e = held (Fitting k) (answer_at k d) a e (answer_fits k d (same_bytes d h))

pub read_fits : (k : Kind) (d : Data) (a : Answer) → of_bytes d ≡ true → answer_at k d ≡ Some a → fits k a ≡ true
read_fits k d a h e = (fitting k d a h e).0

pub read_is_spellable : (k : Kind) (d : Data) (a : Answer) → of_bytes d ≡ true → answer_at k d ≡ Some a → answer_spellable a ≡ true
read_is_spellable k d a h e = (fitting k d a h e).1

pub read_again : (k : Kind) (d : Data) (a : Answer) → of_bytes d ≡ true → answer_at k d ≡ Some a → answer_at k (answer_data a) ≡ Some a
read_again k d a h e = answer_read k a (read_fits k d a h e) (read_is_spellable k d a h e)

pub payload_is_spellable : (d : Data) (p : Payload) → of_bytes d ≡ true → payload_at d ≡ Some p → payload_spellable p ≡ true
payload_is_spellable d p h e = held (λ q. payload_spellable q ≡ true) (payload_at d) p e (payload_spelled d (same_bytes d h))
