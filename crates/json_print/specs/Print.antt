-- The print of a run.
use Rattle.std.specs.Prelude.{ℕ, ◌+◌, List, [], ◌∷◌, ◌++◌, Option, None, codes, option_to_list, map}
use Rattle.json_forms.specs.Prints.{row, num, null_or}
use Rattle.serde_json.specs.Data.{Data, string}
use Rattle.serde_json.specs.Written.{compact_text}
use Rattle.smithy_types.specs.declared.fault.SdkError.{SdkError}
use Rattle.smithy_types.specs.declared.fault.SdkError.TheVariants as errors
use Rattle.smithy_types.specs.declared.http.HttpRequest.{HttpRequest}
use Rattle.smithy_types.specs.declared.payload.Payload.{Payload}
use Rattle.run_grammar.specs.Question.{kind_of_question}
use Rattle.run_grammar.specs.declared.answer.Answer.{Answer}
use Rattle.run_grammar.specs.declared.answer.Answer.TheVariants as answers
use Rattle.run_grammar.specs.declared.answer.Entry.{Entry}
use Rattle.run_grammar.specs.declared.question.Question.{Question}
use Rattle.run_grammar.specs.declared.question.Question.TheVariants as questions
use Rattle.json_values.specs.Names.{stop_text}
use Rattle.json_values.specs.Values.{payload_data, request_data, response_data, fault_data, answer_data, kind_data}
use Rattle.json_print.specs.declared.ending.Ending.{Ending}
use Rattle.json_print.specs.declared.ending.Ending.TheVariants as endings
use Rattle.json_print.specs.declared.head.RunHead.{RunHead}

-- a line of a print: the compact text of the data and a line feed
abbrev pub line : Data → List ℕ
line d = compact_text d ++ 10 ∷ []

-- the first line: the input, the stop point, the kinds of outputs and errors, and the fuel
unfoldable pub begin_data : RunHead → Data
begin_data s = row (string (codes "begin") ∷ payload_data s.input ∷ string (stop_text s.stop) ∷ num s.output_kind
    ∷ num s.error_kind ∷ num s.fuel ∷ [])

-- the request that a transmission was handed, once it isn't pending
abbrev pub handed_unless : Answer → Option HttpRequest → Option HttpRequest
handed_unless answers.Pending request = None
handed_unless _ request = request

-- the request that an entry of a transmission shows, and none of any other
abbrev pub transmitted : Question → Answer → Option HttpRequest
transmitted (questions.Transmit settings request) answer = handed_unless answer request
transmitted _ answer = None

-- an entry with its number, and the request of a transmission
abbrev pub entry_parts : ℕ → Entry → List Data
entry_parts n e = num n ∷ kind_data (kind_of_question e.question) ∷ answer_data e.answer ∷ []

-- the line of an entry of this number
unfoldable pub entry_data : ℕ → Entry → Data
entry_data n e = row (entry_parts n e ++ map request_data (option_to_list (transmitted e.question e.answer)))

-- the lines of the entries, numbered from here on
unfoldable pub entries_text : ℕ → List Entry → List ℕ
entries_text n [] = []
entries_text n (e ∷ es) = line (entry_data n e) ++ entries_text (n + 1) es

-- the data of those lines
abbrev pub entries_data : ℕ → List Entry → List Data
entries_data n [] = []
entries_data n (e ∷ es) = entry_data n e ∷ entries_data (n + 1) es

-- an error by its name, with the failure or the payload, and the response that was held
unfoldable pub error_data : SdkError Payload → Data
error_data (errors.ConstructionFailure fault) = row (string (codes "ConstructionFailure") ∷ fault_data fault ∷ [])
error_data (errors.TimeoutError fault) = row (string (codes "TimeoutError") ∷ fault_data fault ∷ [])
error_data (errors.DispatchFailure fault) = row (string (codes "DispatchFailure") ∷ fault_data fault ∷ [])
error_data (errors.ResponseError fault response) =
    row (string (codes "ResponseError") ∷ fault_data fault ∷ response_data response ∷ [])
error_data (errors.ServiceError payload response) =
    row (string (codes "ServiceError") ∷ payload_data payload ∷ response_data response ∷ [])

-- the last line: what the run answered
unfoldable pub ending_data : Ending → Data
ending_data (endings.Output payload) = row (string (codes "Ok") ∷ payload_data payload ∷ [])
ending_data (endings.Stopped request) = row (string (codes "Stopped") ∷ null_or request_data request ∷ [])
ending_data (endings.Error error) = error_data error
ending_data endings.Unfinished = row (string (codes "Unfinished") ∷ [])
ending_data (endings.WrongType payload) = row (string (codes "WrongType") ∷ payload_data payload ∷ [])

-- the print of a run: its first line, its entries numbered from 1, and its last line
unfoldable pub run_text : RunHead → List Entry → Ending → List ℕ
run_text s log e = line (begin_data s) ++ entries_text 1 log ++ line (ending_data e)

-- the data of all lines
abbrev pub run_data : RunHead → List Entry → Ending → List Data
run_data head log e = begin_data head ∷ (entries_data 1 log ++ ending_data e ∷ [])
