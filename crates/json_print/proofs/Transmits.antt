-- The line of a transmission shows its request.
use Rattle.std.proofs.Common.{◌≡◌, ℕ, ◌++◌, Option, Some, ap, refl, ◌∙◌, map}
use Rattle.std.specs.Prelude.{option_to_list}
use Rattle.json_forms.specs.Prints.{row}
use Rattle.smithy_types.specs.declared.http.HttpRequest.{HttpRequest}
use Rattle.smithy_context.specs.StandingLayers.{StandingLayers}
use Rattle.run_grammar.proofs.Sendings.{transmits_have_requests}
use Rattle.run_grammar.specs.declared.answer.Answer.{Answer}
use Rattle.run_grammar.specs.declared.answer.Answer.TheVariants as answers
use Rattle.run_grammar.specs.declared.answer.Entry.{Entry}
use Rattle.run_grammar.specs.declared.question.Question.TheVariants as questions
use Rattle.json_values.specs.Values.{request_data}
use Rattle.json_print.specs.Laws.{ShowsRequest, TransmitsShowRequests}
use Rattle.json_print.specs.Print.{entry_data, entry_parts, handed_unless, transmitted}

handed : (a : Answer) (o : Option HttpRequest) → (a ≡ answers.Pending → ⊥) → handed_unless a o ≡ o
handed answers.Pending o other = absurd (other refl)
handed _ o other = refl

shown : (n : ℕ) (e : Entry) (settings : StandingLayers) (request : HttpRequest) → e.question ≡ questions.Transmit settings (Some request) →
    (e.answer ≡ answers.Pending → ⊥) → ShowsRequest n e
unfolding entry_data
shown n e settings request is other =
    let sent : transmitted e.question e.answer ≡ Some request = ap (λ q. transmitted q e.answer) is ∙ handed e.answer (Some request) other in
    (request, ap (λ o. row (entry_parts n e ++ map request_data (option_to_list o))) sent)

pub transmits_show_requests : TransmitsShowRequests
transmits_show_requests stop p before e n begun k other =
    let has = transmits_have_requests stop p before e begun k in
    shown n e has.0 has.1 has.2 other
