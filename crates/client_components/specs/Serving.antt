-- What an entry makes of a client's parts: one case for each kind of question. Each case speaks of the parts that its
-- kind touches; the others stay.
use Rattle.std.specs.Prelude.{◌≡◌, List}
use Rattle.client_auth.specs.Applying.{Applies}
use Rattle.client_auth.specs.Deserializing as deserializing
use Rattle.client_auth.specs.Serializing as serializing
use Rattle.client_auth.specs.Signing as signing
use Rattle.client_call.specs.Loading.{loaded}
use Rattle.run_grammar.specs.declared.answer.Answer.{Answer}
use Rattle.run_grammar.specs.declared.answer.Answer.TheVariants as answers
use Rattle.run_grammar.specs.declared.answer.Entry.{Entry}
use Rattle.run_grammar.specs.declared.question.Question.{Question}
use Rattle.run_grammar.specs.declared.question.Question.TheVariants as questions
use Rattle.smithy_types.specs.Chain.{Chained}
use Rattle.client_components.specs.Calling.{Abandons, Parks, Reads, Starts, Transmits, Waits}
use Rattle.client_components.specs.Choosing.{Chooses}
use Rattle.client_components.specs.Meaning.{ClientMeaning}
use Rattle.client_components.specs.Retrying.{Begins, Configures, Decides, RunsHook, decided_view}
use Rattle.client_components.specs.declared.parts.Parts.{Parts}

module _ {T X Q C I A R Z D P L : Type 0} (means : ClientMeaning T X Q C I A R Z D P L) where
  -- a question of this kind is answered so
  abbrev pub Answers : Parts T X Q C I A R Z D P L → Question → Answer → Parts T X Q C I A R Z D P L → Type 0
  Answers old (questions.Configure stage settings) a new = Configures means.makes old stage a new
  Answers old (questions.Hook hook view) a new =
      RunsHook means.makes means.says means.quota means.chain old hook view a new
  Answers old (questions.Serialize input settings) a new =
      serializing.Serializes means.serializes old.given.serializer input settings a × (new ≡ old)
  Answers old (questions.Load request) a new = (a ≡ loaded request) × (new ≡ old)
  Answers old (questions.Initial settings) a new = Begins means.makes means.quota old settings a new
  Answers old (questions.Start role nanos) a new = Starts means.makes old role nanos a new
  Answers old (questions.Wait role) a new = Waits means.makes old role a new
  Answers old (questions.Choose settings) a new = Chooses means.makes means.names means.polls old settings a new
  Answers old (questions.Endpoint settings identity) a new = (a ≡ answers.Endpoint old.given.endpoint) × (new ≡ old)
  Answers old (questions.Apply settings request endpoint) a new = Applies request endpoint settings a × (new ≡ old)
  Answers old (questions.Sign settings request scheme identity endpoint) a new =
      signing.Signs means.names means.signs old.given.schemes.items request scheme identity endpoint a × (new ≡ old)
  Answers old (questions.Transmit settings request) a new =
      Transmits means.makes means.sleeps old settings request a new
  Answers old (questions.Stream settings response) a new =
      deserializing.Streams means.streams old.given.deserializer old.given.may_stream response settings a × (new ≡ old)
  Answers old (questions.Body settings response) a new = Reads means.makes means.sleeps old settings response a new
  Answers old (questions.Deserialize settings response) a new =
      deserializing.Deserializes means.deserializes old.given.deserializer response settings a × (new ≡ old)
  Answers old (questions.Decide settings request response outcome attempt) a new =
      Decides means.makes means.says means.quota old (decided_view settings request response outcome attempt) a new
  Answers old (questions.Abandon abandoned) a new = Abandons means.makes old abandoned a new
  Answers old questions.Park a new = Parks means.makes old a new

  -- an entry is served
  abbrev pub Serves : Parts T X Q C I A R Z D P L → Entry → Parts T X Q C I A R Z D P L → Type 0
  Serves old e new = Answers old e.question e.answer new

  -- a list of entries is served
  abbrev pub Served : Parts T X Q C I A R Z D P L → List Entry → Parts T X Q C I A R Z D P L → Type 0
  Served = Chained Serves
