-- What the seats of a host do to the buckets and limiters that they share.
use Rattle.std.specs.Prelude.{◌≡◌, ◌⊎◌, ℕ, false, List, [], ◌++◌, Option, None, Some, slice_get}
use Rattle.cli_client.specs.Means.{NoClassifier, NoInterceptor, none, own_chain, own_says}
use Rattle.cli_serve.specs.Means.{client_means, hosted_means}
use Rattle.cli_serve.specs.Opening.{ServedClient}
use Rattle.client_builder.specs.declared.own_interceptor.OwnInterceptor.{OwnInterceptor}
use Rattle.client_components.specs.Paying.{Pays, prices_of}
use Rattle.client_components.specs.Retrying.{calls_quota}
use Rattle.client_components.specs.Serving.{Serves}
use Rattle.client_retries.specs.Deciding.{sums_in}
use Rattle.client_retries.specs.Meanings.{InterceptorMeans}
use Rattle.client_scripted.specs.declared.service.error.ServiceError.{ServiceError}
use Rattle.host_session.specs.Feeding.{Feeds}
use Rattle.host_session.specs.Talking.{Stand, Turns}
use Rattle.host_session.specs.declared.seat.Seat.{Seat}
use Rattle.host_session.specs.declared.session.Fed.{Fed}
use Rattle.host_session.specs.declared.session.Fed.TheVariants.{Open}
use Rattle.host_session.specs.declared.session.Session.{Session}
use Rattle.json_host.specs.Messages.{IsMessage}
use Rattle.json_host.specs.declared.message.HostMessage.TheVariants as message
use Rattle.json_host.specs.declared.message.SeatMessage.{SeatMessage}
use Rattle.json_host.specs.declared.message.SeatMessage.TheVariants as seat_message
use Rattle.rate_limit.specs.Pace.{Pace}
use Rattle.retry_policy.specs.Standing.{standing_bucket}
use Rattle.retry_policy.specs.declared.classify.Classifier.{Classifier}
use Rattle.retry_quota.specs.Registers.{Registers, meaning_of}
use Rattle.run_grammar.specs.declared.answer.Answer.{Answer}
use Rattle.run_grammar.specs.declared.answer.Answer.TheVariants as answers
use Rattle.run_grammar.specs.declared.answer.Entry.{Entry}
use Rattle.run_grammar.specs.declared.question.Question.{Question}
use Rattle.run_grammar.specs.declared.question.Question.TheVariants as questions
use Rattle.smithy_base.specs.declared.intercept.Slot.{Slot}
use Rattle.smithy_context.specs.StandingLayers.{StandingLayers}
use Rattle.smithy_context.specs.declared.context.InterceptorContext.{InterceptorContext}
use Rattle.smithy_types.specs.Chain.{Chained}
use Rattle.smithy_types.specs.declared.notes.DecideNote.{DecideNote}
use Rattle.smithy_types.specs.declared.notes.RetryAction.{RetryAction}

-- a decision's note tells what the bucket in force holds
abbrev pub NoteTells : Registers Pace → StandingLayers → Option DecideNote → Type 0
NoteTells after settings None = Unit {0}
NoteTells after settings (Some note) = note.sums ≡ sums_in (meaning_of after) (standing_bucket settings)

-- so does a decision with a note, and no other answer tells of a bucket
abbrev pub AnswerTells : Registers Pace → StandingLayers → Answer → Type 0
AnswerTells after settings (answers.Decided choice note) = NoteTells after settings note
AnswerTells after settings _ = Unit {0}

-- of an entry: only Decide is answered by a note
abbrev pub Tells : Registers Pace → Question → Answer → Type 0
Tells after (questions.Decide settings request response outcome attempt) a = AnswerTells after settings a
Tells after _ a = Unit {0}

-- a seat's log grew by these entries; a run that begins has them alone, and one that is given up gets none
abbrev pub Grew : SeatMessage → List Entry → List Entry → List Entry → Type 0
Grew (seat_message.Invoke i) before entries after = after ≡ entries
Grew (seat_message.At moment events) before entries after = after ≡ before ++ entries
Grew (seat_message.GiveUp moment) before entries after = (entries ≡ []) × (after ≡ before)

module _ {C I : Type 0} where
  -- the line is a message for a seat, whose log grew by these entries
  pub record GrewAt (line : List ℕ) (old : Session (ServedClient C I)) (entries : List Entry)
      (new : Session (ServedClient C I)) : Type 0 where
    pub number : ℕ
    pub asked : SeatMessage
    pub is : IsMessage line (message.Seat number asked)
    pub seat : Seat (ServedClient C I)
    pub stands : slice_get old.seats.items number ≡ Some seat
    pub after : Seat (ServedClient C I)
    pub stands_after : slice_get new.seats.items number ≡ Some after
    pub grew : Grew asked seat.world.components.log entries after.world.components.log

  module _ (says : C → InterceptorContext → RetryAction → RetryAction) (chain : InterceptorMeans I) where
    -- An entry that a seat's client answers makes this of the registers. Only where its question calls the quota it
    -- changes what they mean. A further attempt is paid for at the prices of its bucket, and the note of a decision tells
    -- what the bucket holds behind it.
    pub record Steps (old : Registers Pace) (e : Entry) (new : Registers Pace) : Type 0 where
      pub from : ServedClient C I
      pub to : ServedClient C I
      pub serves : Serves (client_means says chain) from.components.parts e to.components.parts
      pub old_is : from.components.parts.quota ≡ old
      pub new_is : to.components.parts.quota ≡ new
      pub still : calls_quota e.question ≡ false → meaning_of new ≡ meaning_of old
      pub pays : Pays (prices_of (meaning_of new)) e.question e.answer
      pub tells : Tells new e.question e.answer

    -- A line moves the registers by the entries of its seat alone, one after another. A line that is for no seat, or is
    -- refused, moves nothing.
    pub record Moves (old : Session (ServedClient C I)) (line : List ℕ) (new : Session (ServedClient C I)) : Type 0 where
      pub entries : List Entry
      pub steps : Chained Steps old.quota entries new.quota
      pub grew : GrewAt line old entries new ⊎ ((entries ≡ []) × (new ≡ old))

    -- each line does so,
    abbrev pub EachLineMoves : Type 0
    EachLineMoves =
        (line : List ℕ) (old new : Session (ServedClient C I)) (before text : List ℕ) (come : Fed) →
        Feeds (hosted_means says chain) line old before new text come → Moves old line new

    -- and the lines of a conversation in their order
    abbrev pub ConversationMoves : Type 0
    ConversationMoves =
        (lines : List (List ℕ)) (old new : Stand (ServedClient C I)) →
        Chained (Turns (hosted_means says chain) Open) old lines new →
        Chained Moves old.session lines new.session

-- So it is of the clients of `serve`: of each line,
abbrev pub LinesPay : Type 0
LinesPay =
    EachLineMoves {C = Classifier ServiceError NoClassifier none} {I = Slot OwnInterceptor NoInterceptor none} own_says
    own_chain

-- and of a conversation.
abbrev pub ConversationsPay : Type 0
ConversationsPay =
    ConversationMoves {C = Classifier ServiceError NoClassifier none} {I = Slot OwnInterceptor NoInterceptor none}
    own_says own_chain
