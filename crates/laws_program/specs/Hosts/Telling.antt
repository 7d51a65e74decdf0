-- What the bytes of a host determine.
use Rattle.std.specs.Prelude.{◌≡◌, ◌⊎◌, ℕ, ◌<◌, ◌^◌, Bool, true, false, List, [], ◌∷◌, ◌++◌, length, Some}
use Rattle.cli_serve.specs.Conversing.{Converses}
use Rattle.cli_shell.specs.Determined.{is_answer}
use Rattle.cli_shell.specs.Sink.{SinkView}
use Rattle.cli_shell.specs.Source.{SourceView}
use Rattle.cli_shell.specs.declared.status.Ended.{Ended}
use Rattle.host_session.specs.Lines.{HasNoFeed}
use Rattle.host_session.specs.Refusing.{TellsWhy}
use Rattle.json_host.specs.Messages.{IsMessage}
use Rattle.json_host.specs.declared.message.HostMessage.{HostMessage}

-- ---- texts that are told line by line

-- The line is no message. Both say so, and where and why, in words that may differ.
pub record BothTellWhy (line one other : List ℕ) : Type 0 where
  pub none : (m : HostMessage) → IsMessage line m → ⊥
  pub first : TellsWhy [] one
  pub second : TellsWhy [] other

-- What two tell of a line is the same, but of a further line that is no message.
abbrev pub AlikeOf : Bool → List ℕ → List ℕ → List ℕ → Type 0
AlikeOf false line one other = one ≡ other
AlikeOf true line one other = (one ≡ other) ⊎ BothTellWhy line one other

-- The bytes begin with this line. What two tell of it is alike, and so is what they tell behind it.
pub record LineAlike (is_further : Bool) (line : List ℕ) (next : List ℕ → List ℕ → List ℕ → Type 0)
    (bytes one other : List ℕ) : Type 0 where
  pub behind : List ℕ
  pub begins : bytes ≡ line ++ 10 ∷ behind
  pub whole : HasNoFeed line
  pub told : List ℕ
  pub text : List ℕ
  pub alike : AlikeOf is_further line told text
  pub more : List ℕ
  pub rest : List ℕ
  pub goes : next behind more rest
  pub one_is : one ≡ told ++ more
  pub other_is : other ≡ text ++ rest

-- The bytes begin with these lines, and what two tell of each is alike.
abbrev pub AlikeBy : Bool → List (List ℕ) → List ℕ → List ℕ → List ℕ → Type 0
AlikeBy is_further [] bytes one other = (one ≡ []) × (other ≡ [])
AlikeBy is_further (line ∷ lines) bytes one other = LineAlike is_further line (AlikeBy true lines) bytes one other

-- two texts over these bytes are alike
abbrev pub AreAlike : List ℕ → List ℕ → List ℕ → Type 0
AreAlike bytes one other = (lines : List (List ℕ)) × AlikeBy false lines bytes one other

-- Both can be gone on with so that they are alike.
pub record BeginAlike (bytes one other : List ℕ) : Type 0 where
  pub more : List ℕ
  pub rest : List ℕ
  pub alike : AreAlike bytes (one ++ more) (other ++ rest)

-- ---- texts of messages

-- each line behind the first is a message
abbrev pub AreMessages : List ℕ → Type 0
AreMessages bytes =
    (front line behind : List ℕ) → bytes ≡ (front ++ 10 ∷ line) ++ 10 ∷ behind → HasNoFeed line →
    (m : HostMessage) × IsMessage line m

-- the other begins with the one
abbrev pub IsFront : List ℕ → List ℕ → Type 0
IsFront one other = (more : List ℕ) × (other ≡ one ++ more)

-- one of them begins with the other
abbrev pub AreFronts : List ℕ → List ℕ → Type 0
AreFronts one other = IsFront one other ⊎ IsFront other one

-- ---- two conversations

-- two texts stand in two sinks behind the same earlier bytes
pub record StandBehind (written one other : List ℕ) (new end : SinkView) : Type 0 where
  pub first : new.written ≡ Some (written ++ one)
  pub second : end.written ≡ Some (written ++ other)

-- Of two conversations over the same bytes, whatever ended them, what one wrote and what the other wrote can be gone on
-- with so that they are alike, behind the same earlier bytes, where the sinks lost nothing.
abbrev pub AlikeBegins : Type 0
AlikeBegins =
    (bytes written : List ℕ) (first second : Ended) (before after begun later : SourceView)
    (old new start end : SinkView) →
    before.left ≡ Some bytes → begun.left ≡ Some bytes →
    old.written ≡ Some written → start.written ≡ Some written → new.is_lost ≡ false → end.is_lost ≡ false →
    Converses first before after old new → Converses second begun later start end →
    (one : List ℕ) × (other : List ℕ) × StandBehind written one other new end × BeginAlike bytes one other

-- Faults and want of memory aside, what both wrote is alike,
abbrev pub AlikeTalks : Type 0
AlikeTalks =
    (bytes written : List ℕ) (first second : Ended) (before after begun later : SourceView)
    (old new start end : SinkView) → length bytes < 2 ^ 64 →
    before.left ≡ Some bytes → begun.left ≡ Some bytes →
    old.written ≡ Some written → start.written ≡ Some written → new.is_lost ≡ false → end.is_lost ≡ false →
    is_answer first ≡ true → is_answer second ≡ true →
    Converses first before after old new → Converses second begun later start end →
    (one : List ℕ) × (other : List ℕ) × StandBehind written one other new end × AreAlike bytes one other

-- and for both there is one status.
abbrev pub OneEnd : Type 0
OneEnd =
    (bytes : List ℕ) (first second : Ended) (before after begun later : SourceView) (old new start end : SinkView) →
    length bytes < 2 ^ 64 → before.left ≡ Some bytes → begun.left ≡ Some bytes →
    new.is_lost ≡ false → end.is_lost ≡ false → is_answer first ≡ true → is_answer second ≡ true →
    Converses first before after old new → Converses second begun later start end → first ≡ second

-- Where each line behind the first is a message, what one wrote begins with what the other wrote, whatever ended them,
abbrev pub OneBeginsOther : Type 0
OneBeginsOther =
    (bytes written : List ℕ) (first second : Ended) (before after begun later : SourceView)
    (old new start end : SinkView) → AreMessages bytes →
    before.left ≡ Some bytes → begun.left ≡ Some bytes →
    old.written ≡ Some written → start.written ≡ Some written → new.is_lost ≡ false → end.is_lost ≡ false →
    Converses first before after old new → Converses second begun later start end →
    (one : List ℕ) × (other : List ℕ) × StandBehind written one other new end × AreFronts one other

-- and faults and want of memory aside, both wrote the same.
abbrev pub OneTalk : Type 0
OneTalk =
    (bytes written : List ℕ) (first second : Ended) (before after begun later : SourceView)
    (old new start end : SinkView) → AreMessages bytes → length bytes < 2 ^ 64 →
    before.left ≡ Some bytes → begun.left ≡ Some bytes →
    old.written ≡ Some written → start.written ≡ Some written → new.is_lost ≡ false → end.is_lost ≡ false →
    is_answer first ≡ true → is_answer second ≡ true →
    Converses first before after old new → Converses second begun later start end → new.written ≡ end.written
