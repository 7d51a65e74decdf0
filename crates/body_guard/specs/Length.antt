-- Bodies that have to have the length that was declared.
use Rattle.std.specs.Prelude.{◌≡◌, ℕ, ◌+◌, ◌-◌, ◌^◌, ◌==◌, min, if◌then◌else◌, List, [], ◌∷◌, Result, Ok, Err, IfOk}
use Rattle.smithy_types.specs.declared.memory.OutOfMemory.{OutOfMemory}
use Rattle.smithy_types.specs.Frames.{data_len}
use Rattle.body_guard.specs.Texts.{length_text, response_fault}
use Rattle.body_guard.specs.declared.content_length.ContentLengthEnforcingBody.{ContentLengthEnforcingBody}
use Rattle.smithy_types.specs.declared.polled.Polled.{Polled}
use Rattle.smithy_types.specs.declared.polled.Polled.TheVariants.{End, Failed}

-- what the end becomes after so many bytes of data, where n were declared
abbrev pub at_length_end : ℕ → ℕ → Polled
at_length_end n count = if count == n then End else Failed (response_fault (length_text n (min count (2 ^ 64 - 1))))

-- what an answer becomes after so many bytes of data
abbrev pub at_length : ℕ → ℕ → Polled → Polled
at_length n count End = at_length_end n count
at_length n count other = other

-- the answers of a body that was to have n bytes, after so many
abbrev pub guarded_from : ℕ → ℕ → List Polled → List Polled
guarded_from n count [] = []
guarded_from n count (answer ∷ answers) = at_length n count answer ∷ guarded_from n (count + data_len answer) answers

-- the answers of a body that was to have n bytes
abbrev pub guarded : ℕ → List Polled → List Polled
guarded n answers = guarded_from n 0 answers

module _ {B : Type 0} where
  -- so many bytes of data have come
  pub record HasReceived (body : ContentLengthEnforcingBody B) (count : ℕ) : Type 0 where
    pub bytes : body.bytes_received ≡ min count (2 ^ 128 - 1)

  -- what an answer of the inner body becomes; for want of memory nothing is answered, and all else is so
  pub record Enforces (old : ContentLengthEnforcingBody B) (inner : Polled) (answer : Result Polled OutOfMemory)
      (new : ContentLengthEnforcingBody B) : Type 0 where
    pub body : new.body ≡ old.body
    pub declared : new.expected_length ≡ old.expected_length
    pub received : (count : ℕ) → HasReceived old count → HasReceived new (count + data_len inner)
    pub answered : (count : ℕ) → HasReceived old count →
        IfOk answer (λ a. a ≡ at_length old.expected_length count inner)

  -- what follows from the inner body's answer
  abbrev pub FollowsEnforced : Result Polled OutOfMemory → ContentLengthEnforcingBody B → Result Polled OutOfMemory →
      ContentLengthEnforcingBody B → Type 0
  FollowsEnforced (Ok inner) old answer new = Enforces old inner answer new
  FollowsEnforced (Err e) old answer new = (answer ≡ Err e) × (new ≡ old)

  -- one poll: the inner body is polled, and its answer judged
  pub record PollsEnforced (polls : B → Result Polled OutOfMemory → B → Type 0) (old : ContentLengthEnforcingBody B)
      (answer : Result Polled OutOfMemory) (new : ContentLengthEnforcingBody B) : Type 0 where
    pub inner : Result Polled OutOfMemory
    pub body : B
    pub polled : polls old.body inner body
    pub follows : FollowsEnforced inner (record old { body = body }) answer new
