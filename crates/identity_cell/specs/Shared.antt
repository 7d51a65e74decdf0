-- What a caller of a shared cache is told, by what it held and what its load answered.
use Rattle.std.specs.Prelude.{◌≡◌, ◌⊎◌, ℕ, Bool, true, false}
use Rattle.identity_cell.specs.declared.loading.Held.{Held}
use Rattle.identity_cell.specs.declared.loading.Held.TheVariants as held
use Rattle.identity_cell.specs.declared.loading.LoadPoll.{LoadPoll}
use Rattle.identity_cell.specs.declared.loading.LoadPoll.TheVariants as poll
use Rattle.identity_cell.specs.declared.loading.CacheAnswer.{CacheAnswer}
use Rattle.identity_cell.specs.declared.loading.CacheAnswer.TheVariants as answer
use Rattle.identity_cell.specs.declared.cell.Cleared.{Cleared}
use Rattle.identity_cell.specs.declared.cell.Cleared.TheVariants as cleared

-- the caller has an open load
abbrev pub HasTicket : Held → Type 0
HasTicket (held.Ticket t) = Unit {0}
HasTicket _ = ⊥

-- the load gave a value of which this is a copy
abbrev pub GaveCopy : {T E : Type 0} → (T → T → Type 0) → (LoadPoll T E → Type 0) → T → Type 0
GaveCopy {T} copies polls copy = (value : T) × (expiry : ℕ) × polls (poll.Ready value expiry) × copies value copy

-- where no load was open, the caller may be told to wait for another one's, and then it has no ticket;
-- a caller with a ticket asked its own load, which isn't over
abbrev pub MayWait : {T E : Type 0} → (LoadPoll T E → Type 0) → Held → Held → Type 0
MayWait polls (held.Ticket t) new = polls poll.Pending × (new ≡ held.Ticket t)
MayWait polls old held.Nothing = ⊥
MayWait polls old held.Wait = Unit {0}
MayWait polls old (held.Ticket t) = polls poll.Pending

-- the answer, by what the load answered in this call, and what the caller holds then
abbrev pub Answers : {T E : Type 0} → (T → T → Type 0) → (LoadPoll T E → Type 0) → Held → CacheAnswer T E → Held →
    Type 0
Answers copies polls (held.Ticket t) (answer.Value copy) new = GaveCopy copies polls copy × (new ≡ held.Nothing)
Answers copies polls old (answer.Value copy) new = new ≡ held.Nothing
Answers copies polls old answer.NotYet new = MayWait polls old new
Answers copies polls old (answer.Failed e) new = polls (poll.Failed e) × (new ≡ held.Nothing)

-- there was no memory: nothing happened, and the caller had no ticket, or there was none for the
-- copy of a value that the load gave, and the load has failed
abbrev pub GivesUp : {T E : Type 0} → (LoadPoll T E → Type 0) → Held → Held → Type 0
GivesUp {T} polls old new =
    ((HasTicket old → ⊥) × (new ≡ old))
    ⊎ ((value : T) × (expiry : ℕ) × polls (poll.Ready value expiry) × (new ≡ held.Nothing))

-- whether a caller is told to wait
abbrev pub is_told_to_wait : {T : Type 0} → Cleared T → Bool
is_told_to_wait cleared.NotYet = true
is_told_to_wait _ = false

-- only a caller that never waited is answered a value
abbrev pub MayHaveValue : {T : Type 0} → Bool → Cleared T → Type 0
MayHaveValue waited (cleared.Value copy) = waited ≡ false
MayHaveValue waited _ = Unit {0}

-- the answer is a copy of the value
abbrev pub IsCopyOf : {T E : Type 0} → (T → T → Type 0) → T → CacheAnswer T E → Type 0
IsCopyOf copies value (answer.Value copy) = copies value copy
IsCopyOf copies value _ = ⊥

-- what a caller with a ticket is told, by what its load answered
abbrev pub Polled : {T E : Type 0} → (T → T → Type 0) → ℕ → LoadPoll T E → CacheAnswer T E → Held → Type 0
Polled copies ticket poll.Pending answer.NotYet new = new ≡ held.Ticket ticket
Polled copies ticket (poll.Failed e) (answer.Failed d) new = (d ≡ e) × (new ≡ held.Nothing)
Polled copies ticket (poll.Ready value expiry) (answer.Value copy) new = copies value copy × (new ≡ held.Nothing)
Polled copies ticket _ _ new = ⊥

-- the load gave a value that couldn't be copied
abbrev pub LostCopy : {T E : Type 0} → LoadPoll T E → Held → Type 0
LostCopy (poll.Ready value expiry) new = new ≡ held.Nothing
LostCopy _ new = ⊥
