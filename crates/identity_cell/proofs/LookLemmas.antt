-- A look into a cell: it is asked for a value, and where it gives none, to begin a load.
use Rattle.std.proofs.Common.{◌≡◌, ◌∙◌, ℕ, ◌+◌, ◌<◌, Bool, true, false, cond, nat_lt, List, ap, sym, subst, refl, Option, Some, None, ◌⊎◌, inl, inr, add-zero, Result, Ok, Err, OnErr}
use Rattle.std.proofs.lemmas.Bool.{ltb-true}
use Rattle.smithy_types.specs.declared.identity.Identity.{Identity}
use Rattle.identity_cell.specs.declared.cell.CellState.{CellState}
use Rattle.identity_cell.specs.declared.cell.CellState.TheVariants.{Empty, Loading, Full}
use Rattle.identity_cell.specs.declared.cell.Cleared.TheVariants as cleared
use Rattle.identity_cell.specs.declared.event.ClearReply.TheVariants as reply
use Rattle.std.specs.Map.{lookup, set_value}
use Rattle.std.proofs.lemmas.Map.Steps.{set_value_same}
use Rattle.identity_cell.specs.declared.cell.Begin.TheVariants as begun
use Rattle.identity_cell.specs.declared.event.ClearReply.{ClearReply}
use Rattle.identity_cell.specs.declared.looked.Looked.{Looked}
use Rattle.identity_cell.specs.declared.looked.Looked.TheVariants as looked
use Rattle.identity_cell.specs.History.{begun_in}
use Rattle.identity_cell.specs.Cell.{Cell, AnswersClear, AnswersBegin, reply_in, state_after_clear, after_clear}
use Rattle.identity_cell.specs.LazyCache.{Entry, is_id, HaveBuffer, AnswersLook, looked_at, after_none, LooksIn, StaysIn}
use Rattle.identity_cell.proofs.HistoryLemmas.{begun_in-append}
use Rattle.identity_cell.proofs.LazyLemmas.{written_buffer}

abbrev pub SameCopy : Identity → Identity → Type 0
SameCopy value copy = copy ≡ value

pub clear_hit : (buffer now : ℕ) (state : CellState Identity) (copy : Identity) → AnswersClear SameCopy state (reply_in buffer state now false) (cleared.Value copy) → (ticket : ℕ) × (expiry : ℕ) × (state ≡ Full ticket copy expiry) × (now + buffer < expiry) × (reply_in buffer state now false ≡ reply.Kept)
clear_hit buffer now Empty copy h = absurd h
clear_hit buffer now (Loading t) copy h = absurd h
clear_hit buffer now (Full t v x) copy h = by (nat_lt (now + buffer) x) refl h
  where
    by : (b : Bool) → nat_lt (now + buffer) x ≡ b → AnswersClear SameCopy (Full t v x) (cond b reply.Kept reply.None) (cleared.Value copy) → (ticket : ℕ) × (expiry : ℕ) × (Full t v x ≡ Full ticket copy expiry) × (now + buffer < expiry) × (reply_in buffer (Full t v x) now false ≡ reply.Kept)
    by true is same = (t, x, ap (λ c. Full t c x) (sym same), ltb-true (now + buffer) x is, ap (λ c. cond c reply.Kept reply.None) is)
    by false is same = absurd same

pub clear_none : (buffer now : ℕ) (state : CellState Identity) → AnswersClear SameCopy state (reply_in buffer state now false) cleared.None → (reply_in buffer state now false ≡ reply.None) × (state_after_clear buffer state now ≡ Empty)
clear_none buffer now Empty h = (refl, refl)
clear_none buffer now (Loading t) h = absurd h
clear_none buffer now (Full t v x) h = by (nat_lt (now + buffer) x) refl h
  where
    by : (b : Bool) → nat_lt (now + buffer) x ≡ b → AnswersClear SameCopy (Full t v x) (cond b reply.Kept reply.None) cleared.None → (reply_in buffer (Full t v x) now false ≡ reply.None) × (state_after_clear buffer (Full t v x) now ≡ Empty)
    by true is none = absurd none
    by false is none = (ap (λ c. cond c reply.Kept reply.None) is, ap (λ c. cond c (Full t v x) Empty) is)

pub clear_wait : (buffer now : ℕ) (state : CellState Identity) → AnswersClear SameCopy state (reply_in buffer state now false) cleared.NotYet → (ticket : ℕ) × (state ≡ Loading ticket) × (reply_in buffer state now false ≡ reply.NotYet)
clear_wait buffer now Empty h = absurd h
clear_wait buffer now (Loading t) h = (t, refl, refl)
clear_wait buffer now (Full t v x) h = by (nat_lt (now + buffer) x) h
  where
    by : (b : Bool) → AnswersClear SameCopy (Full t v x) (cond b reply.Kept reply.None) cleared.NotYet → (ticket : ℕ) × (Full t v x ≡ Loading ticket) × (reply_in buffer (Full t v x) now false ≡ reply.NotYet)
    by true wait = absurd wait
    by false wait = absurd wait

-- where there was no value, begin gave the ticket of a new load
pub begin_load : (cell mid : Cell Identity) (now ticket : ℕ) → mid ≡ after_clear cell now false → AnswersClear SameCopy cell.state (reply_in cell.buffer cell.state now false) cleared.None → AnswersBegin SameCopy mid.state (begun_in mid.events) (begun.Load ticket) → AnswersLook cell now (looked.Load ticket)
begin_load cell mid now ticket event answer load =
    let none = clear_none cell.buffer now cell.state answer in
    let t : ticket ≡ begun_in mid.events = subst (λ s. AnswersBegin SameCopy s (begun_in mid.events) (begun.Load ticket)) (ap (λ c. c.state) event ∙ none.1) load in
    (t ∙ (ap (λ c. begun_in c.events) event ∙ (begun_in-append cell.events _ ∙ add-zero (begun_in cell.events))), none.1)

-- a look keeps the buffer
pub look_buffer : (cell : Cell Identity) (now : ℕ) → (looked_at cell now).buffer ≡ cell.buffer
look_buffer cell now = by (reply_in cell.buffer cell.state now false)
  where
    by : (r : ClearReply) → (after_none r (after_clear cell now false)).buffer ≡ cell.buffer
    by reply.None = refl
    by reply.Kept = refl
    by reply.NotYet = refl

-- what a look leaves for which there was no memory
pub stays_in : (old new : List Entry) (id : List ℕ) (now : ℕ) (cell after : Cell Identity) → Some cell ≡ lookup (is_id id) old → new ≡ set_value (is_id id) old after → (after ≡ cell) ⊎ (after ≡ after_clear cell now false) → StaysIn old id now new
stays_in old new id now cell after found write (inl same) = inl (write ∙ (ap (λ c. set_value (is_id id) old c) same ∙ set_value_same (is_id id) old cell (sym found)))
stays_in old new id now cell after found write (inr cleared) = inr (cell, sym found, write ∙ ap (λ c. set_value (is_id id) old c) cleared)

pub stays_buffer : (buffer : ℕ) (old new : List Entry) (id : List ℕ) (now : ℕ) → HaveBuffer buffer old → StaysIn old id now new → HaveBuffer buffer new
stays_buffer buffer old new id now have (inl same) = subst (λ s. HaveBuffer buffer s) (sym same) have
stays_buffer buffer old new id now have (inr s) = written_buffer buffer (is_id id) old new s.0 (after_clear s.0 now false) have (sym s.1) refl s.2

pub looks_buffer : (buffer : ℕ) (old new : List Entry) (id : List ℕ) (now : ℕ) (answer : Option Looked) → HaveBuffer buffer old → LooksIn old id now answer new → HaveBuffer buffer new
looks_buffer buffer old new id now None have s = subst (λ l. HaveBuffer buffer l) (sym s.1) have
looks_buffer buffer old new id now (Some l) have s = written_buffer buffer (is_id id) old new s.0 (looked_at s.0 now) have (sym s.1) (look_buffer s.0 now) s.2

-- what is so after any error is so after this one
pub on_err : {A E P : Type 0} (r : Result A E) → P → OnErr r P
on_err (Ok x) p = tt
on_err (Err e) p = p
