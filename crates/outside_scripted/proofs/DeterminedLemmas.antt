-- What is determined, by the parts of a scripted outside.
use Rattle.std.proofs.Common.{◌≡◌, ℕ, ◌≤◌, ◌<◌, inl, inr, Bool, true, false, nat_le, List, Option, None, Some, MatchBool, sym, ◌∙◌, arith, slice_get}
use Rattle.outside.specs.declared.answers.IdentityPoll.{IdentityPoll}
use Rattle.outside.specs.declared.answers.IdentityPoll.TheVariants as identity
use Rattle.smithy_types.specs.declared.polled.Polled.{Polled}
use Rattle.smithy_types.specs.declared.polled.Polled.TheVariants as polled
use Rattle.outside.specs.declared.answers.Sent.{Sent}
use Rattle.outside_scripted.specs.declared.call.OpenBody.{OpenBody}
use Rattle.outside_scripted.specs.declared.call.OpenCall.{OpenCall}
use Rattle.outside_scripted.specs.declared.call.OpenCall.TheVariants.{Idle, Waiting, Streaming}
use Rattle.outside_scripted.specs.declared.records.Frame.{Frame}
use Rattle.outside_scripted.specs.declared.records.IdentityAnswer.{IdentityAnswer}
use Rattle.outside_scripted.specs.declared.records.IdentityAnswer.TheVariants as source
use Rattle.outside_scripted.specs.declared.records.IdentityRecord.{IdentityRecord}
use Rattle.outside_scripted.specs.declared.records.RecordAnswer.{RecordAnswer}
use Rattle.outside_scripted.specs.declared.records.RecordAnswer.TheVariants as given
use Rattle.outside_scripted.specs.declared.scripted_outside.ScriptedOutside.{ScriptedOutside}
use Rattle.outside_scripted.specs.Call.{coming, Gives, Streams, taken}
use Rattle.outside_scripted.specs.Loads.{due_of}
use Rattle.outside_scripted.specs.Makes.{Asks, AsksAt, Hands, identities_of, Loads, Resolves}
use Rattle.outside_scripted.specs.Time.{later}
use Rattle.outside_scripted.specs.Wake.{IsLeastAbove, NothingAbove, Wakes}

-- two pairs of values that are the same as one pair
pub both : {A B : Type 0} (a b x : A) (c d y : B) → (a ≡ x) × (c ≡ y) → (b ≡ x) × (d ≡ y) → (a ≡ b) × (c ≡ d)
both a b x c d y p q = (p.0 ∙ sym q.0, p.1 ∙ sym q.1)

-- two that both hold in one case of a test
pub either : (there : Bool) (P Q P' Q' R : Type 0) → (P → P' → R) → (Q → Q' → R) → MatchBool there P Q → MatchBool there P' Q' → R
either true P Q P' Q' R p q made other = p made other
either false P Q P' Q' R p q made other = q made other

pub hands : (old new other : ScriptedOutside) (come : Option RecordAnswer) (a b : Sent) → Hands old come a new → Hands old come b other → (a ≡ b) × (new ≡ other)
hands old new other None a b p q = (p.0 ∙ sym q.0, p.1 ∙ sym q.1)
hands old new other (Some (given.Failed kind text)) a b p q = (p.0 ∙ sym q.0, p.1 ∙ sym q.1)
hands old new other (Some (given.Response response)) a b p q = (p.0 ∙ sym q.0, p.1 ∙ sym q.1)

streams : (moment : ℕ) (body : OpenBody) (next : Option Frame) (a b : Polled) (new other : OpenCall) → Streams moment body next a new → Streams moment body next b other → (a ≡ b) × (new ≡ other)
streams moment body None a b new other p q = (p.0 ∙ sym q.0, p.1 ∙ sym q.1)
streams moment body (Some frame) a b new other p q =
    either (nat_le (later body.since frame.delay) moment)
    ((a ≡ polled.Data frame.bytes) × (new ≡ Streaming (taken moment body))) ((a ≡ polled.Pending) × (new ≡ Streaming body))
    ((b ≡ polled.Data frame.bytes) × (other ≡ Streaming (taken moment body))) ((b ≡ polled.Pending) × (other ≡ Streaming body))
    ((a ≡ b) × (new ≡ other))
    (λ h k. (h.0 ∙ sym k.0, h.1 ∙ sym k.1)) (λ h k. (h.0 ∙ sym k.0, h.1 ∙ sym k.1)) p q

pub gives : (moment : ℕ) (old new other : OpenCall) (a b : Polled) → Gives moment old a new → Gives moment old b other → (a ≡ b) × (new ≡ other)
gives moment Idle new other a b p q = (p.0 ∙ sym q.0, p.1 ∙ sym q.1)
gives moment (Waiting due answer) new other a b p q = (p.0 ∙ sym q.0, p.1 ∙ sym q.1)
gives moment (Streaming body) new other a b p q = streams moment body (coming body) a b new other p q

loads : (old new other : ScriptedOutside) (content : IdentityAnswer) (a b : IdentityPoll) → Loads old content a new → Loads old content b other → (a ≡ b) × (new ≡ other)
loads old new other (source.Identity content) a b p q = (p.0 ∙ sym q.0, p.1 ∙ sym q.1)
loads old new other (source.Failed text) a b p q = (p.0 ∙ sym q.0, p.1 ∙ sym q.1)

asks : (old new other : ScriptedOutside) (place due : ℕ) (content : IdentityAnswer) (a b : IdentityPoll) → Asks old place due content a new → Asks old place due content b other → (a ≡ b) × (new ≡ other)
asks old new other place due content a b p q =
    either (nat_le due old.moment)
    (Loads old content a new) ((a ≡ identity.Pending) × (new ≡ record old { load = Some (record { source = place; due = due }) }))
    (Loads old content b other) ((b ≡ identity.Pending) × (other ≡ record old { load = Some (record { source = place; due = due }) }))
    ((a ≡ b) × (new ≡ other))
    (loads old new other content a b) (λ h k. (h.0 ∙ sym k.0, h.1 ∙ sym k.1)) p q

asks_at : (old new other : ScriptedOutside) (place : ℕ) (found : Option IdentityRecord) (a b : IdentityPoll) → AsksAt old place found a new → AsksAt old place found b other → (a ≡ b) × (new ≡ other)
asks_at old new other place None a b p q = loads old new other (source.Failed _) a b p q
asks_at old new other place (Some found) a b p q = asks old new other place (due_of old.load place (later old.moment found.delay)) found.answer a b p q

pub resolves : (old new other : ScriptedOutside) (place : Option ℕ) (a b : IdentityPoll) → Resolves old place a new → Resolves old place b other → (a ≡ b) × (new ≡ other)
resolves old new other None a b p q = asks_at old new other 0 None a b p q
resolves old new other (Some place) a b p q = asks_at old new other place (slice_get (identities_of old.identities) place) a b p q

-- there is one least moment, or none
least : (moment : ℕ) (dues : List ℕ) (a b : ℕ) → IsLeastAbove moment dues a → IsLeastAbove moment dues b → a ≡ b
least moment dues a b p q =
    let low : a ≤ b = p.least b q.is_due q.above in
    let high : b ≤ a = q.least a p.is_due p.above in
    omega arith

none : (moment : ℕ) (dues : List ℕ) (a : ℕ) → IsLeastAbove moment dues a → NothingAbove moment dues → ⊥
none moment dues a p q = let low : a ≤ moment = q a p.is_due in let high : moment < a = p.above in omega arith

pub wakes : (moment : ℕ) (dues : List ℕ) (a b : ℕ) → Wakes moment dues a → Wakes moment dues b → a ≡ b
wakes moment dues a b (inl p) (inl q) = least moment dues a b p q
wakes moment dues a b (inl p) (inr q) = absurd (none moment dues a p q.0)
wakes moment dues a b (inr p) (inl q) = absurd (none moment dues b q p.0)
wakes moment dues a b (inr p) (inr q) = p.1 ∙ sym q.1
