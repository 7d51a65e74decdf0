-- What a decision's calls add to the steps that a quota tells.
use Rattle.std.proofs.Common.{◌≡◌, ◌∙◌, ap, refl, sym, ℕ, Bool, true, false, if◌then◌else◌, List, [], ◌∷◌, ◌++◌, Option, Some, None, append_assoc}
use Rattle.std.proofs.lemmas.List.{append-nil}
use Rattle.std.specs.Prelude.{Result, Ok, Err, nat_le, nat_lt}
use Rattle.smithy_types.specs.Chain.{Chained}
use Rattle.smithy_types.specs.declared.kinds.ErrorKind.{ErrorKind}
use Rattle.smithy_types.specs.declared.notes.Reason.TheVariants.{NotIndicated, OutOfAttempts}
use Rattle.smithy_types.specs.declared.notes.RetryAction.{RetryAction}
use Rattle.smithy_types.specs.declared.notes.RetryAction.TheVariants.{NoActionIndicated, RetryIndicated, RetryForbidden}
use Rattle.retry_quota.specs.declared.limiter.RequestReason.{RequestReason}
use Rattle.retry_quota.specs.declared.permit.Permit.{Permit}
use Rattle.retry_quota.specs.Calls.{QuotaCall, OnBucket, Settled, AskedLimiter, ToldLimiter, FoundBucket, FoundLimiter, Limiters, Calls}
use Rattle.retry_quota.specs.History.{Step, Reward, Entry, Done}
use Rattle.retry_quota.specs.Meaning.{Meaning, Settles, recorded}
use Rattle.retry_policy.specs.Backoff.{is_v2_1, own_backoff, backoff_of}
use Rattle.retry_policy.specs.Decision.{Case, Decided, refusing, paying, retrying, deciding, decision, asking, limited, reason_for, telling, forgetting, giving_back, settling, settled, held_on}
use Rattle.retry_policy.specs.Steps.{steps_in, steps_of}
use Rattle.retry_policy.specs.declared.standing.Paced.{Paced}

-- a call that adds no bucket and no limiter
IsPlain : QuotaCall → Type 0
IsPlain (OnBucket bucket step reply) = Unit {0}
IsPlain (Settled bucket step) = Unit {0}
IsPlain (AskedLimiter limiter now reason reply) = Unit {0}
IsPlain (ToldLimiter limiter now throttled) = Unit {0}
IsPlain (FoundBucket partition spec number) = ⊥
IsPlain (FoundLimiter partition now number) = ⊥

ArePlain : List QuotaCall → Type 0
ArePlain [] = Unit {0}
ArePlain (call ∷ calls) = IsPlain call × ArePlain calls

plain_join : (xs ys : List QuotaCall) → ArePlain xs → ArePlain ys → ArePlain (xs ++ ys)
unfolding ArePlain
plain_join [] ys h g = g
plain_join (x ∷ xs) ys (h, t) g = (h, plain_join xs ys t g)

plain_if : (t : Bool) (xs ys : List QuotaCall) → ArePlain xs → ArePlain ys → ArePlain (if t then xs else ys)
plain_if true xs ys h g = h
plain_if false xs ys h g = g

plain_telling : (paced : Option Paced) (verdict : RetryAction) → ArePlain (telling paced verdict)
unfolding IsPlain ArePlain
plain_telling None verdict = tt
plain_telling (Some paced) verdict = (tt, tt)

plain_forgetting : (held : Option Permit) → ArePlain (forgetting held)
unfolding IsPlain ArePlain
plain_forgetting None = tt
plain_forgetting (Some permit) = (tt, tt)

plain_giving_back : (bucket : ℕ) (held : Option Permit) → ArePlain (giving_back bucket held)
unfolding IsPlain ArePlain
plain_giving_back bucket None = (tt, tt)
plain_giving_back bucket (Some permit) = (tt, tt)

plain_settled : (failed : Bool) (bucket reward : ℕ) (held : Option Permit) → ArePlain (settled failed bucket reward held)
unfolding IsPlain ArePlain
plain_settled true bucket reward held = tt
plain_settled false bucket reward held =
    plain_if (nat_lt 0 reward) (OnBucket bucket Reward Done ∷ forgetting held) (giving_back bucket held) (tt, plain_forgetting held) (plain_giving_back bucket held)

plain_asking : (version : Bool) (paced : Option Paced) (reason : RequestReason) (reply : Result (Unit {0}) ℕ) → ArePlain (asking version paced reason reply)
unfolding IsPlain ArePlain
plain_asking true paced reason reply = tt
plain_asking false None reason reply = tt
plain_asking false (Some paced) reason reply = (tt, tt)

plain_paying : (c : Case) (kind : ErrorKind) (backoff : ℕ) (held : Option Permit) (grant : Option ℕ) → ArePlain (paying c kind backoff held grant).calls
unfolding IsPlain ArePlain
plain_paying c kind backoff held None = (tt, tt)
plain_paying c kind backoff held (Some amount) = (tt, plain_forgetting held)

plain_retrying : (c : Case) (kind : ErrorKind) (retry_after : Option ℕ) (held : Option Permit) (reply : Result (Unit {0}) ℕ) (grant : Option ℕ) → ArePlain (retrying c kind retry_after held reply grant).calls
plain_retrying c kind retry_after held reply grant =
    let version = is_v2_1 c.retry.spec in
    let backoff = backoff_of c.retry (limited version c.paced reply) retry_after (own_backoff c.retry kind c.attempt c.word) in
    plain_join (asking version c.paced (reason_for kind) reply) (paying c kind backoff held grant).calls (plain_asking version c.paced (reason_for kind) reply) (plain_paying c kind backoff held grant)

plain_deciding : (c : Case) (verdict : RetryAction) (held : Option Permit) (reply : Result (Unit {0}) ℕ) (grant : Option ℕ) → ArePlain (deciding c verdict held reply grant).calls
unfolding IsPlain ArePlain
plain_deciding c NoActionIndicated held reply grant = tt
plain_deciding c RetryForbidden held reply grant = tt
plain_deciding c (RetryIndicated kind retry_after) held reply grant = by_test (nat_le c.retry.max_attempts c.attempt)
  where
    by_test : (t : Bool) → ArePlain (if t then refusing OutOfAttempts held else retrying c kind retry_after held reply grant).calls
    by_test true = tt
    by_test false = plain_retrying c kind retry_after held reply grant

plain_decision : (c : Case) (held : Option Permit) (reply : Result (Unit {0}) ℕ) (grant : Option ℕ) → ArePlain (decision c held reply grant).calls
plain_decision c held reply grant = plain_join (telling c.paced c.verdict) (settled c.failed c.bucket c.reward held ++ (deciding c c.verdict (held_on c.failed held) reply grant).calls) (plain_telling c.paced c.verdict)
    (plain_join (settled c.failed c.bucket c.reward held) (deciding c c.verdict (held_on c.failed held) reply grant).calls (plain_settled c.failed c.bucket c.reward held) (plain_deciding c c.verdict (held_on c.failed held) reply grant))

module _ {L : Type 0} (means : Limiters L) where
  Adds : (has : ℕ → Bool) (entries more : List Entry) (k : Meaning L) → Type 0
  Adds has entries more k = (k.entries ≡ Some (entries ++ more)) × ((b : ℕ) → k.has b ≡ has b)

  adds_nothing : (m k : Meaning L) (has : ℕ → Bool) (entries : List Entry) → ((b : ℕ) → m.has b ≡ has b) → m.entries ≡ Some entries → k.entries ≡ m.entries → ((b : ℕ) → k.has b ≡ m.has b) → Adds has entries [] k
  unfolding Adds
  adds_nothing m k has entries same told e kept = (e ∙ told ∙ ap Some (sym (append-nil entries)), λ b. kept b ∙ same b)

  settles : (m k : Meaning L) (has : ℕ → Bool) (entries : List Entry) (bucket : ℕ) (step : Step) → ((b : ℕ) → m.has b ≡ has b) → m.entries ≡ Some entries → Settles m bucket step k
      → (t : Bool) → has bucket ≡ t → Adds has entries (if t then record { step = step; reply = Done } ∷ [] else []) k
  unfolding Adds
  settles m k has entries bucket step same told h true e =
      let made = h.there (same bucket ∙ e) in (made.entries ∙ ap (λ o. recorded o step Done) told, λ b. made.buckets.has b ∙ same b)
  settles m k has entries bucket step same told h false e =
      let kept = h.foreign (same bucket ∙ e) in adds_nothing m k has entries same told kept.entries kept.buckets.has

  adds_one : (call : QuotaCall) (m k : Meaning L) (has : ℕ → Bool) (entries : List Entry) → IsPlain call → ((b : ℕ) → m.has b ≡ has b) → m.entries ≡ Some entries → Calls means m call k → Adds has entries (steps_in has call) k
  unfolding IsPlain Adds
  adds_one (OnBucket bucket step reply) m k has entries p same told h = (h.entries ∙ ap (λ o. recorded o step reply) told, λ b. h.buckets.has b ∙ same b)
  adds_one (Settled bucket step) m k has entries p same told h = settles m k has entries bucket step same told h (has bucket) refl
  adds_one (AskedLimiter limiter now reason reply) m k has entries p same told h = adds_nothing m k has entries same told h.0.entries h.0.buckets.has
  adds_one (ToldLimiter limiter now throttled) m k has entries p same told h = adds_nothing m k has entries same told h.entries h.buckets.has
  adds_one (FoundBucket partition spec number) m k has entries p same told h = absurd p
  adds_one (FoundLimiter partition now number) m k has entries p same told h = absurd p

  adds : (calls : List QuotaCall) (m n : Meaning L) (has : ℕ → Bool) (entries : List Entry) → ArePlain calls → ((b : ℕ) → m.has b ≡ has b) → m.entries ≡ Some entries → Chained (Calls means) m calls n → n.entries ≡ Some (entries ++ steps_of has calls)
  unfolding ArePlain Adds
  adds [] m n has entries p same told e = ap (λ (k : Meaning L). k.entries) e ∙ told ∙ ap Some (sym (append-nil entries))
  adds (call ∷ calls) m n has entries (p, ps) same told (k, made, rest) =
      let one : Adds has entries (steps_in has call) k = adds_one call m k has entries p same told made in
      adds calls k n has (entries ++ steps_in has call) ps one.1 one.0 rest ∙ ap Some (append_assoc entries (steps_in has call) (steps_of has calls))

  pub decision_adds : (m n : Meaning L) (c : Case) (held : Option Permit) (reply : Result (Unit {0}) ℕ) (grant : Option ℕ) (entries : List Entry) → m.entries ≡ Some entries → Chained (Calls means) m (decision c held reply grant).calls n
      → n.entries ≡ Some (entries ++ steps_of m.has (decision c held reply grant).calls)
  decision_adds m n c held reply grant entries told made = adds (decision c held reply grant).calls m n m.has entries (plain_decision c held reply grant) (λ b. refl) told made
