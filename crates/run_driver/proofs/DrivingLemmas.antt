-- A run that is driven on.
use Rattle.std.proofs.Common.{◌≡◌, ℕ, ◌+◌, ◌≤◌, Bool, false, List, [], ◌∷◌, ◌++◌, refl, subst, inl, inr, arith}
use Rattle.smithy_types.specs.Chain.{Chained}
use Rattle.smithy_types.proofs.ChainLemmas.{chained_more}
use Rattle.run_grammar.specs.declared.answer.Entry.{Entry}
use Rattle.orchestrate.specs.declared.invocation.Invocation.{Invocation}
use Rattle.orchestrate.specs.declared.invocation.Step.TheVariants.{Asked, Ended}
use Rattle.orchestrate.specs.Handing.{HandedOn}
use Rattle.orchestrate.specs.Stands.{Drove, Lost, Progress}
use Rattle.orchestrate.proofs.HandingLemmas.{handed_nothing}
use Rattle.orchestrate.proofs.Running.{progress_more, run_lost}
use Rattle.run_driver.specs.Driving.{Advances, GoesPast, IsInterrupted, RunsThrough, Stretches}

-- no call was made
pub advances_nothing : (u : Invocation) (log : List Entry) → Advances u u log log 0
advances_nothing u log p stop before n made =
    let same : n ≡ n + 0 = omega arith in
    subst (λ (m : ℕ). Progress p stop u before log m) same made

-- one more was made
pub advances_more : (u v w : Invocation) (first log more : List Entry) (k : ℕ) → Advances u v first log k → Drove Asked v w log more → Advances u w first more (k + 1)
advances_more u v w first log more k so_far drove p stop before n made =
    let same : (n + k) + 1 ≡ n + (k + 1) = omega arith in
    subst (λ (m : ℕ). Progress p stop w before more m) same (progress_more p stop v w before log more (n + k) (so_far p stop before n made) drove)

-- want of memory behind so many calls
pub interrupted : (u v w : Invocation) (first log more : List Entry) (k fuel : ℕ) → k + 1 ≤ fuel → Advances u v first log k → Lost v w log more → IsInterrupted u first more fuel
interrupted u v w first log more k fuel le so_far lost p stop before n made =
    run_lost p stop (n + fuel) v w before log more (n + k) (omega arith) (so_far p stop before n made) lost

module _ {W : Type 0} (calls : W → List Entry) (relates : W → List Entry → W → Type 0) (parks : W → Bool) where
  -- these were answered, and behind none of them the run had to wait
  unfoldable pub WentPast : W → W → Type 0
  WentPast old new = (entries : List Entry) × Chained (GoesPast calls relates parks) old entries new

  pub went_nowhere : (old : W) → WentPast old old
  unfolding WentPast
  went_nowhere old = ([], refl)

  -- one more was answered
  pub went_past : (v w : Invocation) (old mid new : W) → WentPast old mid → Drove Asked v w (calls mid) (calls new) →
      HandedOn relates mid new (calls mid) (calls new) → parks new ≡ false → WentPast old new
  unfolding WentPast
  went_past v w old mid new (entries, chain) (one, grows, stop, rest) related awake = (
    entries ++ one ∷ [],
    chained_more (GoesPast calls relates parks) old mid new entries one chain (record { grows = grows; related = related }, awake),
  )

  -- one more was answered, behind which the run has to wait
  pub stretched_by_one : (v w : Invocation) (old mid new : W) → WentPast old mid → Drove Asked v w (calls mid) (calls new) →
      HandedOn relates mid new (calls mid) (calls new) → Stretches calls relates parks old new
  unfolding WentPast
  stretched_by_one v w old mid new (entries, chain) (one, grows, stop, rest) related = record {
    entries = entries;
    last = mid;
    goes_past = chain;
    ends = inr (one, record { grows = grows; related = related });
  }

  -- the run is whole
  pub stretched_quietly : (v w : Invocation) (old mid new : W) → WentPast old mid → Drove Ended v w (calls mid) (calls new) →
      HandedOn relates mid new (calls mid) (calls new) → Stretches calls relates parks old new
  unfolding WentPast
  stretched_quietly v w old mid new (entries, chain) (same, stays, rest) related = record {
    entries = entries;
    last = mid;
    goes_past = chain;
    ends = inl (record { stays = stays; related = related });
  }

  -- it may ask no more
  pub stretched_awake : (old new : W) → WentPast old new → Stretches calls relates parks old new
  unfolding WentPast
  stretched_awake old new (entries, chain) = record {
    entries = entries;
    last = new;
    goes_past = chain;
    ends = inl (record { stays = refl; related = handed_nothing relates new (calls new) });
  }

  -- the run is whole, and never had to wait
  pub ran_quietly : (v w : Invocation) (old mid new : W) → WentPast old mid → Drove Ended v w (calls mid) (calls new) →
      HandedOn relates mid new (calls mid) (calls new) → RunsThrough calls relates parks old new
  unfolding WentPast
  ran_quietly v w old mid new (entries, chain) (same, stays, rest) related = record {
    entries = entries;
    last = mid;
    goes_past = chain;
    ends = record { stays = stays; related = related };
  }

  -- it may ask no more, and never had to wait
  pub ran_awake : (old new : W) → WentPast old new → RunsThrough calls relates parks old new
  unfolding WentPast
  ran_awake old new (entries, chain) = record {
    entries = entries;
    last = new;
    goes_past = chain;
    ends = record { stays = refl; related = handed_nothing relates new (calls new) };
  }
