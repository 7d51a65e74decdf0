-- What the quota of one caller means.
use Rattle.std.specs.Prelude.{◌≡◌, Some}
use Rattle.retry_quota.specs.Book.{cost_of}
use Rattle.retry_quota.specs.Caller.{CallerMeaning, one_bucket}
use Rattle.retry_quota.specs.Meaning.{Meaning}
use Rattle.retry_quota_cell.specs.Known.{Known, Place, IsOf}
use Rattle.retry_quota_cell.specs.Callers.{own, IsOrdered}

-- a caller's pass and its limiter
pub record Caller (L : Type 0) : Type 0 where
  pub pass : Known
  pub limiter : L

-- the pass is of this bucket and of one caller alone, and its steps stand in their order: it never joined another
pub record IsAlone (bucket : Place) (pass : Known) : Type 0 where
  pub own_pass : IsOf bucket pass
  pub one : pass.view.parts ≡ 1
  pub ordered : IsOrdered pass.view

-- what the quota of one caller is: what its bucket says, the steps that its pass made, and its own limiter
abbrev pub caller_part : {L : Type 0} → Place → Caller L → CallerMeaning L
caller_part place c = record {
  cost = λ kind. cost_of kind place.opening.book;
  reward = place.opening.book.reward;
  entries = Some (own c.pass.view);
  limiter = c.limiter;
}

-- and what it means as a quota
abbrev pub caller_meaning : {L : Type 0} → Place → Caller L → Meaning L
caller_meaning place c = one_bucket (caller_part place c)
