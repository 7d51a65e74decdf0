-- How a line is read, piece by piece.
use Rattle.std.proofs.Common.{◌≡◌, ℕ, ◌<◌, ◌≤◌, ◌==◌, ◌||◌, Bool, true, false, List, [], ◌∷◌, ◌++◌, length, Option, Some, None, refl, sym, ap, ◌∙◌, subst, append_assoc, append-nil, inl, inr, arith}
use Rattle.std.specs.Io.KnownBytes.{Consumes, IsAtEnd, Keeps}
use Rattle.std.specs.List.{list_any}
use Rattle.std.proofs.KnownBytes.{Consumes-kept, Consumes-nil, Consumes-trans}
use Rattle.cli_shell.specs.Source.{SourceView, Rose}
use Rattle.cli_shell.specs.declared.status.ShellStatus.{ShellStatus}
use Rattle.cli_shell.specs.declared.status.ShellStatus.TheVariants as shells
use Rattle.host_session.specs.Lines.{Grows, HasNoFeed, LosesFrom, LosesLine, ReadsFrom, ReadsOn, Splits, TakesNext}

or_false : (a b : Bool) → (a || b) ≡ false → (a ≡ false) × (b ≡ false)
or_false true b h = absurd (cc h)
or_false false b h = (refl, h)

no_feed_more : (xs ys : List ℕ) → HasNoFeed xs → HasNoFeed ys → HasNoFeed (xs ++ ys)
no_feed_more [] ys h k = k
no_feed_more (x ∷ xs) ys h k =
    let parts = or_false (x == 10) (list_any (λ b. b == 10) xs) h in
    ap (λ t. t || list_any (λ b. b == 10) (xs ++ ys)) parts.0 ∙ no_feed_more xs ys parts.1 k

-- bytes without a line feed, and then more
pub splits_more : (bytes more front mid new : List ℕ) (behind : Option (List ℕ)) → Splits bytes front None mid → Splits more mid behind new →
    Splits (bytes ++ more) front behind new
unfolding Splits
splits_more bytes more front mid new None (h, e) (k, f) =
    (no_feed_more bytes more h k, f ∙ ap (λ l. l ++ more) e ∙ append_assoc front bytes more)
splits_more bytes more front mid new (Some behind) (h, e) (m, k, c, f) = (
  bytes ++ m,
  no_feed_more bytes m h k,
  ap (λ l. bytes ++ l) c ∙ sym (append_assoc bytes m (10 ∷ behind)),
  f ∙ ap (λ l. l ++ m) e ∙ append_assoc front bytes m,
)

-- nothing more
pub splits_nothing : (bytes front new : List ℕ) (behind : Option (List ℕ)) → Splits bytes front behind new → Splits (bytes ++ []) front behind new
unfolding Splits
splits_nothing bytes front new behind h = subst (λ b. Splits b front behind new) (sym (append-nil bytes)) h

-- a line that stood there whole
pub from_unread : (unread front behind new : List ℕ) (before : SourceView) → Splits unread front (Some behind) new →
    ReadsFrom unread before front (Some behind) new before
unfolding ReadsFrom
from_unread unread front behind new before h = ([], Consumes-nil before.left, splits_nothing unread front new (Some behind) h)

-- what stood there is read on
pub from_source : (unread front mid new : List ℕ) (behind : Option (List ℕ)) (before after : SourceView) → Splits unread front None mid →
    ReadsOn before mid behind new after → ReadsFrom unread before front behind new after
unfolding ReadsFrom
from_source unread front mid new None before after h (came, taken, split, end, bound) = (came, taken, splits_more unread came front mid new None h split, end, bound)
from_source unread front mid new (Some behind) before after h (came, taken, split) = (came, taken, splits_more unread came front mid new (Some behind) h split)

-- nothing is lost where nothing was read
pub lost_before : (unread front : List ℕ) (before : SourceView) → LosesFrom unread front shells.OutOfMemory before before
unfolding LosesFrom
lost_before unread front before = ([], Consumes-nil before.left)

-- the source failed, and nothing was read
pub read_failed : (unread front : List ℕ) (before after : SourceView) → Keeps before.left after.left → Rose before.faults after.faults →
    LosesFrom unread front shells.ReadFault before after
unfolding LosesFrom
read_failed unread front before after kept rose = (([], Consumes-kept before.left before.left after.left [] (Consumes-nil before.left) kept), rose)

-- something was read
pub piece_lost : (unread front : List ℕ) (before after : SourceView) (bytes : List ℕ) → Consumes before.left after.left bytes →
    LosesFrom unread front shells.OutOfMemory before after
unfolding LosesFrom
piece_lost unread front before after bytes taken = (bytes, taken)

-- what is lost behind the bytes that were unread
pub lost_behind : (e : ShellStatus) (unread front mid : List ℕ) (before after : SourceView) → Splits unread front None mid →
    LosesFrom [] mid e before after → LosesFrom unread front e before after
unfolding LosesFrom Splits
lost_behind shells.ReadFault unread front mid before after split lost = lost
lost_behind shells.LongInput unread front mid before after (none, same) (came, taken, clean, long) = (
  came,
  taken,
  no_feed_more unread came none clean,
  subst (λ (bytes : List ℕ). 16777216 < length bytes) (ap (λ l. l ++ came) same ∙ append_assoc front unread came) long,
)
lost_behind shells.OutOfMemory unread front mid before after split lost = lost
lost_behind shells.BadWords unread front mid before after split lost = absurd lost
lost_behind shells.WriteFault unread front mid before after split lost = absurd lost

-- a line that was lost from its beginning on
pub lost_line : (e : ShellStatus) (unread : List ℕ) (before after : SourceView) → LosesFrom unread [] e before after → LosesLine unread e before after
unfolding LosesFrom LosesLine
lost_line shells.ReadFault unread before after lost = lost
lost_line shells.LongInput unread before after (came, taken, clean, long) =
    (came, taken, record { front = unread ++ came; rest = []; parts = sym (append-nil (unread ++ came)); whole = clean; bound = long })
lost_line shells.OutOfMemory unread before after lost = lost
lost_line shells.BadWords unread before after lost = absurd lost
lost_line shells.WriteFault unread before after lost = absurd lost

-- ---- a piece

pub piece_line : (before after : SourceView) (came front behind new : List ℕ) → Consumes before.left after.left came →
    Splits came front (Some behind) new → ReadsFrom [] before front (Some behind) new after
unfolding ReadsFrom
piece_line before after came front behind new taken split = (came, taken, split)

pub piece_more : (before after : SourceView) (came front new : List ℕ) → Consumes before.left after.left came → Splits came front None new →
    Grows before front new after
unfolding Grows
piece_more before after came front new taken split = (came, taken, split)

pub piece_end : (before after : SourceView) (front : List ℕ) → length front ≤ 16777216 → Consumes before.left after.left [] → IsAtEnd after.left →
    ReadsFrom [] before front None front after
unfolding ReadsFrom Splits
piece_end before after front bound taken end = ([], taken, (refl, sym (append-nil front)), end, bound)

-- ---- piece after piece

-- a front that came without a line feed
pub record Came (before : SourceView) (front new : List ℕ) (after : SourceView) : Type 0 where
  pub came : List ℕ
  pub taken : Consumes before.left after.left came
  pub split : Splits came front None new

pub came_nothing : (before : SourceView) (front : List ℕ) → Came before front front before
unfolding Splits
came_nothing before front = record { came = []; taken = Consumes-nil before.left; split = (refl, sym (append-nil front)) }

pub came_more : (before mid after : SourceView) (front held new : List ℕ) → Came before front held mid → Grows mid held new after → Came before front new after
unfolding Grows
came_more before mid after front held new c (more, gone, parts) = record {
  came = c.came ++ more;
  taken = Consumes-trans before.left mid.left after.left c.came more c.taken gone;
  split = splits_more c.came more front held new None c.split parts;
}

pub came_line : (before mid after : SourceView) (front held behind new : List ℕ) → Came before front held mid →
    ReadsFrom [] mid held (Some behind) new after → ReadsFrom [] before front (Some behind) new after
unfolding ReadsFrom
came_line before mid after front held behind new c (more, gone, parts) =
    (c.came ++ more, Consumes-trans before.left mid.left after.left c.came more c.taken gone, splits_more c.came more front held new (Some behind) c.split parts)

pub came_end : (before mid after : SourceView) (front held new : List ℕ) → Came before front held mid →
    ReadsFrom [] mid held None new after → ReadsFrom [] before front None new after
unfolding ReadsFrom
came_end before mid after front held new c (more, gone, parts, end, bound) =
    (c.came ++ more, Consumes-trans before.left mid.left after.left c.came more c.taken gone, splits_more c.came more front held new None c.split parts, end, bound)

rose_more : (first mid after : ℕ) → first ≤ mid → Rose mid after → Rose first after
rose_more first mid after n (inl k) = inl (omega (arith, n, k))
rose_more first mid after n (inr k) = inr k

-- what is lost later is lost
pub lost_more : (e : ShellStatus) (before mid after : SourceView) (front held : List ℕ) → Came before front held mid → before.faults ≤ mid.faults →
    LosesFrom [] held e mid after → LosesFrom [] front e before after
unfolding LosesFrom Splits
lost_more shells.ReadFault before mid after front held c count ((more, gone), rose) =
    ((c.came ++ more, Consumes-trans before.left mid.left after.left c.came more c.taken gone), rose_more before.faults mid.faults after.faults count rose)
lost_more shells.LongInput before mid after front held c count (more, gone, clean, long) = (
  c.came ++ more,
  Consumes-trans before.left mid.left after.left c.came more c.taken gone,
  no_feed_more c.came more c.split.0 clean,
  subst (λ (bytes : List ℕ). 16777216 < length bytes) (ap (λ l. l ++ more) c.split.1 ∙ append_assoc front c.came more) long,
)
lost_more shells.OutOfMemory before mid after front held c count (more, gone) =
    (c.came ++ more, Consumes-trans before.left mid.left after.left c.came more c.taken gone)
lost_more shells.BadWords before mid after front held c count h = absurd h
lost_more shells.WriteFault before mid after front held c count h = absurd h

-- a front over the limit
pub long_front : (before after : SourceView) (front held : List ℕ) → Came before front held after → 16777216 < length held →
    LosesFrom [] front shells.LongInput before after
unfolding LosesFrom Splits
long_front before after front held c long = (c.came, c.taken, c.split.0, subst (λ (bytes : List ℕ). 16777216 < length bytes) c.split.1 long)

-- a line over the limit
pub long_line : (unread line behind : List ℕ) (before after : SourceView) → 16777216 < length line → ReadsFrom unread before [] (Some behind) line after →
    LosesLine unread shells.LongInput before after
unfolding ReadsFrom Splits LosesLine
long_line unread line behind before after long (came, taken, (more, none, begins, same)) = (
  came,
  taken,
  record {
    front = more;
    rest = 10 ∷ behind;
    parts = begins;
    whole = none;
    bound = subst (λ (bytes : List ℕ). 16777216 < length bytes) same long;
  },
)

-- a line within its limit
pub took_line : (unread line behind : List ℕ) (before after : SourceView) → length line ≤ 16777216 → ReadsFrom unread before [] (Some behind) line after →
    TakesNext unread before (Some line) behind after
unfolding ReadsFrom Splits
took_line unread line behind before after bound (came, taken, (more, none, begins, same)) = record {
  came = came;
  taken = taken;
  begins = begins ∙ ap (λ l. l ++ 10 ∷ behind) (sym same);
  whole = subst HasNoFeed (sym same) none;
  bound = bound;
}

-- no line
pub took_end : (unread line left : List ℕ) (before after : SourceView) → ReadsFrom unread before [] None line after → TakesNext unread before None left after
unfolding ReadsFrom Splits
took_end unread line left before after (came, taken, split, end, bound) = record {
  came = came;
  taken = taken;
  at_end = end;
  no_line = split.0;
  bound = subst (λ (bytes : List ℕ). length bytes ≤ 16777216) split.1 bound;
}
