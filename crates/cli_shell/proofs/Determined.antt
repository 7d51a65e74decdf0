-- What the bytes determine, for any command that says one thing to them.
use Rattle.std.proofs.Common.{◌≡◌, ℕ, ◌<◌, ◌≤◌, ◌⊎◌, inl, inr, true, false, List, ◌++◌, length, Option, Some, None, refl, sym, ap, ◌∙◌, subst, arith, append-nil}
use Rattle.std.specs.Prelude.{IfSome}
use Rattle.std.specs.Io.KnownBytes.{Consumes, IsAtEnd, Appends}
use Rattle.cli_shell.specs.Determined.{IsFunctional, OneStatus, OneText, is_answer}
use Rattle.cli_shell.specs.Said.{Said, prints, refuses}
use Rattle.cli_shell.specs.Shell.{Gives, Served}
use Rattle.cli_shell.specs.Sink.{SinkView, Adds}
use Rattle.cli_shell.specs.Source.{SourceView}
use Rattle.cli_shell.specs.declared.status.ShellStatus.TheVariants as shells
use Rattle.cli_shell.specs.declared.status.Ended.{Ended}
use Rattle.cli_shell.specs.declared.status.Ended.TheVariants.{Printed, Refused, Shell}

some_eq : {X : Type 0} (x y : X) → Some x ≡ Some y → x ≡ y
some_eq x y e = cc

abbrev pub status_of : Said → Ended
status_of (prints outcome text) = Printed outcome
status_of (refuses refusal) = Refused refusal

-- what was written of it
abbrev pub Written : {K : Type 0} → (K → SinkView) → Said → K → K → Type 0
Written view (prints outcome text) old new = Adds (view old) text (view new)
Written view (refuses refusal) old new = new ≡ old

-- The command's answer stands behind the status.
abbrev pub Told : {K : Type 0} → (K → SinkView) → (Said → Type 0) → Ended → K → K → Type 0
Told view tells status old new = (s : Said) × tells s × (status ≡ status_of s) × Written view s old new

told : {K : Type 0} (view : K → SinkView) (tells : Said → Type 0) (status : Ended) (old new : K) → is_answer status ≡ true → Gives view tells status old new → Told view tells status old new
told view tells (Printed outcome) old new h (text, k, a) = (prints outcome text, k, refl, a)
told view tells (Refused refusal) old new h (k, e) = (refuses refusal, k, refl, e)
told view tells (Shell shells.LongInput) old new h k = absurd k
told view tells (Shell shells.BadWords) old new h k = absurd k
told view tells (Shell shells.ReadFault) old new h k = absurd k
told view tells (Shell shells.WriteFault) old new h k = absurd (cc)
told view tells (Shell shells.OutOfMemory) old new h k = absurd (cc)

-- the bytes that were read are those that were told
whole : (left after : Option (List ℕ)) (told_bytes bytes : List ℕ) → left ≡ Some told_bytes → Consumes left after bytes → IsAtEnd after → bytes ≡ told_bytes
whole None after b bytes e h k = absurd (cc)
whole (Some x) None b bytes e h k = absurd h
whole (Some x) (Some y) b bytes e h k = sym (append-nil bytes) ∙ ap (λ (r : List ℕ). bytes ++ r) (sym k) ∙ sym h ∙ some_eq x b e

-- Too many bytes came, or these were read and answered.
abbrev pub Seen : {K : Type 0} → (K → SinkView) → (List ℕ → Said → Type 0) → List ℕ → Ended → K → K → Type 0
Seen view says bytes status old new =
    ((status ≡ Shell shells.LongInput) × (16777216 < length bytes) × (new ≡ old)) ⊎ ((length bytes ≤ 16777216) × Told view (says bytes) status old new)

long : (left : Option (List ℕ)) (bytes : List ℕ) → left ≡ Some bytes → IfSome left (λ b. 16777216 < length b) → 16777216 < length bytes
long None bytes e h = absurd (cc)
long (Some x) bytes e h = subst (λ (b : List ℕ). 16777216 < length b) (some_eq x bytes e) h

pub seen : {K : Type 0} (view : K → SinkView) (says : List ℕ → Said → Type 0) (bytes : List ℕ) (status : Ended) (before after : SourceView) (old new : K) → before.left ≡ Some bytes → is_answer status ≡ true →
    Served view says status before after old new → Seen view says bytes status old new
seen view says bytes (Shell shells.LongInput) before after old new e h (inl ((t, u), k)) = inl (refl, long before.left bytes e u, k)
seen view says bytes (Shell shells.BadWords) before after old new e h (inl (u, k)) = absurd u
seen view says bytes (Shell shells.ReadFault) before after old new e h (inl (u, k)) = absurd (cc)
seen view says bytes (Shell shells.WriteFault) before after old new e h (inl (u, k)) = absurd u
seen view says bytes (Shell shells.OutOfMemory) before after old new e h (inl (u, k)) = absurd (cc)
seen view says bytes (Printed outcome) before after old new e h (inl u) = absurd u
seen view says bytes (Refused refusal) before after old new e h (inl u) = absurd u
seen view says bytes status before after old new e h (inr (b, (n, c, z), g)) =
    let same = whole before.left after.left bytes b e c z in
    inr (
      subst (λ (x : List ℕ). length x ≤ 16777216) same n,
      subst (λ (x : List ℕ). Told view (says x) status old new) same (told view (says b) status old new h g),
    )

both : {K : Type 0} (view : K → SinkView) (says : List ℕ → Said → Type 0) → IsFunctional says → (bytes : List ℕ) (first second : Ended) (old new start end : K) →
    Seen view says bytes first old new → Seen view says bytes second start end → first ≡ second
both view says f bytes first second old new start end (inl (e, n, k)) (inl (g, m, l)) = e ∙ sym g
both view says f bytes first second old new start end (inl (e, n, k)) (inr (m, l)) = absurd (omega arith)
both view says f bytes first second old new start end (inr (n, k)) (inl (g, m, l)) = absurd (omega arith)
both view says f bytes first second old new start end (inr (n, (s, h, e, w))) (inr (m, (t, k, g, v))) = e ∙ ap status_of (f bytes s t h k) ∙ sym g

added : (before after : SinkView) (written text : List ℕ) → before.written ≡ Some written → after.is_lost ≡ false → Adds before text after → after.written ≡ Some (written ++ text)
added before after written text e n (l, inl h) = absurd (cc)
added before after written text e n (l, inr h) = appended before.written after.written written text e h
  where
    appended : (o p : Option (List ℕ)) (w t : List ℕ) → o ≡ Some w → Appends o p t → p ≡ Some (w ++ t)
    appended None p w t e h = absurd (cc)
    appended (Some x) None w t e h = absurd h
    appended (Some x) (Some y) w t e h = ap Some (h ∙ ap (λ (r : List ℕ). r ++ t) (some_eq x w e))

-- what stands written once this was said
abbrev after_said : List ℕ → Said → Option (List ℕ)
after_said written (prints outcome text) = Some (written ++ text)
after_said written (refuses refusal) = Some written

written_after : {K : Type 0} (view : K → SinkView) (written : List ℕ) (s : Said) (old new : K) → (view old).written ≡ Some written → (view new).is_lost ≡ false → Written view s old new → (view new).written ≡ after_said written s
written_after view written (prints outcome text) old new e n h = added (view old) (view new) written text e n h
written_after view written (refuses refusal) old new e n h = ap (λ k. (view k).written) h ∙ e

both_written : {K : Type 0} (view : K → SinkView) (says : List ℕ → Said → Type 0) → IsFunctional says → (bytes written : List ℕ) (first second : Ended) (old new start end : K) →
    (view old).written ≡ Some written → (view start).written ≡ Some written → (view new).is_lost ≡ false → (view end).is_lost ≡ false →
    Seen view says bytes first old new → Seen view says bytes second start end → (view new).written ≡ (view end).written
both_written view says f bytes written first second old new start end a b c d (inl (e, n, k)) (inl (g, m, l)) = ap (λ x. (view x).written) k ∙ a ∙ sym b ∙ sym (ap (λ x. (view x).written) l)
both_written view says f bytes written first second old new start end a b c d (inl (e, n, k)) (inr (m, l)) = absurd (omega arith)
both_written view says f bytes written first second old new start end a b c d (inr (n, k)) (inl (g, m, l)) = absurd (omega arith)
both_written view says f bytes written first second old new start end a b c d (inr (n, (s, h, e, w))) (inr (m, (t, k, g, v))) =
    written_after view written s old new a c w ∙ ap (after_said written) (f bytes s t h k) ∙ sym (written_after view written t start end b d v)

pub one_status : {K : Type 0} (view : K → SinkView) (says : List ℕ → Said → Type 0) → IsFunctional says → OneStatus view says
one_status view says f bytes first second before after begun later old new start end a b h k s t =
    both view says f bytes first second old new start end (seen view says bytes first before after old new a h s) (seen view says bytes second begun later start end b k t)

pub one_text : {K : Type 0} (view : K → SinkView) (says : List ℕ → Said → Type 0) → IsFunctional says → OneText view says
one_text view says f bytes written first second before after begun later old new start end a b h k i j l m s t =
    both_written view says f bytes written first second old new start end i j l m (seen view says bytes first before after old new a h s) (seen view says bytes second begun later start end b k t)
