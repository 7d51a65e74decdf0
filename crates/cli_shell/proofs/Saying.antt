-- What is said of a script is said of its bytes; and to the same bytes one thing is said, where they are one script at most
-- and a script has one print at most.
use Rattle.std.proofs.Common.{◌≡◌, ◌∙◌, refl, sym, ap, subst, ℕ, true, false, List}
use Rattle.cli_shell.specs.Determined.{IsFunctional}
use Rattle.cli_shell.specs.Said.{Said, prints, refuses}
use Rattle.cli_shell.specs.Scripts.{ScriptMeaning, bytes_say, script_says}
use Rattle.cli_shell.specs.declared.status.PrintStatus.{PrintStatus}
use Rattle.cli_shell.specs.declared.status.Refusal.TheVariants as refusals

pub script_said : {S : Type 0} (m : ScriptMeaning S) (bytes : List ℕ) (s : S) (x : Said) → m.is_script bytes s → m.is_sound s → script_says m s x → bytes_say m bytes x
script_said m bytes s (prints status text) i p h = (s, i, p, h)
script_said m bytes s (refuses refusals.TooLarge) i p h = (s, i, h)
script_said m bytes s (refuses refusals.BadScript) i p h = absurd h
script_said m bytes s (refuses refusals.NotBuilt) i p h = absurd h

-- a script within its limits passes none
within_passes : {S : Type 0} (m : ScriptMeaning S) (s r : S) → s ≡ r → m.fits s ≡ true → m.fits r ≡ false → ⊥
within_passes m s r is within passes = let clash : true ≡ false = sym within ∙ (ap m.fits is ∙ passes) in cc clash

-- the bytes are one script at most
abbrev pub AreOneScript : {S : Type 0} → ScriptMeaning S → Type 0
AreOneScript {S} m = (bytes : List ℕ) (s r : S) → m.is_script bytes s → m.is_script bytes r → s ≡ r

-- a script has one print at most, and it comes to one thing
abbrev pub HaveOnePrint : {S : Type 0} → ScriptMeaning S → Type 0
HaveOnePrint {S} m = (s : S) (a b : PrintStatus) (t u : List ℕ) → m.is_print s t a → m.is_print s u b → prints a t ≡ prints b u

pub bytes-say-once : {S : Type 0} (m : ScriptMeaning S) → AreOneScript m → HaveOnePrint m → IsFunctional (bytes_say m)
bytes-say-once m one print bytes (prints a t) (prints b u) (s, i, p, (w, h)) (r, j, q, (v, k)) = print s a b t u h (subst (λ x. m.is_print x u b) (sym (one bytes s r i j)) k)
bytes-say-once m one print bytes (prints a t) (refuses refusals.TooLarge) (s, i, p, (w, h)) (r, j, v) = absurd (within_passes m s r (one bytes s r i j) w v)
bytes-say-once m one print bytes (prints a t) (refuses refusals.BadScript) (s, i, p, h) f = absurd (f s i)
bytes-say-once m one print bytes (prints a t) (refuses refusals.NotBuilt) h k = absurd k
bytes-say-once m one print bytes (refuses refusals.TooLarge) (prints b u) (r, j, v) (s, i, p, (w, h)) = absurd (within_passes m s r (one bytes s r i j) w v)
bytes-say-once m one print bytes (refuses refusals.TooLarge) (refuses refusals.TooLarge) h k = refl
bytes-say-once m one print bytes (refuses refusals.TooLarge) (refuses refusals.BadScript) (s, i, v) f = absurd (f s i)
bytes-say-once m one print bytes (refuses refusals.TooLarge) (refuses refusals.NotBuilt) h k = absurd k
bytes-say-once m one print bytes (refuses refusals.BadScript) (prints b u) f (s, i, p, h) = absurd (f s i)
bytes-say-once m one print bytes (refuses refusals.BadScript) (refuses refusals.TooLarge) f (s, i, v) = absurd (f s i)
bytes-say-once m one print bytes (refuses refusals.BadScript) (refuses refusals.BadScript) h k = refl
bytes-say-once m one print bytes (refuses refusals.BadScript) (refuses refusals.NotBuilt) h k = absurd k
bytes-say-once m one print bytes (refuses refusals.NotBuilt) x h k = absurd h
