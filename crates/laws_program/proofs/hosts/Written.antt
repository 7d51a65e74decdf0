-- What stands in a sink behind what stood there, where it lost nothing.
use Rattle.std.proofs.Common.{◌≡◌, ◌∙◌, inl, inr, refl, sym, ap, ℕ, Bool, true, false, List, [], ◌++◌, Option, None, Some, append_assoc, append-nil}
use Rattle.std.proofs.lemmas.Bool.{false≢true}
use Rattle.std.specs.Io.KnownBytes.{Appends}
use Rattle.cli_shell.specs.Sink.{Adds, SinkView}
use Rattle.json_print.proofs.determined.Endings.{same_some}

-- nothing was lost, and this text stands behind what stood there
pub record Adding (before : SinkView) (text : List ℕ) (after : SinkView) : Type 0 where
  pub kept : before.is_lost ≡ false
  pub written : (w : List ℕ) → before.written ≡ Some w → after.written ≡ Some (w ++ text)

not_true : (b : Bool) → (b ≡ true → ⊥) → b ≡ false
not_true true h = absurd (h refl)
not_true false h = refl

appended : (before after : Option (List ℕ)) (text w : List ℕ) → Appends before after text → before ≡ Some w → after ≡ Some (w ++ text)
appended None after text w h is = absurd (cc is)
appended (Some x) None text w h is = absurd h
appended (Some x) (Some y) text w h is = ap Some (h ∙ ap (λ (r : List ℕ). r ++ text) (same_some x w is))

pub adding : (before after : SinkView) (text : List ℕ) → Adds before text after → after.is_lost ≡ false → Adding before text after
adding before after text (lost, inl gone) kept = absurd (false≢true (sym kept ∙ gone))
adding before after text (lost, inr added) kept = record {
  kept = not_true before.is_lost (λ gone. false≢true (sym kept ∙ lost gone));
  written = λ w is. appended before.written after.written text w added is;
}

pub adding_none : (before after : SinkView) → after ≡ before → after.is_lost ≡ false → Adding before [] after
adding_none before after same kept = record {
  kept = ap (λ (s : SinkView). s.is_lost) (sym same) ∙ kept;
  written = λ w is. ap (λ (s : SinkView). s.written) same ∙ is ∙ ap Some (sym (append-nil w));
}

pub adding_more : (before mid after : SinkView) (text more : List ℕ) → Adding before text mid → Adding mid more after → Adding before (text ++ more) after
adding_more before mid after text more one two = record {
  kept = one.kept;
  written = λ w is. two.written (w ++ text) (one.written w is) ∙ ap Some (append_assoc w text more);
}
