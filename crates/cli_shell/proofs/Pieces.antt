-- Pieces that are written one after another.
use Rattle.std.proofs.Common.{◌≡◌, ℕ, ◌-◌, inl, inr, List, ◌++◌, take, drop, length, arith, ap, ◌∙◌, sym, append_assoc, length-drop, take-append-drop}
use Rattle.std.proofs.lemmas.List.{take_all}
use Rattle.std.proofs.KnownBytes.{Appends-trans}
use Rattle.cli_shell.specs.Sink.{SinkView, Adds}

adds_more : (first mid after : SinkView) (xs ys : List ℕ) → Adds first xs mid → Adds mid ys after → Adds first (xs ++ ys) after
adds_more first mid after xs ys (s, h) (t, inl k) = (λ e. t (s e), inl k)
adds_more first mid after xs ys (s, inl h) (t, inr k) = (λ e. t (s e), inl (t h))
adds_more first mid after xs ys (s, inr h) (t, inr k) = (λ e. t (s e), inr (Appends-trans first.written mid.written after.written xs ys h k))

-- The text but for this rest was written.
abbrev pub Gone : SinkView → List ℕ → List ℕ → SinkView → Type 0
Gone before text rest after = (front : List ℕ) × (text ≡ front ++ rest) × Adds before front after

whole_tail : (n : ℕ) (rest : List ℕ) → take (length rest - n) (drop n rest) ≡ drop n rest
whole_tail n rest = take_all (length rest - n) (drop n rest) (omega (arith, length-drop n rest))

pub gone_more : (first mid after : SinkView) (text rest : List ℕ) (n : ℕ) → Gone first text rest mid → Adds mid (take n rest) after → Gone first text (take (length rest - n) (drop n rest)) after
gone_more first mid after text rest n (front, e, h) k = (
  front ++ take n rest,
  e ∙ ap (λ (r : List ℕ). front ++ r) (sym (take-append-drop n rest)) ∙ sym (append_assoc front (take n rest) (drop n rest)) ∙ ap (λ (r : List ℕ). (front ++ take n rest) ++ r) (sym (whole_tail n rest)),
  adds_more first mid after front (take n rest) h k,
)
