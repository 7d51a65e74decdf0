-- Nothing is written.
use Rattle.std.proofs.Common.{◌≡◌, ℕ, List, [], ◌++◌, sym}
use Rattle.std.proofs.lemmas.List.{append-nil}

pub nothing_more : (text : List ℕ) → text ≡ text ++ []
nothing_more text = sym (append-nil text)
