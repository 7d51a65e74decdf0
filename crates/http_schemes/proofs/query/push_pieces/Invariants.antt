use Rattle.std.proofs.Common.{◌≡◌, ◌++◌, Some, flat_map, string_bytes}
use Rattle.std.specs.Str.Iter.{split_steps}
use Rattle.std.specs.Str.Pattern.{FindsChar}
use Rattle.http_schemes.specs.Query.{pieces, kept_text}
use Rattle.http_schemes.proofs.YieldLemmas.{IsWritten}
use Rattle.http_schemes.proofs.query.push_pieces.Given as goal

-- what is written, and what the pieces that are left come to
abbrev pub invariant-loop-piece : goal.invariant-loop-piece
invariant-loop-piece l =
    IsWritten (split_steps FindsChar (λ a b. b ≡ a)) (λ x. x.now) (kept_text l.name) (string_bytes l.text) (string_bytes l.initial.text ++ flat_map (kept_text l.name) (pieces (Some l.query))) l.piece-iterator
