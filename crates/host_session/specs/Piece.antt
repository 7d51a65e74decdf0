-- What the next piece of a source brings.
use Rattle.std.specs.Prelude.{ℕ, List, None, Some}
use Rattle.cli_shell.specs.Source.{SourceView}
use Rattle.host_session.specs.Lines.{Grows, ReadsOn}
use Rattle.host_session.specs.declared.lines.Piece.{Piece}
use Rattle.host_session.specs.declared.lines.Piece.TheVariants as pieces

-- the end of a line with what stands behind it, more of the line, or the end of the source
abbrev pub Brings : SourceView → List ℕ → Piece → List ℕ → SourceView → Type 0
Brings before front (pieces.Line behind) new after = ReadsOn before front (Some behind.items) new after
Brings before front pieces.More new after = Grows before front new after
Brings before front pieces.End new after = ReadsOn before front None new after
