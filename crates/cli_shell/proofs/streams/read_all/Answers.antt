use Rattle.std.proofs.lemmas.Result.{err_from_is_err_and}
use Rattle.cli_shell.proofs.Fronts.{unread_more}
use Rattle.cli_shell.proofs.streams.read_all.Goals as goal

pub returns-in_err-read_piece-clause-unread : goal.returns-in_err-read_piece-clause-unread
returns-in_err-read_piece-clause-unread g c =
    let p = err_from_is_err_and c.from_residual-in_err-read_piece.result c.from_residual-in_err-read_piece.ensures.1 in
    let inv = c.loop-bytes.invariant in
    rw (p.1, p.2) (unread_more _ _ _ c.loop-bytes.bytes.items c.in_err-read_piece.field-0.0 inv.3 inv.2 (c.in_err-read_piece.ensures.front) (c.in_err-read_piece.ensures.unread))
