use Rattle.std.proofs.Common.{◌∙◌, sym, subst}
use Rattle.http_uri.specs.Uri.{Spells}
use Rattle.http_schemes.proofs.query.checked.Goals as goal

pub returns-in_ok-from_string-in-Some : goal.returns-in_ok-from_string-in-Some
returns-in_ok-from_string-in-Some c =
    let same = c.in_ok-from_string-in-Some.ensures in
    (same, (c.in-Some.field-0, subst (λ t. Spells t c.in-Some.field-0) (c.as_str.ensures.value ∙ sym same) (rw c.in-Some.is at c.in_ok-read_uri.ensures)))
