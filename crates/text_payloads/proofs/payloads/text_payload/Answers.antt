use Rattle.std.proofs.Common.{◌≡◌, sym, subst, true}
use Rattle.text_payloads.specs.Text.{is_text}
use Rattle.text_payloads.proofs.Texts.{is_its_text}
use Rattle.text_payloads.proofs.payloads.text_payload.Goals as goal

pub returns-clause-accepted : goal.returns-clause-accepted
returns-clause-accepted c =
    subst (λ b. is_text c.args.kind (record { kind = c.args.kind; bytes = b }) ≡ true) (sym c.in_ok-from_slice.ensures)
    (is_its_text c.args.kind _ c.as_bytes-bytes.ensures.utf8)
