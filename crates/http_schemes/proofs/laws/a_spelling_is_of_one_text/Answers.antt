use Rattle.http_schemes.proofs.Lawful.{one_text}
use Rattle.http_schemes.proofs.laws.a_spelling_is_of_one_text.Goals as goal

pub returns : goal.returns
returns c = one_text
