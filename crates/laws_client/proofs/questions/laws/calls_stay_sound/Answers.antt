use Rattle.laws_client.proofs.questions.SoundCalls.{calls_stay_sound}
use Rattle.laws_client.proofs.questions.laws.calls_stay_sound.Goals as goal

pub returns : goal.returns
returns g c = calls_stay_sound _
