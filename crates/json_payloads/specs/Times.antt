-- Timestamps.
use Rattle.std.proofs.Common.{refl}
use Rattle.json_payloads.specs.Forms.{Form, mapped}
use Rattle.json_payloads.specs.Numbers.{integer}
use Rattle.json_payloads.specs.declared.times.EpochSeconds.{EpochSeconds}

-- a moment stands as its seconds
abbrev pub epoch_seconds : Form EpochSeconds
epoch_seconds = mapped integer (λ m. m.seconds) (λ z. record { seconds = z }) (λ m. refl)
