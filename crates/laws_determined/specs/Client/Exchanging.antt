-- An exchange of a client's outside and quota is determined.
use Rattle.std.specs.Prelude.{◌≡◌, ℕ}
use Rattle.client_components.specs.Resting.{Exchanges}
use Rattle.client_components.specs.Meaning.{ClientMeaning}
use Rattle.client_components.specs.declared.parts.Parts.{Parts}
use Rattle.retry_quota.specs.Registers.{Registers}
use Rattle.laws_determined.specs.Retries.Alike.{AreAlike}
use Rattle.laws_determined.specs.Client.Alike.{PartsAlike}
use Rattle.laws_determined.specs.Client.Answering.{ArePlain}

module _ {T X C I A R Z D P L : Type 0} (bucket amount : P → ℕ)
    (means : ClientMeaning T X (Registers L) C I A R Z D P L) where
  -- where one outside and registers that are alike go into clients that are alike, so do those that come back
  abbrev pub ExchangesAreDetermined : Type 0
  ExchangesAreDetermined =
      ArePlain means → (old other new more : Parts T X (Registers L) C I A R Z D P L) (outside out too : X)
      (quota given left also : Registers L)
      → PartsAlike bucket amount old other → AreAlike quota given
      → Exchanges means.makes old outside quota new out left → Exchanges means.makes other outside given more too also
      → PartsAlike bucket amount new more × (out ≡ too) × AreAlike left also
