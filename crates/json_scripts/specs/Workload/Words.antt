-- The words of a seed.
use Rattle.std.specs.Prelude.{ℕ, zero, suc}
use Rattle.rand_core.specs.Pcg32Seed.{pcg32_seed}
use Rattle.rand_pcg.specs.Lcg.{Lcg}
use Rattle.rand_pcg.specs.Pcg.{pcg64, pcg64_of_seed}

-- the generator of a seed
abbrev pub seeded : ℕ → Lcg
seeded seed = pcg64_of_seed (pcg32_seed 32 seed)

-- the generator when it has given so many words
abbrev pub generator_after : ℕ → ℕ → Lcg
generator_after seed zero = seeded seed
generator_after seed (suc n) = (pcg64 (generator_after seed n)).1

-- the word that it gives behind so many
abbrev pub word_behind : ℕ → ℕ → ℕ
word_behind seed n = (pcg64 (generator_after seed n)).0
