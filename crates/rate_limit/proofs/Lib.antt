mod CubeRootLemmas
mod SoundLemmas
