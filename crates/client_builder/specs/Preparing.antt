-- What is made of a builder before anything of it is moved.
use Rattle.std.specs.Prelude.{◌≡◌, ◌+◌, ◌≤◌, [], Some, length, option_map, unwrap_or, vec_capacity, vec_len}
use Rattle.client_builder.specs.Built.{endpoint_at, front_of, options_of}
use Rattle.client_builder.specs.ClientLayer.{client_layer}
use Rattle.client_builder.specs.declared.builder.OperationBuilder.{OperationBuilder}
use Rattle.client_builder.specs.declared.prepared.Prepared.{Prepared}

module _ {I O E A R Z D V W : Type 0} {v : V → Type 0} {w : W → Type 0} where
  -- what stands by itself is there, and there is room for what is moved
  pub record IsPrepared (b : OperationBuilder I O E A R Z D V W v w) (p : Prepared A R W w) : Type 0 where
    pub settings : p.settings ≡ client_layer (unwrap_or b.service_name []) b
    pub options : p.options ≡ options_of b
    pub endpoint : Some p.endpoint ≡ option_map endpoint_at b.endpoint_url
    pub front : p.front.items ≡ front_of b
    pub front_room : vec_len p.front + length b.interceptors + 1 ≤ vec_capacity p.front
    pub schemes : p.schemes.items ≡ []
    pub schemes_room : vec_len p.schemes + length b.schemes + 1 ≤ vec_capacity p.schemes
    pub sources : p.sources.items ≡ []
    pub sources_room : vec_len p.sources + length b.sources + 1 ≤ vec_capacity p.sources
