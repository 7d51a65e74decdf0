-- Bins and their labels.
use Rattle.std.specs.Prelude.{◌≡◌, ◌<◌, nat_lt, if◌then◌else◌, ℕ, ◌+◌, ◌-◌, ◌^◌, min, Bool, true, false, List}
use Rattle.std.specs.Prelude.{slice_index_or}
use Rattle.stream_guard.specs.declared.bin.Bin.{Bin}
use Rattle.stream_guard.specs.declared.bin.BinLabel.{BinLabel}
use Rattle.stream_guard.specs.declared.bin.BinLabel.TheVariants.{NoPolling, Pending, TransferredBytes}

-- whether nothing was polled in the bin's time
abbrev pub is_no_polling : BinLabel → Bool
is_no_polling NoPolling = true
is_no_polling _ = false

-- whether a poll was pending in the bin's time, and no bytes came
abbrev pub is_pending : BinLabel → Bool
is_pending Pending = true
is_pending _ = false

-- whether bytes came in the bin's time
abbrev pub is_transferred : BinLabel → Bool
is_transferred TransferredBytes = true
is_transferred _ = false

-- the more telling of two
abbrev pub higher : BinLabel → BinLabel → BinLabel
higher TransferredBytes other = TransferredBytes
higher Pending TransferredBytes = TransferredBytes
higher Pending _ = Pending
higher NoPolling other = other

-- the most that a sum of bytes shows
abbrev pub most_bytes : ℕ
most_bytes = 2 ^ 64 - 1

-- a bin in whose time nothing was polled
abbrev pub no_polling : Bin
no_polling = record { label = NoPolling; bytes = 0 }

-- a bin with what happened in the time of both
abbrev pub merged : Bin → Bin → Bin
merged old new = record { label = higher old.label new.label; bytes = min (old.bytes + new.bytes) most_bytes }

-- of ten bins in their order, the one so many places before the last
abbrev pub back : ℕ → List Bin → Bin
back k bins = slice_index_or bins (9 - k) no_polling

-- ten bins moved so many places on; nothing has happened in those that came in
abbrev pub Shifted : ℕ → List Bin → List Bin → Type 0
Shifted places old new = (k : ℕ) → k < 10 → back k new ≡ (if nat_lt k places then no_polling else back (k - places) old)
