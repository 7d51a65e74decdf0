-- The responses of a service in memory.
use Rattle.std.specs.Prelude.{ℕ, List, [], ◌∷◌, false, None}
use Rattle.std.specs.Borrow.{Bor}
use Rattle.outside_scripted.specs.declared.records.RecordAnswer.TheVariants.{Response}
use Rattle.outside_scripted.specs.declared.records.ResponseRecord.{ResponseRecord}

-- a response that comes at once, without headers and with its body in one frame
abbrev pub record_of : ℕ × Bor (List ℕ) → ResponseRecord
record_of row = record {
  delay = 0;
  answer = Response (record {
    status = row.0;
    headers = [];
    frames = record { delay = 0; bytes = row.1.now } ∷ [];
    repeat = false;
    clock = None;
  });
}
