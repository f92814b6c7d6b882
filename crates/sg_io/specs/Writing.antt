-- What writing bytes to a sink does.
use Rattle.std.specs.Prelude.{ℕ, ◌≤◌, List, length, take, Option}
use Rattle.sg_io.specs.Devices.{Grows}

-- the bytes written, if they are told, have grown by a prefix of these
abbrev pub GrowsByPrefix : List ℕ → Option (List ℕ) → Option (List ℕ) → Type 0
GrowsByPrefix bytes old new = (n : ℕ) × (n ≤ length bytes) × Grows (take n bytes) old new
