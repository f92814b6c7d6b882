-- What stands in a place that was filled.
use Rattle.std.proofs.Common.{◌≡◌, ℕ, List, refl}
use Rattle.sg_calls.specs.Crossing.{Fills, Shows}

-- a place that was filled shows the front of the list
pub shows : {A : Type 0} (list other before after : List A) (written : ℕ) → list ≡ other → Fills list before after written → Shows other before after
shows list other before after written same filled = rw same at (let f : Shows list before after = record {
  count = refl;
  copied = rw filled.count at filled.copied;
} in f)
