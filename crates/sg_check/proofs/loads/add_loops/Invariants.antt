use Rattle.std.proofs.Common.{◌≡◌, ℕ, ◌*◌, ◌<◌, ◌≤◌, ◌^◌, take, length, get_or}
use Rattle.sg_model.specs.Ising.{bond_count}
use Rattle.sg_check.specs.Packing.{load}
use Rattle.sg_check.proofs.loads.add_loops.Given as goal

abbrev pub invariant-loop-entry : goal.invariant-loop-entry
invariant-loop-entry l = record {
  lengths : length l.loads ≡ bond_count l.inst;
  value : (k : ℕ) → k < bond_count l.inst → get_or l.loads k 0 ≡ load (take l.entry-index l.loops) k;
  size : (k : ℕ) → k < bond_count l.inst → get_or l.loads k 0 ≤ l.entry-index * 2 ^ 64;
}
