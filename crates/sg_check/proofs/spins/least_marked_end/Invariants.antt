use Rattle.std.proofs.Common.{◌≡◌, ℕ, ◌<◌, ◌≤◌, true, take}
use Rattle.std.specs.List.{list_any}
use Rattle.sg_base.specs.Sets.{is_marked}
use Rattle.sg_model.specs.Ising.{bond_at}
use Rattle.sg_check.specs.Loop.{is_end_of}
use Rattle.sg_check.proofs.spins.least_marked_end.Given as goal

abbrev pub invariant-loop-k : goal.invariant-loop-k
invariant-loop-k l = record {
  below : l.least ≤ l.inst.n;
  marked : l.least < l.inst.n → is_marked l.marks l.least ≡ true;
  least : (i : ℕ) → i < l.inst.n → is_marked l.marks i ≡ true → list_any (λ k. is_end_of (bond_at l.inst k) i) (take l.k-index l.list) ≡ true → l.least ≤ i;
}
