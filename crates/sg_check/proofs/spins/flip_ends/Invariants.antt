use Rattle.std.proofs.Common.{◌≡◌, ℕ, ◌<◌, take}
use Rattle.sg_base.specs.Parity.{xor, parity_by}
use Rattle.sg_base.specs.Sets.{is_marked}
use Rattle.sg_model.specs.Ising.{bond_at}
use Rattle.sg_check.specs.Loop.{is_end_of}
use Rattle.sg_check.proofs.spins.flip_ends.Given as goal

abbrev pub invariant-loop-k : goal.invariant-loop-k
invariant-loop-k l =
    (i : ℕ) → i < l.inst.n → is_marked l.marks i ≡ xor (is_marked l.initial.marks i) (parity_by (λ k. is_end_of (bond_at l.inst k) i) (take l.k-index l.list))
