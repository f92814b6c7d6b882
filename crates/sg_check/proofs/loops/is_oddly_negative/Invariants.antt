use Rattle.std.proofs.Common.{◌≡◌, take}
use Rattle.sg_base.specs.Parity.{parity_by}
use Rattle.sg_model.specs.Broken.{is_negative}
use Rattle.sg_model.specs.Ising.{bond_at}
use Rattle.sg_check.proofs.loops.is_oddly_negative.Given as goal

abbrev pub invariant-loop-k : goal.invariant-loop-k
invariant-loop-k l = l.odd ≡ parity_by (λ k. is_negative (bond_at l.inst k)) (take l.k-index l.list)
