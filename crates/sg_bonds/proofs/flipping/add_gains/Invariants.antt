use Rattle.std.proofs.Common.{◌≡◌, ◌<◌, ℕ, pos, length, get_or}
use Rattle.sg_bonds.proofs.PartFlips.{gain_at}
use Rattle.sg_bonds.proofs.WeakenedEnergy.{total}
use Rattle.sg_bonds.proofs.flipping.add_gains.Given as goal

abbrev pub invariant-loop-bond : goal.invariant-loop-bond
invariant-loop-bond l = record {
  count : length l.gains ≡ l.inst.n;
  gains : (part : ℕ) → part < l.inst.n → get_or l.gains part (pos 0) ≡ total (gain_at l.inst l.least l.names part) l.bond-index;
}
