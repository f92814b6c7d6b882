-- A bond is broken where either it is negative or its ends differ, and not both; and bounds on the weight of all bonds.
use Rattle.std.proofs.Common.{◌≡◌, ◌*◌, ◌≤◌, ◌^◌, ℤ, pos, Bool, List, arith, length, int_lt, unsigned_abs}
use Rattle.std.proofs.lemmas.List.Elements.{All-weaker}
use Rattle.std.proofs.lemmas.List.Sums.{sum_by-le}
use Rattle.sg_base.specs.Parity.{xor}
use Rattle.sg_model.specs.declared.bond.Bond.{Bond}
use Rattle.sg_model.specs.Ising.{Ising, IsBond}
use Rattle.sg_model.specs.WellFormed.{IsInstance}
use Rattle.sg_model.specs.Spins.{spin}
use Rattle.sg_model.specs.Energy.{weight}
use Rattle.sg_model.specs.Broken.{is_negative, is_broken}
use Rattle.sg_model.proofs.BrokenEnergy.{HasUnitEnds}

-- a spin value of -1
abbrev pub is_down : ℤ → Bool
is_down z = int_lt z (pos 0)

-- a bond is broken where either it is negative or its ends differ
pub is_broken_xor : (s : List ℤ) (b : Bond) → HasUnitEnds s b → is_broken s b ≡ xor (is_negative b) (xor (is_down (spin s b.u)) (is_down (spin s b.v)))
is_broken_xor s b h = grind arith

-- the weight of all bonds of an instance
pub weight-le : (inst : Ising) → IsInstance inst → weight inst ≤ 2 ^ 24 * 2 ^ 63
weight-le inst good =
    let all : weight inst ≤ length inst.bonds * 2 ^ 63 =
    sum_by-le (λ b. unsigned_abs b.j) (2 ^ 63) inst.bonds
    (All-weaker (IsBond inst.n) (λ b. unsigned_abs b.j ≤ 2 ^ 63) (λ b w. omega (arith, w.size)) inst.bonds good.draft.joined) in
    omega (arith, all, good.draft.few_bonds)
