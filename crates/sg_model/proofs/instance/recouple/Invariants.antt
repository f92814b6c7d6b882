use Rattle.std.proofs.Common.{◌≡◌, ◌<◌, ◌≤◌, ℕ, length, pos, get_or}
use Rattle.sg_model.specs.declared.bond.Bond.{Bond}
use Rattle.sg_model.specs.Changes.{coupled_at}
use Rattle.sg_model.proofs.instance.recouple.Given as goal

abbrev no_bond : Bond
no_bond = record { u = 0; v = 0; j = pos 0 }

-- the bonds before the next have their couplings, the others are as they were
abbrev pub invariant-loop-k : goal.invariant-loop-k
invariant-loop-k l = record {
  count : length l.bonds ≡ length l.initial.bonds;
  done : (i : ℕ) → i < l.k → get_or l.bonds i no_bond ≡ coupled_at l.initial.bonds l.couplings i;
  left : (i : ℕ) → l.k ≤ i → get_or l.bonds i no_bond ≡ get_or l.initial.bonds i no_bond;
}
