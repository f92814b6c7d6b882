-- How large an instance may be: as large as the program takes, or larger.
use Rattle.sg_base.specs.Limits.{bond_limit, large_bond_limit, large_spin_limit, spin_limit}
use Rattle.sg_draft.specs.declared.limits.Limits.{Limits}

-- what the program takes
abbrev pub program_limits : Limits
program_limits = record { spins = spin_limit; bonds = bond_limit }

-- what a call takes that finds one least energy or two, or none
abbrev pub large_limits : Limits
large_limits = record { spins = large_spin_limit; bonds = large_bond_limit }
