-- Broken bonds (Toulouse 1977): those whose coupling the spins do not follow.
use Rattle.std.specs.Prelude.{pos, negsuc, ℤ, Bool, cond, List, int_lt}
use Rattle.std.specs.Ordering.{int_eq}
use Rattle.sg_model.specs.declared.bond.Bond.{Bond}
use Rattle.sg_model.specs.Energy.{product}

-- a negative bond; a coupling of 0 is not negative
abbrev pub is_negative : Bond → Bool
is_negative b = int_lt b.j (pos 0)

-- a negative bond between equal spins, or another between opposite spins
abbrev pub is_broken : List ℤ → Bond → Bool
is_broken s b = cond (is_negative b) (int_eq (product s b) (pos 1)) (int_eq (product s b) (negsuc 0))
