use Rattle.std.proofs.Common.{◌≡◌, [], ◌∷◌, flat_map, take}
use Rattle.sg_calls.proofs.tables.ends_of.Given as goal

abbrev pub invariant-loop-bond : goal.invariant-loop-bond
invariant-loop-bond l = l.ends.items ≡ flat_map (λ b. b.u ∷ b.v ∷ []) (take l.bond-index l.bonds)
