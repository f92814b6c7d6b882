-- With an empty seam nothing is changed, and the two least energies are one.
use Rattle.std.proofs.Common.{◌≡◌, ℕ, ◌<◌, cond, ℤ, pos, ◌-ℤ◌, List, [], length, get_or, map, ◌∙◌, ap, arith}
use Rattle.std.specs.List.{range_with_len}
use Rattle.std.proofs.lemmas.Int.{ints}
use Rattle.std.proofs.lemmas.List.{get_or_default, same_lists}
use Rattle.std.proofs.lemmas.List.FromFn.{get_or-map-range_with_len, length-map-range_with_len}
use Rattle.sg_model.specs.declared.bond.Bond.{Bond}
use Rattle.sg_model.specs.Ising.{Ising, bond_at, bond_count}
use Rattle.sg_model.specs.Energy.{IsLeastEnergy}
use Rattle.sg_model.proofs.OneEnergy.{least-one}
use Rattle.sg_base.specs.Sets.{holds}
use Rattle.sg_model.specs.Changes.{flipped_at, opposite, with_bonds, with_seam_flipped}

abbrev no_bond : Bond
no_bond = record { u = 0; v = 0; j = pos 0 }

same_instance : (inst : Ising) → inst.seam ≡ [] → with_seam_flipped inst ≡ inst
same_instance inst none = ap (with_bonds inst) (same_lists flipped inst.bonds long each)
  where
    flipped : List Bond
    flipped = map (flipped_at inst) (range_with_len 0 (bond_count inst))

    long : length (map (flipped_at inst) (range_with_len 0 (bond_count inst))) ≡ bond_count inst
    long = length-map-range_with_len (flipped_at inst) 0 (bond_count inst)

    each : (k : ℕ) (d : Bond) → k < length (map (flipped_at inst) (range_with_len 0 (bond_count inst))) →
        get_or (map (flipped_at inst) (range_with_len 0 (bond_count inst))) k d ≡ get_or inst.bonds k d
    each k d l =
        let below : k < bond_count inst = omega (arith, long) in
        get_or-map-range_with_len (flipped_at inst) 0 (bond_count inst) k k d below (omega arith)
        ∙ ap (λ (seam : List ℕ). cond (holds seam k) (opposite (bond_at inst k)) (bond_at inst k)) none
        ∙ get_or_default inst.bonds k no_bond d below

-- with an empty seam the difference is 0
pub no_wall : (inst : Ising) (p a d : ℤ) → IsLeastEnergy inst p → IsLeastEnergy (with_seam_flipped inst) a → d ≡ a -ℤ p → inst.seam ≡ [] →
    d ≡ pos 0
no_wall inst p a d least flipped gain none =
    nothing p a d (least-one inst p a least (rw (same_instance inst none) at flipped)) gain
  where
    nothing : (x y z : ℤ) → x ≡ y → z ≡ y -ℤ x → z ≡ pos 0
    nothing x y z e f = omega (arith, ints)
