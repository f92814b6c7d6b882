-- Tables that take more than is allowed: of the whole, of a part, and how much none take.
use Rattle.std.proofs.Common.{inl, inr, refl, ◌≡◌, ℕ, ◌+◌, ◌*◌, ◌-◌, ◌<◌, ◌≤◌, ◌^◌, List, length, get_or, ap, arith}
use Rattle.sg_base.specs.Limits.{bond_limit, spin_limit, table_limit}
use Rattle.sg_model.specs.Ising.{Ising, bond_count}
use Rattle.sg_model.specs.WellFormed.{IsInstance}
use Rattle.sg_planar.specs.Fit.{Embedding, IsPlanar}
use Rattle.sg_planar.specs.Parts.{AreParts}
use Rattle.sg_planar.specs.declared.components.Part.{Part}
use Rattle.sg_planar.proofs.EulerBounds.{faces_within}
use Rattle.sg_graph.proofs.OnceLists.{rising_few}
use Rattle.sg_dual.specs.Dual.{dual_web, frustrated_faces}
use Rattle.sg_dual.proofs.Frustration.{frustrated_terminals}
use Rattle.sg_tjoin.specs.Allowance.{IfTooLarge, table_bytes}
use Rattle.sg_tjoin.specs.declared.allowance.Unproved.{Unproved}
use Rattle.sg_tjoin.proofs.TableBounds.{IfTooLarge-weaker, tables_bounded}
use Rattle.sg_ground.specs.Allowance.{FacesExceed, IsWholeOrPart, TablesExceed}
use Rattle.sg_ground.proofs.PartLists.{share_of_part}
use Rattle.sg_ground.proofs.Gluing.{part_here}
use Rattle.sg_ground.proofs.Solutions.{faces_fit}

-- of part i of the whole, in a loop over the parts
pub part_exceeds : (inst : Ising) (good : IsInstance inst) (parts : List Part) (are : AreParts inst parts) (i : ℕ) (p : Part) → i < length parts
    → p ≡ get_or parts i p → (most : ℕ) (e : Unproved) → IfTooLarge (FacesExceed most p.planar) e → IfTooLarge (TablesExceed most inst) e
part_exceeds inst good parts are i p l same most =
    let found = part_here inst good parts are i p l same in
    IfTooLarge-weaker (λ h. record {
      own = p.planar;
      planar = found.1.planar;
      connected = found.1.connected;
      of = inr (found.0, p, found.1, refl);
      exceed = h;
    })

-- a part has no more spins and no more bonds than the whole
part_small : (inst own : Ising) → IsWholeOrPart inst own → (own.n ≤ inst.n) × (bond_count own ≤ bond_count inst)
part_small inst own (inl same) = (omega (arith, ap (λ (i : Ising). i.n) same), omega (arith, ap bond_count same))
part_small inst own (inr (least, part, is, same)) =
    let share = share_of_part inst least part is in (
      omega (arith, ap (λ (i : Ising). i.n) same, share.spin_count, rising_few inst.n part.spins share.spins_below share.spins_rise),
      omega (arith, ap bond_count same, share.bond_counts, rising_few (bond_count inst) part.bonds share.bonds_below share.bonds_rise),
    )

-- the bytes by a bound on the faces
exceed_bounded : (most few : ℕ) (p : Embedding) → IsPlanar p → FacesExceed most p → p.faces.count ≤ few → most < 20 * (few * few)
exceed_bounded most few p planar exceed within =
    let all : table_bytes (length (frustrated_faces p.instance p.faces)) p.faces.count ≤ 20 * (few * few) =
    tables_bounded (dual_web p.instance p.faces) (frustrated_faces p.instance p.faces) (frustrated_terminals p.instance p.faces) few within in
    omega (arith, all, exceed)

-- within the limits of the program they take no more than 4 GiB
pub program_fits : (inst : Ising) → inst.n ≤ spin_limit → bond_count inst ≤ bond_limit → TablesExceed table_limit inst → ⊥
program_fits inst few_spins few_bonds exceeds =
    let p = exceeds.own in
    let small = part_small inst p.instance exceeds.of in
    let faces : p.faces.count ≤ p.instance.n + bond_count p.instance =
    faces_within p.instance exceeds.planar.instance p.faces exceeds.planar.faces exceeds.planar.genus_zero in
    omega (arith, exceed_bounded table_limit 8192 p exceeds.planar exceeds.exceed (omega (arith, small.0, small.1, faces)))

-- and ever less than 2^64 bytes
pub all_fit : (inst : Ising) → TablesExceed (2 ^ 64 - 1) inst → ⊥
all_fit inst exceeds =
    omega (
      arith,
      exceed_bounded (2 ^ 64 - 1) (2 ^ 24) exceeds.own exceeds.planar exceeds.exceed
          (faces_fit exceeds.own exceeds.planar exceeds.connected),
    )
