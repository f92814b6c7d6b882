-- What a JSON text gives is an instance within the limits.
use Rattle.std.proofs.Common.{◌≡◌, ℕ, ◌*◌, ◌≤◌, true, false, not, List, [], length, Option, Some, None, refl, sym, subst, arith}
use Rattle.std.specs.Prelude.{unwrap_or}
use Rattle.std.proofs.lemmas.Bool.{leb-true, ltb-false, not-false, true≢false}
use Rattle.sg_base.specs.Limits.{bond_limit, spin_limit}
use Rattle.sg_model.specs.Ising.{Ising, bond_count}
use Rattle.sg_lattice.specs.Tables.{IsSize, least_cols}
use Rattle.sg_draft.specs.declared.member.Member.TheVariants as member
use Rattle.sg_draft.specs.declared.read.Read.{Read}
use Rattle.sg_draft.specs.declared.read.Read.TheVariants.{Known, WrongAt}
use Rattle.sg_draft.specs.Draft.{Draft, IsDrafted, OfGeneral, OfLattice, general_draft_fault}
use Rattle.sg_draft.specs.Limits.{program_limits}
use Rattle.sg_draft.specs.Numbers.{bond_count_fault, is_number_from, lattice_size_fault, many_spins_fault, number_fault, spin_count_fault}
use Rattle.sg_draft.specs.Reads.{read_length, member_fault, value_or, wrong_entry}
use Rattle.sg_reader.specs.ReadInstance.{IsGiven}
use Rattle.sg_draft.proofs.Drafts.{first-none, passed-if}
use Rattle.sg_reader.proofs.SizeLaws.{lattice-bonds, lattice-spins}
use Rattle.sg_json.specs.ReadJson.{ReadsJson}

-- a number that passes is at least so large
from-passed : (least : ℕ) (size : Option ℕ) → not (is_number_from least size) ≡ false → least ≤ unwrap_or size 0
from-passed least size h = by size (not-false (is_number_from least size) h)
  where
    by : (o : Option ℕ) → is_number_from least o ≡ true → least ≤ unwrap_or o 0
    by None e = absurd (true≢false (sym e))
    by (Some n) e = leb-true least n e

-- a list is counted
counted-length : {X : Type 0} (r : Read (List X)) → value_or 0 (read_length r) ≡ length (value_or [] r)
counted-length (Known xs) = refl
counted-length (WrongAt entry) = refl

-- what a draft gives
pub drafted-given : (draft : Draft) (inst : Ising) → IsDrafted program_limits draft inst → IsGiven inst
drafted-given (OfLattice d) inst given =
    let rows = first-none (number_fault member.Rows 1 d.rows) _ ((first-none (lattice_size_fault program_limits d.kind d.rows d.cols) _ given.passes).0) in
    let cols = first-none (number_fault member.Cols (least_cols d.kind) d.cols) _ rows.1 in
    let R : ℕ = unwrap_or d.rows 0 in
    let C : ℕ = unwrap_or d.cols 0 in
    let many : R * C ≤ spin_limit = ltb-false spin_limit (R * C) (passed-if _ _ (first-none (many_spins_fault program_limits (R * C)) _ cols.1).0) in
    let is : IsSize d.kind R C = record {
      rows = from-passed 1 d.rows (passed-if _ _ rows.0);
      cols = from-passed (least_cols d.kind) d.cols (passed-if _ _ cols.0);
      few = omega (arith, many);
    } in
    record {
      instance = given.instance;
      few_spins = omega (arith, lattice-spins d.kind R C (value_or [] d.couplings) (value_or None d.seam) inst given.value, many);
      few_bonds = omega (arith, lattice-bonds d.kind R C (value_or [] d.couplings) (value_or None d.seam) inst is given.value, many);
    }
drafted-given (OfGeneral d) inst given =
    let numbers =
    (first-none (general_draft_fault program_limits d.spins (read_length d.bonds) (wrong_entry d.rotation) (wrong_entry d.seam)) _ given.passes).0 in
    let spins = first-none (spin_count_fault program_limits d.spins) _ numbers in
    let most = first-none (many_spins_fault program_limits (unwrap_or d.spins 0)) _ (first-none (number_fault member.SpinCount 1 d.spins) _ spins.0).1 in
    let few : unwrap_or d.spins 0 ≤ spin_limit = ltb-false spin_limit (unwrap_or d.spins 0) (passed-if _ _ most.0) in
    let behind = first-none (member_fault member.Bonds (wrong_entry (read_length d.bonds))) _ spins.1 in
    let seam = first-none (member_fault member.Seam (wrong_entry d.seam)) _ (first-none (member_fault member.Rotation (wrong_entry d.rotation)) _ behind.1).1 in
    let bonds = (first-none (bond_count_fault program_limits (value_or 0 (read_length d.bonds))) _ seam.1).0 in
    let light = ltb-false bond_limit (value_or 0 (read_length d.bonds)) (passed-if _ _ bonds) in
    record {
      instance = given.instance;
      few_spins = subst (λ (i : Ising). i.n ≤ spin_limit) (sym given.value) few;
      few_bonds = subst (λ (i : Ising). bond_count i ≤ bond_limit) (sym given.value) (subst (λ (m : ℕ). m ≤ bond_limit) (counted-length d.bonds) light);
    }

-- what a JSON text gives
pub json-given : (bytes : List ℕ) (inst : Ising) → ReadsJson bytes inst → IsGiven inst
json-given bytes inst given = drafted-given _ inst given.gives.drafted
