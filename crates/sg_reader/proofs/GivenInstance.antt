-- What records give is an instance within the limits.
use Rattle.std.proofs.Common.{◌≡◌, ℕ, zero, suc, ◌+◌, ◌-◌, ◌*◌, ◌^◌, ◌<◌, ◌≤◌, Bool, true, false, eqb, ℤ, pos, negsuc, List, [], ◌∷◌, ◌++◌, length, take, Option, Some, None, refl, sym, subst, ◌∙◌, arith, All}
use Rattle.std.specs.Prelude.{int_le, unsigned_abs, unwrap_or}
use Rattle.std.proofs.lemmas.Int.{ints}
use Rattle.std.proofs.lemmas.Bool.{and_parts, eqb-false, eqb-true, ltb-false, not-false, true≢false}
use Rattle.std.proofs.lemmas.List.{length-append, take_all, take_more}
use Rattle.std.proofs.lemmas.List.Elements.{All-append, All-cons, All-nil}
use Rattle.std.proofs.lemmas.Option.{none-some, same_Some}
use Rattle.sg_base.specs.Limits.{bond_limit, spin_limit}
use Rattle.sg_model.specs.Ising.{IsBond, Ising, bond_count}
use Rattle.sg_model.specs.Rotation.{IsRotation}
use Rattle.sg_model.specs.WellFormed.{IsDraft}
use Rattle.sg_lattice.specs.Tables.{bond_total, lattice, least_cols}
use Rattle.sg_lattice.proofs.LatticeSizes.{lattice_instance}
use Rattle.sg_draft.specs.Draft.{reseamed}
use Rattle.sg_draft.specs.Limits.{program_limits}
use Rattle.sg_draft.specs.Numbers.{bond_count_fault, coupling_count_fault}
use Rattle.sg_draft.proofs.Drafts.{first-none, passed-if}
use Rattle.sg_reader.specs.declared.header.Form.{Form}
use Rattle.sg_reader.specs.declared.header.Form.TheVariants as form
use Rattle.sg_reader.specs.declared.header.Header.{Header}
use Rattle.sg_reader.specs.declared.header.Header.TheVariants as header
use Rattle.sg_reader.specs.declared.range.Range.{Range}
use Rattle.sg_reader.specs.Kept.{Kept, field}
use Rattle.sg_reader.specs.Tests.{any_number, at_least, field_count_fault, is_in, field_number, field_fault, size_in, spin_below}
use Rattle.sg_reader.specs.Header.{IsHeader, form_fault, form_header, form_of, header_fault, header_of}
use Rattle.sg_reader.specs.Body.{bond_fault, bond_of, bonds_in, couplings_in, ends_fault, general_fault, instance_of, lattice_end_fault, link_fault, says_bond, seam_in}
use Rattle.sg_reader.specs.Ended.{IsBody, record_at}
use Rattle.sg_reader.specs.ReadInstance.{IsGiven, ReadsBody, ReadsInstance}
use Rattle.sg_reader.proofs.BodyLaws.{couplings_in-small, number_in-small}
use Rattle.sg_reader.proofs.GeneralLaws.{bonds_in-more, bonds_in-other, general_fault-bond}
use Rattle.sg_reader.proofs.LatticeLaws.{lattice_fault-end}
use Rattle.sg_reader.proofs.SizeLaws.{lattice-bonds, lattice-spins}

-- a number that passes is of its range
in-range : (range : Range) (i : ℕ) (r : Kept) → field_fault range i r ≡ None → is_in range (field_number r i) ≡ true
unfolding field_fault
in-range range i r h = not-false (is_in range (field_number r i)) (passed-if _ _ h)

low-of : (least : ℕ) (o : Option ℤ) → is_in (at_least least) o ≡ true → least ≤ unsigned_abs (unwrap_or o (pos 0))
low-of least None h = absurd (true≢false (sym h))
low-of least (Some (pos a)) h = grind (arith, ints)
low-of least (Some (negsuc a)) h = absurd (true≢false (sym (and_parts (int_le (pos least) (negsuc a)) (int_le (negsuc a) (pos (2 ^ 63 - 1))) h).0))

below-of : (n : ℕ) (o : Option ℤ) → 1 ≤ n → is_in (spin_below n) o ≡ true → unsigned_abs (unwrap_or o (pos 0)) < n
below-of n None some h = absurd (true≢false (sym h))
below-of n (Some (pos a)) some h = grind (arith, ints)
below-of n (Some (negsuc a)) some h = absurd (true≢false (sym (and_parts (int_le (pos 0) (negsuc a)) (int_le (negsuc a) (pos (n - 1))) h).0))

-- a first record that passes is a header
pub header-good : (r : Kept) (head : Header) → header_fault r ≡ None → header_of r ≡ Some head → IsHeader head
unfolding header_fault header_of form_fault form_header
header-good r head passes says = by (form_of (field r 0)) passes says
  where
    by : (f : Option Form) → form_fault f r ≡ None → form_header f r ≡ Some head → IsHeader head
    by None p s = absurd (none-some head s)
    by (Some (form.Lattice kind)) p s =
        let rows = first-none (field_fault (at_least 1) 1 r) _ ((first-none (field_count_fault 3 r) _ p).1) in
        let cols = first-none (field_fault (at_least (least_cols kind)) 2 r) _ rows.1 in
        let many = ltb-false spin_limit (size_in r 1 * size_in r 2) (passed-if _ _ (first-none _ _ cols.1).0) in
        subst IsHeader (same_Some (header.Lattice kind (size_in r 1) (size_in r 2)) head s) (
          record {
            rows = low-of 1 (field_number r 1) (in-range _ 1 r rows.0);
            cols = low-of _ (field_number r 2) (in-range _ 2 r cols.0);
            few = omega (arith, many);
          },
          many,
        )
    by (Some form.General) p s =
        let spins = first-none (field_fault (at_least 1) 1 r) _ (first-none (field_count_fault 2 r) _ p).1 in
        let many = ltb-false spin_limit (size_in r 1) (passed-if _ _ (first-none _ _ spins.1).0) in
        subst IsHeader (same_Some (header.General (size_in r 1)) head s) (low-of 1 (field_number r 1) (in-range _ 1 r spins.0), many)

-- the bonds of records that pass are bonds, and not too many
module _ (n : ℕ) (some : 1 ≤ n) where
  abbrev Sound : List Kept → Type 0
  Sound front = All (IsBond n) (bonds_in front) × (length (bonds_in front) ≤ bond_limit)

  sound-none : Sound []
  unfolding bonds_in
  sound-none = (All-nil (IsBond n), omega arith)

  bond-sound : (m : ℕ) (r : Kept) → bond_fault n m r ≡ None → IsBond n (bond_of r) × (m + 1 ≤ bond_limit)
  unfolding link_fault
  bond-sound m r h =
      let parts = first-none (link_fault any_number n r) _ h in
      let first = first-none (field_fault (spin_below n) 1 r) _ (first-none (field_count_fault 4 r) _ parts.0).1 in
      let ends = first-none (bond_count_fault program_limits (m + 1)) _ (first-none (ends_fault (size_in r 1) (size_in r 2) m) _ parts.1).0 in
      let apart = eqb-false (size_in r 1) (size_in r 2) (passed-if _ _ (first-none _ _ ends.1).0) in (
        record {
          first_end = below-of n (field_number r 1) some (in-range _ 1 r first.0);
          second_end = below-of n (field_number r 2) some (in-range _ 2 r (first-none (field_fault (spin_below n) 2 r) _ first.1).0);
          ends_differ = apart;
          size = number_in-small r 3;
        },
        ltb-false bond_limit (m + 1) (passed-if _ _ ends.0),
      )

  sound-more : (front : List Kept) (r : Kept) → Sound front → general_fault n front r ≡ None → Sound (front ++ r ∷ [])
  sound-more front r s good = by (says_bond r) refl
    where
      by : (b : Bool) → says_bond r ≡ b → Sound (front ++ r ∷ [])
      by true is =
          let bond = bond-sound (length (bonds_in front)) r (sym (general_fault-bond n front r is) ∙ good) in
          let all = All-append (IsBond n) (bonds_in front) (bond_of r ∷ []) s.0 (All-cons (IsBond n) (bond_of r) [] bond.0 (All-nil (IsBond n))) in
          rw (bonds_in-more front r is) (all, omega (arith, bond.1, length-append (bonds_in front) (bond_of r ∷ [])))
      by false is = rw (bonds_in-other front r is) s

  sound-all : (body : List Kept) → IsBody (general_fault n) body → (k : ℕ) → k ≤ length body → Sound (take k body)
  sound-all body h zero l = sound-none
  sound-all body h (suc k) l =
      let next : take (k + 1) body ≡ take k body ++ record_at body k ∷ [] = take_more body k (record { at = 0; fields = [] }) (omega (arith, l)) in
      let one : k + 1 ≡ suc k = omega arith in
      subst (λ (j : ℕ). Sound (take j body)) one (subst Sound (sym next)
      (sound-more (take k body) (record_at body k) (sound-all body h k (omega (arith, l))) (h.passes k (omega (arith, l)))))

  pub sound-body : (body : List Kept) → IsBody (general_fault n) body → Sound body
  sound-body body h = subst Sound (take_all (length body) body (omega arith)) (sound-all body h (length body) (omega arith))

-- another seam leaves a draft one
reseamed-draft : (seam : Option (List ℕ)) (inst : Ising) → IsDraft inst → IsDraft (reseamed seam inst)
reseamed-draft None inst h = h
reseamed-draft (Some seam) inst h = record { has_spin = h.has_spin; few_spins = h.few_spins; few_bonds = h.few_bonds; joined = h.joined; lists = h.lists }

-- what records behind a header give
pub body-given : (head : Header) (records : List Kept) (inst : Ising) (rest : List Kept) → IsHeader head → ReadsBody head records inst rest → IsGiven inst
unfolding instance_of
body-given (header.General n) records inst rest good given =
    let sound = sound-body n good.0 given.states.body given.states.ended.is_body in
    let is = given.states.value in
    let draft : IsDraft (instance_of (header.General n) given.states.body) = record {
      has_spin = good.0;
      few_spins = omega (arith, good.1);
      few_bonds = omega (arith, sound.1);
      joined = sound.0;
      lists = (subst IsRotation is given.rotation).lists;
    } in
    record {
      instance = record { draft = subst IsDraft (sym is) draft; rotation = given.rotation; seam = given.seam };
      few_spins = subst (λ (i : Ising). i.n ≤ spin_limit) (sym is) good.1;
      few_bonds = subst (λ (i : Ising). bond_count i ≤ bond_limit) (sym is) sound.1;
    }
body-given (header.Lattice kind rows cols) records inst rest good given =
    let body = given.states.body in
    let is : inst ≡ reseamed (seam_in body) (lattice kind rows cols (couplings_in body)) = given.states.value in
    let ended : lattice_end_fault (bond_total kind rows cols) (length (couplings_in body)) given.states.last ≡ None =
    sym (lattice_fault-end (bond_total kind rows cols) body given.states.last given.states.ended.ends) ∙ given.states.passes in
    let counted = (first-none (coupling_count_fault (length (couplings_in body)) (bond_total kind rows cols)) _
    (first-none (field_count_fault 1 given.states.last) _ ended).1).0 in
    let count : length (couplings_in body) ≡ bond_total kind rows cols =
    eqb-true _ _ (not-false (eqb (length (couplings_in body)) (bond_total kind rows cols)) (passed-if _ _ counted)) in
    let whole = lattice_instance kind rows cols good.0 (couplings_in body) count (couplings_in-small body) in
    record {
      instance = record {
        draft = subst IsDraft (sym is) (reseamed-draft (seam_in body) (lattice kind rows cols (couplings_in body)) whole.draft);
        rotation = given.rotation;
        seam = given.seam;
      };
      few_spins = omega (arith, lattice-spins kind rows cols (couplings_in body) (seam_in body) inst is, good.1);
      few_bonds = omega (arith, lattice-bonds kind rows cols (couplings_in body) (seam_in body) inst good.0 is, good.1);
    }

-- what records give
pub records-given : (records : List Kept) (inst : Ising) (rest : List Kept) → ReadsInstance records inst rest → IsGiven inst
records-given records inst rest given = body-given given.header given.more inst rest (header-good given.first given.header given.passes given.says) given.reads
