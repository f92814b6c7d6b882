-- Bonds with other couplings, one after another.
use Rattle.std.proofs.Common.{◌≡◌, inl, inr, ℕ, ℤ, ◌+◌, ◌<◌, ◌^◌, Bool, cond, eqb, pos, List, [], ◌∷◌, ◌++◌, length, get_or, take, map, refl, sym, ◌∙◌, ap, ap₂, arith, All}
use Rattle.std.specs.Prelude.{unsigned_abs}
use Rattle.std.specs.List.{range_with_len}
use Rattle.std.proofs.lemmas.Bool.{cases_lt}
use Rattle.std.proofs.lemmas.Int.{ints}
use Rattle.std.proofs.lemmas.List.{get_or_past, get_or-set_same, get_or-set_other, length-map, length-set, take_more}
use Rattle.std.proofs.Math.ListN.{get_or-map}
use Rattle.std.proofs.lemmas.List.Elements.{All-from_get_or, All-map}
use Rattle.std.proofs.lemmas.List.FromFn.{get_or-map-range_with_len, length-map-range_with_len, map-range_with_len_more}
use Rattle.sg_model.specs.declared.bond.Bond.{Bond}
use Rattle.sg_model.specs.Ising.{Ising, IsBond, bond_at, bond_count}
use Rattle.sg_base.specs.Sets.{holds}
use Rattle.sg_model.specs.Changes.{HasSameEnds, coupled_at, coupled_bonds, flipped_at, opposite, recoupled, with_coupling}

abbrev no_bond : Bond
no_bond = record { u = 0; v = 0; j = pos 0 }

size_opposite : (b : Bond) → unsigned_abs b.j < 2 ^ 63 → unsigned_abs (opposite b).j < 2 ^ 63
size_opposite b h = omega (arith, ints)

module _ (inst : Ising) where
  -- one more bond of the flipped instance
  pub flip_step : (items : List Bond) (k : ℕ) (on : Bool) → items ≡ inst.bonds → on ≡ holds inst.seam k
      → map (flipped_at inst) (range_with_len 0 k) ++ cond on (opposite (get_or items k no_bond)) (get_or items k no_bond) ∷ [] ≡ map (flipped_at inst)
      (range_with_len 0 (k + 1))
  flip_step items k on same e =
      ap₂ (λ t (c : List Bond). map (flipped_at inst) (range_with_len 0 k) ++ cond t (opposite (get_or c k no_bond)) (get_or c k no_bond) ∷ []) e same
      ∙ sym (map-range_with_len_more (flipped_at inst) 0 k k (omega arith))

  -- the flipped bonds have the old ends
  pub flipped_ends : All (IsBond inst.n) inst.bonds → HasSameEnds inst (map (flipped_at inst) (range_with_len 0 (bond_count inst)))
  flipped_ends joined = grind (arith, length-map-range_with_len, get_or-map-range_with_len, get_or_past)

  -- every sign is changed
  pub negated_ends : All (IsBond inst.n) inst.bonds → HasSameEnds inst (map opposite inst.bonds)
  negated_ends joined = record {
    count = length-map inst.bonds opposite;
    first = λ k. ap (λ (b : Bond). b.u) (at_opposite k);
    second = λ k. ap (λ (b : Bond). b.v) (at_opposite k);
    sizes = All-map (λ b. unsigned_abs b.j < 2 ^ 63) opposite inst.bonds (λ k d l. size_opposite (get_or inst.bonds k d) (joined k d l).size);
  }
    where
      at_opposite : (k : ℕ) → get_or (map opposite inst.bonds) k no_bond ≡ opposite (bond_at inst k)
      at_opposite k = get_or-map opposite inst.bonds k no_bond

  module _ (bond : ℕ) (z : ℤ) (within : bond < bond_count inst) where
    long : length (with_coupling inst bond z).bonds ≡ bond_count inst
    long = length-set inst.bonds bond (recoupled (bond_at inst bond) z)

    at : (k : ℕ) → k < bond_count inst → get_or (with_coupling inst bond z).bonds k no_bond ≡ cond (eqb k bond) (recoupled (bond_at inst k) z)
        (bond_at inst k)
    at k l = grind (arith, get_or-set_same, get_or-set_other)

    -- one more bond of the instance with the other coupling
    pub coupling_step : (items : List Bond) (k : ℕ) → items ≡ inst.bonds → k < bond_count inst
        → take k (with_coupling inst bond z).bonds ++ cond (eqb k bond) (recoupled (get_or items k no_bond) z) (get_or items k no_bond) ∷ [] ≡ take
        (k + 1) (with_coupling inst bond z).bonds
    coupling_step items k same l =
        ap (λ (c : List Bond). take k (with_coupling inst bond z).bonds ++ cond (eqb k bond) (recoupled (get_or c k no_bond) z) (get_or c k no_bond) ∷ [])
        same
        ∙ ap (λ (b : Bond). take k (with_coupling inst bond z).bonds ++ b ∷ []) (sym (at k l))
        ∙ sym (take_more (with_coupling inst bond z).bonds k no_bond (omega (arith, long)))

    -- and so have the bonds with one coupling changed
    pub coupling_ends : All (IsBond inst.n) inst.bonds → unsigned_abs z < 2 ^ 63 → HasSameEnds inst (with_coupling inst bond z).bonds
    coupling_ends joined size = record {
      count = long;
      first = λ k. ends (λ b. b.u) (λ b. refl) k;
      second = λ k. ends (λ b. b.v) (λ b. refl) k;
      sizes = All-from_get_or (λ b. unsigned_abs b.j < 2 ^ 63) (with_coupling inst bond z).bonds no_bond sizes_at;
    }
      where
        kept : (f : Bond → ℕ) → ((b : Bond) → f (recoupled b z) ≡ f b) → (t : Bool) (b : Bond) → f (cond t (recoupled b z) b) ≡ f b
        kept f h t b = grind arith

        ends : (f : Bond → ℕ) → ((b : Bond) → f (recoupled b z) ≡ f b) → (k : ℕ) →
            f (get_or (with_coupling inst bond z).bonds k no_bond) ≡ f (bond_at inst k)
        ends f e k = elim (cases_lt k (bond_count inst)) [
          | inl l ↦ ap f (at k l) ∙ kept f e (eqb k bond) (bond_at inst k)
          | inr past ↦ ap f (get_or_past (with_coupling inst bond z).bonds k no_bond (omega (arith, long)) ∙ sym (get_or_past inst.bonds k no_bond past))
        ]

        sized : (t : Bool) (b : Bond) → unsigned_abs b.j < 2 ^ 63 → unsigned_abs (cond t (recoupled b z) b).j < 2 ^ 63
        sized t b h = grind arith

        sizes_at : (k : ℕ) → k < length (with_coupling inst bond z).bonds → unsigned_abs (get_or (with_coupling inst bond z).bonds k no_bond).j < 2 ^ 63
        sizes_at k b =
            let l : k < bond_count inst = omega (arith, long) in
            let h : unsigned_abs (cond (eqb k bond) (recoupled (bond_at inst k) z) (bond_at inst k)).j < 2 ^ 63 =
            sized (eqb k bond) (bond_at inst k) (joined k no_bond l).size in
            omega (arith, ap (λ (b : Bond). unsigned_abs b.j) (at k l))

  -- each bond has the coupling of a list
  module _ (couplings : List ℤ) where
    -- there are as many recoupled bonds as bonds
    pub all_long : length (coupled_bonds inst.bonds couplings) ≡ bond_count inst
    all_long = length-map-range_with_len (coupled_at inst.bonds couplings) 0 (bond_count inst)

    -- recoupled bond k is bond k with the coupling there
    pub coupled_at_place : (k : ℕ) → k < bond_count inst →
        get_or (coupled_bonds inst.bonds couplings) k no_bond ≡ recoupled (bond_at inst k) (get_or couplings k (pos 0))
    coupled_at_place k l = get_or-map-range_with_len (coupled_at inst.bonds couplings) 0 (bond_count inst) k k no_bond l (omega arith)

    -- the recoupled bonds have the old ends
    pub couplings_ends : length couplings ≡ bond_count inst → All (λ z. unsigned_abs z < 2 ^ 63) couplings →
        HasSameEnds inst (coupled_bonds inst.bonds couplings)
    couplings_ends given small = record {
      count = all_long;
      first = λ k. ends (λ b. b.u) (λ b z. refl) k;
      second = λ k. ends (λ b. b.v) (λ b z. refl) k;
      sizes = All-from_get_or (λ b. unsigned_abs b.j < 2 ^ 63) (coupled_bonds inst.bonds couplings) no_bond sizes_at;
    }
      where
        ends : (f : Bond → ℕ) → ((b : Bond) (z : ℤ) → f (recoupled b z) ≡ f b) → (k : ℕ) →
            f (get_or (coupled_bonds inst.bonds couplings) k no_bond) ≡ f (bond_at inst k)
        ends f e k = grind (arith, cases_lt k (bond_count inst), coupled_at_place, get_or_past, all_long, e, inst.bonds)

        sizes_at : (k : ℕ) → k < length (coupled_bonds inst.bonds couplings) →
            unsigned_abs (get_or (coupled_bonds inst.bonds couplings) k no_bond).j < 2 ^ 63
        sizes_at k b =
            let l : k < bond_count inst = omega (arith, all_long) in
            let h : unsigned_abs (get_or couplings k (pos 0)) < 2 ^ 63 = small k (pos 0) (omega (arith, l, given)) in
            omega (arith, ap (λ (b : Bond). unsigned_abs b.j) (coupled_at_place k l))
