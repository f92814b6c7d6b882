-- What tables of places make of the bonds and lists of a part: the part as it is defined.
use Rattle.std.proofs.Common.{◌≡◌, ◌∙◌, ap, ap₂, refl, subst, ℕ, ◌+◌, ◌*◌, ◌/◌, ◌<◌, pos, true, List, [], ◌∷◌, ◌++◌, length, get_or, map, slice_index, take, All, arith}
use Rattle.std.proofs.lemmas.List.{get_or-map, length-map, map-append, take_more}
use Rattle.std.proofs.lemmas.List.Elements.{All-from_get_or, All-head, All-map, All-tail}
use Rattle.sg_base.specs.Sets.{holds}
use Rattle.sg_model.specs.declared.bond.Bond.{Bond}
use Rattle.sg_model.specs.Ising.{Ising, bond_at, bond_count}
use Rattle.sg_model.specs.Rotation.{darts_of}
use Rattle.sg_model.specs.WellFormed.{IsInstance}
use Rattle.sg_model.specs.Connected.{all_bonds}
use Rattle.sg_model.proofs.Rotations.{in_list}
use Rattle.sg_planar.specs.Naming.{AllNamed}
use Rattle.sg_planar.specs.Parts.{bond_in, dart_in, restricted}
use Rattle.sg_planar.specs.Splitting.{ArePlaces, IsClosedPart, IsDealt, IsNaming, IsSplit, placed_bond, placed_darts}
use Rattle.sg_planar.proofs.Places.{holds_entry}
use Rattle.sg_planar.proofs.RestrictedParts.{listed_bond}
use Rattle.sg_planar.proofs.NamedParts.{name_below}
use Rattle.sg_planar.proofs.DealtNumbers.{dealt_same}

-- names over all bonds, as a function
pub naming_of_all : (inst : Ising) (names : List ℕ) → AllNamed inst all_bonds names → IsNaming inst (λ x. get_or names x 0)
naming_of_all inst names named = record {
  reached = λ x l. (named.each x l).reached;
  least = λ x j l r. (named.each x l).least j r;
}

map_alike : {X : Type 0} (f g : ℕ → X) (xs : List ℕ) → All (λ x. f x ≡ g x) xs → map f xs ≡ map g xs
map_alike f g [] h = refl
map_alike f g (x ∷ xs) h = ap₂ (λ y ys. y ∷ ys) (All-head (λ x. f x ≡ g x) x xs h) (map_alike f g xs (All-tail (λ x. f x ≡ g x) x xs h))

-- one step more of a list that is mapped
pub map_more : {X : Type 0} (f : ℕ → X) (xs : List ℕ) (i : ℕ) → i < length xs →
    map f (take (i + 1) xs) ≡ map f (take i xs) ++ f (get_or xs i 0) ∷ []
map_more f xs i l = ap (map f) (take_more xs i 0 l) ∙ map-append f (take i xs) (get_or xs i 0 ∷ [])

-- the bonds of the darts of a spin are bonds
pub listed_below : (inst : Ising) → IsInstance inst → (s : ℕ) → s < inst.n → All (λ d. d / 2 < bond_count inst) (darts_of inst s)
listed_below inst good s l =
    All-from_get_or (λ d. d / 2 < bond_count inst) (darts_of inst s) 0
    (λ j b. (let low : get_or (darts_of inst s) j 0 < 2 * bond_count inst = (in_list inst good s j l b).0 in omega (arith, low)))

module _ (inst : Ising) (good : IsInstance inst) (spins bonds : List ℕ) (part : IsClosedPart inst spins bonds) (spin_places bond_places : List ℕ)
    (of_spins : ArePlaces spins spin_places inst.n) (of_bonds : ArePlaces bonds bond_places (bond_count inst)) where
  bond_alike : (k : ℕ) → holds bonds k ≡ true → placed_bond spin_places (bond_at inst k) ≡ bond_in spins (bond_at inst k)
  bond_alike k h = grind arith

  darts_alike : (x : ℕ) → holds spins x ≡ true → placed_darts bond_places (darts_of inst x) ≡ map (dart_in bonds) (darts_of inst x)
  darts_alike x h = grind (arith, map_alike, listed_bond)

  -- by tables of places the part is the one that is defined
  pub part_assembled : (n : ℕ) (list : List Bond) (rotation : List (List ℕ)) (seam : List ℕ) → n ≡ length spins →
      list ≡ map (λ k. placed_bond spin_places (bond_at inst k)) bonds → rotation ≡ map (λ x. placed_darts bond_places (darts_of inst x)) spins →
      seam ≡ [] →
      record { n = n; bonds = list; rotation = rotation; seam = seam } ≡ restricted inst spins bonds
  part_assembled n list rotation seam p q r s =
      ap₂ (λ a b. record { n = a; bonds = b; rotation = rotation; seam = seam }) p
      (q ∙ map_alike (λ k. placed_bond spin_places (bond_at inst k)) (λ k. bond_in spins (bond_at inst k)) bonds
      (All-from_get_or (λ k. placed_bond spin_places (bond_at inst k) ≡ bond_in spins (bond_at inst k)) bonds 0
      (λ j b. bond_alike (get_or bonds j 0) (holds_entry bonds j b))))
      ∙ ap₂ (λ a b. record { n = length spins; bonds = map (λ k. bond_in spins (bond_at inst k)) bonds; rotation = a; seam = b })
      (r ∙ map_alike (λ x. placed_darts bond_places (darts_of inst x)) (λ x. map (dart_in bonds) (darts_of inst x)) spins
      (All-from_get_or (λ x. placed_darts bond_places (darts_of inst x) ≡ map (dart_in bonds) (darts_of inst x)) spins 0
      (λ j b. darts_alike (get_or spins j 0) (holds_entry spins j b)))) s

-- names are spins, and so are the names of the bonds' first ends
module _ (inst : Ising) (good : IsInstance inst) (names : List ℕ) (count : length names ≡ inst.n) (named : IsNaming inst (slice_index names)) where
  -- names are spins
  pub names_low : All (λ c. c < inst.n) names
  names_low = All-from_get_or (λ c. c < inst.n) names 0 (λ j b. name_below inst good (slice_index names) named j (omega (arith, b, count)))

  -- so are the names of the bonds
  pub labels_low : All (λ c. c < inst.n) (map (λ (b : Bond). get_or names b.u 0) inst.bonds)
  labels_low = All-map (λ c. c < inst.n) (λ (b : Bond). get_or names b.u 0) inst.bonds
      (λ k d b. name_below inst good (slice_index names) named (get_or inst.bonds k d).u (good.draft.joined k d b).first_end)

  -- spins and bonds dealt out by name are those of the components
  pub split_made : (labels : List ℕ) (spin_lists : List (List ℕ)) (spin_places : List ℕ) (bond_lists : List (List ℕ)) (bond_places : List ℕ) →
      labels ≡ map (λ (b : Bond). get_or names b.u 0) inst.bonds → IsDealt (slice_index names) inst.n (length names) spin_lists spin_places →
      IsDealt (slice_index labels) inst.n (length labels) bond_lists bond_places → IsSplit inst names spin_lists spin_places bond_lists bond_places
  split_made labels spin_lists spin_places bond_lists bond_places is spins bonds = record {
    names_count = count;
    naming = named;
    spins = subst (λ m. IsDealt (slice_index names) inst.n m spin_lists spin_places) count spins;
    bonds = dealt_same (slice_index labels) (λ k. get_or names (bond_at inst k).u 0) inst.n (bond_count inst) bond_lists bond_places at_bond
        (subst (λ m. IsDealt (slice_index labels) inst.n m bond_lists bond_places)
        (ap length is ∙ length-map inst.bonds (λ (b : Bond). get_or names b.u 0)) bonds);
  }
    where
      at_bond : (k : ℕ) → k < bond_count inst → get_or labels k 0 ≡ get_or names (bond_at inst k).u 0
      at_bond k l = ap (λ xs. get_or xs k 0) is ∙ get_or-map (λ (b : Bond). get_or names b.u 0) inst.bonds k (record { u = 0; v = 0; j = pos 0 }) 0 l
