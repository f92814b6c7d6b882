-- The table of `phi`: the lists of the spins are entered one after another.
use Rattle.std.proofs.Common.{inl, inr, ◌≡◌, ◌≢◌, ℕ, ◌+◌, ◌<◌, ◌≤◌, List, set, sym, ◌∙◌, ap, arith, All, length, get_or, get_or-set_same, get_or-set_other}
use Rattle.std.proofs.lemmas.List.Elements.{All-from_get_or}
use Rattle.std.proofs.lemmas.Bool.{cases_eq}
use Rattle.sg_model.specs.Ising.{Ising}
use Rattle.sg_model.specs.Rotation.{dart_count, darts_of, following, rev, tail}
use Rattle.sg_base.specs.Sets.{DifferByCount}
use Rattle.sg_model.specs.WellFormed.{IsInstance}
use Rattle.sg_faces.specs.Faces.{phi}
use Rattle.sg_faces.specs.Tables.{HasPhi, IsPhiTable}
use Rattle.sg_model.proofs.DartPairs.{rev_apart, rev_below, rev_rev}
use Rattle.sg_model.proofs.CyclicLists.{following_inner, following_last}
use Rattle.sg_model.proofs.Rotations.{in_list, place_at, next_is, tail_below}

-- the place of the entry that follows the one at i
pub record IsAfter (n i after : ℕ) : Type 0 where
  pub inner : i + 1 < n → after ≡ i + 1
  pub last : n ≤ i + 1 → after ≡ 0

-- the dart behind one in a list, by places
pub following_after : (darts : List ℕ) (i after : ℕ) → DifferByCount darts → i < length darts → IsAfter (length darts) i after →
    following darts (get_or darts i 0) ≡ get_or darts after 0
following_after darts i after once l at = grind (arith, following_inner, following_last)

-- one dart more is linked
module _ (darts table : List ℕ) (i after : ℕ) (once : DifferByCount darts) (l : i < length darts) (room : All (λ d. rev d < length table) darts)
    (at : IsAfter (length darts) i after) where
  -- one dart more of a list is entered
  pub linked_more : ((k : ℕ) → k < i → get_or table (rev (get_or darts k 0)) 0 ≡ following darts (get_or darts k 0)) →
      (k : ℕ) → k < i + 1 → get_or (set table (rev (get_or darts i 0)) (get_or darts after 0)) (rev (get_or darts k 0)) 0 ≡ following darts
      (get_or darts k 0)
  linked_more h k b = grind (arith, get_or-set_same, following_after, get_or-set_other, rev_apart)

  -- the entries of other darts stay
  pub unlinked_kept : (x : ℕ) → All (λ d. rev d ≢ x) darts →
      get_or (set table (rev (get_or darts i 0)) (get_or darts after 0)) x 0 ≡ get_or table x 0
  unlinked_kept x h = get_or-set_other table (rev (get_or darts i 0)) x (get_or darts after 0) 0 (λ z. h i 0 l (sym z))

-- after the last dart of a list all of its entries are there
pub linked_all : (darts table : List ℕ) → ((k : ℕ) → k < length darts →
    get_or table (rev (get_or darts k 0)) 0 ≡ following darts (get_or darts k 0)) → All (λ d. get_or table (rev d) 0 ≡ following darts d) darts
linked_all darts table h = All-from_get_or (λ d. get_or table (rev d) 0 ≡ following darts d) darts 0 (λ k b. h k b)

module _ (inst : Ising) (good : IsInstance inst) where
  -- the darts of spin i have places in the table
  pub darts_room : (i n : ℕ) → i < inst.n → n ≡ dart_count inst → All (λ d. rev d < n) (darts_of inst i)
  darts_room i n l e = All-from_get_or (λ d. rev d < n) (darts_of inst i) 0
      (λ j b. (let r : rev (get_or (darts_of inst i) j 0) < dart_count inst = rev_below inst (get_or (darts_of inst i) j 0)
      (in_list inst good i j l b).0 in omega arith))

  -- the list of one spin more is entered
  pub has_phi_more : (i : ℕ) (old now : List ℕ) → i < inst.n → length now ≡ length old → HasPhi inst old i →
      All (λ d. get_or now (rev d) 0 ≡ following (darts_of inst i) d) (darts_of inst i) →
      ((x : ℕ) → All (λ d. rev d ≢ x) (darts_of inst i) → get_or now x 0 ≡ get_or old x 0) → HasPhi inst now (i + 1)
  has_phi_more i old now l long h linked kept = record {
    lengths = long ∙ h.lengths;
    entries = entries';
  }
    where
      entries' : (d : ℕ) → d < dart_count inst → tail inst (rev d) < i + 1 → get_or now d 0 ≡ phi inst d
      entries' d b t = elim (cases_eq (tail inst (rev d)) i) [
        | inl e ↦ here d b e (place_at inst good i (rev d) (rev_below inst d b) e)
        | inr ne ↦ kept d (All-from_get_or (λ x. rev x ≢ d) (darts_of inst i) 0 (λ j c. elsewhere d ne j c)) ∙ h.entries d b (omega arith)
      ]
        where
          here : (d : ℕ) → d < dart_count inst → tail inst (rev d) ≡ i →
              ((j : ℕ) × (j < length (darts_of inst i)) × (get_or (darts_of inst i) j 0 ≡ rev d)) → get_or now d 0 ≡ phi inst d
          here d b e (j, c, p) = grind (arith, rev_rev, next_is)

          elsewhere : (d : ℕ) → tail inst (rev d) ≢ i → (j : ℕ) → j < length (darts_of inst i) → rev (get_or (darts_of inst i) j 0) ≢ d
          elsewhere d ne j c z = ne (ap (tail inst) (ap rev (sym z) ∙ rev_rev (get_or (darts_of inst i) j 0)) ∙ (in_list inst good i j l c).1)

  -- with the lists of all spins the table is whole
  pub has_phi_all : (limit : ℕ) (table : List ℕ) → inst.n ≤ limit → HasPhi inst table limit → IsPhiTable inst table
  has_phi_all limit table all h = grind (arith, tail_below, rev_below)
