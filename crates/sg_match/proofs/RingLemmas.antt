-- The children of a blossom as a ring: from one child on, and either way round.
use Rattle.std.proofs.Common.{◌≡◌, ◌≢◌, ◌⊎◌, ℕ, ◌+◌, ◌-◌, ◌<◌, ◌%◌, List, length, refl, sym, ap, ◌∙◌, subst, inl, inr, arith}
use Rattle.std.proofs.lemmas.Bool.{cases_eq, ne_eqb}
use Rattle.sg_arena.proofs.FamilyLemmas.{leaf_bound}
use Rattle.sg_arena.specs.Family.{Family, Holds, IsCycle, after_index, cycle_of, leaf_count, link_at}
use Rattle.sg_arena.specs.declared.Link.{Link}
use Rattle.sg_match.proofs.RotateLemmas.{IsCycle-rotated, cases_after, from_ring, to_ring}
use Rattle.sg_slack.proofs.TightLemmas.{tight-back}
use Rattle.sg_match.specs.Feasible.{IsFeasible}
use Rattle.sg_slack.specs.Tight.{IsTight}
use Rattle.sg_match.specs.Rings.{IsBackwards, IsTurnedRing, rotated}

-- the children of a blossom as a ring of tight links
pub record IsRing (f : Family) (cost : ℕ → ℕ → ℕ) (b : ℕ) (ring : List Link) : Type 0 where
  pub cycle : IsCycle f ring
  pub tight : (i : ℕ) → i < length ring → IsTight f cost (link_at ring i).from (link_at ring i).to
  pub back : (i : ℕ) → i < length ring → IsTight f cost (link_at ring i).to (link_at ring i).from
  pub kid : (i : ℕ) → i < length ring → (j : ℕ) × (j < length (cycle_of f b)) × ((link_at (cycle_of f b) j).node ≡ (link_at ring i).node)
  pub seat : (j : ℕ) → j < length (cycle_of f b) → (i : ℕ) × (i < length ring) × ((link_at ring i).node ≡ (link_at (cycle_of f b) j).node)

-- from one child on
pub IsRing-rotated : (f : Family) (cost : ℕ → ℕ → ℕ) (b i : ℕ) → IsFeasible f cost →
    ((u v : ℕ) → u < leaf_count f → v < leaf_count f → cost u v ≡ cost v u) → i < length (cycle_of f b) → IsRing f cost b (rotated i (cycle_of f b))
IsRing-rotated f cost b i feasible symmetric low =
    record {
      cycle = ring;
      tight = tight;
      back = λ j low_j.
          let l = link_at (rotated i c) j in
          let next = after_index (length (rotated i c)) j in
          tight-back f cost l.from l.to (symmetric l.from l.to (leaf_bound f feasible.family l.node l.from (ring.from j low_j))
          (leaf_bound f feasible.family (link_at (rotated i c) next).node l.to (ring.to j low_j))) (tight j low_j);
      kid = λ j low_j. let x = to_ring i c j low low_j in (x.0, x.1, ap (λ l. l.node) x.2);
      seat = λ k low_k. let x = from_ring i c k low low_k in (x.0, x.1, ap (λ l. l.node) x.2);
    }
  where
    c : List Link
    c = cycle_of f b

    ring : IsCycle f (rotated i c)
    ring = IsCycle-rotated f c i low (feasible.family.cycles b (omega (arith, low)))

    tight : (j : ℕ) → j < length (rotated i c) → IsTight f cost (link_at (rotated i c) j).from (link_at (rotated i c) j).to
    tight j low_j = let x = to_ring i c j low low_j in subst (λ (l : Link). IsTight f cost l.from l.to) x.2 (feasible.links b x.0 x.1)

module _ (ring turned : List Link) (is : IsBackwards ring turned) where
  first_back : 0 < length ring → (link_at turned 0).node ≡ (link_at ring 0).node
  first_back some = is.node 0 some

  later_back : (i : ℕ) → 0 < i → i < length ring → (link_at turned i).node ≡ (link_at ring (length ring - i)).node
  later_back i positive low = let away : i ≢ 0 = omega (arith, positive) in rw (ne_eqb i 0 away) at (is.node i low)

  -- where each node stood
  stood : (i : ℕ) → i < length ring → (k : ℕ) × (k < length ring) × (((i ≡ 0) × (k ≡ 0)) ⊎ ((0 < i) × (k + i ≡ length ring))) ×
      ((link_at turned i).node ≡ (link_at ring k).node)
  stood i low = elim (cases_eq i 0) [
    | inl none ↦ (0, omega (arith, low), inl (none, refl), ap (λ x. (link_at turned x).node) none ∙ first_back (omega (arith, low)))
    | inr some ↦ (length ring - i, omega (arith, low, some), inr (omega (arith, some), omega (arith, low)), later_back i (omega (arith, some)) low)
  ]

  -- the node that follows is the one before which the link stood
  follows : (i : ℕ) → i < length ring → (link_at turned (after_index (length ring) i)).node ≡ (link_at ring (length ring - 1 - i)).node
  follows i low = grind (arith, cases_after (length ring) i, first_back, later_back)

  -- the node of a link stands behind the place where the link stood
  led : (i : ℕ) → i < length ring → (link_at turned i).node ≡ (link_at ring (after_index (length ring) (length ring - 1 - i))).node
  led i low = grind (arith, cases_after (length ring) (length ring - 1 - i), first_back, later_back)

  back_differ : (a b x y : ℕ) → a < length ring → b < length ring → ((a ≡ 0) × (x ≡ 0)) ⊎ ((0 < a) × (x + a ≡ length ring)) → ((b ≡ 0) × (y ≡ 0)) ⊎
      ((0 < b) × (y + b ≡ length ring)) → x ≡ y → a ≡ b
  back_differ a b x y h1 h2 h3 h4 h5 = grind arith

  -- the other way round
  IsRing-back : (f : Family) (cost : ℕ → ℕ → ℕ) (b : ℕ) → IsRing f cost b ring → IsRing f cost b turned
  IsRing-back f cost b old =
      record {
        cycle = record {
          long = omega (arith, old.cycle.long, is.count);
          odd = ap (λ n. n % 2) is.count ∙ old.cycle.odd;
          differ = λ a e low_a low_e same.
              let x = stood a (omega (arith, low_a, is.count)) in
              let y = stood e (omega (arith, low_e, is.count)) in
              back_differ a e x.0 y.0 (omega (arith, low_a, is.count)) (omega (arith, low_e, is.count)) x.2 y.2
              (old.cycle.differ x.0 y.0 x.1 y.1 (sym x.3 ∙ same ∙ y.3));
          from = λ i low.
              let less : i < length ring = omega (arith, low, is.count) in
              subst (λ n. Holds f n (link_at turned i).from) (sym (led i less))
              (subst (λ l. Holds f (link_at ring (after_index (length ring) (length ring - 1 - i))).node l) (sym (is.from i less))
              (old.cycle.to (length ring - 1 - i) (omega (arith, less))));
          to = λ i low.
              let less : i < length ring = omega (arith, low, is.count) in
              subst (λ n. Holds f (link_at turned (after_index n i)).node (link_at turned i).to) (sym is.count)
              (subst (λ n. Holds f n (link_at turned i).to) (sym (follows i less))
              (subst (λ l. Holds f (link_at ring (length ring - 1 - i)).node l) (sym (is.to i less))
              (old.cycle.from (length ring - 1 - i) (omega (arith, less)))));
        };
        tight = λ i low.
            let less : i < length ring = omega (arith, low, is.count) in
            subst (λ u. IsTight f cost u (link_at turned i).to) (sym (is.from i less))
            (subst (λ v. IsTight f cost (link_at ring (length ring - 1 - i)).to v) (sym (is.to i less))
            (old.back (length ring - 1 - i) (omega (arith, less))));
        back = λ i low.
            let less : i < length ring = omega (arith, low, is.count) in
            subst (λ v. IsTight f cost (link_at turned i).to v) (sym (is.from i less))
            (subst (λ u. IsTight f cost u (link_at ring (length ring - 1 - i)).to) (sym (is.to i less))
            (old.tight (length ring - 1 - i) (omega (arith, less))));
        kid = λ i low. let x = stood i (omega (arith, low, is.count)) in let k = old.kid x.0 x.1 in (k.0, k.1, k.2 ∙ sym x.3);
        seat = λ j low.
            let s = old.seat j low in
            elim (cases_eq s.0 0) [
              | inl none ↦ (0, omega (arith, s.1, is.count), first_back (omega (arith, s.1)) ∙ ap (λ x. (link_at ring x).node) (sym none) ∙ s.2)
              | inr some ↦
                  let there : length ring - (length ring - s.0) ≡ s.0 = omega (arith, s.1) in (
                    length ring - s.0,
                    omega (arith, s.1, some, is.count),
                    later_back (length ring - s.0) (omega (arith, s.1)) (omega (arith, s.1, some)) ∙ ap (λ x. (link_at ring x).node) there ∙ s.2,
                  )
            ];
      }

-- either way the first node is the same, and the entry's node stands at the new place
pub record IsFacing (f : Family) (cost : ℕ → ℕ → ℕ) (b : ℕ) (ring : List Link) (entry : ℕ) (turned_ring : List Link) (place : ℕ) : Type 0 where
  pub is : IsRing f cost b turned_ring
  pub within : place < length turned_ring
  pub first : (link_at turned_ring 0).node ≡ (link_at ring 0).node
  pub there : (link_at turned_ring place).node ≡ (link_at ring entry).node

-- a ring turned so that its entry lies on an even way faces the right way
pub IsFacing-from : (f : Family) (cost : ℕ → ℕ → ℕ) (b : ℕ) (ring : List Link) (entry : ℕ) (turned_ring : List Link) (place : ℕ) → IsRing f cost b ring →
    entry < length ring → IsTurnedRing ring entry turned_ring place → IsFacing f cost b ring entry turned_ring place
IsFacing-from f cost b ring entry turned_ring place is low (inl same) =
    record {
      is = subst (λ xs. IsRing f cost b xs) (sym same.0) is;
      within = subst (λ xs. place < length xs) (sym same.0) (omega (arith, same.1, low));
      first = ap (λ xs. (link_at xs 0).node) same.0;
      there = ap (λ xs. (link_at xs place).node) same.0 ∙ ap (λ k. (link_at ring k).node) same.1;
    }
IsFacing-from f cost b ring entry turned_ring place is low (inr turned) =
    let back : length ring - place ≡ entry = omega (arith, turned.1, turned.2, low) in
    record {
      is = IsRing-back ring turned_ring turned.0 f cost b is;
      within = omega (arith, turned.0.count, turned.1, turned.2, low);
      first = first_back ring turned_ring turned.0 (omega (arith, low));
      there = later_back ring turned_ring turned.0 place (omega (arith, turned.2, low)) (omega (arith, turned.1, turned.2, low)) ∙
          ap (λ k. (link_at ring k).node) back;
    }
