-- Each leaf lies in a top.
use Rattle.std.proofs.Common.{ℕ, zero, suc, ◌<◌, length, arith}
use Rattle.std.proofs.lemmas.Bool.{cases_Bool, false≢true}
use Rattle.sg_arena.proofs.FamilyLemmas.{alive_from_holds, leaf-held, name_bound}
use Rattle.sg_arena.specs.Family.{Covers, Family, Holds, IsFamily, IsTop, holds, leaf_count, leaf_node}

module _ (f : Family) (fam : IsFamily f) (l : ℕ) (low : l < leaf_count f) where
  -- of the sets that hold the leaf, one with a name below n covers the others
  widest : (n : ℕ) → (t : ℕ) × Holds f t l × ((m : ℕ) → m < n → Holds f m l → Covers f t m)
  widest zero = (leaf_node f l, leaf-held f fam l low, λ m less in_m. absurd (omega (arith, less)))
  widest (suc n) = grind (arith, widest n, cases_Bool (holds f n l), false≢true, fam.nested)

  -- each leaf lies in a top
  pub top_of : (t : ℕ) × IsTop f t × Holds f t l
  top_of =
      let b = widest (length f.nodes) in (
        b.0,
        record {
          alive = alive_from_holds f b.0 l b.1;
          outermost = λ other covers.
              let in_other = covers l b.1 in
              let alive = alive_from_holds f other l in_other in
              fam.apart other b.0 alive covers (b.2 other (name_bound f other alive) in_other);
        },
        b.1,
      )
