-- Up from a leaf's own node through the sets that hold it, until a name is found or a top is reached.
use Rattle.std.proofs.Common.{◌≡◌, ◌≢◌, ℕ, ◌+◌, ◌-◌, ◌^◌, ◌<◌, ◌≤◌, false, length, get_or, sym, subst, inl, inr, arith}
use Rattle.std.proofs.lemmas.Bool.{cases_eq, false_from_ne_true}
use Rattle.sg_arena.specs.Family.{Family, leaf_count, leaves_of, dual_of, holds, Holds, Covers, IsTop, IsChildAt, IsFamily}
use Rattle.sg_arena.proofs.FamilyLemmas.{alive_from_holds, child-covered, leaf-held}
use Rattle.sg_arena.specs.Sets.{inner_of}
use Rattle.sg_arena.proofs.Chains.{child-less, own-covered, size-most}
use Rattle.sg_arena.proofs.InnerDuals.{inner_step, inner_total, next_down, no_inner}

module _ (f : Family) where
  -- the node reached holds the leaf, and the named set, if it does, is not below it
  pub record Climbing (name leaf at inner : ℕ) : Type 0 where
    pub held : Holds f at leaf
    pub sum : inner ≡ inner_of f at leaf
    pub above : Holds f name leaf → Covers f name at

  module _ (fam : IsFamily f) where
    -- the way begins at the leaf's own node, with no duals inside
    pub Climbing-start : (name leaf : ℕ) → leaf < leaf_count f → Climbing name leaf (get_or f.leaf_nodes leaf 0) 0
    Climbing-start name leaf low = grind (arith, leaf-held, no_inner, own-covered, low)

    -- from a set to the blossom that it is a child of
    module _ (leaf at p i : ℕ) (held : Holds f at leaf) (child : IsChildAt f p i at) where
      over : Covers f p at
      over = subst (λ n. Covers f p n) child.here (child-covered f fam p i child.within)

      -- one step up, from a set that is not the named one
      pub Climbing-step : (name inner : ℕ) → at ≢ name → Climbing name leaf at inner → Climbing name leaf p (inner + dual_of f at)
      Climbing-step name inner ne h = record {
        held = over leaf held;
        sum = omega (arith, h.sum, inner_step f fam leaf at p i held child);
        above = λ k. elim (fam.nested name p leaf k (over leaf held)) [
          | inl covers ↦ covers
          | inr under ↦ elim (cases_eq name p) [
            | inl e ↦ subst (λ n. Covers f n p) (sym e) (λ l q. q)
            | inr apart ↦
                let down = next_down f fam leaf at p i held child name k under apart in
                absurd (ne (fam.apart at name (alive_from_holds f at leaf held) down (h.above k)))
          ]
        ];
      }

      -- each set on the way up has more leaves than the one before
      pub room_falls : leaf_count f - length (leaves_of f p) < leaf_count f - length (leaves_of f at)
      room_falls = omega (arith, child-less f fam p i at child, size-most f fam p)

    -- the duals on the way up stay within the bound of totals
    pub Climbing-bound : (name leaf at inner : ℕ) → Climbing name leaf at inner → inner + dual_of f at ≤ 2 ^ 61
    Climbing-bound name leaf at inner h = omega (arith, h.sum, inner_total f at leaf h.held, fam.bounded leaf)

    -- a top that is another set is not in the named one, which therefore does not hold the leaf
    pub Climbing-top : (name leaf at inner : ℕ) → at ≢ name → IsTop f at → Climbing name leaf at inner → holds f name leaf ≡ false
    Climbing-top name leaf at inner ne top h = false_from_ne_true (holds f name leaf) (λ k. ne (sym (top.outermost name (h.above k))))
