-- A tree of one unpaired top.
use Rattle.std.proofs.Common.{◌≡◌, ℕ, zero, suc, ◌+◌, ◌*◌, ◌-◌, ◌<◌, ◌≤◌, ◌%◌, true, false, not, List, [], ◌∷◌, ◌++◌, length, get_or, count_by, Some}
use Rattle.std.proofs.Common.{None, refl, sym, ap, ◌∙◌, subst, inl, inr, arith, zero-add}
use Rattle.std.proofs.lemmas.Option.{none-some, same_Some}
use Rattle.std.specs.List.{range_with_len}
use Rattle.std.proofs.lemmas.Bool.{cases_lt}
use Rattle.std.proofs.lemmas.List.{get_or_append_left, length-append}
use Rattle.std.proofs.lemmas.List.FromFn.{get_or-range_with_len, length-range_with_len}
use Rattle.std.proofs.lemmas.List.Sums.{count_by-le-length}
use Rattle.std.proofs.Math.Seq.{get_or-append_seam}
use Rattle.sg_arena.proofs.FamilyLemmas.{leaf_bound, some_leaf}
use Rattle.sg_arena.specs.Family.{Family, IsTop, leaf_count}
use Rattle.sg_match.proofs.BoundStep.{IsBounded-made, bound-bare}
use Rattle.sg_match.proofs.EngineLemmas.{no_edges}
use Rattle.sg_match.proofs.GrowStep.{IsTree-root}
use Rattle.sg_match.proofs.StepsStep.{count_by-one_fewer}
use Rattle.sg_match.specs.Engine.{IsEngine}
use Rattle.sg_match.specs.Exposed.{IsExposed, root_count}
use Rattle.sg_slack.specs.Metric.{cost}
use Rattle.sg_match.specs.Pairs.{pair_of}
use Rattle.sg_match.specs.State.{State}
use Rattle.sg_match.specs.Steps.{blossoms_of, rest_of, steps_left, tree_left}
use Rattle.sg_match.specs.Tree.{IsTree, any_top, outers}

-- (2 k - 1) (n + 1) covers (2 k - 1) (n - 1), four for each of k - 1 leaves, and one
fall : (k n rest : ℕ) → (n + 1) % 2 ≡ 0 → rest + 1 ≤ k → (2 * k - 1) * (n - 1) + 4 * rest + 1 ≤ (2 * k - 1) * (n + 1)
fall k zero rest even few = absurd (omega (arith, even))
fall k (suc n) rest even few =
    let low : (2 * k - 1) * (suc n - 1) ≡ (2 * k - 1) * n = ap (λ m. (2 * k - 1) * m) (omega arith) in
    omega (arith, spread (2 * k - 1) n, low)
  where
    spread : (a n : ℕ) → a * (suc n + 1) ≡ a * n + 2 * a
    spread a n = grind arith

module _ (s : State) (engine : IsEngine s) (rootless : s.root ≡ None) where
  abbrev f : Family
  f = s.family

  module _ (rest : List ℕ) (root : ℕ) (is : s.exposed ≡ rest ++ root ∷ []) where
    count : length s.exposed ≡ length rest + 1
    count = ap (λ xs. length xs) is ∙ length-append rest (root ∷ [])

    root_at : get_or s.exposed (length rest) 0 ≡ root
    root_at = ap (λ xs. get_or xs (length rest) 0) is ∙ get_or-append_seam rest root [] 0

    rest_at : (i : ℕ) → i < length rest → get_or s.exposed i 0 ≡ get_or rest i 0
    rest_at i low = ap (λ xs. get_or xs i 0) is ∙ get_or_append_left rest (root ∷ []) 0 i low

    root_top : IsTop f root
    root_top = subst (λ n. IsTop f n) root_at (engine.exposed.tops (length rest) (omega (arith, count)))

    root_free : pair_of s.pairs root ≡ None
    root_free = subst (λ n. pair_of s.pairs n ≡ None) root_at (engine.exposed.unpaired (length rest) (omega (arith, count)))

    even : (length rest + 1) % 2 ≡ 0
    even = subst (λ n. n % 2 ≡ 0) (omega (arith, count)) (subst (λ o. (length s.exposed + root_count o) % 2 ≡ 0) rootless engine.exposed.even)

    exposed : IsExposed f s.pairs (Some root) rest
    exposed =
        record {
          tops = λ i low. subst (λ n. IsTop f n) (rest_at i low) (engine.exposed.tops i (omega (arith, count, low)));
          unpaired = λ i low. subst (λ n. pair_of s.pairs n ≡ None) (rest_at i low) (engine.exposed.unpaired i (omega (arith, count, low)));
          differ = λ i j low_i low_j same. engine.exposed.differ i j (omega (arith, count, low_i)) (omega (arith, count, low_j))
              (rest_at i low_i ∙ same ∙ sym (rest_at j low_j));
          rootless = λ i low e.
              let same : i ≡ length rest = engine.exposed.differ i (length rest) (omega (arith, count, low)) (omega (arith, count))
              (rest_at i low ∙ sym (same_Some root (get_or rest i 0) e) ∙ sym root_at) in
              absurd (omega (arith, same, low));
          every = λ n top free. elim (engine.exposed.every n top free) [
            | inl e ↦ absurd (none-some n (sym rootless ∙ e))
            | inr at ↦ elim (cases_lt at.0 (length rest)) [
              | inl low ↦ inr (at.0, low, sym (rest_at at.0 low) ∙ at.2)
              | inr past ↦
                  let here : at.0 ≡ length rest = omega (arith, past, at.1, count) in
                  inl (ap Some (sym root_at ∙ ap (λ i. get_or s.exposed i 0) (sym here) ∙ at.2))
            ]
          ];
          even = even;
        }

    bare : s.edges ≡ []
    bare = no_edges s engine rootless

    few : rest_of f root [] + 1 ≤ leaf_count f
    few =
        let fam = engine.feasible.family in
        let leaf = some_leaf f fam root root_top.alive in
        let low = leaf_bound f fam root leaf.0 leaf.1 in
        let all = range_with_len 0 (leaf_count f) in
        let long : length all ≡ leaf_count f = length-range_with_len 0 (leaf_count f) in
        let out : not (any_top f (outers root []) leaf.0) ≡ false = rw leaf.1 refl in
        let fewer : count_by (λ l. not (any_top f (outers root []) l)) all + 1 ≤ count_by (λ (l : ℕ). true) all =
        count_by-one_fewer (λ l. not (any_top f (outers root []) l)) (λ l. true) all leaf.0 (omega (arith, low, long)) (λ l e. refl)
        (ap (λ l. not (any_top f (outers root []) l)) (get_or-range_with_len 0 (leaf_count f) leaf.0 0 low ∙ zero-add leaf.0) ∙ out) refl in
        omega (arith, fewer, long, count_by-le-length (λ (l : ℕ). true) all)

    abbrev after : State
    after = record { family = f; table = s.table; pairs = s.pairs; exposed = rest; root = Some root; edges = s.edges }

    left : steps_left after ≤ steps_left s
    left =
        let here = subst (λ ls. rest_of f root ls + 1 ≤ leaf_count f) (sym bare) few in
        let fallen = fall (leaf_count f) (length rest) (rest_of f root s.edges) even here in
        let whole : (2 * leaf_count f - 1) * length s.exposed ≡ (2 * leaf_count f - 1) * (length rest + 1) =
        ap (λ n. (2 * leaf_count f - 1) * n) count in
        let was : steps_left s ≡ tree_left f s.exposed None s.edges + 2 * blossoms_of f =
        ap (λ o. tree_left f s.exposed o s.edges + 2 * blossoms_of f) rootless in
        omega (arith, fallen, whole, was)

    -- the tree is begun, and no step is taken
    pub begun : IsEngine (record s { exposed = rest; root = Some root }) × (steps_left (record s { exposed = rest; root = Some root }) ≤ steps_left s)
    begun = (
      record {
        costs = engine.costs;
        leaves = engine.leaves;
        room = engine.room;
        feasible = engine.feasible;
        paired = engine.paired;
        exposed = exposed;
        tree = subst (λ ls. IsTree f (cost s.table) s.pairs root ls) (sym bare) (IsTree-root f (cost s.table) s.pairs root root_top root_free);
        left = omega (arith, left, engine.left, count);
        bounded = IsBounded-made after (omega (arith, left, bound-bare s engine rootless));
      },
      left,
    )
