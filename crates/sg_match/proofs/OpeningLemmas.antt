-- An engine over leaves alone, as it is opened.
use Rattle.std.proofs.Common.{◌≡◌, ℕ, zero, suc, ◌-◌, ◌+◌, ◌*◌, ◌<◌, ◌%◌, false, cond, List, [], ◌∷◌, length, get_or, Option, Some, None, refl, sym, ap, ◌∙◌, subst, inr, arith}
use Rattle.std.proofs.lemmas.Option.{none-some}
use Rattle.std.specs.List.{range_with_len}
use Rattle.std.specs.Option.{option_map_or}
use Rattle.sg_arena.proofs.DualLemmas.{total-between}
use Rattle.sg_arena.proofs.FamilyLemmas.{total-names}
use Rattle.sg_arena.proofs.LeavesFamily.{IsFamily-leaves, IsTop-leaf, leaves-no_child, no_share}
use Rattle.sg_base.proofs.ListLaws.{sum_by-zero}
use Rattle.sg_arena.specs.Changes.{OnlyLeaves}
use Rattle.sg_arena.specs.Family.{Family, IsFamily, Node, leaf_count, node_at, share, total_of}
use Rattle.sg_arena.specs.Slack.{duals_between}
use Rattle.sg_arena.specs.declared.Link.{Link}
use Rattle.sg_match.specs.Engine.{IsEngine}
use Rattle.sg_match.specs.Feasible.{IsFeasible}
use Rattle.sg_slack.specs.Tight.{IsTight}
use Rattle.sg_match.specs.Exposed.{IsExposed}
use Rattle.sg_slack.specs.Metric.{IsMetric, cost}
use Rattle.sg_match.specs.Pairs.{IsPaired, pair_of}
use Rattle.sg_match.specs.Steps.{blossoms_of, has_children, steps_left}
use Rattle.sg_match.specs.declared.Edge.{Edge}
use Rattle.sg_match.specs.declared.TreeEdge.{TreeEdge}
use Rattle.sg_slack.specs.Table.{Table}
use Rattle.sg_base.proofs.SumLaws.{sum_below-zero, sum_by_is_sum_below}

module _ (f : Family) (only : OnlyLeaves f) (first : f.steps ≡ 0) (t : Table) (metric : IsMetric t) (size : leaf_count f ≡ t.size) (pairs : List (Option Edge))
    (room : length pairs ≡ length f.nodes) (free : (n : ℕ) → pair_of pairs n ≡ None) where
  fam : IsFamily f
  fam = IsFamily-leaves f only

  no_total : (l : ℕ) → total_of f l ≡ 0
  no_total l = total-names f l ∙ sum_by-zero (λ n. share l (node_at f n)) (range_with_len 0 (length f.nodes)) (no_share f only l)

  no_duals : (u v : ℕ) → duals_between f u v ≡ 0
  no_duals u v = omega (arith, total-between f u v, no_total u, no_total v)

  feasible : IsFeasible f (cost t)
  feasible = grind (arith, fam, no_duals, leaves-no_child, no_total)

  paired : IsPaired f (IsTight f (cost t)) pairs
  paired = grind (arith, none-some)

  exposed : IsExposed f pairs None f.leaf_nodes
  exposed =
      record {
        tops = λ i low. IsTop-leaf f only i low;
        unpaired = λ i low. free (get_or f.leaf_nodes i 0);
        differ = λ i j low_i low_j same. same_leaf i j low_i low_j same;
        rootless = λ i low e. none-some (get_or f.leaf_nodes i 0) e;
        every = λ n top none. let at = only.named n top.alive in inr at;
        even = subst (λ k. (k + 0) % 2 ≡ 0) (sym size) (subst (λ k. k % 2 ≡ 0) (omega arith) metric.even_size);
      }
    where
      same_leaf : (i j : ℕ) → i < leaf_count f → j < leaf_count f → get_or f.leaf_nodes i 0 ≡ get_or f.leaf_nodes j 0 → i ≡ j
      same_leaf i j low_i low_j same =
          let leaves_at : (l : ℕ) → l < leaf_count f → option_map_or (λ (n : Node). n.leaves) (node_at f (get_or f.leaf_nodes l 0)) [] ≡ l ∷ [] =
          (λ l low. ap (λ o. option_map_or (λ (n : Node). n.leaves) o []) (only.leaves l low)) in
          ap (λ xs. get_or xs 0 0) (sym (leaves_at i low_i) ∙ ap (λ n. option_map_or (λ (x : Node). x.leaves) (node_at f n) []) same ∙ leaves_at j low_j)

  -- no blossom stands
  no_blossoms : blossoms_of f ≡ 0
  no_blossoms =
      sum_by_is_sum_below (λ o. cond (has_children o) 1 0) f.nodes None
      ∙ sum_below-zero (λ i. cond (has_children (node_at f i)) 1 0) (length f.nodes)
      (λ i low. ap (λ b. cond b 1 0) (plain (node_at f i) (λ k. leaves-no_child f only i k)))
    where
      plain : (o : Option Node) → ((k : ℕ) → k < length (option_map_or (λ (n : Node). n.cycle) o []) → ⊥) → has_children o ≡ false
      plain None none = refl
      plain (Some n) none = go n.cycle refl none
        where
          go : (c : List Link) → n.cycle ≡ c → ((k : ℕ) → k < length c → ⊥) → has_children (Some n) ≡ false
          go [] e bare = rw e refl
          go (l ∷ rest) e bare = absurd (bare 0 (omega arith))

  -- the bound on the steps
  pub steps_left-opened : (names : List ℕ) (edges : List TreeEdge) → names ≡ f.leaf_nodes → edges ≡ [] →
      steps_left (record { family = f; table = t; pairs = pairs; exposed = names; root = None; edges = edges }) + t.size ≡ 2 * t.size * t.size
  steps_left-opened names edges named bare = rw (no_blossoms, named, size) (omega (arith, whole t.size))
    where
      whole : (k : ℕ) → (2 * k - 1) * k + k ≡ 2 * k * k
      whole zero = refl
      whole (suc k) = let less : 2 * suc k - 1 ≡ 2 * k + 1 = omega arith in rw less (spread k)
        where
          spread : (k : ℕ) → (2 * k + 1) * suc k + suc k ≡ 2 * suc k * suc k
          spread k = grind arith

  -- the invariant holds
  pub IsEngine-opened : (names : List ℕ) (edges : List TreeEdge) → names ≡ f.leaf_nodes → edges ≡ [] →
      IsEngine (record { family = f; table = t; pairs = pairs; exposed = names; root = None; edges = edges })
  IsEngine-opened names edges named bare = grind (arith, feasible, paired, exposed, steps_left-opened, named)
