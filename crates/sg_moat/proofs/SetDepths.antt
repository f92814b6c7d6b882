-- The depths at a set as its leaves lower them one by one, and the cuts of one set more.
use Rattle.std.proofs.Common.{◌≡◌, ℕ, ◌+◌, ◌^◌, ◌<◌, ◌≤◌, min, fold, true, false, cond, List, length, sym, subst, arith, All, length-append}
use Rattle.std.proofs.lemmas.Bool.{cases_lt, false≢true}
use Rattle.std.proofs.lemmas.List.Elements.{All-append, All-from_get_or, All-weaker}
use Rattle.std.proofs.lemmas.List.Sums.{fold-append, sum_by-append}
use Rattle.sg_base.specs.Sets.{chosen_below, holds as has_edge}
use Rattle.sg_base.proofs.Choosing.{chosen_below_no, chosen_below_same, chosen_below_yes}
use Rattle.sg_base.proofs.SumLaws.{sum_below-same}
use Rattle.sg_graph.specs.declared.cut.Cut.{Cut}
use Rattle.sg_graph.specs.Web.{Graph, IsEdge, IsWeb, edge_count}
use Rattle.sg_graph.specs.OddCut.{crosses, odd_cut_weight}
use Rattle.sg_graph.specs.Join.{AreTerminals}
use Rattle.sg_graph.specs.Walk.{IsConnectedWeb}
use Rattle.sg_graph.specs.Table.{IsTableOf, Routes, is_reached}
use Rattle.sg_graph.proofs.TableLaws.{connected_reached, distance_signed, reached_if}
use Rattle.sg_arena.specs.Family.{Family, Holds, IsFamily, dual_of, holds, leaf_count}
use Rattle.sg_arena.proofs.FamilyLemmas.{leaf_bound, share-total, some_leaf}
use Rattle.sg_moat.specs.Depths.{AreDepths, Lowers, ReachesAll, depth_at}
use Rattle.sg_moat.specs.Gathers.{Adds, IsMoatCut, reach_from, set_depth}
use Rattle.sg_moat.specs.Input.{AreTerminalTables, blank_table, table_at}
use Rattle.sg_arena.specs.Sets.{inner_of}
use Rattle.sg_moat.specs.Slices.{IsSlice, Sliced, Slices, is_below_level}
use Rattle.sg_moat.proofs.Packing.{depth_full, dual_alive}
use Rattle.sg_arena.proofs.SetCount.{alive_one}

-- in a connected graph the tables of terminals have a distance for every node
pub tables_full : (g : Graph) (terminals : List ℕ) (tables : List Routes) → IsConnectedWeb g → AreTerminals g terminals →
    AreTerminalTables g terminals tables → All (ReachesAll g.nodes) tables
tables_full g terminals tables connected chosen are = All-from_get_or (ReachesAll g.nodes) tables blank_table (λ i l. full i l)
  where
    full : (i : ℕ) → i < length tables → ReachesAll g.nodes (table_at tables i)
    full i l =
        let low : i < length terminals = omega (arith, are.count) in
        let t : Routes = table_at tables i in
        let is : IsTableOf g t = are.each i blank_table l in
        let source : t.source < g.nodes = subst (λ z. z < g.nodes) (sym (are.sources i low)) (chosen.below i 0 low) in
        let reached : (x : ℕ) → x < g.nodes → is_reached t x ≡ true =
        λ x m. reached_if g t is x m (connected_reached g connected t.source x source m) in
        record { count = is.nodes; reached = reached; whole = λ x m. distance_signed g t is x m (reached x m) }

module _ (f : Family) (tables : List Routes) (s n : ℕ) where
  -- the depth of node x by the leaves below k
  abbrev pub depth_by : ℕ → ℕ → ℕ
  depth_by k x = fold (λ d leaf. min d (reach_from f tables s x leaf)) (dual_of f s) (chosen_below (holds f s) k)

  -- a leaf of the set lowers them
  pub depths-lower : (k inner : ℕ) (old new : List ℕ) → Holds f s k → inner ≡ inner_of f s k → Lowers (table_at tables k) inner n old new →
      AreDepths n (depth_by k) old → AreDepths n (depth_by (k + 1)) new
  depths-lower k inner old new held is low h = grind (arith, chosen_below_yes, fold-append, low.count, h.count, low.lowered, h.each)

  -- another leaf leaves them
  pub depths-skip : (k : ℕ) (depths : List ℕ) → holds f s k ≡ false → AreDepths n (depth_by k) depths → AreDepths n (depth_by (k + 1)) depths
  depths-skip k depths out h = grind (arith, chosen_below_no, h.count, h.each)

  -- after the last leaf they are the depths at the set
  pub depths-end : IsFamily f → (depths : List ℕ) → AreDepths n (depth_by (leaf_count f)) depths → AreDepths n (set_depth f tables s) depths
  depths-end fam depths h = grind (arith, h.count, h.each, fam.in_order)

  -- no depth is beyond the dual
  pub depths_full : (y : ℕ) → y ≡ dual_of f s → (depths : List ℕ) → AreDepths n (set_depth f tables s) depths → All (λ d. d ≤ y) depths
  depths_full y is depths h =
      All-from_get_or (λ d. d ≤ y) depths 0 (λ x l. (let low : x < n = omega (arith, h.count) in omega (arith, h.each x low, depth_full f tables s x)))

-- a dual is within the bound of totals
pub dual_small : (f : Family) → IsFamily f → (s : ℕ) → 0 < dual_of f s → dual_of f s ≤ 2 ^ 61
dual_small f fam s some = grind (arith, some_leaf, dual_alive, share-total, fam, fam.bounded)

-- a set that holds no leaf has no dual
pub no_dual : (f : Family) → IsFamily f → (s : ℕ) → ((leaf : ℕ) → leaf < leaf_count f → holds f s leaf ≡ false) → dual_of f s ≡ 0
no_dual f fam s none = grind (arith, cases_lt 0 (dual_of f s), some_leaf, dual_alive, false≢true, leaf_bound, fam, none)

-- what depths that agree at the nodes give
module _ (g : Graph) (joined : All (IsEdge g.nodes) g.edges) (d c : ℕ → ℕ) (same : (x : ℕ) → x < g.nodes → d x ≡ c x) (y : ℕ) where
  crosses_same : (level e : ℕ) → e < edge_count g → crosses g (is_below_level d level) e ≡ crosses g (is_below_level c level) e
  crosses_same level e l = grind (arith, g.nodes)

  slice_same : (cut : Cut) → IsSlice g d y cut → IsSlice g c y cut
  slice_same cut h = grind (arith, chosen_below_same, crosses_same, h.positive, h.level, h.above, h.up_to, h.is)

  -- depths that agree on the nodes have the same cuts
  Slices-same : (cuts : List Cut) → Slices g d y cuts → Slices g c y cuts
  Slices-same cuts h = grind (arith, slice_same, sum_below-same, h.are, h.total, g.nodes, h.loads, h.few)

module _ (f : Family) (g : Graph) (tables : List Routes) (name : ℕ) where
  -- a set of dual 0 adds no cut
  pub Adds-none : (old : List Cut) → dual_of f name ≡ 0 → Adds f g tables name old old
  Adds-none old none = grind (arith, depth_full)

  -- a set with a dual above 0 adds the cuts of its levels
  pub Adds-slices : IsFamily f → IsWeb g → (depths : List ℕ) → AreDepths g.nodes (set_depth f tables name) depths → (y : ℕ) →
      y ≡ dual_of f name →
      0 < y → (old new : List Cut) → Sliced g (depth_at depths) y old new → Adds f g tables name old new
  Adds-slices fam web depths are y is some old new sliced =
      let s : Sliced g (depth_at depths) (dual_of f name) old new = subst (λ d. Sliced g (depth_at depths) d old new) is sliced in
      let cuts : Slices g (set_depth f tables name) (dual_of f name) s.more =
      Slices-same g web.joined (depth_at depths) (set_depth f tables name) are.each (dual_of f name) s.more s.slices in
      let positive : 0 < dual_of f name = omega arith in
      subst (λ xs. Adds f g tables name old xs) (sym s.is) (record {
        are = λ h. All-append (IsMoatCut f g tables) old s.more h (All-weaker (IsSlice g (set_depth f tables name) (dual_of f name)) (IsMoatCut f g tables)
            (λ c i. record { name = name; positive = positive; slice = i }) s.more cuts.are);
        total = omega (arith, sum_by-append odd_cut_weight old s.more, cuts.total);
        loads = λ e l. omega (arith, sum_by-append (λ c. cond (has_edge c.edges e) (odd_cut_weight c) 0) old s.more, cuts.loads e l);
        few = omega (arith, length-append old s.more, cuts.few, alive_one f fam name (dual_alive f name positive));
      })
