-- What `expand` meets: an inner blossom of a sound state, its ring, and the state after it.
use Rattle.std.proofs.Common.{◌≡◌, ◌⊎◌, ℕ, ◌+◌, ◌*◌, ◌<◌, ◌≤◌, List, [], length, get_or, Contains, MatchOption, Option, Some, None, sym, ap, ◌∙◌, subst, inl, inr, arith}
use Rattle.std.proofs.lemmas.List.{get_or_default}
use Rattle.std.proofs.lemmas.List.Elements.{Contains-get_or}
use Rattle.sg_arena.specs.Changes.{with_slot}
use Rattle.sg_arena.specs.Family.{Family, Holds, IsChildAt, IsChildOf, IsTop, cycle_of, link_at}
use Rattle.sg_arena.specs.declared.Link.{Link}
use Rattle.sg_arena.proofs.FamilyLemmas.{length-with_slot}
use Rattle.sg_base.proofs.ListLaws.{cases_option}
use Rattle.sg_match.proofs.BoundStep.{IsBounded-made}
use Rattle.sg_match.proofs.EngineLemmas.{exposed_of, no_edges, symmetric, tree_of}
use Rattle.sg_match.proofs.NodeLemmas.{length-nodes, node_at_place}
use Rattle.sg_match.proofs.RingLemmas.{IsFacing-from, IsRing, IsRing-rotated}
use Rattle.sg_match.proofs.RotateLemmas.{Differ-cycle, cases_wrapped, link_at-rotated, wrapped}
use Rattle.sg_match.proofs.ExpandStep.{IsFeasible-expand, IsExposed-expanded, IsPaired-expand, expanded_tree, node_bound, ring_room, steps-expand}
use Rattle.sg_match.proofs.TreeLemmas.{inner_at, inner_top, length-inners}
use Rattle.sg_match.specs.InnerZeros.{IsInnerZero}
use Rattle.sg_match.specs.Engine.{IsEngine}
use Rattle.sg_match.specs.ExpandedTree.{expanded_edges}
use Rattle.sg_match.specs.Rings.{IsTurnedRing, IsOdd, IsRingPaired, rotated}
use Rattle.sg_match.specs.Exposed.{IsExposed}
use Rattle.sg_slack.specs.Metric.{cost}
use Rattle.sg_base.specs.Sets.{Differ}
use Rattle.sg_match.specs.Path.{nodes_of}
use Rattle.sg_match.specs.State.{State}
use Rattle.sg_match.specs.Steps.{blossoms_of, steps_left, tree_left}
use Rattle.sg_match.specs.Tree.{IsTree, inners, tree_edge_at}
use Rattle.sg_match.specs.declared.Edge.{Edge}
use Rattle.sg_match.specs.declared.TreeEdge.{TreeEdge}

module _ (s : State) (b : ℕ) (engine : IsEngine s) (inner_zero : IsInnerZero s.family s.edges b) where
  abbrev f : Family
  f = s.family

  abbrev price : ℕ → ℕ → ℕ
  price = cost s.table

  -- a tree stands
  record IsRooted : Type 0 where
    root : ℕ
    is : s.root ≡ Some root
    tree : IsTree f price s.pairs root s.edges
    exposed : IsExposed f s.pairs (Some root) s.exposed

  rooted : IsRooted
  rooted = grind (arith, cases_option s.root, no_edges, tree_of, exposed_of, s.root, inner_zero.within)

  -- the blossom is one of the inner tops
  pub is_inner : Contains (inners s.edges) b
  is_inner =
      let low : inner_zero.place < length (inners s.edges) = omega (arith, inner_zero.within, length-inners s.edges) in
      subst (λ n. Contains (inners s.edges) n) (inner_at s.edges inner_zero.place inner_zero.within ∙ inner_zero.here)
      (Contains-get_or (inners s.edges) inner_zero.place 0 low)

  -- it is a top
  pub blossom_top : IsTop f b
  blossom_top = subst (λ n. IsTop f n) inner_zero.here (inner_top f rooted.root s.edges rooted.tree.shape inner_zero.place inner_zero.within)

  module _ (at : ℕ) (low : at < length s.edges) (here : (tree_edge_at s.edges at).inner ≡ b) where
    pair_in : Holds f b (tree_edge_at s.edges at).pair.from
    pair_in = subst (λ n. Holds f n (tree_edge_at s.edges at).pair.from) here ((rooted.tree.shape.edge at low).pair_from)

    edge_in : Holds f b (tree_edge_at s.edges at).up.from
    edge_in = subst (λ n. Holds f n (tree_edge_at s.edges at).up.from) here (rooted.tree.shape.up_from at low)

  -- the ring from a child on
  module _ (base : ℕ) (child : IsChildOf f b base) (ring : List Link)
      (made : (blossom i : ℕ) → IsChildAt f blossom i base → ring ≡ rotated i (cycle_of f blossom)) where
    -- its cycle, from the base on, is a ring
    pub ring_is : IsRing f price b ring
    ring_is = subst (λ xs. IsRing f price b xs) (sym (made b child.0 child.1))
        (IsRing-rotated f price b child.0 engine.feasible (symmetric s engine) child.1.within)

    ring_first : (link_at ring 0).node ≡ base
    ring_first =
        let start : wrapped (length (cycle_of f b)) child.0 0 ≡ child.0 = elim (cases_wrapped (length (cycle_of f b)) child.0 0) [
          | inl front ↦ omega (arith, front.1)
          | inr past ↦ absurd (omega (arith, past.0, child.1.within))
        ] in
        ap (λ xs. (link_at xs 0).node) (made b child.0 child.1)
        ∙ ap (λ l. l.node) (link_at-rotated child.0 (cycle_of f b) 0 child.1.within (omega (arith, child.1.within)))
        ∙ ap (λ k. (link_at (cycle_of f b) k).node) start
        ∙ child.1.here

    -- the ring has all its children
    pub ring_has : (n : ℕ) → IsChildOf f b n → Contains (nodes_of ring) n
    ring_has n kid =
        let at = ring_is.seat kid.0 kid.1.within in
        subst (λ m. Contains (nodes_of ring) m) (node_at_place ring at.0 at.1 ∙ at.2 ∙ kid.1.here)
        (Contains-get_or (nodes_of ring) at.0 0 (omega (arith, at.1, length-nodes ring)))

  module _ (ring : List Link) (is : IsRing f price b ring) where
    names_differ : Differ (nodes_of ring)
    names_differ = Differ-cycle f ring is.cycle

    names_low : (i : ℕ) → i < length ring → (link_at ring i).node < length s.pairs
    names_low i low = omega (arith, node_bound f price b ring engine.feasible.family blossom_top is i low, engine.room)

    -- the tree has room for the edges of the ring
    pub edges_fit : length s.edges + length ring ≤ length f.nodes
    edges_fit = ring_room f price b ring engine.feasible.family blossom_top is s.pairs rooted.root s.edges rooted.tree

    module _ (at entry : ℕ) (low : at < length s.edges) (here : (tree_edge_at s.edges at).inner ≡ b)
        (base : Holds f (link_at ring 0).node (tree_edge_at s.edges at).pair.from) (within : entry < length ring)
        (at_entry : Holds f (link_at ring entry).node (tree_edge_at s.edges at).up.from) (facing : (entry ≡ 0) ⊎ IsOdd entry)
        (now : List (Option Edge)) (ring_pairs : IsRingPaired s.pairs now ring (tree_edge_at s.edges at).pair) (count : length now ≡ length s.pairs) where
      abbrev g : Family
      g = with_slot f b None

      abbrev grown : List TreeEdge
      grown = expanded_edges s.edges at ring entry

      abbrev after : State
      after = record { family = g; table = s.table; pairs = now; exposed = s.exposed; root = s.root; edges = grown }

      tree : IsTree g price now rooted.root grown
      tree = (expanded_tree f price s.pairs now rooted.root s.edges b at ring engine.feasible rooted.tree low here inner_zero.blossom
          inner_zero.inner_zero is ring_pairs entry base within at_entry facing).tree

      less-expand : steps_left after + 2 ≤ steps_left s
      less-expand =
          subst (λ o. tree_left g s.exposed o grown + 2 * blossoms_of g + 2 ≤ tree_left f s.exposed o s.edges + 2 * blossoms_of f) (sym rooted.is)
          (steps-expand f price s.pairs now rooted.root s.edges b at ring engine.feasible rooted.tree low here inner_zero.blossom inner_zero.inner_zero is
          ring_pairs entry base within at_entry facing s.exposed)

      IsEngine-expand : IsEngine after
      IsEngine-expand =
          record {
            costs = engine.costs;
            leaves = engine.leaves;
            room = omega (arith, count, engine.room, length-with_slot f b None);
            feasible = IsFeasible-expand f price s.pairs now rooted.root s.edges b at ring engine.feasible rooted.tree low here inner_zero.blossom
                inner_zero.inner_zero is ring_pairs;
            paired = IsPaired-expand f price s.pairs now rooted.root s.edges b at ring engine.feasible rooted.tree low here inner_zero.blossom
                inner_zero.inner_zero is ring_pairs engine.paired base;
            exposed = subst (λ o. IsExposed g now o s.exposed) (sym rooted.is)
                (IsExposed-expanded f price s.pairs now rooted.root s.edges b at ring engine.feasible rooted.tree low here inner_zero.blossom
                inner_zero.inner_zero is ring_pairs s.exposed rooted.exposed);
            tree = subst (λ o. MatchOption o (grown ≡ []) (λ r. IsTree g price now r grown)) (sym rooted.is) tree;
            left = omega (arith, less-expand, engine.left);
            bounded = IsBounded-made after (omega (arith, less-expand, engine.bounded.due));
          }

-- the blossom's tree edge is found
pub record IsFound (s : State) (b at : ℕ) (tree_edge : TreeEdge) : Type 0 where
  pub engine : IsEngine s
  pub inner_zero : IsInnerZero s.family s.edges b
  pub low : at < length s.edges
  pub here : (tree_edge_at s.edges at).inner ≡ b
  pub read : tree_edge ≡ tree_edge_at s.edges at

-- what was found of the inner blossom, as one record
pub found : (s t : State) (b at : ℕ) (edges : List TreeEdge) (tree_edge : TreeEdge) → s ≡ t → IsEngine s → IsInnerZero t.family t.edges b →
    edges ≡ s.edges → at < length edges → (tree_edge_at edges at).inner ≡ b → tree_edge ≡ get_or s.edges at tree_edge → IsFound s b at tree_edge
found s t b at edges tree_edge same engine inner_zero lent low here read = grind (arith, get_or_default, s.edges, lent)

module _ {s : State} {b at : ℕ} {tree_edge : TreeEdge} (is : IsFound s b at tree_edge) where
  -- its pair leads from a leaf of it
  pub pair_held : Holds s.family b tree_edge.pair.from
  pair_held = subst (λ (l : TreeEdge). Holds s.family b l.pair.from) (sym is.read) (pair_in s b is.engine is.inner_zero at is.low is.here)

  -- its tree edge leads from a leaf of it
  pub edge_held : Holds s.family b tree_edge.up.from
  edge_held = subst (λ (l : TreeEdge). Holds s.family b l.up.from) (sym is.read) (edge_in s b is.engine is.inner_zero at is.low is.here)

-- the ring is listed, with the entry where the tree can be closed from it
pub record IsCut (s : State) (b at : ℕ) (tree_edge : TreeEdge) (ring : List Link) (entry : ℕ) : Type 0 where
  pub found : IsFound s b at tree_edge
  pub is : IsRing s.family (cost s.table) b ring
  pub base : Holds s.family (link_at ring 0).node (tree_edge_at s.edges at).pair.from
  pub within : entry < length ring
  pub at_entry : Holds s.family (link_at ring entry).node (tree_edge_at s.edges at).up.from
  pub facing : (entry ≡ 0) ⊎ IsOdd entry

-- its ring turned the right way, as one record
pub cut : (s : State) (b at : ℕ) (tree_edge : TreeEdge) (base end : ℕ) (ring lent : List Link) (place : ℕ) (turned_ring : List Link) (entry : ℕ) →
    IsFound s b at tree_edge → IsChildOf s.family b base → Holds s.family base tree_edge.pair.from →
    ((blossom i : ℕ) → IsChildAt s.family blossom i base → ring ≡ rotated i (cycle_of s.family blossom)) → Holds s.family end tree_edge.up.from →
    lent ≡ ring → place < length lent → (link_at lent place).node ≡ end → IsTurnedRing ring place turned_ring entry → (entry ≡ 0) ⊎ IsOdd entry →
    IsCut s b at tree_edge turned_ring entry
cut s b at tree_edge base end ring lent place turned_ring entry is child holds_base made holds_end same low here turned facing =
    let within : place < length ring = subst (λ xs. place < length xs) same low in
    let old = ring_is s b is.engine is.inner_zero base child ring made in
    let now = IsFacing-from s.family (cost s.table) b ring place turned_ring entry old within turned in
    record {
      found = is;
      is = now.is;
      base = subst (λ n. Holds s.family n (tree_edge_at s.edges at).pair.from) (sym (now.first ∙ ring_first s b is.engine is.inner_zero base child ring made))
          (subst (λ (l : TreeEdge). Holds s.family base l.pair.from) is.read holds_base);
      within = now.within;
      at_entry = subst (λ n. Holds s.family n (tree_edge_at s.edges at).up.from) (sym (now.there ∙ subst (λ xs. (link_at xs place).node ≡ end) same here))
          (subst (λ (l : TreeEdge). Holds s.family end l.up.from) is.read holds_end);
      facing = facing;
    }

module _ {s : State} {b at : ℕ} {tree_edge : TreeEdge} {ring : List Link} {entry : ℕ} (is : IsCut s b at tree_edge ring entry) where
  -- the tree has room for the edges of the ring
  pub ring_fits : length s.edges + length ring ≤ length s.family.nodes
  ring_fits = edges_fit s b is.found.engine is.found.inner_zero ring is.is

  -- the nodes of the ring differ
  pub ring_differs : (lent : List Link) → lent ≡ ring → Differ (nodes_of lent)
  ring_differs lent same = subst (λ xs. Differ (nodes_of xs)) (sym same) (names_differ s b is.found.engine is.found.inner_zero ring is.is)

  -- they have names that the pairs have entries for
  pub ring_named : (lent : List Link) (pairs : List (Option Edge)) → lent ≡ ring → pairs ≡ s.pairs → (i : ℕ) → i < length lent →
      (link_at lent i).node < length pairs
  ring_named lent pairs same own = subst (λ ps. (i : ℕ) → i < length lent → (link_at lent i).node < length ps) (sym own)
      (subst (λ xs. (i : ℕ) → i < length xs → (link_at xs i).node < length s.pairs) (sym same) (names_low s b is.found.engine is.found.inner_zero ring is.is))

  abbrev Sound : Family → List (Option Edge) → List TreeEdge → Type 0
  Sound g pairs edges = IsEngine (record s { family = g; pairs = pairs; edges = edges }) ×
      (steps_left (record s { family = g; pairs = pairs; edges = edges }) + 2 ≤ steps_left s)

  -- after the ring was paired and grown into the tree
  pub IsEngine-after : (lent again : List Link) (old now stored : List (Option Edge)) (grown : List TreeEdge) (g : Family) → lent ≡ ring → again ≡ ring →
      old ≡ s.pairs → stored ≡ now → g ≡ with_slot s.family b None → IsRingPaired old now lent tree_edge.pair → length now ≡ length old →
      grown ≡ expanded_edges s.edges at again entry → Sound g stored grown
  IsEngine-after lent again old now stored grown g same same_again own put made ring_pairs count grown_is =
      let ring_pairs_s : IsRingPaired s.pairs now ring (tree_edge_at s.edges at).pair =
      subst (λ (l : TreeEdge). IsRingPaired s.pairs now ring l.pair) is.found.read
      (subst (λ xs. IsRingPaired s.pairs now xs tree_edge.pair) same (subst (λ ps. IsRingPaired ps now lent tree_edge.pair) own ring_pairs)) in
      let count_s : length now ≡ length s.pairs = count ∙ ap (λ ps. length ps) own in
      let engine = IsEngine-expand s b is.found.engine is.found.inner_zero ring is.is at entry is.found.low is.found.here is.base is.within is.at_entry
      is.facing now ring_pairs_s count_s in
      let less = less-expand s b is.found.engine is.found.inner_zero ring is.is at entry is.found.low is.found.here is.base is.within is.at_entry is.facing
      now ring_pairs_s count_s in
      subst (λ h. Sound h stored grown) (sym made) (subst (λ ps. Sound (with_slot s.family b None) ps grown) (sym put)
      (subst (λ ls. Sound (with_slot s.family b None) now ls) (sym (grown_is ∙ ap (λ xs. expanded_edges s.edges at xs entry) same_again)) (engine, less)))
