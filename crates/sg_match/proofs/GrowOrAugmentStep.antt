-- An engine after a tight pair out of the tree was followed.
use Rattle.std.proofs.Common.{◌≡◌, ℕ, ◌+◌, ◌*◌, ◌-◌, ◌<◌, ◌≤◌, ◌||◌, Bool, false, List, [], ◌∷◌, ◌++◌, length, get_or, Contains, Option, Some, None, refl}
use Rattle.std.proofs.Common.{sym, ap, ◌∙◌, subst, inl, inr, arith}
use Rattle.std.proofs.lemmas.Option.{none-some, same_Some}
use Rattle.std.proofs.lemmas.Bool.{cases_Bool}
use Rattle.std.proofs.lemmas.List.{get_or_default, map-append}
use Rattle.std.proofs.lemmas.List.Elements.{Contains-get_or}
use Rattle.std.proofs.lemmas.List.Folds.{list_any-append}
use Rattle.sg_arena.proofs.FamilyLemmas.{leaf_bound, top-apart}
use Rattle.sg_base.proofs.ListLaws.{place_of_any}
use Rattle.sg_arena.specs.Family.{Family, Holds, IsFamily, IsTop, holds, leaf_count}
use Rattle.sg_match.proofs.BoundStep.{IsBounded-made}
use Rattle.sg_match.proofs.EngineLemmas.{symmetric}
use Rattle.sg_match.proofs.GrowStep.{IsTree-grown}
use Rattle.sg_match.proofs.NameLemmas.{place_of_name}
use Rattle.sg_match.proofs.PairLemmas.{mate_differs}
use Rattle.sg_match.proofs.StepsStep.{rest-one_fewer}
use Rattle.sg_slack.proofs.TightLemmas.{tight-back}
use Rattle.sg_match.proofs.TreeLemmas.{inner_top, length-outers, edge_room, mate_out, outer_top}
use Rattle.sg_match.specs.Augmented.{CanAugment, IsAugmented, HasTwoTops}
use Rattle.sg_match.specs.Engine.{IsEngine}
use Rattle.sg_match.specs.Events.{IsTightOuterFree, IsTightInto}
use Rattle.sg_slack.specs.Tight.{IsTight}
use Rattle.sg_match.specs.Exposed.{IsExposed}
use Rattle.sg_match.specs.Names.{IsTaken}
use Rattle.sg_slack.specs.Metric.{cost}
use Rattle.sg_match.specs.Pairs.{pair_of}
use Rattle.sg_match.specs.State.{State}
use Rattle.sg_match.specs.Steps.{rest_of, steps_left}
use Rattle.sg_match.specs.Tree.{IsOut, IsTree, any_top, tree_edge_at, outers}
use Rattle.sg_match.specs.declared.Edge.{Edge}
use Rattle.sg_match.specs.declared.TreeEdge.{TreeEdge}
use Rattle.sg_slack.specs.Table.{Table}

-- an engine with a step less to go
abbrev pub IsAfter : State → State → Type 0
IsAfter new old = IsEngine new × (steps_left new + 1 ≤ steps_left old)

-- a tree edge for a top and its mate
abbrev grown_edge : (u v top outer : ℕ) → Edge → TreeEdge
grown_edge u v top outer pair = record { inner = top; outer = outer; up = record { from = v; to = u }; pair = pair }

module _ (f : Family) (table : Table) (pairs : List (Option Edge)) (exposed : List ℕ) where
  abbrev pub with_tree : Option ℕ → List TreeEdge → State
  with_tree root edges = record { family = f; table = table; pairs = pairs; exposed = exposed; root = root; edges = edges }

  module _ (root : ℕ) (edges : List TreeEdge) (engine : IsEngine (with_tree (Some root) edges)) where
    fam : IsFamily f
    fam = engine.feasible.family

    tree : IsTree f (cost table) pairs root edges
    tree = engine.tree

    tops : (i : ℕ) → i < length edges → HasTwoTops f (tree_edge_at edges i)
    tops i low =
        let to = (tree.shape.edge i low).up_to in
        record {
          inner = inner_top f root edges tree.shape i low;
          outer = outer_top f root edges tree.shape i low;
          to = leaf_bound f fam (get_or (outers root edges) to.0 0) (tree_edge_at edges i).up.to to.2;
        }

    module _ (u v top : ℕ) (tight_edge : IsTightOuterFree (with_tree (Some root) edges) root u v) (is_top : IsTop f top) (held : Holds f top v) where
      out : IsOut root edges top
      out = tight_edge.out top is_top held

      module _ (pair : Edge) (has_pair : pair_of pairs top ≡ Some pair) where
        pair_low : pair.to < leaf_count f
        pair_low = let m = engine.paired.other top pair is_top has_pair in leaf_bound f fam m.0 pair.to m.3

        module _ (outer : ℕ) (top_outer : IsTop f outer) (pair_to : Holds f outer pair.to) where
          abbrev tree_edge : TreeEdge
          tree_edge = grown_edge u v top outer pair

          abbrev more : List TreeEdge
          more = edges ++ tree_edge ∷ []

          mate : IsOut root edges outer
          mate = grind (arith, mate_out, fam, tree, out, engine.paired)

          abbrev has : ℕ → ℕ → Bool
          has leaf = λ t. holds f t leaf

          now_held : (leaf : ℕ) → any_top f (outers root more) leaf ≡ (any_top f (outers root edges) leaf || any_top f (outer ∷ []) leaf)
          now_held leaf = grind (arith, map-append, list_any-append)

          not_held : any_top f (outers root edges) pair.to ≡ false
          not_held = elim (cases_Bool (any_top f (outers root edges) pair.to)) [
            | inl some ↦
                let at = place_of_any (has pair.to) (outers root edges) 0 some in
                absurd (mate.outer at.0 at.1 (top-apart f fam (get_or (outers root edges) at.0 0) outer pair.to
                (tree.shape.tops.outer_tops at.0 at.1) top_outer at.2 pair_to))
            | inr none ↦ none
          ]

          fewer : rest_of f root more + 1 ≤ rest_of f root edges
          fewer =
              rest-one_fewer f f root root edges more pair.to refl pair_low
              (λ leaf some. now_held leaf ∙ ap (λ b. b || any_top f (outer ∷ []) leaf) some)
              not_held
              (now_held pair.to ∙ ap (λ b. b || any_top f (outer ∷ []) pair.to) not_held ∙ ap (λ b. b || false) pair_to)

          less : steps_left (with_tree (Some root) more) + 1 ≤ steps_left (with_tree (Some root) edges)
          less = grind (arith, fall, fewer)
            where
              fall : (a r s b : ℕ) → s + 1 ≤ r → a + 4 * s + 1 + b + 1 ≤ a + 4 * r + 1 + b
              fall a r s b h = omega arith

          IsEngine-grown : IsEngine (with_tree (Some root) more)
          IsEngine-grown =
              record {
                costs = engine.costs;
                leaves = engine.leaves;
                room = engine.room;
                feasible = engine.feasible;
                paired = engine.paired;
                exposed = engine.exposed;
                tree = IsTree-grown root edges tree_edge f (cost table) pairs tree out mate is_top top_outer
                    (mate_differs f (IsTight f (cost table)) pairs fam engine.paired top outer pair is_top top_outer has_pair pair_to)
                    has_pair (engine.paired.own top pair is_top has_pair) pair_to held tight_edge.outer
                    (tight-back f (cost table) u v (symmetric (with_tree (Some root) edges) engine u v tight_edge.low_u tight_edge.low_v)
                    (omega (arith, tight_edge.slack)));
                left = omega (arith, less, engine.left);
                bounded = IsBounded-made (with_tree (Some root) more) (omega (arith, less, engine.bounded.due));
              }

      module _ (unpaired : pair_of pairs top ≡ None) where
        CanAugment-tight_edge : CanAugment f (cost table) pairs root edges u v
        CanAugment-tight_edge = grind (arith, tree, symmetric, top-apart, fam, engine.paired, tight_edge.outer, tight_edge.out, tight_edge.slack)

        -- the top is one of the unpaired ones
        listed : Contains exposed top
        listed = elim (engine.exposed.every top is_top unpaired) [
          | inl is_root ↦ absurd (out.outer 0 (omega (arith, length-outers root edges)) (same_Some _ _ is_root))
          | inr at ↦ (at.0, at.1, get_or_default exposed at.0 top 0 at.1 ∙ at.2)
        ]

        module _ (now : List (Option Edge)) (rest : List ℕ) (augment_path : IsAugmented f (cost table) pairs now root v)
            (taken : IsTaken exposed rest top) where
          abbrev done : State
          done = record { family = f; table = table; pairs = now; exposed = rest; root = None; edges = [] }

          -- each that is left was there before
          was : (i : ℕ) → i < length rest → (j : ℕ) × (j < length exposed) × (get_or exposed j 0 ≡ get_or rest i 0)
          was i low = place_of_name exposed (get_or rest i 0) (taken.within (get_or rest i 0) (Contains-get_or rest i 0 low))

          top_at : (i : ℕ) → i < length rest → IsTop f (get_or rest i 0)
          top_at i low = let at = was i low in subst (λ n. IsTop f n) at.2 (engine.exposed.tops at.0 at.1)

          away : (i : ℕ) → i < length rest → Holds f (get_or rest i 0) v → ⊥
          away i low holds_v =
              taken.gone engine.exposed.differ
              (subst (λ n. Contains rest n) (top-apart f fam (get_or rest i 0) top v (top_at i low) is_top holds_v held) (Contains-get_or rest i 0 low))

          IsExposed-done : IsExposed f now None rest
          IsExposed-done =
              record {
                tops = top_at;
                unpaired = λ i low.
                    let at = was i low in
                    augment_path.others (get_or rest i 0) (top_at i low)
                    (subst (λ n. pair_of pairs n ≡ None) at.2 (engine.exposed.unpaired at.0 at.1))
                    (λ same. engine.exposed.rootless at.0 at.1 (ap (λ n. Some n) (sym same ∙ sym at.2)))
                    (away i low);
                differ = taken.differ engine.exposed.differ;
                rootless = λ i low same. none-some _ same;
                every = λ t top_t none.
                    let old = augment_path.fewer t none in
                    elim (engine.exposed.every t top_t old.0) [
                      | inl is_root ↦ absurd (old.1 (sym (same_Some _ _ is_root)))
                      | inr at ↦
                          inr (place_of_name rest t (taken.rest t (at.0, at.1, get_or_default exposed at.0 t 0 at.1 ∙ at.2)
                          (λ same. old.2 (top_t, subst (λ n. Holds f n v) (sym same) held))))
                    ];
                even = omega (arith, taken.count listed, engine.exposed.even);
              }

          ended : steps_left done + 1 ≤ steps_left (with_tree (Some root) edges)
          ended = grind (arith, fall, listed, taken.count)
            where
              fall : (k m n r b : ℕ) → m + 1 ≡ n → k * m + b + 1 ≤ k * (n - 1) + 4 * r + 1 + b
              fall k m n r b e = let same : n - 1 ≡ m = omega arith in rw same (omega arith)

          IsEngine-done : IsEngine done
          IsEngine-done =
              record {
                costs = engine.costs;
                leaves = engine.leaves;
                room = augment_path.length ∙ engine.room;
                feasible = engine.feasible;
                paired = augment_path.paired;
                exposed = IsExposed-done;
                tree = refl;
                left = omega (arith, ended, engine.left, taken.count listed);
                bounded = IsBounded-made done (omega (arith, ended, engine.bounded.due));
              }

-- the same of the state that a contract sees
module _ (f : Family) (table : Table) (pairs : List (Option Edge)) (exposed : List ℕ) (o : Option ℕ) (edges : List TreeEdge)
    (engine : IsEngine (with_tree f table pairs exposed o edges)) (s : State) (is : with_tree f table pairs exposed o edges ≡ s) (root u v top : ℕ)
    (into : IsTightInto s root u v top) where
  here : IsTightInto (with_tree f table pairs exposed o edges) root u v top
  here = subst (λ (x : State). IsTightInto x root u v top) (sym is) into

  rooted : IsEngine (with_tree f table pairs exposed (Some root) edges)
  rooted = grind (arith, here.root_is)

  reached : IsTightOuterFree (with_tree f table pairs exposed (Some root) edges) root u v
  reached = grind (arith, here.root_is, here.tight_edge)

  -- the root is a top
  pub root_top : IsTop f root
  root_top = rooted.tree.shape.tops.outer_tops 0 (omega (arith, length-outers root edges))

  -- the two ends of a tree edge are tops
  pub edge_tops : (i : ℕ) → i < length edges → HasTwoTops f (tree_edge_at edges i)
  edge_tops = tops f table pairs exposed root edges rooted

  -- there are fewer tree edges than names
  pub edge_fits : length edges < length f.nodes
  edge_fits = edge_room f root edges rooted.tree.shape

  module _ (pair : Edge) (has_pair : pair_of s.pairs top ≡ Some pair) where
    pair_here : pair_of pairs top ≡ Some pair
    pair_here = subst (λ (x : State). pair_of x.pairs top ≡ Some pair) (sym is) has_pair

    -- the pair leads to a leaf
    pub pair_leaf : pair.to < leaf_count f
    pair_leaf = grind (arith, pair_low, rooted, reached, pair_here, here.is_top, here.held)

    -- the state after the tree has grown is sound
    pub grown : (outer : ℕ) → IsTop f outer → Holds f outer pair.to →
        IsAfter (with_tree f table pairs exposed o (edges ++ grown_edge u v top outer pair ∷ [])) s
    grown outer top_outer pair_to =
        let more = edges ++ grown_edge u v top outer pair ∷ [] in
        let before = with_tree f table pairs exposed in
        subst (λ (x : State). IsAfter (before o more) x) is
        (subst (λ (x : Option ℕ). IsAfter (before x more) (before x edges)) (sym here.root_is) (
          IsEngine-grown f table pairs exposed root edges rooted u v top reached here.is_top here.held pair pair_here outer top_outer pair_to,
          less f table pairs exposed root edges rooted u v top reached here.is_top here.held pair pair_here outer top_outer pair_to,
        ))

  module _ (unpaired : pair_of s.pairs top ≡ None) where
    unpaired_here : pair_of pairs top ≡ None
    unpaired_here = subst (λ (x : State). pair_of x.pairs top ≡ None) (sym is) unpaired

    augmented : (now : List (Option Edge)) (rest : List ℕ) → IsAugmented f (cost table) pairs now root v → IsTaken exposed rest top →
        IsAfter (with_tree f table now rest None []) s
    augmented now rest augment_path taken =
        subst (λ (x : State). IsAfter (with_tree f table now rest None []) x) is
        (subst (λ (x : Option ℕ). IsAfter (with_tree f table now rest None []) (with_tree f table pairs exposed x edges)) (sym here.root_is) (
          IsEngine-done f table pairs exposed root edges rooted u v top reached here.is_top here.held unpaired_here now rest augment_path taken,
          ended f table pairs exposed root edges rooted u v top reached here.is_top here.held unpaired_here now rest augment_path taken,
        ))

    -- over the lists as `augment_path` and `clear` hand them back
    pub IsEngine-augmented : (lent now after : List (Option Edge)) (shown left : List TreeEdge) (rest : List ℕ) → lent ≡ pairs → shown ≡ edges →
        after ≡ now → left ≡ [] → ((c : ℕ → ℕ → ℕ) → CanAugment f c lent root shown u v → IsAugmented f c lent now root v) → IsTaken exposed rest top →
        IsAfter (with_tree f table after rest None left) s
    IsEngine-augmented lent now after shown left rest lent_is shown_is after_is left_is augments taken =
        let can : CanAugment f (cost table) lent root shown u v =
        subst (λ (ps : List (Option Edge)). CanAugment f (cost table) ps root shown u v) (sym lent_is)
        (subst (λ (ls : List TreeEdge). CanAugment f (cost table) pairs root ls u v) (sym shown_is)
        (CanAugment-tight_edge f table pairs exposed root edges rooted u v top reached here.is_top here.held unpaired_here)) in
        subst (λ (ps : List (Option Edge)). IsAfter (with_tree f table ps rest None left) s) (sym after_is)
        (subst (λ (ls : List TreeEdge). IsAfter (with_tree f table now rest None ls) s) (sym left_is)
        (augmented now rest (subst (λ (ps : List (Option Edge)). IsAugmented f (cost table) ps now root v) lent_is (augments (cost table) can)) taken))
