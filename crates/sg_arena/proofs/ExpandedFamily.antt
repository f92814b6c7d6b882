-- The family without a blossom of dual 0, as `expand` leaves it: what it keeps and what it gains.
use Rattle.std.proofs.Common.{IsSome, None, [], ap, arith, inl, inr, length, subst, sym, ℕ, ◌<◌, ◌∙◌, ◌≡◌, ◌≢◌, ◌⊎◌, get_or-set_other, get_or-set_same}
use Rattle.std.proofs.lemmas.Bool.{cases_Bool, cases_eq, false≢true}
use Rattle.std.proofs.lemmas.List.Sums.{sum_by-set}
use Rattle.std.specs.Option.{option_map_or}
use Rattle.sg_arena.specs.declared.Link.{Link}
use Rattle.sg_arena.specs.Changes.{with_slot}
use Rattle.sg_arena.specs.Family.{Covers, Family, Holds, IsAlive, IsBlossom, IsFamily, IsTop, blank_link, cycle_of}
use Rattle.sg_arena.specs.Family.{dual_of, has_leaf, holds, link_at, node_at, total_of}
use Rattle.sg_arena.specs.Slack.{duals_between}
use Rattle.sg_arena.proofs.PartFamily.{IsFamily-part, IsPart, IsTop-part}
use Rattle.sg_arena.proofs.FamilyLemmas.{alive_from_holds, child-covered, not_dead, some_leaf, top-apart, top-covers, top-no_child}
use Rattle.sg_base.proofs.ListLaws.{cond-same, place_of_any}

-- a family from which a top of dual 0 is taken, its children left as tops
module _ (f : Family) (b : ℕ) (fam : IsFamily f) (top : IsTop f b) (blossom : IsBlossom f b) (room : b < length f.nodes) where
  abbrev without : Family
  without = with_slot f b None

  gone : node_at without b ≡ None
  gone = get_or-set_same f.nodes b None None room

  at_rest : (n : ℕ) → n ≢ b → node_at without n ≡ node_at f n
  at_rest n differs = get_or-set_other f.nodes b n None None differs

  -- every other node holds what it held
  pub holds_rest : (n leaf : ℕ) → n ≢ b → holds without n leaf ≡ holds f n leaf
  holds_rest n leaf differs = ap (λ o. has_leaf (option_map_or (λ x. x.leaves) o []) leaf) (at_rest n differs)

  not_gone : (n : ℕ) → IsAlive without n → n ≢ b
  not_gone n alive same = not_dead without n alive (ap (node_at without) same ∙ gone)

  -- the sets that are left
  pub IsPart-expand : IsPart f without
  IsPart-expand =
      grind (arith, at_rest, not_gone, alive_from_holds, holds_rest, top-no_child, sum_by-set, fam.leaf_set, f.leaf_nodes, fam.cycles, fam.bounded, f.nodes)

  -- it is a family
  pub IsFamily-expand : IsFamily without
  IsFamily-expand = IsFamily-part fam IsPart-expand

-- tops after an expansion
module _ (f : Family) (b : ℕ) (fam : IsFamily f) (top : IsTop f b) (blossom : IsBlossom f b) (room : b < length f.nodes) where
  abbrev g : Family
  g = with_slot f b None

  -- no top is the blossom
  pub expand-apart : (t : ℕ) → IsAlive g t → t ≢ b
  expand-apart t alive same = not_dead g t alive (ap (λ n. node_at g n) same ∙ get_or-set_same f.nodes b None None room)

  -- another top stays one
  pub IsTop-expand_other : (t : ℕ) → IsTop f t → t ≢ b → IsTop g t
  IsTop-expand_other t old differs =
      IsTop-part fam (IsPart-expand f b fam top blossom room) t
      (subst (λ o. IsSome o) (sym (get_or-set_other f.nodes b t None None differs)) old.alive) old

  -- each child becomes a top, since no set lies between it and the blossom
  pub IsTop-expand_child : (i : ℕ) → i < length (cycle_of f b) → IsTop g (link_at (cycle_of f b) i).node
  IsTop-expand_child i within =
      let n = (link_at (cycle_of f b) i).node in
      let l = (link_at (cycle_of f b) i).from in
      let in_n : Holds f n l = (fam.cycles b blossom).from i within in
      let differs : n ≢ b = top-no_child f fam b b i top within in
      record {
        alive = alive_from_holds g n l (holds_rest f b fam top blossom room n l differs ∙ in_n);
        outermost = λ other covers.
            let away = expand-apart other (alive_from_holds g other l (covers l (holds_rest f b fam top blossom room n l differs ∙ in_n))) in
            let over : Covers f other n = (λ k h. sym (holds_rest f b fam top blossom room other k away) ∙
            covers k (holds_rest f b fam top blossom room n k differs ∙ h)) in
            elim (fam.between b i other within (top-covers f fam b other l top (child-covered f fam b i within l in_n) (over l in_n)) over) [
              | inl same ↦ absurd (away same)
              | inr here ↦ here
            ];
      }

  -- a top after the expansion was one before, or is a child
  pub IsTop-expand_old : (t : ℕ) → IsTop g t → IsTop f t ⊎ ((i : ℕ) × (i < length (cycle_of f b)) × ((link_at (cycle_of f b) i).node ≡ t))
  IsTop-expand_old t is =
      let fam_g = IsFamily-expand f b fam top blossom room in
      let away = expand-apart t is.alive in
      let leaf = some_leaf g fam_g t is.alive in
      let in_t : Holds f t leaf.0 = sym (holds_rest f b fam top blossom room t leaf.0 away) ∙ leaf.1 in
      elim (cases_Bool (holds f b leaf.0)) [
        | inl inside ↦
            let child = place_of_any (λ (link : Link). holds f link.node leaf.0) (cycle_of f b) blank_link (sym (fam.union b leaf.0 blossom) ∙ inside) in
            let n = (link_at (cycle_of f b) child.0).node in
            let kid = IsTop-expand_child child.0 child.1 in
            inr (
              child.0,
              child.1,
              top-apart g fam_g n t leaf.0 kid is (holds_rest f b fam top blossom room n leaf.0 (expand-apart n kid.alive) ∙ child.2) leaf.1,
            )
        | inr outside ↦ inl (record {
          alive = alive_from_holds f t leaf.0 in_t;
          outermost = λ other covers. elim (cases_eq other b) [
            | inl same ↦ absurd (false≢true (sym outside ∙ ap (λ n. holds f n leaf.0) (sym same) ∙ covers leaf.0 in_t))
            | inr differs ↦ is.outermost other
                (λ l h. holds_rest f b fam top blossom room other l differs ∙ covers l (sym (holds_rest f b fam top blossom room t l away) ∙ h))
          ];
        })
      ]

-- a set of dual 0 takes nothing away
module _ (f : Family) (b : ℕ) (flat : dual_of f b ≡ 0) (room : b < length f.nodes) where
  -- each total stays
  pub total-expand : (u : ℕ) → total_of (with_slot f b None) u ≡ total_of f u
  total-expand u = grind (arith, sum_by-set, cond-same, f.nodes)

  -- and so do the duals between two leaves
  pub duals_between-expand : (u v : ℕ) → duals_between (with_slot f b None) u v ≡ duals_between f u v
  duals_between-expand u v = grind (arith, sum_by-set, cond-same, f.nodes)
