-- What a shrink of a closed cycle makes of the engine's invariant.
use Rattle.std.proofs.Common.{◌≡◌, ◌≢◌, ◌⊎◌, ℕ, zero, suc, ◌+◌, ◌<◌, ◌%◌, List, [], ◌∷◌, length, set, Option, Some, None, refl, sym, ap, ◌∙◌, subst, inl, inr, arith, eq-eqb}
use Rattle.std.proofs.lemmas.Bool.{cases_eq, ne_eqb}
use Rattle.std.proofs.lemmas.List.{get_or-set_other, get_or-set_same}
use Rattle.std.specs.Option.{option_map_or}
use Rattle.sg_arena.proofs.DualLemmas.{between-tops}
use Rattle.sg_arena.proofs.FamilyLemmas.{cases_place, leaf_bound, not_dead, some_leaf, top-apart}
use Rattle.sg_arena.proofs.ShrunkFamily.{IsFamily-shrink, IsTop-shrink, IsTop-shrink_old, IsTop-shrink_other, duals_between-shrink, holds_other, in_new, new_holds, total-shrink}
use Rattle.sg_arena.specs.Changes.{CanShrink, blossom_of, with_slot}
use Rattle.sg_arena.specs.Family.{Family, Holds, IsFamily, IsTop, Node, after_index, cycle_of, leaf_count, link_at, node_at, total_of}
use Rattle.sg_arena.specs.declared.Link.{Link}
use Rattle.sg_match.proofs.NodeLemmas.{length-nodes, node_at_place}
use Rattle.sg_match.specs.Feasible.{IsFeasible}
use Rattle.sg_slack.specs.Tight.{IsTight}
use Rattle.sg_match.specs.Pairs.{IsPaired, flipped, pair_of}
use Rattle.sg_match.specs.Path.{AreTight, IsPath}
use Rattle.sg_match.specs.TreeCycle.{IsTreeCycle}
use Rattle.sg_match.specs.declared.Edge.{Edge}
use Rattle.sg_match.specs.declared.TreeEdge.{TreeEdge}

-- a link of a path
record LinkAt (f : Family) (path : List Link) (tail i : ℕ) : Type 0 where
  pub top : IsTop f (link_at path i).node
  pub from : Holds f (link_at path i).node (link_at path i).from
  pub next : suc i < length path → Holds f (link_at path (suc i)).node (link_at path i).to
  pub last : suc i ≡ length path → Holds f tail (link_at path i).to

path_at : (f : Family) (path : List Link) (head tail i : ℕ) → i < length path → IsPath f path head tail → LinkAt f path tail i
path_at f [] head tail i low p = absurd (omega (arith, low))
path_at f (l ∷ []) head tail zero low p =
    record {
      top = subst (λ n. IsTop f n) (sym p.0) p.1;
      from = subst (λ n. Holds f n l.from) (sym p.0) p.2;
      next = λ less. absurd (omega (arith, less));
      last = λ e. subst (λ n. Holds f n l.to) p.3.2 p.3.1;
    }
path_at f (l ∷ (m ∷ rest)) head tail zero low p =
    record {
      top = subst (λ n. IsTop f n) (sym p.0) p.1;
      from = subst (λ n. Holds f n l.from) (sym p.0) p.2;
      next = λ less. subst (λ n. Holds f n l.to) (sym p.3.2.0) p.3.1;
      last = λ e. absurd (omega (arith, e));
    }
path_at f (l ∷ rest) head tail (suc i) low p =
    let at = path_at f rest p.3.0 tail i (omega (arith, low)) p.3.2 in
    record { top = at.top; from = at.from; next = λ less. at.next (omega (arith, less)); last = λ e. at.last (omega (arith, e)) }

-- a path begins at its head
pub path_head : (f : Family) (path : List Link) (head tail : ℕ) → 0 < length path → IsPath f path head tail → (link_at path 0).node ≡ head
path_head f [] head tail low p = absurd (omega (arith, low))
path_head f (l ∷ rest) head tail low p = p.0

-- a name that is free is no top
pub top-not_dead : (f : Family) (b : ℕ) → node_at f b ≡ None → (t : ℕ) → IsTop f t → t ≢ b
top-not_dead f b dead t top same = not_dead f t top.alive (ap (λ n. node_at f n) same ∙ dead)

-- a closed cycle is a cycle of tops
pub CanShrink-tree_cycle : (f : Family) (root : ℕ) (edges : List TreeEdge) (cycle : List Link) (place base : ℕ) →
    IsTreeCycle f root edges cycle place base base → CanShrink f cycle
CanShrink-tree_cycle f root edges cycle place base is =
    record {
      closed = record {
        long = omega (arith, is.odd, is.some refl);
        odd = is.odd;
        differ = λ i j low_i low_j same. is.differ i j (omega (arith, low_i, length-nodes cycle)) (omega (arith, low_j, length-nodes cycle))
            (node_at_place cycle i low_i ∙ same ∙ sym (node_at_place cycle j low_j));
        from = λ i low. (path_at f cycle base base i low is.path).from;
        to = λ i low. elim (cases_eq (i + 1) (length cycle)) [
          | inl last ↦ subst (λ k. Holds f (link_at cycle k).node (link_at cycle i).to) (sym (at_last i last))
              (subst (λ n. Holds f n (link_at cycle i).to) (sym (path_head f cycle base base (omega (arith, low)) is.path))
              ((path_at f cycle base base i low is.path).last (omega (arith, last))))
          | inr more ↦ subst (λ k. Holds f (link_at cycle k).node (link_at cycle i).to) (sym (at_more i more))
              ((path_at f cycle base base i low is.path).next (omega (arith, low, more)))
        ];
      };
      tops = λ i low. (path_at f cycle base base i low is.path).top;
    }
  where
    at_last : (i : ℕ) → i + 1 ≡ length cycle → after_index (length cycle) i ≡ 0
    at_last i e = rw (eq-eqb (i + 1) (length cycle) e) refl

    at_more : (i : ℕ) → i + 1 ≢ length cycle → after_index (length cycle) i ≡ suc i
    at_more i e = rw (ne_eqb (i + 1) (length cycle) e) (omega arith)

module _ (f : Family) (cost : ℕ → ℕ → ℕ) (b : ℕ) (cycle : List Link) (feasible : IsFeasible f cost) (can : CanShrink f cycle) (dead : node_at f b ≡ None)
    (room : b < length f.nodes) (tight : AreTight f cost cycle) (even : (u v : ℕ) → u < leaf_count f → v < leaf_count f → cost u v % 2 ≡ 0) where
  abbrev fam : IsFamily f
  fam = feasible.family

  abbrev g : Family
  g = with_slot f b (Some (blossom_of f cycle))

  -- along the cycle the totals have one parity
  chain : (i : ℕ) → i < length cycle → (u v : ℕ) → Holds f (link_at cycle 0).node u → Holds f (link_at cycle i).node v → total_of f u % 2 ≡ total_of f v % 2
  chain zero low u v in_u in_v = feasible.parity (link_at cycle 0).node u v (can.tops 0 low) in_u in_v
  chain (suc i) low u v in_u in_v =
      let before : i < length cycle = omega (arith, low) in
      let e : after_index (length cycle) i ≡ suc i = rw (ne_eqb (i + 1) (length cycle) (omega (arith, low))) (omega arith) in
      let l = link_at cycle i in
      let next : Holds f (link_at cycle (suc i)).node l.to = subst (λ k. Holds f (link_at cycle k).node l.to) e (can.closed.to i before) in
      let from = can.closed.from i before in
      let apart : l.node ≢ (link_at cycle (suc i)).node = λ same. absurd (omega (arith, can.closed.differ i (suc i) before low same)) in
      omega (
        arith,
        chain i before u l.from in_u from,
        feasible.parity (link_at cycle (suc i)).node l.to v (can.tops (suc i) low) next in_v,
        between-tops f fam l.node (link_at cycle (suc i)).node l.from l.to (can.tops i before) (can.tops (suc i) low) apart from next,
        tight i before,
        even l.from l.to (leaf_bound f fam l.node l.from from) (leaf_bound f fam (link_at cycle (suc i)).node l.to next),
      )

  -- parts 1, 2 and 5
  pub IsFeasible-shrunk : IsFeasible g cost
  IsFeasible-shrunk =
      record {
        family = IsFamily-shrink f b cycle fam can dead room;
        slack = λ u v low_u low_v. omega (arith, duals_between-shrink f b cycle fam can dead room u v, feasible.slack u v low_u low_v);
        links = λ name i. link_tight name (cases_eq name b) i;
        parity = λ t u v top in_u in_v. elim (cases_eq t b) [
          | inl same ↦
              let a = in_new f b cycle fam can dead room u (subst (λ n. Holds g n u) same in_u) in
              let c = in_new f b cycle fam can dead room v (subst (λ n. Holds g n v) same in_v) in
              let first = some_leaf f fam (link_at cycle 0).node (can.tops 0 (omega (arith, can.closed.long))).alive in
              omega (
                arith,
                chain a.0 a.1 first.0 u first.1 a.2,
                chain c.0 c.1 first.0 v first.1 c.2,
                total-shrink f b cycle fam can dead room u,
                total-shrink f b cycle fam can dead room v,
              )
          | inr away ↦
              let old = IsTop-shrink_old f b cycle fam can dead room t top away in
              omega (
                arith,
                feasible.parity t u v old.0 (sym (holds_other f b cycle fam can dead room t u away) ∙ in_u)
                    (sym (holds_other f b cycle fam can dead room t v away) ∙ in_v),
                total-shrink f b cycle fam can dead room u,
                total-shrink f b cycle fam can dead room v,
              )
        ];
      }
    where
      link_tight : (name : ℕ) → (name ≡ b) ⊎ (name ≢ b) → (i : ℕ) → i < length (cycle_of g name) →
          IsTight g cost (link_at (cycle_of g name) i).from (link_at (cycle_of g name) i).to
      link_tight name (inl same) i low =
          let e : cycle_of g name ≡ cycle = ap (λ o. option_map_or (λ (n : Node). n.cycle) o [])
          (ap (λ n. node_at g n) same ∙ get_or-set_same f.nodes b (Some (blossom_of f cycle)) None room) in
          subst (λ c. IsTight g cost (link_at c i).from (link_at c i).to) (sym e)
          (duals_between-shrink f b cycle fam can dead room (link_at cycle i).from (link_at cycle i).to ∙ tight i (subst (λ c. i < length c) e low))
      link_tight name (inr away) i low =
          let e : cycle_of g name ≡ cycle_of f name = ap (λ o. option_map_or (λ (n : Node). n.cycle) o [])
          (get_or-set_other f.nodes b name (Some (blossom_of f cycle)) None away) in
          subst (λ c. IsTight g cost (link_at c i).from (link_at c i).to) (sym e)
          (duals_between-shrink f b cycle fam can dead room (link_at (cycle_of f name) i).from (link_at (cycle_of f name) i).to ∙
          feasible.links name i (subst (λ c. i < length c) e low))

  -- the base's pair becomes the blossom's, and the others of the cycle are paired in it
  module _ (pairs : List (Option Edge)) (paired : IsPaired f (IsTight f cost) pairs) (base : ℕ) (place : ℕ) (at : place < length cycle)
      (is_base : (link_at cycle place).node ≡ base) (names : b < length pairs)
      (closed : (i : ℕ) (p : Edge) → i < length cycle → (link_at cycle i).node ≢ base → pair_of pairs (link_at cycle i).node ≡ Some p →
      (j : ℕ) × (j < length cycle) × Holds f (link_at cycle j).node p.to)
      (open_base : (j : ℕ) (p : Edge) → j < length cycle → pair_of pairs base ≡ Some p → Holds f (link_at cycle j).node p.to → ⊥) where
    abbrev now : List (Option Edge)
    now = set pairs b (pair_of pairs base)

    now_new : pair_of now b ≡ pair_of pairs base
    now_new = get_or-set_same pairs b (pair_of pairs base) None names

    now_other : (n : ℕ) → n ≢ b → pair_of now n ≡ pair_of pairs n
    now_other n away = get_or-set_other pairs b n (pair_of pairs base) None away

    base_top : IsTop f base
    base_top = subst (λ n. IsTop f n) is_base (can.tops place at)

    -- the pairs after the shrink are pairs of tops
    pub IsPaired-shrunk : IsPaired g (IsTight g cost) now
    IsPaired-shrunk =
        record {
          own = λ t p top is. elim (cases_eq t b) [
            | inl same ↦ subst (λ n. Holds g n p.from) (sym same)
                (new_holds f b cycle fam can dead room place p.from at
                (subst (λ n. Holds f n p.from) (sym is_base) (paired.own base p base_top (sym now_new ∙ ap (λ n. pair_of now n) (sym same) ∙ is))))
            | inr away ↦ holds_other f b cycle fam can dead room t p.from away ∙ paired.own t p (IsTop-shrink_old f b cycle fam can dead room t top away).0
                (sym (now_other t away) ∙ is)
          ];
          other = λ t p top is. elim (cases_eq t b) [
            | inl same ↦
                let was : pair_of pairs base ≡ Some p = sym now_new ∙ ap (λ n. pair_of now n) (sym same) ∙ is in
                let m = paired.other base p base_top was in
                let away = top-not_dead f b dead m.0 m.1 in (
                  m.0,
                  IsTop-shrink_other f b cycle fam can dead room m.0 m.1 (λ i low e. open_base i p low was (subst (λ n. Holds f n p.to) (sym e) m.3)),
                  (λ e. away (e ∙ same)),
                  holds_other f b cycle fam can dead room m.0 p.to away ∙ m.3,
                  now_other m.0 away ∙ m.4,
                )
            | inr away ↦
                let old = IsTop-shrink_old f b cycle fam can dead room t top away in
                let was : pair_of pairs t ≡ Some p = sym (now_other t away) ∙ is in
                let m = paired.other t p old.0 was in
                elim (cases_place cycle m.0) [
                  | inl hit ↦ elim (cases_eq (link_at cycle hit.0).node base) [
                    | inl e ↦ (
                      b,
                      IsTop-shrink f b cycle fam can dead room,
                      (λ same. away (sym same)),
                      new_holds f b cycle fam can dead room hit.0 p.to hit.1 (subst (λ n. Holds f n p.to) (sym hit.2) m.3),
                      now_new ∙ ap (λ n. pair_of pairs n) (sym e ∙ hit.2) ∙ m.4,
                    )
                    | inr e ↦
                        let back = closed hit.0 (flipped p) hit.1 e (ap (λ n. pair_of pairs n) hit.2 ∙ m.4) in
                        absurd (old.1 back.0 back.1 (top-apart f fam (link_at cycle back.0).node t p.from (can.tops back.0 back.1) old.0 back.2
                        (paired.own t p old.0 was)))
                  ]
                  | inr miss ↦
                      let fresh = top-not_dead f b dead m.0 m.1 in (
                        m.0,
                        IsTop-shrink_other f b cycle fam can dead room m.0 m.1 miss,
                        m.2,
                        holds_other f b cycle fam can dead room m.0 p.to fresh ∙ m.3,
                        now_other m.0 fresh ∙ m.4,
                      )
                ]
          ];
          tight = λ t p top is. duals_between-shrink f b cycle fam can dead room p.from p.to ∙ elim (cases_eq t b) [
            | inl same ↦ paired.tight base p base_top (sym now_new ∙ ap (λ n. pair_of now n) (sym same) ∙ is)
            | inr away ↦ paired.tight t p (IsTop-shrink_old f b cycle fam can dead room t top away).0 (sym (now_other t away) ∙ is)
          ];
        }
