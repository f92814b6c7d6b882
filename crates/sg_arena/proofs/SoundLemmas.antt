-- What sound cells say of their family, and what a change has to show of each cell.
use Rattle.std.proofs.Common.{IsSome, List, None, Option, Some, [], ap, arith, count_by, is_some, length, refl, subst, suc, sym, ℕ}
use Rattle.std.proofs.Common.{◌<◌, ◌^◌, ◌∷◌, ◌≡◌, ◌≤◌, cond, get_or, ◌⊎◌}
use Rattle.std.proofs.lemmas.List.{get_or_read}
use Rattle.std.proofs.lemmas.List.Sums.{sum_by-cons}
use Rattle.slab.specs.Slab.{HasRoomFor, Slab, get, slab_len}
use Rattle.sg_base.proofs.ListLaws.{cases_option, some≢none}
use Rattle.sg_base.proofs.SumLaws.{sum_by_is_sum_below}
use Rattle.sg_base.specs.Sums.{sum_below}
use Rattle.sg_arena.specs.declared.cells.Cell.{Cell}
use Rattle.sg_arena.specs.Sets.{alive_at}
use Rattle.sg_arena.specs.declared.cells.Kind.TheVariants.{Blossom, Leaf}
use Rattle.sg_arena.specs.Family.{Family, IsAlive, IsBlossom, IsChildAt, IsFamily, link_at, Holds, Node, cycle_of, dual_of, leaf_count, leaf_node}
use Rattle.sg_arena.specs.Sound.{IsKindOf, IsSound, Sits, StandsFor}
use Rattle.sg_arena.proofs.FamilyLemmas.{alive_from_holds, leaf-held, share-total, some_leaf}
use Rattle.sg_arena.proofs.SetCount.{one_parent, sets_few}

-- who sits at a place of a blossom's cycle is a child of it
pub sits-child : (f : Family) (p i n : ℕ) (c : Cell) → Sits (cycle_of f p) i n c → IsChildAt f p i n
sits-child f p i n c sits = record { within = sits.within; here = sits.here }

-- a child is alive
pub child-alive : (f : Family) → IsFamily f → (p i n : ℕ) → IsChildAt f p i n → IsAlive f n
child-alive f fam p i n child = grind (arith, alive_from_holds, child.here, fam.cycles, child.within)

module _ {X Y : Type 0} where
  -- a list with something in each place in which another has it has no less
  count_some : (xs : List (Option X)) (ys : List (Option Y)) → ((i : ℕ) → IsSome (get_or xs i None) → IsSome (get_or ys i None)) →
      count_by is_some xs ≤ count_by is_some ys
  count_some [] ys at = omega arith
  count_some (None ∷ xs) [] at = count_some xs [] (λ i s. at (suc i) s)
  count_some (Some x ∷ xs) [] at = absurd (some≢none {X = Y} None (at 0 refl) refl)
  count_some (None ∷ xs) (y ∷ ys) at =
      omega (arith, count_some xs ys (λ i s. at (suc i) s), sum_by-cons (λ (o : Option Y). cond {A = ℕ} (is_some o) 1 0) y ys)
  count_some (Some x ∷ xs) (y ∷ ys) at =
      omega (
        arith,
        count_some xs ys (λ i s. at (suc i) s),
        sum_by-cons (λ (o : Option X). cond {A = ℕ} (is_some o) 1 0) (Some x) xs,
        sum_by-cons (λ (o : Option Y). cond {A = ℕ} (is_some o) 1 0) y ys,
        ap (λ b. cond {A = ℕ} b 1 0) (at 0 refl),
      )

module _ {cells : Slab Cell} {keys : List ℕ} {f : Family} (sound : IsSound cells keys f) where
  -- an alive node's cell
  pub cell_at : (n : ℕ) → IsAlive f n → (c : Cell) × (get cells n ≡ Some c)
  cell_at n alive = grind (arith, cases_option (get cells n), some≢none, sound.has)

  -- what is read for a leaf is its node
  pub leaf_read : (leaf name : ℕ) → leaf < leaf_count f → name ≡ get_or keys leaf name → name ≡ leaf_node f leaf
  leaf_read leaf name low is = grind (arith, get_or_read, sound.keys_are, is)

  -- which holds it
  pub read_holds : (leaf name : ℕ) → leaf < leaf_count f → name ≡ get_or keys leaf name → Holds f name leaf
  read_holds leaf name low is = subst (λ n. Holds f n leaf) (sym (leaf_read leaf name low is)) (leaf-held f sound.family leaf low)

  -- a child's cell knows its place
  pub child-sits : (p i n : ℕ) (c : Cell) → IsChildAt f p i n → get cells n ≡ Some c → Sits (cycle_of f p) i n c
  child-sits p i n c child at =
      grind (arith, cases_option c.parent, one_parent, sound.stands, c.parent, sound.family, child.within, child.here, sound.family.cycles)

  -- the cell of a blossom knows its first child and how many there are
  pub first_at : (n : ℕ) (c : Cell) → get cells n ≡ Some c → (first count : ℕ) → c.kind ≡ Blossom first count →
      (0 < count) × (length (cycle_of f n) ≡ count) × ((link_at (cycle_of f n) 0).node ≡ first)
  first_at n c at first count is = subst (λ k. IsKindOf (cycle_of f n) k) is (sound.stands n c at).kind

  -- and no other cell is a blossom's
  pub no_blossom : (n : ℕ) (c : Cell) → get cells n ≡ Some c → IsBlossom f n →
      ((first count : ℕ) → c.kind ≡ Blossom first count → ⊥) → ⊥
  no_blossom n c at some never = grind (arith, c.kind, never, sound.stands)

  -- a node without a cycle is a leaf's
  pub leaf_kind : (n : ℕ) (c : Cell) → get cells n ≡ Some c → cycle_of f n ≡ [] → c.kind ≡ Leaf
  leaf_kind n c at plain = grind (arith, c.kind, sound.stands)

  -- no dual passes the bound of totals
  pub dual-most : (n : ℕ) (c : Cell) → get cells n ≡ Some c → c.dual ≤ 2 ^ 61
  dual-most n c at = grind (arith, some_leaf, share-total, sound.stands, sound.family, sound.family.bounded)

  -- there is room for a node more
  pub room_for_one : 1 ≤ leaf_count f → HasRoomFor cells 1
  room_for_one some =
      let few : slab_len cells ≤ count_by is_some f.nodes = count_some cells.slots f.nodes (λ n s. alive n (cases_option (get cells n)) s) in
      let counted : count_by is_some f.nodes ≡ sum_below (alive_at f) (length f.nodes) =
      sum_by_is_sum_below (λ (o : Option Node). cond {A = ℕ} (is_some o) 1 0) f.nodes None in
      omega (arith, few, counted, sets_few f sound.family, sound.room, sound.capacity)
    where
      alive : (n : ℕ) → (get cells n ≡ None) ⊎ ((c : Cell) × (get cells n ≡ Some c)) → IsSome (get cells n) → IsAlive f n
      alive n h1 h2 = grind (arith, some≢none)

-- a cell stands for a node in a second family, with another dual, if the node's cycle is the same there and its blossom's too
pub stands-kept : (f g : Family) (n d : ℕ) (c : Cell) → StandsFor f n c → IsAlive g n → d ≡ dual_of g n → cycle_of g n ≡ cycle_of f n →
    ((p : ℕ) → c.parent ≡ Some p → cycle_of g p ≡ cycle_of f p) →
    ((p i : ℕ) → c.parent ≡ None → IsChildAt g p i n → IsChildAt f p i n) →
    StandsFor g n (record c { dual = d })
stands-kept f g n d c stands alive dual same above below = grind (arith, c.kind, stands.kind, stands.child, above, stands.top, below)
