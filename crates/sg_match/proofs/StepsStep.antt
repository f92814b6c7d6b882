-- How the bound on the steps that are left falls.
use Rattle.std.proofs.Common.{◌≡◌, ℕ, ◌+◌, ◌<◌, ◌≤◌, Bool, true, false, not, cond, List, [], ◌∷◌, length, get_or, count_by, Option, Some, None, refl, sym, ap, ◌∙◌, subst, arith, zero-add}
use Rattle.std.specs.List.{range_with_len}
use Rattle.std.proofs.lemmas.Bool.{false≢true}
use Rattle.std.specs.Option.{option_map_or}
use Rattle.std.proofs.lemmas.List.Sums.{sum_by-set}
use Rattle.std.proofs.lemmas.List.FromFn.{get_or-range_with_len, length-range_with_len}
use Rattle.sg_base.proofs.ListLaws.{count_by-mono}
use Rattle.sg_base.proofs.SumLaws.{sum_by-gain}
use Rattle.sg_arena.specs.Changes.{blossom_of, with_slot}
use Rattle.sg_arena.specs.Family.{Family, IsBlossom, Node, leaf_count, node_at}
use Rattle.sg_arena.specs.declared.Link.{Link}
use Rattle.sg_match.specs.Steps.{blossoms_of, has_children, rest_of}
use Rattle.sg_match.specs.Tree.{any_top, outers}
use Rattle.sg_match.specs.declared.TreeEdge.{TreeEdge}

-- a test that one entry fails more counts fewer
pub count_by-one_fewer : (p q : ℕ → Bool) (xs : List ℕ) (k : ℕ) → k < length xs → ((x : ℕ) → p x ≡ true → q x ≡ true) → p (get_or xs k 0) ≡ false →
    q (get_or xs k 0) ≡ true → count_by p xs + 1 ≤ count_by q xs
count_by-one_fewer p q xs k low sub out is =
    sum_by-gain (λ x. cond (p x) 1 0) (λ x. cond (q x) 1 0) 1 xs k 0 low (λ j d l. at_most (p (get_or xs j d)) (q (get_or xs j d)) (sub (get_or xs j d)))
    (rw (out, is) (omega arith))
  where
    at_most : (a b : Bool) → (a ≡ true → b ≡ true) → cond {A = ℕ} a 1 0 ≤ cond b 1 0
    at_most a b sub = grind (arith, false≢true)

-- a shrink makes one blossom more
pub blossoms-shrunk : (f : Family) (b : ℕ) (cycle : List Link) → node_at f b ≡ None → b < length f.nodes → 0 < length cycle →
    blossoms_of (with_slot f b (Some (blossom_of f cycle))) ≡ blossoms_of f + 1
blossoms-shrunk f b cycle dead room some =
    omega (
      arith,
      sum_by-set (λ o. cond (has_children o) 1 0) f.nodes b (Some (blossom_of f cycle)) None room,
      ap (λ o. cond {A = ℕ} (has_children o) 1 0) dead,
      one cycle some,
    )
  where
    one : (c : List Link) → 0 < length c → cond {A = ℕ} (has_children (Some (blossom_of f c))) 1 0 ≡ 1
    one [] less = absurd (omega (arith, less))
    one (l ∷ rest) less = refl

-- an expansion makes one fewer
pub blossoms-expanded : (f : Family) (b : ℕ) → IsBlossom f b → b < length f.nodes → blossoms_of (with_slot f b None) + 1 ≡ blossoms_of f
blossoms-expanded f b blossom room =
    omega (arith, sum_by-set (λ o. cond (has_children o) 1 0) f.nodes b None None room, go (node_at f b) blossom)
  where
    some : (c : List Link) → 0 < length c → (n : Node) → n.cycle ≡ c → cond {A = ℕ} (has_children (Some n)) 1 0 ≡ 1
    some [] less n e = absurd (omega (arith, less))
    some (l ∷ rest) less n e = rw e refl

    go : (o : Option Node) → 0 < length (option_map_or (λ (n : Node). n.cycle) o []) → cond {A = ℕ} (has_children o) 1 0 ≡ 1
    go None less = absurd (omega (arith, less))
    go (Some n) less = some n.cycle less n refl

turn : (a b : Bool) → (a ≡ true → b ≡ true) → not b ≡ true → not a ≡ true
turn a b sub e = grind (arith, false≢true)

-- the leaves that no outer top holds are fewer once more leaves are held, and one is for the first time
pub rest-fewer : (f g : Family) (r s : ℕ) (old new : List TreeEdge) → leaf_count g ≡ leaf_count f →
    ((l : ℕ) → any_top f (outers r old) l ≡ true → any_top g (outers s new) l ≡ true) → rest_of g s new ≤ rest_of f r old
rest-fewer f g r s old new same more =
    subst (λ k. count_by (λ l. not (any_top g (outers s new) l)) (range_with_len 0 k) ≤ rest_of f r old) (sym same)
    (count_by-mono (λ l. not (any_top g (outers s new) l)) (λ l. not (any_top f (outers r old) l))
    (λ l. turn (any_top f (outers r old) l) (any_top g (outers s new) l) (more l)) (range_with_len 0 (leaf_count f)))

-- a leaf that has become outer is one fewer to come
pub rest-one_fewer : (f g : Family) (r s : ℕ) (old new : List TreeEdge) (leaf : ℕ) → leaf_count g ≡ leaf_count f → leaf < leaf_count f →
    ((l : ℕ) → any_top f (outers r old) l ≡ true → any_top g (outers s new) l ≡ true) → any_top f (outers r old) leaf ≡ false →
    any_top g (outers s new) leaf ≡ true → rest_of g s new + 1 ≤ rest_of f r old
rest-one_fewer f g r s old new leaf same low more out held =
    subst (λ k. count_by (λ l. not (any_top g (outers s new) l)) (range_with_len 0 k) + 1 ≤ rest_of f r old) (sym same)
    (count_by-one_fewer (λ l. not (any_top g (outers s new) l)) (λ l. not (any_top f (outers r old) l)) (range_with_len 0 (leaf_count f)) leaf
    (omega (arith, low, length-range_with_len 0 (leaf_count f)))
    (λ l. turn (any_top f (outers r old) l) (any_top g (outers s new) l) (more l))
    (ap (λ l. not (any_top g (outers s new) l)) (get_or-range_with_len 0 (leaf_count f) leaf 0 low ∙ zero-add leaf) ∙ ap not held)
    (ap (λ l. not (any_top f (outers r old) l)) (get_or-range_with_len 0 (leaf_count f) leaf 0 low ∙ zero-add leaf) ∙ ap not out))
