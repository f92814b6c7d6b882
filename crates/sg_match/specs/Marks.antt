-- What the tables of the leaves say.
use Rattle.std.specs.Prelude.{◌≡◌, ℕ, ◌<◌, List, length, slice_index, ℤ, pos, slice_index_or}
use Rattle.sg_arena.specs.Family.{Family, Holds, leaf_count, IsTop, total_of}
use Rattle.sg_slack.specs.declared.Mark.{Mark}
use Rattle.sg_slack.specs.declared.Mark.TheVariants.{Free, Inner, Outer}
use Rattle.sg_match.specs.Tree.{IsOuterLeaf, IsInnerLeaf, IsFreeLeaf}
use Rattle.sg_match.specs.declared.TreeEdge.{TreeEdge}

-- the mark of each leaf gives the place of its top
pub record AreRightMarks (f : Family) (root : ℕ) (edges : List TreeEdge) (marks : List Mark) : Type 0 where
  pub count : length marks ≡ leaf_count f
  pub outer : (leaf : ℕ) → leaf < leaf_count f → slice_index_or marks leaf Free ≡ Outer →
      IsOuterLeaf f root edges leaf
  pub inner : (leaf : ℕ) → leaf < leaf_count f → slice_index_or marks leaf Free ≡ Inner → IsInnerLeaf f edges leaf
  pub free : (leaf : ℕ) → leaf < leaf_count f → slice_index_or marks leaf Free ≡ Free → IsFreeLeaf f root edges leaf

-- each leaf's top and its total
pub record IsListed (f : Family) (tops : List ℕ) (totals : List ℤ) : Type 0 where
  pub top_count : length tops ≡ leaf_count f
  pub total_count : length totals ≡ leaf_count f
  pub top : (leaf : ℕ) → leaf < leaf_count f → IsTop f (slice_index tops leaf)
  pub held : (leaf : ℕ) → leaf < leaf_count f → Holds f (slice_index tops leaf) leaf
  pub total : (leaf : ℕ) → leaf < leaf_count f → slice_index_or totals leaf (pos 0) ≡ pos (total_of f leaf)
