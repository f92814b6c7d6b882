-- What contracts see of an engine.
use Rattle.std.specs.Prelude.{◌≡◌, ℕ, List, Option}
use Rattle.sg_arena.specs.Family.{Family, leaf_count}
use Rattle.sg_slack.specs.Table.{Table}
use Rattle.sg_match.specs.declared.Edge.{Edge}
use Rattle.sg_match.specs.declared.TreeEdge.{TreeEdge}

-- the family, the costs, the pairs, the unpaired tops but for the root, and the tree
pub record State : Type 0 where
  pub family : Family
  pub table : Table
  pub pairs : List (Option Edge)
  pub exposed : List ℕ
  pub root : Option ℕ
  pub edges : List TreeEdge

-- all but the duals is as it was
pub record KeepsTree (old new : State) : Type 0 where
  pub leaves : leaf_count new.family ≡ leaf_count old.family
  pub table : new.table ≡ old.table
  pub pairs : new.pairs ≡ old.pairs
  pub exposed : new.exposed ≡ old.exposed
  pub root : new.root ≡ old.root
  pub edges : new.edges ≡ old.edges
