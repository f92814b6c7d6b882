-- What an answer of the engine says of its pairs.
use Rattle.std.proofs.Common.{◌≡◌, ◌*◌, ◌≤◌, ℕ, List, length, Option, Some, None, IsSome, refl, ap, inl, inr, arith}
use Rattle.std.proofs.lemmas.Bool.{false≢true}
use Rattle.sg_base.proofs.ListLaws.{cases_option}
use Rattle.sg_arena.specs.Family.{Family}
use Rattle.sg_match.proofs.BoundStep.{bound-bare}
use Rattle.sg_match.proofs.EngineLemmas.{no_edges, tree_of}
use Rattle.sg_match.specs.InnerZeros.{IsInnerZero, IsLeastInnerZero}
use Rattle.sg_match.specs.Engine.{IsEngine}
use Rattle.sg_match.specs.Stages.{IsStage}
use Rattle.sg_match.specs.Pairs.{AllPaired, pair_of}
use Rattle.sg_match.specs.State.{State}
use Rattle.sg_match.specs.declared.Edge.{Edge}
use Rattle.sg_match.specs.declared.TreeEdge.{TreeEdge}
use Rattle.sg_match.specs.declared.Stage.{Stage}
use Rattle.sg_match.specs.declared.Stage.TheVariants.{InnerZero, Matched}

no_pair : (o : Option Edge) → o ≡ None → IsSome o → ⊥
no_pair None e some = false≢true some
no_pair (Some p) e some = cc e

-- where the tree has an inner top, its root is unpaired
not_all : (s : State) → IsEngine s → (node : ℕ) → IsInnerZero s.family s.edges node → AllPaired s.family s.pairs → ⊥
not_all s engine node inner_zero all =
    elim (cases_option s.root) [
      | inl none ↦ omega (arith, inner_zero.within, ap (λ xs. length xs) (no_edges s engine none))
      | inr some ↦
          let tree = tree_of s engine some.0 some.1 in
          no_pair (pair_of s.pairs some.0) tree.exposed_root (all some.0 (tree.shape.tops.outer_tops 0 (omega arith)))
    ]

-- where all tops are paired no tree stands, so the bound holds
pub steps-paired : (s : State) → IsEngine s → AllPaired s.family s.pairs → s.family.steps ≤ 2 * s.table.size * s.table.size
steps-paired s engine all =
    elim (cases_option s.root) [
      | inl none ↦ omega (arith, bound-bare s engine none)
      | inr some ↦
          let tree = tree_of s engine some.0 some.1 in
          absurd (no_pair (pair_of s.pairs some.0) tree.exposed_root (all some.0 (tree.shape.tops.outer_tops 0 (omega arith))))
    ]

-- all tops are paired exactly where the answer says so
pub matched : (s : State) (r : Stage) → IsEngine s → IsStage s r → (r ≡ Matched → AllPaired s.family s.pairs) × (AllPaired s.family s.pairs → r ≡ Matched)
matched s Matched engine stage = (λ e. stage, λ all. refl)
matched s (InnerZero node) engine stage = (λ e. absurd (cc e), λ all. absurd (not_all s engine node stage.inner_zero all))

-- the least is one name
pub least-one : (f : Family) (edges : List TreeEdge) (a b : ℕ) → IsLeastInnerZero f edges a → IsLeastInnerZero f edges b → a ≡ b
least-one f edges a b first second = omega (arith, first.least b second.inner_zero, second.least a first.inner_zero)
