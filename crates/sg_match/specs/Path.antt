-- Paths of links between tops of the tree.
use Rattle.std.specs.Prelude.{◌≡◌, ℕ, ◌<◌, List, length, [], ◌∷◌, map}
use Rattle.sg_arena.specs.Family.{Family, Holds, IsTop, link_at}
use Rattle.sg_arena.specs.declared.Link.{Link}
use Rattle.sg_slack.specs.Tight.{IsTight}
use Rattle.sg_slack.specs.Metric.{cost}

-- from one top to another, each link from a leaf of its node to a leaf of the next node
abbrev pub IsPath : Family → List Link → ℕ → ℕ → Type 0
IsPath f [] head tail = head ≡ tail
IsPath f (l ∷ rest) head tail = (l.node ≡ head) × IsTop f head × Holds f head l.from ×
    ((next : ℕ) × Holds f next l.to × IsPath f rest next tail)

-- the nodes along a path
abbrev pub nodes_of : List Link → List ℕ
nodes_of path = map (λ l. l.node) path

-- each link of a path is tight
abbrev pub AreTight : Family → (ℕ → ℕ → ℕ) → List Link → Type 0
AreTight f cost path = (i : ℕ) → i < length path → IsTight f cost (link_at path i).from (link_at path i).to
