-- The nodes of a list of links, by place.
use Rattle.std.proofs.Common.{◌≡◌, ℕ, ◌<◌, List, length, get_or, Contains, sym, ◌∙◌, subst, arith}
use Rattle.std.proofs.lemmas.List.{get_or-map, get_or_default}
use Rattle.std.proofs.lemmas.List.Elements.{Contains-get_or}
use Rattle.std.proofs.Math.ListN.{length-map}
use Rattle.sg_arena.specs.Family.{blank_link, link_at}
use Rattle.sg_arena.specs.declared.Link.{Link}
use Rattle.sg_match.specs.Path.{nodes_of}

-- the node at a place is that of the link there
pub node_at_place : (cycle : List Link) (i : ℕ) → i < length cycle → get_or (nodes_of cycle) i 0 ≡ (link_at cycle i).node
node_at_place cycle i low = get_or-map (λ (l : Link). l.node) cycle i blank_link 0 low

-- there are as many nodes as links
pub length-nodes : (cycle : List Link) → length (nodes_of cycle) ≡ length cycle
length-nodes cycle = length-map cycle (λ (l : Link). l.node)

-- the node of a link is one of the nodes
pub node_in : (cycle : List Link) (i : ℕ) → i < length cycle → Contains (nodes_of cycle) (link_at cycle i).node
node_in cycle i low = subst (λ n. Contains (nodes_of cycle) n) (node_at_place cycle i low)
    (Contains-get_or (nodes_of cycle) i 0 (omega (arith, low, length-nodes cycle)))

-- a node stands at some place
pub place_in : (cycle : List Link) (n : ℕ) → Contains (nodes_of cycle) n → (i : ℕ) × (i < length cycle) × ((link_at cycle i).node ≡ n)
place_in cycle n at =
    let low : at.0 < length cycle = omega (arith, at.1, length-nodes cycle) in
    (at.0, low, sym (node_at_place cycle at.0 low) ∙ get_or_default (nodes_of cycle) at.0 0 n at.1 ∙ at.2)
