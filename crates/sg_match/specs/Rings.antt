-- The children of a blossom as a ring: from one child on, either way round, and paired two by two.
use Rattle.std.specs.Prelude.{◌≡◌, ◌≢◌, ℕ, ◌<◌, List, length, Option, Some, ◌%◌, ◌⊎◌, ◌-◌, if◌then◌else◌}
use Rattle.std.specs.Prelude.{◌++◌, drop, take, ◌==◌}
use Rattle.sg_arena.specs.Family.{link_at}
use Rattle.sg_arena.specs.declared.Link.{Link}
use Rattle.sg_match.specs.Pairs.{pair_of, flipped, edge_of_link}
use Rattle.sg_match.specs.declared.Edge.{Edge}

-- the list from place i on, and then what stood before
abbrev pub rotated : ℕ → List Link → List Link
rotated i links = drop i links ++ take i links

-- the same ring from its first node on in the other direction, with each link reversed
pub record IsBackwards (ring turned : List Link) : Type 0 where
  pub count : length turned ≡ length ring
  pub node : (i : ℕ) → i < length ring →
      (link_at turned i).node ≡ (link_at ring (if i == 0 then 0 else length ring - i)).node
  pub from : (i : ℕ) → i < length ring → (link_at turned i).from ≡ (link_at ring (length ring - 1 - i)).to
  pub to : (i : ℕ) → i < length ring → (link_at turned i).to ≡ (link_at ring (length ring - 1 - i)).from

-- an odd number
abbrev pub IsOdd : ℕ → Type 0
IsOdd n = n % 2 ≡ 1

-- a ring and the place of its entry, as they were or the other way round
abbrev pub IsTurnedRing : List Link → ℕ → List Link → ℕ → Type 0
IsTurnedRing ring entry turned_ring place = ((turned_ring ≡ ring) × (place ≡ entry)) ⊎
    (IsBackwards ring turned_ring × (0 < entry) × (place ≡ length ring - entry))

-- the pair at a place of a ring: at the first place this one, and behind it along the links, two by two
abbrev pub ring_pair : List Link → Edge → ℕ → Edge
ring_pair ring pair i = if i == 0 then pair
    else (if i % 2 == 1 then edge_of_link (link_at ring i) else flipped (edge_of_link (link_at ring (i - 1))))

-- the nodes of a ring have these pairs
pub record IsRingPaired (old new : List (Option Edge)) (ring : List Link) (pair : Edge) : Type 0 where
  pub each : (i : ℕ) → i < length ring → pair_of new (link_at ring i).node ≡ Some (ring_pair ring pair i)
  pub others : (n : ℕ) → ((i : ℕ) → i < length ring → (link_at ring i).node ≢ n) → pair_of new n ≡ pair_of old n
