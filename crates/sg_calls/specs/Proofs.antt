-- Proofs as they cross, by loops as three lists or by a nest as four: what is answered, what a caller states, and what
-- is wrong with others.
use Rattle.std.specs.Prelude.{◌≡◌, ℕ, ℤ, not, nat_lt, ◌==◌, ◌&&◌, if◌then◌else◌, List, [], ◌∷◌, length, map, position, Option, Some, None, unwrap_or}
use Rattle.std.specs.List.{range_with_len}
use Rattle.sg_base.specs.Limits.{input_limit}
use Rattle.sg_model.specs.declared.refusal.Refusal.{Refusal}
use Rattle.sg_model.specs.declared.refusal.Refusal.TheVariants.{TooLong}
use Rattle.sg_check.specs.declared.packing.Loop.{Loop}
use Rattle.sg_check.specs.declared.packing.ResultText.{ResultText}
use Rattle.sg_nest.specs.declared.nest.Nest.{Nest}
use Rattle.sg_nest.specs.declared.nest.Place.{Place}
use Rattle.sg_nest.specs.declared.nest.Region.{Region}
use Rattle.sg_reader.specs.Result.{is_spin_value}
use Rattle.sg_draft.specs.Members.{bad_member}
use Rattle.sg_draft.specs.Reads.{member_fault}
use Rattle.sg_draft.specs.Tests.{first_of, refuse_if}
use Rattle.sg_draft.specs.declared.member.Member.TheVariants as member
use Rattle.sg_calls.specs.declared.nests.GivenNest.{GivenNest}
use Rattle.sg_calls.specs.declared.stated.GivenLoops.{GivenLoops}
use Rattle.sg_calls.specs.Crossing.{IsJoined, Shows, entry, wrong_start}

-- three lists: the weights of loops, the place of the first bond of each with the number of all after, and all bonds
pub record LoopLists : Type 0 where
  pub weights : List ℤ
  pub starts : List ℕ
  pub bonds : List ℕ

-- loops by their three lists
abbrev pub loop_lists : List ℤ → List ℕ → List ℕ → LoopLists
loop_lists weights starts bonds = record { weights = weights; starts = starts; bonds = bonds }

-- the lists of the loops that were handed in
abbrev pub loops_of : GivenLoops → LoopLists
loops_of given = loop_lists given.weights.now given.starts.now given.bonds.now

-- loops as three lists
pub record AreRows (lists : LoopLists) (loops : List Loop) : Type 0 where
  pub weighed : lists.weights ≡ map (λ each. each.y) loops
  pub joined : IsJoined (λ each. each.bonds) loops lists.starts lists.bonds

-- loops have crossed as three lists into places of a caller, with the numbers of loops and of all their bonds
pub record HandsLoops (loops : List Loop) (before after : LoopLists) (loop_count bond_count : ℕ) : Type 0 where
  pub lists : LoopLists
  pub rows : AreRows lists loops
  pub shows_weights : Shows lists.weights before.weights after.weights
  pub shows_starts : Shows lists.starts before.starts after.starts
  pub shows_bonds : Shows lists.bonds before.bonds after.bonds
  pub counts_loops : loop_count ≡ length loops
  pub counts_bonds : bond_count ≡ length lists.bonds

-- the first value that is neither 1 nor -1
abbrev pub first_bad_spin : List ℤ → Option ℕ
first_bad_spin spins = position (λ value. not (is_spin_value (Some value))) spins

-- the tests of the spins: there are no more than a text may have bytes, and each is 1 or -1
abbrev pub values_fault : List ℤ → Option Refusal
values_fault spins = first_of (
    refuse_if (nat_lt input_limit (length spins)) (TooLong input_limit)
    ∷ member_fault member.Spins (first_bad_spin spins)
    ∷ [])

-- the tests of loops: there are no more than a text may have bytes, and their starts
abbrev pub given_loops_fault : LoopLists → Option Refusal
given_loops_fault loops = first_of (
    refuse_if (nat_lt input_limit (length loops.weights)) (TooLong input_limit)
    ∷ member_fault member.Loops (wrong_start loops.starts (length loops.weights) (length loops.bonds))
    ∷ [])

-- the first test that fails
abbrev pub stated_fault : List ℤ → LoopLists → Option Refusal
stated_fault spins loops = first_of (values_fault spins ∷ given_loops_fault loops ∷ [])

-- the numbers pass their tests, and state this
pub record States (energy : ℤ) (spins : List ℤ) (loops : LoopLists) (stated : ResultText) : Type 0 where
  pub passes : stated_fault spins loops ≡ None
  pub energy_is : stated.energy ≡ energy
  pub spins_are : stated.spins ≡ spins
  pub rows : AreRows loops stated.loops

-- the number of the parent of a region, and the largest number of 32 bits if it has none
abbrev pub parent_number : Region → ℕ
parent_number region = unwrap_or region.parent 4294967295

-- the region that took a face, and its radius then, 0 if none did
abbrev pub place_region : Option Place → ℕ
place_region None = 4294967295
place_region (Some p) = p.region

-- the radius at which a face was taken, and 0 if no region took it
abbrev pub place_radius : Option Place → ℕ
place_radius None = 0
place_radius (Some p) = p.at

-- four lists: for each region its parent and its radius, for each face its region, and the radius at which that took it
pub record NestLists : Type 0 where
  pub parents : List ℕ
  pub radii : List ℕ
  pub regions : List ℕ
  pub at_radii : List ℕ

-- a nest by its four lists
abbrev pub nest_lists : List ℕ → List ℕ → List ℕ → List ℕ → NestLists
nest_lists parents radii regions at_radii =
    record { parents = parents; radii = radii; regions = regions; at_radii = at_radii }

-- the lists of the nest that was handed in
abbrev pub nest_given : GivenNest → NestLists
nest_given given = nest_lists given.parents.now given.radii.now given.regions.now given.at_radii.now

-- a nest as four lists
pub record AreNestRows (lists : NestLists) (nest : Nest) : Type 0 where
  pub parents : lists.parents ≡ map parent_number nest.regions
  pub radii : lists.radii ≡ map (λ region. region.radius) nest.regions
  pub regions : lists.regions ≡ map place_region nest.places
  pub at_radii : lists.at_radii ≡ map place_radius nest.places

-- the same of a nest that there may be, and four empty lists if there is none
abbrev pub AreRowsOf : NestLists → Option Nest → Type 0
AreRowsOf lists None = lists ≡ nest_lists [] [] [] []
AreRowsOf lists (Some nest) = AreNestRows lists nest

-- a nest, if there is one, has crossed as four lists into places of a caller, with its numbers of regions and faces
pub record HandsNest (nest : Option Nest) (before after : NestLists) (region_count face_count : ℕ) : Type 0 where
  pub lists : NestLists
  pub rows : AreRowsOf lists nest
  pub shows_parents : Shows lists.parents before.parents after.parents
  pub shows_radii : Shows lists.radii before.radii after.radii
  pub shows_regions : Shows lists.regions before.regions after.regions
  pub shows_at_radii : Shows lists.at_radii before.at_radii after.at_radii
  pub counts_regions : region_count ≡ length lists.parents
  pub counts_faces : face_count ≡ length lists.regions

-- the tests of four lists: there is a radius for each region, and for each face
abbrev pub lists_fault : NestLists → Option Refusal
lists_fault lists = first_of (
    refuse_if (not (length lists.radii == length lists.parents)) (bad_member member.Radii)
    ∷ refuse_if (not (length lists.at_radii == length lists.regions)) (bad_member member.FaceRadii)
    ∷ [])

-- the region with a parent and a radius
abbrev pub region_numbered : ℕ → ℕ → Region
region_numbered parent radius = record {
  parent = if parent == 4294967295 then None else Some parent;
  radius = radius;
}

-- the place in a region at a radius, and none if the number is for none and the radius is 0
abbrev pub place_numbered : ℕ → ℕ → Option Place
place_numbered region at =
    if region == 4294967295 && at == 0 then None else Some (record { region = region; at = at })

-- the regions and the places that two lists say
abbrev pub regions_said : List ℕ → List ℕ → List Region
regions_said parents radii =
    map (λ r. region_numbered (entry parents r) (entry radii r)) (range_with_len 0 (length parents))

-- for each face the region that took it and its radius, if these lists say so
abbrev pub places_said : List ℕ → List ℕ → List (Option Place)
places_said regions at_radii =
    map (λ x. place_numbered (entry regions x) (entry at_radii x)) (range_with_len 0 (length regions))

-- the nest that four lists say
abbrev pub nest_said : NestLists → Nest
nest_said lists = record {
  regions = regions_said lists.parents lists.radii;
  places = places_said lists.regions lists.at_radii;
}

-- the tests of what is stated as a proof by a nest, of the spins and of the four lists
abbrev pub nest_fault : List ℤ → NestLists → Option Refusal
nest_fault spins lists = first_of (values_fault spins ∷ lists_fault lists ∷ [])
