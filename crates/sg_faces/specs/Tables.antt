-- A permutation as a table of its values: its orbits, and labels of them.
use Rattle.std.specs.Prelude.{◌≡◌, ◌≢◌, true, ◌↔◌, ℕ, ◌<◌, Bool, List, length, slice_index}
use Rattle.sg_model.specs.Ising.{Ising}
use Rattle.sg_model.specs.Rotation.{dart_count, tail, rev}
use Rattle.sg_faces.specs.Orbits.{after_steps, SameOrbit, is_least_of_orbit, orbits_before, IsOneToOne}
use Rattle.sg_faces.specs.Faces.{phi}

-- the value at place d
abbrev pub table_value : List ℕ → ℕ → ℕ
table_value table d = slice_index table d

-- different entries, each a place of the table
abbrev pub IsMove : List ℕ → Type 0
IsMove table = IsOneToOne (table_value table) (length table)

-- the place that j moves lead to
abbrev pub moves : List ℕ → ℕ → ℕ → ℕ
moves table j d = after_steps (table_value table) j d

-- whether no place of the orbit of d is less than d
abbrev pub is_least_of : List ℕ → ℕ → Bool
is_least_of table d = is_least_of_orbit (table_value table) (length table) d

-- how many places before d are the least of their orbits
abbrev pub least_before : List ℕ → ℕ → ℕ
least_before table d = orbits_before (table_value table) (length table) d

-- what is at a place without a label
abbrev pub unlabelled : ℕ
unlabelled = 4294967295

-- place d has a label
abbrev pub HasLabel : List ℕ → ℕ → Type 0
HasLabel labels d = slice_index labels d ≢ unlabelled

-- the least place of the orbit of d, which is before `limit`, and its rank f among such places
pub record Root (table : List ℕ) (limit d f : ℕ) : Type 0 where
  pub first : ℕ
  pub first_below : first < length table
  pub early : first < limit
  pub least : is_least_of table first ≡ true
  pub same : SameOrbit (table_value table) first d
  pub rank : f ≡ least_before table first

-- whole orbits have labels, each the rank of its least place: those of the places before `limit`
pub record LabelsOrbits (table labels : List ℕ) (limit : ℕ) : Type 0 where
  pub lengths : length labels ≡ length table
  pub onward : (d : ℕ) → d < length table → HasLabel labels d →
      slice_index labels (slice_index table d) ≡ slice_index labels d
  pub root : (d : ℕ) → d < length table → HasLabel labels d → Root table limit d (slice_index labels d)
  pub earlier : (d : ℕ) → d < limit → HasLabel labels d

-- the labels of all orbits, in the order of the orbits' least places
pub record IsOrbitLabels (table labels : List ℕ) (count : ℕ) : Type 0 where
  pub lengths : length labels ≡ length table
  pub below : (d : ℕ) → d < length table → slice_index labels d < count
  pub same : (d e : ℕ) → d < length table → e < length table →
      (slice_index labels d ≡ slice_index labels e) ↔ SameOrbit (table_value table) d e
  pub used : (f : ℕ) → f < count → (d : ℕ) × (d < length table) × (slice_index labels d ≡ f)
  pub order : (d : ℕ) → d < length table → is_least_of table d ≡ true →
      slice_index labels d ≡ least_before table d
  pub counts : count ≡ least_before table (length table)

-- the table holds `phi` at each dart that leads to a spin before `limit`
pub record HasPhi (inst : Ising) (table : List ℕ) (limit : ℕ) : Type 0 where
  pub lengths : length table ≡ dart_count inst
  pub entries : (d : ℕ) → d < dart_count inst → tail inst (rev d) < limit → slice_index table d ≡ phi inst d

-- the table of `phi`
pub record IsPhiTable (inst : Ising) (table : List ℕ) : Type 0 where
  pub lengths : length table ≡ dart_count inst
  pub entries : (d : ℕ) → d < dart_count inst → slice_index table d ≡ phi inst d
