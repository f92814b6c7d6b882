-- The depths of all nodes at one set, read from the tables of its terminals.
use Rattle.std.specs.Prelude.{◌≡◌, ℕ, ◌-◌, ◌*◌, ◌<◌, ◌≤◌, min, pos, true, List, length, slice_index_or}
use Rattle.sg_graph.specs.Table.{Routes, distance_at, is_reached, length_to}

-- the depth listed of node x, 0 past the last
abbrev pub depth_at : List ℕ → ℕ → ℕ
depth_at depths x = slice_index_or depths x 0

-- the list has the depth of each node below n
pub record AreDepths (n : ℕ) (depth : ℕ → ℕ) (depths : List ℕ) : Type 0 where
  pub count : length depths ≡ n
  pub each : (x : ℕ) → x < n → depth_at depths x ≡ depth x

-- the table has the nodes below n, and the distance of each of them
pub record ReachesAll (n : ℕ) (t : Routes) : Type 0 where
  pub count : length t.to ≡ n
  pub reached : (x : ℕ) → x < n → is_reached t x ≡ true
  pub whole : (x : ℕ) → x < n → distance_at t x ≡ pos (length_to t x)

-- the nodes below a number are no deeper than twice their distance less what lies inside, and the others as before
pub record Lowers (t : Routes) (inner upto : ℕ) (old new : List ℕ) : Type 0 where
  pub count : length new ≡ length old
  pub lowered : (x : ℕ) → x < upto → depth_at new x ≡ min (depth_at old x) (2 * length_to t x - inner)
  pub same : (x : ℕ) → upto ≤ x → depth_at new x ≡ depth_at old x
