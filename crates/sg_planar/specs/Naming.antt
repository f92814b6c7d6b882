-- Names of spins: each has that of the least spin that it reaches over a set of bonds.
use Rattle.std.specs.Prelude.{◌≡◌, ◌==◌, ℕ, ◌<◌, ◌≤◌, Bool, List, length, slice_index}
use Rattle.sg_base.specs.Sets.{IsMarked, chosen_below}
use Rattle.sg_model.specs.Ising.{Ising}
use Rattle.sg_model.specs.Connected.{AreLeasts, Reached, all_bonds}
use Rattle.sg_planar.specs.Walk.{IsClosed}

-- spin x has the name of the least spin that it reaches
pub record IsNamed (inst : Ising) (set : ℕ → Bool) (names : List ℕ) (x : ℕ) : Type 0 where
  pub reached : Reached inst set x (slice_index names x)
  pub least : (j : ℕ) → Reached inst set x j → slice_index names x ≤ j

-- the spins before `stop` are marked, and all marked spins are named
pub record NamedTo (inst : Ising) (set : ℕ → Bool) (marks : List Bool) (names : List ℕ)
    (stop : ℕ) : Type 0 where
  pub marks_count : length marks ≡ inst.n
  pub names_count : length names ≡ inst.n
  pub named : (x : ℕ) → IsMarked marks x → IsNamed inst set names x
  pub closed : IsClosed inst set marks
  pub done : (x : ℕ) → x < stop → IsMarked marks x

-- all spins are named
pub record AllNamed (inst : Ising) (set : ℕ → Bool) (names : List ℕ) : Type 0 where
  pub count : length names ≡ inst.n
  pub each : (x : ℕ) → x < inst.n → IsNamed inst set names x

-- the components: over all bonds, the least spin that each spin reaches, and the least spins of all components
pub record AreComponents (inst : Ising) (names leasts : List ℕ) : Type 0 where
  pub named : AllNamed inst all_bonds names
  pub least : AreLeasts inst leasts

-- the spins that have their own name, rising
abbrev pub self_named : List ℕ → List ℕ
self_named names = chosen_below (λ i. slice_index names i == i) (length names)
