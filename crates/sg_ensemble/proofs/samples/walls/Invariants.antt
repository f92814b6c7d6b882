use Rattle.std.proofs.Common.{◌≡◌, ℕ, ◌≤◌, ◌^◌, length, All, unsigned_abs}
use Rattle.sg_ensemble.specs.Samples.{IsCylinder}
use Rattle.sg_ensemble.proofs.DrawnWalls.{IsDrawn}
use Rattle.sg_ensemble.proofs.samples.walls.Given as goal

abbrev pub invariant-loop : goal.invariant-loop
invariant-loop g l =
    let old = goal.Disorder-dyn g (l.initial.law.vtable, l.initial.law.value) in
    let new = goal.Disorder-dyn g (l.law.vtable, l.law.value) in
    IsDrawn l.rows l.cols l.counter (old.next l.initial.law.value) (new.next l.law.value) l.walls
    × ((c : ℕ) → length (new.next l.law.value c) ≡ c)
    × All (λ d. unsigned_abs d ≤ 2 ^ 33) l.walls
    × (new.title l.law.value ≡ old.title l.initial.law.value)
    × ((s c : ℕ) → new.seeded l.law.value s c ≡ old.seeded l.initial.law.value s c)
    × IsCylinder l.rows l.cols l.sample.instance
