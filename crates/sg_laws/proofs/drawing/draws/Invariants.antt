use Rattle.std.proofs.Common.{◌≡◌, ◌+◌, ◌≤◌, ℕ, ◌++◌, length, All, vec_capacity}
use Rattle.sg_laws.specs.Stream.{IsDraw}
use Rattle.sg_laws.proofs.drawing.draws.Given as goal

abbrev pub invariant-loop : goal.invariant-loop
invariant-loop g l =
    let old = goal.Disorder-dyn g (l.initial.law.vtable, l.initial.law.value) in
    let new = goal.Disorder-dyn g (l.law.vtable, l.law.value) in
    ((c : ℕ) → old.next l.initial.law.value (l.counter + c) ≡ l.found.items ++ new.next l.law.value c)
    × ((c : ℕ) → length (new.next l.law.value c) ≡ c)
    × (length l.found.items ≡ l.counter)
    × (l.count ≤ vec_capacity l.found)
    × All IsDraw l.found.items
    × (new.title l.law.value ≡ old.title l.initial.law.value)
    × ((s c : ℕ) → new.seeded l.law.value s c ≡ old.seeded l.initial.law.value s c)
