use Rattle.std.proofs.Common.{◌≡◌, ◌+◌, ◌≤◌, ℕ, ◌++◌, length, vec_capacity}
use Rattle.sg_calls.proofs.draws.next_draws.Given as goal

abbrev pub invariant-loop : goal.invariant-loop
invariant-loop g l =
    let disorder = g.L.Disorder in
    ((c : ℕ) → disorder.next l.initial.law (l.counter + c) ≡ l.found.items ++ disorder.next l.law c)
    × ((c : ℕ) → length (disorder.next l.law c) ≡ c)
    × (length l.found.items ≡ l.counter)
    × (l.count ≤ vec_capacity l.found)
