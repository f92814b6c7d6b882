use Rattle.std.proofs.Common.{◌≡◌, ◌<◌, ◌%◌, ℕ, None, length, map}
use Rattle.std.specs.List.{range_with_len}
use Rattle.sg_graph_text.specs.Graph.{terminals_of}
use Rattle.sg_calls.specs.Crossing.{entries_of}
use Rattle.sg_calls.specs.Networks.{list_fault}
use Rattle.sg_calls.proofs.terminal_lists.divided.Given as goal

-- the terminals of the lists so far, which pass their tests
abbrev pub invariant-loop-k : goal.invariant-loop-k
invariant-loop-k l = record {
  lists : l.lists ≡ map (λ i. terminals_of l.nodes (entries_of l.starts l.entries i)) (range_with_len 0 l.k);
  passes : (i : ℕ) → i < l.k → list_fault l.nodes l.starts l.entries i ≡ None;
  even : (i : ℕ) → i < l.k → length (terminals_of l.nodes (entries_of l.starts l.entries i)) % 2 ≡ 0;
}
