-- What the tables of the matching fallback take, and an answer that is refused if that is more than is allowed.
use Rattle.std.specs.Prelude.{ℕ, ◌+◌, ◌*◌}
use Rattle.sg_tjoin.specs.declared.allowance.Unproved.{Unproved}
use Rattle.sg_tjoin.specs.declared.allowance.Unproved.TheVariants.{NoMemory, TablesTooLarge}

-- the bytes of the tables for so many terminals in a graph of so many nodes: for each terminal, 8 for the distance of
-- each node and 4 for the last edge on the way to it, and 8 for what it costs to match it with each terminal
abbrev pub table_bytes : ℕ → ℕ → ℕ
table_bytes terminals nodes = terminals * (12 * nodes + 8 * terminals)

-- this holds, if the tables are too large; of an allocator that has no memory left nothing is said
abbrev pub IfTooLarge : Type 0 → Unproved → Type 0
IfTooLarge Holds NoMemory = Unit {0}
IfTooLarge Holds TablesTooLarge = Holds
