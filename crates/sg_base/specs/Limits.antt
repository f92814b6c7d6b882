-- The limits of the program and of the library as numerals: what contracts mean by them.
use Rattle.std.specs.Prelude.{ℕ, ◌+◌, ◌*◌, ◌^◌}

-- the most spins of an instance
abbrev pub spin_limit : ℕ
spin_limit = 2048

-- the most bonds of an instance
abbrev pub bond_limit : ℕ
bond_limit = 6144

-- the most spins of a large instance, which the calls of a library take and the program does not
abbrev pub large_spin_limit : ℕ
large_spin_limit = 2 ^ 22

-- the most bonds of a large instance
abbrev pub large_bond_limit : ℕ
large_bond_limit = 3 * 2 ^ 22

-- the largest sum of the couplings' sizes of an instance that is solved
abbrev pub sum_limit : ℕ
sum_limit = 2 ^ 44

-- the largest such sum where one bond is forced
abbrev pub forced_limit : ℕ
forced_limit = 2 ^ 45 + 1

-- the largest cost of two leaves of the matching
abbrev pub cost_limit : ℕ
cost_limit = 2 ^ 47

-- the most bytes of the tables that a matching rests on, in a call that takes large instances
abbrev pub table_limit : ℕ
table_limit = 2 ^ 32

-- the most bytes of an input
abbrev pub input_limit : ℕ
input_limit = 536870912

-- what the length of every text that is read is below
abbrev pub text_limit : ℕ
text_limit = 2 ^ 30

-- the most samples of an ensemble
abbrev pub sample_limit : ℕ
sample_limit = 1000

-- the most columns of a study over widths
abbrev pub width_limit : ℕ
width_limit = 64

-- the most bytes of an input that is read as JSON, 64 MiB
abbrev pub json_limit : ℕ
json_limit = 67108864
