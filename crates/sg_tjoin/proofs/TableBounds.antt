-- What the tables of the matching fallback take at most.
use Rattle.std.proofs.Common.{ℕ, ◌≡◌, ◌+◌, ◌*◌, ◌-◌, ◌<◌, ◌≤◌, ◌^◌, List, length, arith}
use Rattle.std.proofs.lemmas.Nat.{mul-le}
use Rattle.sg_graph.specs.Join.{AreTerminals}
use Rattle.sg_graph.specs.Web.{Graph, IsWeb}
use Rattle.sg_graph.proofs.OnceLists.{rising_few}
use Rattle.sg_tjoin.specs.Allowance.{IfTooLarge, table_bytes}
use Rattle.sg_tjoin.specs.declared.allowance.Unproved.{Unproved}
use Rattle.sg_tjoin.specs.declared.allowance.Unproved.TheVariants.{NoMemory, TablesTooLarge}

-- less than what holds if the tables are too large
pub IfTooLarge-weaker : {A B : Type 0} → (A → B) → (e : Unproved) → IfTooLarge A e → IfTooLarge B e
IfTooLarge-weaker f NoMemory h = tt
IfTooLarge-weaker f TablesTooLarge h = f h

-- no more terminals than nodes, and no more nodes than so many
bytes_bounded : (terminals nodes most : ℕ) → terminals ≤ nodes → nodes ≤ most → terminals * (12 * nodes + 8 * terminals) ≤ 20 * (most * most)
bytes_bounded terminals nodes most few within =
    let product : terminals * (12 * nodes + 8 * terminals) ≤ most * (20 * most) =
    mul-le terminals (12 * nodes + 8 * terminals) most (20 * most) (omega arith) (omega arith) in
    omega (arith, product, swapped most)
  where
    swapped : (n : ℕ) → n * (20 * n) ≡ 20 * (n * n)
    swapped n = grind arith

module _ (g : Graph) (terminals : List ℕ) (are : AreTerminals g terminals) where
  -- there are no more terminals than nodes
  pub few_terminals : length terminals ≤ g.nodes
  few_terminals = rising_few g.nodes terminals are.below are.rising

  -- so the tables are bounded by the nodes
  pub tables_bounded : (most : ℕ) → g.nodes ≤ most → table_bytes (length terminals) g.nodes ≤ 20 * (most * most)
  tables_bounded most within = bytes_bounded (length terminals) g.nodes most few_terminals within

  -- and never take 2^64 bytes
  pub tables_fit : IsWeb g → 2 ^ 64 - 1 < table_bytes (length terminals) g.nodes → ⊥
  tables_fit web exceed = omega (arith, exceed, tables_bounded (2 ^ 24) web.few_nodes)
