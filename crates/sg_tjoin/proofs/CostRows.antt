-- A table of costs as it fills, row by row.
use Rattle.std.proofs.Common.{inl, inr, ◌≡◌, ℕ, ℤ, ◌+◌, ◌*◌, ◌<◌, List, ◌∙◌, sym, arith, length, subst, get_or, pos}
use Rattle.std.proofs.lemmas.Bool.{cases_eq}
use Rattle.sg_graph.specs.Table.{Routes, length_to}
use Rattle.sg_slack.specs.Table.{SetsPair, Table, cost_of}
use Rattle.sg_moat.specs.Input.{table_at, terminal_cost}
use Rattle.sg_tjoin.specs.Doubled.{FillsRow, FillsRows}

-- one row more
module _ (terminals : List ℕ) (tables : List Routes) (i : ℕ) (old new : Table) (low : i < length terminals) (h : FillsRows terminals tables i old)
    (row : FillsRow terminals (table_at tables i) i i old new) where
  -- one row more of the table
  pub FillsRows-more : FillsRows terminals tables (i + 1) new
  FillsRows-more = record {
    size = row.size ∙ h.size;
    forth = λ a b l m. elim (cases_eq a i) [
      | inl same ↦ subst (λ z. cost_of new z b ≡ pos (terminal_cost terminals tables z b)) (sym same) (row.forth b (omega arith))
      | inr differs ↦ row.before a b (omega arith) (omega arith) ∙ h.forth a b (omega arith) m
    ];
    back = λ a b l m. elim (cases_eq a i) [
      | inl same ↦ subst (λ z. cost_of new b z ≡ pos (terminal_cost terminals tables z b)) (sym same) (row.back b (omega arith))
      | inr differs ↦ row.before b a (omega arith) (omega arith) ∙ h.back a b (omega arith) m
    ];
    diagonal = λ a l. row.diagonal a (omega (arith, h.size)) ∙ h.diagonal a l;
  }

-- one pair more
module _ (terminals : List ℕ) (t : Routes) (i j : ℕ) (old mid new : Table) (cost : ℤ) (less : j < i) (low : i < old.size)
    (h : FillsRow terminals t i j old mid) (pair : SetsPair mid new i j cost) (is : cost ≡ pos (2 * length_to t (get_or terminals j 0))) where
  other : (a b : ℕ) → a < old.size → b < old.size → (a ≡ i → b ≡ j → ⊥) → (a ≡ j → b ≡ i → ⊥) → cost_of new a b ≡ cost_of mid a b
  other a b l m first last = pair.others a b (omega (arith, h.size)) (omega (arith, h.size)) (λ p. elim p [
    | inl e ↦ first e.0 e.1
    | inr e ↦ last e.0 e.1
  ])

  -- one pair more of the row
  pub FillsRow-more : FillsRow terminals t i (j + 1) old new
  FillsRow-more = record {
    size = pair.size ∙ h.size;
    forth = λ b l. elim (cases_eq b j) [
      | inl same ↦ subst (λ z. cost_of new i z ≡ pos (2 * length_to t (get_or terminals z 0))) (sym same) (pair.forth ∙ is)
      | inr differs ↦ other i b low (omega arith) (λ p q. omega arith) (λ p q. omega arith) ∙ h.forth b (omega arith)
    ];
    back = λ b l. elim (cases_eq b j) [
      | inl same ↦ subst (λ z. cost_of new z i ≡ pos (2 * length_to t (get_or terminals z 0))) (sym same) (pair.back ∙ is)
      | inr differs ↦ other b i (omega arith) low (λ p q. omega arith) (λ p q. omega arith) ∙ h.back b (omega arith)
    ];
    before = λ a b l m. other a b (omega arith) (omega arith) (λ p q. omega arith) (λ p q. omega arith) ∙ h.before a b l m;
    diagonal = λ a l. other a a l l (λ p q. omega arith) (λ p q. omega arith) ∙ h.diagonal a l;
  }
