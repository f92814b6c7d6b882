-- Minimum T-joins of many lists of terminals, and why a call on a weighted graph has no answer.
use Rattle.std.proofs.Common.{◌≡◌, ℕ, ◌+◌, ◌<◌, ℤ, pos, inl, inr, arith, List, [], ◌∷◌, ◌++◌, ap, length, sym, ◌∙◌, subst, None}
use Rattle.std.proofs.lemmas.Bool.{cases_lt, cases_eq}
use Rattle.std.proofs.lemmas.List.{get_or_append_left, get_or_push, map_push}
use Rattle.std.proofs.lemmas.List.FromFn.{get_or-map-range_with_len, length-map-range_with_len}
use Rattle.sg_base.specs.Limits.{spin_limit, table_limit}
use Rattle.sg_model.specs.declared.refusal.Fault.{Fault}
use Rattle.sg_model.specs.Faults.{OrNoMemory}
use Rattle.sg_model.specs.declared.refusal.Fault.TheVariants.{NoMemory, Refused}
use Rattle.sg_draft.specs.Tests.{Refuses}
use Rattle.sg_graph.specs.Incidence.{list_at}
use Rattle.sg_graph.specs.Join.{IsLeastJoin}
use Rattle.sg_graph.specs.Web.{Graph, weight_of}
use Rattle.sg_graph_text.specs.Graph.{terminals_of}
use Rattle.sg_graph_text.proofs.TerminalLaws.{are_terminals}
use Rattle.sg_tjoin.specs.Allowance.{IfTooLarge, table_bytes}
use Rattle.sg_tjoin.specs.declared.allowance.Unproved.{Unproved}
use Rattle.sg_tjoin.specs.declared.allowance.Unproved.TheVariants as unproved
use Rattle.sg_tjoin.proofs.TableBounds.{tables_bounded}
use Rattle.sg_calls.specs.Crossing.{entries_of}
use Rattle.sg_calls.specs.Graphs.{IsUnanswered, unanswered_by}
use Rattle.sg_calls.specs.Joins.{join_weights, SomeTablesExceed}
use Rattle.sg_calls.specs.Networks.{list_count, list_fault, list_faults, terminal_lists}
use Rattle.sg_calls.proofs.NetworkLemmas.{range-fails, range-passes}

-- a solver's error, where a fault may be that no memory was left
pub by_joiner : (Owed : Fault → Type 0) → Owed NoMemory → {H Exceed : Type 0} → (H → Exceed) → (e : Unproved) → IfTooLarge H e
    → IsUnanswered Owed Exceed (unanswered_by e)
by_joiner Owed free f unproved.NoMemory h = free
by_joiner Owed free f unproved.TablesTooLarge h = f h

-- within the limits of the program no tables exceed what is allowed
pub large_only : (n : ℕ) (entries : List ℕ) → table_limit < table_bytes (length (terminals_of n entries)) n → spin_limit < n
large_only n entries exceed = elim (cases_lt spin_limit n) [
  | inl more ↦ more
  | inr few ↦
      let g : Graph = record { nodes = n; edges = [] } in
      let most = tables_bounded g (terminals_of n entries) (are_terminals n [] entries) 2048 few in
      absurd (omega (arith, most, exceed))
]

module _ (n : ℕ) (starts entries : List ℕ) where
  -- the terminals of a list
  pub list-is : (i : ℕ) → i < list_count starts → list_at (terminal_lists n starts entries) i ≡ terminals_of n (entries_of starts entries i)
  list-is i inside =
      get_or-map-range_with_len (λ k. terminals_of n (entries_of starts entries k)) 0 (list_count starts) i i [] inside (omega arith)

  pub lists-count : length (terminal_lists n starts entries) ≡ list_count starts
  lists-count = length-map-range_with_len (λ k. terminals_of n (entries_of starts entries k)) 0 (list_count starts)

  -- the first list that is wrong
  pub list-fails : (k : ℕ) (e : Fault) → k < list_count starts → ((i : ℕ) → i < k → list_fault n starts entries i ≡ None)
      → OrNoMemory (Refuses (list_fault n starts entries k)) e → OrNoMemory (Refuses (list_faults n starts entries)) e
  list-fails k (Refused x) inside earlier bad =
      range-fails (list_fault n starts entries) 0 (list_count starts) k x (omega arith) (omega (arith, inside)) (λ i l u. earlier i u) bad
  list-fails k NoMemory inside earlier bad = tt

  pub lists-pass : ((i : ℕ) → i < list_count starts → list_fault n starts entries i ≡ None) → list_faults n starts entries ≡ None
  lists-pass all = range-passes (list_fault n starts entries) 0 (list_count starts) (λ i l u. all i (omega (arith, u)))

  pub some_large_only : SomeTablesExceed table_limit (terminal_lists n starts entries) n → spin_limit < n
  some_large_only some =
      let inside : some.list < list_count starts = omega (arith, some.within, lists-count) in
      large_only n (entries_of starts entries some.list)
      (subst (λ (l : List ℕ). table_limit < table_bytes (length l) n) (list-is some.list inside) some.exceed)

module _ (g : Graph) (lists joins : List (List ℕ)) (i : ℕ) (count : length joins ≡ i) (edges : List ℕ) where
  -- one minimum T-join more
  pub joins-more : ((j : ℕ) → j < i → IsLeastJoin g (list_at lists j) (list_at joins j)) → IsLeastJoin g (list_at lists i) edges
      → (j : ℕ) → j < i + 1 → IsLeastJoin g (list_at lists j) (list_at (joins ++ edges ∷ []) j)
  joins-more each own j low = elim (cases_eq j i) [
    | inl last ↦ rw (last, get_or_push joins edges [] i count) own
    | inr other ↦
        let less : j < i = omega (arith, low, other) in
        rw (get_or_append_left joins (edges ∷ []) [] j (omega (arith, less, count))) (each j less)
  ]

  -- and its weight
  pub weights-more : (weights : List ℤ) → weights ≡ join_weights g joins
      → weights ++ pos (weight_of g edges) ∷ [] ≡ join_weights g (joins ++ edges ∷ [])
  weights-more weights known =
      ap (λ (l : List ℤ). l ++ pos (weight_of g edges) ∷ []) known ∙ sym (map_push (λ join. pos (weight_of g join)) joins edges)
