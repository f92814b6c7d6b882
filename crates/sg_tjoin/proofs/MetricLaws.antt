-- Distances of terminals are those of a metric space, and twice them are costs that an engine takes.
use Rattle.std.proofs.Common.{inl, inr, ◌≡◌, ℕ, ◌+◌, ◌%◌, ◌<◌, ◌≤◌, true, List, ◌∙◌, sym, ap, arith, length, get_or, subst, pos, cond, ltb, Result, Ok, Err}
use Rattle.std.proofs.lemmas.Bool.{cases_eq, cases_lt}
use Rattle.std.specs.Result.{IfOk}
use Rattle.sg_base.specs.Limits.{forced_limit}
use Rattle.sg_base.specs.Naturals.{nat_of}
use Rattle.sg_graph.specs.Web.{Graph, IsWeb, total_weight}
use Rattle.sg_graph.specs.Walk.{IsConnectedWeb, IsDistance}
use Rattle.sg_graph.specs.Join.{AreTerminals}
use Rattle.sg_graph.specs.Table.{IsTableOf, Routes, is_reached}
use Rattle.sg_graph.proofs.OnceLists.{rising_few}
use Rattle.sg_graph.proofs.TableLaws.{connected_distance, connected_reached, distance_signed, reached_if}
use Rattle.sg_graph.proofs.Walks.{distance-itself, distance-joined}
use Rattle.sg_dist.proofs.LightWays.{distance_light}
use Rattle.sg_slack.specs.Table.{Table, cost_of}
use Rattle.sg_arena.specs.Family.{Family, leaf_count}
use Rattle.sg_slack.specs.Matching.{IsMatching, IsPairing, NoSlackIsNegative, pairing_cost}
use Rattle.sg_slack.specs.Metric.{IsMetric, cost}
use Rattle.sg_slack.proofs.PairingSums.{sum_by-range}
use Rattle.sg_base.proofs.SumLaws.{sum_below-same}
use Rattle.sg_moat.specs.Input.{AreTerminalTables, blank_table, table_at, terminal_cost}
use Rattle.sg_tjoin.specs.Doubled.{AreMetric, FillsRows, Reaches, apart}

module _ (g : Graph) (terminals : List ℕ) (tables : List Routes) (connected : IsConnectedWeb g) (are : AreTerminals g terminals)
    (is : AreTerminalTables g terminals tables) where
  low : (i : ℕ) → i < length terminals → get_or terminals i 0 < g.nodes
  low i l = are.below i 0 l

  table_is : (i : ℕ) → i < length terminals → IsTableOf g (table_at tables i)
  table_is i l = is.each i blank_table (omega (arith, is.count))

  source_low : (i : ℕ) → i < length terminals → (table_at tables i).source < g.nodes
  source_low i l = omega (arith, is.sources i l, low i l)

  far : (i j : ℕ) → i < length terminals → j < length terminals → IsDistance g (get_or terminals i 0) (get_or terminals j 0) (apart terminals tables i j)
  far i j l m =
      let t = table_at tables i in
      subst (λ s. IsDistance g s (get_or terminals j 0) (apart terminals tables i j)) (is.sources i l)
      (connected_distance g t (table_is i l) connected (source_low i l) (get_or terminals j 0) (low j m))

  diagonal : (i : ℕ) → i < length terminals → apart terminals tables i i ≡ 0
  diagonal i l = distance-itself g (get_or terminals i 0) (apart terminals tables i i) (far i i l l)

  no_more : (i j : ℕ) → i < length terminals → j < length terminals → apart terminals tables i j ≤ apart terminals tables j i
  no_more i j l m =
      let most = distance-joined g _ _ _ _ _ _ (far i j l m) (far i i l l) (far j i m l) in
      omega (arith, diagonal i l, most)

  symmetric : (i j : ℕ) → i < length terminals → j < length terminals → apart terminals tables i j ≡ apart terminals tables j i
  symmetric i j l m = omega (arith, no_more i j l m, no_more j i m l)

  triangle : (i j k : ℕ) → i < length terminals → j < length terminals → k < length terminals
      → apart terminals tables i k ≤ apart terminals tables i j + apart terminals tables j k
  triangle i j k l m n =
      let most = distance-joined g _ _ _ _ _ _ (far i k l n) (far i j l m) (far k j n m) in
      omega (arith, symmetric k j n m, most)

  reaches : total_weight g ≤ forced_limit → (i : ℕ) → i < length terminals → (x : ℕ) → x < g.nodes → Reaches (table_at tables i) x
  reaches light i l x node =
      let t = table_at tables i in
      let known : is_reached t x ≡ true = reached_if g t (table_is i l) x node (connected_reached g connected t.source x (source_low i l) node) in
      record {
        low = omega (arith, node, (let h = table_is i l in h.nodes));
        reached = known;
        whole = distance_signed g t (table_is i l) x node known;
        near = omega (arith, light, distance_light g t (table_is i l) x known);
      }

  -- doubled distances of an even number of terminals are costs that an engine takes
  pub AreMetric-distances : IsWeb g → length terminals % 2 ≡ 0 → total_weight g ≤ forced_limit → AreMetric terminals tables
  AreMetric-distances web even light = record {
    even = even;
    few = omega (arith, rising_few g.nodes terminals are.below are.rising, web.few_nodes);
    count = is.count;
    reaches = λ i l k d m. reaches light i l (get_or terminals k d) (are.below k d m);
    symmetric = symmetric;
    diagonal = diagonal;
    triangle = triangle;
  }

module _ (terminals : List ℕ) (tables : List Routes) (t : Table) (metric : AreMetric terminals tables)
    (rows : FillsRows terminals tables (length terminals) t) where
  entry : (i j : ℕ) → i < t.size → j < t.size → cost_of t i j ≡ pos (terminal_cost terminals tables i j)
  entry i j l m =
      let low_i : i < length terminals = omega (arith, rows.size) in
      let low_j : j < length terminals = omega (arith, rows.size) in
      elim (cases_lt j i) [
        | inl less ↦ rows.forth i j low_i less
        | inr more ↦ elim (cases_eq i j) [
          | inl same ↦
              let zero : terminal_cost terminals tables i j ≡ 0 = omega (arith, ap (apart terminals tables i) (sym same), metric.diagonal i low_i) in
              ap (cost_of t i) (sym same) ∙ rows.diagonal i low_i ∙ sym (ap pos zero)
          | inr differs ↦
              let turned : terminal_cost terminals tables j i ≡ terminal_cost terminals tables i j = omega (arith, metric.symmetric i j low_i low_j) in
              rows.back j i low_j (omega arith) ∙ ap pos turned
        ]
      ]

  -- the cost of two terminals is their doubled distance
  pub cost_is : (i j : ℕ) → i < t.size → j < t.size → cost t i j ≡ terminal_cost terminals tables i j
  cost_is i j l m = ap nat_of (entry i j l m)

  -- the filled table is one that an engine takes
  pub IsMetric-rows : IsMetric t
  IsMetric-rows = record {
    even_size = subst (λ n. n % 2 ≡ 0) (sym rows.size) metric.even;
    small = omega (arith, rows.size, metric.few);
    whole = λ i j l m. entry i j l m ∙ sym (ap pos (cost_is i j l m));
    even = λ i j l m. omega (arith, cost_is i j l m);
    bounded = λ i j l m. omega (arith, cost_is i j l m, (metric.reaches i (omega (arith, rows.size)) j 0 (omega (arith, rows.size))).near);
    symmetric = λ i j l m. omega (arith, cost_is i j l m, cost_is j i m l, metric.symmetric i j (omega (arith, rows.size)) (omega (arith, rows.size)));
    diagonal = λ i l. omega (arith, cost_is i i l l, metric.diagonal i (omega (arith, rows.size)));
    triangle = λ i j k l m n.
        let most = metric.triangle i j k (omega (arith, rows.size)) (omega (arith, rows.size)) (omega (arith, rows.size)) in
        omega (arith, cost_is i k l n, cost_is i j l m, cost_is j k m n, most);
  }

  -- what a family of the engine says of the terminals
  module _ (f : Family) (leaves : leaf_count f ≡ t.size) where
    -- slacks by the table and by the distances are the same
    pub NoSlackIsNegative-matched : NoSlackIsNegative f (cost t) → NoSlackIsNegative f (terminal_cost terminals tables)
    NoSlackIsNegative-matched slack = λ i j l m. omega (arith, slack i j l m, cost_is i j (omega (arith, leaves)) (omega (arith, leaves)))

    -- a matching of the engine pairs the terminals
    pub IsPairing-matched : (mates : List ℕ) → IsMatching f (cost t) mates → IsPairing (length terminals) mates
    IsPairing-matched mates matching = subst (λ n. IsPairing n mates) (leaves ∙ rows.size) matching.pairing

  -- and what the pairs cost
  pub same_cost : (mates : List ℕ) → IsPairing (length terminals) mates → pairing_cost (cost t) mates ≡ pairing_cost (terminal_cost terminals tables) mates
  same_cost mates pairing =
      sum_by-range (λ u. cond (ltb u (get_or mates u 0)) (cost t u (get_or mates u 0)) 0) (length mates)
      ∙ sum_below-same (λ u. cond (ltb u (get_or mates u 0)) (cost t u (get_or mates u 0)) 0)
      (λ u. cond (ltb u (get_or mates u 0)) (terminal_cost terminals tables u (get_or mates u 0)) 0) (length mates)
      (λ u l. ap (λ c. cond (ltb u (get_or mates u 0)) c 0)
      (cost_is u (get_or mates u 0) (omega (arith, rows.size, pairing.count)) (omega (arith, rows.size, pairing.low u (omega (arith, pairing.count))))))
      ∙ sym (sum_by-range (λ u. cond (ltb u (get_or mates u 0)) (terminal_cost terminals tables u (get_or mates u 0)) 0) (length mates))

-- two clauses on a value, where there is one
pub both : {X E : Type 0} (r : Result X E) (P Q R : X → Type 0) → ((x : X) → P x → Q x → R x) → IfOk r P → IfOk r Q → IfOk r R
both (Ok x) P Q R f p q = f x p q
both (Err e) P Q R f p q = tt
