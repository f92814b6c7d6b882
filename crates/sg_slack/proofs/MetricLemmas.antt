-- Costs that an engine takes, from the parts of the test.
use Rattle.std.proofs.Common.{◌≡◌, ℕ, ◌<◌, ◌≤◌, ◌%◌, ◌^◌, ap}
use Rattle.sg_base.specs.Naturals.{nat_of}
use Rattle.sg_slack.specs.Table.{Table}
use Rattle.sg_slack.specs.Fit.{AreFit, IsDirect}
use Rattle.sg_slack.specs.Metric.{IsMetric}

-- an even number of leaves, few, with fit entries and no shorter way over a third: costs that an engine takes
pub IsMetric-parts : (t : Table) → t.size % 2 ≡ 0 → t.size ≤ 2 ^ 24 → AreFit t → ((u : ℕ) → u < t.size → IsDirect t u) → IsMetric t
IsMetric-parts t even small fit direct = record {
  even_size = even;
  small = small;
  whole = λ u v low_u low_v. ((fit.rows u low_u).fit v low_v).even.whole;
  even = λ u v low_u low_v. ((fit.rows u low_u).fit v low_v).even.even;
  bounded = λ u v low_u low_v. ((fit.rows u low_u).fit v low_v).even.bounded;
  symmetric = λ u v low_u low_v. ap nat_of ((fit.rows u low_u).fit v low_v).symmetric;
  diagonal = λ u low. ap nat_of (fit.rows u low).diagonal;
  triangle = λ u v w low_u low_v low_w. ((direct u low_u).over v low_v).direct w low_w;
}

-- in such costs no way over a third leaf is cheaper
pub IsDirect-metric : (t : Table) → IsMetric t → (u : ℕ) → u < t.size → IsDirect t u
IsDirect-metric t metric u low_u = record { over = λ v low_v. record { direct = λ w low_w. metric.triangle u v w low_u low_v low_w } }
