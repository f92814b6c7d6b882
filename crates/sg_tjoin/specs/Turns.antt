-- Marks on the edges that walks cross, toggled at each crossing.
use Rattle.std.specs.Prelude.{◌≡◌, ℕ, ◌<◌, ◌==◌, ◌&&◌, Bool, cond, nat_lt, List, [], length, slice_index, All}
use Rattle.sg_base.specs.Ends.{is_end}
use Rattle.sg_base.specs.Parity.{parity_by, parity_below, xor}
use Rattle.sg_base.specs.Sets.{is_marked}
use Rattle.sg_base.specs.Sums.{sum_below}
use Rattle.sg_graph.specs.Table.{Routes}
use Rattle.sg_graph.specs.Walk.{IsWebWalk}
use Rattle.sg_graph.specs.Web.{Graph, edge_at, edge_count, weight_of}
use Rattle.sg_tjoin.specs.Doubled.{apart}

-- the marks of the edges of some walk of this weight are toggled
pub record TurnsWalk (g : Graph) (from to weight : ℕ) (old new : List Bool) : Type 0 where
  pub count : length new ≡ length old
  pub walk : List ℕ
  pub leads : IsWebWalk g from walk to
  pub weighs : weight_of g walk ≡ weight
  pub turned : (e : ℕ) → e < length old →
      is_marked new e ≡ xor (is_marked old e) (parity_by (λ k. k == e) walk)

-- i is the lesser of two mates
abbrev pub leads_pair : List ℕ → ℕ → Bool
leads_pair mates i = nat_lt i (slice_index mates i)

-- and x is the terminal of just one of the two
abbrev pub ends_pair : List ℕ → List ℕ → ℕ → ℕ → Bool
ends_pair terminals mates x i = leads_pair mates i && xor (slice_index terminals i == x)
    (slice_index terminals (slice_index mates i) == x)

-- x is one end of edge e, and not both
abbrev pub is_odd_end : Graph → ℕ → ℕ → Bool
is_odd_end g x e = is_end (edge_at g e).a (edge_at g e).b x

-- the marks of all edges of walks between the first few mates were toggled
pub record AreTurned (g : Graph) (terminals : List ℕ) (tables : List Routes) (mates : List ℕ) (upto : ℕ)
    (marks : List Bool) : Type 0 where
  pub count : length marks ≡ edge_count g
  pub walks : List ℕ
  pub bare : upto ≡ 0 → walks ≡ []
  pub below : All (λ e. e < edge_count g) walks
  pub turned : (e : ℕ) → e < edge_count g → is_marked marks e ≡ parity_by (λ k. k == e) walks
  pub ends : (x : ℕ) → parity_by (is_odd_end g x) walks ≡ parity_below (ends_pair terminals mates x) upto
  pub weighs : weight_of g walks ≡ sum_below (λ i. cond (leads_pair mates i)
      (apart terminals tables i (slice_index mates i)) 0) upto
