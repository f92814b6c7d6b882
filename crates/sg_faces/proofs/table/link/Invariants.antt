use Rattle.std.proofs.Common.{◌≡◌, ◌≢◌, ℕ, ◌<◌, get_or, All}
use Rattle.sg_model.specs.Rotation.{following, rev}
use Rattle.sg_faces.proofs.table.link.Given as goal

-- the darts before this place are linked, and nothing else has changed
abbrev pub invariant-loop-place : goal.invariant-loop-place
invariant-loop-place l = record {
  follows : (k : ℕ) → k < l.place → get_or l.table (rev (get_or l.darts k 0)) 0 ≡ following l.darts (get_or l.darts k 0);
  kept : (x : ℕ) → All (λ d. rev d ≢ x) l.darts → get_or l.table x 0 ≡ get_or l.initial.table x 0;
}
