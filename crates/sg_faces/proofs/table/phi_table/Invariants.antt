use Rattle.std.proofs.Common.{◌≡◌, count_by}
use Rattle.std.specs.List.{range_with_len}
use Rattle.sg_faces.specs.Faces.{is_bare}
use Rattle.sg_faces.specs.Tables.{HasPhi}
use Rattle.sg_faces.proofs.table.phi_table.Given as goal

-- the lists of the spins before this one are entered, and the bare ones among them are counted
abbrev pub invariant-loop-spin : goal.invariant-loop-spin
invariant-loop-spin l = record {
  entered : HasPhi l.inst l.table.items l.spin;
  counted : l.bare ≡ count_by (is_bare l.inst) (range_with_len 0 l.spin);
}
