use Rattle.std.proofs.Common.{take, ◌+◌, ◌≤◌}
use Rattle.sg_tjoin.specs.Counted.{steps_of}
use Rattle.sg_ground.specs.Counted.{all_steps}
use Rattle.sg_ground.proofs.Glued.{IsGlued}
use Rattle.sg_ground.proofs.parts.join_parts.Given as goal

abbrev pub invariant-loop-part : goal.invariant-loop-part
invariant-loop-part l = record {
  glued : IsGlued l.inst l.with_loops (take l.part-index l.parts) l.values.items l.energy l.loops;
  steps : steps_of l.steps ≤ steps_of l.fn.steps + all_steps (take l.part-index l.parts);
}
