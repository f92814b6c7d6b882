use Rattle.std.proofs.Common.{◌∙◌}
use Rattle.sg_model.specs.declared.refusal.Fault.TheVariants.{Refused}
use Rattle.sg_reader.proofs.EndedLaws.{end-fault}
use Rattle.sg_reader.proofs.ResultLaws.{loops-few, loops_fault-end}
use Rattle.sg_reader.proofs.RestLaws.{failed}
use Rattle.sg_reader.proofs.result.read_loops.Goals as goal

pub returns-in_err-read_to_end-clause-fault : goal.returns-in_err-read_to_end-clause-fault
returns-in_err-read_to_end-clause-fault c = failed _ _ c.from_residual.ensures.1 c.in_err-read_to_end.ensures.fault

pub returns-in_err-check_shape-clause-fault : goal.returns-in_err-check_shape-clause-fault
returns-in_err-check_shape-clause-fault c =
    let h = c.in_ok-read_to_end.ensures.ended in
    failed _ _ c.from_residual-in_err-check_shape.ensures.1 (end-fault _ _ _ _ _ _ _ h
    (Refused c.in_err-check_shape.field-0.0) (loops_fault-end h.body c.read_to_end.new.row h.ended.ends ∙ c.in_err-check_shape.ensures.refused))

pub returns-clause-read : goal.returns-clause-read
returns-clause-read c =
    let h = c.in_ok-read_to_end.ensures.ended in
    record {
      body = h.body;
      last = c.read_to_end.new.row;
      ended = h.ended;
      passes = loops_fault-end h.body _ h.ended.ends ∙ c.in_ok-check_shape.ensures.passes;
      value = h.held.loops;
    }

pub returns-clause-few : goal.returns-clause-few
returns-clause-few c =
    let h = c.in_ok-read_to_end.ensures.ended in
    loops-few _ h.body _ _ _ h.ended h.held.few c.requires
