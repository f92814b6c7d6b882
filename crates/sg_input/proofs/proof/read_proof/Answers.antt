use Rattle.std.proofs.lemmas.Result.{err_from_is_err_and}
use Rattle.sg_reader.specs.Result.{ReadsResult, RefusesResult}
use Rattle.sg_reader.proofs.RestLaws.{alone-reads, alone-refuses}
use Rattle.sg_input.proofs.InputLemmas.{by_instance, by_result}
use Rattle.sg_input.proofs.proof.read_proof.Goals as goal

pub returns-in_err-instance-clause-refuses : goal.returns-in_err-instance-clause-refuses
returns-in_err-instance-clause-refuses c =
    let p = err_from_is_err_and c.from_residual.result c.from_residual.ensures.1 in
    let fails = rw c.new-rows.ensures at c.in_err-instance.ensures.fault in
    rw (p.1, p.2) (by_instance c.args.bytes.now c.read_instance.new.rows c.in_err-instance.field-0.0 fails)

pub returns-in_err-stated-clause-refuses : goal.returns-in_err-stated-clause-refuses
returns-in_err-stated-clause-refuses c =
    let p = err_from_is_err_and c.from_residual-in_err-stated.result c.from_residual-in_err-stated.ensures.1 in
    let behind = c.read_instance.new.rows in
    let reads = rw c.new-rows.ensures at c.in_ok-instance.ensures.read in
    let refuses = alone-refuses (ReadsResult behind) (RefusesResult behind) behind c.read_result-given.new.rows c.alone.new.rows
    c.read_result-given.result c.alone.result c.read_result-given.ensures.read c.read_result-given.ensures.fault c.alone.ensures.fault in
    rw (p.1, p.2) (by_result c.args.bytes.now c.in_ok-instance.instance behind c.in_err-stated.field-0.0 reads (rw c.in_err-stated.was at refuses))

pub returns-clause-gives : goal.returns-clause-gives
returns-clause-gives c =
    let behind = c.read_instance.new.rows in
    let states = alone-reads (ReadsResult behind) (RefusesResult behind) behind c.read_result-given.new.rows c.alone.new.rows
    c.read_result-given.result c.alone.result c.read_result-given.ensures.read c.alone.ensures.value c.alone.ensures.none in
    record {
      behind = behind;
      reads = rw c.new-rows.ensures at c.in_ok-instance.ensures.read;
      states = rw c.in_ok-stated.was at states;
    }
