use Rattle.sg_reader.specs.Kept.{kept_of}
use Rattle.sg_reader.proofs.RestLaws.{alone-reads, alone-refuses}
use Rattle.sg_graph_text.specs.Graph.{ReadsGraph, RefusesGraph}
use Rattle.sg_graph_text.proofs.network.read_alone.Goals as goal

pub returns-clause-gives : goal.returns-clause-gives
returns-clause-gives c =
    let records = kept_of c.args.bytes.now in
    let reads = rw c.new-rows.ensures at c.read_graph-given.ensures.read in
    alone-reads (ReadsGraph c.args.terms records) (RefusesGraph c.args.terms records) records c.read_graph-given.new.rows c.alone.new.rows _ _ reads
    c.alone.ensures.value c.alone.ensures.none

pub returns-clause-refuses : goal.returns-clause-refuses
returns-clause-refuses c =
    let records = kept_of c.args.bytes.now in
    let reads = rw c.new-rows.ensures at c.read_graph-given.ensures.read in
    let fails = rw c.new-rows.ensures at c.read_graph-given.ensures.fault in
    alone-refuses (ReadsGraph c.args.terms records) (RefusesGraph c.args.terms records) records _ _ _ _ reads fails c.alone.ensures.fault
