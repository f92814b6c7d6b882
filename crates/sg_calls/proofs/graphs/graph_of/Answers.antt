use Rattle.std.proofs.Common.{◌∙◌, ap, length}
use Rattle.std.proofs.lemmas.List.FromFn.{length-map-range_with_len}
use Rattle.sg_calls.specs.Crossing.{entries_of}
use Rattle.sg_calls.proofs.graphs.graph_of.Goals as goal

pub build_general-requires-clause-lists : goal.build_general-requires-clause-lists
build_general-requires-clause-lists c =
    ap length c.in_ok-rotation.ensures
    ∙ length-map-range_with_len (entries_of c.args.given.now.starts.now c.args.given.now.darts.now) 0 c.args.given.now.n
