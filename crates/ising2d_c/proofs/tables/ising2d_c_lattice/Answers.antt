use Rattle.std.proofs.Common.{rules, ◌≡◌, length}
use Rattle.sg_calls.specs.Lattices.{table_lists}
use Rattle.sg_calls.proofs.CrossingLemmas.{shows}
use Rattle.ising2d_c.proofs.tables.ising2d_c_lattice.Goals as goal

pub returns-in-Ok-clause-found : goal.returns-in-Ok-clause-found
returns-in-Ok-clause-found c = λ done.
    let all = c.in-Ok.ensures.gives in
    let found = c.in-Ok.found in
    let ends : c.len.result ≡ length found.ends.items = search rules in
    let starts : c.len-in-Ok.result ≡ length found.starts.items = search rules in
    let darts : c.len-in-Ok-2.result ≡ length found.darts.items = search rules in
    let seam : c.len-in-Ok-3.result ≡ length found.seam = search rules in
    record {
      instance = all.instance;
      given = all.given;
      study = record {
        lists = table_lists found.ends.items found.starts.items found.darts.items found.seam;
        tables = all.study;
        shows_ends = shows _ _ _ _ _ c.as_slice.ensures.value c.fill.ensures;
        shows_starts = shows _ _ _ _ _ c.as_slice-in-Ok.ensures.value c.fill-in-Ok.ensures;
        shows_darts = shows _ _ _ _ _ c.as_slice-in-Ok-2.ensures.value c.fill-in-Ok-2.ensures;
        shows_seam = shows _ _ _ _ _ c.as_slice-in-Ok-3.ensures c.fill-in-Ok-3.ensures;
        counts_ends = ends;
        counts_starts = starts;
        counts_darts = darts;
        counts_seam = seam;
      };
    }
