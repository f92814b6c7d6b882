use Rattle.std.proofs.Common.{rules, ◌≡◌, ◌∙◌, length, w64, to_z-of_z}
use Rattle.sg_calls.specs.Proofs.{nest_lists}
use Rattle.sg_calls.proofs.CrossingLemmas.{shows}
use Rattle.sg_calls.proofs.JoinLemmas.{large_only}
use Rattle.ising2d_c.proofs.joins.ising2d_c_join.Goals as goal

pub returns-in-Ok-clause-found : goal.returns-in-Ok-clause-found
returns-in-Ok-clause-found c = λ done.
    let found = c.in-Ok.ensures.gives in
    let rows = c.in-Ok.rows in
    let edges : c.len.result ≡ length c.in-Ok.found.edges = search rules in
    let regions : c.len-in-Ok.result ≡ length rows.parents.items = search rules in
    let nodes : c.len-in-Ok-2.result ≡ length rows.regions.items = search rules in
    rw (to_z-of_z {w = w64} {z = c.in-Ok.found.weight} (search rules)) (record {
      edges = found.edges;
      nest = found.nest;
      least = found.least;
      weighs = found.weighs;
      proves = found.proves;
      crossed = (
        shows _ _ _ _ _ (c.as_slice.ensures ∙ found.crossed.0) c.fill.ensures,
        rw found.crossed.0 at edges,
        record {
          lists = nest_lists rows.parents.items rows.radii.items rows.regions.items rows.at_radii.items;
          rows = found.crossed.1;
          shows_parents = shows _ _ _ _ _ c.as_slice-in-Ok.ensures.value c.fill-in-Ok.ensures;
          shows_radii = shows _ _ _ _ _ c.as_slice-in-Ok-2.ensures.value c.fill-in-Ok-2.ensures;
          shows_regions = shows _ _ _ _ _ c.as_slice-in-Ok-3.ensures.value c.fill-in-Ok-3.ensures;
          shows_at_radii = shows _ _ _ _ _ c.as_slice-in-Ok-4.ensures.value c.fill-in-Ok-4.ensures;
          counts_regions = regions;
          counts_faces = nodes;
        },
      );
    })

pub returns-in-Err-TablesTooLarge-clause-large : goal.returns-in-Err-TablesTooLarge-clause-large
returns-in-Err-TablesTooLarge-clause-large c = λ done. large_only c.args.nodes c.args.terminals.now (search rules)
