use Rattle.std.proofs.Common.{rules, ◌≡◌, ◌∙◌, length, w64, to_z-of_z}
use Rattle.sg_calls.specs.Proofs.{nest_lists}
use Rattle.sg_calls.proofs.CrossingLemmas.{shows}
use Rattle.ising2d_c.proofs.calls.ising2d_c_nest.Goals as goal

pub returns-in-Ok-clause-found : goal.returns-in-Ok-clause-found
returns-in-Ok-clause-found c = λ done.
    let all = c.in-Ok.ensures.gives in
    let found = all.study in
    let rows = c.in-Ok.rows in
    let regions : c.len.result ≡ length rows.parents.items = search rules in
    let faces : c.len-in-Ok.result ≡ length rows.regions.items = search rules in
    rw (to_z-of_z {w = w64} {z = c.in-Ok.found.energy} (search rules)) (record {
      instance = all.instance;
      given = all.given;
      study = record {
        spins = found.spins;
        nest = found.nest;
        faces = found.faces;
        labels = found.labels;
        state = found.state;
        crossed = (
          shows _ _ _ _ _ (c.as_slice.ensures.value ∙ found.crossed.0) c.fill.ensures,
          record {
            lists = nest_lists rows.parents.items rows.radii.items rows.regions.items rows.at_radii.items;
            rows = found.crossed.1;
            shows_parents = shows _ _ _ _ _ c.as_slice-in-Ok.ensures.value c.fill-in-Ok.ensures;
            shows_radii = shows _ _ _ _ _ c.as_slice-in-Ok-2.ensures.value c.fill-in-Ok-2.ensures;
            shows_regions = shows _ _ _ _ _ c.as_slice-in-Ok-3.ensures.value c.fill-in-Ok-3.ensures;
            shows_at_radii = shows _ _ _ _ _ c.as_slice-in-Ok-4.ensures.value c.fill-in-Ok-4.ensures;
            counts_regions = regions;
            counts_faces = faces;
          },
        );
      };
    })
