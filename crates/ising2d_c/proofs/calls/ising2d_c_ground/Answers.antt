use Rattle.std.proofs.Common.{rules, ◌≡◌, ◌∙◌, ap, length, w64, to_z-of_z}
use Rattle.std.proofs.lemmas.List.{length-map}
use Rattle.sg_calls.specs.Proofs.{loop_lists}
use Rattle.sg_calls.proofs.CrossingLemmas.{shows}
use Rattle.ising2d_c.proofs.calls.ising2d_c_ground.Goals as goal

pub returns-in-Ok-clause-found : goal.returns-in-Ok-clause-found
returns-in-Ok-clause-found c = λ done.
    let all = c.in-Ok.ensures.gives in
    let found = all.study in
    let rows = c.in-Ok.rows in
    let loops : c.len.result ≡ length rows.weights.items = search rules in
    let bonds : c.len-in-Ok.result ≡ length rows.bonds.items = search rules in
    rw (to_z-of_z {w = w64} {z = c.in-Ok.found.energy} (search rules)) (record {
      instance = all.instance;
      given = all.given;
      study = record {
        spins = found.spins;
        loops = found.loops;
        least = found.least;
        proves = found.proves;
        short = found.short;
        leasts_up = found.leasts_up;
        crossed = (
          shows _ _ _ _ _ (c.as_slice.ensures.value ∙ found.crossed.0) c.fill.ensures,
          record {
            lists = loop_lists rows.weights.items rows.starts.items rows.bonds.items;
            rows = found.crossed.1;
            shows_weights = shows _ _ _ _ _ c.as_slice-in-Ok.ensures.value c.fill-in-Ok.ensures;
            shows_starts = shows _ _ _ _ _ c.as_slice-in-Ok-2.ensures.value c.fill-in-Ok-2.ensures;
            shows_bonds = shows _ _ _ _ _ c.as_slice-in-Ok-3.ensures.value c.fill-in-Ok-3.ensures;
            counts_loops = loops ∙ ap length found.crossed.1.weighed ∙ length-map found.loops (λ each. each.y);
            counts_bonds = bonds;
          },
        );
      };
    })
