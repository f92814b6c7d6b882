use Rattle.std.proofs.Common.{rules, ◌≡◌, ℕ, ℤ, pos, ◌+ℤ◌, w64, to_z, of_z, to_z-of_z}
use Rattle.sg_model.specs.Energy.{IsLeastEnergy, weight}
use Rattle.sg_draws.proofs.Samples.{broken_at, twice_broken}
use Rattle.sg_draws.proofs.sample.summary_reply.Goals as goal

pub sample_text-requires : goal.sample_text-requires
sample_text-requires c =
    let inst = c.args.planar.now.instance in
    let energy : ℤ = c.in_ok-energy.energy in
    let least : IsLeastEnergy inst energy = c.in_ok-energy.ensures.least in
    let broken : ℕ = broken_at inst energy least in
    let twice = twice_broken inst energy c.instance-instance.ensures.planar.instance least in
    let size : c.size_sum.result ≡ pos (weight inst) = search rules in
    let p : pos broken +ℤ pos broken ≡ to_z w64 (of_z w64 energy) +ℤ to_z w64 (of_z w64 c.size_sum.result) =
    rw (to_z-of_z {w = w64} {z = energy} (search rules), to_z-of_z {w = w64} {z = c.size_sum.result} (search rules), size) twice in
    record { even = (pos broken, p) }

pub returns-clause-served : goal.returns-clause-served
returns-clause-served c =
    let inst = c.args.planar.now.instance in
    let energy : ℤ = c.in_ok-energy.energy in
    let least : IsLeastEnergy inst energy = c.in_ok-energy.ensures.least in
    let broken : ℕ = broken_at inst energy least in
    let twice = twice_broken inst energy c.instance-instance.ensures.planar.instance least in
    let size : c.size_sum.result ≡ pos (weight inst) = search rules in
    let p : pos broken +ℤ pos broken ≡ to_z w64 (of_z w64 energy) +ℤ to_z w64 (of_z w64 c.size_sum.result) =
    rw (to_z-of_z {w = w64} {z = energy} (search rules), to_z-of_z {w = w64} {z = c.size_sum.result} (search rules), size) twice in
    let text = c.in_ok-text.ensures (pos broken) p in
    record {
      energy = energy;
      broken = pos broken;
      least = least;
      half = twice;
      printed = search rules;
      done = c.done.ensures.status;
    }
