use Rattle.std.proofs.Common.{◌≡◌, [], ℕ, map, ◌∙◌, ap, arith, refl}
use Rattle.std.specs.List.{range_with_len}
use Rattle.sg_reader.specs.Body.{rot_in}
use Rattle.sg_reader.proofs.GeneralLaws.{holds-none, no_darts-more}
use Rattle.sg_reader.proofs.general.GeneralBody.new.Goals as goal

pub returns-clause-holds : goal.returns-clause-holds
returns-clause-holds c =
    let all : c.loop-spin._spin ≡ c.args.n = omega arith in
    holds-none _ c.requires c.new.ensures refl (c.loop-spin.invariant ∙ ap (λ (k : ℕ). map (rot_in []) (range_with_len 0 k)) all)

pub loop-spin-preserved : goal.loop-spin-preserved
loop-spin-preserved c = c.in_ok-push.ensures.ok ∙ no_darts-more c.loop-spin.rotation c.loop-spin._spin c.loop-spin.invariant
