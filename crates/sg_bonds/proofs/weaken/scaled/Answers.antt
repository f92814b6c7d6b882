use Rattle.std.proofs.Common.{◌≡◌, ◌<◌, ◌^◌, ◌*ℤ◌, ◌∙◌, ℤ, pos, ap, ap₂, arith, rules, to_z, of_z, w64, FitsSigned, unsigned_abs}
use Rattle.std.specs.Int.{w128}
use Rattle.std.proofs.lemmas.Int.{fits_signed_from_abs, to_z-of_z, unsigned_abs-mul}
use Rattle.sg_bonds.proofs.weaken.scaled.Goals as goal

pub returns : goal.returns
returns c =
    let z : ℤ = pos c.args.scale *ℤ c.args.coupling in
    let size : unsigned_abs z < 2 ^ 63 = omega (arith, unsigned_abs-mul (pos c.args.scale) c.args.coupling, c.requires) in
    let small : FitsSigned w64 z = fits_signed_from_abs w64 z (omega (arith, size)) in
    let large : FitsSigned w128 z = fits_signed_from_abs w128 z (omega (arith, size)) in
    let first : to_z w128 (of_z w128 c.from.result) ≡ pos c.args.scale = search rules in
    let second : to_z w128 (of_z w128 c.from-2.result) ≡ c.args.coupling = search rules in
    ap (λ x. to_z w64 (of_z w64 (to_z w128 (of_z w128 x)))) (ap₂ (λ x y. x *ℤ y) first second)
    ∙ ap (λ x. to_z w64 (of_z w64 x)) (to_z-of_z w128 z large)
    ∙ to_z-of_z w64 z small
