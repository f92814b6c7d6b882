use Rattle.std.proofs.Common.{◌≡◌, ℕ, ◌-◌, ◌*◌, ◌^◌, ◌≤◌, ℤ, ◌≤ℤ◌, to_z, of_z, ap, ◌∙◌, subst, sym, arith}
use Rattle.std.specs.Int.{w128}
use Rattle.std.proofs.Math.Pow.{pow_mono}
use Rattle.std.proofs.lemmas.Int.{ints, to_z-of_z}
use Rattle.sg_model.specs.Energy.{energy}
use Rattle.sg_model.specs.Codes.{coded}
use Rattle.sg_model.proofs.PlainSearch.{beats-found, beats-kept}
use Rattle.sg_model.proofs.plain.best_half.Goals as goal
use Rattle.sg_model.proofs.plain.best_half.Goals.{then-energy-least, else-energy-least}

pub loop-half-preserved : goal.loop-half-preserved
loop-half-preserved c =
    let inst = c.args.inst.now in
    let half = c.loop-half.half in
    let f : ℕ → ℤ = λ k. energy inst (coded inst.n (2 * k)) in
    let written = c.assign-in-loop-half.ensures.value ∙ ap (λ n. coded n (2 * half)) c.loop-half.invariant.count in
    let here : to_z w128 (of_z w128 c.energy-energy.result) ≡ f half =
    to_z-of_z w128 _ (record { sfits = c.energy-energy.type_inv }) ∙ c.energy-energy.ensures ∙ ap (energy inst) written in
    let few : 2 ^ (c.n.result - 1) ≤ 2 ^ 15 = pow_mono {i = c.n.result - 1} {j = 15} (omega arith) in
    let count = c.assign-in-loop-half.ensures.count ∙ c.loop-half.invariant.count in
    elim c.if-energy-least.branch [
      | then-energy-least w ↦ record {
        count = count;
        found = w.least-is ∙ here ∙ ap f (sym w.best-is);
        size = omega arith;
        below = λ k l. subst (λ x. x ≤ℤ f k) (sym w.least-is) (beats-found f (to_z w128 c.loop-half.least-bits) _ half here (grind arith)
            c.loop-half.invariant.below k l);
      }
      | else-energy-least w ↦ record {
        count = count;
        found = w.least-is ∙ c.loop-half.invariant.found ∙ ap f (sym w.best-is);
        size = omega arith;
        below = λ k l. subst (λ x. x ≤ℤ f k) (sym w.least-is) (beats-kept f (to_z w128 c.loop-half.least-bits) _ half here (omega (arith, ints))
            c.loop-half.invariant.below k l);
      }
    ]
