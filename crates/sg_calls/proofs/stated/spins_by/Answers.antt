use Rattle.std.proofs.Common.{◌≡◌, ◌∙◌, Bool, ℤ, false, get_or, pos, Some, ap, arith, sym}
use Rattle.std.proofs.lemmas.Grind.{common_steps}
use Rattle.sg_reader.specs.Result.{is_spin_value}
use Rattle.sg_calls.proofs.FirstLemmas.{place-none, place-some}
use Rattle.sg_calls.proofs.StatedLemmas.{by_value, values-pass}
use Rattle.sg_calls.proofs.stated.spins_by.Goals as goal

abbrev is_spin : ℤ → Bool
is_spin value = is_spin_value (Some value)

pub returns-then-not-is_spin-clause-refuses : goal.returns-then-not-is_spin-clause-refuses
returns-then-not-is_spin-clause-refuses c =
    let values = c.args.values.now in
    let k = c.loop-k.k in
    let bad : is_spin (get_or values k (pos 0)) ≡ false = sym c.is_spin.ensures.value ∙ c.if-not-is_spin.true in
    by_value values k (omega arith) (place-some is_spin values (pos 0) k c.loop-k-test.true c.loop-k.invariant.passes bad)
    ∙ ap Some (sym c.bad_entry.ensures)

pub returns-clause-passes : goal.returns-clause-passes
returns-clause-passes c =
    let values = c.args.values.now in
    values-pass values (omega arith) (place-none is_spin values (pos 0) (λ i inside. c.loop-k.invariant.passes i (omega arith)))

pub loop-k-preserved : goal.loop-k-preserved
loop-k-preserved c = grind (arith, common_steps)
