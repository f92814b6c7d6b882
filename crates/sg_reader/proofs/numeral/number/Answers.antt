use Rattle.std.proofs.Common.{◌≡◌, ℕ, ◌<◌, ◌^◌, Bool, cond, pos, neg_ℤ, Some, sym, ◌∙◌, ap, ap₂, subst, arith, rules, w64}
use Rattle.std.proofs.lemmas.Int.{to_z-of_z}
use Rattle.std.specs.Str.Parse.{IsNumeral, digits_value, without_leading_sign}
use Rattle.sg_reader.specs.Tests.{size_of}
use Rattle.sg_reader.proofs.NumberLaws.{number_of-none, number_of-some}
use Rattle.sg_reader.proofs.numeral.number.Goals as goal

pub returns : goal.returns
returns c =
    let field = c.args.field.now in
    let numeral : IsNumeral 10 (without_leading_sign field) = subst (IsNumeral 10) c.after_sign.ensures c.in_ok-size.ensures.numeral in
    let value : c.in_ok-size.size ≡ size_of field = c.in_ok-size.ensures.value ∙ ap (digits_value 10) c.after_sign.ensures in
    let small : size_of field < 2 ^ 63 = omega (arith, c.in_ok-size.ensures.small, value) in
    ap Some (to_z-of_z w64 c.signed.result (search rules) ∙ c.signed.ensures
    ∙ ap₂ (λ (b : Bool) (n : ℕ). cond b (neg_ℤ (pos n)) (pos n)) c.is_minus.ensures value) ∙ sym (number_of-some field numeral small)

pub returns-in_err-size : goal.returns-in_err-size
returns-in_err-size c = c.from_residual.ensures ∙ sym (number_of-none _ (rw c.after_sign.ensures at c.in_err-size.ensures.none))
