use Rattle.std.proofs.Common.{◌≡◌, ℕ, false, true, List, Option, None, Some, set, get_or, sym, ◌∙◌, ap, ap₂, arith, refl, is_some, slice_get}
use Rattle.std.proofs.lemmas.Option.{get_or_from_slice_get}
use Rattle.sg_model.specs.declared.refusal.Refusal.TheVariants.{BadShape}
use Rattle.sg_reader.proofs.TestLaws.{or-first}
use Rattle.sg_reader.proofs.GeneralLaws.{among-lists, rot-numbers, rot-refused, rot-taken, rot_fault-left}
use Rattle.sg_reader.proofs.RestLaws.{failed}
use Rattle.sg_reader.proofs.general.GeneralBody.take_rot.Goals as goal

-- the darts at the place of a spin
kept-at : (lists : List (Option (List ℕ))) (k s : ℕ) → k ≡ s → (o : Option (List ℕ)) → slice_get lists k ≡ Some o → is_some (get_or lists s None) ≡ is_some o
kept-at lists k s same o at = rw (← same) (ap is_some (get_or_from_slice_get lists k o None at))

pub rot_spin-requires-clause-some : goal.rot_spin-requires-clause-some
rot_spin-requires-clause-some c = c.requires.held.held.some

pub returns-in_err-spin-clause-fault : goal.returns-in_err-spin-clause-fault
returns-in_err-spin-clause-fault c = failed _ _ c.from_residual.ensures.1 (rot-numbers _ _ _ c.requires.word c.in_err-spin.ensures.refused)

pub returns-in_err-darts-clause-fault : goal.returns-in_err-darts-clause-fault
returns-in_err-darts-clause-fault c =
    let n = c.args.self.now.n in
    failed _ _ c.from_residual-in_err-darts.ensures.1 (rot-numbers _ _ _ c.requires.word
    (λ seen. rw (rot_fault-left n seen c.args.row.now c.in_ok-spin.ensures.count c.in_ok-spin.ensures.passes) (or-first _ _ _ c.in_err-darts.ensures.fault)))

pub at-requires : goal.at-requires
at-requires c = among-lists c.args.self.now c.in_ok-spin.spin c.requires.held c.in_ok-spin.ensures.below

pub returns-then-is_some-clause-fault : goal.returns-then-is_some-clause-fault
returns-then-is_some-clause-fault c =
    let value = c.in_ok-spin.ensures.value in
    let below = c.in_ok-spin.ensures.below in
    rot-refused _ _ _ _ (kept-at _ _ _ value _ c.at.ensures ∙ sym c.is_some.ensures ∙ c.if-is_some.true) (omega (arith, value, below)) c.requires.word
    (rot_fault-left c.args.self.now.n true c.args.row.now c.in_ok-spin.ensures.count c.in_ok-spin.ensures.passes
    ∙ rw c.in_ok-darts.ensures.passes (ap (λ (k : ℕ). Some (BadShape k)) (sym c.at-then-is_some.ensures.value)))

pub returns-clause-taken : goal.returns-clause-taken
returns-clause-taken c =
    let n = c.args.self.now.n in
    let value = c.in_ok-spin.ensures.value in
    let below = c.in_ok-spin.ensures.below in
    rot-taken _ _ _ _ (kept-at _ _ _ value _ c.at.ensures ∙ sym c.is_some.ensures ∙ c.if-is_some.false) (omega (arith, value, below)) c.requires.word
    (rot_fault-left n false c.args.row.now c.in_ok-spin.ensures.count c.in_ok-spin.ensures.passes ∙ rw c.in_ok-darts.ensures.passes refl) refl refl refl
    (c.set.ensures ∙ ap₂ (λ (k : ℕ) (l : List ℕ). set c.args.self.now.rotation k (Some l)) value c.in_ok-darts.ensures.value)

pub set-requires : goal.set-requires
set-requires c = among-lists c.args.self.now c.in_ok-spin.spin c.requires.held c.in_ok-spin.ensures.below
