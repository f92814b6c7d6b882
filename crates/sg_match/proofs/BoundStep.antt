-- How the bound on all steps is kept.
use Rattle.std.proofs.Common.{◌≡◌, ◌+◌, ◌*◌, ◌≤◌, None, ap, sym, ◌∙◌, arith, length}
use Rattle.std.proofs.lemmas.Option.{none-some}
use Rattle.sg_match.proofs.EngineLemmas.{no_edges}
use Rattle.sg_match.specs.Bound.{IsBounded}
use Rattle.sg_match.specs.Engine.{IsEngine}
use Rattle.sg_match.specs.State.{State}
use Rattle.sg_match.specs.Steps.{steps_left}

-- where the sum is in the bound, whatever may be due
pub IsBounded-made : (s : State) → s.family.steps + steps_left s ≤ 2 * s.table.size * s.table.size → IsBounded s
IsBounded-made s few = record { due = omega (arith, few); calm = λ calm. few }

-- where no tree stands, nothing is due
pub bound-bare : (s : State) → IsEngine s → s.root ≡ None → s.family.steps + steps_left s ≤ 2 * s.table.size * s.table.size
bound-bare s engine bare =
    engine.bounded.calm (record {
      inner_zero = λ node zero. omega (arith, zero.within, ap (λ xs. length xs) (no_edges s engine bare));
      free = λ root u v is at. none-some root (sym bare ∙ is);
      both = λ root u v is at. none-some root (sym bare ∙ is);
    })
