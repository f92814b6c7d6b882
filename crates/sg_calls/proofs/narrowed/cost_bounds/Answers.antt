use Rattle.std.proofs.Common.{◌≡◌, ◌∙◌, ap, inl, length, subst, sym, All, List, [], arith}
use Rattle.std.proofs.lemmas.Grind.{common_steps}
use Rattle.std.proofs.lemmas.List.{with_items_is}
use Rattle.sg_base.specs.Limits.{table_limit}
use Rattle.sg_draft.specs.Limits.{large_limits}
use Rattle.sg_bonds.specs.Bounds.{AreBounds, Decides, Narrows}
use Rattle.sg_bonds.specs.Weakened.{WeakenedTablesExceed}
use Rattle.sg_bonds.specs.declared.bounds.Bound.{Bound as Bounded}
use Rattle.sg_reader.proofs.RestLaws.{failed}
use Rattle.sg_calls.specs.BondCosts.{IsBoundsFault, bound_lists, bounds_by}
use Rattle.sg_calls.specs.Graphs.{numbers_of}
use Rattle.sg_calls.proofs.StudyLemmas.{by_solver, weakened_exceeded}
use Rattle.sg_calls.proofs.narrowed.cost_bounds.Goals as goal

pub returns-clause-gives : goal.returns-clause-gives
returns-clause-gives c = λ after says.
    let inst = c.in_ok-graph.graph.planar.instance in
    let new = c.bond_bounds.new.bounds in
    let own = c.in_ok-graph.ensures in
    let narrows = c.bond_bounds.ensures.narrows in
    let old = c.deref_mut.ensures.value ∙ own.bounds in
    let items = c.into_bounds.ensures ∙ with_items_is c.in_ok-graph.graph.bounds new (c.bond_bounds.auto.bounds ∙ c.deref_mut.ensures.len) in
    let said : bounds_by after ≡ new = says.says ∙ items in
    let count = ap length items ∙ narrows.count ∙ ap length c.deref_mut.ensures.value ∙ own.count in
    record {
      instance = inst;
      given = own.given;
      study = record {
        passes = own.passes;
        count_low = says.count_low ∙ count;
        count_high = says.count_high ∙ count;
        narrows = subst (Narrows inst (bounds_by (bound_lists c.args.low.now c.args.high.now))) (sym said)
            (subst (λ (bounds : List Bounded). Narrows inst bounds new) old narrows);
        decided = λ are. subst (All Decides) (sym said) (c.in_ok-bond_bounds.ensures.decided (subst (AreBounds inst) (sym old) are));
      };
    }

pub returns-in_err-bond_bounds-clause-refuses : goal.returns-in_err-bond_bounds-clause-refuses
returns-in_err-bond_bounds-clause-refuses c =
    let g = numbers_of c.args.given.now in
    failed c.from_residual-in_err-bond_bounds.result _ c.from_residual-in_err-bond_bounds.ensures.1
    (by_solver g c.in_ok-graph.graph.planar.instance c.in_ok-graph.ensures.given
    (IsBoundsFault large_limits g [] (bound_lists c.args.low.now c.args.high.now)) (inl (inl tt)) (WeakenedTablesExceed table_limit) weakened_exceeded
    c.in_err-bond_bounds.field-0.0 c.in_err-bond_bounds.ensures.too_large)

pub returns-clause-low : goal.returns-clause-low
returns-clause-low c = grind (arith, common_steps)

pub returns-clause-high : goal.returns-clause-high
returns-clause-high c = grind (arith, common_steps)
