use Rattle.std.proofs.Common.{◌≡◌, ◌∙◌, ap, inl, length, subst, sym, List, arith}
use Rattle.std.proofs.lemmas.Grind.{common_steps}
use Rattle.std.proofs.lemmas.List.{with_items_is}
use Rattle.sg_base.specs.Limits.{table_limit}
use Rattle.sg_draft.specs.Limits.{large_limits}
use Rattle.sg_bonds.specs.Bounds.{AreBounds, AreKnown, ForcedTablesExceed, Narrows}
use Rattle.sg_bonds.specs.declared.bounds.Bound.{Bound as Bounded}
use Rattle.sg_reader.proofs.RestLaws.{failed}
use Rattle.sg_calls.specs.BondCosts.{IsBoundsFault, bound_lists, bounds_by}
use Rattle.sg_calls.specs.Graphs.{numbers_of}
use Rattle.sg_calls.proofs.StudyLemmas.{by_solver, forced_exceeded}
use Rattle.sg_calls.proofs.asked.bond_costs.Goals as goal

pub returns-clause-gives : goal.returns-clause-gives
returns-clause-gives c = λ after says.
    let inst = c.in_ok-graph.graph.planar.instance in
    let new = c.costs_of.new.bounds in
    let own = c.in_ok-graph.ensures in
    let narrows = c.in_ok-costs_of.ensures.narrows in
    let old = c.deref_mut.ensures.value ∙ own.bounds in
    let items = c.into_bounds.ensures ∙ with_items_is c.in_ok-graph.graph.bounds new (c.costs_of.auto.bounds ∙ c.deref_mut.ensures.len) in
    let said : bounds_by after ≡ new = says.says ∙ items in
    let count = ap length items ∙ narrows.count ∙ ap length c.deref_mut.ensures.value ∙ own.count in
    record {
      instance = inst;
      given = own.given;
      study = record {
        passes = own.passes;
        count_low = says.count_low ∙ count;
        count_high = says.count_high ∙ count;
        narrows = subst (Narrows inst (bounds_by (bound_lists c.args.low.now c.args.high.now))) (sym said)
            (subst (λ (bounds : List Bounded). Narrows inst bounds new) old narrows);
        known = λ are. subst (λ (bounds : List Bounded). AreKnown inst bounds c.args.asked.now) (sym said)
            (c.in_ok-costs_of.ensures.known (subst (AreBounds inst) (sym old) are));
      };
    }

pub returns-in_err-costs_of-clause-refuses : goal.returns-in_err-costs_of-clause-refuses
returns-in_err-costs_of-clause-refuses c =
    let g = numbers_of c.args.given.now in
    failed c.from_residual-in_err-costs_of.result _ c.from_residual-in_err-costs_of.ensures.1
    (by_solver g c.in_ok-graph.graph.planar.instance c.in_ok-graph.ensures.given
    (IsBoundsFault large_limits g c.args.asked.now (bound_lists c.args.low.now c.args.high.now)) (inl (inl tt)) (ForcedTablesExceed table_limit) forced_exceeded
    c.in_err-costs_of.field-0.0 c.in_err-costs_of.ensures.too_large)

pub returns-clause-low : goal.returns-clause-low
returns-clause-low c = grind (arith, common_steps)

pub returns-clause-high : goal.returns-clause-high
returns-clause-high c = grind (arith, common_steps)
