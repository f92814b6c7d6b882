-- `run`: with all tops paired, the derived pairs are a matching of the costs given.
use Rattle.std.proofs.Common.{◌≡◌, ◌*◌, ◌≤◌, rules, ℕ, List, Option, ap, ◌∙◌, subst, sym}
use Rattle.std.proofs.lemmas.List.{with_items_is}
use Rattle.sg_arena.specs.Family.{leaf_count}
use Rattle.sg_match.proofs.Engine.run.Given.{Over}
use Rattle.sg_match.proofs.Engine.run.Goals as goal
use Rattle.sg_match.proofs.EngineLemmas.{state_of, symmetric}
use Rattle.sg_match.proofs.StageLemmas.{steps-paired}
use Rattle.sg_match.specs.Feasible.{IsFeasible}
use Rattle.sg_slack.specs.Tight.{IsTight}
use Rattle.sg_slack.proofs.DualBound.{cost-is_duals, matching_least}
use Rattle.sg_slack.specs.Matching.{IsMatching, IsPairing}
use Rattle.sg_slack.specs.Metric.{cost}
use Rattle.sg_match.specs.Pairs.{AllPaired, IsPaired}
use Rattle.sg_match.specs.State.{State}
use Rattle.sg_match.specs.declared.Edge.{Edge}
use Rattle.sg_slack.specs.Table.{Table}

pub derive_mates-requires-clause-paired : goal.derive_mates-requires-clause-paired
derive_mates-requires-clause-paired g c =
    subst (λ (xs : List (Option Edge)). IsPaired c.self.inside.arena (λ u v. Unit {0}) xs) (sym c.deref.ensures.value)
    (record { own = c.self.invariant.engine.paired.own; other = c.self.invariant.engine.paired.other; tight = λ t p top some. tt })

same_table : (g : Over) (c : goal.After-drop-self-inside-12 g) → c.self.inside.near.table ≡ c.args.self.table
same_table g c = ap (λ (s : State). s.table) c.self.view_is ∙ c.advance.ensures.table ∙ c.loop-node.invariant.0

pub returns-clause-slack : goal.returns-clause-slack
returns-clause-slack g c =
    let feasible = subst (λ (t : Table). (IsFeasible c.self.inside.arena (cost t))) (same_table g c) c.self.invariant.engine.feasible in
    feasible.slack

pub returns-clause-matching : goal.returns-clause-matching
returns-clause-matching g c =
    let engine = c.self.invariant.engine in
    let paired = subst (λ (xs : List (Option Edge)). IsPaired c.self.inside.arena (IsTight c.self.inside.arena (cost c.self.inside.near.table)) xs)
    (sym c.deref.ensures.value) engine.paired in
    let derived = c.derive_mates.ensures (cost c.self.inside.near.table) (symmetric (state_of c.self.inside) engine) engine.feasible paired in
    let written = with_items_is c.self.inside.mates c.derive_mates.new.mates (c.derive_mates.auto.mates ∙ c.deref_mut.ensures.len) in
    subst (λ (t : Table). IsMatching c.self.inside.arena (cost t) c.from_vec.result) (same_table g c)
    (subst (λ (xs : List ℕ). IsMatching c.self.inside.arena (cost c.self.inside.near.table) xs) (sym (c.from_vec.ensures ∙ written)) derived)

matched : (g : Over) (c : goal.After-drop-self-inside-12 g) → IsMatching c.self.inside.arena (cost c.args.self.table) c.from_vec.result
matched g c = returns-clause-matching g c

pub returns-clause-duals : goal.returns-clause-duals
returns-clause-duals g c = cost-is_duals c.self.inside.arena c.from_vec.result (cost c.args.self.table) (matched g c)

pub returns-clause-least : goal.returns-clause-least
returns-clause-least g c other pairing =
    let size : leaf_count c.self.inside.arena ≡ c.args.self.table.size = c.self.invariant.engine.leaves ∙ ap (λ (t : Table). t.size) (same_table g c) in
    matching_least c.self.inside.arena (cost c.args.self.table) c.from_vec.result other c.self.invariant.engine.feasible.family (returns-clause-slack g c)
    (matched g c) (subst (λ k. IsPairing k other) (sym size) pairing)

pub returns-clause-bounded : goal.returns-clause-bounded
returns-clause-bounded g c =
    let all : AllPaired c.self.inside.arena c.self.inside.pairs.items = search rules in
    let few = steps-paired (state_of c.self.inside) c.self.invariant.engine all in
    subst (λ (t : Table). c.self.inside.arena.steps ≤ 2 * t.size * t.size) (same_table g c) few

pub returns-clause-alike : goal.returns-clause-alike
returns-clause-alike c = search rules
