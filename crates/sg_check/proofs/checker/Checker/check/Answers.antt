use Rattle.std.proofs.Common.{subst}
use Rattle.sg_model.specs.WellFormed.{IsInstance}
use Rattle.sg_check.specs.Verdict.{IsVerdict}
use Rattle.sg_check.proofs.Verdicts.{proof_from_yes, yes_from_proof, ground_state_from_yes, least_energy_from_yes}
use Rattle.sg_check.proofs.checker.Checker.check.Goals as goal

pub returns-in-Some-clause-yes : goal.returns-in-Some-clause-yes
returns-in-Some-clause-yes c =
    let h : IsVerdict c.args.self.now c.args.text.now c.in-Some.verdict = rw (← c.self.view_is) c.in-Some.ensures.some in
    (proof_from_yes _ _ _ h, yes_from_proof _ _ _ h)

pub returns-in-Some-clause-ground_state : goal.returns-in-Some-clause-ground_state
returns-in-Some-clause-ground_state c =
    let h : IsVerdict c.args.self.now c.args.text.now c.in-Some.verdict = rw (← c.self.view_is) c.in-Some.ensures.some in
    ground_state_from_yes _ _ (subst IsInstance c.self.view_is c.judge_energy.ensures.instance) _ h

pub returns-in-Some-clause-least_energy : goal.returns-in-Some-clause-least_energy
returns-in-Some-clause-least_energy c =
    let h : IsVerdict c.args.self.now c.args.text.now c.in-Some.verdict = rw (← c.self.view_is) c.in-Some.ensures.some in
    least_energy_from_yes _ _ (subst IsInstance c.self.view_is c.judge_energy.ensures.instance) _ h

pub returns-clause-yes : goal.returns-clause-yes
returns-clause-yes c =
    let h : IsVerdict c.args.self.now c.args.text.now c.judge_loops.result = rw (← c.self.view_is) c.judge_loops.ensures.verdict in
    (proof_from_yes _ _ _ h, yes_from_proof _ _ _ h)

pub returns-clause-ground_state : goal.returns-clause-ground_state
returns-clause-ground_state c =
    let h : IsVerdict c.args.self.now c.args.text.now c.judge_loops.result = rw (← c.self.view_is) c.judge_loops.ensures.verdict in
    ground_state_from_yes _ _ (subst IsInstance c.self.view_is c.judge_energy.ensures.instance) _ h

pub returns-clause-least_energy : goal.returns-clause-least_energy
returns-clause-least_energy c =
    let h : IsVerdict c.args.self.now c.args.text.now c.judge_loops.result = rw (← c.self.view_is) c.judge_loops.ensures.verdict in
    least_energy_from_yes _ _ (subst IsInstance c.self.view_is c.judge_energy.ensures.instance) _ h
