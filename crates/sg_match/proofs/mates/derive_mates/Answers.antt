-- `derive_mates`: the mates of all leaves are a matching.
use Rattle.std.proofs.Common.{get_or, set, ◌∙◌, inl, inr, subst, sym, arith, get_or-set_other, get_or-set_same}
use Rattle.std.proofs.Math.ListN.{length-set}
use Rattle.std.proofs.lemmas.Bool.{cases_eq}
use Rattle.sg_match.proofs.MatePairLemmas.{is_matching}
use Rattle.sg_match.proofs.mates.derive_mates.Goals as goal
use Rattle.sg_match.specs.MatePairs.{IsMate}

pub loop-leaf-preserved : goal.loop-leaf-preserved
loop-leaf-preserved c =
    let mates = c.loop-leaf.mates in
    let leaf = c.loop-leaf.leaf in
    let mate = c.mate_of.result in
    let was = c.loop-leaf.invariant in
    record {
      count = length-set mates leaf mate ∙ was.count;
      room = c.mate_of.ensures.capacity ∙ was.room;
      written = λ k low. elim (cases_eq k leaf) [
        | inl same ↦
            let is = c.mate_of.ensures.mate in
            subst (λ n. IsMate c.args.arena.now c.args.pairs.now n (get_or (set mates leaf mate) n 0)) (sym same)
            (is.0, is.1, get_or-set_same mates leaf mate 0 (omega (arith, c.loop-leaf-test.true)) ∙ is.2)
        | inr differs ↦ let is = was.written k (omega (arith, low, differs)) in (is.0, is.1, get_or-set_other mates leaf k mate 0 differs ∙ is.2)
      ];
    }

pub returns : goal.returns
returns c cost symmetric feasible paired =
    is_matching c.args.arena.now cost symmetric feasible c.args.pairs.now paired c.requires.all c.loop-leaf.mates
    (omega (arith, c.loop-leaf.invariant.count, c.requires.mates)) (λ l low. c.loop-leaf.invariant.written l (omega (arith, low, c.loop-leaf-test.false)))
