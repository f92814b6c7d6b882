use Rattle.std.proofs.lemmas.Result.{IfErr-weaker}
use Rattle.sg_input.proofs.InputLemmas.{by_fitness, gives_fit}
use Rattle.sg_input.proofs.fit.read_planar.Goals as goal

pub returns-in-Ok-clause-gives : goal.returns-in-Ok-clause-gives
returns-in-Ok-clause-gives c = gives_fit c.args.bytes.now c.in-Ok.instance c.test.result c.in-Ok.ensures.gives c.test.ensures.instance c.test.ensures.fit

pub returns-in-Ok-clause-refuses : goal.returns-in-Ok-clause-refuses
returns-in-Ok-clause-refuses c =
    IfErr-weaker c.test.result _ _ (λ fault shown. by_fitness c.args.bytes.now c.in-Ok.instance fault c.in-Ok.ensures.gives shown) c.test.ensures.unfit
