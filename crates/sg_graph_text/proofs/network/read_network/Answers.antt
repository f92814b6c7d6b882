use Rattle.sg_graph_text.specs.Network.{AtWeight}
use Rattle.sg_graph_text.proofs.NetworkLaws.{alone-fault, reach-fault}
use Rattle.sg_reader.proofs.RestLaws.{failed}
use Rattle.sg_graph_text.proofs.network.read_network.Goals as goal

pub returns-in_err-text-clause-refuses : goal.returns-in_err-text-clause-refuses
returns-in_err-text-clause-refuses c = failed _ _ c.from_residual.ensures.1 (alone-fault _ _ _ c.in_err-text.ensures.refuses)

pub returns-in_err-network-clause-refuses : goal.returns-in_err-network-clause-refuses
returns-in_err-network-clause-refuses c = failed _ _ c.from_residual-in_err-network.ensures.1
    (AtWeight c.in_ok-text.text c.in_ok-text.ensures.gives c.in_err-network.ensures.refused)

pub returns-in_err-check_joined-clause-refuses : goal.returns-in_err-check_joined-clause-refuses
returns-in_err-check_joined-clause-refuses c = failed _ _ c.from_residual-in_err-check_joined.ensures.1 (reach-fault _ _ _ _ _
    c.in_ok-text.ensures.gives c.in_ok-network.ensures.web c.in_ok-network.ensures.light c.in_err-check_joined.ensures.refused)
