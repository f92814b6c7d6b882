-- Faults of a text that gives no connected graph, by the step that finds them.
use Rattle.std.proofs.Common.{◌≡◌, ℕ, ◌≤◌, Bool, List, [], subst}
use Rattle.sg_base.specs.Limits.{sum_limit}
use Rattle.sg_model.specs.declared.refusal.Fault.{Fault}
use Rattle.sg_model.specs.declared.refusal.Fault.TheVariants.{Refused, NoMemory}
use Rattle.sg_graph.specs.Web.{Graph, total_weight}
use Rattle.sg_reader.specs.Kept.{kept_of}
use Rattle.sg_reader.specs.Ended.{RefusesAlone}
use Rattle.sg_graph_text.specs.declared.graph.GraphText.{GraphText}
use Rattle.sg_graph_text.specs.Graph.{ReadsGraph, RefusesGraph}
use Rattle.sg_graph_text.specs.Network.{AtReach, AtRecords, IsUnjoined, graph_in, RefusesNetwork}
use Rattle.sg_model.specs.Faults.{OrNoMemory}

-- what refuses the records refuses the network
pub alone-fault : (terms : Bool) (bytes : List ℕ) (e : Fault)
    → OrNoMemory (RefusesAlone (ReadsGraph terms (kept_of bytes)) (RefusesGraph terms (kept_of bytes))) e → OrNoMemory (RefusesNetwork terms bytes) e
alone-fault terms bytes (Refused x) bad = AtRecords bad
alone-fault terms bytes NoMemory bad = tt

-- a graph that is not connected refuses the network
pub reach-fault : (terms : Bool) (bytes : List ℕ) (text : GraphText) (g : Graph) (e : Fault) → ReadsGraph terms (kept_of bytes) text [] → g ≡ graph_in text
    → total_weight g ≤ sum_limit → OrNoMemory (IsUnjoined g) e → OrNoMemory (RefusesNetwork terms bytes) e
reach-fault terms bytes text g (Refused x) gives same light bad = AtReach text gives (subst (λ (h : Graph). total_weight h ≤ sum_limit) same light)
    (subst (λ (h : Graph). IsUnjoined h x) same bad)
reach-fault terms bytes text g NoMemory gives same light bad = tt
