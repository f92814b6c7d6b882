-- Each part of an instance is connected.
use Rattle.std.proofs.Common.{ℕ, zero, suc, ◌<◌, List, [], ◌∷◌, arith, get_or, length}
use Rattle.std.specs.List.{AllZip}
use Rattle.sg_model.specs.Connected.{IsConnected}
use Rattle.sg_model.specs.Ising.{Ising}
use Rattle.sg_planar.specs.declared.components.Part.{Part}
use Rattle.sg_planar.specs.Parts.{AreParts, IsPart}

-- the part at a place of the list
pub part_connected : (inst : Ising) (parts : List Part) → AreParts inst parts → (i : ℕ) (d : Part) → i < length parts
    → IsConnected (get_or parts i d).planar.instance
part_connected inst parts are i d low = go are.leasts parts i are.each low
  where
    go : (leasts : List ℕ) (parts : List Part) (i : ℕ) → AllZip (IsPart inst) leasts parts → i < length parts
        → IsConnected (get_or parts i d).planar.instance
    go leasts [] i zip low = absurd (omega arith)
    go [] (p ∷ parts) i zip low = absurd zip
    go (least ∷ leasts) (p ∷ parts) zero zip low = zip.0.connected
    go (least ∷ leasts) (p ∷ parts) (suc i) zip low = go leasts parts i zip.1 (omega arith)
