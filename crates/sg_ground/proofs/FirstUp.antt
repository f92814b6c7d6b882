-- In a connected instance the one least spin of a component is spin 0.
use Rattle.std.proofs.Common.{◌≡◌, ◌≤◌, ℤ, pos, List, ◌∙◌, ap, arith}
use Rattle.sg_model.specs.Ising.{Ising}
use Rattle.sg_model.specs.Connected.{IsConnected, LeastsUp, all_bonds}
use Rattle.sg_model.specs.Spins.{spin}
use Rattle.sg_model.proofs.Paths.{reached_back}

-- in a connected instance it is enough that spin 0 is up
pub leasts_up : (inst : Ising) → IsConnected inst → (s : List ℤ) → spin s 0 ≡ pos 1 → LeastsUp inst s
leasts_up inst connected s up i l least =
    let below : i ≤ 0 = least 0 (reached_back inst all_bonds 0 i (connected i l)) in
    let first : i ≡ 0 = omega (arith, below) in
    ap (spin s) first ∙ up
