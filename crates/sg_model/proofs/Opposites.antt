-- All spins turned: an assignment of the same energy.
use Rattle.std.proofs.Common.{◌≡◌, ℕ, ◌<◌, ℤ, pos, neg_ℤ, ◌+ℤ◌, ◌*ℤ◌, List, [], ◌∷◌, map, length, refl, ap, ◌∙◌, arith, fold, All}
use Rattle.std.proofs.lemmas.List.{get_or-map, length-map}
use Rattle.std.proofs.lemmas.List.Elements.{All-head, All-tail, All-map, All-weaker}
use Rattle.sg_model.specs.declared.bond.Bond.{Bond}
use Rattle.sg_model.specs.Ising.{Ising, IsBond}
use Rattle.sg_model.specs.WellFormed.{IsInstance}
use Rattle.sg_model.specs.Spins.{IsUpOrDown, IsAssignment, spin}
use Rattle.sg_model.specs.Energy.{product, energy}

abbrev pub turned : List ℤ → List ℤ
turned s = map neg_ℤ s

-- a spin that is turned has the opposite value
pub spin-turned : (s : List ℤ) (i : ℕ) → i < length s → spin (turned s) i ≡ neg_ℤ (spin s i)
spin-turned s i h = get_or-map neg_ℤ s i (pos 1) (pos 1) h

neg-up_or_down : (x : ℤ) → IsUpOrDown x → IsUpOrDown (neg_ℤ x)
neg-up_or_down x h = grind arith

-- an assignment turned is one
pub turned-assignment : (inst : Ising) (s : List ℤ) → IsAssignment inst s → IsAssignment inst (turned s)
turned-assignment inst s h = record {
  count = length-map s neg_ℤ ∙ h.count;
  values = All-map IsUpOrDown neg_ℤ s (All-weaker IsUpOrDown (λ x. IsUpOrDown (neg_ℤ x)) neg-up_or_down s h.values);
}

product-turned : (inst : Ising) (s : List ℤ) → IsAssignment inst s → (b : Bond) → IsBond inst.n b → product (turned s) b ≡ product s b
product-turned inst s h b joined = grind (arith, spin-turned)

sum-turned : (inst : Ising) (s : List ℤ) → IsAssignment inst s → (total : ℤ) (bonds : List Bond) → All (IsBond inst.n) bonds →
    fold (λ total b. total +ℤ (b.j *ℤ product (turned s) b)) total bonds ≡ fold (λ total b. total +ℤ (b.j *ℤ product s b)) total bonds
sum-turned inst s h total [] joined = refl
sum-turned inst s h total (b ∷ bonds) joined =
    let same : product (turned s) b ≡ product s b = product-turned inst s h b (All-head (IsBond inst.n) b bonds joined) in
    ap (λ p. fold (λ total b. total +ℤ (b.j *ℤ product (turned s) b)) (total +ℤ (b.j *ℤ p)) bonds) same
    ∙ sum-turned inst s h (total +ℤ (b.j *ℤ product s b)) bonds (All-tail (IsBond inst.n) b bonds joined)

-- and has the same energy
pub energy-turned : (inst : Ising) (s : List ℤ) → IsInstance inst → IsAssignment inst s → energy inst (turned s) ≡ energy inst s
energy-turned inst s good h = ap neg_ℤ (sum-turned inst s h (pos 0) inst.bonds good.draft.joined)
