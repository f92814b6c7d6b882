-- Widths one after another, over a stream of draws.
use Rattle.std.proofs.Common.{◌≡◌, ◌+◌, ◌≤◌, ◌<◌, ℕ, ℤ, List, subst, arith, inl, inr, nat_lt}
use Rattle.std.proofs.lemmas.Bool.{cases_Bool}
use Rattle.std.proofs.lemmas.Bool.Decides.{nat_tests}
use Rattle.sg_lattice.specs.declared.kind.Kind.{Kind}
use Rattle.sg_planar.specs.Fit.{IsFit}
use Rattle.sg_words.specs.declared.command.Size.{Size}
use Rattle.sg_draws.specs.Drawn.{drawn_lattice}

-- the same draws give the same lattice
pub same_fit : (kind : Kind) (size : Size) (s t : ℕ → List ℤ) → ((c : ℕ) → s c ≡ t c)
    → IsFit (drawn_lattice kind size s) → IsFit (drawn_lattice kind size t)
same_fit kind size s t same = subst (λ (u : ℕ → List ℤ). IsFit (drawn_lattice kind size u)) (λ i c. same c i)

-- one width more
pub one_more : (P : ℕ → Type 0) (n : ℕ) → ((c : ℕ) → 3 ≤ c → c < n → P c) → P n → (c : ℕ) → 3 ≤ c → c < n + 1 → P c
one_more P n h last c closes low = elim (cases_Bool (nat_lt c n)) [
  | inl less ↦ h c closes (let e : c < n = grind (arith, nat_tests) in e)
  | inr more ↦ subst P (let e : n ≡ c = grind (arith, nat_tests) in e) last
]
