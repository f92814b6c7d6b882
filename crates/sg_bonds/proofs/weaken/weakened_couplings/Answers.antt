use Rattle.sg_bonds.proofs.Common.{◌≡◌, ◌<◌, ◌*◌, ◌+◌, ◌^◌, ℕ, ℤ, pos, List, [], ◌∷◌, ◌++◌, length, get_or, map, sym, ◌∙◌, ap, ap₂, subst, arith, w64}
use Rattle.sg_bonds.proofs.Common.{FitsSigned, unsigned_abs, fits_signed_from_abs, Bond, Ising, bond_at, bond_count}
use Rattle.std.specs.List.{range_with_len}
use Rattle.std.proofs.lemmas.Int.{to_z-of_z}
use Rattle.std.proofs.lemmas.List.FromFn.{map-range_with_len_more}
use Rattle.sg_bonds.specs.Weakened.{amount_at, weakened_coupling}
use Rattle.sg_bonds.proofs.Weakening.{coupling_fits, coupling_size}
use Rattle.sg_bonds.proofs.weaken.weakened_couplings.Goals as goal

pub weakened_coupling-coupling-requires-clause-size : goal.weakened_coupling-coupling-requires-clause-size
weakened_coupling-coupling-requires-clause-size c =
    let inst : Ising = c.args.study.now.planar.now.instance in
    let bonds : c.as_slice-bond-items.result.now ≡ inst.bonds =
    c.as_slice-bond-items.ensures ∙ c.bonds.ensures.value ∙ ap (λ (i : Ising). i.bonds) c.instance.ensures.value in
    let low : c.loop-k.k < bond_count inst = omega (arith, c.loop-k-test.true, ap (length {A = Bond}) bonds) in
    let fits : c.args.scale * unsigned_abs (bond_at inst c.loop-k.k).j + amount_at c.args.amounts.now c.loop-k.k < 2 ^ 63 =
    coupling_fits inst c.args.scale (amount_at c.args.amounts.now) c.requires.fits c.loop-k.k low in
    subst (λ (bs : List Bond). c.args.scale * unsigned_abs (get_or bs c.loop-k.k (record { u = 0; v = 0; j = pos 0 })).j
    + amount_at c.args.amounts.now c.loop-k.k < 2 ^ 63) (sym bonds) fits

pub loop-k-preserved : goal.loop-k-preserved
loop-k-preserved c =
    let inst : Ising = c.args.study.now.planar.now.instance in
    let s : List ℤ = c.args.study.now.least.now.spins in
    let k : ℕ = c.loop-k.k in
    let bonds : c.as_slice-bond-items.result.now ≡ inst.bonds =
    c.as_slice-bond-items.ensures ∙ c.bonds.ensures.value ∙ ap (λ (i : Ising). i.bonds) c.instance.ensures.value in
    let low : k < bond_count inst = omega (arith, c.loop-k-test.true, ap (length {A = Bond}) bonds) in
    let own : c.weakened_coupling-coupling.result ≡ weakened_coupling c.args.scale s (bond_at inst k) (amount_at c.args.amounts.now k) =
    c.weakened_coupling-coupling.ensures
    ∙ ap (λ (bs : List Bond). weakened_coupling c.args.scale s (get_or bs k (record { u = 0; v = 0; j = pos 0 })) (amount_at c.args.amounts.now k)) bonds in
    let fits : FitsSigned w64 c.weakened_coupling-coupling.result =
    subst (FitsSigned w64) (sym own)
    (fits_signed_from_abs w64 (weakened_coupling c.args.scale s (bond_at inst k) (amount_at c.args.amounts.now k))
    (coupling_size inst c.args.scale (amount_at c.args.amounts.now) c.requires.fits c.instance.ensures.planar.instance s
    c.requires.study.ground_state.assignment k low)) in
    c.in_ok-push.ensures.ok
    ∙ ap₂ (λ (list : List ℤ) (z : ℤ). list ++ z ∷ []) c.loop-k.invariant (to_z-of_z w64 c.weakened_coupling-coupling.result fits)
    ∙ ap (λ (z : ℤ). map (λ i. weakened_coupling c.args.scale s (bond_at inst i) (amount_at c.args.amounts.now i)) (range_with_len 0 k) ++ z ∷ []) own
    ∙ sym (map-range_with_len_more (λ i. weakened_coupling c.args.scale s (bond_at inst i) (amount_at c.args.amounts.now i)) 0 k k (omega arith))
