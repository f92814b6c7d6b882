use Rattle.std.proofs.Common.{◌≡◌, ℕ, ℤ, pos, ◌/◌, ◌%◌, true, List, [], ◌∷◌, ◌++◌, cond, length, get_or, sym, ◌∙◌, ap, ap₂, append-nil, rules, arith, w64}
use Rattle.std.proofs.lemmas.Int.{to_z-of_z}
use Rattle.sg_model.specs.declared.bond.Bond.{Bond}
use Rattle.sg_lattice.specs.declared.kind.Ends.{Ends}
use Rattle.sg_lattice.specs.Tables.{bonds_between, coupled_bond, ends_from, has_bond}
use Rattle.sg_lattice.proofs.CoupledBonds.{coupled_more, length-coupled}
use Rattle.sg_lattice.proofs.shape.Shape.push_bond.Goals as goal

pub returns-then-not-has_bond : goal.returns-then-not-has_bond
returns-then-not-has_bond c = grind (arith, append-nil)

pub returns : goal.returns
returns c =
    let s = c.args.self in
    let i = c.args.i in
    let js = c.args.j.now in
    let has : has_bond s.kind c.args.step s.rows s.cols (i / s.cols) (i % s.cols) ≡ true = search rules in
    let fits = to_z-of_z w64 c.coupling_at-coupling.result (search rules) in
    let ends_i : Ends = ends_from s.kind c.args.step s.rows s.cols i in
    λ ends is.
    let place : c.len.result ≡ length ends = c.len.ensures ∙ ap (length {A = Bond}) is ∙ length-coupled js ends in
    let read : c.coupling_at-coupling.result ≡ get_or js (length ends) (pos 0) =
    c.coupling_at-coupling.ensures ∙ ap₂ (λ (xs : List ℤ) (n : ℕ). get_or xs n (pos 0)) c.as_slice.ensures place in
    let bond : c.bond_between.result ≡ coupled_bond ends_i (get_or js (length ends) (pos 0)) =
    c.bond_between.ensures ∙ ap₂ (λ (v : ℕ) (z : ℤ). coupled_bond (record { u = i; v = v }) z) c.neighbour.ensures (fits ∙ read) in
    c.in_ok-push.ensures.ok
    ∙ ap₂ (λ (done : List Bond) (b : Bond). done ++ b ∷ []) is bond
    ∙ coupled_more js ends ends_i
    ∙ ap (λ b. bonds_between (ends ++ cond b (ends_i ∷ []) []) js) (sym has)
