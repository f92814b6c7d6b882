-- The bonds between given ends, as one more is added.
use Rattle.std.proofs.Common.{◌≡◌, ℕ, ℤ, pos, ◌+◌, ◌<◌, List, [], ◌∷◌, ◌++◌, length, get_or, sym, ◌∙◌, ap, arith}
use Rattle.std.proofs.lemmas.Bool.{cases_lt}
use Rattle.std.proofs.lemmas.List.{get_or_append_left, get_or_push, length_push}
use Rattle.std.proofs.lemmas.List.FromFn.{fill_by_all, get_or-map-range_with_len, length-map-range_with_len}
use Rattle.sg_model.specs.declared.bond.Bond.{Bond}
use Rattle.sg_lattice.specs.declared.kind.Ends.{Ends}
use Rattle.sg_lattice.specs.Tables.{bonds_between, coupled_bond, bond_ends}

abbrev no_bond : Bond
no_bond = record { u = 0; v = 0; j = pos 0 }

module _ (js : List ℤ) where
  abbrev bond_of : List Ends → ℕ → Bond
  bond_of ends k = coupled_bond (bond_ends ends k) (get_or js k (pos 0))

  pub length-coupled : (ends : List Ends) → length (bonds_between ends js) ≡ length ends
  length-coupled ends = length-map-range_with_len (bond_of ends) 0 (length ends)

  -- the bond between the next ends, with the next coupling
  pub coupled_more : (ends : List Ends) (e : Ends) →
      bonds_between ends js ++ coupled_bond e (get_or js (length ends) (pos 0)) ∷ [] ≡ bonds_between (ends ++ e ∷ [])
      js
  coupled_more ends e =
      fill_by_all (bond_of (ends ++ e ∷ [])) (bonds_between ends js ++ last ∷ []) (length (ends ++ e ∷ [])) no_bond
      (length_push (bonds_between ends js) last ∙ ap (λ n. n + 1) (length-coupled ends) ∙ sym (length_push ends e)) each
    where
      last : Bond
      last = coupled_bond e (get_or js (length ends) (pos 0))

      each : (k : ℕ) → k < length (ends ++ e ∷ []) → get_or (bonds_between ends js ++ last ∷ []) k no_bond ≡ bond_of (ends ++ e ∷ []) k
      each k l = grind (arith, cases_lt k (length ends), get_or_append_left, last, length-coupled, get_or-map-range_with_len, length_push, get_or_push)
