-- Other couplings on the same bonds leave an instance well formed.
use Rattle.std.proofs.Common.{◌≡◌, ℕ, ◌*◌, ◌<◌, cond, ◌&&◌, eqb, ltb, pos, List, length, get_or, sym, ◌∙◌, ap, ap₂, arith}
use Rattle.std.proofs.lemmas.List.Elements.{All-from_get_or}
use Rattle.sg_model.specs.declared.bond.Bond.{Bond}
use Rattle.sg_model.specs.Ising.{Ising, IsBond}
use Rattle.sg_model.specs.Rotation.{is_dart_of, tail}
use Rattle.sg_model.specs.WellFormed.{IsInstance}
use Rattle.sg_model.specs.Changes.{HasSameEnds, with_bonds}
use Rattle.sg_model.proofs.Darts.{tail_even, tail_odd}

module _ (inst : Ising) (bonds : List Bond) (same : HasSameEnds inst bonds) where
  -- other couplings leave the tails
  pub tail_same : (d : ℕ) → tail (with_bonds inst bonds) d ≡ tail inst d
  tail_same d = grind (arith, tail_even, tail_odd)

  is_dart_same : (i d : ℕ) → is_dart_of (with_bonds inst bonds) i d ≡ is_dart_of inst i d
  is_dart_same i d = ap₂ (λ m t. ltb d (2 * m) && eqb t i) same.count (tail_same d)

  -- and the instance one
  pub recoupled_instance : IsInstance inst → IsInstance (with_bonds inst bonds)
  recoupled_instance good = record {
    draft = record {
      has_spin = good.draft.has_spin;
      few_spins = good.draft.few_spins;
      few_bonds = omega (arith, same.count, good.draft.few_bonds);
      joined = All-from_get_or (IsBond inst.n) bonds (record { u = 0; v = 0; j = pos 0 }) joined_at;
      lists = good.draft.lists;
    };
    rotation = record {
      lists = good.rotation.lists;
      each_once = λ i d b. good.rotation.each_once i d b ∙ ap (λ t. cond {A = ℕ} t 1 0) (sym (is_dart_same i d));
    };
    seam = record {
      below = λ i d b. omega (arith, good.seam.below i d b, same.count);
      distinct = good.seam.distinct;
    };
  }
    where
      joined_at : (k : ℕ) → k < length bonds → IsBond inst.n (get_or bonds k (record { u = 0; v = 0; j = pos 0 }))
      joined_at k b = grind arith
