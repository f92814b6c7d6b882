-- One width after another.
use Rattle.std.proofs.Common.{◌≡◌, inl, inr, ℕ, ℤ, pos, ◌+◌, ◌*◌, ◌<◌, List, [], ◌∷◌, ◌++◌, get_or, sym, ◌∙◌, ap, subst, arith}
use Rattle.std.proofs.lemmas.Bool.{cases_lt}
use Rattle.std.proofs.lemmas.List.{get_or_append_left, get_or_push, length_push}
use Rattle.sg_ensemble.specs.declared.by_width.Width.{Width}
use Rattle.sg_ensemble.specs.Samples.{AreWalls, draw_count}
use Rattle.sg_ensemble.specs.Widths.{AreWidths, IsWidth}

abbrev no_width : Width
no_width = record { cols = 0; sum = pos 0; squares = pos 0 }

-- the same stream under another name
pub same_stream : (rows cols count : ℕ) (f g : ℕ → List ℤ) (width : Width) → ((c : ℕ) → f c ≡ g c) → IsWidth rows cols count f width
    → IsWidth rows cols count g width
same_stream rows cols count f g width same h = record {
  walls = h.walls;
  are = subst (λ draws. AreWalls rows cols count draws h.walls) (same (count * draw_count rows cols)) h.are;
  columns = h.columns;
  summed = h.summed;
  squared = h.squared;
}

-- one more width
pub one_wide : (rows count : ℕ) (stream : ℕ → List ℤ) (n : ℕ) (widths : List Width) (width : Width) → AreWidths rows count stream n widths
    → IsWidth rows (3 + n) count stream width → AreWidths rows count stream (n + 1) (widths ++ width ∷ [])
one_wide rows count stream n widths width h here = record {
  counted = length_push widths width ∙ ap (λ k. k + 1) h.counted;
  each = each;
}
  where
    each : (k : ℕ) → k < n + 1 → IsWidth rows (3 + k) count stream (get_or (widths ++ width ∷ []) k no_width)
    each k l = elim (cases_lt k n) [
      | inl b ↦ subst (IsWidth rows (3 + k) count stream) (sym (get_or_append_left widths (width ∷ []) no_width k (omega (arith, h.counted)))) (h.each k b)
      | inr past ↦
          let same : k ≡ n = omega arith in
          subst (IsWidth rows (3 + k) count stream) (sym (get_or_push widths width no_width k (h.counted ∙ sym same)))
          (subst (λ i. IsWidth rows (3 + i) count stream width) (sym same) here)
    ]
