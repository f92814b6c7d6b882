use Rattle.std.proofs.Common.{◌≡◌, ℕ, ◌+◌, List, length, get_or, ◌∙◌, ap, ap₂, arith, rules}
use Rattle.sg_base.specs.Pieces.{start_of}
use Rattle.sg_base.proofs.PieceSteps.{length-pieces, slice_get-pieces}
use Rattle.sg_base.proofs.lists.Lists.at.Goals as goal

pub overflow_add-i : goal.overflow_add-i
overflow_add-i g c =
    omega (
      arith,
      c.requires,
      ap length c.self.view_is,
      length-pieces c.self.inside.items.items c.self.inside.starts.items,
      ap length c.deref-2.ensures.value,
      c.deref-2.type_inv.0,
    )

pub returns : goal.returns
returns g c =
    let items = c.self.inside.items.items in
    let starts = c.self.inside.starts.items in
    let counted : c.len.result ≡ length items = search rules in
    let counted_again : c.len-2.result ≡ length items = search rules in
    let start : c.start_at-start.result ≡ start_of items starts c.args.i =
    c.start_at-start.ensures ∙ ap₂ (λ (xs : List ℕ) (n : ℕ). get_or xs c.args.i n) c.deref.ensures.value counted in
    let end : c.start_at-end.result ≡ start_of items starts (c.args.i + 1) =
    c.start_at-end.ensures ∙ ap₂ (λ (xs : List ℕ) (n : ℕ). get_or xs (c.args.i + 1) n) c.deref-2.ensures.value counted_again in
    rw (start, end, c.deref-3.ensures.value, ← c.self.view_is)
    (slice_get-pieces items starts c.args.i (omega (arith, c.requires, ap length c.self.view_is, length-pieces items starts)))
