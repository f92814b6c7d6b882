-- The names of std and of the crates below that most proofs here cite, passed on from one place. Declares nothing.
pub use Rattle.std.proofs.Common.{◌≡◌, ℕ, zero, suc, ◌+◌, ◌-◌, ◌*◌, ◌/◌, ◌%◌, ◌^◌, ◌<◌, ◌≤◌, Bool, true}
pub use Rattle.std.proofs.Common.{false, cond, not, ◌&&◌, eqb, ◌≢◌, ◌⊎◌, ◌↔◌, List, []}
pub use Rattle.std.proofs.Common.{◌∷◌, ◌++◌, map, length, get_or, take, set, replicate, ℤ, pos, negsuc, ◌+ℤ◌, ◌-ℤ◌}
pub use Rattle.std.proofs.Common.{◌*ℤ◌, neg_ℤ, ◌≤ℤ◌, ◌<ℤ◌, IfSome, IfOk}
pub use Rattle.std.proofs.Common.{IsTrue, slice_get, unsigned_abs, FitsSigned, Some, None, Ok, Err, fold, All, sum_by, Option, Result, int_eq, sym}
pub use Rattle.std.proofs.Common.{refl, ap}
pub use Rattle.std.proofs.Common.{◌∙◌, subst, ap₂, inl, inr, arith, length-set, take_all, get_or-set_other, get_or-set_same, set-set}
pub use Rattle.std.proofs.Common.{to_z-of_z, w64, to_z}
pub use Rattle.std.proofs.Common.{of_z, rules, eq-eqb, ne_eqb, eqb-true}
pub use Rattle.std.proofs.lemmas.Bool.{cases_lt, cases_eq, false≢true, cases_Bool, false_from_ne_true}
pub use Rattle.std.proofs.lemmas.Int.{ints, fits_signed_from_abs, by_lt_z, to_z_pos, unsigned_abs-mul}
pub use Rattle.std.proofs.lemmas.List.{get_or_past, length_push, set-get_or, get_or_default, get_or-replicate, length-replicate, get_or-map}
pub use Rattle.std.proofs.lemmas.List.{length-map}
pub use Rattle.std.proofs.lemmas.List.{same_lists, get_or_append_left, get_or_push, take_more, with_items_is}
pub use Rattle.std.proofs.lemmas.Grind.{common_steps, elements, rows}
pub use Rattle.sg_model.specs.Ising.{Ising, bond_at, bond_count, IsBond}
pub use Rattle.sg_model.specs.WellFormed.{IsInstance}
pub use Rattle.sg_model.specs.Spins.{IsUpOrDown, IsAssignment, spin}
pub use Rattle.sg_model.specs.Energy.{product, IsGroundState, IsLeastEnergy, energy, weight}
pub use Rattle.sg_model.specs.Connected.{IsWalk, JoinedBy, Reached, all_bonds, IsConnected}
pub use Rattle.sg_planar.specs.Walk.{has}
pub use Rattle.sg_base.specs.Limits.{sum_limit, forced_limit}
pub use Rattle.sg_model.specs.declared.bond.Bond.{Bond}
pub use Rattle.sg_base.specs.Sets.{chosen_below, holds, is_marked}
pub use Rattle.sg_graph.specs.Web.{Graph, edge_at, edge_count, edge_weight, ends_at, total_weight, weight_at, weight_of, with_weight}
pub use Rattle.sg_planar.specs.Fit.{Embedding, IsPlanar}
