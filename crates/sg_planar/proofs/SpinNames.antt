-- Names of spins: one walk names the spins that it finds, and the walks from all spins name all.
use Rattle.std.proofs.Common.{◌≡◌, ◌≢◌, ◌⊎◌, inl, inr, ℕ, ◌+◌, ◌<◌, ◌≤◌, Bool, true, false, List, length, get_or, sym, ◌∙◌, ap, subst, arith}
use Rattle.std.proofs.lemmas.Bool.{cases_eq, cases_lt}
use Rattle.sg_base.specs.Sets.{IsMarked, Stands}
use Rattle.sg_model.specs.Ising.{Ising}
use Rattle.sg_model.specs.Connected.{Reached}
use Rattle.sg_model.proofs.Paths.{reached_back, reached_on}
use Rattle.sg_planar.specs.Walk.{IsWalked}
use Rattle.sg_planar.specs.Naming.{AllNamed, IsNamed, NamedTo}
use Rattle.sg_planar.proofs.Searches.{marked_along}

module _ (inst : Ising) (set : ℕ → Bool) (spin : ℕ) (old now : List Bool) (order before after : List ℕ) (was : NamedTo inst set old before spin) where
  module _ (free : get_or old spin false ≡ false) (walk : IsWalked inst set spin old now order)
      (given : (k : ℕ) → k < length order → get_or after (get_or order k 0) 0 ≡ spin)
      (others : (x : ℕ) → ((k : ℕ) → k < length order → get_or order k 0 ≢ x) → get_or after x 0 ≡ get_or before x 0)
      (count : length after ≡ length before) where
    -- an old name stays
    stays : (x : ℕ) → IsMarked old x → get_or after x 0 ≡ get_or before x 0
    stays x h = others x (λ k l (e : get_or order k 0 ≡ x). let w : false ≡ true = sym (walk.fresh k l) ∙ ap (λ y. get_or old y false) e ∙ h in cc)

    -- what a found spin reaches is no less than the root
    root_least : (x j : ℕ) → Reached inst set spin x → Reached inst set x j → spin ≤ j
    root_least x j r q = elim (cases_lt j spin) [
      | inr past ↦ past
      | inl l ↦
          let back : Reached inst set j spin = reached_back inst set spin j (reached_on inst set spin x j r q) in
          let w : false ≡ true = sym free ∙ marked_along inst set old was.closed j spin back (was.done j l) in
          absurd (cc)
    ]

    named_now : (x : ℕ) → IsMarked old x ⊎ Stands order x → IsNamed inst set after x
    named_now x (inl h) = record { reached = rw (stays x h) (was.named x h).reached; least = rw (stays x h) (was.named x h).least }
    named_now x (inr (k, l, e)) =
        let name : get_or after x 0 ≡ spin = ap (λ y. get_or after y 0) (sym e) ∙ given k l in
        let found : Reached inst set spin x = subst (Reached inst set spin) e (walk.reached k l) in
        record { reached = rw name (reached_back inst set spin x found); least = λ j q. rw name (root_least x j found q) }

    -- one walk more names the spins that it finds
    pub named_more : NamedTo inst set now after (spin + 1)
    named_more = record {
      marks_count = walk.lengths ∙ was.marks_count;
      names_count = count ∙ was.names_count;
      named = λ x h. named_now x (walk.noted x h);
      closed = walk.closed;
      done = λ x l. elim (cases_eq x spin) [ inl e ↦ subst (IsMarked now) (sym e) walk.root_marked | inr ne ↦ walk.kept x (was.done x (omega arith)) ];
    }

-- after the walks from all spins all are named
pub all_named : (inst : Ising) (set : ℕ → Bool) (marks : List Bool) (names : List ℕ) (stop : ℕ) → inst.n ≤ stop →
    NamedTo inst set marks names stop → AllNamed inst set names
all_named inst set marks names stop end h = record { count = h.names_count; each = λ x l. h.named x (h.done x (omega arith)) }
