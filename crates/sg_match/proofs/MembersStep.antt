-- A leaf that joins the members.
use Rattle.std.proofs.Common.{length-append, ◌≡◌, ℕ, ◌+◌, ◌<◌, ◌++◌, ◌∷◌, [], List, length, ℤ, pos, inl, inr, sym, ap, ◌∙◌, subst, arith}
use Rattle.sg_slack.proofs.DistinctLemmas.{at_end}
use Rattle.sg_slack.proofs.ScanLemmas.{below_next}
use Rattle.sg_slack.specs.Members.{Agree, AreMarked, IsMember, Member, member_at}
use Rattle.sg_slack.specs.Slack.{mark_at, total_at}
use Rattle.sg_slack.specs.declared.Mark.{Mark}
use Rattle.sg_slack.specs.declared.Mark.TheVariants.{Outer}
use Rattle.sg_match.specs.Members.{JoinsMembers}

-- what is read where the list ends
abbrev no_member : Member
no_member = record { leaf = 0; total = pos 0 }

module _ (old new : List Member) (leaf : ℕ) (total : ℤ) (mark : Mark) (marks : List Mark) (totals : List ℤ) (joined : JoinsMembers old new leaf total mark)
    (low : leaf < length marks) (mark_is : mark_at marks leaf ≡ mark) (total_is : total_at totals leaf ≡ total) where
  abbrev joining : Member
  joining = record { leaf = leaf; total = total }

  -- members stay marked when a leaf joins them
  pub AreMarked-joined : AreMarked old marks → AreMarked new marks
  AreMarked-joined was = elim joined [
    | inl at ↦ subst (λ xs. AreMarked xs marks) (sym at.1) (λ i within. elim (at_end old joining no_member i within) [
      | inl a ↦ subst (λ (m : Member). (m.leaf < length marks) × (mark_at marks m.leaf ≡ Outer)) (sym a.1) (was i a.0)
      | inr a ↦ subst (λ (m : Member). (m.leaf < length marks) × (mark_at marks m.leaf ≡ Outer)) (sym a.1) (low, mark_is ∙ at.0)
    ])
    | inr same ↦ subst (λ xs. AreMarked xs marks) (sym same.1) was
  ]

  -- the totals agree with them still
  pub Agree-joined : Agree old totals → Agree new totals
  Agree-joined was = elim joined [
    | inl at ↦ subst (λ xs. Agree xs totals) (sym at.1) (λ i within. elim (at_end old joining no_member i within) [
      | inl a ↦ subst (λ (m : Member). total_at totals m.leaf ≡ m.total) (sym a.1) (was i a.0)
      | inr a ↦ subst (λ (m : Member). total_at totals m.leaf ≡ m.total) (sym a.1) total_is
    ])
    | inr same ↦ subst (λ xs. Agree xs totals) (sym same.1) was
  ]

  member-stays : (u : ℕ) → IsMember old u → IsMember new u
  member-stays u is = elim joined [
    | inl at ↦ subst (λ xs. IsMember xs u) (sym at.1) (here is)
    | inr same ↦ subst (λ xs. IsMember xs u) (sym same.1) is
  ]
    where
      here : IsMember old u → IsMember (old ++ joining ∷ []) u
      here at = (at.0, longer, before ∙ at.2)
        where
          longer : at.0 < length (old ++ joining ∷ [])
          longer = omega (arith, at.1, length-append old (joining ∷ []))

          before : (member_at (old ++ joining ∷ []) at.0).leaf ≡ (member_at old at.0).leaf
          before = elim (at_end old joining no_member at.0 longer) [
            | inl a ↦ ap (λ (m : Member). m.leaf) a.1
            | inr a ↦ absurd (omega (arith, a.0, at.1))
          ]

  joined-member : mark ≡ Outer → IsMember new leaf
  joined-member outer = elim joined [
    | inl at ↦ subst (λ xs. IsMember xs leaf) (sym at.1) last
    | inr same ↦ subst (λ xs. IsMember xs leaf) (sym same.1) (same.0 outer)
  ]
    where
      longer : length old < length (old ++ joining ∷ [])
      longer = omega (arith, length-append old (joining ∷ []))

      last : IsMember (old ++ joining ∷ []) leaf
      last = elim (at_end old joining no_member (length old) longer) [
        | inl a ↦ absurd (omega (arith, a.0))
        | inr a ↦ (length old, longer, ap (λ (m : Member). m.leaf) a.1)
      ]

  -- each marked leaf up to this one is a member
  pub every-joined : ((u : ℕ) → u < leaf → mark_at marks u ≡ Outer → IsMember old u) → (u : ℕ) → u < leaf + 1 → mark_at marks u ≡ Outer → IsMember new u
  every-joined was u less outer = elim (below_next u leaf less) [
    | inl before ↦ member-stays u (was u before outer)
    | inr same ↦ subst (λ n. IsMember new n) (sym same) (joined-member (sym mark_is ∙ ap (λ n. mark_at marks n) (sym same) ∙ outer))
  ]
