-- Members in a line, for the tests.
use Rattle.std.proofs.Common.{◌≡◌, ℕ, ◌<◌, ◌≤◌, ◌+◌, ◌-◌, ◌++◌, ◌∷◌, [], List, length, ℤ, pos, ◌+ℤ◌, refl, ap, ◌∙◌, arith, length-append}
use Rattle.std.proofs.lemmas.Int.{ints}
use Rattle.std.proofs.lemmas.List.{get_or-map, length-map}
use Rattle.sg_slack.proofs.DistinctLemmas.{at_end}
use Rattle.sg_slack.specs.Line.{IsLine}
use Rattle.sg_slack.specs.Members.{Agree, IsMember, Member, TotalsFit, grown, member_at}
use Rattle.sg_slack.specs.Slack.{total_at}

abbrev no_member : Member
no_member = record { leaf = 0; total = pos 0 }

abbrev at_leaf : ℕ → ℕ → Member
at_leaf leaf k = record { leaf = leaf; total = pos k }

abbrev at_line : ℕ → ℕ → Member
at_line n i = record { leaf = i; total = pos (n - i) }

module _ (members : List Member) (n : ℕ) (line : IsLine members n) where
  -- the members are the leaves below n
  pub line-below : (u : ℕ) → IsMember members u → u < n
  line-below u is = grind (arith, ints, is.0, is.1, line.count, is.2, line.member)

  -- each leaf below n is a member
  pub line-member : (u : ℕ) → u < n → IsMember members u
  line-member u low = (u, omega (arith, low, line.count), ap (λ (m : Member). m.leaf) (line.member u low))

  -- totals that fall by one from leaf to leaf are those of the line
  pub line-agree : (totals : List ℤ) → n ≤ length totals → ((v : ℕ) → v < length totals → total_at totals v ≡ pos (n - v)) → Agree members totals
  line-agree totals long is = grind (arith, ints, line.count, line.member, is, long)

  -- one more
  abbrev more : List Member
  more = members ++ record { leaf = n; total = pos 0 } ∷ []

  more-count : length more ≡ n + 1
  more-count = grind (arith, ints, length-append, line.count)

  more-at : (i : ℕ) → i < n + 1 → member_at more i ≡ at_line n i
  more-at i low = grind (arith, ints, at_end, more-count, low, line.member, line.count)

  -- totals of a short line may grow by one
  pub line-fits : n ≤ 8 → TotalsFit (pos 1) more
  line-fits small i within = grind (arith, ints, more-count, more-at, i, within, small)

  -- one leaf more, with all others one higher, is a longer line
  pub line-more : IsLine (grown (pos 1) more) (n + 1)
  line-more =
      record {
        count = length-map {B = Member} more (λ (m : Member). (record { leaf = m.leaf; total = m.total +ℤ pos 1 })) ∙ more-count;
        member = λ i low.
            let at = more-at i low in
            let total : (member_at more i).total +ℤ pos 1 ≡ pos (n + 1 - i) = omega (arith, ints, low, ap (λ (m : Member). m.total) at) in
            get_or-map {Y = Member} (λ (m : Member). (record { leaf = m.leaf; total = m.total +ℤ pos 1 })) more i no_member no_member (omega (
              arith,
              low,
              more-count,
            ))
            ∙ both (member_at more i).leaf i ((member_at more i).total +ℤ pos 1) (pos (n + 1 - i)) (ap (λ (m : Member). m.leaf) at) total;
      }
    where
      both : (a b : ℕ) (x y : ℤ) → a ≡ b → x ≡ y → ◌≡◌ {A = Member} (record { leaf = a; total = x }) (record { leaf = b; total = y })
      both a b x y e f = rw (e, f) refl
