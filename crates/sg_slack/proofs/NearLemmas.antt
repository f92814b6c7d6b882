-- What a `Near` keeps, call by call.
use Rattle.std.proofs.Common.{◌≡◌, ℕ, zero, suc, ◌<◌, ◌≤◌, ◌+◌, ◌^◌, List, [], ◌∷◌, ◌++◌, length, map, get_or, set, ℤ, pos}
use Rattle.std.proofs.Common.{◌+ℤ◌, ◌-ℤ◌, ◌≤ℤ◌, Option, Some, None, Bool, true, false, FitsSigned}
use Rattle.std.proofs.Common.{◌⊎◌, refl, sym, ap, ◌∙◌, subst, arith, w64, of_z, to_z, length-append}
use Rattle.std.proofs.lemmas.Int.{ints, to_z-of_z}
use Rattle.std.specs.Int.{w128}
use Rattle.std.proofs.lemmas.List.{get_or-map, get_or-set_other, get_or-set_same, get_or_append_left, length-map, length-set, map-append}
use Rattle.std.proofs.Math.Seq.{get_or-append_seam}
use Rattle.sg_slack.proofs.DistinctLemmas.{at_end, short}
use Rattle.sg_slack.proofs.ScanLemmas.{below_next}
use Rattle.sg_slack.specs.Kept.{IsKeyOf, IsNear, IsNearestOf, IsRise, IsRiseTo, IsTakenAt, key_of, kept_at, members_of, nearest_at}
use Rattle.sg_slack.specs.Members.{Agree, AreMarked, HaveGrown, IsMember, Member, TotalsFit, grown, member_at}
use Rattle.sg_slack.specs.Scan.{IsNearestFree}
use Rattle.sg_slack.specs.Slack.{IsOuterFree, Least, mark_at, slack_of, total_at}
use Rattle.sg_slack.specs.Table.{Table, cost_of}
use Rattle.sg_slack.specs.declared.Mark.{Mark}
use Rattle.sg_slack.specs.declared.Mark.TheVariants.{Outer}
use Rattle.sg_slack.specs.declared.Pair.{Pair}
use Rattle.sg_slack.specs.declared.member.Kept.{Kept}
use Rattle.sg_slack.specs.declared.near.Nearest.{Nearest}

-- a difference of numbers that fit 128 bits
pub wrapped_difference : (a b : ℤ) → FitsSigned w128 a → FitsSigned w128 b → FitsSigned w128 (a -ℤ b) →
    to_z w128 (of_z w128 (to_z w128 (of_z w128 a) -ℤ to_z w128 (of_z w128 b))) ≡ a -ℤ b
wrapped_difference a b fits_a fits_b fits = grind (arith, ints, to_z-of_z, fits_a, fits_b, fits)

-- what is known of the rise, over what is the same
pub IsRise-same : (xs ys : List Kept) (a b : ℤ) (totals : List ℤ) (marks : List Mark) (rise : Option ℤ) → xs ≡ ys → a ≡ b →
    IsRise xs a totals marks rise → IsRise ys b totals marks rise
IsRise-same xs ys a b totals marks rise e f is = grind (arith, ints, f, e, is)

-- a member that is kept, as contracts see it
abbrev member_of : ℤ → Kept → Member
member_of rise m = record { leaf = m.leaf; total = m.base +ℤ rise }

abbrev no_member : Member
no_member = record { leaf = 0; total = pos 0 }

abbrev no_kept : Kept
no_kept = record { leaf = 0; base = pos 0 }

-- member i is what is kept at place i, with the common rise added
pub member-is : (rise : ℤ) (ms : List Kept) (i : ℕ) → i < length ms → member_at (members_of rise ms) i ≡ member_of rise (kept_at ms i)
member-is rise ms i low = get_or-map (member_of rise) ms i no_kept no_member low

-- there are as many members as are kept
pub members-count : (rise : ℤ) (ms : List Kept) → length (members_of rise ms) ≡ length ms
members-count rise ms = length-map ms (member_of rise)

-- a member, and where it is kept
pub IsMember-kept : (rise : ℤ) (ms : List Kept) (i leaf : ℕ) → i < length ms → (kept_at ms i).leaf ≡ leaf → IsMember (members_of rise ms) leaf
IsMember-kept rise ms i leaf low is = (i, omega (arith, low, members-count rise ms), ap (λ (m : Member). m.leaf) (member-is rise ms i low) ∙ is)

-- a member is kept at some place
pub kept-IsMember : (rise : ℤ) (ms : List Kept) (leaf : ℕ) → IsMember (members_of rise ms) leaf → (i : ℕ) × (i < length ms) × ((kept_at ms i).leaf ≡ leaf)
kept-IsMember rise ms leaf at = grind (arith, ints, members-count, member-is, at.0, at.1, at.2)

-- what all have risen by is kept apart
pub members-grown : (rise delta : ℤ) (ms : List Kept) → members_of (rise +ℤ delta) ms ≡ grown delta (members_of rise ms)
members-grown rise delta [] = refl
members-grown rise delta (m ∷ ms) =
    let same : m.base +ℤ (rise +ℤ delta) ≡ (m.base +ℤ rise) +ℤ delta = omega (arith, ints) in
    rw (same, members-grown rise delta ms) refl

-- where nothing is kept there are no members, whatever the rise
pub members-none : (rise other delta : ℤ) (ms : List Kept) → length ms ≡ 0 → members_of other ms ≡ grown delta (members_of rise ms)
members-none rise other delta [] none = refl
members-none rise other delta (m ∷ ms) none = absurd (omega (arith, none))

-- the total of a member, where the table has it
pub total-agree : (rise : ℤ) (ms : List Kept) (totals : List ℤ) → Agree (members_of rise ms) totals → (i : ℕ) → i < length ms →
    total_at totals (kept_at ms i).leaf ≡ (kept_at ms i).base +ℤ rise
total-agree rise ms totals agree i low =
    let is = member-is rise ms i low in
    ap (λ (m : Member). total_at totals m.leaf) (sym is) ∙ agree i (omega (arith, low, members-count rise ms)) ∙ ap (λ (m : Member). m.total) is

module _ (rise : ℤ) (ms : List Kept) where
  within : (i : ℕ) → i < length (members_of rise ms) → i < length ms
  within i low = omega (arith, low, members-count rise ms)

  -- members that have these totals by what is kept
  pub Agree-kept : (totals : List ℤ) → ((i : ℕ) → i < length ms → total_at totals (kept_at ms i).leaf ≡ (kept_at ms i).base +ℤ rise) →
      Agree (members_of rise ms) totals
  Agree-kept totals each i low =
      let is = member-is rise ms i (within i low) in
      ap (λ (m : Member). total_at totals m.leaf) is ∙ each i (within i low) ∙ ap (λ (m : Member). m.total) (sym is)

  -- members that are marked as outer by what is kept
  pub AreMarked-kept : (marks : List Mark) → ((i : ℕ) → i < length ms → ((kept_at ms i).leaf < length marks) × (mark_at marks (kept_at ms i).leaf ≡ Outer)) →
      AreMarked (members_of rise ms) marks
  AreMarked-kept marks each i low =
      subst (λ (m : Member). (m.leaf < length marks) × (mark_at marks m.leaf ≡ Outer)) (sym (member-is rise ms i (within i low))) (each i (within i low))

  -- totals that have grown have risen
  pub IsRiseTo-grown : (totals : List ℤ) (marks : List Mark) (delta : ℤ) → 0 < length ms → HaveGrown (members_of rise ms) totals marks delta →
      IsRiseTo ms rise totals marks (rise +ℤ delta)
  IsRiseTo-grown totals marks delta some all = record {
    some = some;
    more = omega (arith, ints, all.whole);
    each = λ i low. (
      subst (λ (m : Member). mark_at marks m.leaf ≡ Outer) (member-is rise ms i low) (all.outer i (omega (arith, low, members-count rise ms))).1,
      total-agree (rise +ℤ delta) ms totals (subst (λ xs. Agree xs totals) (sym (members-grown rise delta ms)) all.agree) i low,
    );
  }

-- what becomes of members that follow their totals
pub record Follows (old : List Member) (totals : List ℤ) (marks : List Mark) (new : List Member) : Type 0 where
  pub outer : AreMarked new marks
  pub agree : Agree new totals
  pub kept : (delta : ℤ) → HaveGrown old totals marks delta → new ≡ grown delta old
  pub cleared : ((delta : ℤ) → ¬ HaveGrown old totals marks delta) → new ≡ []

-- where no totals have risen alike, and yet all have grown, there are none
pub none-grown : (rise : ℤ) (ms : List Kept) (totals : List ℤ) (marks : List Mark) → ((to : ℤ) → ¬ IsRiseTo ms rise totals marks to) → (delta : ℤ) →
    HaveGrown (members_of rise ms) totals marks delta → [] ≡ grown delta (members_of rise ms)
none-grown rise [] totals marks none delta all = refl
none-grown rise (m ∷ ms) totals marks none delta all = absurd (none (rise +ℤ delta) (IsRiseTo-grown rise (m ∷ ms) totals marks delta (omega arith) all))

module _ {t : Table} {rise : ℤ} {ms : List Kept} {places : List ℕ} {nearest : List Nearest} (near : IsNear t rise ms places nearest) where
  -- the key of a leaf's nearest member is its cost less what the member has of its total
  pub key-kept : (totals : List ℤ) → Agree (members_of rise ms) totals → 0 < length ms → (v : ℕ) → v < t.size → IsKeyOf t totals rise v (nearest_at nearest v)
  key-kept totals agree some v low =
      let n = near.each v low some in
      let total = total-agree rise ms totals agree n.at n.low in
      let cost : cost_of t (kept_at ms n.at).leaf v ≡ cost_of t (nearest_at nearest v).leaf v = ap (λ k. cost_of t k v) n.leaf in
      let here : total_at totals (kept_at ms n.at).leaf ≡ total_at totals (nearest_at nearest v).leaf = ap (λ k. total_at totals k) n.leaf in
      omega (arith, ints, n.key, total, cost, here)

  -- a member stands at its place
  pub placed-member : (leaf : ℕ) → IsMember (members_of rise ms) leaf → (get_or places leaf 0 < length ms) × ((kept_at ms (get_or places leaf 0)).leaf ≡ leaf)
  placed-member leaf is =
      let at = kept-IsMember rise ms leaf is in
      let here : get_or places leaf 0 ≡ at.0 = ap (λ n. get_or places n 0) (sym at.2) ∙ near.placed at.0 at.1 in
      (omega (arith, here, at.1), ap (λ i. (kept_at ms i).leaf) here ∙ at.2)

  -- the least of the keys kept is that of the least slack to an outer leaf
  module _ (totals : List ℤ) (marks : List Mark) (members : (u : ℕ) → u < t.size → (mark_at marks u ≡ Outer →
      IsMember (members_of rise ms) u) × (IsMember (members_of rise ms) u → mark_at marks u ≡ Outer))
      (agree : Agree (members_of rise ms) totals) where
    total-kept : (i : ℕ) → i < length ms → total_at totals (kept_at ms i).leaf ≡ (kept_at ms i).base +ℤ rise
    total-kept = total-agree rise ms totals agree

    -- the nearest member of a free leaf and that leaf are an outer and a free leaf
    pub nearest-outer : (u v : ℕ) → 0 < length ms → IsNearestFree t nearest marks u v → IsOuterFree t marks u v
    nearest-outer u v some is =
        let n = near.each v is.v_leaf some in
        let leaf : (kept_at ms n.at).leaf ≡ u = n.leaf ∙ sym is.nearest_is in
        let low = near.low n.at n.low in
        record {
          u_leaf = omega (arith, leaf, low);
          v_leaf = is.v_leaf;
          outer = (members u (omega (arith, leaf, low))).1 (IsMember-kept rise ms n.at u n.low leaf);
          free = is.free;
        }

    -- no outer leaf has less slack with a free leaf than its nearest member
    pub nearest-least : (u v w : ℕ) → 0 < length ms → IsNearestFree t nearest marks w v → IsOuterFree t marks u v →
        slack_of t totals w v ≤ℤ slack_of t totals u v
    nearest-least u v w some is pair =
        let n = near.each v is.v_leaf some in
        let leaf : (kept_at ms n.at).leaf ≡ w = n.leaf ∙ sym is.nearest_is in
        let at = kept-IsMember rise ms u ((members u pair.u_leaf).0 pair.outer) in
        let least = n.least at.0 at.1 in
        rw (sym leaf, sym at.2)
        (omega (arith, ints, least, n.key, total-kept n.at n.low, total-kept at.0 at.1))

    -- the least among the nearest is the least of all outer and free leaves
    pub Least-kept : (result : Option Pair) → 0 < length ms → Least t totals (IsNearestFree t nearest marks) result →
        Least t totals (IsOuterFree t marks) result
    Least-kept None some none = λ u v pair. none (nearest_at nearest v).leaf v (record { v_leaf = pair.v_leaf; nearest_is = refl; free = pair.free })
    Least-kept (Some p) some least =
        record {
          one = nearest-outer p.u p.v some least.one;
          slack = least.slack;
          least = λ u v pair.
              let here : IsNearestFree t nearest marks (nearest_at nearest v).leaf v = record { v_leaf = pair.v_leaf; nearest_is = refl; free = pair.free } in
              omega (arith, ints, least.least (nearest_at nearest v).leaf v here, nearest-least u v (nearest_at nearest v).leaf some here pair);
        }

  -- what all have risen by, a difference of two totals
  pub rise-high : rise ≤ℤ pos (2 ^ 65)
  rise-high = by (length ms) refl
    where
      by : (n : ℕ) → length ms ≡ n → rise ≤ℤ pos (2 ^ 65)
      by zero none = omega (arith, ints, near.rise_none none)
      by (suc n) some = omega (arith, ints, near.first (omega arith), near.fits 0 (omega arith))

  -- a change of the rise
  IsNear-moved : (to : ℤ) → 0 < length ms → rise ≤ℤ to → ((i : ℕ) → i < length ms → FitsSigned w64 ((kept_at ms i).base +ℤ to)) → IsNear t to ms places nearest
  IsNear-moved to some more fits =
      grind (arith, ints, near.places_count, near.nearest_count, near.rise_whole, some, near.first, fits, near.low, near.placed, near.each)

  -- a shift
  pub IsNear-shifted : (delta : ℤ) → 0 < length ms → pos 0 ≤ℤ delta → TotalsFit delta (members_of rise ms) → IsNear t (rise +ℤ delta) ms places nearest
  IsNear-shifted delta some whole fits = IsNear-moved (rise +ℤ delta) some (omega (arith, ints)) (λ i low.
      let is = ap (λ (m : Member). m.total +ℤ delta) (member-is rise ms i low) in
      let same : (kept_at ms i).base +ℤ (rise +ℤ delta) ≡ ((kept_at ms i).base +ℤ rise) +ℤ delta = omega (arith, ints) in
      subst (λ z. FitsSigned w64 z) (is ∙ sym same) (fits i (omega (arith, low, members-count rise ms))))

  -- totals that have risen alike
  module _ (totals : List ℤ) (marks : List Mark) (count : length marks ≡ t.size) (to : ℤ) (all : IsRiseTo ms rise totals marks to) where
    pub IsNear-risen : ((i : ℕ) → i < length ms → FitsSigned w64 (total_at totals (kept_at ms i).leaf)) → IsNear t to ms places nearest
    IsNear-risen fits = grind (arith, ints, IsNear-moved, all.some, all.more, all.each, fits)

    agree : Agree (members_of to ms) totals
    agree = Agree-kept to ms totals (λ i low. (all.each i low).1)

    marked : (r : ℤ) → AreMarked (members_of r ms) marks
    marked r = AreMarked-kept r ms marks (λ i low. (omega (arith, near.low i low, count), (all.each i low).0))

    -- they have grown by this and by nothing else
    pub Follows-risen : Follows (members_of rise ms) totals marks (members_of to ms)
    Follows-risen = record {
      outer = marked to;
      agree = agree;
      kept = λ delta grown_by.
          let other = IsRiseTo-grown rise ms totals marks delta all.some grown_by in
          let same : to ≡ rise +ℤ delta = omega (arith, ints, (all.each 0 all.some).1, (other.each 0 all.some).1) in
          ap (λ z. members_of z ms) same ∙ members-grown rise delta ms;
      cleared = λ never.
          let same : to ≡ rise +ℤ (to -ℤ rise) = omega (arith, ints) in
          absurd (never (to -ℤ rise) (record {
            whole = omega (arith, ints, all.more);
            outer = marked rise;
            agree = subst (λ xs. Agree xs totals) (ap (λ z. members_of z ms) same ∙ members-grown rise (to -ℤ rise) ms) agree;
          }));
    }

  -- a new member
  module _ (leaf : ℕ) (total : ℤ) (low : leaf < t.size) (fresh : IsMember (members_of rise ms) leaf → ⊥) (fits : FitsSigned w64 total) where
    abbrev pub new_kept : Kept
    new_kept = record { leaf = leaf; base = total -ℤ rise }

    abbrev more : List Kept
    more = ms ++ new_kept ∷ []

    more-count : length more ≡ length ms + 1
    more-count = length-append ms (new_kept ∷ [])

    -- what holds of each member before and of the new one holds of each
    each-more : (P : ℕ → Kept → Type 0) → ((i : ℕ) → i < length ms → P i (kept_at ms i)) → P (length ms) new_kept → (i : ℕ) → i < length more →
        P i (kept_at more i)
    each-more P old new i within = grind (arith, ints, at_end, within, old, new)

    low-more : (i : ℕ) → i < length more → (kept_at more i).leaf < t.size
    low-more = each-more (λ i m. m.leaf < t.size) near.low low

    placed-more : (i : ℕ) → i < length more → get_or (set places leaf (length ms)) (kept_at more i).leaf 0 ≡ i
    placed-more = each-more (λ i m. get_or (set places leaf (length ms)) m.leaf 0 ≡ i)
        (λ i within. get_or-set_other places leaf (kept_at ms i).leaf (length ms) 0 (λ same. fresh (IsMember-kept rise ms i leaf within same))
        ∙ near.placed i within)
        (get_or-set_same places leaf (length ms) 0 (omega (arith, low, near.places_count)))

    -- what is kept more is a member more
    pub members-more : members_of rise more ≡ members_of rise ms ++ record { leaf = leaf; total = total } ∷ []
    members-more = grind (arith, ints, map-append)

    -- there is room for it
    pub room-more : length ms < t.size
    room-more =
        let all = short (map (λ (m : Kept). m.leaf) more) t.size
        (λ i j low_i low_j same. sym (placed-more i (inside i low_i)) ∙ ap (λ n. get_or (set places leaf (length ms)) n 0)
        (sym (leaf-is i low_i) ∙ same ∙ leaf-is j low_j) ∙ placed-more j (inside j low_j))
        (λ i within. omega (arith, leaf-is i within, low-more i (inside i within))) in
        omega (arith, all, length-map more (λ (m : Kept). m.leaf), more-count)
      where
        inside : (i : ℕ) → i < length (map (λ (m : Kept). m.leaf) more) → i < length more
        inside i within = omega (arith, within, length-map more (λ (m : Kept). m.leaf))

        leaf-is : (i : ℕ) → i < length (map (λ (m : Kept). m.leaf) more) → get_or (map (λ (m : Kept). m.leaf) more) i 0 ≡ (kept_at more i).leaf
        leaf-is i within = get_or-map (λ (m : Kept). m.leaf) more i no_kept 0 (inside i within)

    module _ (first : Bool) (is_first : first ≡ true → length ms ≡ 0) (is_later : first ≡ false →
        0 < length ms) (new : List Nearest) (count : length new ≡ t.size)
        (taken : (v : ℕ) → v < t.size → IsTakenAt t new_kept first v (nearest_at nearest v) (nearest_at new v)) where
      taken-new : (v : ℕ) (n : Nearest) → v < t.size → n ≡ record { leaf = leaf; key = key_of t new_kept v } →
          (first ≡ true) ⊎ (key_of t new_kept v ≤ℤ (nearest_at nearest v).key) → IsNearestOf t more v n
      taken-new v n low_v is less =
          record {
            at = length ms;
            low = omega (arith, more-count);
            leaf = ap (λ (m : Kept). m.leaf) last ∙ ap (λ (x : Nearest). x.leaf) (sym is);
            key = ap (λ (x : Nearest). x.key) is ∙ ap (λ m. key_of t m v) (sym last);
            least = each-more (λ i m. n.key ≤ℤ key_of t m v) (grind (arith, ints, less, is, near.each, low_v))
                (omega (arith, ints, ap (λ (x : Nearest). x.key) is));
          }
        where
          last : kept_at more (length ms) ≡ new_kept
          last = get_or-append_seam ms new_kept [] no_kept

      kept-old : (v : ℕ) (n : Nearest) → v < t.size → n ≡ nearest_at nearest v → first ≡ false → (nearest_at nearest v).key ≤ℤ key_of t new_kept v →
          IsNearestOf t more v n
      kept-old v n low_v is later less =
          let each = near.each v low_v (is_later later) in
          let here = get_or_append_left ms (new_kept ∷ []) no_kept each.at each.low in
          record {
            at = each.at;
            low = omega (arith, each.low, more-count);
            leaf = ap (λ (m : Kept). m.leaf) here ∙ each.leaf ∙ ap (λ (x : Nearest). x.leaf) (sym is);
            key = ap (λ (x : Nearest). x.key) is ∙ each.key ∙ ap (λ m. key_of t m v) (sym here);
            least = each-more (λ i m. n.key ≤ℤ key_of t m v) (λ i within. omega (arith, ints, ap (λ (x : Nearest). x.key) is, each.least i within))
                (omega (arith, ints, ap (λ (x : Nearest). x.key) is, less));
          }

      -- after one member more each leaf's nearest is taken anew where that is nearer
      pub IsNear-added : IsNear t rise more (set places leaf (length ms)) new
      IsNear-added =
          record {
            places_count = length-set places leaf (length ms) ∙ near.places_count;
            nearest_count = count;
            rise_whole = near.rise_whole;
            rise_none = λ none. absurd (omega (arith, none, more-count));
            first = λ some. each-more (λ i m. i ≡ 0 → FitsSigned w64 m.base)
                (λ i within zero. subst (λ k. FitsSigned w64 (kept_at ms k).base) (sym zero) (near.first (omega (arith, within))))
                (λ none. let same : total -ℤ rise ≡ total = omega (arith, ints, near.rise_none none) in subst (λ z. FitsSigned w64 z) (sym same) fits)
                0 some refl;
            fits = each-more (λ i m. FitsSigned w64 (m.base +ℤ rise)) near.fits
                (let same : (total -ℤ rise) +ℤ rise ≡ total = omega (arith, ints) in subst (λ z. FitsSigned w64 z) (sym same) fits);
            low = low-more;
            placed = placed-more;
            each = grind (arith, ints, taken-new, kept-old);
          }

-- the scan of the free leaves
module _ (t : Table) (totals : List ℤ) (nearest : List Nearest) (marks : List Mark) where
  abbrev Until : ℕ → ℕ → ℕ → Type 0
  Until place u v = (v < place) × IsNearestFree t nearest marks u v

  -- after the last leaf it is the least of all
  pub Least-all : (best : Option Pair) → Least t totals (Until t.size) best → Least t totals (IsNearestFree t nearest marks) best
  Least-all None none = λ u v is. none u v (is.v_leaf, is)
  Least-all (Some p) least = grind (arith, ints, least.one.1, least.slack, least.least)

-- the leaves before a place have the nearer member, and the others what they had
module _ (t : Table) (m : Kept) (first : Bool) (initial now : List Nearest) (v : ℕ) (n : Nearest) (count : length now ≡ t.size) (low : v < t.size)
    (taken : (w : ℕ) → w < v → IsTakenAt t m first w (nearest_at initial w) (nearest_at now w))
    (rest : (w : ℕ) → v ≤ w → nearest_at now w ≡ nearest_at initial w) (here : IsTakenAt t m first v (nearest_at now v) n) where
  -- the entries up to this one are those that are to be taken
  pub taken-next : (w : ℕ) → w < v + 1 → IsTakenAt t m first w (nearest_at initial w) (nearest_at (set now v n) w)
  taken-next w less = grind (arith, ints, below_next, get_or-set_other, get_or-set_same, less)

  -- the entries behind it are as they were
  pub rest-next : (w : ℕ) → v + 1 ≤ w → nearest_at (set now v n) w ≡ nearest_at initial w
  rest-next w most = grind (arith, ints, get_or-set_other, most)
