-- A walk over the bonds gives each spin the value that every assignment which follows the bonds has there.
use Rattle.std.proofs.Common.{inl, inr, ap₂, subst, ◌≡◌, ℕ, ◌+◌, ◌/◌, ◌<◌, ◌≤◌, pos, Bool, true, false, not, List, map, set, take, refl, sym, ◌∙◌, ap, arith, All, length, get_or, eqb}
use Rattle.std.proofs.Math.Bool.{beq}
use Rattle.std.proofs.lemmas.Bool.{cases_eq}
use Rattle.std.proofs.lemmas.List.{length-set, length-map, get_or-map, get_or-set_same, get_or-set_other}
use Rattle.std.proofs.lemmas.List.Elements.{All-more, All-weaker, All-from_get_or}
use Rattle.std.specs.List.Sorted.{IsStrictlyIncreasing}
use Rattle.sg_model.proofs.Darts.{tail_even, tail_odd, head_even, head_odd}
use Rattle.sg_model.proofs.Paths.{dart_of_step}
use Rattle.sg_model.proofs.Rotations.{place_at}
use Rattle.sg_model.specs.Broken.{is_negative}
use Rattle.sg_model.specs.Connected.{IsConnected, all_bonds}
use Rattle.sg_model.specs.Ising.{Ising, bond_count}
use Rattle.sg_model.specs.Rotation.{dart_count, darts_of, head_of, tail}
use Rattle.sg_model.specs.Spins.{IsAssignment, IsUpOrDown, spin}
use Rattle.sg_model.specs.WellFormed.{IsInstance}
use Rattle.sg_planar.proofs.FittingBonds.{fitting_follows}
use Rattle.sg_planar.specs.BrokenLists.{BreaksExactly, FitsFaces}
use Rattle.sg_planar.specs.Fit.{Embedding, IsPlanar}
use Rattle.sg_planar.specs.Following.{is_unlike, FollowsBonds, value_of, IsWalkOrder, IsRight, HeadsRight, SetsHeads, HeadsSet, SetTo, TellsDown}
use Rattle.sg_base.proofs.RisingLists.{parity_of_rising}
use Rattle.sg_base.specs.Parity.{xor, parity_by}
use Rattle.sg_base.specs.Sets.{is_marked, Stands}
use Rattle.sg_planar.specs.Walk.{IsFoundFrom}

-- the marks of the negative bonds, turned at the bonds of the list
pub unlike_marked : (inst : Ising) (list : List ℕ) → All (λ k. k < bond_count inst) list → IsStrictlyIncreasing list →
    (old now : List Bool) → old ≡ map is_negative inst.bonds →
    ((i : ℕ) → i < length old → is_marked now i ≡ xor (is_marked old i) (parity_by (λ k. eqb k i) list)) →
    (k : ℕ) → k < bond_count inst → is_marked now k ≡ is_unlike inst list k
unlike_marked inst list low up old now negative turned k l =
    turned k (omega (arith, ap length negative, length-map inst.bonds is_negative))
    ∙ ap₂ xor (ap (λ ms. is_marked ms k) negative ∙ get_or-map is_negative inst.bonds k (record { u = 0; v = 0; j = pos 0 }) false l)
    (parity_of_rising list (bond_count inst) k low up l)

-- where two marks differ, one is set and not both
pub ne_is_xor : (a b : Bool) → not (beq a b) ≡ xor a b
ne_is_xor true true = refl
ne_is_xor true false = refl
ne_is_xor false true = refl
ne_is_xor false false = refl

-- over a dart the value changes as its bond asks for it
pub follows_dart : (inst : Ising) (unlike t : ℕ → Bool) → FollowsBonds inst unlike t → (d : ℕ) → d < dart_count inst →
    t (head_of inst d) ≡ xor (t (tail inst d)) (unlike (d / 2))
follows_dart inst unlike t h d l = grind (arith, head_even, tail_even, head_odd, tail_odd)

module _ (inst : Ising) (unlike : ℕ → Bool) where
  -- one dart more
  pub heads_more : (spin : ℕ) (darts : List ℕ) (old now : List Bool) (i to : ℕ) (v : Bool) → i < length darts →
      get_or darts i 0 < dart_count inst → tail inst (get_or darts i 0) ≡ spin → to ≡ head_of inst (get_or darts i 0) → to < length now →
      v ≡ xor (is_marked now spin) (unlike (get_or darts i 0 / 2)) →
      HeadsSet inst unlike spin (take i darts) old now → HeadsSet inst unlike spin (take (i + 1) darts) old (set now to v)
  heads_more spin darts old now i to v l dart leaves leads inside value h = record {
    lengths = length-set now to v ∙ h.lengths;
    sets = λ t follows right. step t follows right (h.sets t follows right);
  }
    where
      step : (t : ℕ → Bool) → FollowsBonds inst unlike t → IsRight t old spin → SetsHeads inst t (take i darts) old now →
          SetsHeads inst t (take (i + 1) darts) old (set now to v)
      step t follows right s = record {
        kept = λ x r. still x (s.kept x r);
        heads = All-more (λ d. IsRight t (set now to v) (head_of inst d)) darts i 0 l
            (All-weaker (λ d. IsRight t now (head_of inst d)) (λ d. IsRight t (set now to v) (head_of inst d)) (λ d r. still (head_of inst d) r)
            (take i darts) s.heads)
            (subst (IsRight t (set now to v)) leads here);
      }
        where
          here : IsRight t (set now to v) to
          here = grind (arith, get_or-set_same, follows_dart)

          still : (x : ℕ) → IsRight t now x → IsRight t (set now to v) x
          still x r = grind (arith, cases_eq x to, here, get_or-set_other, x)

module _ (inst : Ising) (good : IsInstance inst) (unlike : ℕ → Bool) (order : List ℕ) (walk : IsWalkOrder inst order) where
  -- the spins up to the next are right
  pub right_in_order : (next : ℕ) (down : List Bool) → SetTo inst unlike order next down → (t : ℕ → Bool) → FollowsBonds inst unlike t →
      (k : ℕ) → k < length order → k < next + 1 → IsRight t down (get_or order k 0)
  right_in_order next down h t follows k l b = elim (cases_eq k 0) [
    | inl e ↦ subst (IsRight t down) (sym (ap (λ j. get_or order j 0) e ∙ walk.root_first.1)) (h.first t follows)
    | inr ne ↦ from (walk.found_from k (omega arith) l)
  ]
    where
      from : IsFoundFrom inst all_bonds order k → IsRight t down (get_or order k 0)
      from (j, before, joined) =
          let d : (d : ℕ) × (d < dart_count inst) × (tail inst d ≡ get_or order j 0) × (head_of inst d ≡ get_or order k 0) × (all_bonds
          (d / 2) ≡ true) =
          dart_of_step inst all_bonds (get_or order j 0) (get_or order k 0) joined in
          let place : (i : ℕ) × (i < length (darts_of inst (get_or order j 0))) × (get_or (darts_of inst (get_or order j 0)) i 0 ≡ d.0) =
          place_at inst good (get_or order j 0) d.0 d.1 d.2 in
          subst (IsRight t down) (ap (head_of inst) place.2 ∙ d.3) (h.heads t follows j (omega (arith, before)) place.0 0 place.1)

  -- one spin more is visited
  pub set_to_more : (next : ℕ) (old now : List Bool) → next < length order → SetTo inst unlike order next old →
      HeadsSet inst unlike (get_or order next 0) (darts_of inst (get_or order next 0)) old now → SetTo inst unlike order (next + 1) now
  set_to_more next old now l h v = record {
    lengths = v.lengths ∙ h.lengths;
    first = λ t follows. (set t follows).kept 0 (h.first t follows);
    heads = heads';
  }
    where
      set : (t : ℕ → Bool) → FollowsBonds inst unlike t → SetsHeads inst t (darts_of inst (get_or order next 0)) old now
      set t follows = v.sets t follows (right_in_order next old h t follows next l (omega arith))

      heads' : (t : ℕ → Bool) → FollowsBonds inst unlike t → (k : ℕ) → k < next + 1 → HeadsRight inst t now (darts_of inst (get_or order k 0))
      heads' t follows k b = elim (cases_eq k next) [
        | inl e ↦ subst (λ j. HeadsRight inst t now (darts_of inst (get_or order j 0))) (sym e) (set t follows).heads
        | inr ne ↦ All-weaker (λ d. IsRight t old (head_of inst d)) (λ d. IsRight t now (head_of inst d)) (λ d r. (set t follows).kept (head_of inst d) r)
            (darts_of inst (get_or order k 0)) (h.heads t follows k (omega arith))
      ]

  -- when all spins of the order are visited, all are right
  pub set_to_all : (next : ℕ) (down : List Bool) → length order ≤ next → SetTo inst unlike order next down → TellsDown inst unlike down
  set_to_all next down all h = record {
    lengths = h.lengths;
    right = λ t follows x l. (let n : Stands order x = walk.complete x l in
        subst (IsRight t down) n.2 (right_in_order next down h t follows n.0 n.1 (omega (arith, n.1))));
  }

up_or_down : (b : Bool) → IsUpOrDown (value_of b)
up_or_down true = inr refl
up_or_down false = inl refl

-- the values of all spins make an assignment, whose spins are down where the marks are
module _ (inst : Ising) (down : List Bool) (lengths : length down ≡ inst.n) where
  value_at : (i : ℕ) → i < inst.n → spin (map value_of down) i ≡ value_of (is_marked down i)
  value_at i l = get_or-map value_of down i false (pos 1) (omega arith)

  -- the values are an assignment
  pub values_assigned : IsAssignment inst (map value_of down)
  values_assigned = record {
    count = length-map down value_of ∙ lengths;
    values = All-from_get_or IsUpOrDown (map value_of down) (pos 1)
        (λ i l. subst IsUpOrDown (sym (value_at i (omega (arith, l, length-map down value_of)))) (up_or_down (is_marked down i)));
  }

  -- and which breaks the bonds of the list, where the marks are those of an assignment that follows
  pub values_break : (list : List ℕ) → IsInstance inst → (t : ℕ → Bool) → FollowsBonds inst (is_unlike inst list) t →
      ((x : ℕ) → x < inst.n → IsRight t down x) → (spin (map value_of down) 0 ≡ pos 1) × BreaksExactly inst (map value_of down) list
  values_break list good t follows right = grind (arith, value_at)

-- so in the plane, where the instance is connected, the walked spins break exactly the bonds of a list that fits the faces
pub walked_spins : (p : Embedding) → IsPlanar p → IsConnected p.instance → (list : List ℕ) → FitsFaces p.instance p.faces list →
    (unlike down : List Bool) →
    ((k : ℕ) → k < bond_count p.instance → is_marked unlike k ≡ is_unlike p.instance list k) → TellsDown p.instance (is_marked unlike) down →
    (spin (map value_of down) 0 ≡ pos 1) × BreaksExactly p.instance (map value_of down) list
walked_spins p h connected list fits unlike down marks told =
    let t : (t : ℕ → Bool) × FollowsBonds p.instance (is_unlike p.instance list) t =
    fitting_follows p.instance h.instance p.faces h.faces connected h.genus_zero list fits in
    values_break p.instance down told.lengths list h.instance t.0 t.1
    (told.right t.0 (record { first_up = t.1.first_up; across = λ k l. marks k l ∙ t.1.across k l }))
