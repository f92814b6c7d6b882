-- Sample after sample from one stream.
use Rattle.std.proofs.Common.{◌≡◌, inl, inr, ℕ, ℤ, pos, ◌+◌, ◌*◌, ◌<◌, ◌≤◌, List, [], ◌∷◌, ◌++◌, length, get_or, take, drop, sym, ◌∙◌, ap, subst, arith, append_assoc, length-append, length-drop}
use Rattle.std.proofs.Math.Nat.{mul-le-mul_right}
use Rattle.std.proofs.Math.Seq.{drop-append_seam}
use Rattle.std.proofs.lemmas.Bool.{cases_lt}
use Rattle.std.proofs.lemmas.List.{drop-append-le, get_or_append_left, get_or_push, length_push, take-append-le, take_all}
use Rattle.sg_laws.proofs.Streams.{all_found, all_made, made_on, none_made}
use Rattle.sg_lattice.specs.declared.kind.Kind.TheVariants.{Cylinder}
use Rattle.sg_lattice.specs.Tables.{lattice}
use Rattle.sg_laws.specs.Stream.{Draws}
use Rattle.sg_ensemble.specs.Samples.{AreWalls, DrawsSamples, IsFitWithWall, draw_count}

-- a slice of the front part is that of the whole
front_slice : (xs ys : List ℤ) (a m : ℕ) → a + m ≤ length xs → take m (drop a (xs ++ ys)) ≡ take m (drop a xs)
front_slice xs ys a m l =
    ap (take m) (drop-append-le a xs ys (omega arith)) ∙ take-append-le m (drop a xs) ys (omega (arith, length-drop a xs))

-- the slice behind the front part
last_slice : (xs ys : List ℤ) (a m : ℕ) → length xs ≡ a → length ys ≡ m → take m (drop a (xs ++ ys)) ≡ ys
last_slice xs ys a m e f =
    ap (λ n. take m (drop n (xs ++ ys))) (sym e) ∙ ap (take m) (drop-append_seam xs ys) ∙ take_all m ys (omega (arith, f))

-- what holds of each slice of length m and its number, where one of each is added
each_more : (P : List ℤ → ℤ → Type 0) (m count : ℕ) (draws next walls : List ℤ) (wall : ℤ) → length draws ≡ count * m →
    length next ≡ m → length walls ≡ count → ((i : ℕ) → i < count → P (take m (drop (i * m) draws)) (get_or walls i (pos 0))) → P next wall
    → (i : ℕ) → i < count + 1 → P (take m (drop (i * m) (draws ++ next))) (get_or (walls ++ wall ∷ []) i (pos 0))
each_more P m count draws next walls wall long one counted before here i l = elim (cases_lt i count) [
  | inl b ↦
      let inside : i * m + m ≤ length draws = (let all : (i + 1) * m ≤ count * m =
      mul-le-mul_right m (let le : i + 1 ≤ count = omega arith in le) in omega (arith, all, long)) in
      subst (λ xs. P xs (get_or (walls ++ wall ∷ []) i (pos 0))) (sym (front_slice draws next (i * m) m inside))
      (subst (P (take m (drop (i * m) draws))) (sym (get_or_append_left walls (wall ∷ []) (pos 0) i (omega (arith, counted)))) (before i b))
  | inr past ↦
      let same : i ≡ count = omega arith in
      subst (λ xs. P xs (get_or (walls ++ wall ∷ []) i (pos 0))) (sym (last_slice draws next (i * m) m (long ∙ ap (λ n. n * m) (sym same)) one))
      (subst (P next) (sym (get_or_push walls wall (pos 0) i (counted ∙ sym same))) here)
]

-- so many samples are drawn from a stream, which goes on behind their draws
pub record IsDrawn (rows cols count : ℕ) (old new : ℕ → List ℤ) (walls : List ℤ) : Type 0 where
  pub draws : List ℤ
  pub drawn : length draws ≡ count * draw_count rows cols
  pub goes_on : (c : ℕ) → old (count * draw_count rows cols + c) ≡ draws ++ new c
  pub are : AreWalls rows cols count draws walls

-- one more sample
pub one_drawn : (rows cols count : ℕ) (old mid new : ℕ → List ℤ) (walls : List ℤ) (wall : ℤ) → IsDrawn rows cols count old mid walls
    → length (mid (draw_count rows cols)) ≡ draw_count rows cols
    → ((c : ℕ) → mid (draw_count rows cols + c) ≡ mid (draw_count rows cols) ++ new c)
    → IsFitWithWall (lattice Cylinder rows cols (mid (draw_count rows cols))) wall → IsDrawn rows cols (count + 1) old new (walls ++ wall ∷ [])
one_drawn rows cols count old mid new walls wall h long rest here = record {
  draws = h.draws ++ mid (draw_count rows cols);
  drawn = longer (draw_count rows cols) (length (h.draws ++ mid (draw_count rows cols))) (length h.draws) (length (mid (draw_count rows cols)))
      (length-append h.draws (mid (draw_count rows cols))) h.drawn long;
  goes_on = λ c.
      ap old (place (draw_count rows cols) c) ∙ h.goes_on (draw_count rows cols + c) ∙ ap (λ xs. h.draws ++ xs) (rest c)
      ∙ sym (append_assoc h.draws (mid (draw_count rows cols)) (new c));
  are = record {
    counted = length_push walls wall ∙ ap (λ n. n + 1) h.are.counted;
    each = each_more (λ xs d. IsFitWithWall (lattice Cylinder rows cols xs) d) (draw_count rows cols) count h.draws
        (mid (draw_count rows cols)) walls wall h.drawn long
        h.are.counted h.are.each here;
  };
}
  where
    longer : (m n a b : ℕ) → n ≡ a + b → a ≡ count * m → b ≡ m → n ≡ (count + 1) * m
    longer m n a b e f g = omega arith

    place : (m c : ℕ) → (count + 1) * m + c ≡ count * m + (m + c)
    place m c = omega arith

-- all samples: the draws are the first ones of the stream, and it goes on behind them
module _ (rows cols count : ℕ) (old new : ℕ → List ℤ) (walls : List ℤ) (h : IsDrawn rows cols count old new walls)
    (counts : (c : ℕ) → length (new c) ≡ c) where
  drawn_first : old (count * draw_count rows cols) ≡ h.draws
  drawn_first = all_found old new h.draws (count * draw_count rows cols) h.goes_on counts

  -- the walls are those of the first samples of the stream
  pub all_walls : AreWalls rows cols count (old (count * draw_count rows cols)) walls
  all_walls = subst (λ draws. AreWalls rows cols count draws walls) (sym drawn_first) h.are

  -- the stream goes on behind the draws of all samples
  pub all_behind : Draws (count * draw_count rows cols) old new
  all_behind = all_made old new h.draws (count * draw_count rows cols) h.goes_on counts h.drawn

  -- these and no more than one sample behind them
  pub some_behind : (most : ℕ) (last : ℕ → List ℤ) → count + 1 ≤ most → DrawsSamples rows cols 1 new last → DrawsSamples rows cols most old last
  some_behind most last more s =
      let few = s.few in
      let join : (m : ℕ) → count * m + s.samples * m ≡ (count + s.samples) * m = λ m. omega arith in
      record {
        samples = count + s.samples;
        few = omega (arith, few, more);
        drawn = subst (λ n. Draws n old last) (join (draw_count rows cols))
            (made_on (count * draw_count rows cols) (s.samples * draw_count rows cols) old new last all_behind s.drawn);
      }

  -- these alone
  pub just_behind : (most : ℕ) → count ≤ most → DrawsSamples rows cols most old new
  just_behind most few = record { samples = count; few = few; drawn = all_behind }

-- no sample was drawn, or one
pub none_of : (rows cols most : ℕ) (old : ℕ → List ℤ) → ((c : ℕ) → length (old c) ≡ c) → DrawsSamples rows cols most old old
none_of rows cols most old counts =
    let none : (m : ℕ) → 0 ≡ 0 * m = λ m. omega arith in
    record { samples = 0; few = omega arith; drawn = subst (λ n. Draws n old old) (none (draw_count rows cols)) (none_made old counts) }

-- the draws of one sample are those of at most one
pub one_of : (rows cols : ℕ) (old new : ℕ → List ℤ) → Draws (draw_count rows cols) old new → DrawsSamples rows cols 1 old new
one_of rows cols old new h =
    let one : (m : ℕ) → m ≡ 1 * m = λ m. omega arith in
    record { samples = 1; few = omega arith; drawn = subst (λ n. Draws n old new) (one (draw_count rows cols)) h }

-- a stream behind some of its draws
pub counts_behind : (mid new : ℕ → List ℤ) (m : ℕ) → ((c : ℕ) → length (mid c) ≡ c) → ((c : ℕ) → mid (m + c) ≡ mid m ++ new c) →
    (c : ℕ) → length (new c) ≡ c
counts_behind mid new m counts rest c =
    let e : length (mid m ++ new c) ≡ m + c = ap length (sym (rest c)) ∙ counts (m + c) in
    omega (arith, e, length-append (mid m) (new c), counts m)
