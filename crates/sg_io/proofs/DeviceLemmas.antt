-- Calls of a device, one after another.
use Rattle.std.proofs.Common.{◌≡◌, ℕ, ◌+◌, ◌-◌, ◌<◌, ◌≤◌, List, ◌++◌, length, take, drop, Option, None, Some, refl, sym, ap, subst, ◌∙◌, arith, append_assoc, length-append, length-drop}
use Rattle.std.proofs.Math.Seq.{drop-append-add, take-append-add, take-length}
use Rattle.std.proofs.lemmas.List.{take-append-drop, length-take-le}
use Rattle.sg_io.specs.Devices.{DropsFront, Grows, AgreesWith}

-- these bytes, and no others, are gone from the front of those still to come, where they are told
abbrev pub Takes : List ℕ → Option (List ℕ) → Option (List ℕ) → Type 0
Takes bytes None now = now ≡ None
Takes bytes (Some left) now = (rest : List ℕ) × (left ≡ bytes ++ rest) × (now ≡ Some rest)

-- a read whose bytes are not kept
pub Loses-more : (bytes : List ℕ) (n : ℕ) (old mid new : Option (List ℕ)) → Takes bytes old mid → DropsFront n mid new → DropsFront (length bytes + n) old new
Loses-more bytes n None mid new taken lost =
    let after : DropsFront n None new = subst (λ (m : Option (List ℕ)). DropsFront n m new) taken lost in after
Loses-more bytes n (Some left) mid new taken lost =
    let after : DropsFront n (Some taken.0) new = subst (λ (m : Option (List ℕ)). DropsFront n m new) taken.2 lost in
    let within : length bytes + n ≤ length left = omega (arith, ap length taken.1, length-append bytes taken.0, after.0) in
    (within, after.1 ∙ ap Some (sym (ap (drop (length bytes + n)) taken.1 ∙ drop-append-add bytes taken.0 n)))

-- one byte past the limit was read, so there are too many: the bytes that were read, or those that are told
pub too-long : (read : List ℕ) (limit : ℕ) (old new : Option (List ℕ)) → limit < length read → DropsFront (limit + 1) old new →
    (bytes : List ℕ) × AgreesWith old bytes × (limit < length bytes)
too-long read limit None new long lost = (read, tt, long)
too-long read limit (Some left) new long lost = (left, refl, omega (arith, lost.0))

-- one more write
pub Grows-more : (front piece : List ℕ) (old mid new : Option (List ℕ)) → Grows front old mid → Grows piece mid new → Grows (front ++ piece) old new
Grows-more front piece None mid new grown more =
    let after : Grows piece None new = subst (λ (m : Option (List ℕ)). Grows piece m new) grown more in after
Grows-more front piece (Some written) mid new grown more =
    let after : Grows piece (Some (written ++ front)) new = subst (λ (m : Option (List ℕ)). Grows piece m new) grown more in
    after ∙ ap Some (append_assoc written front piece)

-- the first n of what is behind a place, joined to what is before it
pub take-joined : (a n : ℕ) (xs : List ℕ) → a ≤ length xs → take (a + n) xs ≡ take a xs ++ take n (take (length xs - a) (drop a xs))
take-joined a n xs within =
    let split : take (length (take a xs) + n) xs ≡ take a xs ++ take n (drop a xs) =
    ap (take (length (take a xs) + n)) (sym (take-append-drop a xs)) ∙ take-append-add (take a xs) (drop a xs) n in
    let here : take (a + n) xs ≡ take a xs ++ take n (drop a xs) =
    subst (λ (k : ℕ). take (k + n) xs ≡ take a xs ++ take n (drop a xs)) (length-take-le a xs within) split in
    let all : take (length xs - a) (drop a xs) ≡ drop a xs =
    subst (λ (k : ℕ). take k (drop a xs) ≡ drop a xs) (length-drop a xs) (take-length (drop a xs)) in
    here ∙ ap (λ (r : List ℕ). take a xs ++ take n r) (sym all)
