-- The records of a general instance behind the first, up to its `end`.
use Rattle.std.proofs.Common.{◌≡◌, ℕ, ◌+◌, ◌<◌, ◌≤◌, Bool, true, false, List, [], ◌∷◌, ◌++◌, length, map, get_or, set, Option, Some, None, refl, sym, ap, ◌∙◌, arith, inl, inr, codes}
use Rattle.std.specs.Prelude.{is_some, unwrap_or}
use Rattle.std.specs.List.{range_with_len}
use Rattle.std.specs.Option.{option_or}
use Rattle.std.proofs.lemmas.Bool.{cases_eq, eq-eqb, ne_eqb}
use Rattle.std.proofs.lemmas.List.{length-append, length-set, same_lists, get_or-set_same, get_or-set_other}
use Rattle.std.proofs.lemmas.Simd.{map-map}
use Rattle.std.proofs.lemmas.List.Elements.{All-append, All-cons, All-nil, All-same}
use Rattle.std.proofs.lemmas.List.FromFn.{get_or-map-range_with_len, length-map-range_with_len, map-range_with_len_more}
use Rattle.sg_model.specs.declared.bond.Bond.{Bond}
use Rattle.sg_model.specs.declared.refusal.Fault.{Fault}
use Rattle.sg_model.specs.declared.refusal.Fault.TheVariants.{Refused}
use Rattle.sg_model.specs.declared.refusal.Refusal.{Refusal}
use Rattle.sg_model.specs.declared.refusal.Refusal.TheVariants.{BadShape, UnknownKind}
use Rattle.sg_model.specs.Ising.{IsBond, Ising}
use Rattle.sg_reader.specs.ReadInstance.{RefusesBody, StatesInstance, HoldsGeneral}
use Rattle.sg_reader.specs.Ended.{Fails, HoldsSome, HoldsToEnd, RefusesNext, TakesNext}
use Rattle.sg_reader.proofs.EndedLaws.{end-fault}
use Rattle.sg_reader.proofs.ReadLaws.{body-fault, body-states}
use Rattle.sg_reader.specs.declared.header.Header.TheVariants as header
use Rattle.sg_reader.specs.declared.general.GeneralBody.{GeneralBody}
use Rattle.sg_base.specs.Limits.{bond_limit}
use Rattle.sg_reader.specs.Kept.{Kept}
use Rattle.sg_draft.specs.Tests.{Refuses, refuse_if}
use Rattle.sg_reader.specs.Tests.{any_index, field_count_fault, fields_fault, field_fault, size_in, spin_below}
use Rattle.sg_reader.specs.Body.{bond_fault, bond_of, bonds_in, general_fault, given_darts, has_rot, instance_of, says_bond, says_end, says_rot, says_rot_of, says_seam, rot_fault, rot_in, sole_list_fault, seam_in, sizes_from}
use Rattle.sg_reader.proofs.BodyLaws.{given-first, given-other, sole_list_fault-passes, other-word, said-more, said-other, seam_in-first, seam_in-other}
use Rattle.sg_model.specs.Faults.{OrNoMemory}

-- behind a good spin the darts are tested, and then whether its spin has some
pub rot_fault-left : (n : ℕ) (seen : Bool) (r : Kept) → 2 ≤ length r.fields → field_fault (spin_below n) 1 r ≡ None
    → rot_fault n seen r ≡ option_or (fields_fault (field_fault any_index) 2 r) (option_or (refuse_if seen (BadShape r.at)) None)
rot_fault-left n seen r long good = rw (ne_eqb (length r.fields) 1 (λ e. absurd (omega (arith, e, long))), good) refl

-- a `bond` is tested as one behind the bonds before it
pub general_fault-bond : (n : ℕ) (body : List Kept) (r : Kept) → says_bond r ≡ true → general_fault n body r ≡ bond_fault n (length (bonds_in body)) r
unfolding general_fault
general_fault-bond n body r h = rw h refl

-- a `rot` is tested as one of its spin
pub general_fault-rot : (n : ℕ) (body : List Kept) (r : Kept) → says_rot r ≡ true → general_fault n body r ≡ rot_fault n (has_rot body (size_in r 1)) r
unfolding general_fault
general_fault-rot n body r h = rw (other-word r (codes "rot") (codes "bond") h refl, h) refl

-- a `seam` is tested as one behind the others
pub general_fault-seam : (n : ℕ) (body : List Kept) (r : Kept) → says_seam r ≡ true → general_fault n body r ≡ sole_list_fault (is_some (seam_in body)) r
unfolding general_fault
general_fault-seam n body r h = rw (other-word r (codes "seam") (codes "bond") h refl, other-word r (codes "seam") (codes "rot") h refl, h) refl

-- an `end` is tested as a bare one
pub general_fault-end : (n : ℕ) (body : List Kept) (r : Kept) → says_end r ≡ true → general_fault n body r ≡ field_count_fault 1 r
unfolding general_fault
general_fault-end n body r h =
    let other = other-word r (codes "end") in
    rw (other (codes "bond") h refl, other (codes "rot") h refl, other (codes "seam") h refl, h) refl

-- any other record is of no known kind
pub general_fault-other : (n : ℕ) (body : List Kept) (r : Kept) → says_bond r ≡ false → says_rot r ≡ false → says_seam r ≡ false → says_end r ≡ false
    → general_fault n body r ≡ Some (UnknownKind r.at)
unfolding general_fault
general_fault-other n body r a b c d = rw (a, b, c, d) refl

-- the bonds of one more record
pub bonds_in-more : (body : List Kept) (r : Kept) → says_bond r ≡ true → bonds_in (body ++ r ∷ []) ≡ bonds_in body ++ bond_of r ∷ []
unfolding bonds_in
bonds_in-more body r h = said-more says_bond bond_of body r h

-- a record that is no `bond` gives none
pub bonds_in-other : (body : List Kept) (r : Kept) → says_bond r ≡ false → bonds_in (body ++ r ∷ []) ≡ bonds_in body
unfolding bonds_in
bonds_in-other body r h = said-other says_bond bond_of body r h

-- a record that is no `rot` of the spin leaves its darts
rot_in-other : (body : List Kept) (r : Kept) (i : ℕ) → says_rot_of i r ≡ false → rot_in (body ++ r ∷ []) i ≡ rot_in body i
unfolding rot_in
rot_in-other body r i h = given-other (says_rot_of i) (λ q. sizes_from q 2) body r h

-- behind its first `rot` the spin has these darts
rot_in-own : (body : List Kept) (r : Kept) (i : ℕ) → says_rot_of i r ≡ true → has_rot body i ≡ false → rot_in (body ++ r ∷ []) i ≡ Some (sizes_from r 2)
unfolding rot_in
rot_in-own body r i h first = given-first (says_rot_of i) (λ q. sizes_from q 2) body r first h

-- a table over the spins with one entry changed
table-set : {X : Type 0} (f g : ℕ → X) (n s : ℕ) (v : X) → s < n → g s ≡ v → ((i : ℕ) → (i ≡ s → ⊥) → g i ≡ f i)
    → set (map f (range_with_len 0 n)) s v ≡ map g (range_with_len 0 n)
table-set {X} f g n s v inside here others =
    let count = length-map-range_with_len f 0 n in
    let count_s = length-set (map f (range_with_len 0 n)) s v in
    same_lists (set (map f (range_with_len 0 n)) s v) (map g (range_with_len 0 n)) (count_s ∙ count ∙ sym (length-map-range_with_len g 0 n)) (λ k d k_in.
    let below : k < n = omega (arith, count, count_s) in
    elim (cases_eq k s) [
      | inl e ↦ rw e (get_or-set_same (map f (range_with_len 0 n)) s v d (omega (arith, count)) ∙ sym here
          ∙ sym (get_or-map-range_with_len g 0 n s s d inside (omega arith)))
      | inr other ↦ get_or-set_other (map f (range_with_len 0 n)) s k v d other ∙ get_or-map-range_with_len f 0 n k k d below (omega arith)
          ∙ sym (others k other) ∙ sym (get_or-map-range_with_len g 0 n k k d below (omega arith))
    ])

table-same : {X : Type 0} (f g : ℕ → X) (n : ℕ) → ((i : ℕ) → g i ≡ f i) → map f (range_with_len 0 n) ≡ map g (range_with_len 0 n)
table-same f g n same = λ j. map (λ i. sym (same i) j) (range_with_len 0 n)

no-rot_of : (r : Kept) (i : ℕ) → says_rot r ≡ false → says_rot_of i r ≡ false
no-rot_of r i h = rw h refl

own-rot_of : (r : Kept) → says_rot r ≡ true → says_rot_of (size_in r 1) r ≡ true
own-rot_of r h = rw (h, eq-eqb (size_in r 1) (size_in r 1) refl) refl

other-rot_of : (r : Kept) (i : ℕ) → says_rot r ≡ true → (i ≡ size_in r 1 → ⊥) → says_rot_of i r ≡ false
other-rot_of r i h other = rw (h, ne_eqb (size_in r 1) i (λ e. other (sym e))) refl

-- what is kept behind a record that gives no darts
darts-kept : (body : List Kept) (r : Kept) (n : ℕ) → says_rot r ≡ false
    → map (rot_in body) (range_with_len 0 n) ≡ map (rot_in (body ++ r ∷ [])) (range_with_len 0 n)
darts-kept body r n h = table-same (rot_in body) (rot_in (body ++ r ∷ [])) n (λ i. rot_in-other body r i (no-rot_of r i h))

bond-tested : (old : GeneralBody) (r : Kept) (m : ℕ) → m ≡ length old.bonds → says_bond r ≡ true → (start : GeneralBody) (body : List Kept)
    → HoldsGeneral start body old → general_fault start.n body r ≡ bond_fault old.n m r
bond-tested old r m many is start body h = general_fault-bond start.n body r is ∙ ap (λ (l : List Bond). bond_fault start.n (length l) r) (sym h.bonds)
    ∙ ap (λ (k : ℕ). bond_fault start.n k r) (sym many) ∙ ap (λ (k : ℕ). bond_fault k m r) (sym h.spins)

-- a `bond` is taken
pub bond-taken : (old new : GeneralBody) (r : Kept) (m : ℕ) → m ≡ length old.bonds → says_bond r ≡ true → bond_fault old.n m r ≡ None
    → new.n ≡ old.n → new.bonds ≡ old.bonds ++ bond_of r ∷ [] → new.rotation ≡ old.rotation → new.seam ≡ old.seam
    → IsBond old.n (bond_of r) → m < bond_limit → TakesNext (λ s. general_fault s.n) HoldsGeneral old r new
bond-taken old new r m many is good same added lists cut sound room = record {
  passes = λ start body h. bond-tested old r m many is start body h ∙ good;
  goes_on = λ start body h. record {
    spins = same ∙ h.spins;
    some = omega (arith, same, h.some);
    bonds = added ∙ ap (λ (l : List Bond). l ++ bond_of r ∷ []) h.bonds ∙ sym (bonds_in-more body r is);
    few = omega (arith, ap length added, length-append old.bonds (bond_of r ∷ []), many, room);
    joined = rw same (All-same (IsBond old.n) new.bonds (old.bonds ++ bond_of r ∷ []) added
        (All-append (IsBond old.n) old.bonds (bond_of r ∷ []) h.joined (All-cons (IsBond old.n) (bond_of r) [] sound (All-nil (IsBond old.n)))));
    darts = rw same (lists ∙ h.darts ∙ darts-kept body r old.n (other-word r (codes "bond") (codes "rot") is refl));
    seam = cut ∙ h.seam ∙ sym (seam_in-other body r (other-word r (codes "bond") (codes "seam") is refl));
  };
}

-- a `bond` is refused
pub bond-refused : (old : GeneralBody) (r : Kept) (m : ℕ) (x : Refusal) → m ≡ length old.bonds → says_bond r ≡ true → bond_fault old.n m r ≡ Some x
    → RefusesNext (λ s. general_fault s.n) HoldsGeneral old r (Refused x)
bond-refused old r m x many is bad = record { refused = λ start body h. bond-tested old r m many is start body h ∙ bad }

-- what is kept behind a record that gives no bond
behind-other : (old new : GeneralBody) (start : GeneralBody) (body : List Kept) (r : Kept) → says_bond r ≡ false → new.n ≡ old.n → new.bonds ≡ old.bonds
    → HoldsGeneral start body old → new.rotation ≡ map (rot_in (body ++ r ∷ [])) (range_with_len 0 old.n) → new.seam ≡ seam_in (body ++ r ∷ [])
    → HoldsGeneral start (body ++ r ∷ []) new
behind-other old new start body r other same kept h darts cut = record {
  spins = same ∙ h.spins;
  some = omega (arith, same, h.some);
  bonds = kept ∙ h.bonds ∙ sym (bonds_in-other body r other);
  few = omega (arith, ap length kept, h.few);
  joined = rw (same, kept) h.joined;
  darts = rw same darts;
  seam = cut;
}

seam-tested : (old : GeneralBody) (r : Kept) (seen : Bool) → is_some old.seam ≡ seen → says_seam r ≡ true → (start : GeneralBody) (body : List Kept)
    → HoldsGeneral start body old → general_fault start.n body r ≡ sole_list_fault seen r
seam-tested old r seen was is start body h = general_fault-seam start.n body r is ∙ ap (λ (b : Bool). sole_list_fault b r) (sym (ap is_some h.seam) ∙ was)

-- a `seam` is taken
pub seam-taken : (old new : GeneralBody) (r : Kept) (seen : Bool) → is_some old.seam ≡ seen → says_seam r ≡ true → sole_list_fault seen r ≡ None
    → new.n ≡ old.n → new.bonds ≡ old.bonds → new.rotation ≡ old.rotation → new.seam ≡ Some (sizes_from r 1)
    → TakesNext (λ s. general_fault s.n) HoldsGeneral old r new
seam-taken old new r seen was is good same kept lists cut = record {
  passes = λ start body h. seam-tested old r seen was is start body h ∙ good;
  goes_on = λ start body h. behind-other old new start body r (other-word r (codes "seam") (codes "bond") is refl) same kept h
      (lists ∙ h.darts ∙ darts-kept body r old.n (other-word r (codes "seam") (codes "rot") is refl))
      (cut ∙ sym (seam_in-first body r (ap is_some (sym h.seam) ∙ was ∙ sole_list_fault-passes seen r good) is));
}

-- a `seam` is refused
pub seam-refused : (old : GeneralBody) (r : Kept) (seen : Bool) (e : Fault) → is_some old.seam ≡ seen → says_seam r ≡ true
    → OrNoMemory (Refuses (sole_list_fault seen r)) e → RefusesNext (λ s. general_fault s.n) HoldsGeneral old r e
seam-refused old r seen e was is bad = record { refused = λ start body h. rw (seam-tested old r seen was is start body h) bad }

-- what is kept of a spin
rot-of : (start : GeneralBody) (body : List Kept) (state : GeneralBody) (i : ℕ) (d : Option (List ℕ)) → HoldsGeneral start body state → i < state.n
    → get_or state.rotation i d ≡ rot_in body i
rot-of start body state i d h inside = ap (λ (l : List (Option (List ℕ))). get_or l i d) h.darts
    ∙ get_or-map-range_with_len (rot_in body) 0 state.n i i d inside (omega arith)

rot-tested : (old : GeneralBody) (r : Kept) (seen : Bool) (d : Option (List ℕ)) → is_some (get_or old.rotation (size_in r 1) d) ≡ seen
    → size_in r 1 < old.n → says_rot r ≡ true
    → (start : GeneralBody) (body : List Kept) → HoldsGeneral start body old → general_fault start.n body r ≡ rot_fault old.n seen r
rot-tested old r seen d was inside is start body h = general_fault-rot start.n body r is
    ∙ ap (λ (b : Bool). rot_fault start.n b r) (sym (ap is_some (rot-of start body old (size_in r 1) d h inside)) ∙ was)
    ∙ ap (λ (k : ℕ). rot_fault k seen r) (sym h.spins)

-- a `rot` is taken
pub rot-taken : (old new : GeneralBody) (r : Kept) (d : Option (List ℕ)) → is_some (get_or old.rotation (size_in r 1) d) ≡ false
    → size_in r 1 < old.n → says_rot r ≡ true → rot_fault old.n false r ≡ None → new.n ≡ old.n → new.bonds ≡ old.bonds → new.seam ≡ old.seam
    → new.rotation ≡ set old.rotation (size_in r 1) (Some (sizes_from r 2)) → TakesNext (λ s. general_fault s.n) HoldsGeneral old r new
rot-taken old new r d was inside is good same kept cut lists = record {
  passes = λ start body h. rot-tested old r false d was inside is start body h ∙ good;
  goes_on = λ start body h.
      let s = size_in r 1 in
      let now = rot_in-own body r s (own-rot_of r is) (sym (ap is_some (rot-of start body old s d h inside)) ∙ was) in
      behind-other old new start body r (other-word r (codes "rot") (codes "bond") is refl) same kept h
      (lists ∙ ap (λ (l : List (Option (List ℕ))). set l s (Some (sizes_from r 2))) h.darts
      ∙ table-set (rot_in body) (rot_in (body ++ r ∷ [])) old.n s (Some (sizes_from r 2)) inside now
      (λ i other. rot_in-other body r i (other-rot_of r i is other)))
      (cut ∙ h.seam ∙ sym (seam_in-other body r (other-word r (codes "rot") (codes "seam") is refl)));
}

-- a second `rot` of a spin is refused
pub rot-refused : (old : GeneralBody) (r : Kept) (d : Option (List ℕ)) (x : Refusal) → is_some (get_or old.rotation (size_in r 1) d) ≡ true
    → size_in r 1 < old.n → says_rot r ≡ true → rot_fault old.n true r ≡ Some x → RefusesNext (λ s. general_fault s.n) HoldsGeneral old r (Refused x)
rot-refused old r d x was inside is bad = record { refused = λ start body h. rot-tested old r true d was inside is start body h ∙ bad }

-- a `rot` is refused for a number, whether its spin was seen or not
pub rot-numbers : (old : GeneralBody) (r : Kept) (e : Fault) → says_rot r ≡ true → ((seen : Bool) → OrNoMemory (Refuses (rot_fault old.n seen r)) e)
    → RefusesNext (λ s. general_fault s.n) HoldsGeneral old r e
rot-numbers old r e is bad = record {
  refused = λ start body h. rw (general_fault-rot start.n body r is ∙ ap (λ (k : ℕ). rot_fault k (has_rot body (size_in r 1)) r) (sym h.spins))
      (bad (has_rot body (size_in r 1)));
}

-- any other record is refused
pub other-refused : (old : GeneralBody) (r : Kept) → says_bond r ≡ false → says_rot r ≡ false → says_seam r ≡ false → says_end r ≡ false
    → RefusesNext (λ s. general_fault s.n) HoldsGeneral old r (Refused (UnknownKind r.at))
other-refused old r a b c d = record { refused = λ start body h. general_fault-other start.n body r a b c d }

-- how many lists there are
pub lists-count : (start : GeneralBody) (body : List Kept) (state : GeneralBody) → HoldsGeneral start body state → length state.rotation ≡ state.n
lists-count start body state h = ap length h.darts ∙ length-map-range_with_len (rot_in body) 0 state.n

-- a spin has its place among them
pub among-lists : (state : GeneralBody) (i : ℕ) → HoldsSome HoldsGeneral state → i < state.n → i < length state.rotation
among-lists state i h inside = let count = lists-count h.start h.body state h.held in omega (arith, count, inside)

-- the instance that is kept
pub instance-general : (start : GeneralBody) (body : List Kept) (state : GeneralBody) (seam : List ℕ) → HoldsGeneral start body state
    → seam ≡ unwrap_or state.seam []
    → record { n = state.n; bonds = state.bonds; rotation = map given_darts state.rotation; seam = seam } ≡ instance_of (header.General start.n) body
unfolding instance_of
instance-general start body state seam h cut =
    let same : seam ≡ unwrap_or (seam_in body) [] = cut ∙ ap given_darts h.seam in
    let laid = ap (map given_darts) h.darts ∙ map-map given_darts (rot_in body) (range_with_len 0 state.n) in
    rw (← h.spins) (λ i. record { n = state.n; bonds = h.bonds i; rotation = laid i; seam = same i })

-- nothing was read yet
pub holds-none : (state : GeneralBody) → 1 ≤ state.n → state.bonds ≡ [] → state.seam ≡ None
    → state.rotation ≡ map (rot_in []) (range_with_len 0 state.n) → HoldsGeneral state [] state
unfolding bonds_in seam_in
holds-none state some none cut darts = record {
  spins = refl;
  some = some;
  bonds = none;
  few = omega (arith, ap length none);
  joined = All-same (IsBond state.n) state.bonds [] none (All-nil (IsBond state.n));
  darts = darts;
  seam = cut;
}

-- one more spin without darts
pub no_darts-more : (lists : List (Option (List ℕ))) (i : ℕ) → lists ≡ map (rot_in []) (range_with_len 0 i)
    → lists ++ None ∷ [] ≡ map (rot_in []) (range_with_len 0 (i + 1))
unfolding rot_in
no_darts-more lists i h = ap (λ (l : List (Option (List ℕ))). l ++ None ∷ []) h ∙ sym (map-range_with_len_more (rot_in []) 0 i i (omega arith))

-- a general instance whose records were taken up to the `end`
module _ (n : ℕ) (start : GeneralBody) (all : List Kept) (now : GeneralBody) (last : Kept) (rest : List Kept)
    (h : HoldsToEnd (λ s. general_fault s.n) HoldsGeneral start all now last rest) (was : start.n ≡ n) where
  -- a bare `end` makes it the instance that is stated
  pub general-states : (inst : Ising) → field_count_fault 1 last ≡ None → inst ≡ instance_of (header.General start.n) h.body
      → StatesInstance (header.General n) all inst rest
  general-states inst end value = body-states (header.General n) (general_fault start.n) all h.body last rest inst (ap general_fault was) h.ended
      (general_fault-end start.n h.body last h.ended.ends ∙ end) (value ∙ ap (λ (k : ℕ). instance_of (header.General k) h.body) was)

  -- another `end` refuses the body
  pub general-ends : (x : Refusal) → field_count_fault 1 last ≡ Some x → Fails (RefusesBody (header.General n) all) all rest (Refused x)
  general-ends x end = body-fault (header.General n) (general_fault start.n) all rest (Refused x) (ap general_fault was)
      (end-fault (λ s. general_fault s.n) HoldsGeneral start all now last rest h (Refused x) (general_fault-end start.n h.body last h.ended.ends ∙ end))
