-- The records of a lattice behind the first, up to its `end`.
use Rattle.std.proofs.Common.{◌≡◌, ℕ, ℤ, ◌<◌, ◌^◌, Bool, true, false, List, [], ◌++◌, length, Option, Some, None, refl, sym, ap, ◌∙◌, codes}
use Rattle.std.specs.Prelude.{All, is_some, unsigned_abs}
use Rattle.sg_lattice.specs.declared.kind.Kind.{Kind}
use Rattle.sg_lattice.specs.Tables.{bond_total, lattice}
use Rattle.sg_reader.specs.declared.header.Header.TheVariants as header
use Rattle.sg_reader.specs.declared.lattice.LatticeBody.{LatticeBody}
use Rattle.sg_reader.specs.Kept.{Kept}
use Rattle.sg_draft.specs.Draft.{reseamed}
use Rattle.sg_reader.specs.Tests.{any_number, fields_fault, field_fault}
use Rattle.sg_reader.specs.Body.{couplings_in, instance_of, says_end, says_seam, lattice_end_fault, lattice_fault, numbers_from, sole_list_fault, seam_in, sizes_from}
use Rattle.sg_reader.specs.Ended.{HoldsToEnd, RefusesNext, TakesNext, Fails}
use Rattle.sg_reader.specs.ReadInstance.{HoldsLattice, RefusesBody, StatesInstance}
use Rattle.sg_reader.proofs.BodyLaws.{couplings_in-small, couplings_in-more, couplings_in-seam, sole_list_fault-passes, other-word, seam_in-first, seam_in-other}
use Rattle.sg_draft.specs.Tests.{Refuses}
use Rattle.sg_model.specs.Faults.{OrNoMemory}
use Rattle.sg_model.specs.declared.refusal.Fault.{Fault}
use Rattle.sg_model.specs.declared.refusal.Fault.TheVariants.{Refused}
use Rattle.sg_model.specs.declared.refusal.Refusal.{Refusal}
use Rattle.sg_reader.proofs.EndedLaws.{end-fault}
use Rattle.sg_reader.proofs.ReadLaws.{body-fault, body-states}

-- which test a record of a lattice meets
pub lattice_fault-seam : (wanted : ℕ) (body : List Kept) (r : Kept) → says_seam r ≡ true →
    lattice_fault wanted body r ≡ sole_list_fault (is_some (seam_in body)) r
unfolding lattice_fault
lattice_fault-seam wanted body r h = rw h refl

-- a record that is neither `seam` nor `end` is tested as couplings
pub lattice_fault-couplings : (wanted : ℕ) (body : List Kept) (r : Kept) → says_seam r ≡ false → says_end r ≡ false
    → lattice_fault wanted body r ≡ fields_fault (field_fault any_number) 0 r
unfolding lattice_fault
lattice_fault-couplings wanted body r h e = rw (h, e) refl

-- an `end` is tested by the number of couplings before it
pub lattice_fault-end : (wanted : ℕ) (body : List Kept) (r : Kept) → says_end r ≡ true
    → lattice_fault wanted body r ≡ lattice_end_fault wanted (length (couplings_in body)) r
unfolding lattice_fault
lattice_fault-end wanted body r h = rw (other-word r (codes "end") (codes "seam") h refl, h) refl

-- the records of a lattice give the lattice of their couplings, with their seam if there is one
pub instance_of-lattice : (kind : Kind) (rows cols : ℕ) (body : List Kept)
    → instance_of (header.Lattice kind rows cols) body ≡ reseamed (seam_in body) (lattice kind rows cols (couplings_in body))
unfolding instance_of
instance_of-lattice kind rows cols body = refl

-- nothing was read yet
pub holds-none : (state : LatticeBody) → state.couplings ≡ [] → state.seam ≡ None → HoldsLattice state [] state
unfolding couplings_in seam_in
holds-none state none cut = record { wanted = refl; couplings = none; seam = cut }

seam-tested : (old : LatticeBody) (r : Kept) (seen : Bool) → is_some old.seam ≡ seen → says_seam r ≡ true → (start : LatticeBody) (body : List Kept)
    → HoldsLattice start body old → lattice_fault start.wanted body r ≡ sole_list_fault seen r
seam-tested old r seen was seam start body h =
    lattice_fault-seam start.wanted body r seam ∙ ap (λ (b : Bool). sole_list_fault b r) (sym (ap is_some h.seam) ∙ was)

-- a `seam` is taken
pub seam-taken : (old new : LatticeBody) (r : Kept) (seen : Bool) → is_some old.seam ≡ seen → says_seam r ≡ true → sole_list_fault seen r ≡ None
    → new.wanted ≡ old.wanted → new.couplings ≡ old.couplings → new.seam ≡ Some (sizes_from r 1)
    → TakesNext (λ s. lattice_fault s.wanted) HoldsLattice old r new
seam-taken old new r seen was seam good same kept bonds = record {
  passes = λ start body h. seam-tested old r seen was seam start body h ∙ good;
  goes_on = λ start body h. record {
    wanted = same ∙ h.wanted;
    couplings = kept ∙ h.couplings ∙ sym (couplings_in-seam body r seam);
    seam = bonds ∙ sym (seam_in-first body r (ap is_some (sym h.seam) ∙ was ∙ sole_list_fault-passes seen r good) seam);
  };
}

-- a `seam` is refused
pub seam-refused : (old : LatticeBody) (r : Kept) (seen : Bool) (e : Fault) → is_some old.seam ≡ seen → says_seam r ≡ true
    → OrNoMemory (Refuses (sole_list_fault seen r)) e → RefusesNext (λ s. lattice_fault s.wanted) HoldsLattice old r e
seam-refused old r seen e was seam bad = record { refused = λ start body h. rw (seam-tested old r seen was seam start body h) bad }

-- couplings are taken
pub couplings-taken : (old new : LatticeBody) (r : Kept) → says_seam r ≡ false → says_end r ≡ false → fields_fault (field_fault any_number) 0 r ≡ None
    → new.wanted ≡ old.wanted → new.couplings ≡ old.couplings ++ numbers_from r 0 → new.seam ≡ old.seam
    → TakesNext (λ s. lattice_fault s.wanted) HoldsLattice old r new
couplings-taken old new r other goes_on good same added kept = record {
  passes = λ start body h. lattice_fault-couplings start.wanted body r other goes_on ∙ good;
  goes_on = λ start body h. record {
    wanted = same ∙ h.wanted;
    couplings = added ∙ ap (λ (l : List ℤ). l ++ numbers_from r 0) h.couplings ∙ sym (couplings_in-more body r other);
    seam = kept ∙ h.seam ∙ sym (seam_in-other body r other);
  };
}

-- couplings are refused
pub couplings-refused : (old : LatticeBody) (r : Kept) (e : Fault) → says_seam r ≡ false → says_end r ≡ false
    → OrNoMemory (Refuses (fields_fault (field_fault any_number) 0 r)) e → RefusesNext (λ s. lattice_fault s.wanted) HoldsLattice old r e
couplings-refused old r e other goes_on bad = record { refused = λ start body h. rw (lattice_fault-couplings start.wanted body r other goes_on) bad }

module _ (start : LatticeBody) (all : List Kept) (now : LatticeBody) (last : Kept) (rest : List Kept)
    (h : HoldsToEnd (λ s. lattice_fault s.wanted) HoldsLattice start all now last rest) where
  -- the `end` is tested by the couplings that were found
  pub end-tested : lattice_fault start.wanted h.body last ≡ lattice_end_fault start.wanted (length now.couplings) last
  end-tested = lattice_fault-end start.wanted h.body last h.ended.ends
      ∙ ap (λ (js : List ℤ). lattice_end_fault start.wanted (length js) last) (sym h.held.couplings)

  -- the couplings that were found are within their range
  pub couplings-small : All (λ j. unsigned_abs j < 2 ^ 63) now.couplings
  couplings-small = rw h.held.couplings (couplings_in-small h.body)

-- what is kept makes the instance that the records give
pub instance-lattice : (kind : Kind) (rows cols : ℕ) (start : LatticeBody) (body : List Kept) (state : LatticeBody) → HoldsLattice start body state
    → reseamed state.seam (lattice kind rows cols state.couplings) ≡ instance_of (header.Lattice kind rows cols) body
instance-lattice kind rows cols start body state h = ap (λ (s : Option (List ℕ)). reseamed s (lattice kind rows cols state.couplings)) h.seam
    ∙ ap (λ (js : List ℤ). reseamed (seam_in body) (lattice kind rows cols js)) h.couplings ∙ sym (instance_of-lattice kind rows cols body)

-- a lattice whose records were taken up to the `end`, with so many couplings found where so many are wanted
module _ (kind : Kind) (rows cols : ℕ) (start : LatticeBody) (all : List Kept) (now : LatticeBody) (last : Kept) (rest : List Kept)
    (h : HoldsToEnd (λ s. lattice_fault s.wanted) HoldsLattice start all now last rest) (wanted found : ℕ) (was : start.wanted ≡ wanted)
    (total : wanted ≡ bond_total kind rows cols) (many : found ≡ length now.couplings) where
  tested : (test : Option Refusal) → lattice_end_fault wanted found last ≡ test → lattice_fault start.wanted h.body last ≡ test
  tested test end = end-tested start all now last rest h ∙ ap (λ (n : ℕ). lattice_end_fault n (length now.couplings) last) was
      ∙ ap (λ (n : ℕ). lattice_end_fault wanted n last) (sym many) ∙ end

  -- an `end` that passes makes it the instance that is stated
  pub lattice-states : lattice_end_fault wanted found last ≡ None
      → StatesInstance (header.Lattice kind rows cols) all (reseamed now.seam (lattice kind rows cols now.couplings)) rest
  lattice-states end = body-states (header.Lattice kind rows cols) (lattice_fault start.wanted) all h.body last rest _ (ap lattice_fault (was ∙ total)) h.ended
      (tested None end) (instance-lattice kind rows cols start h.body now h.held)

  -- another `end` refuses the body
  pub lattice-ends : (x : Refusal) → lattice_end_fault wanted found last ≡ Some x → Fails (RefusesBody (header.Lattice kind rows cols) all) all rest (Refused x)
  lattice-ends x end = body-fault (header.Lattice kind rows cols) (lattice_fault start.wanted) all rest (Refused x) (ap lattice_fault (was ∙ total))
      (end-fault (λ s. lattice_fault s.wanted) HoldsLattice start all now last rest h (Refused x) (tested (Some x) end))
