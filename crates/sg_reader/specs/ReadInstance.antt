-- Which instance records give, or why they are refused: the first test that one fails, in the order of the records.
use Rattle.std.specs.Prelude.{◌≡◌, ◌≤◌, List, [], ◌∷◌, All, length, map, Some, None}
use Rattle.std.specs.List.{range_with_len}
use Rattle.sg_base.specs.Limits.{bond_limit, spin_limit}
use Rattle.sg_model.specs.declared.refusal.Refusal.{Refusal}
use Rattle.sg_model.specs.declared.refusal.Refusal.TheVariants.{Unended}
use Rattle.sg_model.specs.Ising.{IsBond, Ising, bond_count}
use Rattle.sg_model.specs.Rotation.{IsRotation}
use Rattle.sg_model.specs.Seam.{IsSeam}
use Rattle.sg_model.specs.WellFormed.{IsInstance}
use Rattle.sg_model.specs.Faults.{IsRefusalOf}
use Rattle.sg_reader.specs.declared.general.GeneralBody.{GeneralBody}
use Rattle.sg_reader.specs.declared.header.Header.{Header}
use Rattle.sg_reader.specs.declared.lattice.LatticeBody.{LatticeBody}
use Rattle.sg_reader.specs.Kept.{Kept}
use Rattle.sg_reader.specs.Header.{header_fault, header_of}
use Rattle.sg_reader.specs.Body.{bonds_in, couplings_in, instance_of, record_fault, rot_in, seam_in}
use Rattle.sg_reader.specs.Ended.{RefusesRecords, StatesToEnd}

-- the records after the first state the instance up to their `end`
abbrev pub StatesInstance : Header → List Kept → Ising → List Kept → Type 0
StatesInstance header records inst rest = StatesToEnd (record_fault header) (instance_of header) records inst rest

-- the records after the first state the instance up to their `end`, and its rotation and its seam are right
pub record ReadsBody (header : Header) (records : List Kept) (inst : Ising) (rest : List Kept) : Type 0 where
  pub states : StatesInstance header records inst rest
  pub rotation : IsRotation inst
  pub seam : IsSeam inst

-- the records give the instance, and `rest` is left after its `end`. What they give is an instance within the limits
-- (`IsGiven`), as the law `records_have_one_answer` says
pub record ReadsInstance (records : List Kept) (inst : Ising) (rest : List Kept) : Type 0 where
  pub first : Kept
  pub more : List Kept
  pub header : Header
  pub split : records ≡ first ∷ more
  pub passes : header_fault first ≡ None
  pub says : header_of first ≡ Some header
  pub reads : ReadsBody header more inst rest

-- an instance within the limits of the program
pub record IsGiven (inst : Ising) : Type 0 where
  pub instance : IsInstance inst
  pub few_spins : inst.n ≤ spin_limit
  pub few_bonds : bond_count inst ≤ bond_limit

-- the records after the first are refused, at one of them, or at the `end` by the tests of an instance
pub data RefusesBody (header : Header) (records : List Kept) (refusal : Refusal) (rest : List Kept) : Type 0 where
  AtOne : RefusesRecords (record_fault header) records refusal rest → RefusesBody header records refusal rest
  AtWhole : (inst : Ising) → StatesInstance header records inst rest → IsRefusalOf inst refusal
      → RefusesBody header records refusal rest

-- the records are refused, and `rest` is left: there is none, the first fails a test, or those after it are refused
pub data RefusesInstance (records : List Kept) (refusal : Refusal) (rest : List Kept) : Type 0 where
  WithoutFirst : records ≡ [] → refusal ≡ Unended → rest ≡ [] → RefusesInstance records refusal rest
  AtFirst : (first : Kept) → records ≡ first ∷ rest → header_fault first ≡ Some refusal
      → RefusesInstance records refusal rest
  Behind : (first : Kept) (more : List Kept) (header : Header) → records ≡ first ∷ more
      → header_fault first ≡ None → header_of first ≡ Some header → RefusesBody header more refusal rest
      → RefusesInstance records refusal rest

-- what is kept while they are read: the couplings and the seam of the records
pub record HoldsLattice (start : LatticeBody) (body : List Kept) (now : LatticeBody) : Type 0 where
  pub wanted : now.wanted ≡ start.wanted
  pub couplings : now.couplings ≡ couplings_in body
  pub seam : now.seam ≡ seam_in body

-- the bonds, the darts of each spin if they were given, and the seam of the records
pub record HoldsGeneral (start : GeneralBody) (body : List Kept) (now : GeneralBody) : Type 0 where
  pub spins : now.n ≡ start.n
  pub some : 1 ≤ now.n
  pub bonds : now.bonds ≡ bonds_in body
  pub few : length now.bonds ≤ bond_limit
  pub joined : All (IsBond now.n) now.bonds
  pub darts : now.rotation ≡ map (rot_in body) (range_with_len 0 now.n)
  pub seam : now.seam ≡ seam_in body
