-- From the tests of the numbers of a general graph to the draft that they are.
use Rattle.std.proofs.Common.{◌≡◌, ℕ, ℤ, [], pos, Option, None, Some, List, All, ap, length, ◌∙◌, refl, find, not}
use Rattle.std.proofs.lemmas.List.FromFn.{length-map-range_with_len}
use Rattle.std.specs.List.{range_with_len}
use Rattle.sg_model.specs.declared.refusal.Refusal.{Refusal}
use Rattle.sg_draft.specs.declared.limits.Limits.{Limits}
use Rattle.sg_draft.specs.declared.read.Read.TheVariants.{Known}
use Rattle.sg_draft.specs.Bonds.{IsAmong, is_among, self_fault}
use Rattle.sg_draft.specs.Draft.{GeneralDraft, draft_fault, drafted, general_draft_fault}
use Rattle.sg_draft.specs.Reads.{read_length, unless, value_or, wrong_entry}
use Rattle.sg_draft.proofs.Drafts.{among-of, counted-unless, general-none, general-some, wrong-unless}
use Rattle.sg_calls.specs.Crossing.{wrong_start}
use Rattle.sg_calls.proofs.FirstLemmas.{all-made}
use Rattle.sg_calls.specs.Graphs.{bond_by, bonds_by, graph_draft, lists_by, Numbers, wrong_bond}

-- bonds none of which is wrong are among the spins
pub bonds-among : (n : ℕ) (ends : List ℕ) (js : List ℤ) → find (λ k. not (is_among n (bond_by ends js k))) (range_with_len 0 (length js)) ≡ None
    → All (IsAmong n) (bonds_by ends js)
bonds-among n ends js none =
    all-made (IsAmong n) (is_among n) (among-of n) (bond_by ends js) (length js) (record { u = 0; v = 0; j = pos 0 }) none

module _ (most : Limits) (g : Numbers) where
  -- the tests in front of those of each bond, as code makes them
  abbrev pub front_tests : Option Refusal
  front_tests =
      general_draft_fault most (Some g.n) (unless (wrong_bond g.n g.ends g.couplings) (length g.couplings)) (wrong_start g.starts g.n (length g.darts)) None

  abbrev parts : GeneralDraft
  parts = record {
    spins = Some g.n;
    bonds = unless (wrong_bond g.n g.ends g.couplings) (bonds_by g.ends g.couplings);
    rotation = unless (wrong_start g.starts g.n (length g.darts)) (lists_by g.n g.starts g.darts);
    seam = Known (Some g.seam);
  }

  same : general_draft_fault most parts.spins (read_length parts.bonds) (wrong_entry parts.rotation) (wrong_entry parts.seam) ≡ front_tests
  same = rw (
    counted-unless (wrong_bond g.n g.ends g.couplings) (bonds_by g.ends g.couplings),
    length-map-range_with_len (bond_by g.ends g.couplings) 0 (length g.couplings),
    wrong-unless (wrong_start g.starts g.n (length g.darts)) (lists_by g.n g.starts g.darts),
  ) refl

  -- a test in front that fails is the draft's
  pub graph-some : (x : Refusal) → front_tests ≡ Some x → draft_fault most (graph_draft g) ≡ Some x
  graph-some x bad = general-some most parts x (same ∙ bad)

  -- behind those that pass each bond is tested
  pub graph-none : front_tests ≡ None → wrong_bond g.n g.ends g.couplings ≡ None
      → draft_fault most (graph_draft g) ≡ self_fault (bonds_by g.ends g.couplings)
  graph-none pass good =
      general-none most parts (same ∙ pass) ∙ ap (λ (wrong : Option ℕ). self_fault (value_or [] (unless wrong (bonds_by g.ends g.couplings)))) good

-- and this is what the numbers say
pub graph-says : (g : Numbers) → wrong_bond g.n g.ends g.couplings ≡ None → wrong_start g.starts g.n (length g.darts) ≡ None
    → drafted (graph_draft g) ≡ record {
      n = g.n;
      bonds = bonds_by g.ends g.couplings;
      rotation = lists_by g.n g.starts g.darts;
      seam = g.seam;
    }
graph-says g bonds starts = rw (bonds, starts) refl
