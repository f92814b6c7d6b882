-- From the parts of a draft that pass their tests to the draft and its instance.
use Rattle.std.proofs.Common.{◌≡◌, ℕ, [], pos, Bool, true, false, List, length, get_or, Option, Some, None, refl, sym, ap, ◌∙◌, arith, All, inr, subst, Result}
use Rattle.std.proofs.Common.{Ok, Err, ◌&&◌, IfOk, eq-eqb, ltb-true}
use Rattle.std.specs.Option.{option_or}
use Rattle.std.proofs.lemmas.Bool.{false≢true}
use Rattle.std.proofs.lemmas.List.Elements.{All-from_get_or, All-get_or}
use Rattle.std.proofs.lemmas.Option.{none-some}
use Rattle.sg_model.specs.declared.bond.Bond.{Bond}
use Rattle.sg_model.specs.declared.refusal.Fault.{Fault}
use Rattle.sg_model.specs.declared.refusal.Fault.TheVariants.{Refused, NoMemory}
use Rattle.sg_model.specs.declared.refusal.Refusal.{Refusal}
use Rattle.sg_model.specs.Faults.{IsRefusalOf, OrNoMemory}
use Rattle.sg_model.specs.Ising.{Ising, IsBond}
use Rattle.sg_draft.specs.declared.limits.Limits.{Limits}
use Rattle.sg_draft.specs.declared.read.Read.TheVariants.{Known}
use Rattle.sg_draft.specs.Reads.{read_length, unless, value_or, wrong_entry}
use Rattle.sg_draft.specs.Bonds.{IsAmong, is_among, is_self_bond, listed_bond, self_fault}
use Rattle.sg_draft.specs.Draft.{GeneralDraft, IsFirstFault, OfGeneral, draft_fault, general_draft_fault}
use Rattle.sg_draft.specs.Tests.{refuse_if}
use Rattle.sg_draft.proofs.Finds.{find_range-all, none-mapped}

-- what is told of a member that is read
pub counted-unless : {X : Type 0} (wrong : Option ℕ) (xs : List X) → read_length (unless wrong xs) ≡ unless wrong (length xs)
counted-unless None xs = refl
counted-unless (Some entry) xs = refl

-- the entry at which a member is wrong
pub wrong-unless : {X : Type 0} (wrong : Option ℕ) (x : X) → wrong_entry (unless wrong x) ≡ wrong
wrong-unless None x = refl
wrong-unless (Some entry) x = refl

-- a member that has a value is not wrong
pub unless-known : {X : Type 0} (wrong : Option ℕ) (x y : X) → unless wrong x ≡ Known y → wrong ≡ None
unless-known None x y is = refl
unless-known (Some entry) x y is = ap wrong_entry is

-- a test behind which none stands
pub one-test : (test : Option Refusal) → option_or test None ≡ test
one-test None = refl
one-test (Some refusal) = refl

-- behind a test that passes the last one counts
pub last-test : (test last : Option Refusal) → test ≡ None → option_or test (option_or last None) ≡ last
last-test test last pass = rw pass (one-test last)

-- of two tests that pass together each passes
pub first-none : (test rest : Option Refusal) → option_or test rest ≡ None → (test ≡ None) × (rest ≡ None)
first-none None rest h = (refl, h)
first-none (Some x) rest h = absurd (none-some x (sym h))

-- a test that passes is one whose condition is false
pub passed-if : (b : Bool) (x : Refusal) → refuse_if b x ≡ None → b ≡ false
passed-if true x h = absurd (none-some x (sym h))
passed-if false x h = refl

-- the tests of a general instance: those of its numbers and lists, and then that of each bond
module _ (most : Limits) (d : GeneralDraft) where
  abbrev numbers_test : Option Refusal
  numbers_test = general_draft_fault most d.spins (read_length d.bonds) (wrong_entry d.rotation) (wrong_entry d.seam)

  -- a fault of the numbers and lists is the draft's
  pub general-some : (x : Refusal) → numbers_test ≡ Some x → draft_fault most (OfGeneral d) ≡ Some x
  general-some x bad = rw bad refl

  -- behind them a bond is tested
  pub general-none : numbers_test ≡ None → draft_fault most (OfGeneral d) ≡ self_fault (value_or [] d.bonds)
  general-none pass = rw pass (one-test (self_fault (value_or [] d.bonds)))

-- a first fault of equal tests and instances
pub same-fault : (test other : Option Refusal) (inst said : Ising) (e : Fault) → test ≡ other → inst ≡ said
    → OrNoMemory (IsFirstFault test inst) e → OrNoMemory (IsFirstFault other said) e
same-fault test other inst said e same is bad =
    subst (λ (i : Ising). OrNoMemory (IsFirstFault other i) e) is (subst (λ (o : Option Refusal). OrNoMemory (IsFirstFault o inst) e) same bad)

-- two clauses on the value of a result, where there is one
pub both-ok : {X E : Type 0} (r : Result X E) (P Q R : X → Type 0) → ((x : X) → P x → Q x → R x) → IfOk r P → IfOk r Q → IfOk r R
both-ok (Ok x) P Q R f p q = f x p q
both-ok (Err e) P Q R f p q = tt

-- behind a test that passes a refusal of the instance is the first fault
pub behind-test : (test : Option Refusal) (inst : Ising) (e : Fault) → test ≡ None → OrNoMemory (IsRefusalOf inst) e
    → OrNoMemory (IsFirstFault test inst) e
behind-test test inst (Refused x) pass bad = inr (pass, bad)
behind-test test inst NoMemory pass bad = tt

-- two conditions that hold together hold each
pub both : (a b : Bool) → (a && b) ≡ true → (a ≡ true) × (b ≡ true)
both true b h = (refl, h)
both false b h = absurd (false≢true h)

-- a bond that passes its test is among the spins
pub among-of : (n : ℕ) (b : Bond) → is_among n b ≡ true → IsAmong n b
among-of n b pass =
    let first = both _ _ pass in
    let second = both _ _ first.1 in
    record { first_end = ltb-true b.u n first.0; second_end = ltb-true b.v n second.0; size = ltb-true _ _ second.1 }

-- bonds among the spins, none of which joins a spin to itself, are the bonds of an instance
pub joined : (n : ℕ) (bonds : List Bond) → All (IsAmong n) bonds → self_fault bonds ≡ None → All (IsBond n) bonds
joined n bonds among pass = All-from_get_or (IsBond n) bonds none_such (λ k inside.
    let b = get_or bonds k none_such in
    let here : IsAmong n b = All-get_or (IsAmong n) bonds k none_such inside among in
    let other = find_range-all (λ i. is_self_bond (listed_bond bonds i)) 0 (length bonds) k (none-mapped _ _ pass) (omega arith) (omega arith) in
    record {
      first_end = here.first_end;
      second_end = here.second_end;
      ends_differ = λ same. absurd (false≢true (sym other ∙ eq-eqb _ _ same));
      size = here.size;
    })
  where
    none_such : Bond
    none_such = record { u = 0; v = 0; j = pos 0 }
