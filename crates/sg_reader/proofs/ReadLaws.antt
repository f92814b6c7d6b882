-- An instance by its first record and the records behind it.
use Rattle.std.proofs.Common.{◌≡◌, List, [], ◌∷◌, Some, None, refl, sym, ap, subst, ◌∙◌}
use Rattle.sg_model.specs.declared.refusal.Fault.{Fault}
use Rattle.sg_model.specs.declared.refusal.Fault.TheVariants.{Refused, NoMemory}
use Rattle.sg_model.specs.Faults.{IsRefusalOf, OrNoMemory}
use Rattle.sg_model.specs.Ising.{Ising}
use Rattle.sg_reader.specs.declared.header.Header.{Header}
use Rattle.sg_reader.specs.Kept.{Kept}
use Rattle.sg_reader.specs.Header.{header_fault, header_of}
use Rattle.sg_reader.specs.Body.{instance_of, record_fault}
use Rattle.sg_reader.specs.Ended.{IsEnded, RefusesRecords, TestTable, Fails}
use Rattle.sg_reader.specs.ReadInstance.{AtOne, AtWhole, Behind, RefusesBody, RefusesInstance, StatesInstance}
use Rattle.sg_reader.proofs.RestLaws.{fails-on, rest-behind}

-- what refuses a record by the tests of the header refuses the body
pub body-fault : (head : Header) (table : TestTable) (all rest : List Kept) (e : Fault) → table ≡ record_fault head
    → Fails (RefusesRecords table all) all rest e → Fails (RefusesBody head all) all rest e
body-fault head table all rest e same bad = fails-on (RefusesRecords table all) (RefusesBody head all) all [] all rest refl
    (λ x refused. AtOne (subst (λ (t : TestTable). RefusesRecords t all x rest) same refused)) e bad

-- records up to an `end` that passes state what they give
pub body-states : (head : Header) (table : TestTable) (all body : List Kept) (last : Kept) (rest : List Kept) (inst : Ising) → table ≡ record_fault head
    → IsEnded table all body last rest → table body last ≡ None → inst ≡ instance_of head body → StatesInstance head all inst rest
body-states head table all body last rest inst same ended good value = record {
  body = body;
  last = last;
  ended = subst (λ (t : TestTable). IsEnded t all body last rest) same ended;
  passes = ap (λ (t : TestTable). t body last) (sym same) ∙ good;
  value = value;
}

-- what refuses the instance refuses the body
pub whole-fault : (head : Header) (all : List Kept) (inst : Ising) (rest : List Kept) (e : Fault) → StatesInstance head all inst rest
    → OrNoMemory (IsRefusalOf inst) e → Fails (RefusesBody head all) all rest e
whole-fault head all inst rest (Refused x) states bad = AtWhole inst states bad
whole-fault head all inst rest NoMemory states bad = rest-behind all states.body states.last rest states.ended.split

-- behind a good first record, what refuses the body refuses the records
pub behind-fault : (all : List Kept) (first : Kept) (more : List Kept) (head : Header) (rest : List Kept) (e : Fault) → all ≡ first ∷ more
    → header_fault first ≡ None → header_of first ≡ Some head → Fails (RefusesBody head more) more rest e → Fails (RefusesInstance all) all rest e
behind-fault all first more head rest e split good says bad = fails-on (RefusesBody head more) (RefusesInstance all) all (first ∷ []) more rest split
    (λ x refused. Behind first more head split good says refused) e bad
