-- A member as it was read: its value, or the entry at which it is wrong.
use Rattle.std.specs.Prelude.{ℕ, Option, Some, None, option_map, List, length}
use Rattle.sg_model.specs.declared.refusal.Refusal.{Refusal}
use Rattle.sg_draft.specs.declared.read.Read.{Read}
use Rattle.sg_draft.specs.declared.read.Read.TheVariants.{Known, WrongAt}
use Rattle.sg_draft.specs.declared.member.Member.{Member}
use Rattle.sg_draft.specs.Members.{bad_entry}

-- the value, unless an entry is wrong
abbrev pub unless : {X : Type 0} → Option ℕ → X → Read X
unless None x = Known x
unless (Some entry) x = WrongAt entry

-- the value, and another if the member is wrong
abbrev pub value_or : {X : Type 0} → X → Read X → X
value_or other (Known x) = x
value_or other (WrongAt entry) = other

-- the entry at which it is wrong
abbrev pub wrong_entry : {X : Type 0} → Read X → Option ℕ
wrong_entry (Known x) = None
wrong_entry (WrongAt entry) = Some entry

-- how many entries a list has
abbrev pub read_length : {X : Type 0} → Read (List X) → Read ℕ
read_length (Known xs) = Known (length xs)
read_length (WrongAt entry) = WrongAt entry

-- the test of a member: no entry is wrong
abbrev pub member_fault : Member → Option ℕ → Option Refusal
member_fault what wrong = option_map (bad_entry what) wrong
