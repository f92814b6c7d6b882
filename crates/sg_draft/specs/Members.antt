-- The members of an input, and the refusal that names one: the numbers are only here, as its line prints them.
use Rattle.std.specs.Prelude.{ℕ, ◌-◌, ◌^◌, min}
use Rattle.sg_model.specs.declared.refusal.Refusal.{Refusal}
use Rattle.sg_model.specs.declared.refusal.Refusal.TheVariants.{BadMember}
use Rattle.sg_draft.specs.declared.member.Member.{Member}
use Rattle.sg_draft.specs.declared.member.Member.TheVariants as member

-- the number of a member in the line of its refusal
abbrev pub place_of : Member → ℕ
place_of member.Kind = 1
place_of member.Names = 2
place_of member.Rows = 3
place_of member.Cols = 4
place_of member.SpinCount = 5
place_of member.Couplings = 6
place_of member.Bonds = 7
place_of member.Rotation = 8
place_of member.Seam = 9
place_of member.Spins = 10
place_of member.Loops = 11
place_of member.Radii = 12
place_of member.FaceRadii = 13

-- an entry of a member is wrong, or with 0 the member itself; an entry is told up to the last one of 32 bits
abbrev pub bad_entry : Member → ℕ → Refusal
bad_entry what entry = BadMember (place_of what) (min entry (2 ^ 32 - 1))

-- the refusal of a member that is missing or has the wrong form
abbrev pub bad_member : Member → Refusal
bad_member what = BadMember (place_of what) 0
