-- The ways to end: the exit status of each, and which of them come with a reply.
use Rattle.std.specs.Prelude.{ℕ, ⊤}
use Rattle.sg_report.specs.declared.status.Status.{Status}
use Rattle.sg_report.specs.declared.status.Status.TheVariants.{Done, Refused, Usage, No, ReadFault, WriteFault, NoMemory}

-- the exit status
abbrev pub exit_code : Status → ℕ
exit_code Done = 0
exit_code Refused = 1
exit_code Usage = 2
exit_code No = 3
exit_code ReadFault = 4
exit_code WriteFault = 5
exit_code NoMemory = 6

-- a status that comes with a reply, which may be a refusal: each but the faults of devices and out of memory
abbrev pub IsReply : Status → Type 0
IsReply Done = ⊤
IsReply Refused = ⊤
IsReply Usage = ⊤
IsReply No = ⊤
IsReply ReadFault = ⊥
IsReply WriteFault = ⊥
IsReply NoMemory = ⊥
