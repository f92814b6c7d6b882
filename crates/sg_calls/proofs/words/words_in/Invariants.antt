use Rattle.std.proofs.Common.{map, string_bytes, length}
use Rattle.sg_calls.proofs.WordLemmas.{IsFront}
use Rattle.sg_calls.proofs.words.words_in.Given as goal

abbrev pub invariant-loop-word : goal.invariant-loop-word
invariant-loop-word l = IsFront l.bytes l.rest (map string_bytes l.words.items)

abbrev pub decreases-loop-word : goal.decreases-loop-word
decreases-loop-word l = length l.rest
