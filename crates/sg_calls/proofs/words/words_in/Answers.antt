use Rattle.std.proofs.Common.{[], ◌∷◌, map, string_bytes}
use Rattle.std.proofs.lemmas.List.{map-append}
use Rattle.sg_calls.proofs.WordLemmas.{one_more}
use Rattle.sg_calls.proofs.words.words_in.Goals as goal

pub loop-word-preserved : goal.loop-word-preserved
loop-word-preserved c =
    let text = c.in_ok-from_utf8_lossy.field-0 in
    rw (c.in_ok-push.ensures.items) (rw (map-append string_bytes c.loop-word.words.items (text ∷ [])) (rw (c.in_ok-from_utf8_lossy.ensures.lossy)
    (one_more c.args.bytes.now c.loop-word.rest.now c.in-Some.word.now c.in-Some.after.now (map string_bytes c.loop-word.words.items)
    c.loop-word.invariant c.in-Some.ensures.parts c.in-Some.ensures.word)))
