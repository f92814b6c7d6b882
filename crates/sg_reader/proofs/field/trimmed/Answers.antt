use Rattle.std.proofs.Common.{◌∙◌, ap}
use Rattle.sg_reader.specs.Field.{before_end, is_blank, trimmed}
use Rattle.sg_reader.proofs.field.trimmed.Goals as goal

pub returns : goal.returns
unfolding trimmed
returns c = c.before_blanks.ensures ∙ ap (before_end is_blank) c.after_blanks.ensures
