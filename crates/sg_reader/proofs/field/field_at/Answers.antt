use Rattle.std.proofs.Common.{sym, ◌∙◌, ap}
use Rattle.csv.specs.Records.{fields_of}
use Rattle.csv.proofs.RecordFacts.{field-get, field-there}
use Rattle.sg_reader.specs.Field.{trimmed}
use Rattle.sg_reader.proofs.field.field_at.Goals as goal

pub unreachable-requires : goal.unreachable-requires
unreachable-requires c = field-there (fields_of c.args.raw.now) c.args.i c.requires (sym c.in-None.ensures.value)

pub returns : goal.returns
returns c = c.trimmed.ensures ∙ ap trimmed (sym (field-get (fields_of c.args.raw.now) c.args.i c.in-Some.field.now (sym c.in-Some.ensures.value)))
