use Rattle.std.proofs.Common.{◌≡◌, sym, refl, ◌∙◌}
use Rattle.csv.specs.Records.{fields_of}
use Rattle.sg_reader.proofs.CursorLaws.{records_left-more, records_left-none}
use Rattle.sg_reader.specs.Cursor.{records_left}
use Rattle.sg_reader.proofs.cursor.Cursor.next.Goals as goal

pub invariant_of-self : goal.invariant_of-self
invariant_of-self c open_now =
    let h = c.self.invariant open_now in
    let read = rw c.in-Ok-true.field-0-test at (c.in-Ok-true.ensures.reads h.untrimmed h.ready) in
    (records_left-more _ _ _ h read (c.in-Ok-true.ensures.ready h.untrimmed) c.in-Ok-true.ensures.flexible).1

pub returns-in-Ok-true-clause-found : goal.returns-in-Ok-true-clause-found
returns-in-Ok-true-clause-found c =
    let h = c.self.invariant c.if-self.false in
    let read = rw c.in-Ok-true.field-0-test at (c.in-Ok-true.ensures.reads h.untrimmed h.ready) in
    let before : records_left c.self.inside.reader ≡ c.args.self.now = rw c.if-self.false at c.self.view_is in
    let left = (records_left-more _ c.read_byte_record.new.self (fields_of c.read_byte_record.new.row) h read (c.in-Ok-true.ensures.ready h.untrimmed)
    c.in-Ok-true.ensures.flexible).0 in
    sym before ∙ left ∙ rw c.if-self.false refl

pub returns-in-Ok-false-clause-found : goal.returns-in-Ok-false-clause-found
returns-in-Ok-false-clause-found c =
    let h = c.self.invariant c.if-self.false in
    let before : records_left c.self.inside.reader ≡ c.args.self.now = rw c.if-self.false at c.self.view_is in
    let read = rw c.in-Ok-false.field-0-test at (c.in-Ok-false.ensures.reads h.untrimmed h.ready) in
    (sym before ∙ records_left-none _ c.read_byte_record.new.self (fields_of c.read_byte_record.new.row) h read, refl)
