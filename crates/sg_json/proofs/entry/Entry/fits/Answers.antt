use Rattle.std.proofs.Common.{rules}
use Rattle.sg_json.proofs.entry.Entry.fits.Goals as goal

pub returns-then-is_triple : goal.returns-then-is_triple
returns-then-is_triple c = search rules
