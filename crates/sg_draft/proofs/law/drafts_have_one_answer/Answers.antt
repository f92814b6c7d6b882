use Rattle.sg_draft.proofs.OneDraft.{draft-one_answer}
use Rattle.sg_draft.proofs.law.drafts_have_one_answer.Goals as goal

pub returns : goal.returns
returns c = λ most draft. draft-one_answer most draft
