use Rattle.sg_reader.specs.Result.{result_fault, result_of}
use Rattle.sg_reader.proofs.GivenInstance.{records-given}
use Rattle.sg_reader.proofs.OneEnd.{records-one_answer}
use Rattle.sg_reader.proofs.OneInstance.{instance-one_answer}
use Rattle.sg_reader.proofs.law.records_have_one_answer.Goals as goal

pub returns-clause-instance : goal.returns-clause-instance
returns-clause-instance c = λ records. instance-one_answer records

pub returns-clause-given : goal.returns-clause-given
returns-clause-given c = λ records rest inst h. records-given records inst rest h

pub returns-clause-result : goal.returns-clause-result
returns-clause-result c = λ records. records-one_answer result_fault result_of records
