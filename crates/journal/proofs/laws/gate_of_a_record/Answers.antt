use Rattle.journal.proofs.Gates.{gate_reads, sum_fits, written_fits}
use Rattle.journal.proofs.laws.gate_of_a_record.Goals as goal

pub returns-clause-read : goal.returns-clause-read
returns-clause-read c = gate_reads

pub returns-clause-written : goal.returns-clause-written
returns-clause-written c = written_fits

pub returns-clause-told : goal.returns-clause-told
returns-clause-told c = sum_fits
