use Rattle.block_words.proofs.Valid.{few_updated, few_changed}
use Rattle.block_words.proofs.laws.buffers_are_valid.Goals as goal

pub returns-clause-valid : goal.returns-clause-valid
returns-clause-valid g c = λ blocks. blocks.valid

pub returns-clause-few : goal.returns-clause-few
returns-clause-few g c = λ blocks. few_updated blocks.buffers blocks.valid

pub returns-clause-changed : goal.returns-clause-changed
returns-clause-changed g c = λ blocks. few_changed blocks.store blocks.buffers blocks.valid blocks.within
