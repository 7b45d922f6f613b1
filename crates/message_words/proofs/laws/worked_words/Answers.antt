use Rattle.message_words.proofs.Worked.{words_are, fault_words_are}
use Rattle.message_words.proofs.laws.worked_words.Goals as goal

pub returns : goal.returns
returns c = record { messages = words_are; faults = fault_words_are }
