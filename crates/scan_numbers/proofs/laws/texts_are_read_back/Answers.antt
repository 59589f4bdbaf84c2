use Rattle.scan_numbers.proofs.Texts.{read_back}
use Rattle.scan_numbers.proofs.laws.texts_are_read_back.Goals as goal

pub returns : goal.returns
returns c = λ n x range e. read_back n x range e
