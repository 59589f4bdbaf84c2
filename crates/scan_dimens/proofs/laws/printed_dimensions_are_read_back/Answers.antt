use Rattle.scan_dimens.proofs.ReadBack.{read_back}
use Rattle.scan_dimens.proofs.laws.printed_dimensions_are_read_back.Goals as goal

pub returns : goal.returns
returns c = read_back
