use Rattle.token_show.proofs.Naming.{name_found}
use Rattle.token_show.proofs.view.NamesView.name.Goals as goal

pub returns : goal.returns
returns c = name_found _ _ _ _ _ c.if-number-eq0.false c.name.ensures c.bytes.ensures
