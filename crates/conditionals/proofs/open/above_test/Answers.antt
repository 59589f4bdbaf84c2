use Rattle.std.proofs.Common.{reverse, sym, rules, tests}
use Rattle.std.proofs.lemmas.Iterator.Adapters.{YieldsList-from_rev_slice}
use Rattle.std.proofs.lemmas.Iterator.Search.{position_from_yields_List}
use Rattle.std.proofs.lemmas.List.{length-reverse}
use Rattle.conditionals.proofs.Opened as opened
use Rattle.conditionals.proofs.open.above_test.Goals as goal

pub returns : goal.returns
returns c =
    let found = position_from_yields_List opened.tests _ _ c.position.result c.position.ensures.ran (YieldsList-from_rev_slice c.args.stack.now (cc)) (λ x b q k. search (rules, tests)) in
    opened.first_found (reverse c.args.stack.now) _ _ _ found (sym (length-reverse c.args.stack.now)) c.unwrap_or.ensures
