use Rattle.std.proofs.Common.{ap, ◌∙◌}
use Rattle.plain_tokens.specs.Printed.{printed_all}
use Rattle.token_show.specs.Views.{style_of}
use Rattle.token_show.proofs.shown.show_built.Goals as goal

pub returns : goal.returns
returns c = c.print.ensures ∙ ap (printed_all (style_of c.args.view)) c.of_build.ensures
