use Rattle.std.proofs.Common.{◌∙◌, ap}
use Rattle.cs_hash.specs.Names.{entered}
use Rattle.plain_tokens.specs.Lookup.{name_number}
use Rattle.name_table.specs.Strings.{Strings}
use Rattle.name_table.proofs.Numbers.{same_number}
use Rattle.name_table.proofs.NameTable.find.Goals as goal

pub returns : goal.returns
returns c =
    c.find.ensures ∙ same_number (entered c.self.inside.hash c.self.inside.pool.kept) c.args.name.now ∙ ap (λ (s : Strings). name_number s.names c.args.name.now) c.self.view_is
