-- The table as it is kept.
use Rattle.std.specs.Prelude.{List, Option}
use Rattle.tex_defs.specs.declared.Sizes.{Sizes}
use Rattle.tex_defs.specs.declared.Token.{Token}
use Rattle.save_stack.specs.declared.GroupKind.{GroupKind}
use Rattle.equivalents.specs.Groups.{Groups}
use Rattle.eqtb_save.specs.Table.{Table}

abbrev pub mk : Groups → List Token → Option GroupKind → Sizes → Table
mk groups closing ending sizes = record { groups = groups; closing = closing; ending = ending; sizes = sizes }
