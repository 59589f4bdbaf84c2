use Rattle.list_builder.proofs.Themselves.{text_itself, definition_itself}
use Rattle.list_builder.proofs.laws.plain_lists_are_themselves.Goals as goal

pub returns : goal.returns
returns c = record {
  texts = text_itself;
  definitions = definition_itself;
}
