use Rattle.list_builder.specs.declared.stage.Stage.TheVariants.{First, Parameters}
use Rattle.list_builder.proofs.Formed.{texts, definitions, begun}
use Rattle.list_builder.proofs.laws.lists_are_formed.Goals as goal

pub returns : goal.returns
returns c = record {
  definitions = λ m fed ts clean e. definitions m (Parameters 0) _ fed ts begun clean e;
  texts = λ m fed ts clean e. texts m First fed ts tt clean e;
}
