use Rattle.list_builder.specs.declared.stage.Stage.TheVariants.{First, Parameters}
use Rattle.list_builder.proofs.Ends.{ends}
use Rattle.list_builder.proofs.laws.lists_end_at_once.Goals as goal

pub returns : goal.returns
returns c = record {
  definitions = λ m fed more ts e. ends m (Parameters 0) _ fed more ts e;
  texts = λ m fed more ts e. ends m First _ fed more ts e;
}
