use Rattle.std.proofs.Common.{◌∙◌, ◌++◌, ◌∷◌, [], refl, ap}
use Rattle.input_stack.specs.declared.level.Level.{Level}
use Rattle.input_stack.specs.declared.stack.InputStack.{InputStack}
use Rattle.input_stack.specs.View.{innermost}
use Rattle.input_stack.proofs.Lines.{file_popped, source_under, fits_popped}
use Rattle.input_stack.proofs.stack.InputStack.end_file.Goals as goal

pub returns-clause-stands : goal.returns-clause-stands
returns-clause-stands c = λ table stands.
    let s = c.args.self.now in
    let x = c.in-Source.source in
    let i = c.in-Some.ensures.items ∙ ap (λ (l : Level). c.pop.new.self.items ++ l ∷ []) c.in-Source.is in
    let t : InputStack = record { levels = c.pop.new.self; arguments = s.arguments; argument_levels = s.argument_levels; size = s.size; parameter_size = s.parameter_size } in
    record {
      read = source_under table x (innermost s) _ (file_popped s t x i refl) stands.read;
      fits = fits_popped s t x i refl refl (record { size = refl; parameter_size = refl; capacity = c.in-Some.ensures.capacity; parameter_capacity = refl }) stands.fits;
    }

pub returns-in_default-clause-size : goal.returns-in_default-clause-size
returns-in_default-clause-size c = refl

pub returns-in_default-clause-parameter_size : goal.returns-in_default-clause-parameter_size
returns-in_default-clause-parameter_size c = refl

pub returns-clause-size : goal.returns-clause-size
returns-clause-size c = refl

pub returns-clause-parameter_size : goal.returns-clause-parameter_size
returns-clause-parameter_size c = refl
