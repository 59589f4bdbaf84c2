use Rattle.part_tests.proofs.input_stack_tests.is_put_back.Goals as goal

pub put_back-told-requires : goal.put_back-told-requires
put_back-told-requires c = c.in-Ok-new.ensures.stands _

pub looks-before-requires-clause-stands : goal.looks-before-requires-clause-stands
looks-before-requires-clause-stands c = c.in-Ok-new.ensures.stands _
