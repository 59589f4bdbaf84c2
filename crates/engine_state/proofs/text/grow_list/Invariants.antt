use Rattle.std.proofs.Common.{◌≤◌, length}
use Rattle.plain_tokens.specs.Printed.{list_text, list_from}
use Rattle.token_show.specs.Views.{names_style}
use Rattle.input_state.specs.Calls.{text_of}
use Rattle.input_state.specs.Walks.{to_come}
use Rattle.engine_state.proofs.MadeTexts.{Along}
use Rattle.engine_state.proofs.text.grow_list.Given as goal

abbrev pub invariant-loop-token : goal.invariant-loop-token
invariant-loop-token l = record {
  few : l.places ≤ 9;
  along : Along l.fn.input l.input (list_text (names_style l.fn.names) (text_of l.fn.input.lists l.fn.input.groups.now.meanings l.fn.name)) (list_from (names_style l.fn.names) l.places l.last (to_come l.input l.walk)) l.some;
}

abbrev pub decreases-loop-token : goal.decreases-loop-token
decreases-loop-token l = length (to_come l.input l.walk)
