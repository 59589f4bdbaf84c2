use Rattle.std.proofs.Common.{◌≡◌, ◌+◌, ◌++◌, length, take}
use Rattle.token_lists.specs.Table.{tokens_at}
use Rattle.token_lists.specs.Ids.{build_id}
use Rattle.macro_call.specs.Cursors.{IsOn, rest_at}
use Rattle.plain_tokens.specs.Tokens.{character_codes}
use Rattle.input_state.proofs.places.spell.Given as goal

abbrev pub invariant-loop-token : goal.invariant-loop-token
invariant-loop-token l = record {
  on : IsOn l.lists (build_id l.build) l.at;
  counted : l.place + length (character_codes (rest_at l.lists (build_id l.build) l.at)) ≡ l.from + length (character_codes (tokens_at l.lists (build_id l.build)));
  front : take l.place l.buffer ++ character_codes (rest_at l.lists (build_id l.build) l.at) ≡ take l.from l.fn.buffer ++ character_codes (tokens_at l.lists (build_id l.build));
  size : length l.buffer ≡ length l.fn.buffer;
}

abbrev pub decreases-loop-token : goal.decreases-loop-token
decreases-loop-token l = length (rest_at l.lists (build_id l.build) l.at)
