use Rattle.plain_machine.proofs.Renumbering.{pulled_same, put_front_of, with_begun_of, all_puts_of, seen_of, met_of, meaning_to_let_of}
use Rattle.plain_machine.proofs.GroupNumbers.{get_of, fetched_same, set_of, set_name_of, entered_of, opened_of, closed_of, with_token_of, depth_of, kind_same, tokens_after_of, saves_of, set_demands_of, name_demands_of, group_demands_of, token_demands_of}
use Rattle.plain_machine.proofs.MacroWords.{words_tied}
use Rattle.plain_machine.proofs.Ties.{text_let, tokens_let, standing_tied}
use Rattle.plain_machine.proofs.numbers_are_free.Goals as goal

pub returns : goal.returns
returns c = record {
  reads = pulled_same;
  puts = put_front_of;
  begins = with_begun_of;
  all = all_puts_of;
  means = seen_of;
  meets = met_of;
  lets = meaning_to_let_of;
  stands = get_of;
  fetches = fetched_same;
  texts = text_let;
  shows = tokens_let;
  lists = standing_tied;
  words = words_tied;
  sets = set_of;
  names = set_name_of;
  enters = entered_of;
  opens = opened_of;
  closes = closed_of;
  keeps = with_token_of;
  depth = depth_of;
  current_group = kind_same;
  tokens_after = tokens_after_of;
  saves = saves_of;
  demands = set_demands_of;
  name_demands = name_demands_of;
  group_demands = group_demands_of;
  token_demands = token_demands_of;
}
