-- Each is computed.
use Rattle.std.proofs.Common.{refl}
use Rattle.plain_readings.proofs.laws.worked_readings.Goals as goal

pub returns : goal.returns
returns c = record {
  integers = record { decimal = refl; octal = refl; hexadecimal = refl; code = refl; code_of_name = refl; signs = refl };
  internals = record {
    plain = record { count = refl; negative = refl; least = refl; last = refl; dimension = refl; last_dimension = refl; dimen = refl };
    glue = record { skip = refl; first = refl; last = refl; mu = refl; negative_mu = refl; no_register = refl };
    others = record { category = refl; delimiter = refl; no_character = refl; chardef = refl; mathchardef = refl; countdef = refl; toks = refl; everypar = refl; toksdef = refl };
  };
  reports = record { missing = refl; no_octal = refl; improper = refl; greatest = refl; too_big = refl };
  measures = record {
    factors = record { point = refl; comma = refl; octal = refl; space = refl; missing = refl; count = refl };
    dimensions = record { magnified = refl; infinite = refl; dimen = refl; missing = refl };
    glue = record { plus = refl; minus = refl; skip = refl; muskip = refl };
  };
  keywords = record {
    found = record { found = refl; behind_spaces = refl; space_letter = refl; capitals = refl; single = refl };
    given_back = record { space = refl; space_held = refl; digit = refl; name = refl; fourth = refl; fifth = refl };
    lent = record { first = refl; refused = refl; whole = refl };
  };
  names = record { name = refl; name_held = refl; empty = refl; let_name = refl; missing = refl; missing_held = refl };
  files = record { space = refl; space_held = refl; relax = refl; relax_held = refl; implicit = refl; implicit_held = refl; empty = refl; active = refl };
  skipped = record { plain = refl; inner_else = refl; nested = refl; marked = refl; named = refl; goes_on = refl; once = refl; unasked = refl; held = refl };
  built = record { text = refl; text_held = refl; raw_text = refl; entered = refl; entered_held = refl; brace = refl; message_held = refl; empty_message_held = refl; number_held = refl; def_held = refl; waiting = refl; waiting_held = refl; macro_entered = refl; macro_entered_list = refl; macro_held = refl };
  calls = record { arguments = refl; arguments_held = refl; empty = refl; empty_held = refl; extra = refl; paragraph = refl; checked = refl; checked_held = refl; mismatch = refl };
  checks = record { text = refl; number = refl; behind = refl; unguarded = refl; within_unguarded = refl; call = refl; argument = refl; skipped = refl; within_skipped = refl; command = refl; none = refl };
}
