-- Each is computed.
use Rattle.std.proofs.Common.{◌≡◌, map, refl}
use Rattle.prim_table.specs.Primitives.{primitive_name, primitive_names, command_names, assignment_names, expandable_names, conditional_names, integer_names, dimension_names, glue_names, token_names}
use Rattle.rows.specs.Worked.{numbers, commands}
use Rattle.rows.proofs.laws.worked_rows.Goals as goal

names : map primitive_name numbers ≡ commands
unfolding primitive_name primitive_names command_names assignment_names expandable_names conditional_names integer_names dimension_names glue_names token_names
names = refl

pub returns : goal.returns
returns c = record {
  names = names;
  whole = refl;
  commands_worked = record { ignorespaces = refl; message = refl; errmessage = refl; show = refl };
  definitions = record { def = refl; gdef = refl; edef = refl; xdef = refl; missing = refl };
  prefixes = record { long_global = refl; outer = refl; global = refl; long_catcode = refl; outer_let = refl; refused = refl; no_assignment = refl };
  meanings = record { let_token = refl; let_equals = refl; let_space = refl; let_second = refl; futurelet = refl };
  categories = record { sets = refl; begins = refl; too_great = refl; negative = refl; greatest = refl };
  codes = record { lowercase = refl; uppercase = refl; space_factor = refl; math = refl; math_too_great = refl; delimiter = refl; delimiter_too_great = refl };
  parameters = record { equals_number = refl; begins = refl; negative = refl; global = refl; last = refl; aftergroup = refl; afterassignment = refl };
  registers = record { sets = refl; too_great = refl; named = refl; named_begins = refl; named_global = refl; named_long = refl };
  arithmetic = record {
    advance = refl;
    without = refl;
    too_great = refl;
    parameter = refl;
    named = refl;
    letter_refused = refl;
    relax_refused = refl;
    code_refused = refl;
    character_refused = refl;
    global = refl;
    global_refused = refl;
    multiply = refl;
    divide = refl;
  };
  shorthands = record {
    chardef = refl;
    mathchardef = refl;
    countdef = refl;
    character_too_great = refl;
    math_too_great = refl;
    math_negative = refl;
    math_greatest = refl;
    register_too_great = refl;
    missing = refl;
    global = refl;
  };
  values = record {
    character = refl;
    math = refl;
    integer = refl;
    dimension = refl;
    glue = refl;
    named = refl;
    category = refl;
    category_too_great = refl;
    skip = refl;
    dimen_negative = refl;
    letter_refused = refl;
    relax_refused = refl;
  };
  measures = record {
    dimen = refl;
    skip = refl;
    muskip = refl;
    parindent = refl;
    lineskip = refl;
    thinmuskip = refl;
    dimen_named = refl;
    skip_named = refl;
    muskip_named = refl;
    dimendef = refl;
    advance_dimension = refl;
    advance_glue = refl;
    advance_mu = refl;
    multiply = refl;
    divide = refl;
    toks_refused = refl;
  };
  computing = record {
    sum_beyond = refl;
    product_beyond = refl;
    product_within = refl;
    orders = refl;
    product_of_parts = refl;
    quotient_of_parts = refl;
    by_zero = refl;
  };
  lists = record {
    sets = refl;
    begins = refl;
    relax_before = refl;
    letter = refl;
    too_great = refl;
    shares = refl;
    shared_too_great = refl;
    shares_parameter = refl;
    named = refl;
    named_shares = refl;
    everypar = refl;
    errhelp = refl;
    everypar_shares = refl;
    toksdef = refl;
    global = refl;
    long = refl;
    long_parameter = refl;
  };
  list_values = record {
    toks = refl;
    named = refl;
    everypar = refl;
    shows = refl;
    shows_list = refl;
    shows_parameter = refl;
    shows_number = refl;
    show_refused = refl;
    uppercase = refl;
    lowercase = refl;
    refused = refl;
  };
  expansions = record { expandafter = refl; noexpand = refl; number_made = refl; romannumeral = refl; string = refl; meaning = refl; statuses = refl };
  relations = record {
    is_less = refl;
    not_less = refl;
    is_equal = refl;
    is_greater = refl;
    not_greater = refl;
    missing = refl;
    of_a_letter = refl;
    implicit = refl;
    dimensions = refl;
    dimension_missing = refl;
  };
  number_tests = record {
    odd = refl;
    even = refl;
    odd_negative = refl;
    third_case = refl;
    no_case = refl;
    void_too_great = refl;
    hbox = refl;
    vbox_negative = refl;
  };
  code_tests = record {
    another = refl;
    another_category = refl;
    implicit = refl;
    names = refl;
    given = refl;
    no_character = refl;
    kept_active = refl;
    kept_and_name = refl;
    kept_name = refl;
    relax = refl;
  };
  category_tests = record { same = refl; another = refl; names = refl; name_and_brace = refl; kept_both = refl; kept_and_name = refl };
  comparisons = record { names = refl; statuses = refl; rowless = refl };
}
