-- Words that `clap` takes have the command `init`, with the values that it must have.
use Rattle.std.proofs.Common.{◌≡◌, ◌||◌, Bool, true, false, not, List, [], ◌∷◌, Option, Some, None, is_some, find, codes, refl, subst, sym, inl, inr}
use Rattle.std.specs.Prelude.{option_map, IfSome}
use Rattle.std.specs.Option.{option_map_or}
use Rattle.clap.specs.Words.{Row, Rule, Shape, Text, built, fault_of, subcommand_of}
use Rattle.clap.specs.Kinds.{check_kinds}
use Rattle.clap.specs.Walk.{answers_to, nothing_held, rows_after, settled, stop_after, walk, with_default}
use Rattle.clap.specs.Simple.{argument_words, entered, filled, label_of, names_of, rows_at, with_index}
use Rattle.clap.specs.Takes.{is_given}
use Rattle.clap.specs.Faults.{check_fault, entered_fault, level_fault}
use Rattle.command_words.specs.Words as spec
use Rattle.command_words.specs.Words.{command_line, init_rows}
use Rattle.command_words.specs.Taken.{IsTaken}
use Rattle.command_words.proofs.Rows.{Each, IsSet, default_stays, default_there, found, given_there, level_passed, or_empty, row_value}

-- the arguments of `init` as they are built
abbrev file : Rule
file = with_index 1 (filled (spec.required_word (codes "file")))

abbrev steps : Rule
steps = with_index 2 (filled (spec.number_option (codes "steps") 0 1000000000000000 (codes "10000000")))

abbrev mem : Rule
mem = with_index 2 (filled (spec.number_option (codes "mem") 100 16777216 (codes "30000")))

abbrev quiet : Rule
quiet = with_index 2 (filled (spec.flag (codes "quiet")))

abbrev rules : List Rule
rules = file ∷ steps ∷ mem ∷ quiet ∷ []

abbrev init : Shape
init = record spec.init { rules = rules; disable_help_flag = true; disable_help_subcommand = true; is_built = true }

subs_are : (built command_line).subs ≡ init ∷ []
subs_are = refl

sets : Each (IsSet rules) rules
sets = (
  record { here = refl; action = inl refl; valued = inl refl; reading = refl },
  (
    record { here = refl; action = inl refl; valued = inl refl; reading = refl },
    (
      record { here = refl; action = inl refl; valued = inl refl; reading = refl },
      (
        record { here = refl; action = inr refl; valued = inr refl; reading = refl },
        tt,
      ),
    ),
  ),
)

file_given : (rows : List Row) → check_fault init rows false ≡ [] → is_given (codes "file") rows ≡ true
file_given rows e = go (is_given (codes "file") rows) e
  where
    go : (b : Bool) → check_kinds false false (not b || false) ≡ [] → b ≡ true
    go true f = refl
    go false f = cc

init_taken : (words : List Text) → level_fault init [] nothing_held words false [] ≡ [] → IsTaken (rows_after rules [] words)
init_taken words e =
    let at_end = level_passed init sets [] words false [] e in
    let rows = rows_after rules [] words in
    let one = with_default (settled rules (walk rules [] nothing_held words).held).rows file in
    let two = with_default one steps in
    let three = with_default two mem in
    record {
      file = row_value rules (codes "file") file refl rows at_end.0 (given_there (codes "file") rows (file_given rows at_end.1));
      steps = row_value rules (codes "steps") steps refl rows at_end.0 (default_stays (codes "steps") quiet three (default_stays (codes "steps") mem two (default_there steps one refl)));
      mem = row_value rules (codes "mem") mem refl rows at_end.0 (default_stays (codes "mem") quiet three (default_there mem two refl));
      quiet = row_value rules (codes "quiet") quiet refl rows at_end.0 (default_there quiet three refl);
    }

-- the command is wanted
command_given : (rows : List Row) (b : Bool) → check_fault (built command_line).top rows b ≡ [] → b ≡ true
command_given rows true e = refl
command_given rows false e = cc

of_shape : (words : List Text) (o : Option Shape) → IfSome o (λ s. s ≡ init)
    → option_map_or (λ s. level_fault s [] nothing_held words false []) o [] ≡ [] → is_some (option_map (λ s. rows_at s words) o) ≡ true
    → IsTaken (option_map_or (λ p. p.1) (option_map (λ s. rows_at s words) o) [])
of_shape words None s e some = cc
of_shape words (Some x) s e some = subst (λ (y : Shape). level_fault y [] nothing_held words false [] ≡ [] → IsTaken (rows_after y.rules [] words)) (sym s) (init_taken words) e

entered_taken : (stop : Option (Text × List Text)) → entered_fault (built command_line) stop ≡ [] → is_some (entered (built command_line) stop) ≡ true
    → IsTaken (option_map_or (λ p. p.1) (entered (built command_line) stop) [])
entered_taken None e some = cc
entered_taken (Some p) e some =
    of_shape p.1 (find (λ s. answers_to p.0 (label_of s)) (init ∷ [])) (found (λ s. s ≡ init) (λ s. answers_to p.0 (label_of s)) (init ∷ []) (refl, tt)) e some

pub taken : (words : List Text) → fault_of command_line words ≡ [] → (is_some (subcommand_of command_line words) ≡ true) × IsTaken (init_rows words)
taken words e =
    let a = built command_line in
    let stop = stop_after a.top.rules (names_of a) (argument_words command_line words) in
    let one = or_empty _ _ e in
    let two = or_empty (entered_fault a stop) _ one.1 in
    let three = or_empty _ _ two.1 in
    let four = or_empty _ _ three.1 in
    let some = command_given (rows_after a.top.rules (names_of a) (argument_words command_line words)) (is_some (entered a stop)) four.1 in
    (some, entered_taken stop two.0 some)
