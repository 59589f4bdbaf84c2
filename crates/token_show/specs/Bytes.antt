-- The bytes that are left of a text that is printed.
use Rattle.std.specs.Prelude.{ℕ, ℤ, List, ◌++◌}
use Rattle.std.specs.List.{flat_map}
use Rattle.plain_tokens.specs.Printed.{printed_by}
use Rattle.token_show.specs.Options.{listed}
use Rattle.token_show.specs.declared.shown.Shown.TheInside.{Inside}

-- each character printed, by the value of `\newlinechar`
abbrev pub all_printed : ℤ → List ℕ → List ℕ
all_printed newline text = flat_map (printed_by newline) text

-- what a `Shown` stands for: the bytes that are left of the last character, and the others printed
abbrev pub bytes_left : Inside → List ℕ
bytes_left a = listed a.second ++ (listed a.third ++ (listed a.fourth ++ all_printed a.newline a.characters))
