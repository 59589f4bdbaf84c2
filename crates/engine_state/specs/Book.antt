-- What stands beside an engine.
use Rattle.std.specs.Prelude.{◌≢◌, ℕ, List, [], ◌∷◌}
use Rattle.tex_defs.specs.declared.Token.{Token}
use Rattle.plain_readings.specs.Readings.{Reading}

-- The open readings, the machine's number of each shared list of the memory, and all lists that macros and locations got so far.
pub record Book : Type 0 where
  pub work : List Reading
  pub number : ℕ → ℕ
  pub all_lists : List (List Token)

-- with these readings
abbrev pub with_work : List Reading → Book → Book
with_work work book = record { work = work; number = book.number; all_lists = book.all_lists }

-- no reading is open, and no macro was defined
abbrev pub first_book : Book
first_book = record { work = []; number = λ n. n; all_lists = [] }

-- a macro's list has a token, its end mark
abbrev pub AreBodies : List (List Token) → Type 0
AreBodies [] = Unit {0}
AreBodies (ts ∷ all_lists) = (ts ≢ []) × AreBodies all_lists
