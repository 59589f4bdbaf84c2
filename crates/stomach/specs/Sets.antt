-- A macro is defined.
use Rattle.std.specs.Prelude.{ℕ, List, [], ◌∷◌, ◌++◌, drop}
use Rattle.tex_defs.specs.declared.Token.{Token}
use Rattle.engine_state.specs.Book.{Book}

-- the innermost reading's list passes to a macro
abbrev pub with_macro : (number : ℕ → ℕ) → List Token → Book → Book
with_macro number ts book = record { work = drop 1 book.work; number = number; all_lists = book.all_lists ++ ts ∷ [] }
