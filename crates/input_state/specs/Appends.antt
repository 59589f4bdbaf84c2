-- Tokens that go to the end of a list, all of them or as many as have room.
use Rattle.std.specs.Prelude.{◌≡◌, ◌≢◌, ℕ, List, ◌∷◌, ◌++◌, Option}
use Rattle.tex_defs.specs.declared.Token.{Token}
use Rattle.token_lists.specs.Table.{Entry}
use Rattle.macro_call.specs.declared.cursor.Cursor.{Cursor}
use Rattle.macro_call.specs.Cursors.{IsOn}
use Rattle.equivalents.specs.Cases.{case_codes, case_changed}
use Rattle.equivalents.specs.Tables.{Tables}
use Rattle.input_state.specs.declared.appending.Change.{Change}
use Rattle.input_state.specs.declared.appending.Change.TheVariants as change

abbrev pub changed : Change → Tables → Token → Token
changed change.Nothing m t = t
changed (change.Case upper) m t = case_changed (case_codes upper m) t

-- Of these tokens some, from the first on, stand behind those that were there, and not all.
pub record IsAppendedInPart (ts was now : List Token) : Type 0 where
  pub front : List Token
  pub next : Token
  pub rest : List Token
  pub split : ts ≡ front ++ next ∷ rest
  pub after : now ≡ was ++ front

-- a place in another list than this one
pub record IsElsewhere (table : List (Option Entry)) (built : ℕ) (from : Cursor) : Type 0 where
  pub id : ℕ
  pub on : IsOn table id from
  pub apart : id ≢ built
