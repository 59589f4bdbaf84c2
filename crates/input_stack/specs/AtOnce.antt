-- What is handed on at once.
use Rattle.std.specs.Prelude.{◌≡◌, Some, false}
use Rattle.tex_defs.specs.declared.Token.{Token}
use Rattle.input_stack.specs.Puts.{Item, next_item, pulled}
use Rattle.input_stack.specs.CallViews.{met_of, opens}
use Rattle.input_stack.specs.Pending.{Pending, with_puts}
use Rattle.input_stack.specs.Pulls.{token_in}

-- the next item is handed on, and it opens no argument's level
pub record PullsAtOnce (p q : Pending) (t : Token) : Type 0 where
  pub item : Item
  pub next : next_item p.puts ≡ Some item
  pub is : t ≡ token_in item
  pub closed : opens (met_of item) ≡ false
  pub after : q ≡ with_puts (pulled p.puts) p
