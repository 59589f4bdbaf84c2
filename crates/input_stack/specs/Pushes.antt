-- A macro call that is put in front.
use Rattle.std.specs.Prelude.{ℕ, ◌+◌, List, Option}
use Rattle.tex_defs.specs.declared.Full.{Full}
use Rattle.token_lists.specs.declared.ListRef.{ListRef}
use Rattle.token_lists.specs.Ids.{id_of}
use Rattle.token_lists.specs.Table.{Entry, tokens_at}
use Rattle.token_lists.specs.Accounts.{holds}
use Rattle.macro_args.specs.declared.args.Args.{Args}
use Rattle.macro_args.specs.Args.{args_hold}
use Rattle.input_stack.specs.declared.stack.InputStack.{InputStack}
use Rattle.input_stack.specs.Calls.{substituted, body_of}
use Rattle.input_stack.specs.CallViews.{arguments_in}
use Rattle.input_stack.specs.Pending.{call_refusal}
use Rattle.input_stack.specs.View.{pending}

-- how often a macro's list and the arguments of its call are a list
abbrev pub pushed_holds : ListRef → Args → ℕ → ℕ
pushed_holds body args h = holds (id_of body) h + args_hold args h

-- why the call is refused, if it is
abbrev pub call_refused : InputStack → List (Option Entry) → ListRef → Args → Option Full
call_refused s table body args = call_refusal s.size s.parameter_size args.count (substituted (arguments_in table args) (body_of (tokens_at table (id_of body)))) (pending table s)
