-- All lists of a run, and all that is still to be read.
use Rattle.std.specs.Prelude.{ℕ, ◌+◌, List, [], ◌∷◌, ◌++◌, take, drop, Option}
use Rattle.tex_defs.specs.declared.Token.{Token}
use Rattle.tex_defs.specs.declared.Full.{Full}
use Rattle.tex_defs.specs.declared.Sizes.{Sizes}
use Rattle.plain_tokens.specs.Puts.{Put}
use Rattle.plain_tokens.specs.Pending.{Pending, end_token_lists, all_puts}
use Rattle.plain_tokens.specs.Tables.{held_words, level, open_lines, parameters, refused}
use Rattle.save_stack.specs.declared.GroupKind.{GroupKind}
use Rattle.equivalents.specs.Groups.{Groups}
use Rattle.equivalents.specs.Holding.{lists_held, shared_words}
use Rattle.input_state.specs.Macros.{KeepsLists}
use Rattle.input_state.specs.Calls.{when_called, when_put}
use Rattle.input_state.specs.Callings.{Calling, call_lists}

pub record Stored : Type 0 where
  pub pending : Pending
  -- the list that is being made, to be put in front
  pub making : Option (List Token)
  -- the call whose arguments are gathered
  pub call : Calling
  -- the lists that the other readings gather, innermost first
  pub builds : List (List Token)
  -- all bytes of the line buffer
  pub buffer : List ℕ
  pub sizes : Sizes
  -- what stands at all locations, in all groups that are open: a macro has the number of its list
  pub groups : Groups
  -- of a group that is being closed, the tokens that are still to be given, in the order in which they are, and its kind
  pub closing : List Token
  pub ending : Option GroupKind
  -- all lists of main memory, by their numbers
  pub lists : List (List Token)

-- all lists that are gathered, innermost first
abbrev pub gathered : Stored → List (List Token)
gathered s = call_lists s.call ++ s.builds

-- the words of main memory that are used
abbrev pub words : Stored → ℕ
words s = shared_words 0 (lists_held s.groups) (all_puts s.pending) s.lists + held_words (all_puts s.pending) s.making (gathered s)

-- each shared list that is held then keeps its tokens
abbrev pub KeepsShared : Stored → Stored → Type 0
KeepsShared old new = KeepsLists (lists_held new.groups) (all_puts new.pending) old.lists new.lists

-- why a macro's body or another list isn't put, once the finished lists in front have gone
abbrev pub call_refusal : Put → Stored → Option Full
call_refusal p s = refused s.sizes (when_called p.items (level (end_token_lists s.pending)))

-- why a call with arguments isn't put, once the finished lists in front have gone: the arguments are asked for before the level
abbrev pub put_refusal : Put → Stored → Option Full
put_refusal p s = refused s.sizes (when_put p.items (parameters p (end_token_lists s.pending) ∷ level (end_token_lists s.pending) ∷ []))

-- the bytes of a name of this length, which is spelt behind the open lines
abbrev pub spelt : Stored → ℕ → List ℕ
spelt s n = take n (drop (open_lines s.pending) s.buffer)
