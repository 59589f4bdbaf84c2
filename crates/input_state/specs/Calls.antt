-- Macros that are defined and called (The TeXbook, chapter 20).
use Rattle.std.specs.Prelude.{◌≡◌, ℕ, Bool, false, List, [], ◌∷◌, Option, Some, if◌then◌else◌}
use Rattle.tex_defs.specs.declared.Token.{Token}
use Rattle.tex_defs.specs.declared.Name.{Name}
use Rattle.tex_defs.specs.declared.Meaning.{Meaning}
use Rattle.tex_defs.specs.declared.Meaning.TheVariants as means
use Rattle.tex_defs.specs.declared.Seen.{Seen}
use Rattle.plain_tokens.specs.Meanings.{is_listed, name_meaning, meaning_to_let}
use Rattle.equivalents.specs.Groups.{Groups, set_name}
use Rattle.equivalents.specs.Holding.{lists_held, lists_outside}
use Rattle.plain_tokens.specs.Arguments.{has_parameters, begins_with_place}
use Rattle.plain_tokens.specs.Puts.{Item, Put, call_put, token_put, without_ended}
use Rattle.plain_tokens.specs.Pending.{Pending, with_puts}
use Rattle.plain_tokens.specs.Tables.{Demand}
use Rattle.input_state.specs.declared.answer.CallKind.{CallKind}
use Rattle.input_state.specs.declared.answer.CallKind.TheVariants as kind
use Rattle.input_state.specs.Macros.{list_at, is_shared}
use Rattle.input_state.specs.Callings.{Calling, NotCalling, Gathering, Stopped, Gathered}

-- THE CALL OF A NAME. Only a macro with a list is called; where it has no parameter text, nothing is gathered.

abbrev pub call_kind : List (List Token) → Meaning (Option ℕ) → CallKind
call_kind lists (means.Macro long outer (Some id)) = if has_parameters (list_at lists id) then kind.Gathers else kind.AtOnce
call_kind lists m = kind.None

-- the list of the macro that a name means
abbrev pub macro_text : List (List Token) → Meaning (Option ℕ) → List Token
macro_text lists (means.Macro long outer (Some id)) = list_at lists id
macro_text lists m = []

abbrev pub text_of : List (List Token) → List (Meaning (Option ℕ)) → Name → List Token
text_of lists meanings name = macro_text lists (name_meaning meanings name)

-- the list of the first argument, which is begun with the call where the parameter text begins with its place
abbrev pub begun_lists : (text : List Token) → List (List Token)
begun_lists text = if begins_with_place text then [] ∷ [] else []

-- the list of the macro that a token means, as `\let` would give it
abbrev pub list_to_let : List (List Token) → List (Meaning (Option ℕ)) → Seen → List Token
list_to_let lists meanings x = macro_text lists (meaning_to_let meanings x)

-- what is put where nothing is gathered
abbrev pub called_put : List (List Token) → Meaning (Option ℕ) → Put
called_put lists (means.Macro long outer (Some id)) = call_put id (list_at lists id) []
called_put lists m = token_put []

-- A list without items, as of a macro without a body, changes nothing; else the finished lists in front go, and it is in front.
abbrev pub called_top : Put → List Item → List Put → List Put
called_top p [] puts = puts
called_top p (x ∷ xs) puts = p ∷ without_ended puts

abbrev pub called : Put → List Put → List Put
called p puts = called_top p p.items puts

abbrev pub after_call : Put → Pending → Pending
after_call p q = with_puts (called p q.puts) q

-- it asks for a level
abbrev pub when_called : List Item → Demand → List Demand
when_called [] d = []
when_called (x ∷ xs) d = d ∷ []

-- A CALL WITH ARGUMENTS

-- what is put of the macro that a name means
abbrev pub macro_put : List (List Token) → Meaning (Option ℕ) → (args : List (List Token)) → Put
macro_put lists (means.Macro long outer (Some id)) args = call_put id (list_at lists id) args
macro_put lists m args = token_put []

-- what the call puts once all arguments are there
abbrev pub put_of : List (List Token) → List (Meaning (Option ℕ)) → Calling → Put
put_of lists meanings NotCalling = token_put []
put_of lists meanings (Gathering name scan) = token_put []
put_of lists meanings (Stopped name why scan) = token_put []
put_of lists meanings (Gathered name args) = macro_put lists (name_meaning meanings name) args

-- a list without items asks for nothing
abbrev pub when_put : List Item → List Demand → List Demand
when_put [] ds = []
when_put (x ∷ xs) ds = ds

-- A DEFINITION

-- This list is a macro's now, of a number that no shared list had, in no group; the name means it.
pub record Defines (global : Bool) (groups new_groups : Groups) (puts : List Put) (lists new_lists : List (List Token)) (ts : List Token) (name : Name) (long outer : Bool) : Type 0 where
  pub id : ℕ
  pub free : is_shared id (lists_held groups) puts ≡ false
  pub outside : is_listed (lists_outside groups.outer) id ≡ false
  pub means : new_groups ≡ set_name global groups name (means.Macro long outer (Some id))
  pub list : list_at new_lists id ≡ ts
