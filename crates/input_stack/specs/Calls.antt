-- What a macro call puts: its body with the arguments in their places (The TeXbook, chapter 20).
use Rattle.std.specs.Prelude.{◌≡◌, ℕ, ◌-◌, List, [], ◌∷◌, ◌++◌, map, Option, None, Some, true, slice_get}
use Rattle.tex_defs.specs.declared.Token.{Token}
use Rattle.tex_defs.specs.declared.Token.TheVariants.{Number, EndPlaces}
use Rattle.input_stack.specs.Puts.{Item, Text, First, Later, Gap, Put}

-- an argument with tokens, and its list's number
pub record Argument : Type 0 where
  pub list : ℕ
  pub tokens : List Token

abbrev pub argument_list : Option Argument → Option ℕ
argument_list None = None
argument_list (Some a) = Some a.list

abbrev pub tokens_of : Option Argument → List Token
tokens_of None = []
tokens_of (Some a) = a.tokens

-- the tokens of an argument's list; without any it is a gap
abbrev pub spread : ℕ → List Token → List Item
spread n [] = Gap ∷ []
spread n (t ∷ ts) = First n t ∷ map (Later n) ts

abbrev pub argument_items : Option Argument → List Item
argument_items None = Gap ∷ []
argument_items (Some a) = spread a.list a.tokens

-- a number without an argument stands for itself
abbrev pub placed_argument : ℕ → Option (Option Argument) → List Item
placed_argument n None = Text (Number n) ∷ []
placed_argument n (Some a) = argument_items a

abbrev pub token_items : List (Option Argument) → Token → List Item
token_items arguments (Number n) = placed_argument n (slice_get arguments (n - 1))
token_items arguments t = Text t ∷ []

-- no parameter number: it stands for itself in each body
abbrev pub IsText : Token → Type 0
IsText t = (n : ℕ) → t ≡ Number n → ⊥

-- the body's tokens, each parameter number replaced by its argument, of which the first has the number 1
abbrev pub substituted : List (Option Argument) → List Token → List Item
substituted arguments [] = []
substituted arguments (t ∷ ts) = token_items arguments t ++ substituted arguments ts

-- a macro's list is its parameter text, the end mark and its body
abbrev pub body_of : List Token → List Token
body_of [] = []
body_of (EndPlaces ∷ ts) = ts
body_of (t ∷ ts) = body_of ts

-- a call of the macro whose list has this number and these tokens
abbrev pub call_put : ℕ → List Token → List (Option Argument) → Put
call_put n ts arguments = record { list = n; body = true; arguments = map argument_list arguments; reading = None; items = substituted arguments (body_of ts) }

-- THE TOKENS OF A CALL

abbrev pub item_tokens : Item → List Token
item_tokens (Text t) = t ∷ []
item_tokens (First n t) = t ∷ []
item_tokens (Later n t) = t ∷ []
item_tokens Gap = []

abbrev pub spelt : List Item → List Token
spelt [] = []
spelt (x ∷ xs) = item_tokens x ++ spelt xs

abbrev pub argument_tokens : ℕ → Option (Option Argument) → List Token
argument_tokens n None = Number n ∷ []
argument_tokens n (Some a) = tokens_of a

abbrev pub token_spelt : List (Option Argument) → Token → List Token
token_spelt arguments (Number n) = argument_tokens n (slice_get arguments (n - 1))
token_spelt arguments t = t ∷ []

-- the tokens of a body with the arguments' tokens in their places
abbrev pub filled : List (Option Argument) → List Token → List Token
filled arguments [] = []
filled arguments (t ∷ ts) = token_spelt arguments t ++ filled arguments ts
