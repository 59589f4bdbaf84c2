-- The tokens of a list, and the characters of a text, that may be there.
use Rattle.std.specs.Prelude.{ℕ, List, [], Option, None, Some}
use Rattle.tex_defs.specs.declared.Token.{Token}

-- which `tokens_of` gives
abbrev pub tokens_given : {B : Type 0} → (B → List Token) → Option B → List Token
tokens_given tokens_of None = []
tokens_given tokens_of (Some b) = tokens_of b

abbrev pub text_given : Option (List ℕ) → List ℕ
text_given None = []
text_given (Some text) = text
