-- What goes into the list in work, by the answers before and after a token.
use Rattle.std.specs.Prelude.{List, [], ◌∷◌, length, drop, Option, unwrap_or}
use Rattle.tex_defs.specs.declared.Token.{Token}
use Rattle.plain_tokens.specs.Arguments.{Answer, arguments_in, work_in}

-- by the arguments that are whole now and weren't: the list in work became the first, or else the next list in work
abbrev pub target_by : (complete : List (List Token)) → (work : Option (List Token)) → List Token
target_by [] work = unwrap_or work []
target_by (a ∷ more) work = a

-- what the list in work becomes
abbrev pub target_of : (before after : Answer) → List Token
target_of before after = target_by (drop (length (arguments_in before)) (arguments_in after)) (work_in after)

-- the tokens that go into it
abbrev pub growth_of : (before after : Answer) → List Token
growth_of before after = drop (length (unwrap_or (work_in before) [])) (target_of before after)
