-- The style of a view, and what must hold of it and of a meaning.
use Rattle.std.specs.Prelude.{List, Option}
use Rattle.tex_defs.specs.declared.Token.{Token}
use Rattle.tex_defs.specs.declared.Meaning.{Meaning}
use Rattle.tex_defs.specs.declared.Meaning.TheVariants.{Undefined, RelaxMarked, Char, CharGiven, MathGiven, Register, Prim, Macro}
use Rattle.cs_hash.specs.Names.{entered, Knows}
use Rattle.token_lists.specs.declared.ListRef.{ListRef}
use Rattle.token_lists.specs.declared.Build.{Build}
use Rattle.token_lists.specs.Table.{Entry, tokens_at, IsHeld}
use Rattle.token_lists.specs.Ids.{id_of, build_id}
use Rattle.plain_tokens.specs.Printed.{Style}
use Rattle.token_show.specs.declared.view.NamesView.{NamesView}
use Rattle.token_show.specs.declared.view.View.{View}

-- what texts depend on, as a view of names has it
abbrev pub names_style : NamesView → Style
names_style v = record {
  escape = v.escape;
  newline = v.newline;
  categories = v.categories.now;
  names = entered v.hash.now v.pool.now.kept;
}

-- the names of the hash are strings of the pool
abbrev pub IsNamesView : NamesView → Type 0
IsNamesView v = Knows v.hash.now v.pool.now.kept

-- the same of a view with lists
abbrev pub style_of : View → Style
style_of v = names_style v.names

abbrev pub IsView : View → Type 0
IsView v = IsNamesView v.names

-- the tokens of a list that is held
abbrev pub list_tokens : View → ListRef → List Token
list_tokens v list = tokens_at v.lists.now (id_of list)

-- the tokens that a list has which is being built
abbrev pub build_tokens : View → Build → List Token
build_tokens v build = tokens_at v.lists.now (build_id build)

-- a macro's list is held
abbrev pub HoldsList : List (Option Entry) → Meaning ListRef → Type 0
HoldsList table Undefined = Unit {0}
HoldsList table RelaxMarked = Unit {0}
HoldsList table (Char category c) = Unit {0}
HoldsList table (CharGiven c) = Unit {0}
HoldsList table (MathGiven c) = Unit {0}
HoldsList table (Register kind number) = Unit {0}
HoldsList table (Prim number) = Unit {0}
HoldsList table (Macro long outer list) = IsHeld table (id_of list)
