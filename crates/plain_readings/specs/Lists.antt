-- The readings that build a list: a balanced text and the list of a macro, by their definitions.
use Rattle.std.specs.Prelude.{Bool, false, List, [], ◌∷◌}
use Rattle.tex_defs.specs.declared.Name.{Name}
use Rattle.tex_defs.specs.declared.Token.{Token}
use Rattle.tex_syntax.specs.declared.words.Manner.{Manner}
use Rattle.plain_state.specs.Definitions as build
use Rattle.rows.specs.declared.words.Value.TheVariants as value
use Rattle.rows.specs.Readings.{Fed, Tok, Noted, Verbatim, Ask, More, Done, Tells}

-- what a list is built of
abbrev pub build_fed : List Fed → List build.Fed
build_fed [] = []
build_fed (Tok x ∷ fed) = build.Tok x ∷ build_fed fed
build_fed (Noted ∷ fed) = build.Noted ∷ build_fed fed
build_fed (Verbatim t ∷ fed) = build.Given (t ∷ []) ∷ build_fed fed
build_fed (y ∷ fed) = build_fed fed

abbrev pub build_ask : build.Answer → Ask
build_ask (build.More want list) = More want
build_ask (build.Tells report give_back list) = Tells report give_back
build_ask (build.Done list) = Done value.List false

-- the list as far as it is built
abbrev pub built : build.Answer → List Token
built (build.More want list) = list
built (build.Tells report give_back list) = list
built (build.Done list) = list

-- the name of the command or the macro, and whether the list is expanded
abbrev pub manner : Name → (expanded : Bool) → Manner
manner name expanded = record { name = name; expanded = expanded }

abbrev pub text : Name → (expanded : Bool) → List Fed → build.Answer
text name expanded fed = build.text (manner name expanded) (build_fed fed)

abbrev pub definition : Name → (expanded : Bool) → List Fed → build.Answer
definition name expanded fed = build.definition (manner name expanded) (build_fed fed)
