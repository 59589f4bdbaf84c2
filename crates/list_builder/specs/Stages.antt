-- What a stage of the scanner stands for.
use Rattle.std.specs.Prelude.{ℕ, ◌+◌, ◌&&◌, List, Option, Some, None, Bool, false, not}
use Rattle.tex_syntax.specs.declared.words.Manner.{Manner}
use Rattle.tex_defs.specs.declared.Token.{Token}
use Rattle.tex_defs.specs.declared.Seen.{Seen}
use Rattle.plain_tokens.specs.Categories.{begin_group, end_group}
use Rattle.plain_tokens.specs.Tokens.{has_category}
use Rattle.list_builder.specs.declared.ask.Due.{Due}
use Rattle.list_builder.specs.declared.ask.Due.TheVariants as due
use Rattle.list_builder.specs.declared.stage.Stage.{Stage}
use Rattle.list_builder.specs.declared.stage.Stage.TheVariants as stage
use Rattle.list_builder.specs.declared.stage.Next.{Next}
use Rattle.list_builder.specs.declared.stage.Next.TheVariants.{On, Finished}
use Rattle.list_builder.specs.declared.stage.Step.{Step}
use Rattle.plain_state.specs.declared.body.Body.{Body}
use Rattle.plain_state.specs.Definitions.{Fed, Answer, More, Tells, Done, with_cell, body, reference, illegal, no_body, parameters, place, tenth, misnumbered, missing, first, is_reference}

-- what is answered on what is still to come, where this list has been built
abbrev pub resume : Manner → Stage → List Token → List Fed → Answer
resume m stage.First list fed = first m list fed
resume m stage.FirstMissing list fed = missing m list fed
resume m (stage.Parameters count) list fed = parameters m count list fed
resume m (stage.Place count character) list fed = place m count character list fed
resume m (stage.Misnumbered count character) list fed = misnumbered m count character list fed
resume m (stage.Tenth count) list fed = tenth m count list fed
resume m stage.BodyMissing list fed = no_body list fed
resume m (stage.InBody b depth) list fed = body m b depth list fed
resume m (stage.Reference b depth character) list fed = reference m b depth character list fed
resume m (stage.Illegal b depth character) list fed = illegal m b depth character list fed

-- what is due says, where this list has been built
abbrev pub due_of : Due → List Token → Answer
due_of (due.More want) list = More want list
due_of (due.Tells report give_back) list = Tells report give_back list

-- the groups that are open
abbrev pub depth_of : Stage → ℕ
depth_of (stage.InBody b depth) = depth
depth_of (stage.Reference b depth character) = depth
depth_of (stage.Illegal b depth character) = depth
depth_of s = 0

-- a token of a body that is no brace and no parameter character that stands for a parameter
abbrev pub is_kept : Body → Seen → Bool
is_kept b x = (not (has_category begin_group x.token) && not (has_category end_group x.token)) && not (is_reference b x)

-- a token of a body goes into the list as it is, and the stage stays; in other stages this is told of none
abbrev pub keeps_token : Stage → Seen → Bool
keeps_token (stage.InBody b depth) x = is_kept b x
keeps_token s x = false

-- a report is due
abbrev pub IsTelling : Stage → Type 0
IsTelling stage.FirstMissing = Unit {0}
IsTelling (stage.Misnumbered count character) = Unit {0}
IsTelling (stage.Tenth count) = Unit {0}
IsTelling stage.BodyMissing = Unit {0}
IsTelling (stage.Illegal b depth character) = Unit {0}
IsTelling s = ⊥

-- it is a report
abbrev pub IsReport : Due → Type 0
IsReport (due.More want) = ⊥
IsReport (due.Tells report give_back) = Unit {0}

-- the list that a step leaves, and what is answered then
abbrev pub grown : Step → List Token → List Token
grown s list = with_cell (with_cell list s.first) s.second

abbrev pub goes_by : Next → Manner → List Token → List Fed → Answer
goes_by (On s) m list fed = resume m s list fed
goes_by Finished m list fed = Done list

abbrev pub goes : Step → Manner → List Token → List Fed → Answer
goes s m list fed = goes_by s.next m (grown s list) fed

-- a report is due then
abbrev pub TellsNext : Next → Type 0
TellsNext (On s) = IsTelling s
TellsNext Finished = ⊥

abbrev pub depth_after : Next → ℕ
depth_after (On s) = depth_of s
depth_after Finished = 0

-- how many tokens go into the list
abbrev pub cell_count : Option Token → ℕ
cell_count None = 0
cell_count (Some t) = 1

abbrev pub growth : Step → ℕ
growth s = cell_count s.first + cell_count s.second
