-- What a command does before its reading ends.
use Rattle.std.specs.Prelude.{pos, List, [], ◌∷◌, ◌++◌, Some}
use Rattle.plain_tokens.specs.Meanings.{meaning_to_let}
use Rattle.plain_tokens.specs.Numerals.{whole_number, roman}
use Rattle.plain_state.specs.Reports.{string_text}
use Rattle.equivalents.specs.declared.values.Loc.{Loc}
use Rattle.equivalents.specs.declared.values.Val.TheVariants as val
use Rattle.equivalents.specs.Locations.{SeenValue, value_seen}
use Rattle.equivalents.specs.Tables.{get}
use Rattle.rows.specs.Internal.{value_text}
use Rattle.rows.specs.declared.command.Call.{Call}
use Rattle.rows.specs.declared.command.Effect.{Effect}
use Rattle.rows.specs.declared.command.Effect.TheVariants as effect
use Rattle.plain_machine.specs.States.{Move, Set, Assigned, KeptForAssignment}
use Rattle.plain_machine.specs.Plan.{Page, is_global, assigned, behind_assignment, kept_for_group, short_meaning, shown, location_shown, value_shown, put_one, put_characters, marked, meaning_characters, style_of}

-- what is put in front
abbrev pub put_by : Page → Effect → List Move
put_by page (effect.PutBack x) = put_one x.token
put_by page (effect.PutMarked x) = put_one (marked x.token)
put_by page (effect.MakeNumber n) = put_characters (whole_number n)
put_by page (effect.MakeRoman n) = put_characters (roman n)
put_by page (effect.MakeString x) = put_characters (string_text (style_of page) x.token)
put_by page (effect.MakeMeaning x) = put_characters (meaning_characters page x)
put_by page (effect.MakeValue l) = put_characters (value_text l (value_seen (get page.now l)))
put_by page e = []

-- what is done alone, where no token is obeyed and none expanded, nothing is computed, no list put in front, and no conditional goes on
abbrev pub done_alone : Page → Call → Effect → List Move
done_alone page c (effect.Show x) = shown page x
done_alone page c (effect.ShowValue l) = location_shown page l
done_alone page c (effect.ShowNumber n) = value_shown page (whole_number n) []
done_alone page c (effect.Let n x) = assigned page (Assigned (is_global page c) n (meaning_to_let page.now.meanings x))
done_alone page c (effect.FutureLet n x y) = put_one y.token ++ (put_one x.token ++ assigned page (Assigned (is_global page c) n (meaning_to_let page.now.meanings y)))
done_alone page c (effect.SetNumber l value) = assigned page (Set (is_global page c) l (val.Number value))
done_alone page c (effect.SetGlue l g) = assigned page (Set (is_global page c) l (val.Skip g))
done_alone page c (effect.ShareList l m) = assigned page (Set (is_global page c) l (get page.now m))
done_alone page c (effect.Shorthand n s) = assigned page (Assigned (is_global page c) n (short_meaning s))
done_alone page c effect.Unassigned = behind_assignment page.after
done_alone page c (effect.AfterGroup x) = kept_for_group page.group x.token
done_alone page c (effect.AfterAssignment x) = KeptForAssignment (Some x.token) ∷ []
done_alone page c e = put_by page e

-- an effect that is done alone
abbrev pub IsAlone : Effect → Type 0
IsAlone (effect.Obey x) = ⊥
IsAlone (effect.ExpandBehind x y) = ⊥
IsAlone (effect.Compute operation l d) = ⊥
IsAlone (effect.PutList l) = ⊥
IsAlone (effect.Choose v) = ⊥
IsAlone (effect.Compare x y) = ⊥
IsAlone (effect.Reach a e) = ⊥
IsAlone e = Unit {0}

-- the assignment of what arithmetic comes to; a value that is no number and no glue counts as the number 0
abbrev pub assignment_of : Loc → SeenValue → Effect
assignment_of l (val.Number n) = effect.SetNumber l n
assignment_of l (val.Skip g) = effect.SetGlue l g
assignment_of l v = effect.SetNumber l (pos 0)
