-- The primitives: the eight rows of their names, and what their numbers mean.
use Rattle.std.specs.Prelude.{◌≡◌, ℕ, ◌+◌, ◌-◌, ◌<◌, ◌≤◌, nat_le, Bool, ◌&&◌, List, [], ◌∷◌, ◌++◌, codes, slice_index_or, slice_get, Some, if◌then◌else◌}
use Rattle.prim_table.specs.declared.Class.{Class}
use Rattle.prim_table.specs.declared.Class.TheVariants.{Command, Assignment, Expandable, Conditional, IntegerParameter, DimensionParameter, GlueParameter, TokenParameter}

-- the commands
unfoldable pub command_names : List (List ℕ)
command_names =
    codes "relax" ∷ codes "begingroup" ∷ codes "endgroup" ∷ codes "endcsname" ∷ codes "par" ∷
    codes "end" ∷ codes "dump" ∷ codes "ignorespaces" ∷ codes "message" ∷ codes "errmessage" ∷
    codes "show" ∷ codes "showthe" ∷ codes "uppercase" ∷ codes "lowercase" ∷ codes "aftergroup" ∷
    codes "afterassignment" ∷ codes "immediate" ∷ codes "write" ∷ codes "openout" ∷
    codes "closeout" ∷ codes "openin" ∷ codes "closein" ∷ []

-- the assignments
unfoldable pub assignment_names : List (List ℕ)
assignment_names =
    codes "long" ∷ codes "outer" ∷ codes "global" ∷ codes "def" ∷ codes "gdef" ∷ codes "edef" ∷
    codes "xdef" ∷ codes "let" ∷ codes "futurelet" ∷ codes "advance" ∷ codes "multiply" ∷
    codes "divide" ∷ codes "catcode" ∷ codes "lccode" ∷ codes "uccode" ∷ codes "sfcode" ∷
    codes "mathcode" ∷ codes "delcode" ∷ codes "count" ∷ codes "dimen" ∷ codes "skip" ∷
    codes "muskip" ∷ codes "toks" ∷ codes "chardef" ∷ codes "mathchardef" ∷ codes "countdef" ∷
    codes "dimendef" ∷ codes "skipdef" ∷ codes "muskipdef" ∷ codes "toksdef" ∷ codes "read" ∷ []

-- the expandable primitives
unfoldable pub expandable_names : List (List ℕ)
expandable_names =
    codes "expandafter" ∷ codes "noexpand" ∷ codes "csname" ∷ codes "number" ∷
    codes "romannumeral" ∷ codes "string" ∷ codes "meaning" ∷ codes "jobname" ∷ codes "the" ∷
    codes "input" ∷ codes "endinput" ∷ []

-- the conditionals
unfoldable pub conditional_names : List (List ℕ)
conditional_names =
    codes "if" ∷ codes "ifcat" ∷ codes "ifnum" ∷ codes "ifdim" ∷ codes "ifodd" ∷ codes "ifvmode" ∷
    codes "ifhmode" ∷ codes "ifmmode" ∷ codes "ifinner" ∷ codes "ifvoid" ∷ codes "ifhbox" ∷
    codes "ifvbox" ∷ codes "ifx" ∷ codes "ifeof" ∷ codes "iftrue" ∷ codes "iffalse" ∷
    codes "ifcase" ∷ codes "fi" ∷ codes "else" ∷ codes "or" ∷ []

-- the integer parameters
unfoldable pub integer_names : List (List ℕ)
integer_names =
    codes "pretolerance" ∷ codes "tolerance" ∷ codes "linepenalty" ∷ codes "hyphenpenalty" ∷
    codes "exhyphenpenalty" ∷ codes "clubpenalty" ∷ codes "widowpenalty" ∷
    codes "displaywidowpenalty" ∷ codes "brokenpenalty" ∷ codes "binoppenalty" ∷
    codes "relpenalty" ∷ codes "predisplaypenalty" ∷ codes "postdisplaypenalty" ∷
    codes "interlinepenalty" ∷ codes "doublehyphendemerits" ∷ codes "finalhyphendemerits" ∷
    codes "adjdemerits" ∷ codes "mag" ∷ codes "delimiterfactor" ∷ codes "looseness" ∷ codes "time" ∷
    codes "day" ∷ codes "month" ∷ codes "year" ∷ codes "showboxbreadth" ∷ codes "showboxdepth" ∷
    codes "hbadness" ∷ codes "vbadness" ∷ codes "pausing" ∷ codes "tracingonline" ∷
    codes "tracingmacros" ∷ codes "tracingstats" ∷ codes "tracingparagraphs" ∷
    codes "tracingpages" ∷ codes "tracingoutput" ∷ codes "tracinglostchars" ∷
    codes "tracingcommands" ∷ codes "tracingrestores" ∷ codes "uchyph" ∷ codes "outputpenalty" ∷
    codes "maxdeadcycles" ∷ codes "hangafter" ∷ codes "floatingpenalty" ∷ codes "globaldefs" ∷
    codes "fam" ∷ codes "escapechar" ∷ codes "defaulthyphenchar" ∷ codes "defaultskewchar" ∷
    codes "endlinechar" ∷ codes "newlinechar" ∷ codes "language" ∷ codes "lefthyphenmin" ∷
    codes "righthyphenmin" ∷ codes "holdinginserts" ∷ codes "errorcontextlines" ∷ []

-- the dimension parameters
unfoldable pub dimension_names : List (List ℕ)
dimension_names =
    codes "parindent" ∷ codes "mathsurround" ∷ codes "lineskiplimit" ∷ codes "hsize" ∷
    codes "vsize" ∷ codes "maxdepth" ∷ codes "splitmaxdepth" ∷ codes "boxmaxdepth" ∷ codes "hfuzz" ∷
    codes "vfuzz" ∷ codes "delimitershortfall" ∷ codes "nulldelimiterspace" ∷ codes "scriptspace" ∷
    codes "predisplaysize" ∷ codes "displaywidth" ∷ codes "displayindent" ∷ codes "overfullrule" ∷
    codes "hangindent" ∷ codes "hoffset" ∷ codes "voffset" ∷ codes "emergencystretch" ∷ []

-- the glue parameters, the last three in mu
unfoldable pub glue_names : List (List ℕ)
glue_names =
    codes "lineskip" ∷ codes "baselineskip" ∷ codes "parskip" ∷ codes "abovedisplayskip" ∷
    codes "belowdisplayskip" ∷ codes "abovedisplayshortskip" ∷ codes "belowdisplayshortskip" ∷
    codes "leftskip" ∷ codes "rightskip" ∷ codes "topskip" ∷ codes "splittopskip" ∷
    codes "tabskip" ∷ codes "spaceskip" ∷ codes "xspaceskip" ∷ codes "parfillskip" ∷
    codes "thinmuskip" ∷ codes "medmuskip" ∷ codes "thickmuskip" ∷ []

-- the token parameters
unfoldable pub token_names : List (List ℕ)
token_names =
    codes "everypar" ∷ codes "everymath" ∷ codes "everydisplay" ∷ codes "everyhbox" ∷
    codes "everyvbox" ∷ codes "everyjob" ∷ codes "everycr" ∷ codes "errhelp" ∷ []

-- all names, in the order of their numbers
unfoldable pub primitive_names : List (List ℕ)
primitive_names =
    command_names ++ assignment_names ++ expandable_names ++ conditional_names ++ integer_names ++ dimension_names ++
    glue_names ++ token_names

-- the name of the primitive with this number, from 1
unfoldable pub primitive_name : ℕ → List ℕ
primitive_name j = slice_index_or primitive_names (j - 1) []

-- the row of a class
abbrev pub row_of : Class → List (List ℕ)
row_of Command = command_names
row_of Assignment = assignment_names
row_of Expandable = expandable_names
row_of Conditional = conditional_names
row_of IntegerParameter = integer_names
row_of DimensionParameter = dimension_names
row_of GlueParameter = glue_names
row_of TokenParameter = token_names

-- how many primitives stand in the rows before
abbrev pub numbers_before : Class → ℕ
numbers_before Command = 0
numbers_before Assignment = 22
numbers_before Expandable = 53
numbers_before Conditional = 64
numbers_before IntegerParameter = 84
numbers_before DimensionParameter = 139
numbers_before GlueParameter = 160
numbers_before TokenParameter = 178

-- how many primitives a row has
abbrev pub row_size : Class → ℕ
row_size Command = 22
row_size Assignment = 31
row_size Expandable = 11
row_size Conditional = 20
row_size IntegerParameter = 55
row_size DimensionParameter = 21
row_size GlueParameter = 18
row_size TokenParameter = 8

-- the numbers of its first and its last primitive
abbrev pub first_number : Class → ℕ
first_number class = numbers_before class + 1

abbrev pub last_number : Class → ℕ
last_number class = numbers_before class + row_size class

-- the row in which the primitive of a number stands
unfoldable pub class_of : ℕ → Class
class_of j =
    if nat_le j (last_number Command) then Command
    else if nat_le j (last_number Assignment) then Assignment
    else if nat_le j (last_number Expandable) then Expandable
    else if nat_le j (last_number Conditional) then Conditional
    else if nat_le j (last_number IntegerParameter) then IntegerParameter
    else if nat_le j (last_number DimensionParameter) then DimensionParameter
    else if nat_le j (last_number GlueParameter) then GlueParameter
    else TokenParameter

-- whether it stands in a row
abbrev pub is_in_row : Class → ℕ → Bool
is_in_row class j = nat_le (first_number class) j && nat_le j (last_number class)

-- whether it is expanded: an expandable primitive, or a conditional
abbrev pub is_expanded : ℕ → Bool
is_expanded j = nat_le (first_number Expandable) j && nat_le j (last_number Conditional)

-- its place in the row, from 1
abbrev pub place_of : ℕ → ℕ
place_of j = j - numbers_before (class_of j)

pub record IsPlaced (j : ℕ) : Type 0 where
  pub first : 0 < place_of j
  pub last : place_of j ≤ row_size (class_of j)
  pub counted : numbers_before (class_of j) + place_of j ≡ j
  pub named : slice_get (row_of (class_of j)) (place_of j - 1) ≡ Some (primitive_name j)
