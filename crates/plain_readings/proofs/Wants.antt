-- The readings of lists alone ask for a token of an expanded text; no other asks for one that is copied.
use Rattle.tex_syntax.specs.declared.words.Want.{Want}
use Rattle.tex_syntax.specs.declared.words.Want.TheVariants.{Copied}
use Rattle.rows.specs.Readings.{Ask, More}

abbrev pub IsUncopied : Want → Type 0
IsUncopied Copied = ⊥
IsUncopied want = Unit {0}

abbrev pub AsksUncopied : Ask → Type 0
AsksUncopied (More want) = IsUncopied want
AsksUncopied a = Unit {0}
