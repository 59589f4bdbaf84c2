-- What a command has read, as a list.
use Rattle.std.specs.Prelude.{List, [], ◌∷◌}
use Rattle.rows.specs.declared.words.Datum.{Datum}
use Rattle.row_frames.specs.declared.data.Data.{Data}
use Rattle.row_frames.specs.declared.data.Data.TheVariants.{Zero, One, Two, Three, Four}

abbrev pub values : Data → List Datum
values Zero = []
values (One a) = a ∷ []
values (Two a b) = a ∷ b ∷ []
values (Three a b c) = a ∷ b ∷ c ∷ []
values (Four a b c d) = a ∷ b ∷ c ∷ d ∷ []
