-- Text that a conditional skips, up to a `\fi`, an `\else` or an `\or` with as many conditionals as `\fi`s before it. The TeXbook, chapter 20;
-- TeX: The Program, part 28 (`pass_text`).
use Rattle.std.specs.Prelude.{ℕ, List, [], ◌∷◌, Option, Some, None}
use Rattle.tex_syntax.specs.declared.words.Want.TheVariants.{Unentered}
use Rattle.conditionals.specs.declared.choice.Aim.{Aim}
use Rattle.conditionals.specs.declared.skip.Ender.{Ender}
use Rattle.conditionals.specs.Skipping.{part, ends_at, open_behind}
use Rattle.rows.specs.declared.command.Call.{Call}
use Rattle.rows.specs.declared.command.Effect.TheVariants.{Reach}
use Rattle.rows.specs.Readings.{Fed, Tok}
use Rattle.rows.specs.Commands.{CommandAsk, More, Acts, Ends}

-- the text ends with this, if with anything, and else goes on
abbrev pub ended : Call → Aim → Option Ender → (onward : CommandAsk) → CommandAsk
ended c aim (Some e) onward = Acts c (Reach aim e)
ended c aim None onward = onward

-- where so many conditionals of the text are open
abbrev pub skipping : Call → Aim → (depth : ℕ) → List Fed → CommandAsk
skipping c aim depth [] = More Unentered
skipping c aim depth (Tok x ∷ fed) = ended c aim (ends_at depth (part x.meaning)) (skipping c aim (open_behind depth (part x.meaning)) fed)
skipping c aim depth (y ∷ fed) = Ends
