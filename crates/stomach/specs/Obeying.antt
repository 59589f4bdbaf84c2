-- What the stomach and the readings make of a token that isn't expanded.
use Rattle.std.specs.Prelude.{◌≡◌, ◌≤◌, ◌+◌, Bool, false, ◌||◌}
use Rattle.tex_syntax.specs.declared.words.Want.{Want}
use Rattle.tex_syntax.specs.declared.words.Want.TheVariants.{Nonblank, Command}
use Rattle.tex_defs.specs.declared.Seen.{Seen}
use Rattle.plain_tokens.specs.Names.{means_relax}
use Rattle.plain_tokens.specs.Tokens.{is_space}
use Rattle.plain_readings.specs.Weights.{act_frame}
use Rattle.reading_frames.specs.Weights.{frames_weight, innermost_weight}
use Rattle.engine_state.specs.declared.engine.Engine.{Engine}

-- a reading that wants a token so drops a space, or also `\relax`
abbrev pub is_dropped : Want → Seen → Bool
is_dropped Nonblank x = is_space x
is_dropped Command x = is_space x || means_relax x.meaning
is_dropped want x = false

-- Behind a token that was obeyed: the reading of a command has begun, or the frames are as they were.
pub data Obeys (e e' : Engine) : Type 0 where
  HasBegun : frames_weight e'.readings.frames ≤ frames_weight e.readings.frames + act_frame → innermost_weight e'.readings.frames ≤ 11 → Obeys e e'
  HasNotBegun : e'.readings.frames ≡ e.readings.frames → Obeys e e'
