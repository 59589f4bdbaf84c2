-- The engine's tables count as the machine's.
use Rattle.std.proofs.Common.{◌≡◌, ◌+◌, ◌<◌, List, [], ◌∷◌, length, refl, arith}
use Rattle.std.specs.Prelude.{Option, None, true, nat_le}
use Rattle.std.proofs.lemmas.Bool.Decides.{nat_tests}
use Rattle.tex_defs.specs.declared.Sizes.{Sizes}
use Rattle.tex_defs.specs.declared.Full.{Full}
use Rattle.plain_readings.specs.Readings.{Kind, Reading, lists}
use Rattle.plain_tokens.specs.Tables.{memory, lists_words, refused}
use Rattle.reading_frames.specs.declared.frame.Frame.{Frame}
use Rattle.reading_frames.specs.Views.{Lists}
use Rattle.reading_frames.specs.Frames as frames
use Rattle.reading_frames.specs.Frames.{OpenCall}
use Rattle.plain_machine.specs.States.{Begun}
use Rattle.plain_machine.specs.Demands.{refusal}
use Rattle.input_state.specs.Stored.{words as stored_words}
use Rattle.engine_state.specs.declared.engine.Engine.{Engine}
use Rattle.engine_state.specs.Book.{Book}
use Rattle.engine_state.specs.Calls.{AllStand, open_call_of}
use Rattle.engine_state.specs.Stands.{Stands, Counts, state_of, depth}
use Rattle.engine_state.proofs.Uncalled.{all_of}
use Rattle.engine_state.proofs.Storing.{words_more}

pub frames_depth : (c : Option OpenCall) (fs : List Frame) (held : Lists) (work : List Reading) → frames.AreFramesOf c fs held work → length work ≡ length fs
frames_depth c [] held [] h = refl
frames_depth c [] held (r ∷ rs) h = absurd h
frames_depth c (f ∷ fs) held [] h = absurd h
frames_depth c (f ∷ fs) held (r ∷ rs) h = omega (arith, frames_depth None fs (frames.lists_below c f held) rs h.1)

-- a call is one of them
pub call_counts : (sizes : Sizes) (e : Engine) (book : Book) → AllStand sizes e book → Counts sizes e book
call_counts sizes e book st = record { sound = st.sound; depth = frames_depth (open_call_of st.all.readings.text e.input.call) e.readings.frames e.input.builds book.work st.all.readings.frames.frames }

pub counts_of : (sizes : Sizes) (e : Engine) (book : Book) → Stands sizes e book → Counts sizes e book
counts_of sizes e book st = call_counts sizes e book (all_of sizes e book st)

-- one reading more, by the machine and by the engine
module _ (sizes : Sizes) (e : Engine) (book : Book) (k : Kind) (o : Option Full) (counts : Counts sizes e book) (room : depth e < e.readings.size) where
  within : nat_le (length book.work + 1) sizes.expansion_depth ≡ true
  within = grind (arith, nat_tests, counts.depth, counts.sound.sized.readings, room)

  pub begun_refusal : refused e.input.sizes (memory (lists_words (lists k [])) (stored_words e.input) ∷ []) ≡ o → refusal sizes (Begun k) (state_of e book) ≡ o
  begun_refusal h = rw within (words_more sizes e book (lists_words (lists k [])) o counts.sound h)
