-- The lists that a frame has built, which are held.
use Rattle.std.proofs.Common.{◌≡◌, ◌≤◌, ℕ, Bool, true, false, List, [], ◌∷◌, length, take, drop, arith, refl, sym, ap, ◌∙◌, None}
use Rattle.std.proofs.lemmas.List.{append-nil}
use Rattle.tex_defs.specs.declared.Token.{Token}
use Rattle.tex_syntax.specs.declared.words.Manner.{Manner}
use Rattle.list_builder.specs.declared.stage.Stage.{Stage}
use Rattle.list_builder.specs.declared.stage.Stage.TheVariants as stage
use Rattle.list_builder.specs.Stages as stages
use Rattle.rows.specs.declared.stage.Note.{Note}
use Rattle.rows.specs.declared.stage.Note.TheVariants as note
use Rattle.rows.specs.Commands.{CommandAsk, command_ask}
use Rattle.rows.specs.Run.{due}
use Rattle.row_frames.specs.declared.frame.RowFrame.{RowFrame}
use Rattle.row_frames.specs.Resumes as row
use Rattle.plain_readings.specs.Lists.{built}
use Rattle.plain_readings.specs.Readings.{Reading, lists, kept_list}
use Rattle.reading_frames.specs.Views.{Lists, top_list}
use Rattle.reading_frames.specs.Resumes.{building, build_at, name_list_at, file_list_at, list_count, listed_count, listed_lists}
use Rattle.reading_frames.specs.Frames.{IsFrameOf, AreHeld}
use Rattle.reading_frames.specs.declared.command.CommandScan.TheVariants as command
use Rattle.reading_frames.specs.declared.frame.Frame.{Frame}
use Rattle.reading_frames.specs.declared.frame.Frame.TheVariants.{Command, Integer, Factor, Dimension, Glue, Keyword, Build, Spelling, FileName, Behind, Skips, Call as Called}
use Rattle.reading_frames.specs.declared.spelling.SpellPlace.{SpellPlace}
use Rattle.reading_frames.specs.declared.spelling.SpellPlace.TheVariants as spell
use Rattle.reading_frames.specs.declared.file_name.FilePlace.{FilePlace}
use Rattle.reading_frames.specs.declared.file_name.FilePlace.TheVariants as file
use Rattle.reading_frames.specs.declared.text.BuildPlace.{BuildPlace}
use Rattle.reading_frames.specs.declared.text.BuildPlace.TheVariants as place
use Rattle.reading_frames.proofs.Asking.{frame_asks}

-- A ROW THAT GOES ON asks for nothing with a list.

due_bare : (n : Note) → kept_list (command_ask (due n)) ≡ []
due_bare (note.Tells report back) = refl
due_bare (note.Inserts t report back) = refl
due_bare (note.Relaxes c n) = refl

frame_bare : (f : RowFrame) → kept_list (command_ask (row.resume f [])) ≡ []
frame_bare f = frame_asks (λ (a : CommandAsk). kept_list (command_ask a) ≡ []) (λ want. refl) (λ k begins. refl) (λ c e. refl) due_bare f

-- HOW MANY THEY ARE

listed_length : (b : Bool) (held : Lists) → length (listed_lists b held) ≡ listed_count b
listed_length true held = refl
listed_length false held = refl

built_length : (f : Frame) (held : Lists) → length (building f held []) ≡ list_count f
built_length (Command (command.Reads f) p) held = ap (λ (l : Lists). length l) (frame_bare f)
built_length (Command (command.Acts c e) p) held = refl
built_length (Command (command.ActsOn c e b) p) held = listed_length b held
built_length (Command (command.Defines c n b) p) held = listed_length b held
built_length (Command command.Ended p) held = refl
built_length (Integer scan) held = refl
built_length (Factor scan) held = refl
built_length (Dimension scan) held = refl
built_length (Glue scan) held = refl
built_length (Keyword scan) held = refl
built_length (Build scan) held = refl
built_length (Spelling scan) held = refl
built_length (FileName scan) held = refl
built_length (Behind c x) held = refl
built_length (Skips scan) held = refl
built_length (Called name) held = refl

-- WHAT THEY ARE

list_at : (m : Manner) (s : Stage) (list : List Token) → built (stages.resume m s list []) ≡ list
list_at m stage.First list = refl
list_at m stage.FirstMissing list = refl
list_at m (stage.Parameters count) list = refl
list_at m (stage.Place count character) list = refl
list_at m (stage.Misnumbered count character) list = refl
list_at m (stage.Tenth count) list = refl
list_at m stage.BodyMissing list = refl
list_at m (stage.InBody b depth) list = refl
list_at m (stage.Reference b depth character) list = refl
list_at m (stage.Illegal b depth character) list = refl

build_now : (m : Manner) (p : BuildPlace) (list : List Token) → built (build_at m p list []) ≡ list
build_now m (place.At s) list = list_at m s list
build_now m place.Whole list = refl

name_now : (p : SpellPlace) (list : List Token) → name_list_at p list [] ≡ list
name_now spell.Inside list = append-nil list
name_now p list = refl

file_now : (p : FilePlace) (list : List Token) → file_list_at p list [] ≡ list
file_now file.Before list = append-nil list
file_now file.Inside list = append-nil list
file_now p list = refl

top_taken : (held : Lists) → 1 ≤ length held → top_list held ∷ [] ≡ take 1 held
top_taken [] h = absurd (omega (arith, h))
top_taken (list ∷ held) h = refl

pub listed_now : (b : Bool) (held : Lists) → listed_count b ≤ length held → listed_lists b held ≡ take (listed_count b) held
listed_now true held h = top_taken held h
listed_now false held h = refl

pub built_now : (f : Frame) (held : Lists) → list_count f ≤ length held → building f held [] ≡ take (list_count f) held
built_now (Command (command.Reads f) p) held h = frame_bare f
built_now (Command (command.Acts c e) p) held h = refl
built_now (Command (command.ActsOn c e b) p) held h = listed_now b held h
built_now (Command (command.Defines c n b) p) held h = listed_now b held h
built_now (Command command.Ended p) held h = refl
built_now (Integer scan) held h = refl
built_now (Factor scan) held h = refl
built_now (Dimension scan) held h = refl
built_now (Glue scan) held h = refl
built_now (Keyword scan) held h = refl
built_now (Build scan) held h = ap (λ (l : List Token). l ∷ []) (build_now scan.manner scan.place (top_list held)) ∙ top_taken held h
built_now (Spelling scan) held h = ap (λ (l : List Token). l ∷ []) (name_now scan.place (top_list held)) ∙ top_taken held h
built_now (FileName scan) held h = ap (λ (l : List Token). l ∷ []) (file_now scan.place (top_list held)) ∙ top_taken held h
built_now (Behind c x) held h = refl
built_now (Skips scan) held h = refl
built_now (Called name) held h = refl

lists_built : (f : Frame) (held : Lists) (r : Reading) → IsFrameOf None f held r → lists r.kind r.fed ≡ building f held []
lists_built f held r stands = ap (lists r.kind) (sym (append-nil r.fed)) ∙ stands.builds_on []

pub lists_counted : (f : Frame) (held : Lists) (r : Reading) → IsFrameOf None f held r → length (lists r.kind r.fed) ≡ list_count f
lists_counted f held r stands = ap (λ (l : Lists). length l) (lists_built f held r stands) ∙ built_length f held

pub are_held : (f : Frame) (held : Lists) (r : Reading) → IsFrameOf None f held r → AreHeld f held r
are_held f held r stands = record {
  first =
      lists_built f held r stands ∙ built_now f held stands.holds ∙ ap (λ (n : ℕ). take n held) (sym (lists_counted f held r stands));
  beneath = ap (λ (n : ℕ). drop n held) (sym (lists_counted f held r stands));
}
