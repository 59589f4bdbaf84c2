-- A token of a list that enters where one is asked for that is copied: the frame is one that builds a list, in its body.
use Rattle.std.proofs.Common.{◌≡◌, Bool, true, false, List, [], ◌∷◌, ◌++◌, Some, refl, sym, ap, subst, ◌∙◌, arith}
use Rattle.std.proofs.lemmas.List.{append-nil, length-append}
use Rattle.std.specs.Prelude.{if◌then◌else◌, None}
use Rattle.tex_defs.specs.declared.Token.{Token}
use Rattle.tex_syntax.specs.declared.words.Manner.{Manner}
use Rattle.tex_syntax.specs.declared.words.Want.TheVariants.{Raw, Expanded, Copied}
use Rattle.list_builder.specs.declared.stage.Stage.TheVariants as stage
use Rattle.rows.specs.declared.command.Call.{Call}
use Rattle.rows.specs.Commands.{command_ask}
use Rattle.rows.specs.Readings.{Ask, More, Verbatim}
use Rattle.plain_readings.specs.Readings.{Reading, ask}
use Rattle.plain_readings.proofs.Entering as readings
use Rattle.reading_frames.specs.Views.{Lists}
use Rattle.reading_frames.specs.Resumes.{resume, name_at, file_at, list_count}
use Rattle.reading_frames.specs.Frames.{IsFrameOf, AreFramesOf, GoesOn, AreShallow}
use Rattle.reading_frames.specs.Stack.{AsksCopied, asks_in, Enters}
use Rattle.reading_frames.specs.declared.command.CommandScan.TheVariants as command
use Rattle.reading_frames.specs.declared.frame.Frame.{Frame}
use Rattle.reading_frames.specs.declared.frame.Frame.TheVariants.{Command, Build, Spelling, FileName}
use Rattle.reading_frames.specs.declared.spelling.SpellPlace.{SpellPlace}
use Rattle.reading_frames.specs.declared.spelling.SpellPlace.TheVariants as spell
use Rattle.reading_frames.specs.declared.file_name.FilePlace.{FilePlace}
use Rattle.reading_frames.specs.declared.file_name.FilePlace.TheVariants as file
use Rattle.reading_frames.specs.declared.text.BuildPlace.{BuildPlace}
use Rattle.reading_frames.specs.declared.text.BuildPlace.TheVariants as place
use Rattle.reading_frames.proofs.Held.{lists_counted}
use Rattle.reading_frames.proofs.Feeding.{fed_on}

-- what a frame does that takes the token: it stays
abbrev Takes : Frame → List Token → Lists → Token → Type 0
Takes f list held t = GoesOn None None f f (list ∷ held) ((list ++ t ∷ []) ∷ held) (Verbatim t)

module _ (list : List Token) (held : Lists) (t : Token) where
  number_raw : (expanded : Bool) → More (if expanded then Expanded else Raw) ≡ More Copied → ⊥
  number_raw true e = cc
  number_raw false e = cc

  build_takes : (defines : Bool) (m : Manner) (p : BuildPlace) → let f : Frame = Build (record { defines = defines; manner = m; place = p }) in resume f (list ∷ held) [] ≡ More Copied → Takes f list held t
  build_takes defines m (place.At (stage.InBody b depth)) e = record { asks = λ fed. refl; lists_are = λ fed. refl; holds = λ h. omega (arith, h); beneath = refl; checks = refl; framed = λ k fed h. h; apart = λ h. h }
  build_takes defines m (place.At (stage.Reference b depth character)) e = absurd (number_raw m.expanded e)
  build_takes defines m (place.At s) e = absurd cc
  build_takes defines m place.Whole e = absurd cc

  name_uncopied : (c : Call) (p : SpellPlace) → command_ask (name_at c p list []) ≡ More Copied → ⊥
  name_uncopied c spell.Inside e = cc
  name_uncopied c spell.NoEnd e = cc
  name_uncopied c spell.Whole e = cc
  name_uncopied c spell.Stopped e = cc

  file_uncopied : (c : Call) (p : FilePlace) → command_ask (file_at c p list []) ≡ More Copied → ⊥
  file_uncopied c file.Before e = cc
  file_uncopied c file.Inside e = cc
  file_uncopied c (file.Whole back) e = cc
  file_uncopied c file.Stopped e = cc

  takes : (f : Frame) → list_count f ≡ 1 → resume f (list ∷ held) [] ≡ More Copied → Takes f list held t
  takes (Build scan) n e = build_takes scan.defines scan.manner scan.place e
  takes (Spelling scan) n e = absurd (name_uncopied scan.call scan.place e)
  takes (FileName scan) n e = absurd (file_uncopied scan.call scan.place e)
  takes (Command (command.ActsOn c effect listed) head) n e = absurd cc
  takes (Command (command.Defines c name listed) head) n e = absurd cc
  takes (Command scan head) n e = absurd (omega (arith, n))
  takes f n e = absurd (omega (arith, n))

-- the reading asks for a token that is copied too
reading_asks : (f : Frame) (held : Lists) (r : Reading) → IsFrameOf None f held r → resume f held [] ≡ More Copied → ask r.kind r.fed ≡ More Copied
reading_asks f held r stands e = ap (ask r.kind) (sym (append-nil r.fed)) ∙ stands.goes_on [] ∙ e

enters_above : (f : Frame) (fs : List Frame) (held : Lists) (r : Reading) (rs : List Reading) (t : Token) → list_count f ≡ 1 → AreFramesOf None (f ∷ fs) held (r ∷ rs) → resume f held [] ≡ More Copied →
    Enters (f ∷ fs) held (r ∷ rs) t
enters_above f fs [] r rs t n stands e = absurd (omega (arith, n, stands.0.holds))
enters_above f fs (list ∷ held) r rs t n stands e =
    let on : Takes f list held t = takes list held t f n e in
    record {
      stands = fed_on None None f f fs (list ∷ held) ((list ++ t ∷ []) ∷ held) (Verbatim t) (r ∷ rs) on stands;
      copies =
          ap (λ (a : Ask). Some a)
          (sym (on.asks []) ∙ sym (stands.0.goes_on (Verbatim t ∷ [])) ∙ (readings.enters r.kind r.fed t (reading_asks f (list ∷ held) r stands.0 e)).copies);
      beneath = on.beneath;
      shallow = λ s. (omega (arith, s.0, length-append list (t ∷ [])), subst (λ (l : Lists). AreShallow fs l) (sym on.beneath) s.1);
    }

pub enters : (fs : List Frame) (held : Lists) (work : List Reading) (t : Token) → AreFramesOf None fs held work → AsksCopied (asks_in fs held) → Enters fs held work t
enters [] held work t stands e = absurd cc
enters (f ∷ fs) held [] t stands e = absurd stands
enters (f ∷ fs) held (r ∷ rs) t stands e =
    let asks : resume f held [] ≡ More Copied = cc in
    enters_above f fs held r rs t (sym (lists_counted f held r stands.0) ∙ (readings.enters r.kind r.fed t (reading_asks f held r stands.0 asks)).listed) stands asks
