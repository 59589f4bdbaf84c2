-- A call stands as it did.
use Rattle.std.proofs.Common.{◌≡◌, ℕ, List, [], ◌∷◌, refl, sym, ap, subst, ◌∙◌, Bool, true}
use Rattle.std.specs.Prelude.{Option, Some, None}
use Rattle.std.proofs.lemmas.Bool.{eq-eqb, or_left}
use Rattle.tex_defs.specs.declared.Sizes.{Sizes}
use Rattle.tex_defs.specs.declared.Token.{Token}
use Rattle.tex_defs.specs.declared.Name.{Name}
use Rattle.tex_defs.specs.declared.Meaning.{Meaning}
use Rattle.tex_defs.specs.declared.Meaning.TheVariants as means
use Rattle.plain_tokens.specs.Meanings.{name_meaning, is_listed}
use Rattle.plain_tokens.specs.Pending.{all_puts}
use Rattle.plain_readings.specs.Readings.{Kind, Reading}
use Rattle.plain_tokens.specs.Tables.{is_put}
use Rattle.equivalents.specs.Groups.{Groups}
use Rattle.equivalents.specs.Holding.{list_of, lists_held}
use Rattle.plain_machine.proofs.Holders.{is_number}
use Rattle.plain_machine.proofs.Ties.{named_meant, name_held}
use Rattle.input_state.specs.Callings.{Calling, call_in}
use Rattle.input_state.specs.Macros.{list_at, is_shared}
use Rattle.input_state.specs.Stored.{Stored}
use Rattle.reading_frames.specs.declared.frame.Frame.{Frame}
use Rattle.reading_frames.specs.Stack.{Stack}
use Rattle.reading_frames.specs.Frames as frames
use Rattle.reading_frames.specs.Frames.{OpenCall, AreShallow}
use Rattle.input_state.specs.declared.answer.Call.{Call}
use Rattle.engine_state.specs.declared.engine.Engine.{Engine}
use Rattle.engine_state.specs.Book.{Book}
use Rattle.engine_state.specs.Calls.{AllStand, FramesOf, IsAsFar, IsMacroOf, MacroStands, open_call_of}
use Rattle.engine_state.specs.Stands.{IsSound, OpenFrames, FramesStand, SameReadings, SameFrames, SameStore}

-- THE FRAMES

-- they stand for the same readings
pub open_still : (c : Option OpenCall) (e e' : Engine) (work : List Reading) → e'.readings ≡ e.readings → e'.input.builds ≡ e.input.builds → OpenFrames c e work → OpenFrames c e' work
open_still c e e' work readings lists h =
    let items : e'.readings.frames ≡ e.readings.frames = ap (λ (s : Stack). s.frames) readings in
    record {
      frames = subst (λ (l : List (List Token)). frames.AreFramesOf c e'.readings.frames l work) (sym lists) (subst (λ (fs : List Frame). frames.AreFramesOf c fs e.input.builds work) (sym items) h.frames);
      shallow = subst (λ (l : List (List Token)). AreShallow e'.readings.frames l) (sym lists) (subst (λ (fs : List Frame). AreShallow fs e.input.builds) (sym items) h.shallow);
    }

pub readings_still : (e e' : Engine) (work : List Reading) → SameReadings e e' → FramesStand e work → FramesStand e' work
readings_still e e' work same h = open_still None e e' work same.readings same.lists h

-- a call among them, too
pub frames_still : (e e' : Engine) (work : List Reading) → SameFrames e e' → FramesOf e work → FramesOf e' work
frames_still e e' work same h = record {
  text = h.text;
  frames = subst (λ (k : Calling). OpenFrames (open_call_of h.text k) e' work) (sym same.call) (open_still (open_call_of h.text e.input.call) e e' work same.readings same.lists h.frames);
  far = subst (IsAsFar h.text) (sym same.call) h.far;
}

pub frames_kept : (e e' : Engine) (work : List Reading) → SameFrames e e' → FramesStand e work → FramesStand e' work
frames_kept e e' work same h = readings_still e e' work (record { readings = same.readings; lists = same.lists; call = ap call_in same.call }) h

-- A NAME THAT MEANS A MACRO

pub meant_by : (g : Groups) (n : Name) (long outer : Bool) (id : ℕ) → name_meaning g.now.meanings n ≡ means.Macro long outer (Some id) → is_listed (lists_held g) id ≡ true
meant_by g n long outer id is = name_held id g (named_meant id g.now.meanings n (ap (λ (m : Meaning (Option ℕ)). is_number id (list_of m)) is ∙ eq-eqb id id refl))

-- its list stays
pub list_still : (i j : Stored) (n : Name) (long outer : Bool) (id : ℕ) → SameStore i j → name_meaning i.groups.now.meanings n ≡ means.Macro long outer (Some id) → list_at j.lists id ≡ list_at i.lists id
list_still i j n long outer id store is = store.lists.tokens id held where
  held : is_shared id (lists_held j.groups) (all_puts j.pending) ≡ true
  held = or_left (is_listed (lists_held j.groups) id) (is_put id (all_puts j.pending)) (ap (λ (g : Groups). is_listed (lists_held g) id) store.groups ∙ meant_by i.groups n long outer id is)

-- THE CALL

-- it is that of the same macro
pub macro_kept : (e e' : Engine) (number : ℕ → ℕ) (text : List Token) (name : Name) (k : Kind) → SameStore e.input e'.input → IsMacroOf e number text name k → IsMacroOf e' number text name k
macro_kept e e' number text name k store m = record {
  long = m.long;
  outer = m.outer;
  id = m.id;
  meaning = ap (λ (g : Groups). name_meaning g.now.meanings name) store.groups ∙ m.meaning;
  list = m.list ∙ sym (list_still e.input e'.input name m.long m.outer m.id store m.meaning);
  kind = m.kind;
  places = m.places;
}

macro_still : (e e' : Engine) (number : ℕ → ℕ) (text : List Token) (c : Option Call) (work : List Reading) → SameStore e.input e'.input → MacroStands c e number text work → MacroStands c e' number text work
macro_still e e' number text None work store m = tt
macro_still e e' number text (Some c) [] store m = m
macro_still e e' number text (Some c) (r ∷ rs) store m = macro_kept e e' number text c.name r.kind store m

pub all_still : (sizes : Sizes) (e e' : Engine) (book : Book) → SameFrames e e' → SameStore e.input e'.input → IsSound sizes e' book.number book.all_lists → e'.input.making ≡ None → AllStand sizes e book → AllStand sizes e' book
unfolding frames_still
all_still sizes e e' book same store sound idle st = record {
  sound = sound;
  idle = idle;
  all = record {
    readings = frames_still e e' book.work same st.all.readings;
    macro = subst (λ (k : Calling). MacroStands (call_in k) e' book.number st.all.readings.text book.work) (sym same.call) (macro_still e e' book.number st.all.readings.text (call_in e.input.call) book.work store st.all.macro);
  };
}
