-- Where no call gathers its arguments.
use Rattle.std.proofs.Common.{◌≡◌, ℕ, List, [], refl, sym, subst}
use Rattle.std.specs.Prelude.{Some, None}
use Rattle.std.proofs.lemmas.Option.{none-some}
use Rattle.tex_defs.specs.declared.Sizes.{Sizes}
use Rattle.plain_readings.specs.Readings.{Reading}
use Rattle.input_state.specs.declared.answer.Call.{Call}
use Rattle.macro_call.specs.declared.ask.CallAsk.TheVariants as asks
use Rattle.input_state.specs.Callings.{Calling, NotCalling, Gathering, Stopped, Gathered, scan_asks, ended_asks, call_in}
use Rattle.engine_state.specs.declared.engine.Engine.{Engine}
use Rattle.engine_state.specs.Book.{Book}
use Rattle.engine_state.specs.Calls.{AllStand, FramesOf, IsAsFar, MacroStands, ReadingsStand, open_call_of}
use Rattle.engine_state.specs.Stands.{Stands, OpenFrames, FramesStand}

-- the frames alone stand for the readings
pub frames_none : (e : Engine) (work : List Reading) → e.input.call ≡ NotCalling → FramesStand e work → FramesOf e work
frames_none e work none h = record {
  text = [];
  frames = subst (λ (k : Calling). OpenFrames (open_call_of [] k) e work) (sym none) h;
  far = subst (IsAsFar []) (sym none) tt;
}

pub uncalled_stand : (e : Engine) (number : ℕ → ℕ) (work : List Reading) → e.input.call ≡ NotCalling → FramesStand e work → ReadingsStand e number work
unfolding frames_none
uncalled_stand e number work none h = record { readings = frames_none e work none h; macro = subst (λ (k : Calling). MacroStands (call_in k) e number [] work) (sym none) tt }

pub all_of : (sizes : Sizes) (e : Engine) (book : Book) → Stands sizes e book → AllStand sizes e book
all_of sizes e book st = record { sound = st.sound; idle = st.idle; all = uncalled_stand e book.number book.work st.uncalled st.readings }

-- a call that isn't there
pub no_call : (k : Calling) → call_in k ≡ None → k ≡ NotCalling
no_call NotCalling is = refl
no_call (Gathering name scan) is = absurd (none-some (record { name = name; ask = scan_asks scan }) (sym is))
no_call (Stopped name why scan) is = absurd (none-some (record { name = name; ask = ended_asks why }) (sym is))
no_call (Gathered name args) is = absurd (none-some (record { name = name; ask = asks.Gathered }) (sym is))

-- and one that is there
pub some_call : (k : Calling) → (k ≡ NotCalling → ⊥) → (c : Call) × (call_in k ≡ Some c)
some_call NotCalling some = absurd (some refl)
some_call (Gathering name scan) some = (record { name = name; ask = scan_asks scan }, refl)
some_call (Stopped name why scan) some = (record { name = name; ask = ended_asks why }, refl)
some_call (Gathered name args) some = (record { name = name; ask = asks.Gathered }, refl)

pub framed : (sizes : Sizes) (e : Engine) (book : Book) → e.input.call ≡ NotCalling → AllStand sizes e book → Stands sizes e book
framed sizes e book none st =
    record { sound = st.sound; idle = st.idle; readings = subst (λ (k : Calling). OpenFrames (open_call_of st.all.readings.text k) e book.work) none st.all.readings.frames; uncalled = none }

pub frames_all : (sizes : Sizes) (e : Engine) (book : Book) → AllStand sizes e book → FramesOf e book.work
frames_all sizes e book st = st.all.readings
