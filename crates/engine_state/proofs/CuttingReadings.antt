-- Moves that are cut off, where the open readings are known.
use Rattle.std.proofs.Common.{◌≡◌, List, ◌++◌, refl, sym, subst, ◌∙◌}
use Rattle.std.specs.Prelude.{Bool, None}
use Rattle.tex_defs.specs.declared.Sizes.{Sizes}
use Rattle.tex_defs.specs.Places.{World}
use Rattle.plain_readings.specs.Readings.{Reading}
use Rattle.plain_machine.specs.declared.broken.Broken.{Broken}
use Rattle.plain_machine.specs.States.{State, Move}
use Rattle.plain_machine.specs.Does.{Did}
use Rattle.world_io.specs.Contents.{FilesTold, SinkTold, world}
use Rattle.input_state.specs.Callings.{Calling, NotCalling}
use Rattle.reading_frames.specs.Stack.{Stack}
use Rattle.reading_frames.specs.Frames as frames
use Rattle.engine_state.specs.declared.engine.Engine.{Engine}
use Rattle.engine_state.specs.Book.{Book}
use Rattle.engine_state.specs.Calls.{AllStand, FramesOf, open_call_of}
use Rattle.engine_state.specs.CutReadings.{AsFed, CallAtCut, FramesAtCut, CutsIn}
use Rattle.engine_state.specs.Rules.{world_of, Cuts}
use Rattle.engine_state.specs.Stands.{Stands, FramesStand, SameFrames, state_of}
use Rattle.engine_state.proofs.Uncalled.{all_of, frames_none}
use Rattle.engine_state.proofs.Cutting.{first_cuts, later_cuts}

-- THE OPEN READINGS

frames_near : (b : Broken) (e : Engine) (work : List Reading) → FramesOf e work → FramesAtCut b e work
frames_near b e work h = record {
  lists = e.input.builds;
  front = None;
  grown = refl;
  leads = tt;
  call = open_call_of h.text e.input.call;
  at = AsFed (record { text = h.text; call = refl; far = h.far });
  stand = h.frames.frames;
}

pub near_all : (sizes : Sizes) (b : Broken) (e : Engine) (book : Book) → AllStand sizes e book → FramesAtCut b e book.work
near_all sizes b e book st = frames_near b e book.work st.all.readings

-- where no call gathers its arguments
pub near_none : (b : Broken) (e : Engine) (work : List Reading) → e.input.call ≡ NotCalling → FramesStand e work → FramesAtCut b e work
near_none b e work none h = frames_near b e work (frames_none e work none h)

-- they are as they were
pub near_still : (b : Broken) (e e' : Engine) (work : List Reading) → SameFrames e e' → FramesAtCut b e work → FramesAtCut b e' work
near_still b e e' work same h = record {
  lists = h.lists;
  front = h.front;
  grown = same.lists ∙ h.grown;
  leads = h.leads;
  call = h.call;
  at = subst (λ (k : Calling). CallAtCut b k h.call work) (sym same.call) h.at;
  stand = subst (λ (r : Stack). frames.AreFramesOf h.call r.frames h.lists work) (sym same.readings) h.stand;
}

-- CUT OFF

pub cuts_in : (sizes : Sizes) (e e' : Engine) (book : Book) (w w' : World) (moves : List Move) (b : Broken) → Cuts sizes (state_of e book) e' book w w' moves b → SameFrames e e' → AllStand sizes e book → CutsIn sizes (state_of e book) e' w w' moves b
cuts_in sizes e e' book w w' moves b cuts same st = record { book' = book; cuts = cuts; near = near_still b e e' book.work same (near_all sizes b e book st) }

-- where no call gathers its arguments
pub stands_in : (sizes : Sizes) (e e' : Engine) (book : Book) (w w' : World) (moves : List Move) (b : Broken) → Cuts sizes (state_of e book) e' book w w' moves b → SameFrames e e' → Stands sizes e book → CutsIn sizes (state_of e book) e' w w' moves b
stands_in sizes e e' book w w' moves b cuts same st = cuts_in sizes e e' book w w' moves b cuts same (all_of sizes e book st)

-- the same moves
pub in_by : (sizes : Sizes) (s : State) (e' : Engine) (w w' : World) (ms ns : List Move) (b : Broken) → ns ≡ ms → CutsIn sizes s e' w w' ms b → CutsIn sizes s e' w w' ns b
in_by sizes s e' w w' ms ns b e h = subst (λ (x : List Move). CutsIn sizes s e' w w' x b) (sym e) h

-- cut off already in the first of two
pub first_in : (sizes : Sizes) (s : State) (e' : Engine) (w w' : World) (ms ns : List Move) (b : Broken) → CutsIn sizes s e' w w' ms b → CutsIn sizes s e' w w' (ms ++ ns) b
first_in sizes s e' w w' ms ns b h = record { book' = h.book'; cuts = first_cuts sizes s e' h.book' w w' ms ns b h.cuts; near = h.near }

-- cut off behind moves that were done
pub later_in : (sizes : Sizes) (s s1 : State) (e' : Engine) (w w1 w' : World) (ms ns : List Move) (b : Broken) → Did sizes s s1 w w1 ms → CutsIn sizes s1 e' w1 w' ns b → CutsIn sizes s e' w w' (ms ++ ns) b
later_in sizes s s1 e' w w1 w' ms ns b d h = record { book' = h.book'; cuts = later_cuts sizes s s1 e' h.book' w w1 w' ms ns b d h.cuts; near = h.near }

-- the world that is told when the column stays
pub column_in : (sizes : Sizes) (st : State) (e' : Engine) (f : FilesTold) (s : SinkTold) (c : Bool) (ms : List Move) (b : Broken) → e'.in_line ≡ c → CutsIn sizes st e' (world f s c) (world f s c) ms b → CutsIn sizes st e' (world f s c) (world_of f s e') ms b
column_in sizes st e' f s c ms b is h = subst (λ (x : Bool). CutsIn sizes st e' (world f s c) (world f s x) ms b) (sym is) h
