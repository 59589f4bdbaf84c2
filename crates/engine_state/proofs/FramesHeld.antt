-- The lists of the innermost reading and those beneath are all that are gathered.
use Rattle.std.proofs.Common.{◌≡◌, ℕ, Bool, List, [], ◌∷◌, ◌++◌, length, take, arith, refl, sym, ap, ◌∙◌, subst, None}
use Rattle.tex_defs.specs.declared.Sizes.{Sizes}
use Rattle.tex_defs.specs.declared.Token.{Token}
use Rattle.plain_readings.specs.Readings.{Reading, lists}
use Rattle.plain_machine.specs.States.{lists_of_top, beneath}
use Rattle.reading_frames.specs.Resumes.{below, listed_count, listed_lists}
use Rattle.reading_frames.specs.Stack.{Stack, innermost_count, lists_beneath}
use Rattle.reading_frames.specs.Frames as frames
use Rattle.reading_frames.specs.Frames.{AreShallow}
use Rattle.reading_frames.specs.declared.frame.Frame.{Frame}
use Rattle.reading_frames.proofs.Held.{are_held, lists_counted, listed_now}
use Rattle.reading_frames.proofs.Whole.{taken_and_left}
use Rattle.input_state.specs.Callings.{Calling, NotCalling, call_lists}
use Rattle.input_state.specs.Stored.{Stored, KeepsShared, gathered}
use Rattle.engine_state.specs.declared.engine.Engine.{Engine}
use Rattle.engine_state.specs.Book.{Book, with_work}
use Rattle.engine_state.specs.Stands.{Stands, SameBut, state_of}
use Rattle.engine_state.proofs.Storing.{sound_still, store_gathered}

pub held_top : (fs : List Frame) (held : List (List Token)) (work : List Reading) → frames.AreFramesOf None fs held work → lists_of_top work ++ lists_beneath fs held ≡ held
held_top [] held [] stands = refl
held_top [] held (r ∷ rs) stands = absurd stands
held_top (f ∷ fs) held [] stands = absurd stands
held_top (f ∷ fs) held (r ∷ rs) stands =
    let h = are_held f held r stands.0 in
    let n = length (lists r.kind r.fed) in
    ap (λ (l : List (List Token)). l ++ below f held) h.first ∙ (ap (λ (l : List (List Token)). take n held ++ l) h.beneath ∙ taken_and_left n held)

pub held_beneath : (fs : List Frame) (held : List (List Token)) (work : List Reading) → frames.AreFramesOf None fs held work → beneath work held ≡ lists_beneath fs held
held_beneath [] held [] stands = refl
held_beneath [] held (r ∷ rs) stands = absurd stands
held_beneath (f ∷ fs) held [] stands = absurd stands
held_beneath (f ∷ fs) held (r ∷ rs) stands = sym (are_held f held r stands.0).beneath

-- a reading whose list is the one on top
pub lists_are : (fs : List Frame) (held : List (List Token)) (r : Reading) (rs : List Reading) (listed : Bool) → listed_count listed ≡ innermost_count fs → frames.AreFramesOf None fs held (r ∷ rs) → lists r.kind r.fed ≡ listed_lists listed held
lists_are [] held r rs listed count stands = absurd stands
lists_are (f ∷ fs) held r rs listed count stands =
    let counted : length (lists r.kind r.fed) ≡ listed_count listed = lists_counted f held r stands.0 ∙ sym count in
    (are_held f held r stands.0).first ∙ (ap (λ (n : ℕ). take n held) counted ∙ sym (listed_now listed held (omega (arith, stands.0.holds, count))))

pub has_top : (fs : List Frame) (held : List (List Token)) (work : List Reading) → frames.AreFramesOf None fs held work → innermost_count fs ≡ 1 → held ≡ [] → ⊥
has_top [] held work stands one none = omega (arith, one)
has_top (f ∷ fs) held [] stands one none = stands
has_top (f ∷ fs) held (r ∷ rs) stands one none = omega (arith, stands.0.holds, one, ap (λ (l : List (List Token)). length l) none)

pub count_top : (fs : List Frame) (held : List (List Token)) (r : Reading) (rs : List Reading) → frames.AreFramesOf None fs held (r ∷ rs) → length (lists r.kind r.fed) ≡ innermost_count fs
count_top [] held r rs stands = absurd stands
count_top (f ∷ fs) held r rs stands = lists_counted f held r stands.0

pub framed_top : (fs : List Frame) (held : List (List Token)) (r : Reading) (rs : List Reading) → frames.AreFramesOf None fs held (r ∷ rs) → frames.IsOther r.kind
framed_top [] held r rs stands = absurd stands
framed_top (f ∷ fs) held r rs stands = stands.0.framed

-- THE ENGINE

pub gathered_is : (i : Stored) → i.call ≡ NotCalling → gathered i ≡ i.builds
gathered_is i none = ap (λ (k : Calling). call_lists k ++ i.builds) none

pub stands_gathered : (sizes : Sizes) (e : Engine) (book : Book) → Stands sizes e book → gathered e.input ≡ e.input.builds
stands_gathered sizes e book st = gathered_is e.input st.uncalled

-- its frames and their lists are others
pub stands_new : (sizes : Sizes) (e e' : Engine) (book : Book) (work : List Reading) (fs : List Frame) (held : List (List Token)) → SameBut e e' → e'.readings.frames ≡ fs → e'.input.builds ≡ held → Stands sizes e book →
    frames.AreFramesOf None fs held work → AreShallow fs held → Stands sizes e' (with_work work book)
stands_new sizes e e' book work fs held same fs_are held_are st stand shallow = record {
  sound = sound_still sizes e e' book.number book.all_lists same.others.sizes same.others.depth same.others.conditionals same.others.names same.others.reports same.store st.sound;
  idle = same.making ∙ st.idle;
  readings = record {
    frames = subst (λ (l : List (List Token)). frames.AreFramesOf None e'.readings.frames l work) (sym held_are) (subst (λ (x : List Frame). frames.AreFramesOf None x held work) (sym fs_are) stand);
    shallow = subst (λ (l : List (List Token)). AreShallow e'.readings.frames l) (sym held_are) (subst (λ (x : List Frame). AreShallow x held) (sym fs_are) shallow);
  };
  uncalled = same.call ∙ st.uncalled;
}

pub state_new : (e e' : Engine) (book : Book) (work : List Reading) (held : List (List Token)) → SameBut e e' → e'.last ≡ e.last → gathered e'.input ≡ held → record (state_of e book) { work = work; gathered = held } ≡ state_of e' (with_work work book)
state_new e e' book work held same last lists = cc (same.pending, same.others.names, same.others.conditionals, same.others.naming, same.store.groups, same.making, same.others.in_line, same.others.reports, same.others.flawed, same.others.quiet, last, lists)

-- the engine with these frames, over these lists
abbrev pub framed_with : Engine → Stack → (held lists : List (List Token)) → Engine
framed_with e stack held lists = record e { readings = stack; input = record e.input { builds = held; lists = lists } }

pub same_with : (e e' : Engine) (stack : Stack) (held : List (List Token)) → e' ≡ framed_with e stack held e'.input.lists → stack.size ≡ e.readings.size → KeepsShared e.input e'.input → SameBut e e'
same_with e e' stack held is size kept = record {
  others = record {
    depth = ap (λ (x : Engine). x.readings.size) is ∙ size;
    names = ap (λ (x : Engine). x.names) is;
    after = ap (λ (x : Engine). x.after) is;
    mag_set = ap (λ (x : Engine). x.mag_set) is;
    conditionals = ap (λ (x : Engine). x.conditionals) is;
    naming = ap (λ (x : Engine). x.naming) is;
    in_line = ap (λ (x : Engine). x.in_line) is;
    reports = ap (λ (x : Engine). x.reports) is;
    flawed = ap (λ (x : Engine). x.flawed) is;
    quiet = ap (λ (x : Engine). x.quiet) is;
    sizes = ap (λ (x : Engine). x.sizes) is;
  };
  pending = ap (λ (x : Engine). x.input.pending) is;
  making = ap (λ (x : Engine). x.input.making) is;
  call = ap (λ (x : Engine). x.input.call) is;
  store = store_gathered e.input e'.input held (ap (λ (x : Engine). x.input) is) kept;
}

pub keeps_all : (i : Stored) → KeepsShared i i
keeps_all i = record { tokens = λ n h. refl }
