-- An engine that has written, or that has the same input.
use Rattle.std.proofs.Common.{◌≡◌, ℕ, ◌≤◌, refl, sym, ap, subst, ◌∙◌}
use Rattle.tex_defs.specs.declared.Sizes.{Sizes}
use Rattle.plain_tokens.specs.Pending.{Pending}
use Rattle.plain_machine.specs.Plan.{reports_room}
use Rattle.input_state.specs.Stored.{Stored}
use Rattle.engine_state.specs.declared.engine.Engine.{Engine}
use Rattle.engine_state.specs.Book.{Book}
use Rattle.engine_state.specs.Calls.{AllStand}
use Rattle.engine_state.specs.Stands.{IsSized, SameFrames, OnlyColumn}
use Rattle.engine_state.proofs.CallKept.{all_still}
use Rattle.engine_state.proofs.Reporting.{input_sound, column_sound}
use Rattle.engine_state.proofs.Storing.{store_is}

pub only_frames : (e e' : Engine) → OnlyColumn e e' → SameFrames e e'
only_frames e e' only = subst (λ (x : Engine). SameFrames e x) (sym only.same) (record { readings = refl; lists = refl; call = refl })

pub all_input : (sizes : Sizes) (e e' : Engine) (book : Book) → SameFrames e e' → e'.input ≡ e.input → (IsSized sizes e → IsSized sizes e') → AllStand sizes e book → AllStand sizes e' book
all_input sizes e e' book same is sized st =
    all_still sizes e e' book same (store_is e.input e'.input is) (input_sound sizes e e' book is sized st.sound) (ap (λ (x : Stored). x.making) is ∙ st.idle) st

pub only_input : (e e' : Engine) → OnlyColumn e e' → e'.input ≡ e.input
only_input e e' only = ap (λ (x : Engine). x.input) only.same

pub column_all : (sizes : Sizes) (e e' : Engine) (book : Book) → OnlyColumn e e' → AllStand sizes e book → AllStand sizes e' book
column_all sizes e e' book only st =
    all_still sizes e e' book (only_frames e e' only) (store_is e.input e'.input (only_input e e' only)) (column_sound sizes e e' book.number book.all_lists only st.sound) (ap (λ (x : Stored). x.making) (only_input e e' only) ∙ st.idle) st

-- the engine is the same
pub same_engine : (e e' : Engine) → e' ≡ e → SameFrames e e'
same_engine e e' is = record { readings = ap (λ (x : Engine). x.readings) is; lists = ap (λ (x : Engine). x.input.builds) is; call = ap (λ (x : Engine). x.input.call) is }

-- finished lists have gone
pub list_frames : (e e' : Engine) (p : Pending) → e' ≡ record e { input = record e.input { pending = p; lists = e'.input.lists } } → SameFrames e e'
list_frames e e' p is = record { readings = ap (λ (x : Engine). x.readings) is; lists = ap (λ (x : Engine). x.input.builds) is; call = ap (λ (x : Engine). x.input.call) is }

pub only_sized : (sizes : Sizes) (e e' : Engine) → OnlyColumn e e' → IsSized sizes e → IsSized sizes e'
only_sized sizes e e' only h = subst (IsSized sizes) (sym only.same) (record {
  few_reports = h.few_reports;
  own = h.own;
  readings = h.readings;
  conditionals = h.conditionals;
  input = h.input;
  names = h.names;
  located = h.located;
})

pub column_on : (e e1 e2 : Engine) → OnlyColumn e e1 → OnlyColumn e1 e2 → OnlyColumn e e2
column_on e e1 e2 a b = record { same = b.same ∙ ap (λ (x : Engine). record x { in_line = e2.in_line }) a.same }

pub only_few : (e e' : Engine) → OnlyColumn e e' → e.reports ≤ reports_room → e'.reports ≤ reports_room
only_few e e' only few = subst (λ (n : ℕ). n ≤ reports_room) (sym (ap (λ (x : Engine). x.reports) only.same)) few

pub frames_join : (e e1 e2 : Engine) → SameFrames e e1 → SameFrames e1 e2 → SameFrames e e2
frames_join e e1 e2 a b = record { readings = b.readings ∙ a.readings; lists = b.lists ∙ a.lists; call = b.call ∙ a.call }
