-- `\input`: the reading of a file's name begins, or where one is being read the token is put back behind a `\relax`.
use Rattle.std.proofs.Common.{◌≡◌, List, [], ◌∷◌, ◌++◌, refl, ap, true, false}
use Rattle.std.specs.Prelude.{Bool, None, if◌then◌else◌}
use Rattle.tex_defs.specs.declared.Token.{Token}
use Rattle.tex_defs.specs.declared.Sizes.{Sizes}
use Rattle.tex_defs.specs.Places.{World}
use Rattle.rows.specs.declared.command.Call.{Call}
use Rattle.plain_readings.specs.Readings.{FileName, opened}
use Rattle.plain_machine.specs.Demands.{refusal}
use Rattle.plain_machine.specs.Does.{Did}
use Rattle.plain_machine.specs.Plan.{Page, put_one, frozen_relax, input_met}
use Rattle.plain_machine.specs.States.{Move, Begun, NameInProgress, made}
use Rattle.plain_machine.proofs.Doing.{did_join, did_silent}
use Rattle.engine_state.specs.declared.engine.Engine.{Engine}
use Rattle.engine_state.specs.Book.{Book, with_work}
use Rattle.engine_state.specs.Rules.{Went}
use Rattle.engine_state.specs.Stands.{Stands, state_of, page_of}
use Rattle.engine_state.proofs.Uncalled.{all_of, framed}
use Rattle.engine_state.proofs.CallKept.{all_still}
use Rattle.engine_state.proofs.Joining.{quiet_here, went_by}
use Rattle.engine_state.proofs.Storing.{sound_still, store_same}

-- the moves, by whether a file's name is being read
abbrev met_by : Token → Call → Bool → List Move
met_by t c naming = if naming then put_one t ++ put_one frozen_relax else Begun (FileName c) ∷ NameInProgress true ∷ []

pub met_again : (page : Page) (t : Token) (c : Call) → page.naming ≡ true → input_met page t c ≡ put_one t ++ put_one frozen_relax
met_again page t c is = ap (met_by t c) is

pub met_first : (page : Page) (t : Token) (c : Call) → page.naming ≡ false → input_met page t c ≡ Begun (FileName c) ∷ NameInProgress true ∷ []
met_first page t c is = ap (met_by t c) is

-- THE NAME BEGINS

-- the engine notes that it is being read
pub naming_stands : (sizes : Sizes) (e : Engine) (book : Book) → Stands sizes e book → Stands sizes (record e { naming = true }) book
naming_stands sizes e book st =
    let next : Engine = record e { naming = true } in
    framed sizes next book st.uncalled
    (all_still sizes e next book (record { readings = refl; lists = refl; call = refl }) (store_same e.input)
    (sound_still sizes e next book.number book.all_lists refl refl refl refl refl (store_same e.input) st.sound) st.idle (all_of sizes e book st))

pub name_begins : (sizes : Sizes) (e e1 : Engine) (book : Book) (w : World) (t : Token) (c : Call) → e.naming ≡ false → refusal sizes (Begun (FileName c)) (state_of e book) ≡ None →
    made (Begun (FileName c)) (state_of e book) ≡ state_of e1 (with_work (opened (FileName c) book.work) book) → Stands sizes e1 (with_work (opened (FileName c) book.work) book) →
    Went sizes (state_of e book) (record e1 { naming = true }) w w (input_met (page_of e book) t c) 0
name_begins sizes e e1 book w t c naming fits is st =
    let inner : Book = with_work (opened (FileName c) book.work) book in
    let next : Engine = record e1 { naming = true } in
    let begun : Did sizes (state_of e book) (state_of e1 inner) w w (Begun (FileName c) ∷ []) = did_silent sizes (Begun (FileName c)) (state_of e book) (state_of e1 inner) w fits is (quiet_here (Begun (FileName c)) w tt) in
    let noted : Did sizes (state_of e1 inner) (state_of next inner) w w (NameInProgress true ∷ []) = did_silent sizes (NameInProgress true) (state_of e1 inner) (state_of next inner) w refl refl (quiet_here (NameInProgress true) w tt) in
    went_by sizes (state_of e book) next w w (Begun (FileName c) ∷ NameInProgress true ∷ []) (input_met (page_of e book) t c) 0 (met_first (page_of e book) t c naming)
    (record {
      book' = inner;
      stands = all_of sizes next inner (naming_stands sizes e1 inner st);
      did = did_join sizes (state_of e book) (state_of e1 inner) (state_of next inner) w w w (Begun (FileName c) ∷ []) (NameInProgress true ∷ []) begun noted;
      count = refl;
    })
