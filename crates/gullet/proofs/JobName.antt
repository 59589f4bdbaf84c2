-- `\jobname`: its reading begins, the job's name is put, and the reading ends.
use Rattle.std.proofs.Common.{◌≡◌, List, [], ◌∷◌, ◌++◌, refl, sym, ap, subst, ◌∙◌, arith}
use Rattle.std.specs.Prelude.{Some, None}
use Rattle.tex_defs.specs.declared.Full.{Full}
use Rattle.tex_defs.specs.declared.Sizes.{Sizes}
use Rattle.tex_defs.specs.Places.{World}
use Rattle.plain_readings.specs.Readings.{Kind, opened}
use Rattle.name_table.specs.Strings.{Strings}
use Rattle.plain_machine.specs.declared.broken.Broken.{Broken}
use Rattle.plain_machine.specs.declared.broken.Broken.TheVariants as broken
use Rattle.plain_machine.specs.Demands.{refusal}
use Rattle.plain_machine.specs.Does.{Did}
use Rattle.plain_machine.specs.Plan.{job_in, put_characters}
use Rattle.plain_machine.specs.States.{Move, Begun, Closed, made}
use Rattle.plain_machine.proofs.Doing.{did_join, did_silent}
use Rattle.plain_machine.proofs.Pulls.{characters_none, pulls_join}
use Rattle.engine_state.specs.declared.engine.Engine.{Engine}
use Rattle.engine_state.specs.Book.{Book, with_work}
use Rattle.engine_state.specs.CutReadings.{CutsIn}
use Rattle.engine_state.specs.Rules.{Cuts, Went}
use Rattle.engine_state.specs.Stands.{Stands, SameFrames, SameOthers, SameStore, state_of, page_of}
use Rattle.gullet.specs.Stepping.{job_moves}
use Rattle.engine_state.proofs.Uncalled.{all_of, framed}
use Rattle.engine_state.proofs.CallKept.{all_still}
use Rattle.engine_state.proofs.Cutting.{full_cuts}
use Rattle.engine_state.proofs.Joining.{quiet_here}
use Rattle.engine_state.proofs.CuttingReadings.{stands_in, later_in}
use Rattle.engine_state.proofs.AtLocations.{same_engine}
use Rattle.gullet.proofs.Stepping.{free_of}
use Rattle.engine_state.proofs.Storing.{sound_still}

-- where there is no room for a move
pub full_in : (sizes : Sizes) (e e' : Engine) (book : Book) (w : World) (m : Move) (rest : List Move) (full : Full) → e' ≡ e → refusal sizes m (state_of e book) ≡ Some full → Stands sizes e book →
    CutsIn sizes (state_of e book) e' w w (m ∷ rest) (broken.Full full)
full_in sizes e e' book w m rest full is refused st =
    stands_in sizes e e' book w w (m ∷ rest) (broken.Full full)
    (subst (λ (x : Engine). Cuts sizes (state_of e book) x book w w (m ∷ rest) (broken.Full full)) (sym is) (full_cuts sizes (state_of e book) e book w m rest full (broken.Full full) refl refused refl))
    (same_engine e e' is) st

-- behind its name
pub name_stands : (sizes : Sizes) (e e' : Engine) (book : Book) → SameFrames e e' → SameOthers e e' → SameStore e.input e'.input → e'.input.making ≡ None → Stands sizes e book → Stands sizes e' book
name_stands sizes e e' book same others store idle st =
    framed sizes e' book (same.call ∙ st.uncalled)
    (all_still sizes e e' book same store (sound_still sizes e e' book.number book.all_lists others.sizes others.depth others.conditionals others.names others.reports store st.sound) idle (all_of sizes e book st))

module _ (sizes : Sizes) (e e1 e2 : Engine) (book : Book) (w : World) (k : Kind) (fits : refusal sizes (Begun k) (state_of e book) ≡ None) (is : made (Begun k) (state_of e book) ≡ state_of e1 (with_work (opened k book.work) book)) (names : e1.names ≡ e.names) where
  abbrev inner : Book
  inner = with_work (opened k book.work) book

  abbrev text : Engine → List Move
  text x = put_characters (job_in x.names.others)

  begun_did : Did sizes (state_of e book) (state_of e1 inner) w w (Begun k ∷ [])
  begun_did = did_silent sizes (Begun k) (state_of e book) (state_of e1 inner) w fits is (quiet_here (Begun k) w tt)

  same_text : text e1 ≡ text e
  same_text = ap (λ (n : Strings). put_characters (job_in n.others)) names

  pub job_cuts : (b : Broken) → SameFrames e1 e2 → Cuts sizes (state_of e1 inner) e2 inner w w (text e1 ++ Closed ∷ []) b → Stands sizes e1 inner → CutsIn sizes (state_of e book) e2 w w (job_moves (page_of e book) k) b
  job_cuts b same cuts st =
      subst (λ (ms : List Move). CutsIn sizes (state_of e book) e2 w w (Begun k ∷ (ms ++ Closed ∷ [])) b) same_text
      (later_in sizes (state_of e book) (state_of e1 inner) e2 w w w (Begun k ∷ []) (text e1 ++ Closed ∷ []) b begun_did (stands_in sizes e1 e2 inner w w (text e1 ++ Closed ∷ []) b cuts same st))

  pub job_went : (e3 : Engine) → Did sizes (state_of e1 inner) (state_of e2 inner) w w (text e1) → made Closed (state_of e2 inner) ≡ state_of e3 (with_work book.work book) → Stands sizes e3 (with_work book.work book) →
      Went sizes (state_of e book) e3 w w (job_moves (page_of e book) k) 0
  job_went e3 put closed st =
      let last : Did sizes (state_of e2 inner) (state_of e3 (with_work book.work book)) w w (Closed ∷ []) = did_silent sizes Closed (state_of e2 inner) (state_of e3 (with_work book.work book)) w refl closed (quiet_here Closed w tt) in
      let all : Did sizes (state_of e book) (state_of e3 (with_work book.work book)) w w (Begun k ∷ (text e1 ++ Closed ∷ [])) =
      did_join sizes (state_of e book) (state_of e1 inner) (state_of e3 (with_work book.work book)) w w w (Begun k ∷ []) (text e1 ++ Closed ∷ []) begun_did
      (did_join sizes (state_of e1 inner) (state_of e2 inner) (state_of e3 (with_work book.work book)) w w w (text e1) (Closed ∷ []) put last) in
      record {
        book' = with_work book.work book;
        stands = all_of sizes e3 (with_work book.work book) st;
        did = subst (λ (ms : List Move). Did sizes (state_of e book) (state_of e3 (with_work book.work book)) w w (Begun k ∷ (ms ++ Closed ∷ []))) same_text all;
        count = free_of (job_moves (page_of e book) k) (omega (arith, pulls_join (text e) (Closed ∷ []), characters_none (job_in e.names.others)));
      }
