-- The list of a location enters an expanded text.
use Rattle.std.proofs.Common.{◌≡◌, ◌≤◌, ◌+◌, List, [], ◌∷◌, ◌++◌, length, refl, sym, ap, ◌∙◌, subst, append_assoc, append-nil, arith, true}
use Rattle.std.specs.Prelude.{Some, None}
use Rattle.std.proofs.lemmas.List.{length-append}
use Rattle.std.proofs.lemmas.List.Sums.{sum_by-cons, sum_by-append}
use Rattle.tex_syntax.specs.declared.words.Want.TheVariants.{Copied}
use Rattle.tex_defs.specs.declared.Full.{Full}
use Rattle.tex_defs.specs.declared.Sizes.{Sizes}
use Rattle.tex_defs.specs.declared.Token.{Token}
use Rattle.tex_defs.specs.declared.Token.TheVariants.{EndPlaces}
use Rattle.tex_defs.specs.Places.{World}
use Rattle.plain_tokens.specs.Puts.{grow_first}
use Rattle.plain_tokens.specs.Tables.{list_words, lists_words}
use Rattle.equivalents.specs.declared.values.Loc.{Loc}
use Rattle.rows.specs.Readings.{More, Verbatim}
use Rattle.plain_readings.specs.Readings.{Reading, ask, fed_with}
use Rattle.plain_readings.proofs.Entering as readings
use Rattle.plain_machine.specs.declared.broken.Broken.TheVariants as broken
use Rattle.plain_machine.specs.States.{Move, Grows, Feeds}
use Rattle.plain_machine.specs.Plan.{tokens_entered, list_given, list_number}
use Rattle.plain_machine.specs.Does.{Did}
use Rattle.plain_machine.proofs.Doing.{did_join, did_none, did_one}
use Rattle.reading_frames.specs.Resumes.{resume}
use Rattle.reading_frames.specs.Stack.{AsksCopied, Enters, asks_in}
use Rattle.reading_frames.specs.Frames as frames
use Rattle.reading_frames.specs.declared.frame.Frame.{Frame}
use Rattle.reading_frames.proofs.Entering.{enters}
use Rattle.input_state.specs.Callings.{call_lists}
use Rattle.input_state.specs.AtLocations.{appended, AppendsShort, with_appended}
use Rattle.input_state.specs.Stored.{Stored, KeepsShared, words as stored_words}
use Rattle.input_state.proofs.Refusing.{memory_room}
use Rattle.engine_state.specs.declared.engine.Engine.{Engine}
use Rattle.engine_state.specs.Book.{Book, with_work}
use Rattle.engine_state.specs.CutReadings.{CutsIn}
use Rattle.engine_state.specs.Lists.{Copies, fed_list, location_list, with_list}
use Rattle.engine_state.specs.Stands.{IsSound, Stands, FramesStand, state_of, page_of}
use Rattle.engine_state.proofs.Cutting.{cuts_by, later_cuts, full_cuts}
use Rattle.engine_state.proofs.CuttingReadings.{near_none}
use Rattle.engine_state.proofs.FramesHeld.{has_top, count_top, keeps_all}
use Rattle.engine_state.proofs.Joining.{quiet_here}
use Rattle.engine_state.proofs.ListsGiven.{copied_is}
use Rattle.engine_state.proofs.Storing.{words_more}
use Rattle.engine_state.proofs.TokensTaken.{listed, listed_sound, grow_did}

-- THE LISTS

appended_next : (t : Token) (ts : List Token) (l : List (List Token)) → appended ts (grow_first t l) ≡ appended (t ∷ ts) l
appended_next t ts [] = refl
appended_next t ts (us ∷ l) = ap (λ (vs : List Token). vs ∷ l) (append_assoc us (t ∷ []) ts)

appended_none : (l : List (List Token)) → appended [] l ≡ l
appended_none [] = refl
appended_none (us ∷ l) = ap (λ (vs : List Token). vs ∷ l) (append-nil us)

-- one word more
first_words : (t : Token) (l : List (List Token)) → (l ≡ [] → ⊥) → lists_words (grow_first t l) ≡ lists_words l + 1
first_words t [] some = absurd (some refl)
first_words t (us ∷ l) some = omega (arith, sum_by-cons list_words us l, sum_by-cons list_words (us ++ t ∷ []) l, length-append us (t ∷ []))

grow_words : (i : Stored) (t : Token) → (i.builds ≡ [] → ⊥) → stored_words (record i { builds = grow_first t i.builds }) ≡ stored_words i + 1
grow_words i t some =
    omega (arith, first_words t i.builds some, sum_by-append list_words (call_lists i.call) i.builds, sum_by-append list_words (call_lists i.call) (grow_first t i.builds))

-- THE MOVES

entered_join : (ts us : List Token) → tokens_entered (ts ++ us) ≡ tokens_entered ts ++ tokens_entered us
entered_join [] us = refl
entered_join (t ∷ ts) us = ap (λ (ms : List Move). Grows t ∷ Feeds (Verbatim t) ∷ ms) (entered_join ts us)

-- THE FRAMES

-- an expanded text has its list
copied_top : (fs : List Frame) (held : List (List Token)) (work : List Reading) → frames.AreFramesOf None fs held work → AsksCopied (asks_in fs held) → held ≡ [] → ⊥
copied_top [] held work stands copies none = cc
copied_top (f ∷ fs) held [] stands copies none = stands
copied_top (f ∷ fs) held (r ∷ rs) stands copies none =
    let now : resume f held [] ≡ More Copied = cc copies in
    let asks : ask r.kind r.fed ≡ More Copied = ap (ask r.kind) (sym (append-nil r.fed)) ∙ (stands.0.goes_on [] ∙ now) in
    has_top (f ∷ fs) held (r ∷ rs) stands (sym (count_top (f ∷ fs) held r rs stands) ∙ (readings.enters r.kind r.fed EndPlaces asks).listed) none

-- THE ENGINE

-- with these tokens at the end of the list on top
abbrev grown : Engine → List Token → Engine
grown e ts = record e { input = record e.input { builds = appended ts e.input.builds } }

abbrev one : Engine → Token → Engine
one e t = record e { input = record e.input { builds = grow_first t e.input.builds } }

one_then : (e : Engine) (t : Token) (ts : List Token) → grown (one e t) ts ≡ grown e (t ∷ ts)
one_then e t ts = ap (λ (l : List (List Token)). record e { input = record e.input { builds = l } }) (appended_next t ts e.input.builds)

none_then : (e : Engine) → grown e [] ≡ e
none_then e = ap (λ (l : List (List Token)). record e { input = record e.input { builds = l } }) (appended_none e.input.builds)

-- what such an engine is, and what it did to become so
record HasEntered (sizes : Sizes) (e : Engine) (ts : List Token) (book : Book) : Type 0 where
  pub stands : Stands sizes (grown e ts) (with_work (fed_list ts book.work) book)
  pub did : (w : World) → Did sizes (state_of e book) (state_of (grown e ts) (with_work (fed_list ts book.work) book)) w w (tokens_entered ts)

module _ (sizes : Sizes) where
  module _ (e : Engine) (book : Book) (t : Token) (st : Stands sizes e book) (copies : AsksCopied (asks_in e.readings.frames e.input.builds)) where
    some : e.input.builds ≡ [] → ⊥
    some none = copied_top e.readings.frames e.input.builds book.work st.readings.frames copies none

    entry : Enters e.readings.frames e.input.builds book.work t
    entry = enters e.readings.frames e.input.builds book.work t st.readings.frames copies

    one_stands : Stands sizes (one e t) (with_work (fed_with (Verbatim t) book.work) book)
    one_stands = record {
      sound = listed_sound sizes e (one e t) (grow_first t e.input.builds) book.number book.all_lists refl (keeps_all e.input) st.sound;
      idle = st.idle;
      readings = record { frames = entry.stands; shallow = entry.shallow st.readings.shallow };
      uncalled = st.uncalled;
    }

    one_did : (w : World) → stored_words e.input + 1 ≤ e.input.sizes.main_memory_size → Did sizes (state_of e book) (state_of (one e t) (with_work (fed_with (Verbatim t) book.work) book)) w w (tokens_entered (t ∷ []))
    one_did w fits =
        did_join sizes (state_of e book) (state_of (one e t) book) (state_of (one e t) (with_work (fed_with (Verbatim t) book.work) book)) w w w (Grows t ∷ []) (Feeds (Verbatim t) ∷ [])
        (grow_did sizes book w e (one e t) t refl some st.uncalled st.sound (memory_room e.input.sizes (stored_words e.input) 1 fits))
        (did_one sizes (Feeds (Verbatim t)) (state_of (one e t) book) (state_of (one e t) (with_work (fed_with (Verbatim t) book.work) book)) w w refl refl (quiet_here (Feeds (Verbatim t)) w tt))

  entered_all : (ts : List Token) (e : Engine) (book : Book) → Stands sizes e book → AsksCopied (asks_in e.readings.frames e.input.builds) → stored_words e.input + length ts ≤ e.input.sizes.main_memory_size → HasEntered sizes e ts book
  entered_all [] e book st copies fits = record {
    stands = subst (λ (x : Engine). Stands sizes x book) (sym (none_then e)) st;
    did = λ w. subst (λ (x : Engine). Did sizes (state_of e book) (state_of x book) w w []) (sym (none_then e)) (did_none sizes (state_of e book) w);
  }
  entered_all (t ∷ ts) e book st copies fits =
      let next : Book = with_work (fed_with (Verbatim t) book.work) book in
      let more : HasEntered sizes (one e t) ts next = entered_all ts (one e t) next (one_stands e book t st copies) (entry e book t st copies).copies (omega (arith, fits, grow_words e.input t (some e book t st copies))) in
      record {
        stands = subst (λ (x : Engine). Stands sizes x (with_work (fed_list ts next.work) book)) (one_then e t ts) more.stands;
        did = λ w. subst (λ (x : Engine). Did sizes (state_of e book) (state_of x (with_work (fed_list ts next.work) book)) w w (tokens_entered (t ∷ ts))) (one_then e t ts)
            (did_join sizes (state_of e book) (state_of (one e t) next) _ w w w (tokens_entered (t ∷ [])) (tokens_entered ts) (one_did e book t st copies w (omega (arith, fits))) (more.did w));
      }

  -- the lists of the memory are others then
  module _ (e e' : Engine) (book : Book) (ts : List Token) (st : Stands sizes e book) (copies : AsksCopied (asks_in e.readings.frames e.input.builds)) (is : e' ≡ listed e (appended ts e.input.builds) e'.input.lists) (kept : KeepsShared e.input e'.input)
      (fits : stored_words e.input + length ts ≤ e.input.sizes.main_memory_size) where
    all : HasEntered sizes e ts book
    all = entered_all ts e book st copies fits

    entered_sound : IsSound sizes e' book.number book.all_lists
    entered_sound = listed_sound sizes e e' (appended ts e.input.builds) book.number book.all_lists is kept st.sound

    entered_frames : FramesStand e' (fed_list ts book.work)
    entered_frames = subst (λ (x : Engine). FramesStand x (fed_list ts book.work)) (sym is) (record { frames = all.stands.readings.frames; shallow = all.stands.readings.shallow })

    pub entered_stands : Stands sizes e' (with_work (fed_list ts book.work) book)
    entered_stands = record {
      sound = entered_sound;
      idle = ap (λ (x : Engine). x.input.making) is ∙ st.idle;
      readings = entered_frames;
      uncalled = ap (λ (x : Engine). x.input.call) is ∙ st.uncalled;
    }

    pub entered_did : (w : World) → Did sizes (state_of e book) (state_of e' (with_work (fed_list ts book.work) book)) w w (tokens_entered ts)
    entered_did w = subst (λ (x : Engine). Did sizes (state_of e book) (state_of x (with_work (fed_list ts book.work) book)) w w (tokens_entered ts)) (sym is) (all.did w)

-- THE LIST OF A LOCATION

module _ (sizes : Sizes) (e e' : Engine) (book : Book) (l : Loc) (st : Stands sizes e book) (copies : Copies e) (kept : KeepsShared e.input e'.input) where
  moves_are : list_given (page_of e book) true (list_number (page_of e book) l) ≡ tokens_entered (location_list e l)
  moves_are = copied_is sizes e book st.sound l

  module _ (is : e' ≡ listed e (appended (location_list e l) e.input.builds) e'.input.lists) (fits : stored_words e.input + length (location_list e l) ≤ e.input.sizes.main_memory_size) where
    pub copied_stands : Stands sizes e' (with_list e l book)
    copied_stands = entered_stands sizes e e' book (location_list e l) st copies is kept fits

    pub copied_did : (w : World) → Did sizes (state_of e book) (state_of e' (with_list e l book)) w w (list_given (page_of e book) true (list_number (page_of e book) l))
    copied_did w = subst (λ (ms : List Move). Did sizes (state_of e book) (state_of e' (with_list e l book)) w w ms) (sym moves_are) (entered_did sizes e e' book (location_list e l) st copies is kept fits w)

  -- one of its tokens has no room: those in front of it have entered
  pub copied_cut : (full : Full) (w : World) → e' ≡ record e { input = e'.input } → AppendsShort with_appended (location_list e l) e.input e'.input full → CutsIn sizes (state_of e book) e' w w (list_given (page_of e book) true (list_number (page_of e book) l)) (broken.Full full)
  copied_cut full w same h =
      let is : e' ≡ listed e (appended h.front e.input.builds) e'.input.lists = same ∙ ap (λ (i : Stored). record e { input = i }) h.after in
      let here : Book = with_work (fed_list h.front book.work) book in
      let stands : Stands sizes e' here = entered_stands sizes e e' book h.front st copies is kept h.fits in
      let rest : List Move = Feeds (Verbatim h.next) ∷ tokens_entered h.rest in
      record {
        book' = here;
        cuts = cuts_by sizes (state_of e book) e' here w w (tokens_entered h.front ++ (Grows h.next ∷ rest)) _ (broken.Full full) (moves_are ∙ (ap tokens_entered h.split ∙ entered_join h.front (h.next ∷ h.rest)))
            (later_cuts sizes (state_of e book) (state_of e' here) e' here w w w (tokens_entered h.front) (Grows h.next ∷ rest) (broken.Full full) (entered_did sizes e e' book h.front st copies is kept h.fits w)
            (full_cuts sizes (state_of e' here) e' here w (Grows h.next) rest full (broken.Full full) refl (words_more sizes e' here 1 (Some full) stands.sound h.refused_then) refl));
        near = near_none (broken.Full full) e' here.work stands.uncalled stands.readings;
      }

-- an expanded text has its list
pub uncopied : {A : Type 0} → (sizes : Sizes) (e : Engine) (book : Book) → Stands sizes e book → Copies e → e.input.builds ≡ [] → A
uncopied sizes e book st copies none = absurd (copied_top e.readings.frames e.input.builds book.work st.readings.frames copies none)
