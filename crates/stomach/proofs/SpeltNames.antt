-- Names that are spelt: behind the open lines; a name that joins those that are entered, and one that becomes `\relax`.
use Rattle.std.proofs.Common.{◌≡◌, ℕ, Bool, true, false, List, [], ◌∷◌, ◌++◌, refl, sym, ap, ◌∙◌, subst, append_assoc}
use Rattle.std.specs.Prelude.{Option, Some, None, if◌then◌else◌}
use Rattle.tex_defs.specs.Places.{World}
use Rattle.tex_defs.specs.declared.Full.{Full}
use Rattle.tex_defs.specs.declared.Meaning.{Meaning}
use Rattle.tex_defs.specs.declared.Meaning.TheVariants as means
use Rattle.tex_defs.specs.declared.Name.{Name}
use Rattle.tex_defs.specs.declared.Sizes.{Sizes}
use Rattle.tex_defs.specs.declared.Token.{Token}
use Rattle.tex_defs.specs.declared.Token.TheVariants as token
use Rattle.plain_tokens.specs.Lex.{WordName}
use Rattle.plain_tokens.specs.Meanings.{name_meaning, seen_as}
use Rattle.plain_tokens.specs.Names.{relax_primitive}
use Rattle.plain_tokens.specs.Tables.{Demand, spelt_name, refused}
use Rattle.plain_tokens.specs.Tokens.{character_codes, is_undefined}
use Rattle.input_state.specs.HeldLists.{first_list}
use Rattle.reading_frames.specs.Views.{kept_list_of}
use Rattle.plain_machine.specs.declared.broken.Broken.{Broken}
use Rattle.plain_machine.specs.declared.broken.Broken.TheVariants as broken
use Rattle.plain_machine.specs.States.{State, Move, Assigned, Spelt}
use Rattle.plain_machine.specs.Demands.{refusal}
use Rattle.plain_machine.specs.Numbers.{meanings_of}
use Rattle.plain_machine.specs.Plan.{Page, spelt, newly_spelt, relax_if_undefined, name_made, entered, put_one}
use Rattle.plain_machine.specs.Does.{Did}
use Rattle.plain_machine.proofs.Doing.{did_join, did_none, did_one}
use Rattle.plain_machine.proofs.Renumbering.{name_seen_of, spelt_name_of}
use Rattle.engine_state.specs.declared.engine.Engine.{Engine}
use Rattle.engine_state.specs.Book.{Book}
use Rattle.engine_state.specs.Entering.{all_entered, with_names, EntryFits, EntryRefused}
use Rattle.engine_state.specs.Rules.{Cuts}
use Rattle.engine_state.specs.Stands.{IsSized, IsSound, SameFrames, Stands, state_of, page_of}
use Rattle.engine_state.proofs.Cells.{meaning_more}
use Rattle.engine_state.proofs.Cutting.{cuts_by, first_cuts, full_cuts, later_cuts}
use Rattle.engine_state.proofs.Joining.{quiet_here}
use Rattle.engine_state.proofs.Pulling.{FewNames, few_names, did_entered, cut_entered, sound_names}
use Rattle.engine_state.proofs.Reporting.{stands_still}
use Rattle.stomach.specs.Naming.{IsTooLong, OnlySpelt}

abbrev Cell : Type 0
Cell = Meaning (Option ℕ)

-- A NAME IS SPELT, behind the open lines

-- the characters of the list on top, where it is listed
kept_first : (listed : Bool) (lists : List (List Token)) → listed ≡ true → kept_list_of listed lists ≡ first_list lists
kept_first true [] is = refl
kept_first true (ts ∷ lists) is = refl
kept_first false lists is = absurd cc

-- they have no room
pub top_too_long : (e : Engine) (listed : Bool) (full : Full) → listed ≡ true → refused e.input.sizes (spelt_name (character_codes (first_list e.input.builds)) e.input.pending ∷ []) ≡ Some full →
    IsTooLong e (character_codes (kept_list_of listed e.input.builds)) (broken.Full full)
top_too_long e listed full is h = record {
  full = full;
  is = refl;
  refuses = ap (λ (ts : List Token). refused e.input.sizes (spelt_name (character_codes ts) e.input.pending ∷ [])) (kept_first listed e.input.builds is) ∙ h;
}

pub spelt_frames : (e e1 : Engine) → OnlySpelt e e1 → SameFrames e e1
spelt_frames e e1 only = subst (λ (x : Engine). SameFrames e x) (sym only) (record { readings = refl; lists = refl; call = refl })

module _ (sizes : Sizes) (e e1 : Engine) (book : Book) (only : OnlySpelt e e1) where
  spelt_state : state_of e1 book ≡ state_of e book
  spelt_state = ap (λ (x : Engine). state_of x book) only

  pub spelt_page : page_of e1 book ≡ page_of e book
  spelt_page = ap (λ (x : Engine). page_of x book) only

  still_sound : (b : List ℕ) → IsSound sizes e book.number book.all_lists → IsSound sizes (record e { input = record e.input { buffer = b } }) book.number book.all_lists
  still_sound b h = record {
    sized = record {
      few_reports = h.sized.few_reports;
      own = h.sized.own;
      readings = h.sized.readings;
      conditionals = h.sized.conditionals;
      input = h.sized.input;
      names = h.sized.names;
      located = h.sized.located;
    };
    tied = h.tied;
    bodies = h.bodies;
  }

  pub spelt_stands : Stands sizes e book → Stands sizes e1 book
  spelt_stands st =
      stands_still sizes e e1 book (spelt_frames e e1 only)
      (subst (λ (x : Engine). IsSound sizes x book.number book.all_lists) (sym only) (still_sound e1.input.buffer st.sound)) (ap (λ (x : Engine). x.input.making) only ∙ st.idle) st

  module _ (name : List ℕ) (w : World) (sound : IsSound sizes e book.number book.all_lists) where
    as_refused : (o : Option Full) → refused e.input.sizes (spelt_name name e.input.pending ∷ []) ≡ o → refusal sizes (Spelt name) (state_of e book) ≡ o
    as_refused o h =
        ap (λ (d : Demand). refused sizes (d ∷ [])) (spelt_name_of book.number name e.input.pending)
        ∙ (ap (λ (x : Sizes). refused x (spelt_name name e.input.pending ∷ [])) (sym sound.sized.input) ∙ h)

    pub spelling_did : refused e.input.sizes (spelt_name name e.input.pending ∷ []) ≡ None → Did sizes (state_of e book) (state_of e1 book) w w (Spelt name ∷ [])
    spelling_did fits = did_one sizes (Spelt name) (state_of e book) (state_of e1 book) w w (as_refused None fits) (sym spelt_state) (quiet_here (Spelt name) w tt)

    -- or it has no room
    pub spelling_cuts : (more : List Move) (b : Broken) → IsTooLong e name b → Cuts sizes (state_of e book) e1 book w w (Spelt name ∷ more) b
    spelling_cuts more b h = full_cuts sizes (state_of e book) e1 book w (Spelt name) more h.full b h.is (as_refused (Some h.full) h.refuses) (sym spelt_state)

-- NAMES: at most one joins them

few_spelt : (names : List (List ℕ)) (codes : List ℕ) → FewNames (newly_spelt names codes)
few_spelt names [] = tt
few_spelt names (c ∷ []) = tt
few_spelt names (c ∷ d ∷ cs) = few_names true names (WordName (c ∷ d ∷ cs))

module _ (sizes : Sizes) (e : Engine) (book : Book) where
  -- what stood stands
  names_stand : (new : List (List ℕ)) → Stands sizes e book → Stands sizes (with_names new e) book
  names_stand new st = stands_still sizes e (with_names new e) book (record { readings = refl; lists = refl; call = refl }) (sound_names sizes e book new st.sound) st.idle st

-- A NAME THAT MEANS NOTHING

abbrev is_lacking : List Cell → Name → Bool
is_lacking cells n = is_undefined (seen_as (name_meaning cells n))

lacking_of : (number : ℕ → ℕ) (cells : List Cell) (n : Name) → is_lacking (meanings_of number cells) n ≡ is_lacking cells n
lacking_of number cells n = ap is_undefined (name_seen_of number cells n)

abbrev relaxed_if : Name → Bool → List Move
relaxed_if n b = if b then Assigned false n (means.Prim relax_primitive) ∷ [] else []

-- it does so whatever name has joined the others
relax_named : (e : Engine) (book : Book) (new : List (List ℕ)) (n : Name) → relax_if_undefined (page_of e book).now.meanings n ≡ relax_if_undefined (page_of (with_names new e) book).now.meanings n
relax_named e book new n =
    ap (relaxed_if n) (lacking_of book.number e.input.groups.now.meanings n ∙ ap (λ (m : Cell). is_undefined (seen_as m)) (sym (meaning_more new e.input.groups n)) ∙ sym (lacking_of book.number (all_entered new e.input.groups).now.meanings n))

module _ (sizes : Sizes) (e : Engine) (book : Book) (n : Name) where
  abbrev plan : List Move
  plan = relax_if_undefined (page_of e book).now.meanings n

  plan_is : (b : Bool) → is_lacking e.input.groups.now.meanings n ≡ b → plan ≡ relaxed_if n b
  plan_is b is = ap (relaxed_if n) (lacking_of book.number e.input.groups.now.meanings n ∙ is)

  -- it becomes `\relax`
  pub relaxed_did : (s' : State) (w : World) → is_lacking e.input.groups.now.meanings n ≡ true → Did sizes (state_of e book) s' w w (Assigned false n (means.Prim relax_primitive) ∷ []) → Did sizes (state_of e book) s' w w plan
  relaxed_did s' w is h = subst (λ (ms : List Move). Did sizes (state_of e book) s' w w ms) (sym (plan_is true is)) h

  -- or there is no room for what it meant
  pub relaxed_cuts : (e' : Engine) (w : World) (more : List Move) (b : Broken) → is_lacking e.input.groups.now.meanings n ≡ true → Cuts sizes (state_of e book) e' book w w (Assigned false n (means.Prim relax_primitive) ∷ more) b →
      Cuts sizes (state_of e book) e' book w w (plan ++ more) b
  relaxed_cuts e' w more b is h =
      cuts_by sizes (state_of e book) e' book w w (relaxed_if n true ++ more) (plan ++ more) b (ap (λ (ms : List Move). ms ++ more) (plan_is true is)) h

  -- a name that means something stays
  pub defined_did : (w : World) → is_lacking e.input.groups.now.meanings n ≡ false → Did sizes (state_of e book) (state_of e book) w w plan
  defined_did w is = subst (λ (ms : List Move). Did sizes (state_of e book) (state_of e book) w w ms) (sym (plan_is false is)) (did_none sizes (state_of e book) w)

-- A NAME IS MADE, behind its spelling

abbrev pub made_behind : Page → (characters : List ℕ) → List Move
made_behind page characters =
    entered (newly_spelt page.names characters) ++ (relax_if_undefined page.now.meanings (spelt page.names characters) ++ put_one (token.Named (spelt page.names characters)))

module _ (sizes : Sizes) (e e1 : Engine) (book : Book) (codes : List ℕ) where
  abbrev new : List (List ℕ)
  new = newly_spelt e.names.names codes

  abbrev here : List Move
  here = made_behind (page_of e book) codes

  -- it has no room
  pub unentered_cuts : (w : World) (more : List Move) (full : Full) → IsSized sizes e → e1 ≡ e → EntryRefused e.names new full → Cuts sizes (state_of e book) e1 book w w (here ++ more) (broken.Full full)
  unentered_cuts w more full sized same r = first_cuts sizes (state_of e book) e1 book w w here more (broken.Full full) (cut_entered sizes e book e1 new w _ full sized same r)

  pub entered_stands : e1 ≡ with_names new e → Stands sizes e book → Stands sizes e1 book
  entered_stands after st = subst (λ (x : Engine). Stands sizes x book) (sym after) (names_stand sizes e book new st)

  module _ (n : Name) (w : World) (sized : IsSized sizes e) (after : e1 ≡ with_names new e) (fits : EntryFits e.names new) (is : n ≡ spelt e.names.names codes) where
    entering_did : Did sizes (state_of e book) (state_of e1 book) w w (entered new)
    entering_did = subst (λ (x : Engine). Did sizes (state_of e book) (state_of x book) w w (entered new)) (sym after) (did_entered sizes e book new w (few_spelt e.names.names codes) sized fits)

    abbrev relaxes : List Move
    relaxes = relax_if_undefined (page_of e1 book).now.meanings n

    abbrev puts : List Move
    puts = put_one (token.Named n)

    here_is : here ≡ entered new ++ (relaxes ++ puts)
    here_is =
        ap (λ (x : Name). entered new ++ (relax_if_undefined (page_of e book).now.meanings x ++ put_one (token.Named x))) (sym is)
        ∙ ap (λ (ms : List Move). entered new ++ (ms ++ puts)) (relax_named e book new n ∙ ap (λ (x : Engine). relax_if_undefined (page_of x book).now.meanings n) (sym after))

    -- what comes behind its entry is cut off
    pub unmade_cuts : (e2 : Engine) (more : List Move) (b : Broken) → Cuts sizes (state_of e1 book) e2 book w w (relaxes ++ (puts ++ more)) b → Cuts sizes (state_of e book) e2 book w w (here ++ more) b
    unmade_cuts e2 more b h =
        cuts_by sizes _ e2 book w w _ _ b
        (ap (λ (ms : List Move). ms ++ more) here_is ∙ append_assoc (entered new) (relaxes ++ puts) more ∙ ap (λ (ms : List Move). entered new ++ ms) (append_assoc relaxes puts more))
        (later_cuts sizes _ _ e2 book w w w (entered new) _ b entering_did h)

    module _ (e2 : Engine) (relaxed : Did sizes (state_of e1 book) (state_of e2 book) w w relaxes) where
      pub made_did : (e3 : Engine) → Did sizes (state_of e2 book) (state_of e3 book) w w puts → Did sizes (state_of e book) (state_of e3 book) w w here
      made_did e3 put = subst (λ (ms : List Move). Did sizes (state_of e book) (state_of e3 book) w w ms) (sym here_is) (did_join sizes _ _ _ w w w (entered new) (relaxes ++ puts) entering_did (did_join sizes _ _ _ w w w relaxes puts relaxed put))

      -- it isn't put
      pub unput_cuts : (e3 : Engine) (more : List Move) (b : Broken) → Cuts sizes (state_of e2 book) e3 book w w (puts ++ more) b → Cuts sizes (state_of e book) e3 book w w (here ++ more) b
      unput_cuts e3 more b h = unmade_cuts e3 more b (later_cuts sizes _ _ e3 book w w w relaxes (puts ++ more) b relaxed h)

-- its spelling comes before
module _ (sizes : Sizes) (e e1 : Engine) (book : Book) (w : World) (only : OnlySpelt e e1) (characters codes : List ℕ) (is : codes ≡ characters) (did : Did sizes (state_of e book) (state_of e1 book) w w (Spelt characters ∷ [])) where
  same_behind : made_behind (page_of e1 book) codes ≡ made_behind (page_of e book) characters
  same_behind = ap (λ (page : Page). made_behind page codes) (spelt_page sizes e e1 book only) ∙ ap (λ (cs : List ℕ). made_behind (page_of e book) cs) is

  pub name_did : (e2 : Engine) → Did sizes (state_of e1 book) (state_of e2 book) w w (made_behind (page_of e1 book) codes) → Did sizes (state_of e book) (state_of e2 book) w w (name_made (page_of e book) characters)
  name_did e2 h =
      did_join sizes _ _ _ w w w (Spelt characters ∷ []) (made_behind (page_of e book) characters) did
      (subst (λ (ms : List Move). Did sizes (state_of e1 book) (state_of e2 book) w w ms) same_behind h)

  pub name_cuts : (e2 : Engine) (more : List Move) (b : Broken) → Cuts sizes (state_of e1 book) e2 book w w (made_behind (page_of e1 book) codes ++ more) b → Cuts sizes (state_of e book) e2 book w w (name_made (page_of e book) characters ++ more) b
  name_cuts e2 more b h =
      later_cuts sizes _ _ e2 book w w w (Spelt characters ∷ []) (made_behind (page_of e book) characters ++ more) b did
      (cuts_by sizes _ e2 book w w _ _ b (ap (λ (ms : List Move). ms ++ more) (sym same_behind)) h)
