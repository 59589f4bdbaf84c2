-- A macro is defined.
use Rattle.std.proofs.Common.{◌≡◌, ℕ, Bool, List, [], ◌∷◌, ◌++◌, length, drop, Option, Some, None, refl, sym, ap, ◌∙◌, subst}
use Rattle.std.specs.Prelude.{◌≢◌}
use Rattle.tex_defs.specs.Places.{World}
use Rattle.tex_defs.specs.declared.Full.{Full}
use Rattle.tex_defs.specs.declared.Meaning.{Meaning}
use Rattle.tex_defs.specs.declared.Meaning.TheVariants as means
use Rattle.tex_defs.specs.declared.Name.{Name}
use Rattle.tex_defs.specs.declared.Sizes.{Sizes}
use Rattle.tex_defs.specs.declared.Token.{Token}
use Rattle.plain_tokens.specs.Meanings.{location}
use Rattle.plain_tokens.specs.Pending.{all_puts}
use Rattle.plain_tokens.specs.Puts.{Put}
use Rattle.plain_tokens.specs.Tables.{refused}
use Rattle.equivalents.specs.Groups.{Groups, set_name, name_demands}
use Rattle.equivalents.specs.Holding.{lists_held}
use Rattle.rows.specs.declared.command.Call.{Call}
use Rattle.plain_readings.specs.Readings.{Reading}
use Rattle.reading_frames.specs.Views.{top_list}
use Rattle.reading_frames.specs.Stack.{Stack, innermost_count, lists_beneath}
use Rattle.reading_frames.specs.Frames as frames
use Rattle.reading_frames.specs.Frames.{AreShallow}
use Rattle.plain_machine.specs.declared.broken.Broken.TheVariants as broken
use Rattle.plain_machine.specs.States.{State, Closed, Defined, made}
use Rattle.plain_machine.specs.Plan.{Page, is_global, macro_defined, behind_assignment}
use Rattle.plain_machine.proofs.Doing.{did_one}
use Rattle.plain_machine.proofs.GroupNumbers.{name_demands_of}
use Rattle.plain_machine.proofs.Holders.{defined_free}
use Rattle.plain_machine.proofs.Ties.{tied_defined}
use Rattle.meanings.specs.Kept.{IsPlaced}
use Rattle.input_state.specs.Calls.{Defines}
use Rattle.input_state.specs.HeldLists as held
use Rattle.input_state.specs.Stored.{Stored, KeepsShared}
use Rattle.engine_state.specs.declared.engine.Engine.{Engine}
use Rattle.engine_state.specs.Book.{Book, with_work}
use Rattle.engine_state.specs.CutReadings.{CutsIn}
use Rattle.engine_state.specs.Rules.{Went}
use Rattle.engine_state.specs.Stands.{Stands, page_of, state_of}
use Rattle.engine_state.proofs.Uncalled.{all_of}
use Rattle.engine_state.proofs.CuttingReadings.{in_by}
use Rattle.engine_state.proofs.Joining.{quiet_here, went_by}
use Rattle.engine_state.proofs.Grouping.{asks_same}
use Rattle.stomach.specs.Sets.{with_macro}
use Rattle.stomach.proofs.Assigning.{lost_name, lost_refused, named_length}
use Rattle.stomach.proofs.Passing.{IsGiven, bodies_more, first_is, passed_went, tied_more, unpassed_cut}

abbrev Cell : Type 0
Cell = Meaning (Option ℕ)

-- THE READING ENDS, and its list goes

module _ (sizes : Sizes) (e e' : Engine) (book : Book) (w : World) (r : Reading) (rs : List Reading) (c : Call) (name : Name) (stands : Stands sizes e' (with_work rs book)) (state : made Closed (state_of e (with_work (r ∷ rs) book)) ≡ state_of e' (with_work rs book)) where
  abbrev at : Book
  at = with_work (r ∷ rs) book

  -- without a token
  pub none_went : (ts : List Token) → ts ≡ [] → Went sizes (state_of e at) e' w w (macro_defined (page_of e book) c name ts) 0
  none_went ts none = subst (λ (us : List Token). Went sizes (state_of e at) e' w w (macro_defined (page_of e book) c name us) 0) (sym none) (record {
    book' = with_work rs book;
    stands = all_of sizes e' (with_work rs book) stands;
    did = did_one sizes Closed (state_of e at) (state_of e' (with_work rs book)) w w refl state (quiet_here Closed w tt);
    count = refl;
  })

  -- and the list of a name without a location is that of a macro that no name means
  module _ (ts : List Token) (some : ts ≢ []) (lost : IsPlaced (location name) (length e.input.groups.now.meanings) → ⊥) (same : e'.input.groups ≡ e.input.groups) where
    abbrev globally : Bool
    globally = is_global (page_of e book) c

    abbrev more : Book
    more = with_macro book.number ts at

    abbrev meant : Cell
    meant = means.Macro c.long c.outer (Some (length book.all_lists))

    lost_there : IsPlaced (location name) (length e'.input.groups.now.meanings) → ⊥
    lost_there placed = lost (subst (λ (g : Groups). IsPlaced (location name) (length g.now.meanings)) same placed)

    lost_stands : Stands sizes e' more
    lost_stands = record {
      sound = record {
        sized = stands.sound.sized;
        tied = tied_more book.number book.all_lists ts (lists_held e'.input.groups) (all_puts e'.input.pending) e'.input.lists stands.sound.tied;
        bodies = bodies_more book.all_lists ts stands.sound.bodies some;
      };
      idle = stands.idle;
      readings = stands.readings;
      uncalled = stands.uncalled;
    }

    lost_state : made (Defined globally name c.long c.outer ts) (state_of e at) ≡ state_of e' more
    lost_state =
        ap (λ (s : State). record s { groups = set_name globally s.groups name (means.Macro c.long c.outer (Some (length s.all_lists))); all_lists = s.all_lists ++ ts ∷ [] }) state
        ∙ ap (λ (g : Groups). record (state_of e' more) { groups = g }) (lost_name book.number e'.input.groups name lost_there globally meant)

    pub lost_went : Went sizes (state_of e at) e' w w (Defined globally name c.long c.outer ts ∷ []) 0
    lost_went = record {
      book' = more;
      stands = all_of sizes e' more lost_stands;
      did = did_one sizes (Defined globally name c.long c.outer ts) (state_of e at) (state_of e' more) w w (lost_refused book.number e.input.groups name lost sizes globally) lost_state
          (quiet_here (Defined globally name c.long c.outer ts) w tt);
      count = refl;
    }

-- THE READING ENDS, and its list passes to the macro

module _ (name : Name) (long outer global : Bool) where
  -- where the name means it
  abbrev meant_by : Groups → ℕ → Groups
  meant_by g k = set_name global g name (means.Macro long outer (Some k))

  defined_given : (g g' : Groups) (puts : List Put) (lists lists' : List (List Token)) (ts us : List Token) → us ≡ ts → Defines global g g' puts lists lists' us name long outer → IsGiven meant_by g g' puts lists' ts
  defined_given g g' puts lists lists' ts us same d = record { id = d.id; free = d.free; outside = d.outside; gives = d.means; list = d.list ∙ same }

-- the list on top
pub macro_went : (sizes : Sizes) (e : Engine) (book : Book) (w : World) (r : Reading) (rs : List Reading) (c : Call) (name : Name) (global : Bool) (stack : Stack) (i : Stored) → global ≡ is_global (page_of e book) c → top_list e.input.builds ≢ [] →
    stack ≡ record { frames = drop 1 e.readings.frames; size = e.readings.size } →
    ((lists : List (List Token)) (work : List Reading) → frames.AreFramesOf None e.readings.frames lists work → frames.AreFramesOf None stack.frames (lists_beneath e.readings.frames lists) (drop 1 work)) →
    ((lists : List (List Token)) → AreShallow e.readings.frames lists → AreShallow stack.frames (lists_beneath e.readings.frames lists)) →
    i ≡ record e.input { builds = drop 1 e.input.builds; groups = i.groups; lists = i.lists } → Defines global e.input.groups i.groups (all_puts e.input.pending) e.input.lists i.lists (held.first_list e.input.builds) name c.long c.outer → KeepsShared e.input i →
    refused e.input.sizes (name_demands global e.input.groups name) ≡ None →
    Stands sizes e (with_work (r ∷ rs) book) → innermost_count e.readings.frames ≡ 1 →
    Went sizes (state_of e (with_work (r ∷ rs) book)) (record e { readings = stack; input = i }) w w (Defined (is_global (page_of e book) c) name c.long c.outer (top_list e.input.builds) ∷ []) 0
macro_went sizes e book w r rs c name global stack i is_so some rest stand shallow after defines kept fits st own =
    let ts : List Token = top_list e.input.builds in
    let here : Book = with_work (r ∷ rs) book in
    went_by sizes (state_of e here) (record e { readings = stack; input = i }) w w (Defined global name c.long c.outer ts ∷ []) _ 0 (ap (λ (b : Bool). Defined b name c.long c.outer ts ∷ []) (sym is_so))
    (passed_went sizes e book w r rs ts some stack (ap (λ (s : Stack). s.size) rest) own stand shallow st (Defined global name c.long c.outer ts) (meant_by name c.long c.outer global) (λ s. refl) tt refl
    (asks_same sizes e here None st.sound _ _ (name_demands_of book.number global e.input.groups name) fits)
    (λ number id new g free outside. defined_free number id new global g free outside name c.long c.outer)
    (λ number all_lists g puts lists lists' id us tied there longer is kept. tied_defined number all_lists global g puts lists lists' name c.long c.outer id us tied there longer is kept)
    (λ g id. named_length global g name (means.Macro c.long c.outer (Some id)))
    i after (defined_given name c.long c.outer global e.input.groups i.groups (all_puts e.input.pending) e.input.lists i.lists ts (held.first_list e.input.builds) (first_is e.input.builds) defines) kept)

-- THE SAVE STACK IS FULL: nothing has changed
pub defined_cut : (sizes : Sizes) (e : Engine) (book : Book) (w : World) (r : Reading) (rs : List Reading) (c : Call) (name : Name) (global : Bool) (i : Stored) (full : Full) → global ≡ is_global (page_of e book) c → i ≡ e.input →
    refused e.input.sizes (name_demands global e.input.groups name) ≡ Some full → Stands sizes e (with_work (r ∷ rs) book) →
    CutsIn sizes (state_of e (with_work (r ∷ rs) book)) (record e { input = i }) w w (Defined (is_global (page_of e book) c) name c.long c.outer (top_list e.input.builds) ∷ []) (broken.Full full)
defined_cut sizes e book w r rs c name global i full is_so same refuses st =
    let here = with_work (r ∷ rs) book in
    let ts = top_list e.input.builds in
    in_by sizes (state_of e here) (record e { input = i }) w w (Defined global name c.long c.outer ts ∷ []) (Defined (is_global (page_of e book) c) name c.long c.outer ts ∷ []) (broken.Full full)
    (ap (λ (b : Bool). Defined b name c.long c.outer ts ∷ []) (sym is_so))
    (unpassed_cut sizes e here w i (Defined global name c.long c.outer ts) full same (asks_same sizes e here (Some full) st.sound _ _ (name_demands_of book.number global e.input.groups name) refuses) st)

-- BEHIND IT comes the token that `\afterassignment` kept

-- a list with a token becomes a macro's
pub defines_are : (page : Page) (c : Call) (name : Name) (ts us : List Token) → us ≡ ts → ts ≢ [] → macro_defined page c name us ≡ (Defined (is_global page c) name c.long c.outer ts ∷ []) ++ behind_assignment page.after
defines_are page c name ts [] is some = absurd (some (sym is))
defines_are page c name ts (t ∷ us) is some = ap (λ (x : List Token). Defined (is_global page c) name c.long c.outer x ∷ behind_assignment page.after) is
