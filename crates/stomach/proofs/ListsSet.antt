-- A location gets a list, shares that of another, or has its list given.
use Rattle.std.proofs.Common.{◌≡◌, ℕ, Bool, true, false, List, [], ◌∷◌, ◌++◌, drop, Some, None, refl, sym, ap, ◌∙◌, subst, ⊎_elim, arith}
use Rattle.std.specs.Prelude.{◌<◌, ◌≢◌, MatchBool}
use Rattle.tex_defs.specs.Places.{World}
use Rattle.tex_defs.specs.declared.Full.{Full}
use Rattle.tex_defs.specs.declared.RegisterKind.TheVariants as register
use Rattle.tex_defs.specs.declared.Sizes.{Sizes}
use Rattle.tex_defs.specs.declared.Token.{Token}
use Rattle.tex_syntax.specs.declared.words.Want.TheVariants.{Copied}
use Rattle.plain_tokens.specs.Pending.{all_puts}
use Rattle.plain_tokens.specs.Puts.{Put}
use Rattle.plain_tokens.specs.Tables.{refused}
use Rattle.equivalents.specs.declared.values.Loc.{Loc}
use Rattle.equivalents.specs.declared.values.Loc.TheVariants as loc
use Rattle.equivalents.specs.declared.values.Val.TheVariants as val
use Rattle.equivalents.specs.Groups.{Groups, set, set_demands}
use Rattle.equivalents.specs.Locations.{V, IsTokens, Suits}
use Rattle.equivalents.specs.Tables.{Tables, get}
use Rattle.rows.specs.Internal.{is_list}
use Rattle.rows.specs.Readings.{Ask, More}
use Rattle.rows.specs.declared.command.Call.{Call}
use Rattle.rows.specs.declared.command.Effect.TheVariants as effect
use Rattle.plain_readings.specs.Readings.{Reading, ask}
use Rattle.reading_frames.specs.Views.{top_list}
use Rattle.reading_frames.specs.Stack.{Stack, innermost_count, lists_beneath, asked_in, AsksCopied}
use Rattle.reading_frames.specs.Frames as frames
use Rattle.reading_frames.specs.Frames.{AreShallow}
use Rattle.reading_frames.specs.Weights.{stack_weight}
use Rattle.plain_machine.specs.declared.broken.Broken.{Broken}
use Rattle.plain_machine.specs.declared.broken.Broken.TheVariants as broken
use Rattle.plain_machine.specs.States.{State, Move, Closed, ListSet, Set}
use Rattle.plain_machine.specs.Plan.{Page, acts_above, behind_assignment, copies, is_copying, is_global, list_given, list_number, list_set}
use Rattle.plain_machine.specs.Does.{Did}
use Rattle.plain_machine.specs.Numbers.{tables_of}
use Rattle.plain_machine.proofs.Doing.{did_join}
use Rattle.plain_machine.proofs.GroupNumbers.{groups_shared, set_demands_of}
use Rattle.plain_machine.proofs.Holders.{listed_free, set_cases, value_is_held}
use Rattle.plain_machine.proofs.Pulls.{list_given_none}
use Rattle.plain_machine.proofs.Ties.{tied_listed}
use Rattle.input_state.specs.HeldLists as held
use Rattle.input_state.specs.AtLocations.{SetsList}
use Rattle.input_state.specs.Stored.{Stored, KeepsShared}
use Rattle.input_state.specs.Callings.{NotCalling}
use Rattle.gullet.proofs.Stepping.{free_of}
use Rattle.engine_state.specs.declared.engine.Engine.{Engine}
use Rattle.engine_state.specs.Book.{Book, with_work}
use Rattle.engine_state.specs.CutReadings.{CutsIn}
use Rattle.engine_state.specs.Rules.{Went}
use Rattle.engine_state.specs.Stands.{Stands, page_of, state_of}
use Rattle.plain_machine.specs.Weights.{pending_weight}
use Rattle.engine_state.specs.Steps.{weight}
use Rattle.engine_state.proofs.Uncalled.{all_of}
use Rattle.engine_state.proofs.CuttingReadings.{in_by, later_in}
use Rattle.engine_state.proofs.Joining.{went_by, went_on}
use Rattle.engine_state.proofs.Grouping.{asks_same}
use Rattle.stomach.proofs.ActingAlone.{value_length}
use Rattle.stomach.proofs.Lighter.{weight_none}
use Rattle.stomach.proofs.Passing.{IsGiven, first_is, passed_went, unpassed_cut}
use Rattle.stomach.proofs.Regrouped.{regrouped_did, regrouped_stands}

-- A LIST AT A LOCATION

-- what stands where a list stands is one
pub tokens_there : (m : Tables) (l : Loc) → is_list l ≡ true → IsTokens (get m l)
tokens_there m (loc.Register register.Toks n) h = tt
tokens_there m (loc.Tokens i) h = tt
tokens_there m l h = absurd cc

pub suits_list : (l : Loc) (v : V) → is_list l ≡ true → IsTokens v → Suits l v
suits_list (loc.Register register.Toks n) v h tokens = tokens
suits_list (loc.Tokens i) v h tokens = tokens
suits_list l v h tokens = absurd cc

-- THAT OF ANOTHER LOCATION is shared

module _ (e : Engine) (i : Stored) (global : Bool) (l m : Loc) (is : i ≡ record e.input { groups = set global e.input.groups l (get e.input.groups.now m); lists = i.lists }) where
  abbrev given : Groups
  given = set global e.input.groups l (get e.input.groups.now m)

  pub shared_did : (sizes : Sizes) (w : World) (book : Book) → Stands sizes e book → refused e.input.sizes (set_demands global e.input.groups l) ≡ None →
      Did sizes (state_of e book) (state_of (record e { input = i }) book) w w (Set global l (get (page_of e book).now m) ∷ [])
  shared_did sizes w book st fits =
      regrouped_did e given i is sizes w book (Set global l (get (tables_of book.number e.input.groups.now) m)) tt
      (asks_same sizes e book None st.sound _ _ (set_demands_of book.number global e.input.groups l) fits)
      (ap (λ (g : Groups). record (state_of e book) { groups = g }) (sym (groups_shared book.number global e.input.groups l m)))

  -- each list that is held then was held
  pub shared_stands : KeepsShared e.input i → (sizes : Sizes) (book : Book) → Stands sizes e book → Stands sizes (record e { input = i }) book
  shared_stands kept sizes book st =
      regrouped_stands e given i is (value_length global e.input.groups l (get e.input.groups.now m))
      (λ n held. ⊎_elim (λ own. value_is_held n e.input.groups m own) (λ was. was) (set_cases n global e.input.groups l (get e.input.groups.now m) held)) kept sizes book st

-- THE LIST ON TOP passes to a location

module _ (l : Loc) (global : Bool) where
  -- where it stands there
  abbrev stands_by : Groups → ℕ → Groups
  stands_by g k = set global g l (val.Tokens (Some k))

  listed_given : (g g' : Groups) (puts : List Put) (lists lists' : List (List Token)) (ts us : List Token) → us ≡ ts → SetsList global g g' puts lists lists' us l → IsGiven stands_by g g' puts lists' ts
  listed_given g g' puts lists lists' ts us same d = record { id = d.id; free = d.free; outside = d.outside; gives = d.sets; list = d.list ∙ same }

pub list_went : (sizes : Sizes) (e : Engine) (book : Book) (w : World) (r : Reading) (rs : List Reading) (c : Call) (l : Loc) (global : Bool) (stack : Stack) (i : Stored) → global ≡ is_global (page_of e book) c → top_list e.input.builds ≢ [] →
    stack ≡ record { frames = drop 1 e.readings.frames; size = e.readings.size } →
    ((lists : List (List Token)) (work : List Reading) → frames.AreFramesOf None e.readings.frames lists work → frames.AreFramesOf None stack.frames (lists_beneath e.readings.frames lists) (drop 1 work)) →
    ((lists : List (List Token)) → AreShallow e.readings.frames lists → AreShallow stack.frames (lists_beneath e.readings.frames lists)) →
    i ≡ record e.input { builds = drop 1 e.input.builds; groups = i.groups; lists = i.lists } → SetsList global e.input.groups i.groups (all_puts e.input.pending) e.input.lists i.lists (held.first_list e.input.builds) l → KeepsShared e.input i →
    refused e.input.sizes (set_demands global e.input.groups l) ≡ None →
    Stands sizes e (with_work (r ∷ rs) book) → innermost_count e.readings.frames ≡ 1 →
    Went sizes (state_of e (with_work (r ∷ rs) book)) (record e { readings = stack; input = i }) w w (ListSet (is_global (page_of e book) c) l (top_list e.input.builds) ∷ []) 0
list_went sizes e book w r rs c l global stack i is_so some rest stand shallow after sets kept fits st own =
    let ts : List Token = top_list e.input.builds in
    let here : Book = with_work (r ∷ rs) book in
    went_by sizes (state_of e here) (record e { readings = stack; input = i }) w w (ListSet global l ts ∷ []) _ 0 (ap (λ (b : Bool). ListSet b l ts ∷ []) (sym is_so))
    (passed_went sizes e book w r rs ts some stack (ap (λ (s : Stack). s.size) rest) own stand shallow st (ListSet global l ts) (stands_by l global) (λ s. refl) tt refl
    (asks_same sizes e here None st.sound _ _ (set_demands_of book.number global e.input.groups l) fits)
    (λ number id new g free outside. listed_free number id new global g free outside l)
    (λ number all_lists g puts lists lists' id us tied there longer is kept. tied_listed number all_lists global g puts lists lists' l id us tied there longer is kept)
    (λ g id. value_length global g l (val.Tokens (Some id)))
    i after (listed_given l global e.input.groups i.groups (all_puts e.input.pending) e.input.lists i.lists ts (held.first_list e.input.builds) (first_is e.input.builds) sets) kept)

-- the save stack is full
pub list_cut : (sizes : Sizes) (e : Engine) (book : Book) (w : World) (r : Reading) (rs : List Reading) (c : Call) (l : Loc) (global : Bool) (i : Stored) (full : Full) → global ≡ is_global (page_of e book) c → i ≡ e.input →
    refused e.input.sizes (set_demands global e.input.groups l) ≡ Some full → Stands sizes e (with_work (r ∷ rs) book) →
    CutsIn sizes (state_of e (with_work (r ∷ rs) book)) (record e { input = i }) w w (ListSet (is_global (page_of e book) c) l (top_list e.input.builds) ∷ []) (broken.Full full)
list_cut sizes e book w r rs c l global i full is_so same refuses st =
    let here = with_work (r ∷ rs) book in
    let ts = top_list e.input.builds in
    in_by sizes (state_of e here) (record e { input = i }) w w (ListSet global l ts ∷ []) (ListSet (is_global (page_of e book) c) l ts ∷ []) (broken.Full full) (ap (λ (b : Bool). ListSet b l ts ∷ []) (sym is_so))
    (unpassed_cut sizes e here w i (ListSet global l ts) full same (asks_same sizes e here (Some full) st.sound _ _ (set_demands_of book.number global e.input.groups l) refuses) st)

-- what is set, behind which the token comes that `\afterassignment` kept
pub sets_some : (page : Page) (c : Call) (l : Loc) (ts us : List Token) → us ≡ ts → ts ≢ [] → list_set page c l us ≡ (ListSet (is_global page c) l ts ∷ []) ++ behind_assignment page.after
sets_some page c l ts [] is some = absurd (some (sym is))
sets_some page c l ts (t ∷ us) is some = ap (λ (x : List Token). ListSet (is_global page c) l x ∷ behind_assignment page.after) is

pub sets_none : (page : Page) (c : Call) (l : Loc) (us : List Token) → us ≡ [] → list_set page c l us ≡ (Closed ∷ Set (is_global page c) l (val.Tokens None) ∷ []) ++ behind_assignment page.after
sets_none page c l us is = ap (list_set page c l) is

-- THE READING ENDS, and then a value is set

module _ (sizes : Sizes) (e e1 : Engine) (book : Book) (w : World) (rs : List Reading) (s : State) (closed : Did sizes s (state_of e1 (with_work rs book)) w w (Closed ∷ [])) (c : Call) (l : Loc) (v : V) (global : Bool) (is_so : global ≡ is_global (page_of e book) c) where
  abbrev left : Book
  left = with_work rs book

  abbrev sets : Bool → List Move
  sets b = Closed ∷ Set b l v ∷ []

  pub set_went : (e2 : Engine) → Did sizes (state_of e1 left) (state_of e2 left) w w (Set global l v ∷ []) → Stands sizes e2 left → Went sizes s e2 w w (sets (is_global (page_of e book) c)) 0
  set_went e2 did st =
      subst (λ (b : Bool). Went sizes s e2 w w (sets b) 0) is_so
      (record { book' = left; stands = all_of sizes e2 left st; did = did_join sizes s (state_of e1 left) (state_of e2 left) w w w (Closed ∷ []) (Set global l v ∷ []) closed did; count = refl })

  pub set_in : (e2 : Engine) (b : Broken) → CutsIn sizes (state_of e1 left) e2 w w (Set global l v ∷ []) b → CutsIn sizes s e2 w w (sets (is_global (page_of e book) c)) b
  set_in e2 b cuts = subst (λ (x : Bool). CutsIn sizes s e2 w w (sets x) b) is_so (later_in sizes s (state_of e1 left) e2 w w w (Closed ∷ []) (Set global l v ∷ []) b closed cuts)

-- THE LIST IS GIVEN, as the readings beneath ask

copies_more : (a : Ask) → a ≡ More Copied → copies a ≡ true
copies_more a is = ap copies is

copies_no : (a : Ask) → (Some a ≡ Some (More Copied) → ⊥) → copies a ≡ false
copies_no (More Copied) h = absurd (h refl)
copies_no a h = refl

copying : (work : List Reading) → AsksCopied (asked_in work) → is_copying work ≡ true
copying [] h = absurd cc
copying (r ∷ rs) h = let same : ask r.kind r.fed ≡ More Copied = cc in copies_more (ask r.kind r.fed) same

copying_not : (work : List Reading) → (AsksCopied (asked_in work) → ⊥) → is_copying work ≡ false
copying_not [] h = refl
copying_not (r ∷ rs) h = copies_no (ask r.kind r.fed) h

module _ (sizes : Sizes) (e e1 : Engine) (book : Book) (w : World) (rs : List Reading) (s : State) (closed : Did sizes s (state_of e1 (with_work rs book)) w w (Closed ∷ [])) (page : page_of e1 (with_work rs book) ≡ page_of e book) (c : Call) (l : Loc) (copied : Bool)
    (is : is_copying rs ≡ copied) where
  abbrev rest : Book
  rest = with_work rs book

  abbrev gives : List Move
  gives = list_given (page_of e1 rest) copied (list_number (page_of e1 rest) l)

  whole_given : acts_above rs (page_of e book) c (effect.PutList l) ≡ (Closed ∷ []) ++ gives
  whole_given = ap (λ (b : Bool). Closed ∷ list_given (page_of e book) b (list_number (page_of e book) l)) is ∙ ap (λ (p : Page). Closed ∷ list_given p copied (list_number p l)) (sym page)

  pub gives_went : (e2 : Engine) (after : Book) → Did sizes (state_of e1 rest) (state_of e2 after) w w gives → Stands sizes e2 after → Went sizes s e2 w w (acts_above rs (page_of e book) c (effect.PutList l)) 0
  gives_went e2 after did st =
      went_by sizes s e2 w w ((Closed ∷ []) ++ gives) _ 0 whole_given
      (went_on sizes s (state_of e1 rest) e2 w w w (Closed ∷ []) gives 0 0 closed refl
      (record { book' = after; stands = all_of sizes e2 after st; did = did; count = free_of gives (list_given_none (page_of e1 rest) copied (list_number (page_of e1 rest) l)) }))

  pub gives_in : (e2 : Engine) (b : Broken) → CutsIn sizes (state_of e1 rest) e2 w w gives b → CutsIn sizes s e2 w w (acts_above rs (page_of e book) c (effect.PutList l)) b
  gives_in e2 b cuts = in_by sizes s e2 w w ((Closed ∷ []) ++ gives) _ b whole_given (later_in sizes s (state_of e1 rest) e2 w w w (Closed ∷ []) gives b closed cuts)

pub copied_as : (b : Bool) (work : List Reading) → MatchBool b (AsksCopied (asked_in work)) (AsksCopied (asked_in work) → ⊥) → is_copying work ≡ b
copied_as true work h = copying work h
copied_as false work h = copying_not work h

-- behind the end of a reading, which made it lighter, it stays so
pub given_lighter : (e e1 e2 : Engine) → weight e1 < weight e → e1.input.call ≡ NotCalling → e2.input.call ≡ e1.input.call → e2.readings ≡ e1.readings → pending_weight e2.input.pending ≡ pending_weight e1.input.pending → weight e2 < weight e
given_lighter e e1 e2 less none call readings left = omega (arith, less, weight_none e1 none, weight_none e2 (call ∙ none), left, ap (λ (s : Stack). stack_weight s) readings)
