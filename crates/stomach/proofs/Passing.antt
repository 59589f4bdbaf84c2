-- The list on top passes to a name or to a location, under a new number, and behind it comes the token that `\afterassignment` kept.
use Rattle.std.proofs.Common.{◌≡◌, ℕ, zero, suc, ◌<◌, ◌≤◌, Bool, true, false, List, [], ◌∷◌, ◌++◌, length, drop, map, replicate, Option, Some, None, refl, sym, ap, ap₂, ◌∙◌, subst, arith}
use Rattle.std.specs.Prelude.{◌≢◌, ◌||◌, slice_index_or}
use Rattle.std.proofs.lemmas.Bool.{or_parts}
use Rattle.std.proofs.lemmas.List.{append-nil, length-append, get_or_append_left, length-replicate}
use Rattle.tex_defs.specs.Places.{World}
use Rattle.tex_defs.specs.declared.Full.{Full}
use Rattle.tex_defs.specs.declared.Sizes.{Sizes}
use Rattle.tex_defs.specs.declared.Token.{Token}
use Rattle.plain_tokens.specs.Meanings.{is_listed}
use Rattle.plain_tokens.specs.Pending.{Pending, Source, all_puts, outer_puts}
use Rattle.plain_tokens.specs.Puts.{Put}
use Rattle.plain_tokens.specs.Tables.{is_put, is_whole}
use Rattle.equivalents.specs.Groups.{Groups}
use Rattle.equivalents.specs.Holding.{lists_held, lists_outside}
use Rattle.plain_readings.specs.Readings.{Reading}
use Rattle.reading_frames.specs.Views.{top_list, kept_list_of}
use Rattle.reading_frames.specs.Stack.{Stack, innermost_count, lists_beneath}
use Rattle.reading_frames.specs.Frames as frames
use Rattle.reading_frames.specs.Frames.{AreShallow}
use Rattle.plain_machine.specs.declared.broken.Broken.{Broken}
use Rattle.plain_machine.specs.declared.broken.Broken.TheVariants as broken
use Rattle.plain_machine.specs.States.{State, Move, made, beneath}
use Rattle.plain_machine.specs.Demands.{refusal}
use Rattle.plain_machine.specs.Does.{Did}
use Rattle.plain_machine.specs.Numbers.{IsHeld, Tied, renumbered, groups_of, pending_of, source_of}
use Rattle.plain_machine.specs.Plan.{behind_assignment}
use Rattle.plain_machine.specs.Runs.{steps}
use Rattle.plain_machine.proofs.Doing.{did_one}
use Rattle.plain_machine.proofs.Ties.{puts_renumbered}
use Rattle.input_state.specs.HeldLists as held
use Rattle.input_state.specs.Macros.{list_at, is_shared}
use Rattle.input_state.specs.Stored.{Stored, KeepsShared, gathered}
use Rattle.input_state.specs.Callings.{NotCalling}
use Rattle.engine_state.specs.declared.engine.Engine.{Engine}
use Rattle.engine_state.specs.Book.{Book, AreBodies, with_work}
use Rattle.engine_state.specs.CutReadings.{CutsIn}
use Rattle.engine_state.specs.Rules.{Cuts, Went}
use Rattle.engine_state.specs.Stands.{Stands, Counts, SameFrames, SameOthers, SameStore, state_of}
use Rattle.engine_state.proofs.Uncalled.{all_of, framed}
use Rattle.engine_state.proofs.CallKept.{all_still}
use Rattle.engine_state.proofs.Counting.{counts_of}
use Rattle.engine_state.proofs.FramesHeld.{gathered_is, held_beneath, stands_gathered}
use Rattle.engine_state.proofs.CuttingReadings.{in_by, first_in, later_in, stands_in}
use Rattle.engine_state.proofs.Joining.{IsQuiet, quiet_here, went_on}
use Rattle.engine_state.proofs.Storing.{inside_by, body_at, sound_still}
use Rattle.engine_state.proofs.Grouping.{unchanged_cuts}
use Rattle.stomach.specs.Sets.{with_macro}

-- LISTS

pub first_is : (lists : List (List Token)) → held.first_list lists ≡ top_list lists
first_is [] = refl
first_is (ts ∷ lists) = refl

-- a list with a token is the one on top
pub kept_top : (listed : Bool) (lists : List (List Token)) → kept_list_of listed lists ≢ [] → kept_list_of listed lists ≡ top_list lists
kept_top true lists some = refl
kept_top false lists some = absurd (some refl)

-- no list behind others changes what stands where
nothing_more : (lists : List (List Token)) (n k : ℕ) → slice_index_or (lists ++ replicate n []) k [] ≡ slice_index_or lists k []
nothing_more [] zero k = refl
nothing_more [] (suc n) zero = refl
nothing_more [] (suc n) (suc k) = nothing_more [] n k
nothing_more (ts ∷ lists) n zero = refl
nothing_more (ts ∷ lists) n (suc k) = nothing_more lists n k

pub bodies_more : (all_lists : List (List Token)) (ts : List Token) → AreBodies all_lists → ts ≢ [] → AreBodies (all_lists ++ ts ∷ [])
bodies_more [] ts h some = (some, tt)
bodies_more (us ∷ all_lists) ts h some = (h.0, bodies_more all_lists ts h.1 some)

-- THE MACROS

module _ (number : ℕ → ℕ) (all_lists : List (List Token)) (ts : List Token) where
  -- one that no name means
  pub tied_more : (holders : List ℕ) (puts : List Put) (lists : List (List Token)) → Tied number all_lists holders puts lists → Tied number (all_lists ++ ts ∷ []) holders puts lists
  tied_more holders puts lists t = record {
    inside = t.inside;
    within = λ n h. omega (arith, t.within n h, length-append all_lists (ts ∷ []));
    tokens = λ n h. get_or_append_left all_lists (ts ∷ []) [] (number n) (t.within n h) ∙ t.tokens n h;
    apart = t.apart;
  }

  -- lists of which only those without tokens are too few
  tied_fewer : (holders : List ℕ) (puts : List Put) (lists : List (List Token)) (n : ℕ) → AreBodies all_lists → Tied number all_lists holders puts (lists ++ replicate n []) → Tied number all_lists holders puts lists
  tied_fewer holders puts lists n bodies t = record {
    inside = λ k h. inside_by lists k (λ none. body_at all_lists (number k) bodies (t.within k h) (tokens k h ∙ none));
    within = t.within;
    tokens = tokens;
    apart = t.apart;
  } where
    tokens : (k : ℕ) → IsHeld k holders puts → slice_index_or all_lists (number k) [] ≡ slice_index_or lists k []
    tokens k h = t.tokens k h ∙ nothing_more lists n k

-- WHAT IS PENDING keeps its numbers where one that it hasn't is another

put_parts : (n : ℕ) (ps qs : List Put) → is_put n (ps ++ qs) ≡ false → (is_put n ps ≡ false) × (is_put n qs ≡ false)
put_parts n [] qs h = (refl, h)
put_parts n (p ∷ ps) qs h =
    let parts : (is_whole n p.list ≡ false) × (is_put n (ps ++ qs) ≡ false) = or_parts (is_whole n p.list) (is_put n (ps ++ qs)) h in
    let behind : (is_put n ps ≡ false) × (is_put n qs ≡ false) = put_parts n ps qs parts.1 in
    (ap₂ (λ (a b : Bool). a || b) parts.0 behind.0, behind.1)

module _ (number : ℕ → ℕ) (id new : ℕ) where
  outer_renumbered : (outer : List Source) → is_put id (outer_puts outer) ≡ false → map (source_of (renumbered number id new)) outer ≡ map (source_of number) outer
  outer_renumbered [] h = refl
  outer_renumbered (s ∷ outer) h =
      let parts : (is_put id s.puts ≡ false) × (is_put id (outer_puts outer) ≡ false) = put_parts id s.puts (outer_puts outer) h in
      ap₂ (λ (ps : List Put) (ss : List Source). record s { puts = ps } ∷ ss) (puts_renumbered number id new s.puts parts.0) (outer_renumbered outer parts.1)

  pending_renumbered : (p : Pending) → is_put id (all_puts p) ≡ false → pending_of (renumbered number id new) p ≡ pending_of number p
  pending_renumbered p h =
      let parts : (is_put id p.puts ≡ false) × (is_put id (outer_puts p.outer) ≡ false) = put_parts id p.puts (outer_puts p.outer) h in
      ap₂ (λ (ps : List Put) (ss : List Source). record p { puts = ps; outer = ss }) (puts_renumbered number id new p.puts parts.0) (outer_renumbered p.outer parts.1)

-- THE READING ENDS, and its list passes to where the move says: it stands there under the number of the last of the machine's lists.

-- what such a move makes
abbrev pub Passes : Move → List Token → (given : Groups → ℕ → Groups) → Type 0
Passes m ts given = (s : State) → made m s ≡ record s { groups = given s.groups (length s.all_lists); all_lists = s.all_lists ++ ts ∷ []; work = drop 1 s.work; gathered = beneath s.work s.gathered }

-- a list of a new number gets the machine's
abbrev pub Renumbers : (given : Groups → ℕ → Groups) → Type 0
Renumbers given = (number : ℕ → ℕ) (id new : ℕ) (g : Groups) → is_listed (lists_held g) id ≡ false → is_listed (lists_outside g.outer) id ≡ false → groups_of (renumbered number id new) (given g id) ≡ given (groups_of number g) new

-- and is tied to its tokens
abbrev pub Ties : (given : Groups → ℕ → Groups) → Type 0
Ties given = (number : ℕ → ℕ) (all_lists : List (List Token)) (g : Groups) (puts : List Put) (lists lists' : List (List Token)) (id : ℕ) (ts : List Token) → Tied number all_lists (lists_held g) puts lists → id < length lists' → length lists ≤ length lists' →
    slice_index_or lists' id [] ≡ ts → ((n : ℕ) → (n ≡ id → ⊥) → IsHeld n (lists_held (given g id)) puts → slice_index_or lists' n [] ≡ slice_index_or lists n []) →
    Tied (renumbered number id (length all_lists)) (all_lists ++ ts ∷ []) (lists_held (given g id)) puts lists'

-- how many meanings there are stays
abbrev pub KeepsNames : (given : Groups → ℕ → Groups) → Type 0
KeepsNames given = (g : Groups) (id : ℕ) → length (given g id).now.meanings ≡ length g.now.meanings

-- the list stands there under a number that no shared list had
pub record IsGiven (given : Groups → ℕ → Groups) (groups new_groups : Groups) (puts : List Put) (lists : List (List Token)) (ts : List Token) : Type 0 where
  pub id : ℕ
  pub free : is_shared id (lists_held groups) puts ≡ false
  pub outside : is_listed (lists_outside groups.outer) id ≡ false
  pub gives : new_groups ≡ given groups id
  pub list : list_at lists id ≡ ts

module _ (sizes : Sizes) (e : Engine) (book : Book) (w : World) (r : Reading) (rs : List Reading) (ts : List Token) (some : ts ≢ []) (stack : Stack) (size : stack.size ≡ e.readings.size) (own : innermost_count e.readings.frames ≡ 1)
    (stand : (lists : List (List Token)) (work : List Reading) → frames.AreFramesOf None e.readings.frames lists work → frames.AreFramesOf None stack.frames (lists_beneath e.readings.frames lists) (drop 1 work))
    (shallow : (lists : List (List Token)) → AreShallow e.readings.frames lists → AreShallow stack.frames (lists_beneath e.readings.frames lists)) (st : Stands sizes e (with_work (r ∷ rs) book))
    (m : Move) (given : Groups → ℕ → Groups) (passes : Passes m ts given) (quiet : IsQuiet m) (silent : steps (m ∷ []) ≡ 0) (fits : refusal sizes m (state_of e (with_work (r ∷ rs) book)) ≡ None) where
  abbrev here : Book
  here = with_work (r ∷ rs) book

  abbrev after : Groups → List (List Token) → Engine
  after g lists = record e { readings = stack; input = record e.input { builds = drop 1 e.input.builds; groups = g; lists = lists } }

  own_beneath : lists_beneath e.readings.frames e.input.builds ≡ drop 1 e.input.builds
  own_beneath = ap (λ (n : ℕ). drop n e.input.builds) own

  under : (g : Groups) (lists : List (List Token)) → beneath (r ∷ rs) (gathered e.input) ≡ gathered (after g lists).input
  under g lists =
      ap (λ (l : List (List Token)). beneath (r ∷ rs) l) (stands_gathered sizes e here st) ∙ (held_beneath e.readings.frames e.input.builds (r ∷ rs) st.readings.frames ∙ (own_beneath
      ∙ sym (gathered_is (after g lists).input st.uncalled)))

  module _ (number : ℕ → ℕ) (g : Groups) (lists : List (List Token)) (same : length g.now.meanings ≡ length e.input.groups.now.meanings) (tied : Tied number (book.all_lists ++ ts ∷ []) (lists_held g) (all_puts e.input.pending) lists)
      (same_pending : pending_of number e.input.pending ≡ pending_of book.number e.input.pending) (gives_it : groups_of number g ≡ given (groups_of book.number e.input.groups) (length book.all_lists)) where
    abbrev then : Engine
    then = after g lists

    abbrev next : Book
    next = with_macro number ts here

    list_stands : Stands sizes then next
    list_stands = record {
      sound = record {
        sized = record {
          few_reports = st.sound.sized.few_reports;
          own = st.sound.sized.own;
          readings = size ∙ st.sound.sized.readings;
          conditionals = st.sound.sized.conditionals;
          input = st.sound.sized.input;
          names = st.sound.sized.names;
          located = same ∙ st.sound.sized.located;
        };
        tied = tied;
        bodies = bodies_more book.all_lists ts st.sound.bodies some;
      };
      idle = st.idle;
      readings = record {
        frames = subst (λ (l : List (List Token)). frames.AreFramesOf None stack.frames l rs) own_beneath (stand e.input.builds (r ∷ rs) st.readings.frames);
        shallow = subst (λ (l : List (List Token)). AreShallow stack.frames l) own_beneath (shallow e.input.builds st.readings.shallow);
      };
      uncalled = st.uncalled;
    }

    abbrev given_state : Pending → Groups → List (List Token) → State
    given_state p x l = record (state_of e here) { all_lists = book.all_lists ++ ts ∷ []; work = rs; pending = p; groups = x; gathered = l }

    list_state : made m (state_of e here) ≡ state_of then next
    list_state =
        passes (state_of e here)
        ∙ (ap (λ (l : List (List Token)). given_state (pending_of book.number e.input.pending) (given (groups_of book.number e.input.groups) (length book.all_lists)) l) (under g lists)
        ∙ (ap (λ (x : Groups). given_state (pending_of book.number e.input.pending) x (gathered then.input)) (sym gives_it)
        ∙ ap (λ (p : Pending). given_state p (groups_of number g) (gathered then.input)) (sym same_pending)))

    list_went : Went sizes (state_of e here) then w w (m ∷ []) 0
    list_went = record { book' = next; stands = all_of sizes then next list_stands; did = did_one sizes m (state_of e here) (state_of then next) w w fits list_state (quiet_here m w quiet); count = silent }

  module _ (renumbers : Renumbers given) (ties : Ties given) (keeps : KeepsNames given) where
    given_went : (g : Groups) (lists : List (List Token)) → IsGiven given e.input.groups g (all_puts e.input.pending) lists ts → KeepsShared e.input (after g lists).input → Went sizes (state_of e here) (after g lists) w w (m ∷ []) 0
    given_went g lists d kept =
        let puts = all_puts e.input.pending in
        let old = e.input.groups in
        let id = d.id in
        let apart : (is_listed (lists_held old) id ≡ false) × (is_put id puts ≡ false) = or_parts (is_listed (lists_held old) id) (is_put id puts) d.free in
        let count = length e.input.lists in
        let more : List (List Token) = lists ++ replicate count [] in
        let number : ℕ → ℕ = renumbered book.number id (length book.all_lists) in
        let there : id < length lists = inside_by lists id (λ none. some (sym d.list ∙ none)) in
        let tied : Tied number (book.all_lists ++ ts ∷ []) (lists_held (given old id)) puts more =
        ties book.number book.all_lists old puts e.input.lists more id ts st.sound.tied
        (omega (arith, there, length-append lists (replicate count [])))
        (omega (arith, length-append lists (replicate count []), length-replicate {A = List Token} count []))
        (nothing_more lists count id ∙ d.list)
        (λ n other held. nothing_more lists count n ∙ kept.tokens n (subst (λ (x : Groups). IsHeld n (lists_held x) puts) (sym d.gives) held)) in
        list_went number g lists (ap (λ (x : Groups). length x.now.meanings) d.gives ∙ keeps old id)
        (subst (λ (x : Groups). Tied number (book.all_lists ++ ts ∷ []) (lists_held x) puts lists) (sym d.gives) (tied_fewer number (book.all_lists ++ ts ∷ []) ts (lists_held (given old id)) puts lists count (bodies_more book.all_lists ts st.sound.bodies some) tied))
        (pending_renumbered book.number id (length book.all_lists) e.input.pending apart.1)
        (ap (groups_of number) d.gives ∙ renumbers book.number id (length book.all_lists) old apart.0 d.outside)

    -- by what the input says
    pub passed_went : (i : Stored) → i ≡ record e.input { builds = drop 1 e.input.builds; groups = i.groups; lists = i.lists } → IsGiven given e.input.groups i.groups (all_puts e.input.pending) i.lists ts → KeepsShared e.input i →
        Went sizes (state_of e here) (record e { readings = stack; input = i }) w w (m ∷ []) 0
    passed_went i is d kept =
        subst (λ (x : Stored). Went sizes (state_of e here) (record e { readings = stack; input = x }) w w (m ∷ []) 0) (sym is) (given_went i.groups i.lists d (subst (KeepsShared e.input) is kept))

-- THE SAVE STACK IS FULL: nothing has changed
pub unpassed_cut : (sizes : Sizes) (e : Engine) (book : Book) (w : World) (i : Stored) (m : Move) (full : Full) → i ≡ e.input → refusal sizes m (state_of e book) ≡ Some full → Stands sizes e book →
    CutsIn sizes (state_of e book) (record e { input = i }) w w (m ∷ []) (broken.Full full)
unpassed_cut sizes e book w i m full same refuses st =
    stands_in sizes e (record e { input = i }) book w w (m ∷ []) (broken.Full full) (unchanged_cuts sizes e i book w m [] full same refuses)
    (record { readings = refl; lists = ap (λ (x : Stored). x.builds) same; call = ap (λ (x : Stored). x.call) same }) st

-- BEHIND THESE MOVES comes the token that `\afterassignment` kept

-- no step
behind_silent : (o : Option Token) → steps (behind_assignment o) ≡ 0
behind_silent None = refl
behind_silent (Some t) = refl

module _ (sizes : Sizes) (s : State) (e e1 e2 : Engine) (w : World) (moves : List Move) where
  abbrev whole : List Move
  whole = moves ++ behind_assignment e.after

  -- they aren't made
  pub unmade_in : (b : Broken) → CutsIn sizes s e1 w w moves b → CutsIn sizes s e1 w w whole b
  unmade_in b cuts = first_in sizes s e1 w w moves (behind_assignment e.after) b cuts

  module _ (none : e1.input.call ≡ NotCalling) (after : e1.after ≡ e.after) (same : SameFrames e1 e2) (went : Went sizes s e1 w w moves 0) where
    standing : Stands sizes e1 went.book'
    standing = framed sizes e1 went.book' none went.stands

    -- the token has no room
    pub unput_in : (b : Broken) → ((sizes : Sizes) (w : World) (at : Book) (more : List Move) → Counts sizes e1 at → Cuts sizes (state_of e1 at) e2 at w w (behind_assignment e1.after ++ more) b) → CutsIn sizes s e2 w w whole b
    unput_in b cuts =
        let same_moves : behind_assignment e1.after ++ [] ≡ behind_assignment e.after = append-nil (behind_assignment e1.after) ∙ ap behind_assignment after in
        later_in sizes s (state_of e1 went.book') e2 w w w moves (behind_assignment e.after) b went.did
        (in_by sizes (state_of e1 went.book') e2 w w (behind_assignment e1.after ++ []) (behind_assignment e.after) b (sym same_moves)
        (stands_in sizes e1 e2 went.book' w w (behind_assignment e1.after ++ []) b (cuts sizes w went.book' [] (counts_of sizes e1 went.book' standing)) same standing))

    -- it is put
    pub behind_went : SameOthers (record e1 { after = None }) e2 → SameStore e1.input e2.input → e2.input.making ≡ None →
        ((sizes : Sizes) (w : World) (at : Book) → Counts sizes e1 at → Did sizes (state_of e1 at) (state_of e2 at) w w (behind_assignment e1.after)) → Went sizes s e2 w w whole 0
    behind_went others store idle did =
        went_on sizes s (state_of e1 went.book') e2 w w w moves (behind_assignment e.after) 0 0 went.did went.count (record {
          book' = went.book';
          stands = all_still sizes e1 e2 went.book' same store (sound_still sizes e1 e2 went.book'.number went.book'.all_lists others.sizes others.depth others.conditionals others.names others.reports store standing.sound) idle went.stands;
          did = subst (λ (o : Option Token). Did sizes (state_of e1 went.book') (state_of e2 went.book') w w (behind_assignment o)) after (did sizes w went.book' (counts_of sizes e1 went.book' standing));
          count = behind_silent e.after;
        })
