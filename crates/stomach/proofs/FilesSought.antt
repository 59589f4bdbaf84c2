-- A file's name that is spelt, with `.tex` where it has no extension; its reading ends, and the file is looked for.
use Rattle.std.proofs.Common.{◌≡◌, ℕ, ◌+◌, ◌<◌, ◌≤◌, Bool, true, false, List, [], ◌∷◌, ◌++◌, length, take, drop, refl, sym, ap, ap₂, ◌∙◌, subst, append_assoc, arith}
use Rattle.std.specs.Prelude.{Option, Some, None, codes, nat_le, if◌then◌else◌}
use Rattle.std.proofs.lemmas.Bool.Decides.{nat_tests}
use Rattle.std.proofs.lemmas.List.{length-append}
use Rattle.tex_defs.specs.Places.{World}
use Rattle.tex_defs.specs.declared.Full.{Full}
use Rattle.tex_defs.specs.declared.Sizes.{Sizes}
use Rattle.tex_defs.specs.declared.Table.TheVariants.{BufferSize}
use Rattle.plain_tokens.specs.Pending.{Pending, end_token_lists}
use Rattle.plain_tokens.specs.Tables.{buffer, open_lines, spelt_name, refused}
use Rattle.command_words.specs.Words.{has, behind_area, file_name}
use Rattle.plain_readings.specs.Readings.{Reading}
use Rattle.rows.specs.declared.command.Call.{Call}
use Rattle.rows.specs.declared.command.Effect.{Effect}
use Rattle.rows.specs.Readings.{ActsOn}
use Rattle.reading_frames.specs.Stack.{asks_in}
use Rattle.reading_frames.specs.Weights.{frames_weight, innermost_weight, stack_weight}
use Rattle.plain_readings.specs.Weights.{act_frame, act_weight}
use Rattle.stomach.proofs.RuleCloses.{closed_lighter_behind}
use Rattle.plain_machine.specs.declared.broken.Broken.{Broken}
use Rattle.plain_machine.specs.States.{Move, Spelt, Closed, NameInProgress, ListsEnded, made}
use Rattle.plain_machine.specs.Plan.{given_back}
use Rattle.plain_machine.specs.Does.{Did}
use Rattle.plain_machine.proofs.Doing.{did_join, did_one}
use Rattle.plain_machine.proofs.Renumbering.{settle_of}
use Rattle.input_state.specs.Stored.{Stored, KeepsShared, spelt}
use Rattle.input_state.specs.Callings.{NotCalling, Calling, call_in}
use Rattle.engine_state.specs.declared.engine.Engine.{Engine}
use Rattle.engine_state.specs.Book.{Book, with_work}
use Rattle.engine_state.specs.CutReadings.{CutsIn}
use Rattle.engine_state.specs.Stands.{Stands, SameFrames, SameBut, state_of, page_of}
use Rattle.plain_machine.specs.Weights.{pending_weight}
use Rattle.engine_state.specs.Steps.{weight, readings_weight}
use Rattle.engine_state.proofs.CuttingReadings.{in_by, later_in}
use Rattle.engine_state.proofs.Joining.{quiet_here}
use Rattle.engine_state.proofs.Storing.{sized_but, store_settled}
use Rattle.gullet.proofs.JobName.{name_stands}
use Rattle.stomach.specs.Files.{input_front, Sought}
use Rattle.stomach.specs.Naming.{IsTooLong, OnlySpelt}

-- THE NAME

pub dotted : (name : List ℕ) → has 46 (behind_area name) ≡ true → file_name name ≡ name
dotted name h = ap (λ (b : Bool). if b then name else name ++ codes ".tex") h

pub undotted : (name : List ℕ) → has 46 (behind_area name) ≡ false → file_name name ≡ name ++ codes ".tex"
undotted name h = ap (λ (b : Bool). if b then name else name ++ codes ".tex") h

file_longer : (name : List ℕ) → length name ≤ length (file_name name)
file_longer name = by (has 46 (behind_area name)) where
  by : (b : Bool) → length name ≤ length (if b then name else name ++ codes ".tex")
  by true = omega arith
  by false = omega (arith, length-append name (codes ".tex"))

-- where a name has no room a longer one has none
no_room_by : (full full' : Full) (used need more size : ℕ) (a b : Bool) → nat_le (used + need) size ≡ a → nat_le (used + more) size ≡ b → need ≤ more →
    (if a then None else Some full) ≡ Some full' → (if b then None else Some full) ≡ Some full'
no_room_by full full' used need more size true b is is' le r = absurd cc
no_room_by full full' used need more size false true is is' le r = absurd (grind (arith, nat_tests, is, is', le))
no_room_by full full' used need more size false false is is' le r = r

longer_refused : (sizes : Sizes) (used need more : ℕ) (full : Full) → need ≤ more → refused sizes (buffer need used ∷ []) ≡ Some full → refused sizes (buffer more used ∷ []) ≡ Some full
longer_refused sizes used need more full le r =
    no_room_by (record { table = BufferSize; used = used; size = sizes.buffer_size }) full used need more sizes.buffer_size (nat_le (used + need) sizes.buffer_size) (nat_le (used + more) sizes.buffer_size) refl refl le r

pub file_too_long : (e : Engine) (name : List ℕ) (b : Broken) → IsTooLong e name b → IsTooLong e (file_name name) b
file_too_long e name b h = record {
  full = h.full;
  is = h.is;
  refuses = longer_refused e.input.sizes (open_lines e.input.pending) (length name) (length (file_name name)) h.full (file_longer name) h.refuses;
}

-- what is spelt behind a name that is spelt
pub longer_name : (e e1 : Engine) (name more : List ℕ) (n : ℕ) (o : Option Full) → OnlySpelt e e1 → n ≡ length name → refused e1.input.sizes (buffer (n + length more) (open_lines e1.input.pending) ∷ []) ≡ o →
    refused e.input.sizes (spelt_name (name ++ more) e.input.pending ∷ []) ≡ o
longer_name e e1 name more n o only is h =
    ap (λ (k : ℕ). refused e.input.sizes (buffer k (open_lines e.input.pending) ∷ [])) (length-append name more ∙ ap (λ (k : ℕ). k + length more) (sym is))
    ∙ (sym (ap (λ (x : Engine). refused x.input.sizes (buffer (n + length more) (open_lines x.input.pending) ∷ [])) only) ∙ h)

pub spelt_twice : (e e1 e2 : Engine) → OnlySpelt e e1 → OnlySpelt e1 e2 → OnlySpelt e e2
spelt_twice e e1 e2 a b = b ∙ ap (λ (x : Engine). record x { input = record x.input { buffer = e2.input.buffer } }) a

pub spelt_room : (e e1 : Engine) (n : ℕ) → OnlySpelt e e1 → open_lines e1.input.pending + n ≤ e1.input.sizes.buffer_size → open_lines e.input.pending + n ≤ e.input.sizes.buffer_size
spelt_room e e1 n only h = subst (λ (x : Engine). open_lines x.input.pending + n ≤ x.input.sizes.buffer_size) only h

-- NO NAME IS READ ANY MORE

pub unnamed_stands : (sizes : Sizes) (e : Engine) (book : Book) (b : Bool) → Stands sizes e book → Stands sizes (record e { naming = b }) book
unnamed_stands sizes e book b st = record {
  sound = record {
    sized = sized_but sizes e e.conditionals b refl st.sound.sized;
    tied = st.sound.tied;
    bodies = st.sound.bodies;
  };
  idle = st.idle;
  readings = record { frames = st.readings.frames; shallow = st.readings.shallow };
  uncalled = st.uncalled;
}

-- THE FINISHED LISTS IN FRONT HAVE GONE

module _ (sizes : Sizes) (e : Engine) (i : Stored) (book : Book) (is : i ≡ record e.input { pending = end_token_lists e.input.pending; lists = i.lists }) where
  pub settled_stands : KeepsShared e.input i → Stands sizes e book → Stands sizes (record e { input = i }) book
  settled_stands kept st =
      name_stands sizes e (record e { input = i }) book (record { readings = refl; lists = ap (λ (x : Stored). x.builds) is; call = ap (λ (x : Stored). x.call) is })
      (record { depth = refl; names = refl; after = refl; mag_set = refl; conditionals = refl; last = refl; naming = refl; in_line = refl; reports = refl; flawed = refl; quiet = refl; sizes = refl })
      (store_settled e.input i is kept) (ap (λ (x : Stored). x.making) is ∙ st.idle) st

  pub settled_did : (w : World) → Did sizes (state_of e book) (state_of (record e { input = i }) book) w w (ListsEnded ∷ [])
  settled_did w =
      did_one sizes ListsEnded (state_of e book) (state_of (record e { input = i }) book) w w refl
      (ap (λ (p : Pending). record (state_of e book) { pending = p }) (settle_of book.number e.input.pending) ∙ ap (λ (x : Stored). state_of (record e { input = x }) book) (sym is)) (quiet_here ListsEnded w tt)

-- ITS READING ENDS

abbrev pub behind_name : List Move
behind_name = Closed ∷ NameInProgress false ∷ ListsEnded ∷ []

module _ (sizes : Sizes) (e e1 e2 : Engine) (book : Book) (w : World) (r : Reading) (rs : List Reading) (back : Bool) (name : List ℕ) where
  abbrev at : Book
  at = with_work (r ∷ rs) book

  abbrev given : List Move
  given = given_back back e.last

  -- the token behind the name has no room
  pub ungiven_in : (more : List Move) (b : Broken) → CutsIn sizes (state_of e at) e1 w w (given ++ (Spelt name ∷ behind_name ++ more)) b → CutsIn sizes (state_of e at) e1 w w (input_front (page_of e book) back name ++ more) b
  ungiven_in more b h = in_by sizes _ e1 w w _ _ b (append_assoc given (Spelt name ∷ behind_name) more) h

  module _ (put : Did sizes (state_of e at) (state_of e1 at) w w given) where
    -- the name has none
    pub unspelt_in : (more : List Move) (b : Broken) → CutsIn sizes (state_of e1 at) e2 w w (Spelt name ∷ behind_name ++ more) b → CutsIn sizes (state_of e at) e2 w w (input_front (page_of e book) back name ++ more) b
    unspelt_in more b h =
        in_by sizes _ e2 w w _ _ b (append_assoc given (Spelt name ∷ behind_name) more)
        (later_in sizes _ _ e2 w w w given (Spelt name ∷ behind_name ++ more) b put h)

    module _ (e3 : Engine) (i : Stored) (n : ℕ) (spells : Did sizes (state_of e1 at) (state_of e2 at) w w (Spelt name ∷ [])) (closes : made Closed (state_of e2 at) ≡ state_of e3 (with_work rs book)) (st : Stands sizes e3 (with_work rs book))
        (is : i ≡ record e3.input { pending = end_token_lists e3.input.pending; lists = i.lists }) (kept : KeepsShared e3.input i) where
      abbrev named : Engine
      named = record e3 { naming = false }

      abbrev outer : Book
      outer = with_work rs book

      name_over : Did sizes (state_of e3 outer) (state_of named outer) w w (NameInProgress false ∷ [])
      name_over = did_one sizes (NameInProgress false) (state_of e3 outer) (state_of named outer) w w refl refl (quiet_here (NameInProgress false) w tt)

      closed : Did sizes (state_of e2 at) (state_of e3 outer) w w (Closed ∷ [])
      closed = did_one sizes Closed (state_of e2 at) (state_of e3 outer) w w refl closes (quiet_here Closed w tt)

      pub sought : spelt i n ≡ name → open_lines i.pending + n ≤ i.sizes.buffer_size → Sought sizes (state_of e at) (record named { input = i }) outer w (input_front (page_of e book) back name) name n
      sought spelt_name room = record {
        stands = settled_stands sizes named i outer is kept (unnamed_stands sizes e3 outer false st);
        did =
            did_join sizes _ _ _ w w w given (Spelt name ∷ behind_name) put
            (did_join sizes _ _ _ w w w (Spelt name ∷ []) behind_name spells
            (did_join sizes _ _ _ w w w (Closed ∷ []) (NameInProgress false ∷ ListsEnded ∷ []) closed
            (did_join sizes _ _ _ w w w (NameInProgress false ∷ []) (ListsEnded ∷ []) name_over (settled_did sizes named i outer is w))));
        spells = spelt_name;
        room = room;
      }

-- WHAT STAYS

module _ (e2 e3 : Engine) (i : Stored) (same : SameBut e2 e3) (is : i ≡ record e3.input { pending = end_token_lists e3.input.pending; lists = i.lists }) where
  pub sought_name : (n : ℕ) → e3.input.buffer ≡ e2.input.buffer → spelt i n ≡ spelt e2.input n
  sought_name n bytes = ap (λ (x : Stored). spelt x n) is ∙ ap₂ (λ (p : Pending) (b : List ℕ). take n (drop (open_lines p) b)) same.pending bytes

  pub sought_room : (e1 : Engine) (n : ℕ) → OnlySpelt e1 e2 → open_lines e1.input.pending + n ≤ e1.input.sizes.buffer_size → open_lines i.pending + n ≤ i.sizes.buffer_size
  sought_room e1 n only room =
      let lines : open_lines i.pending ≡ open_lines e1.input.pending = ap (λ (x : Stored). open_lines x.pending) is ∙ (ap open_lines same.pending ∙ ap (λ (x : Engine). open_lines x.input.pending) only) in
      let size : i.sizes.buffer_size ≡ e1.input.sizes.buffer_size = ap (λ (x : Stored). x.sizes.buffer_size) is ∙ (ap (λ (x : Sizes). x.buffer_size) same.store.sizes ∙ ap (λ (x : Engine). x.input.sizes.buffer_size) only) in
      omega (arith, room, lines, size)

  pub sought_next : i.pending.next ≡ e2.input.pending.next
  sought_next = ap (λ (x : Stored). x.pending.next) is ∙ ap (λ (p : Pending). p.next) same.pending

  -- it is lighter
  settled_weight : e3.input.call ≡ NotCalling → weight (record e3 { naming = false; input = i }) ≡ weight e3
  settled_weight none =
      ap (λ (k : Calling). readings_weight (call_in k) (record e3 { naming = false; input = i }) + pending_weight i.pending) (ap (λ (x : Stored). x.call) is ∙ none)
      ∙ (ap (λ (x : Stored). stack_weight e3.readings + pending_weight x.pending) is ∙ ap (λ (k : Calling). readings_weight (call_in k) e3 + pending_weight e3.input.pending) (sym none))

  pub sought_lighter : (e : Engine) (c : Call) (x : Effect) → e.input.call ≡ NotCalling → SameFrames e e2 → pending_weight e2.input.pending ≡ pending_weight e.input.pending → asks_in e.readings.frames [] ≡ Some (ActsOn c x []) →
      frames_weight e3.readings.frames ≡ frames_weight (drop 1 e2.readings.frames) → innermost_weight e3.readings.frames < act_frame + act_weight → weight (record e3 { naming = false; input = i }) < weight e
  sought_lighter e c x none frames left asks count light =
      omega (arith, settled_weight (same.call ∙ (frames.call ∙ none)), closed_lighter_behind e e2 e3 (ActsOn c x []) none asks tt frames left (λ _. same) count light)
