-- The name of a macro is expanded: its body is put, or its arguments are gathered.
use Rattle.std.proofs.Common.{◌≡◌, ℕ, List, [], ◌∷◌, ◌++◌, append-nil, refl, sym, ap, subst, ◌∙◌, Bool, true, false, arith}
use Rattle.std.specs.Prelude.{Option, Some, None, Result, Ok, Err, OnOk, OnErr, IfErr, ◌||◌, ◌&&◌, if◌then◌else◌, not, take}
use Rattle.tex_syntax.specs.declared.words.Want.TheVariants.{Raw}
use Rattle.tex_defs.specs.declared.Full.{Full}
use Rattle.tex_defs.specs.declared.Meaning.{Meaning}
use Rattle.tex_defs.specs.declared.Meaning.TheVariants as means
use Rattle.tex_defs.specs.declared.Name.{Name}
use Rattle.tex_defs.specs.declared.Sizes.{Sizes}
use Rattle.tex_defs.specs.declared.Token.{Token}
use Rattle.tex_defs.specs.Places.{World}
use Rattle.plain_tokens.specs.declared.par_mode.ParMode.{ParMode}
use Rattle.plain_tokens.specs.Arguments.{call, start_of, delimiters_of, is_nil, is_some_place, begins_with_place, has_parameters, mode_of}
use Rattle.plain_tokens.specs.Meanings.{is_listed, name_meaning}
use Rattle.equivalents.specs.Holding.{lists_held}
use Rattle.plain_tokens.specs.Names.{name_of}
use Rattle.plain_tokens.specs.Pending.{end_token_lists, all_puts}
use Rattle.plain_tokens.specs.Puts.{Item, Put, call_put}
use Rattle.plain_readings.specs.Readings as reading
use Rattle.rows.specs.Readings as asks
use Rattle.rows.specs.Readings.{Fed}
use Rattle.plain_readings.specs.Calls.{arguments, call_ask, call_fed, gathered, call_lists as lists_in}
use Rattle.plain_readings.specs.Readings.{Reading}
use Rattle.plain_machine.specs.declared.broken.Broken.TheVariants as broken
use Rattle.plain_machine.specs.States.{Begun, made}
use Rattle.plain_tokens.specs.Tables.{lists_words, memory, refused, is_put}
use Rattle.plain_machine.specs.Demands.{refusal}
use Rattle.plain_machine.specs.Runs.{steps}
use Rattle.plain_machine.specs.Numbers.{IsHeld, meaning_of, put_of as numbered}
use Rattle.plain_machine.specs.Plan.{Page, body_put, called, called_by, called_meaning}
use Rattle.plain_machine.proofs.Doing.{did_one}
use Rattle.plain_machine.proofs.Renumbering.{name_meaning_of}
use Rattle.macro_call.specs.PlainScans.{Scan, first_by, first_scan, resume_scan}
use Rattle.macro_call.proofs.PlainScans.{scans_gather}
use Rattle.input_state.specs.declared.answer.CallKind.{CallKind}
use Rattle.input_state.specs.declared.answer.CallKind.TheVariants as kind
use Rattle.input_state.specs.Callings.{Calling, Gathering, call_lists, scan_asks, scan_lists}
use Rattle.input_state.specs.Calls.{after_call, begun_lists, call_kind, called_put, macro_text, text_of}
use Rattle.input_state.specs.Macros.{list_at}
use Rattle.input_state.specs.Stored.{KeepsShared, call_refusal, words}
use Rattle.engine_state.specs.declared.engine.Engine.{Engine}
use Rattle.engine_state.specs.Book.{Book, with_work}
use Rattle.engine_state.specs.Calls.{AllStand, HasRead}
use Rattle.reading_frames.specs.Frames.{Begins, OpenCall}
use Rattle.reading_frames.specs.Stack.{call_begun}
use Rattle.reading_frames.specs.declared.frame.Frame.TheVariants as frame
use Rattle.reading_frames.proofs.Feeding.{begun}
use Rattle.engine_state.specs.Stands.{SameFrames, SameStore, Stands, state_of, page_of}
use Rattle.engine_state.specs.Rules.{Cuts, Went}
use Rattle.engine_state.proofs.Uncalled.{all_of}
use Rattle.engine_state.proofs.CallKept.{all_still, meant_by}
use Rattle.engine_state.proofs.Cutting.{full_cuts, cuts_by}
use Rattle.engine_state.proofs.Joining.{quiet_here, went_by}
use Rattle.engine_state.proofs.SharedPut.{pending_stands, shared_cuts, shared_did, shared_sound}
use Rattle.engine_state.proofs.Storing.{sound_still, store_scan}

-- a reading that has begun
abbrev fresh : reading.Kind → Reading
fresh k = record { kind = k; fed = [] }

-- WHERE SOMETHING CAME OUT WELL

pub on_both : {T E : Type 0} {P Q R : Type 0} → (r : Result T E) → (P → Q → R) → OnOk r P → OnOk r Q → OnOk r R
on_both (Ok x) f a b = f a b
on_both (Err x) f a b = tt

pub if_both : {T E : Type 0} {P : Type 0} {Q R : E → Type 0} → (r : Result T E) → ((x : E) → P → Q x → R x) → OnErr r P → IfErr r Q → IfErr r R
if_both (Ok x) f a b = tt
if_both (Err x) f a b = f x a b

-- HOW A NAME IS CALLED

-- it means a macro with a list
pub record HasList (m : Meaning (Option ℕ)) : Type 0 where
  pub long : Bool
  pub outer : Bool
  pub id : ℕ
  pub meaning : m ≡ means.Macro long outer (Some id)

has_list : (lists : List (List Token)) (m : Meaning (Option ℕ)) → (call_kind lists m ≡ kind.None → ⊥) → HasList m
has_list lists (means.Macro long outer (Some id)) h = record { long = long; outer = outer; id = id; meaning = refl }
has_list lists (means.Macro long outer None) h = absurd (h refl)
has_list lists m h = absurd (h refl)

pub at_once_has : (lists : List (List Token)) (m : Meaning (Option ℕ)) → call_kind lists m ≡ kind.AtOnce → HasList m
at_once_has lists m is = has_list lists m (λ none. (let no : kind.None ≡ kind.AtOnce = sym none ∙ is in cc))

pub gathers_has : (lists : List (List Token)) (m : Meaning (Option ℕ)) → call_kind lists m ≡ kind.Gathers → HasList m
gathers_has lists m is = has_list lists m (λ none. (let no : kind.None ≡ kind.Gathers = sym none ∙ is in cc))

-- a name whose body isn't put changes nothing
pub none_stays : (k : CallKind) → k ≡ kind.None → k ≡ kind.AtOnce → ⊥
none_stays k is at_once = let no : kind.None ≡ kind.AtOnce = sym is ∙ at_once in cc

pub gathers_stays : (k : CallKind) → k ≡ kind.Gathers → k ≡ kind.AtOnce → ⊥
gathers_stays k is at_once = let no : kind.Gathers ≡ kind.AtOnce = sym is ∙ at_once in cc

gathers_some : (b : Bool) → (if b then kind.Gathers else kind.AtOnce) ≡ kind.Gathers → b ≡ true
gathers_some true is = refl
gathers_some false is = cc

gathers_none : (b : Bool) → (if b then kind.Gathers else kind.AtOnce) ≡ kind.AtOnce → b ≡ false
gathers_none true is = cc
gathers_none false is = refl

some_kind : (b : Bool) → (if b then kind.Gathers else kind.AtOnce) ≡ kind.None → ⊥
some_kind true is = cc
some_kind false is = cc

-- where it is called in no way, the machine does nothing
none_called : (page : Page) (number : ℕ → ℕ) (name : Name) (lists : List (List Token)) (m : Meaning (Option ℕ)) → call_kind lists m ≡ kind.None → called_meaning page name (meaning_of number m) ≡ []
none_called page number name lists (means.Macro long outer (Some id)) is = absurd (some_kind (has_parameters (list_at lists id)) is)
none_called page number name lists (means.Macro long outer None) is = refl
none_called page number name lists m is = refl

-- the machine's meaning of a name is the engine's, under its own number
called_is : (e : Engine) (book : Book) (t : Token) (name : Name) → name ≡ name_of t → called (page_of e book) t ≡ called_meaning (page_of e book) name (meaning_of book.number (name_meaning e.input.groups.now.meanings name))
called_is e book t name is_name =
    ap (λ (n : Name). called_meaning (page_of e book) n (name_meaning (page_of e book).now.meanings n)) (sym is_name)
    ∙ ap (called_meaning (page_of e book) name) (name_meaning_of book.number e.input.groups.now.meanings name)

pub called_none : (e : Engine) (book : Book) (t : Token) (name : Name) → name ≡ name_of t → call_kind e.input.lists (name_meaning e.input.groups.now.meanings name) ≡ kind.None → called (page_of e book) t ≡ []
called_none e book t name is_name is = called_is e book t name is_name ∙ none_called (page_of e book) book.number name e.input.lists (name_meaning e.input.groups.now.meanings name) is

-- A SCANNER THAT BEGINS

-- it asks for more, and has gathered nothing yet
first_read : (mode other : ParMode) (start : List Token) (places : List (List Token)) → (not (is_nil start) || is_some_place places) ≡ true →
    HasRead (scan_asks (first_by (is_nil start && is_some_place places) other)) (first_by (is_nil start && is_some_place places) other) (call mode start (take 9 places) [])
first_read mode other [] [] some = absurd cc
first_read mode other [] (ds ∷ places) some = record { says = refl; args = refl; work = refl; bare = λ none. refl }
first_read mode other (d ∷ ds) places some = record { says = refl; args = refl; work = refl; bare = λ none. refl }

-- it asks for what its arguments come to: where nothing was read, for more
begun_more : (name : Name) (mode : ParMode) (start : List Token) (places : List (List Token)) → (not (is_nil start) || is_some_place places) ≡ true → asks.More Raw ≡ call_ask name (call mode start (take 9 places) [])
begun_more name mode [] [] some = absurd cc
begun_more name mode [] (ds ∷ places) some = refl
begun_more name mode (d ∷ ds) places some = refl

asks_gathered : (name : Name) (long : Bool) (text : List Token) (fed : List Fed) → has_parameters text ≡ true → arguments name long text fed ≡ call_ask name (gathered long text fed)
asks_gathered name long text [] places = begun_more name (mode_of long) (start_of text) (delimiters_of text) places
asks_gathered name long text (y ∷ fed) places = refl

first_lists : (begins : Bool) (mode : ParMode) → scan_lists (first_by begins mode) ≡ (if begins then [] ∷ [] else [])
first_lists true mode = refl
first_lists false mode = refl

begins_with : (mode : ParMode) (start : List Token) (places : List (List Token)) → lists_in (call mode start (take 9 places) []) ≡ (if is_nil start && is_some_place places then [] ∷ [] else [])
begins_with mode [] [] = refl
begins_with mode [] (ds ∷ places) = refl
begins_with mode (d ∷ ds) places = refl

-- its list is begun with it, where its first place comes first
pub begun_are : (name : Name) (long : Bool) (number : ℕ) (text : List Token) → reading.lists (reading.Arguments name long number text) [] ≡ begun_lists text
begun_are name long number text = begins_with (mode_of long) (start_of text) (delimiters_of text)

-- the words that are asked for
pub begun_words : (e : Engine) (name : Name) (long : Bool) (number : ℕ) (o : Option Full) → refused e.input.sizes (memory (lists_words (begun_lists (text_of e.input.lists e.input.groups.now.meanings name))) (words e.input) ∷ []) ≡ o →
    refused e.input.sizes (memory (lists_words (reading.lists (reading.Arguments name long number (text_of e.input.lists e.input.groups.now.meanings name)) [])) (words e.input) ∷ []) ≡ o
begun_words e name long number o h = ap (λ (l : List (List Token)). refused e.input.sizes (memory (lists_words l) (words e.input) ∷ [])) (begun_are name long number (text_of e.input.lists e.input.groups.now.meanings name)) ∙ h

-- a body is put without a step
body_silent : (p : Put) (xs : List Item) → steps (body_put p xs) ≡ 0
body_silent p [] = refl
body_silent p (x ∷ xs) = refl

-- A MACRO WITH A LIST

module _ (sizes : Sizes) (e : Engine) (book : Book) (t : Token) (name : Name) (is_name : name ≡ name_of t) (st : Stands sizes e book) (h : HasList (name_meaning e.input.groups.now.meanings name)) where
  abbrev ts : List Token
  ts = list_at e.input.lists h.id

  meant : is_listed (lists_held e.input.groups) h.id ≡ true
  meant = meant_by e.input.groups name h.long h.outer h.id h.meaning

  held : IsHeld h.id (lists_held e.input.groups) (all_puts e.input.pending)
  held = ap (λ (b : Bool). b || is_put h.id (all_puts e.input.pending)) meant

  called_list : called (page_of e book) t ≡ called_by name h.long (book.number h.id) ts
  called_list =
      called_is e book t name is_name ∙ ap (λ (m : Meaning (Option ℕ)). called_meaning (page_of e book) name (meaning_of book.number m)) h.meaning
      ∙ ap (called_by name h.long (book.number h.id)) (st.sound.tied.tokens h.id held)

  kind_is : call_kind e.input.lists (name_meaning e.input.groups.now.meanings name) ≡ (if has_parameters ts then kind.Gathers else kind.AtOnce)
  kind_is = ap (call_kind e.input.lists) h.meaning

  text_is : text_of e.input.lists e.input.groups.now.meanings name ≡ ts
  text_is = ap (macro_text e.input.lists) h.meaning

  -- ITS ARGUMENTS ARE GATHERED

  abbrev K : reading.Kind
  K = reading.Arguments name h.long (book.number h.id) ts

  begun_moves : call_kind e.input.lists (name_meaning e.input.groups.now.meanings name) ≡ kind.Gathers → called (page_of e book) t ≡ Begun K ∷ []
  begun_moves is =
      called_list ∙ ap (λ (b : Bool). if b then Begun K ∷ [] else body_put (call_put (book.number h.id) ts []) (call_put (book.number h.id) ts []).items) (gathers_some (has_parameters ts) (sym kind_is ∙ is))

  -- what is asked for
  begun_asked : (long : Bool) (o : Option Full) → long ≡ h.long → ((number : ℕ) → refusal sizes (Begun (reading.Arguments name long number (text_of e.input.lists e.input.groups.now.meanings name))) (state_of e book) ≡ o) → refusal sizes (Begun K) (state_of e book) ≡ o
  begun_asked long o same asked =
      ap (λ (x : List Token). refusal sizes (Begun (reading.Arguments name h.long (book.number h.id) x)) (state_of e book)) (sym text_is)
      ∙ ap (λ (b : Bool). refusal sizes (Begun (reading.Arguments name b (book.number h.id) (text_of e.input.lists e.input.groups.now.meanings name))) (state_of e book)) (sym same)
      ∙ asked (book.number h.id)

  pub begun_cuts : (long : Bool) (e2 : Engine) (w : World) (full : Full) → long ≡ h.long → call_kind e.input.lists (name_meaning e.input.groups.now.meanings name) ≡ kind.Gathers → e2 ≡ e →
      ((number : ℕ) → refusal sizes (Begun (reading.Arguments name long number (text_of e.input.lists e.input.groups.now.meanings name))) (state_of e book) ≡ Some full) →
      Cuts sizes (state_of e book) e2 book w w (called (page_of e book) t) (broken.Full full)
  begun_cuts long e2 w full same is after refuses =
      cuts_by sizes _ e2 book w w _ _ (broken.Full full) (begun_moves is)
      (full_cuts sizes (state_of e book) e2 book w (Begun K) [] full (broken.Full full) refl (begun_asked long (Some full) same refuses) (ap (λ (x : Engine). state_of x book) (sym after)))

  abbrev scan : Scan
  scan = first_scan ts (mode_of h.long)

  -- the engine with the call, its lists as they were
  abbrev calling : Engine
  calling = record e { readings = call_begun name e.readings; input = record e.input { call = Gathering name scan } }

  abbrev frame_call : OpenCall
  frame_call = record { name = name; text = ts; answers = resume_scan ts scan }

  -- the scanner gathers what the reading does
  first : (fed : List Fed) → gathered h.long ts fed ≡ resume_scan ts scan (call_fed fed)
  first fed = sym (scans_gather.first ts (mode_of h.long) (call_fed fed))

  begins : has_parameters ts ≡ true → Begins (Some frame_call) K (frame.Call name) e.input.builds e.input.builds
  begins places = record {
    asks = λ fed. asks_gathered name h.long ts fed places ∙ ap (call_ask name) (first fed);
    lists_are = λ fed. ap lists_in (first fed);
    holds = omega arith;
    beneath = refl;
    checks = refl;
    framed = (refl, refl, first);
    apart = refl;
  }

  calling_stands : has_parameters ts ≡ true → AllStand sizes calling (with_work (fresh K ∷ book.work) book)
  calling_stands places = record {
    sound = sound_still sizes e calling book.number book.all_lists refl refl refl refl refl (store_scan e.input calling.input (Gathering name scan) refl) st.sound;
    idle = st.idle;
    all = record {
      readings = record {
        text = ts;
        frames = record { frames = begun (Some frame_call) K (frame.Call name) e.readings.frames e.input.builds e.input.builds book.work (begins places) st.readings.frames; shallow = (omega arith, st.readings.shallow) };
        far = subst (HasRead (scan_asks scan) scan) (first []) (first_read (mode_of h.long) (mode_of h.long) (start_of ts) (delimiters_of ts) places);
      };
      macro = record { long = h.long; outer = h.outer; id = h.id; meaning = h.meaning; list = refl; kind = refl; places = places };
    };
  }

  module _ (long : Bool) (e2 : Engine) (same : long ≡ h.long) (after : e2 ≡ record e { readings = call_begun name e.readings; input = record e.input { call = Gathering name (first_scan (text_of e.input.lists e.input.groups.now.meanings name) (mode_of long)); lists = e2.input.lists } }) (all_lists : KeepsShared e.input e2.input) where
    now : e2 ≡ record calling { input = record calling.input { lists = e2.input.lists } }
    now =
        after
        ∙ ap (λ (b : Bool). record e { readings = call_begun name e.readings; input = record e.input { call = Gathering name (first_scan (text_of e.input.lists e.input.groups.now.meanings name) (mode_of b)); lists = e2.input.lists } }) same
        ∙ ap (λ (x : List Token). record e { readings = call_begun name e.readings; input = record e.input { call = Gathering name (first_scan x (mode_of h.long)); lists = e2.input.lists } }) text_is

    store : SameStore calling.input e2.input
    store = record {
      sizes = ap (λ (y : Engine). y.input.sizes) now;
      groups = ap (λ (y : Engine). y.input.groups) now;
      closing = ap (λ (y : Engine). y.input.closing) now;
      ending = ap (λ (y : Engine). y.input.ending) now;
      puts = λ n g. subst (λ (y : Engine). is_put n (all_puts y.input.pending) ≡ true) now g;
      lists = record { tokens = all_lists.tokens };
    }

    frames_same : SameFrames calling e2
    frames_same = record {
      readings = ap (λ (y : Engine). y.readings) now;
      lists = ap (λ (y : Engine). y.input.builds) now;
      call = ap (λ (y : Engine). y.input.call) now;
    }

    begun_stands : has_parameters ts ≡ true → AllStand sizes e2 (with_work (fresh K ∷ book.work) book)
    begun_stands places = let was = calling_stands places in
        all_still sizes calling e2 (with_work (fresh K ∷ book.work) book) frames_same store
        (sound_still sizes calling e2 book.number book.all_lists (ap (λ (y : Engine). y.sizes) now) (ap (λ (y : Engine). y.readings.size) now) (ap (λ (y : Engine). y.conditionals) now) (ap (λ (y : Engine). y.names) now) (ap (λ (y : Engine). y.reports) now) store was.sound)
        (ap (λ (y : Engine). y.input.making) now ∙ st.idle) was

    begun_state : made (Begun K) (state_of e book) ≡ state_of e2 (with_work (fresh K ∷ book.work) book)
    begun_state =
        ap (λ (l : List (List Token)). record (state_of e book) { work = fresh K ∷ book.work; gathered = reading.lists K [] ++ l }) (ap (λ (k : Calling). call_lists k ++ e.input.builds) st.uncalled)
        ∙ ap (λ (l : List (List Token)). record (state_of e book) { work = fresh K ∷ book.work; gathered = l ++ e.input.builds }) (begun_are name h.long (book.number h.id) ts ∙ sym (first_lists (begins_with_place ts) (mode_of h.long)))
        ∙ ap (λ (y : Engine). state_of y (with_work (fresh K ∷ book.work) book)) (sym now)

    pub begun_went : (w : World) → call_kind e.input.lists (name_meaning e.input.groups.now.meanings name) ≡ kind.Gathers →
        ((number : ℕ) → refusal sizes (Begun (reading.Arguments name long number (text_of e.input.lists e.input.groups.now.meanings name))) (state_of e book) ≡ None) →
        Went sizes (state_of e book) e2 w w (called (page_of e book) t) 0
    begun_went w is fits =
        went_by sizes _ e2 w w _ _ 0 (begun_moves is) (record {
          book' = with_work (fresh K ∷ book.work) book;
          stands = begun_stands (gathers_some (has_parameters ts) (sym kind_is ∙ is));
          did = did_one sizes (Begun K) _ _ w w (begun_asked long None same fits) begun_state (quiet_here (Begun K) w tt);
          count = refl;
        })

  -- ITS BODY IS PUT

  abbrev p : Put
  p = call_put h.id ts []

  abbrev P : Put
  P = numbered book.number p

  what : called_put e.input.lists (name_meaning e.input.groups.now.meanings name) ≡ p
  what = ap (called_put e.input.lists) h.meaning

  put_moves : call_kind e.input.lists (name_meaning e.input.groups.now.meanings name) ≡ kind.AtOnce → called (page_of e book) t ≡ body_put P p.items
  put_moves is =
      called_list ∙ ap (λ (b : Bool). if b then Begun K ∷ [] else body_put P p.items) (gathers_none (has_parameters ts) (sym kind_is ∙ is))

  pub called_cuts : (e2 : Engine) (w : World) (full : Full) → call_kind e.input.lists (name_meaning e.input.groups.now.meanings name) ≡ kind.AtOnce →
      e2 ≡ record e { input = record e.input { pending = end_token_lists e.input.pending; lists = e2.input.lists } } → call_refusal (called_put e.input.lists (name_meaning e.input.groups.now.meanings name)) e.input ≡ Some full →
      Cuts sizes (state_of e book) e2 book w w (called (page_of e book) t) (broken.Full full)
  called_cuts e2 w full is after refuses =
      cuts_by sizes _ e2 book w w _ _ (broken.Full full) (put_moves is ∙ sym (append-nil (body_put P p.items)))
      (shared_cuts sizes e book st.sound h.id p refl meant e2 w full [] after (ap (λ (x : Put). call_refusal x e.input) (sym what) ∙ refuses))

  pub called_went : (e2 : Engine) (w : World) → call_kind e.input.lists (name_meaning e.input.groups.now.meanings name) ≡ kind.AtOnce →
      e2 ≡ record e { input = record e.input { pending = after_call (called_put e.input.lists (name_meaning e.input.groups.now.meanings name)) e.input.pending; lists = e2.input.lists } } → KeepsShared e.input e2.input →
      call_refusal (called_put e.input.lists (name_meaning e.input.groups.now.meanings name)) e.input ≡ None → Went sizes (state_of e book) e2 w w (called (page_of e book) t) 0
  called_went e2 w is after all_lists fits =
      let here = after ∙ ap (λ (x : Put). record e { input = record e.input { pending = after_call x e.input.pending; lists = e2.input.lists } }) what in
      went_by sizes _ e2 w w _ _ 0 (put_moves is) (record {
        book' = book;
        stands = all_of sizes e2 book (pending_stands sizes e e2 book (after_call p e.input.pending) here (shared_sound sizes e book st.sound h.id p refl meant e2 here all_lists) st);
        did = shared_did sizes e book st.sound h.id p refl meant e2 here all_lists w (ap (λ (x : Put). call_refusal x e.input) (sym what) ∙ fits);
        count = body_silent P p.items;
      })
