-- A reading that begins.
use Rattle.std.proofs.Common.{◌≡◌, ◌≤◌, ◌<◌, ◌+◌, ℕ, true, List, [], ◌∷◌, ◌++◌, length, arith, refl, sym, ap, ◌∙◌, subst}
use Rattle.std.specs.Prelude.{Option, Some, None, Result, Ok, Err, OnOk, IfErr, nat_le}
use Rattle.std.proofs.lemmas.List.{append-nil}
use Rattle.std.proofs.lemmas.List.Sums.{sum_by-cons, sum_by-append}
use Rattle.std.proofs.lemmas.Bool.Decides.{nat_tests}
use Rattle.tex_defs.specs.declared.Sizes.{Sizes}
use Rattle.tex_defs.specs.declared.Full.{Full}
use Rattle.tex_defs.specs.declared.Token.{Token}
use Rattle.rows.specs.declared.words.Phrase.TheVariants.{Command, Integer, Factor, Dimension, Glue, Keyword, Text, Definition}
use Rattle.plain_tokens.specs.Tables.{list_words, lists_words, memory, refused}
use Rattle.plain_machine.specs.Demands.{words, depth as depth_demand}
use Rattle.input_state.specs.Callings.{call_lists}
use Rattle.input_state.specs.Stored.{KeepsShared, words as stored_words}
use Rattle.list_builder.specs.Stages.{cell_count}
use Rattle.reading_frames.specs.Views.{put, on_top}
use Rattle.reading_frames.specs.Resumes.{token_count}
use Rattle.reading_frames.specs.Frames.{opened_lists}
use Rattle.reading_frames.specs.declared.ask.Grown.{Grown}
use Rattle.reading_frames.specs.declared.ask.Opening.{Opening}
use Rattle.reading_frames.specs.declared.ask.Opening.TheVariants.{Reads, Spelling, FileName, Behind, Skips}
use Rattle.engine_state.specs.declared.engine.Engine.{Engine}
use Rattle.engine_state.specs.Book.{Book, with_work}
use Rattle.engine_state.specs.Feeding.{HasTop, TokensCut, with_tokens}
use Rattle.engine_state.specs.Stands.{Stands, Counts, IsSound, depth, state_of}
use Rattle.plain_readings.specs.Readings.{Reading}
use Rattle.reading_frames.specs.Stack.{Stack}
use Rattle.reading_frames.specs.declared.frame.Frame.{Frame}
use Rattle.reading_frames.specs.Frames as frames
use Rattle.reading_frames.specs.Frames.{AreShallow}
use Rattle.input_state.specs.Stored.{gathered}
use Rattle.engine_state.proofs.FramesHeld.{framed_with, same_with, stands_new, stands_gathered, state_new}
use Rattle.engine_state.proofs.Storing.{words_are, words_more}
use Rattle.engine_state.proofs.TokensTaken.{listed, listed_sound, on_top_same, no_cut, room_of, no_room_of}

-- THE WORDS OF ITS LIST

pub opened_words : (o : Opening) → lists_words (opened_lists o []) ≡ length (opened_lists o [])
opened_words (Reads (Command c)) = refl
opened_words (Reads Integer) = refl
opened_words (Reads Factor) = refl
opened_words (Reads (Dimension k)) = refl
opened_words (Reads (Glue mu)) = refl
opened_words (Reads (Keyword w)) = refl
opened_words (Behind c x) = refl
opened_words (Skips c aim line) = refl
opened_words (Reads (Text name expanded)) = refl
opened_words (Reads (Definition name expanded)) = refl
opened_words (Spelling c) = refl
opened_words (FileName c) = refl

words_over : (o : Opening) (held : List (List Token)) → lists_words (opened_lists o held) ≡ lists_words held + length (opened_lists o [])
words_over (Reads (Command c)) held = omega arith
words_over (Reads Integer) held = omega arith
words_over (Reads Factor) held = omega arith
words_over (Reads (Dimension k)) held = omega arith
words_over (Reads (Glue mu)) held = omega arith
words_over (Reads (Keyword w)) held = omega arith
words_over (Behind c x) held = omega arith
words_over (Skips c aim line) held = omega arith
words_over (Reads (Text name expanded)) held = omega (arith, sum_by-cons list_words [] held)
words_over (Reads (Definition name expanded)) held = omega (arith, sum_by-cons list_words [] held)
words_over (Spelling c) held = omega (arith, sum_by-cons list_words [] held)
words_over (FileName c) held = omega (arith, sum_by-cons list_words [] held)

words_put : (a b : Option Token) (l : List (List Token)) → lists_words l ≡ length l → (1 ≤ cell_count a + cell_count b → l ≡ [] ∷ []) → lists_words (put b (put a l)) ≡ length l + (cell_count a + cell_count b)
words_put None None l w h = omega (arith, w)
words_put None (Some t) l w h = rw (h (omega arith)) refl
words_put (Some t) None l w h = rw (h (omega arith)) refl
words_put (Some t) (Some u) l w h = rw (h (omega arith)) refl

pub begun_words : (o : Opening) (g : Grown) → HasTop o g → lists_words (on_top g (opened_lists o [])) ≡ length (opened_lists o []) + token_count g
begun_words o g h = words_put g.first g.second (opened_lists o []) (opened_words o) (λ some. h some [])

-- a reading's lists, by those over which it begins
pub words_of : (mine held : List (List Token)) → mine ++ [] ≡ held → lists_words mine ≡ lists_words held
words_of mine held is = ap lists_words (sym (append-nil mine) ∙ is)

-- one reading more with so many words, by the machine and by the engine
pub begun_refusal : (sizes : Sizes) (e : Engine) (book : Book) (mine : List (List Token)) (need : ℕ) (o : Option Full) → Counts sizes e book → depth e < e.readings.size → lists_words mine ≡ need →
    refused e.input.sizes (memory need (stored_words e.input) ∷ []) ≡ o → refused sizes (depth_demand book.work ∷ memory (lists_words mine) (words (state_of e book)) ∷ []) ≡ o
begun_refusal sizes e book mine need o counts room same h =
    let within : nat_le (length book.work + 1) sizes.expansion_depth ≡ true = grind (arith, nat_tests, counts.depth, counts.sound.sized.readings, room) in
    rw within (ap (λ (n : ℕ). refused sizes (memory n (words (state_of e book)) ∷ [])) same ∙ words_more sizes e book need o counts.sound h)

-- the same, by the sizes that the engine keeps
pub own_sizes : (sizes : Sizes) (e : Engine) (book : Book) (need : ℕ) (o : Option Full) → Counts sizes e book → refused e.sizes (memory need (stored_words e.input) ∷ []) ≡ o → refused e.input.sizes (memory need (stored_words e.input) ∷ []) ≡ o
own_sizes sizes e book need o counts h = ap (λ (s : Sizes). refused s (memory need (stored_words e.input) ∷ [])) (counts.sound.sized.input ∙ sym counts.sound.sized.own) ∙ h

-- ITS LIST, where there is room for it

module _ (sizes : Sizes) (e e1 e2 : Engine) (book : Book) (o : Opening) (g : Grown) (sound : IsSound sizes e book.number book.all_lists) (top : HasTop o g)
    (room : refused e.sizes (memory (length (opened_lists o []) + token_count g) (stored_words e.input) ∷ []) ≡ None) where
  space : stored_words e.input + (length (opened_lists o []) + token_count g) ≤ sizes.main_memory_size
  space = subst (λ (s : Sizes). stored_words e.input + (length (opened_lists o []) + token_count g) ≤ s.main_memory_size) sound.sized.own (room_of e.sizes (length (opened_lists o []) + token_count g) (stored_words e.input) room)

  none_full : (full : Full) → refused e.input.sizes (memory (length (opened_lists o [])) (stored_words e.input) ∷ []) ≡ Some full → ⊥
  none_full full h =
      let less : sizes.main_memory_size < stored_words e.input + length (opened_lists o []) =
      subst (λ (s : Sizes). s.main_memory_size < stored_words e.input + length (opened_lists o [])) sound.sized.input (no_room_of e.input.sizes (length (opened_lists o [])) (stored_words e.input) full h) in
      omega (arith, less, space)

  opened_more : e1 ≡ listed e (opened_lists o e.input.builds) e1.input.lists → KeepsShared e.input e1.input → stored_words e1.input ≡ stored_words e.input + length (opened_lists o [])
  opened_more ok kept =
      let sound1 = listed_sound sizes e e1 (opened_lists o e.input.builds) book.number book.all_lists ok kept sound in
      let more : words (state_of e1 book) ≡ words (state_of e book) + length (opened_lists o []) = ap (λ (x : Engine). words (state_of x book)) ok ∙
      omega (
        arith,
        sum_by-append list_words (call_lists e.input.call) e.input.builds,
        sum_by-append list_words (call_lists e.input.call) (opened_lists o e.input.builds),
        words_over o e.input.builds,
      ) in
      omega (arith, more, words_are sizes e book sound, words_are sizes e1 book sound1)

  has_list : 1 ≤ token_count g → opened_lists o e.input.builds ≡ [] → ⊥
  has_list some none = cc (top some e.input.builds, none)

  pub behind : {R S : Type 0} (r1 : Result R Full) (r2 : Result S Full) → OnOk r1 (e1 ≡ listed e (opened_lists o e.input.builds) e1.input.lists) → IfErr r1 (λ full. refused e.input.sizes (memory (length (opened_lists o [])) (stored_words e.input) ∷ []) ≡ Some full) →
      KeepsShared e.input e1.input → KeepsShared e1.input e2.input →
      OnOk r2 (e2 ≡ listed e1 (with_tokens g e1.input.builds) e2.input.lists) → IfErr r2 (λ full. TokensCut g full e1 e2) → e2.input.builds ≡ on_top g (opened_lists o e.input.builds)
  behind (Err full) r2 ok err kept kept' fed cut = absurd (none_full full err)
  behind (Ok u) (Ok v) ok err kept kept' fed cut =
      ap (λ (x : Engine). x.input.builds) fed ∙ (ap (λ (x : Engine). with_tokens g x.input.builds) ok ∙ on_top_same g (opened_lists o e.input.builds) has_list)
  behind (Ok u) (Err full) ok err kept kept' fed cut =
      absurd (no_cut sizes book g full e1 e2 (listed_sound sizes e e1 (opened_lists o e.input.builds) book.number book.all_lists ok kept sound) kept' cut
      (omega (arith, opened_more ok kept, space, ap (λ (s : Sizes). s.main_memory_size) (ap (λ (x : Engine). x.sizes) ok ∙ sound.sized.own))))

pub none_of : {A : Type 0} → (o : Option A) → ((x : A) → o ≡ Some x → ⊥) → o ≡ None
none_of None h = refl
none_of (Some x) h = absurd (h x refl)

-- BY WHAT THE CALLS SAY

pub opens : (sizes : Sizes) (e e' : Engine) (book : Book) (work : List Reading) (stack : Stack) (held : List (List Token)) → e' ≡ framed_with e stack held e'.input.lists → stack.size ≡ e.readings.size → KeepsShared e.input e'.input →
    frames.AreFramesOf None stack.frames held work → AreShallow stack.frames held → Stands sizes e book → Stands sizes e' (with_work work book)
opens sizes e e' book work stack held is size kept stand shallow st =
    stands_new sizes e e' book work stack.frames held (same_with e e' stack held is size kept) (ap (λ (x : Engine). x.readings.frames) is) (ap (λ (x : Engine). x.input.builds) is) st stand shallow

pub opens_state : (sizes : Sizes) (e e' : Engine) (book : Book) (work : List Reading) (stack : Stack) (mine held : List (List Token)) → e' ≡ framed_with e stack held e'.input.lists → stack.size ≡ e.readings.size → KeepsShared e.input e'.input →
    frames.AreFramesOf None stack.frames held work → AreShallow stack.frames held → Stands sizes e book → mine ++ e.input.builds ≡ held → record (state_of e book) { work = work; gathered = mine ++ gathered e.input } ≡ state_of e' (with_work work book)
opens_state sizes e e' book work stack mine held is size kept stand shallow st lists =
    state_new e e' book work (mine ++ gathered e.input) (same_with e e' stack held is size kept) (ap (λ (x : Engine). x.last) is)
    (stands_gathered sizes e' (with_work work book) (opens sizes e e' book work stack held is size kept stand shallow st) ∙ (ap (λ (x : Engine). x.input.builds) is ∙ (sym lists ∙ ap (λ (l : List (List Token)). mine ++ l) (sym (stands_gathered sizes e book st)))))

-- the same tables, whatever the frames
pub by_stack : (sizes : Sizes) (e : Engine) (book : Book) (stack : Stack) → stack.size ≡ e.readings.size → IsSound sizes e book.number book.all_lists → IsSound sizes (record e { readings = stack }) book.number book.all_lists
by_stack sizes e book stack size sound = record {
  sized = record {
    few_reports = sound.sized.few_reports;
    own = sound.sized.own;
    readings = size ∙ sound.sized.readings;
    conditionals = sound.sized.conditionals;
    input = sound.sized.input;
    names = sound.sized.names;
    located = sound.sized.located;
  };
  tied = sound.tied;
  bodies = sound.bodies;
}

pub frames_over : (fs : List Frame) (held held' : List (List Token)) (work : List Reading) → held' ≡ held → frames.AreFramesOf None fs held work → frames.AreFramesOf None fs held' work
frames_over fs held held' work is h = subst (λ (l : List (List Token)). frames.AreFramesOf None fs l work) (sym is) h

pub shallow_over : (fs : List Frame) (held held' : List (List Token)) → held' ≡ held → AreShallow fs held → AreShallow fs held'
shallow_over fs held held' is h = subst (λ (l : List (List Token)). AreShallow fs l) (sym is) h
