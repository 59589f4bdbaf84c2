-- Tokens that go onto the list on top.
use Rattle.std.proofs.Common.{◌≡◌, ◌≤◌, ◌<◌, ◌+◌, ℕ, List, [], ◌∷◌, ◌++◌, length, map, refl, sym, ap, ◌∙◌, subst, true≢false, arith}
use Rattle.std.specs.Prelude.{Option, Some, None, IsSome, option_to_list}
use Rattle.std.proofs.lemmas.List.{length-append}
use Rattle.std.proofs.lemmas.List.Sums.{sum_by-cons, sum_by-append}
use Rattle.std.proofs.lemmas.Bool.Decides.{nat_tests}
use Rattle.tex_defs.specs.declared.Sizes.{Sizes}
use Rattle.tex_defs.specs.declared.Full.{Full}
use Rattle.tex_defs.specs.Places.{World}
use Rattle.tex_defs.specs.declared.Token.{Token}
use Rattle.plain_tokens.specs.Puts.{grow_first}
use Rattle.plain_tokens.specs.Tables.{list_words, lists_words, memory, refused}
use Rattle.plain_machine.specs.declared.broken.Broken.TheVariants as broken
use Rattle.plain_machine.specs.States.{Move, Grows}
use Rattle.plain_machine.specs.Demands.{words}
use Rattle.plain_machine.specs.Does.{Did}
use Rattle.plain_machine.proofs.Doing.{did_join, did_none, did_one}
use Rattle.input_state.specs.Callings.{NotCalling, call_lists}
use Rattle.input_state.specs.Stored.{Stored, KeepsShared, gathered, words as stored_words}
use Rattle.list_builder.specs.Stages.{cell_count}
use Rattle.reading_frames.specs.Views.{put, on_top}
use Rattle.reading_frames.specs.Resumes.{token_count}
use Rattle.reading_frames.specs.declared.ask.Grown.{Grown}
use Rattle.engine_state.specs.declared.engine.Engine.{Engine}
use Rattle.engine_state.specs.Book.{Book}
use Rattle.engine_state.specs.Feeding.{tokens_of, with_tokens, TokensFit, TokensCut}
use Rattle.engine_state.specs.CutReadings.{with_token}
use Rattle.engine_state.specs.Stands.{IsSound, state_of}
use Rattle.engine_state.specs.Rules.{Cuts}
use Rattle.engine_state.proofs.Cutting.{cuts_by, later_cuts, full_cuts}
use Rattle.engine_state.proofs.Joining.{quiet_here}
use Rattle.engine_state.proofs.FramesHeld.{gathered_is}
use Rattle.engine_state.proofs.Storing.{store_gathered, sound_still, words_are, words_more}

-- WHERE THEY ARE CUT OFF

no_token : {A : Type 0} → IsSome {T = Token} None → A
no_token h = absurd (true≢false (sym h))

first_split : (o p : Option Token) → IsSome o → (t : Token) × (option_to_list o ++ option_to_list p ≡ t ∷ option_to_list p)
first_split None p h = no_token h
first_split (Some t) p h = (t, refl)

-- the first one has no room
pub cut_first : (g : Grown) (full : Full) (e e' : Engine) → IsSome g.first → (e.input.builds ≡ [] → ⊥) → refused e.input.sizes (memory 1 (stored_words e.input) ∷ []) ≡ Some full → e' ≡ e → TokensCut g full e e'
cut_first g full e e' some list r same =
    let t = first_split g.first g.second some in
    subst (TokensCut g full e) (sym same) (record { front = None; next = t.0; rest = option_to_list g.second; split = t.1; list = list; fits = λ h. no_token h; after = refl; refused_then = r })

second_split : (o p : Option Token) → IsSome p → (t : Token) × (option_to_list o ++ option_to_list p ≡ option_to_list o ++ t ∷ [])
second_split o None h = no_token h
second_split o (Some t) h = (t, refl)

grown_none : (o : Option Token) (lists : List (List Token)) → lists ≡ [] → with_token o lists ≡ []
grown_none None lists h = h
grown_none (Some t) [] h = refl
grown_none (Some t) (ts ∷ lists) h = cc

-- the second one
pub cut_second : (g : Grown) (full : Full) (e e1 e' : Engine) → e1 ≡ record e { input = record e.input { builds = with_token g.first e.input.builds; lists = e1.input.lists } } → IsSome g.second → (e1.input.builds ≡ [] → ⊥) →
    (IsSome g.first → (e.input.builds ≡ [] → ⊥) → refused e.input.sizes (memory 1 (stored_words e.input) ∷ []) ≡ None) → refused e1.input.sizes (memory 1 (stored_words e1.input) ∷ []) ≡ Some full → e' ≡ e1 → TokensCut g full e e'
cut_second g full e e1 e' is some list fits r same =
    let t = second_split g.first g.second some in
    let held : e.input.builds ≡ [] → ⊥ = λ none. list (ap (λ (x : Engine). x.input.builds) is ∙ grown_none g.first e.input.builds none) in
    subst (TokensCut g full e) (sym same) (record { front = g.first; next = t.0; rest = []; split = t.1; list = held; fits = λ h. fits h held; after = is; refused_then = r })

-- THE LISTS

one_first : (o p : Option Token) → IsSome o → 1 ≤ cell_count o + cell_count p
one_first None p h = no_token h
one_first (Some t) p h = omega arith

one_second : (o p : Option Token) → IsSome p → 1 ≤ cell_count o + cell_count p
one_second o None h = no_token h
one_second o (Some t) h = omega arith

pub put_same : (o p : Option Token) (lists : List (List Token)) → (1 ≤ cell_count o + cell_count p → lists ≡ [] → ⊥) → with_token p (with_token o lists) ≡ put p (put o lists)
put_same None None lists h = refl
put_same None (Some t) [] h = absurd (h (omega arith) refl)
put_same (Some t) p [] h = absurd (h (omega arith) refl)
put_same None (Some t) (ts ∷ lists) h = refl
put_same (Some t) None (ts ∷ lists) h = refl
put_same (Some t) (Some u) (ts ∷ lists) h = refl

pub on_top_same : (g : Grown) (lists : List (List Token)) → (1 ≤ token_count g → lists ≡ [] → ⊥) → with_tokens g lists ≡ on_top g lists
on_top_same g lists h = put_same g.first g.second lists h

-- an engine whose lists are these
abbrev pub listed : Engine → (builds lists : List (List Token)) → Engine
listed e builds lists = record e { input = record e.input { builds = builds; lists = lists } }

pub listed_sound : (sizes : Sizes) (e e' : Engine) (builds : List (List Token)) (number : ℕ → ℕ) (all_lists : List (List Token)) → e' ≡ listed e builds e'.input.lists → KeepsShared e.input e'.input → IsSound sizes e number all_lists → IsSound sizes e' number all_lists
listed_sound sizes e e' builds number all_lists is kept h =
    sound_still sizes e e' number all_lists (ap (λ (x : Engine). x.sizes) is) (ap (λ (x : Engine). x.readings.size) is) (ap (λ (x : Engine). x.conditionals) is) (ap (λ (x : Engine). x.names) is) (ap (λ (x : Engine). x.reports) is)
    (store_gathered e.input e'.input builds (ap (λ (x : Engine). x.input) is) kept) h

-- WORDS

pub room_of : (sizes : Sizes) (n w : ℕ) → refused sizes (memory n w ∷ []) ≡ None → w + n ≤ sizes.main_memory_size
room_of sizes n w h = grind (arith, nat_tests, h)

pub no_room_of : (sizes : Sizes) (n w : ℕ) (full : Full) → refused sizes (memory n w ∷ []) ≡ Some full → sizes.main_memory_size < w + n
no_room_of sizes n w full h = grind (arith, nat_tests, h)

pub grown_words : (o : Option Token) (lists : List (List Token)) → (lists ≡ [] → ⊥) → lists_words (with_token o lists) ≡ lists_words lists + cell_count o
grown_words None lists h = omega arith
grown_words (Some t) [] h = absurd (h refl)
grown_words (Some t) (ts ∷ lists) h = omega (arith, sum_by-cons list_words ts lists, sum_by-cons list_words (ts ++ t ∷ []) lists, length-append ts (t ∷ []))

two_words : (o p : Option Token) → length (option_to_list o ++ option_to_list p) ≡ cell_count o + cell_count p
two_words None None = refl
two_words None (Some t) = refl
two_words (Some t) None = refl
two_words (Some t) (Some u) = refl

front_words : (o : Option Token) (t : Token) (rest : List Token) → length (option_to_list o ++ t ∷ rest) ≡ cell_count o + (1 + length rest)
front_words None t rest = omega arith
front_words (Some u) t rest = omega arith

-- where there is room for all, none is cut off
pub no_cut : (sizes : Sizes) (book : Book) (g : Grown) (full : Full) (e e' : Engine) → IsSound sizes e book.number book.all_lists → KeepsShared e.input e'.input → TokensCut g full e e' → stored_words e.input + token_count g ≤ e.sizes.main_memory_size → ⊥
no_cut sizes book g full e e' sound kept cut room =
    let sound' = listed_sound sizes e e' (with_token cut.front e.input.builds) book.number book.all_lists cut.after kept sound in
    let gone = no_room_of e'.input.sizes 1 (stored_words e'.input) full cut.refused_then in
    let size : e'.input.sizes ≡ e.sizes = sound'.sized.input ∙ sym sound.sized.own in
    let small : e.sizes.main_memory_size < stored_words e'.input + 1 = subst (λ (s : Sizes). s.main_memory_size < stored_words e'.input + 1) size gone in
    let more : words (state_of e' book) ≡ words (state_of e book) + cell_count cut.front = ap (λ (x : Engine). words (state_of x book)) cut.after ∙
    omega (
      arith,
      sum_by-append list_words (call_lists e.input.call) e.input.builds,
      sum_by-append list_words (call_lists e.input.call) (with_token cut.front e.input.builds),
      grown_words cut.front e.input.builds cut.list,
    ) in
    omega (arith, room, small, more, words_are sizes e book sound, words_are sizes e' book sound', two_words g.first g.second, front_words cut.front cut.next cut.rest, ap (λ (l : List Token). length l) cut.split)

-- WHAT THE MACHINE DOES

module _ (sizes : Sizes) (book : Book) (w : World) where
  pub grow_did : (e e' : Engine) (t : Token) → e' ≡ listed e (grow_first t e.input.builds) e'.input.lists → (e.input.builds ≡ [] → ⊥) → e.input.call ≡ NotCalling → IsSound sizes e book.number book.all_lists → refused e.input.sizes (memory 1 (stored_words e.input) ∷ []) ≡ None →
      Did sizes (state_of e book) (state_of e' book) w w (Grows t ∷ [])
  grow_did e e' t is list none sound fits =
      let grown : Engine = listed e (grow_first t e.input.builds) e'.input.lists in
      let lists : grow_first t (gathered e.input) ≡ gathered grown.input = ap (grow_first t) (gathered_is e.input none) ∙ sym (gathered_is grown.input none) in
      did_one sizes (Grows t) (state_of e book) (state_of e' book) w w (words_more sizes e book 1 None sound fits)
      (ap (λ (l : List (List Token)). record (state_of e book) { gathered = l }) lists ∙ ap (λ (x : Engine). state_of x book) (sym is)) (quiet_here (Grows t) w tt)

  pub grown_did : (e e' : Engine) (o : Option Token) → e' ≡ listed e (with_token o e.input.builds) e'.input.lists → (IsSome o → e.input.builds ≡ [] → ⊥) → e.input.call ≡ NotCalling → IsSound sizes e book.number book.all_lists →
      (IsSome o → refused e.input.sizes (memory 1 (stored_words e.input) ∷ []) ≡ None) → Did sizes (state_of e book) (state_of e' book) w w (map Grows (option_to_list o))
  grown_did e e' None is list none sound fits = subst (λ (x : Engine). Did sizes (state_of e book) (state_of x book) w w []) (sym is) (did_none sizes (state_of e book) w)
  grown_did e e' (Some t) is list none sound fits = grow_did e e' t is (list refl) none sound (fits refl)

  two_moves : (o p : Option Token) → map Grows (option_to_list o ++ option_to_list p) ≡ map Grows (option_to_list o) ++ map Grows (option_to_list p)
  two_moves None p = refl
  two_moves (Some t) p = refl

  before_none : (o : Option Token) (lists : List (List Token)) → with_token o lists ≡ [] → lists ≡ []
  before_none None lists h = h
  before_none (Some t) [] h = refl
  before_none (Some t) (ts ∷ lists) h = cc

  -- all of them
  pub all_did : (e e' : Engine) (g : Grown) → TokensFit g e.input → (1 ≤ token_count g → e.input.builds ≡ [] → ⊥) → e' ≡ listed e (with_tokens g e.input.builds) e'.input.lists → e.input.call ≡ NotCalling → IsSound sizes e book.number book.all_lists →
      Did sizes (state_of e book) (state_of e' book) w w (map Grows (tokens_of g))
  all_did e e' g fits list is none sound =
      let e1 : Engine = record e { input = fits.between } in
      let is1 : e1 ≡ listed e (with_token g.first e.input.builds) e1.input.lists = ap (λ (i : Stored). record e { input = i }) fits.is in
      let sound1 : IsSound sizes e1 book.number book.all_lists = listed_sound sizes e e1 (with_token g.first e.input.builds) book.number book.all_lists is1 fits.keeps sound in
      let is2 : e' ≡ listed e1 (with_token g.second e1.input.builds) e'.input.lists = is ∙ ap (λ (x : Engine). listed x (with_token g.second x.input.builds) e'.input.lists) (sym is1) in
      let none1 : e1.input.call ≡ NotCalling = ap (λ (i : Stored). i.call) fits.is ∙ none in
      let first : IsSome g.first → e.input.builds ≡ [] → ⊥ = λ some. list (one_first g.first g.second some) in
      let second : IsSome g.second → fits.between.builds ≡ [] → ⊥ = λ some empty. list (one_second g.first g.second some) (before_none g.first e.input.builds (sym (ap (λ (i : Stored). i.builds) fits.is) ∙ empty)) in
      subst (λ (ms : List Move). Did sizes (state_of e book) (state_of e' book) w w ms) (sym (two_moves g.first g.second))
      (did_join sizes _ _ _ w w w (map Grows (option_to_list g.first)) (map Grows (option_to_list g.second))
      (grown_did e e1 g.first is1 first none sound (λ some. fits.first some (first some))) (grown_did e1 e' g.second is2 second none1 sound1 (λ some. fits.second some (second some))))

module _ (sizes : Sizes) (book : Book) (w : World) (e e' : Engine) (g : Grown) (full : Full) (m : Move) (none : e.input.call ≡ NotCalling) (sound : IsSound sizes e book.number book.all_lists) (kept : KeepsShared e.input e'.input) where
  cut_moves : (o : Option Token) (t : Token) (rest : List Token) → map Grows (option_to_list o ++ t ∷ rest) ++ m ∷ [] ≡ map Grows (option_to_list o) ++ (Grows t ∷ (map Grows rest ++ m ∷ []))
  cut_moves None t rest = refl
  cut_moves (Some u) t rest = refl

  -- one of the tokens has no room
  pub tokens_cut : TokensCut g full e e' → Cuts sizes (state_of e book) e' book w w (map Grows (tokens_of g) ++ m ∷ []) (broken.Full full)
  tokens_cut cut =
      cuts_by sizes (state_of e book) e' book w w (map Grows (option_to_list cut.front) ++ (Grows cut.next ∷ (map Grows cut.rest ++ m ∷ []))) _ (broken.Full full)
      (ap (λ (us : List Token). map Grows us ++ m ∷ []) cut.split ∙ cut_moves cut.front cut.next cut.rest)
      (later_cuts sizes (state_of e book) (state_of e' book) e' book w w w (map Grows (option_to_list cut.front)) (Grows cut.next ∷ (map Grows cut.rest ++ m ∷ [])) (broken.Full full)
      (grown_did sizes book w e e' cut.front cut.after (λ some. cut.list) none sound cut.fits)
      (full_cuts sizes (state_of e' book) e' book w (Grows cut.next) (map Grows cut.rest ++ m ∷ []) full (broken.Full full) refl
      (words_more sizes e' book 1 (Some full) (listed_sound sizes e e' (with_token cut.front e.input.builds) book.number book.all_lists cut.after kept sound) cut.refused_then) refl))
