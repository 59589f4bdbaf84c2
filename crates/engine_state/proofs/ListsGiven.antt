-- The list of a location: by the machine, and put in front.
use Rattle.std.proofs.Common.{◌≡◌, ℕ, List, [], ◌++◌, refl, sym, ap, subst, ◌∙◌, Bool, true, false}
use Rattle.std.specs.Prelude.{Option, Some, None, ◌||◌}
use Rattle.std.proofs.lemmas.Bool.{eq-eqb}
use Rattle.tex_defs.specs.declared.Full.{Full}
use Rattle.tex_defs.specs.declared.Sizes.{Sizes}
use Rattle.tex_defs.specs.declared.Token.{Token}
use Rattle.tex_defs.specs.Places.{World}
use Rattle.plain_tokens.specs.Meanings.{is_listed}
use Rattle.plain_tokens.specs.Pending.{end_token_lists, all_puts}
use Rattle.plain_tokens.specs.Puts.{Put, list_put}
use Rattle.plain_tokens.specs.Tables.{is_put}
use Rattle.equivalents.specs.declared.values.Loc.{Loc}
use Rattle.equivalents.specs.Holding.{lists_held}
use Rattle.equivalents.specs.Locations.{tokens_of}
use Rattle.equivalents.specs.Tables.{get}
use Rattle.plain_machine.specs.declared.broken.Broken.TheVariants as broken
use Rattle.plain_machine.specs.States.{Move}
use Rattle.plain_machine.specs.Numbers.{number_of_list, put_of as numbered}
use Rattle.plain_machine.specs.Plan.{Page, list_given, list_number, shared_tokens, put_body, tokens_entered}
use Rattle.plain_machine.specs.Does.{Did}
use Rattle.plain_machine.proofs.Doing.{did_none}
use Rattle.plain_machine.proofs.GroupNumbers.{get_of, tokens_as}
use Rattle.plain_machine.proofs.Holders.{is_number, standing_is_held}
use Rattle.plain_machine.proofs.Ties.{standing_tied}
use Rattle.input_state.specs.Calls.{after_call}
use Rattle.input_state.specs.Macros.{list_at as shared_list}
use Rattle.input_state.specs.AtLocations.{numbered_tokens, numbered_put, location_put}
use Rattle.input_state.specs.Stored.{KeepsShared, call_refusal}
use Rattle.engine_state.specs.declared.engine.Engine.{Engine}
use Rattle.engine_state.specs.Book.{Book}
use Rattle.engine_state.specs.Lists.{location_list}
use Rattle.engine_state.specs.Stands.{IsSound, state_of, page_of}
use Rattle.engine_state.specs.Rules.{Cuts}
use Rattle.engine_state.proofs.Cutting.{cuts_by}
use Rattle.engine_state.proofs.SharedPut.{lists_sound, shared_cuts, shared_did, shared_sound}

-- ITS TOKENS

none_or_list : (lists : List (List Token)) (o : Option ℕ) → shared_tokens lists o ≡ numbered_tokens lists o
none_or_list lists None = refl
none_or_list lists (Some id) = refl

-- by the machine they are the engine's
pub tokens_are : (sizes : Sizes) (e : Engine) (book : Book) → IsSound sizes e book.number book.all_lists → (l : Loc) → shared_tokens book.all_lists (list_number (page_of e book) l) ≡ location_list e l
tokens_are sizes e book sound l =
    standing_tied book.number book.all_lists e.input.groups (all_puts e.input.pending) e.input.lists sound.tied l ∙ none_or_list e.input.lists (tokens_of (get e.input.groups.now l))

entered_is : (page : Page) (o : Option ℕ) → list_given page true o ≡ tokens_entered (shared_tokens page.all_lists o)
entered_is page None = refl
entered_is page (Some number) = refl

-- where they enter an expanded text
pub copied_is : (sizes : Sizes) (e : Engine) (book : Book) → IsSound sizes e book.number book.all_lists → (l : Loc) → list_given (page_of e book) true (list_number (page_of e book) l) ≡ tokens_entered (location_list e l)
copied_is sizes e book sound l = entered_is (page_of e book) (list_number (page_of e book) l) ∙ ap tokens_entered (tokens_are sizes e book sound l)

-- PUT IN FRONT

module _ (sizes : Sizes) (e : Engine) (book : Book) (sound : IsSound sizes e book.number book.all_lists) (l : Loc) where
  abbrev standing : Option ℕ
  standing = tokens_of (get e.input.groups.now l)

  number_is : list_number (page_of e book) l ≡ number_of_list book.number standing
  number_is = ap tokens_of (get_of book.number e.input.groups.now l) ∙ tokens_as book.number (get e.input.groups.now l)

  held_by : (id : ℕ) → standing ≡ Some id → is_listed (lists_held e.input.groups) id ≡ true
  held_by id is = standing_is_held id e.input.groups l (ap (is_number id) is ∙ eq-eqb id id refl)

  given_by : (id : ℕ) → standing ≡ Some id → list_given (page_of e book) false (list_number (page_of e book) l) ≡ put_body (numbered book.number (list_put id (shared_list e.input.lists id)))
  given_by id is =
      ap (list_given (page_of e book) false) (number_is ∙ ap (number_of_list book.number) is)
      ∙ ap (λ (ts : List Token). put_body (list_put (book.number id) ts)) (sound.tied.tokens id (held_all id (held_by id is))) where
        held_all : (n : ℕ) → is_listed (lists_held e.input.groups) n ≡ true → (is_listed (lists_held e.input.groups) n || is_put n (all_puts e.input.pending)) ≡ true
        held_all n h = ap (λ (b : Bool). b || is_put n (all_puts e.input.pending)) h

  none_given : standing ≡ None → list_given (page_of e book) false (list_number (page_of e book) l) ≡ []
  none_given is = ap (list_given (page_of e book) false) (number_is ∙ ap (number_of_list book.number) is)

  -- there is no room for it
  pub given_cuts : (e2 : Engine) (w : World) (full : Full) (more : List Move) → e2 ≡ record e { input = record e.input { pending = end_token_lists e.input.pending; lists = e2.input.lists } } → call_refusal (location_put e.input.lists e.input.groups l) e.input ≡ Some full →
      Cuts sizes (state_of e book) e2 book w w (list_given (page_of e book) false (list_number (page_of e book) l) ++ more) (broken.Full full)
  given_cuts e2 w full more after refuses = by_standing standing refl where
    by_standing : (o : Option ℕ) → standing ≡ o → Cuts sizes (state_of e book) e2 book w w (list_given (page_of e book) false (list_number (page_of e book) l) ++ more) (broken.Full full)
    by_standing None none = let nothing : None ≡ Some full = sym (ap (λ (o : Option ℕ). call_refusal (numbered_put e.input.lists o) e.input) none) ∙ refuses in cc
    by_standing (Some id) some =
        let p : Put = list_put id (shared_list e.input.lists id) in
        cuts_by sizes _ e2 book w w (put_body (numbered book.number p) ++ more) _ (broken.Full full) (ap (λ (ms : List Move). ms ++ more) (given_by id some))
        (shared_cuts sizes e book sound id p refl (held_by id some) e2 w full more after (sym (ap (λ (o : Option ℕ). call_refusal (numbered_put e.input.lists o) e.input) some) ∙ refuses))

  module _ (e2 : Engine) (after : e2 ≡ record e { input = record e.input { pending = after_call (location_put e.input.lists e.input.groups l) e.input.pending; lists = e2.input.lists } }) (all_lists : KeepsShared e.input e2.input) where
    after_by : (o : Option ℕ) → standing ≡ o → e2 ≡ record e { input = record e.input { pending = after_call (numbered_put e.input.lists o) e.input.pending; lists = e2.input.lists } }
    after_by o is = after ∙ ap (λ (x : Option ℕ). record e { input = record e.input { pending = after_call (numbered_put e.input.lists x) e.input.pending; lists = e2.input.lists } }) is

    pub given_did : (w : World) → call_refusal (location_put e.input.lists e.input.groups l) e.input ≡ None → Did sizes (state_of e book) (state_of e2 book) w w (list_given (page_of e book) false (list_number (page_of e book) l))
    given_did w fits = by_standing standing refl where
      by_standing : (o : Option ℕ) → standing ≡ o → Did sizes (state_of e book) (state_of e2 book) w w (list_given (page_of e book) false (list_number (page_of e book) l))
      by_standing None none =
          subst (λ (ms : List Move). Did sizes (state_of e book) (state_of e2 book) w w ms) (sym (none_given none))
          (subst (λ (y : Engine). Did sizes (state_of e book) (state_of y book) w w []) (sym (after_by None none)) (did_none sizes (state_of e book) w))
      by_standing (Some id) some =
          let p : Put = list_put id (shared_list e.input.lists id) in
          subst (λ (ms : List Move). Did sizes (state_of e book) (state_of e2 book) w w ms) (sym (given_by id some))
          (shared_did sizes e book sound id p refl (held_by id some) e2 (after_by (Some id) some) all_lists w (sym (ap (λ (o : Option ℕ). call_refusal (numbered_put e.input.lists o) e.input) some) ∙ fits))

    pub given_sound : IsSound sizes e2 book.number book.all_lists
    given_sound = by_standing standing refl where
      by_standing : (o : Option ℕ) → standing ≡ o → IsSound sizes e2 book.number book.all_lists
      by_standing None none = lists_sound sizes e e2 book (after_by None none) all_lists sound
      by_standing (Some id) some = shared_sound sizes e book sound id (list_put id (shared_list e.input.lists id)) refl (held_by id some) e2 (after_by (Some id) some) all_lists
