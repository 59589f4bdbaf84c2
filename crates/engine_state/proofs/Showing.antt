-- What `\show` writes.
use Rattle.std.proofs.Common.{◌≡◌, ℕ, List, [], ◌∷◌, ◌++◌, refl, sym, ap, ◌∙◌, subst, Bool, true}
use Rattle.std.specs.Prelude.{Option, Some, None, MatchOption}
use Rattle.tex_defs.specs.declared.Sizes.{Sizes}
use Rattle.tex_defs.specs.declared.Token.{Token}
use Rattle.tex_defs.specs.declared.Meaning.{Meaning}
use Rattle.tex_defs.specs.declared.Seen.{Seen}
use Rattle.tex_defs.specs.Places.{World, Transcript}
use Rattle.plain_tokens.specs.Meanings.{meaning_to_let}
use Rattle.plain_tokens.specs.Pending.{all_puts}
use Rattle.plain_tokens.specs.Printed.{Style, meaning_tokens}
use Rattle.plain_state.specs.Reports.{shown_meaning_bytes, shown_value_bytes}
use Rattle.equivalents.specs.declared.values.Loc.{Loc}
use Rattle.equivalents.specs.Locations.{SeenValue, value_seen}
use Rattle.equivalents.specs.Tables.{get}
use Rattle.rows.specs.Internal.{value_text}
use Rattle.plain_machine.specs.declared.broken.Broken.{Broken}
use Rattle.plain_machine.specs.States.{Move, Written, Flawed}
use Rattle.plain_machine.specs.Plan.{shared_tokens, list_number, shown, location_shown, value_shown}
use Rattle.plain_machine.specs.Does.{Did}
use Rattle.plain_machine.proofs.Doing.{did_join, did_one}
use Rattle.plain_machine.proofs.GroupNumbers.{fetched_same}
use Rattle.plain_machine.proofs.Ties.{tokens_let}
use Rattle.transcript.specs.Given.{tokens_given}
use Rattle.engine_state.specs.declared.engine.Engine.{Engine}
use Rattle.engine_state.specs.Book.{Book}
use Rattle.engine_state.specs.Lists.{location_list}
use Rattle.engine_state.specs.Stands.{IsSound, state_of, page_of, own_style}
use Rattle.engine_state.specs.Rules.{Cuts}
use Rattle.engine_state.proofs.Cutting.{cuts_by}
use Rattle.engine_state.proofs.Joining.{quiet_here}
use Rattle.engine_state.proofs.ListsGiven.{tokens_are}

-- the tokens of a list that may be there
pub listed_tokens : {X : Type 0} (tokens_of : X → List Token) (o : Option X) (ts : List Token) → MatchOption o (ts ≡ []) (λ x. tokens_of x ≡ ts) → tokens_given tokens_of o ≡ ts
listed_tokens tokens_of None ts h = sym h
listed_tokens tokens_of (Some x) ts h = h

-- a text by its style, line and tokens
pub text_by : (style style' : Style) (b : Bool) (line line' : ℕ) (t : Token) (m : Meaning Unit) (ts us : List Token) → style ≡ style' → line ≡ line' → ts ≡ us → shown_meaning_bytes style b line t m ts ≡ shown_meaning_bytes style' b line' t m us
text_by style style' b line line' t m ts us s l is =
    ap (λ (x : Style). shown_meaning_bytes x b line t m ts) s
    ∙ (ap (λ (n : ℕ). shown_meaning_bytes style' b n t m ts) l ∙ ap (λ (xs : List Token). shown_meaning_bytes style' b line' t m xs) is)

-- behind a text the status is to be 1
pub flawed_behind : (sizes : Sizes) (e e1 : Engine) (book : Book) (w w' : World) (text : List ℕ) → Did sizes (state_of e book) (state_of e1 book) w w' (Written Transcript text ∷ []) →
    Did sizes (state_of e book) (state_of (record e1 { flawed = true }) book) w w' (Written Transcript text ∷ Flawed ∷ [])
flawed_behind sizes e e1 book w w' text first = did_join sizes _ _ _ w w' w' (Written Transcript text ∷ []) (Flawed ∷ []) first (did_one sizes Flawed _ _ w' w' refl refl (quiet_here Flawed w' tt))

module _ (sizes : Sizes) (e : Engine) (book : Book) (sound : IsSound sizes e book.number book.all_lists) (x : Seen) where
  abbrev bytes : List Token → List ℕ
  bytes ts = shown_meaning_bytes (own_style e) e.in_line e.input.pending.number x.token x.meaning ts

  abbrev text : List ℕ
  text = bytes (meaning_tokens (shared_tokens e.input.lists) (meaning_to_let e.input.groups.now.meanings x))

  moves_are : shown (page_of e book) x ≡ Written Transcript text ∷ Flawed ∷ []
  moves_are = ap (λ (ts : List Token). Written Transcript (bytes ts) ∷ Flawed ∷ []) (tokens_let book.number book.all_lists e.input.groups (all_puts e.input.pending) e.input.lists sound.tied x)

  -- it is written, and the status is to be 1
  pub shown_did : (e1 : Engine) (w w' : World) → Did sizes (state_of e book) (state_of e1 book) w w' (Written Transcript text ∷ []) →
      Did sizes (state_of e book) (state_of (record e1 { flawed = true }) book) w w' (shown (page_of e book) x)
  shown_did e1 w w' first = subst (λ (ms : List Move). Did sizes (state_of e book) (state_of (record e1 { flawed = true }) book) w w' ms) (sym moves_are) (flawed_behind sizes e e1 book w w' text first)

  -- or cut off
  pub shown_cuts : (e1 : Engine) (w w' : World) (more : List Move) (b : Broken) → Cuts sizes (state_of e book) e1 book w w' (Written Transcript text ∷ Flawed ∷ more) b →
      Cuts sizes (state_of e book) e1 book w w' (shown (page_of e book) x ++ more) b
  shown_cuts e1 w w' more b h = cuts_by sizes _ e1 book w w' _ _ b (ap (λ (ms : List Move). ms ++ more) moves_are) h

-- A VALUE

-- a text by its style, line, characters and tokens
pub value_by : (style style' : Style) (b : Bool) (line line' : ℕ) (text text' : List ℕ) (ts us : List Token) → style ≡ style' → line ≡ line' → text ≡ text' → ts ≡ us → shown_value_bytes style b line text ts ≡ shown_value_bytes style' b line' text' us
value_by style style' b line line' text text' ts us s l t is =
    ap (λ (x : Style). shown_value_bytes x b line text ts) s
    ∙ (ap (λ (n : ℕ). shown_value_bytes style' b n text ts) l ∙ (ap (λ (cs : List ℕ). shown_value_bytes style' b line' cs ts) t ∙ ap (λ (xs : List Token). shown_value_bytes style' b line' text' xs) is))

module _ (sizes : Sizes) (e : Engine) (book : Book) (sound : IsSound sizes e book.number book.all_lists) (l : Loc) where
  abbrev value_bytes : List ℕ
  value_bytes = shown_value_bytes (own_style e) e.in_line e.input.pending.number (value_text l (value_seen (get e.input.groups.now l))) (location_list e l)

  location_is : location_shown (page_of e book) l ≡ Written Transcript value_bytes ∷ Flawed ∷ []
  location_is =
      ap (λ (v : SeenValue). value_shown (page_of e book) (value_text l v) (shared_tokens book.all_lists (list_number (page_of e book) l))) (fetched_same book.number e.input.groups.now l)
      ∙ ap (value_shown (page_of e book) (value_text l (value_seen (get e.input.groups.now l)))) (tokens_are sizes e book sound l)

  pub location_did : (e1 : Engine) (w w' : World) → Did sizes (state_of e book) (state_of e1 book) w w' (Written Transcript value_bytes ∷ []) →
      Did sizes (state_of e book) (state_of (record e1 { flawed = true }) book) w w' (location_shown (page_of e book) l)
  location_did e1 w w' first = subst (λ (ms : List Move). Did sizes (state_of e book) (state_of (record e1 { flawed = true }) book) w w' ms) (sym location_is) (flawed_behind sizes e e1 book w w' value_bytes first)

  pub location_cuts : (e1 : Engine) (w w' : World) (more : List Move) (b : Broken) → Cuts sizes (state_of e book) e1 book w w' (Written Transcript value_bytes ∷ Flawed ∷ more) b →
      Cuts sizes (state_of e book) e1 book w w' (location_shown (page_of e book) l ++ more) b
  location_cuts e1 w w' more b h = cuts_by sizes _ e1 book w w' _ _ b (ap (λ (ms : List Move). ms ++ more) location_is) h
