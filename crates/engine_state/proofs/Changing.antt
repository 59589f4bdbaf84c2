-- The case of characters.
use Rattle.std.proofs.Common.{◌≡◌, ℕ, ℤ, List, [], ◌∷◌, map, Bool, true, false, refl, sym, ap, ap₂, ◌∙◌}
use Rattle.std.specs.Prelude.{◌≢◌, Option, Some, MatchBool, not}
use Rattle.tex_defs.specs.declared.Token.{Token}
use Rattle.equivalents.specs.Cases.{case_codes, case_changed}
use Rattle.equivalents.specs.Groups.{Groups}
use Rattle.equivalents.specs.Tables.{Tables}
use Rattle.plain_machine.specs.Numbers.{tables_of}
use Rattle.reading_frames.specs.Views.{kept_list_of}
use Rattle.input_state.specs.HeldLists.{first_list, is_empty, made as made_list}
use Rattle.input_state.specs.Stored.{Stored}
use Rattle.engine_state.specs.declared.engine.Engine.{Engine}
use Rattle.engine_state.specs.Book.{Book}
use Rattle.engine_state.specs.Making.{IsInFront, changed_list}
use Rattle.engine_state.specs.Stands.{page_of}

codes_same : (upper : Bool) (number : ℕ → ℕ) (m : Tables) → case_codes upper (tables_of number m) ≡ case_codes upper m
codes_same true number m = refl
codes_same false number m = refl

-- by the machine before what begins a text, and by the engine behind it
pub changed_behind : (e e1 : Engine) (book : Book) → IsInFront e e1 → (upper listed : Bool) → map (case_changed (case_codes upper (page_of e book).now)) (kept_list_of listed e.input.builds) ≡ changed_list upper listed e1.input
changed_behind e e1 book front upper listed =
    ap (λ (cs : List ℤ). map (case_changed cs) (kept_list_of listed e.input.builds)) (codes_same upper book.number e.input.groups.now)
    ∙ ap₂ (λ (g : Groups) (l : List (List Token)). map (case_changed (case_codes upper g.now)) (kept_list_of listed l)) (sym front.store.groups) (sym front.frames.lists)

-- the list on top
kept_first : (listed : Bool) (l : List (List Token)) → listed ≡ true → first_list l ≡ kept_list_of listed l
kept_first true [] is = refl
kept_first true (ts ∷ l) is = refl
kept_first false l is = cc

pub changed_first : (upper listed : Bool) (i : Stored) → listed ≡ true → map (case_changed (case_codes upper i.groups.now)) (first_list i.builds) ≡ changed_list upper listed i
changed_first upper listed i is = ap (map (case_changed (case_codes upper i.groups.now))) (kept_first listed i.builds is)

-- WHETHER A TOKEN IS THERE

changed_tokens : (f : Token → Token) (ts : List Token) → MatchBool (not (is_empty ts)) (map f ts ≢ []) (map f ts ≡ [])
changed_tokens f [] = refl
changed_tokens f (t ∷ ts) = λ none. cc

pub changed_some : (upper listed b : Bool) (i : Stored) → listed ≡ true → b ≡ is_empty (first_list i.builds) → MatchBool (not b) (changed_list upper listed i ≢ []) (changed_list upper listed i ≡ [])
changed_some upper listed b i on is =
    rw (is, sym (changed_first upper listed i on)) (changed_tokens (case_changed (case_codes upper i.groups.now)) (first_list i.builds))

-- the list that is made
pub listed_some : (b : Bool) (ts : List Token) (o : Option (List Token)) → o ≡ Some ts → MatchBool b (ts ≡ [] → ⊥) (ts ≡ []) → MatchBool b (made_list o ≡ [] → ⊥) (made_list o ≡ [])
listed_some true ts o is h = λ none. h (sym (ap made_list is) ∙ none)
listed_some false ts o is h = ap made_list is ∙ h
