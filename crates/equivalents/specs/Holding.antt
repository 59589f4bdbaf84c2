-- The lists that locations and saved values hold, by their numbers.
use Rattle.std.specs.Prelude.{ℕ, suc, ◌+◌, ◌||◌, if◌then◌else◌, List, [], ◌∷◌, ◌++◌, Option, None, Some}
use Rattle.tex_defs.specs.declared.Meaning.{Meaning}
use Rattle.tex_defs.specs.declared.Meaning.TheVariants as means
use Rattle.tex_defs.specs.declared.Token.{Token}
use Rattle.plain_tokens.specs.Meanings.{is_listed}
use Rattle.plain_tokens.specs.Puts.{Put}
use Rattle.plain_tokens.specs.Tables.{is_put, list_words}
use Rattle.save_stack.specs.declared.Saved.{Saved}
use Rattle.equivalents.specs.declared.values.Val.TheVariants as val
use Rattle.equivalents.specs.Locations.{V}
use Rattle.equivalents.specs.Tables.{Tables}
use Rattle.equivalents.specs.Groups.{Groups}

-- the number of a macro's list
abbrev pub list_of : Meaning (Option ℕ) → Option ℕ
list_of (means.Macro long outer list) = list
list_of m = None

-- the list of a value
abbrev pub value_list : V → Option ℕ
value_list (val.Meant m) = list_of m
value_list (val.Tokens list) = list
value_list v = None

abbrev pub with_list : Option ℕ → List ℕ → List ℕ
with_list None numbers = numbers
with_list (Some n) numbers = n ∷ numbers

abbrev pub lists_of : List (Option ℕ) → List ℕ
lists_of [] = []
lists_of (x ∷ xs) = with_list x (lists_of xs)

abbrev pub lists_of_meanings : List (Meaning (Option ℕ)) → List ℕ
lists_of_meanings [] = []
lists_of_meanings (m ∷ ms) = with_list (list_of m) (lists_of_meanings ms)

abbrev pub lists_of_saved : List (Saved V) → List ℕ
lists_of_saved [] = []
lists_of_saved (e ∷ es) = with_list (value_list e.value) (lists_of_saved es)

abbrev pub lists_of_entries : List (List (Saved V)) → List ℕ
lists_of_entries [] = []
lists_of_entries (g ∷ gs) = lists_of_saved g ++ lists_of_entries gs

-- by the locations of a map
abbrev pub lists_of_table : Tables → List ℕ
lists_of_table m = lists_of m.toks ++ (lists_of m.parameters ++ lists_of_meanings m.meanings)

-- All holders: the locations that have a list now, and the saved values. A list has its number once for each holder.
abbrev pub lists_held : Groups → List ℕ
lists_held g = lists_of_table g.now ++ lists_of_entries g.entries

-- the lists of the maps outside the innermost group; of an engine's groups each of these is held too, as what an outer map has and the present one has not is saved
abbrev pub lists_outside : List Tables → List ℕ
lists_outside [] = []
lists_outside (m ∷ ms) = lists_of_table m ++ lists_outside ms

-- MAIN MEMORY: a list that has a number is held by locations and saved values, and by each list in front that is its; it is counted once.

-- the words of those of these lists that are held, the first of which has the number n
abbrev pub shared_words : (n : ℕ) → (held : List ℕ) → List Put → List (List Token) → ℕ
shared_words n held puts [] = 0
shared_words n held puts (ts ∷ lists) = (if is_listed held n || is_put n puts then list_words ts else 0) + shared_words (suc n) held puts lists
