-- Lists that get tokens at their end, among the lists that are held.
use Rattle.std.specs.Prelude.{◌≡◌, ◌≤◌, ◌+◌, List, [], ◌∷◌, ◌++◌, length, Some}
use Rattle.tex_defs.specs.declared.Full.{Full}
use Rattle.tex_defs.specs.declared.Token.{Token}
use Rattle.plain_tokens.specs.Tables.{memory, refused}
use Rattle.input_state.specs.HeldLists.{HeldLists, words_held}
use Rattle.input_state.specs.AtLocations.{appended, appended_made}

-- Of these tokens some, from the first on, are there, and the next one has no room: `grown` is all with the ones that are there.
pub record HeldShort (grown : List Token → HeldLists → HeldLists) (ts : List Token) (old new : HeldLists) (full : Full) : Type 0 where
  pub front : List Token
  pub next : Token
  pub rest : List Token
  pub split : ts ≡ front ++ next ∷ rest
  pub after : new ≡ record (grown front old) { lists = new.lists }
  pub fits : words_held old + length front ≤ old.sizes.main_memory_size
  pub refused_then : refused new.sizes (memory 1 (words_held new) ∷ []) ≡ Some full

abbrev pub held_appended : List Token → HeldLists → HeldLists
held_appended ts s = record s { builds = appended ts s.builds }

abbrev pub held_appended_made : List Token → HeldLists → HeldLists
held_appended_made ts s = record s { making = appended_made ts s.making }
