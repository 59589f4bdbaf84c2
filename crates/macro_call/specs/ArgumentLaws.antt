-- What an argument is, said without the search for it.
use Rattle.std.specs.Prelude.{[], ◌∷◌, ◌≡◌, ◌≢◌, ◌↔◌, ◌≤◌, ◌<◌, true, false, List, ◌++◌, length}
use Rattle.tex_defs.specs.declared.Token.{Token}
use Rattle.plain_tokens.specs.declared.par_mode.ParMode.{ParMode}
use Rattle.plain_tokens.specs.declared.par_mode.ParMode.TheVariants.{Long}
use Rattle.plain_tokens.specs.Arguments.{is_begin, is_end, open_after, all_close, is_balanced, is_prefix, partial, unmatched, is_delimited, without_braces, Fed, Tok, Answer, More, ExtraBraceFound, Called, Mismatch, Ended, Gathered, search, gathering}

abbrev pub IsClosed : Answer → Type 0
IsClosed (More args work) = ⊥
IsClosed (ExtraBraceFound args work) = ⊥
IsClosed (Called args) = Unit {0}
IsClosed Mismatch = Unit {0}
IsClosed (Ended silent args work) = Unit {0}

-- What ends a call is decided by the fewest tokens: nothing that follows changes it.
abbrev pub CallsEndAtOnce : Type 0
CallsEndAtOnce = (text : List Token) (mode : ParMode) (fed more : List Fed) →
    IsClosed (gathering text mode fed) → gathering text mode (fed ++ more) ≡ gathering text mode fed

abbrev pub fed_with : List Token → List Fed
fed_with [] = []
fed_with (x ∷ xs) = Tok x ∷ fed_with xs

-- a balanced list that is followed by the delimiter, and no shorter one is
pub record IsShortest (ds a rest : List Token) : Type 0 where
  pub balanced : is_balanced a ≡ true
  pub shortest : (b more : List Token) → is_balanced b ≡ true → a ++ (ds ++ rest) ≡ b ++ (ds ++ more) → length a ≤ length b

-- Before a delimiter whose braces close, a \long macro takes the shortest balanced list, without its braces where it is
-- one group.
abbrev pub ArgumentsAreShortest : Type 0
ArgumentsAreShortest = (d : Token) (ds a rest : List Token) → IsShortest (d ∷ ds) a rest → all_close 0 (a ++ d ∷ ds) ≡ true →
    search (d ∷ ds) false Long [] [] (fed_with (a ++ (d ∷ ds ++ rest))) ≡ Gathered Long (without_braces a) (fed_with rest)

-- A list is delimited exactly where it is a balanced list and then the delimiter.
abbrev pub DelimitedListsAreBalanced : Type 0
DelimitedListsAreBalanced = (ds t : List Token) → (is_delimited ds t ≡ true) ↔ ((a : List Token) × (t ≡ a ++ ds) × (is_balanced a ≡ true))

-- A list in braces loses them where what is between them is balanced, and no other list changes.
pub record OneGroupLosesBraces : Type 0 where
  pub group : (b e : Token) (us : List Token) → is_begin b ≡ true → is_end e ≡ true → is_balanced us ≡ true → without_braces (b ∷ us ++ e ∷ []) ≡ us
  pub other : (a : List Token) → ((b e : Token) (us : List Token) → is_begin b ≡ true → is_end e ≡ true → is_balanced us ≡ true → a ≢ b ∷ us ++ e ∷ []) → without_braces a ≡ a

-- What was read is a list and its partial match. The match is a prefix of the delimiter, begins outside all groups, and
-- none that does is longer: so where a match fails, the next one may begin at its second token.
pub record MatchesRestart : Type 0 where
  pub whole : (ds t : List Token) → unmatched ds 0 t ++ partial ds 0 t ≡ t
  pub prefix : (ds t : List Token) → is_prefix (partial ds 0 t) ds ≡ true
  pub outside : (ds t : List Token) → 0 < length (partial ds 0 t) → open_after 0 (unmatched ds 0 t) ≡ 0
  pub longest : (ds u v : List Token) → open_after 0 u ≡ 0 → is_prefix v ds ≡ true → length v ≤ length (partial ds 0 (u ++ v))
