-- Keywords: explicit characters of any category, small or capital, behind spaces, of which none is their first letter. Where one isn't there, what
-- was read is given back, but for the spaces. The TeXbook, chapter 24; TeX: The Program, part 26 (`scan_keyword`).
use Rattle.std.specs.Prelude.{ℕ, ◌+◌, ◌==◌, ◌||◌, Bool, true, false, List, [], ◌∷◌, length, codes, if◌then◌else◌}
use Rattle.tex_defs.specs.declared.Token.{Token}
use Rattle.tex_defs.specs.declared.Token.TheVariants as token
use Rattle.tex_defs.specs.declared.Seen.{Seen}
use Rattle.tex_syntax.specs.declared.words.Want.TheVariants.{Expanded}
use Rattle.plain_tokens.specs.Tokens.{is_space}
use Rattle.rows.specs.declared.words.Keyword.{Keyword}
use Rattle.rows.specs.declared.words.Keyword.TheVariants.{By, Plus, Minus, Fil, L, True, Em, Ex, Pt, In, Pc, Cm, Mm, Bp, Dd, Cc, Sp, Mu}
use Rattle.rows.specs.declared.words.Datum.TheVariants as datum
use Rattle.rows.specs.declared.words.Value.TheVariants as value
use Rattle.rows.specs.Readings.{Fed, Tok, Noted, Ask}
use Rattle.rows.specs.Readings as reading
use Rattle.plain_readings.specs.declared.asks.KeywordAsk.{KeywordAsk}
use Rattle.plain_readings.specs.declared.asks.KeywordAsk.TheVariants.{More, Puts, Done}

abbrev pub letters : Keyword → List ℕ
letters By = codes "by"
letters Plus = codes "plus"
letters Minus = codes "minus"
letters Fil = codes "fil"
letters L = codes "l"
letters True = codes "true"
letters Em = codes "em"
letters Ex = codes "ex"
letters Pt = codes "pt"
letters In = codes "in"
letters Pc = codes "pc"
letters Cm = codes "cm"
letters Mm = codes "mm"
letters Bp = codes "bp"
letters Dd = codes "dd"
letters Cc = codes "cc"
letters Sp = codes "sp"
letters Mu = codes "mu"

-- a character with this small letter, or with its capital
abbrev pub is_letter : ℕ → Token → Bool
is_letter c (token.Char category code) = (code == c) || (code + 32 == c)
is_letter c t = false

-- whether the keyword was there
abbrev pub ends_found : Bool → KeywordAsk
ends_found found = Done found

-- these tokens are given back, one by one, the last first
abbrev pub giving_back : List Token → List Fed → KeywordAsk
giving_back [] fed = ends_found false
giving_back (t ∷ ts) [] = Puts t (length ts)
giving_back (t ∷ ts) (Noted ∷ fed) = giving_back ts fed
giving_back (t ∷ ts) (y ∷ fed) = ends_found false

-- a space, before the first letter
abbrev pub is_skipped : List Token → Seen → Bool
is_skipped [] x = is_space x
is_skipped (t ∷ ts) x = false

-- these letters are still to come, behind these tokens, the last first
abbrev pub keyword_from : List ℕ → List Token → List Fed → KeywordAsk
keyword_from [] ts fed = ends_found true
keyword_from (c ∷ cs) ts [] = More Expanded
keyword_from (c ∷ cs) ts (Tok x ∷ fed) =
    if is_letter c x.token then keyword_from cs (x.token ∷ ts) fed
    else if is_skipped ts x then keyword_from (c ∷ cs) ts fed
    else giving_back (x.token ∷ ts) fed
keyword_from (c ∷ cs) ts (y ∷ fed) = ends_found false

abbrev pub keyword : Keyword → List Fed → KeywordAsk
keyword w fed = keyword_from (letters w) [] fed

-- what it asks for, among all that a reading may ask for
abbrev pub keyword_ask : KeywordAsk → Ask
keyword_ask (More want) = reading.More want
keyword_ask (Puts t more) = reading.Puts t more
keyword_ask (Done found) = reading.Done (value.Plain (datum.Found found)) false
