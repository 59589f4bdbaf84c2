-- Keywords: a law of them is proved once, as those in `Steps`, and each weighs less behind its note.
use Rattle.std.proofs.Common.{◌≤◌, ◌<◌, ℕ, ◌+◌, Bool, true, false, List, [], ◌∷◌, ◌++◌, length, arith}
use Rattle.std.specs.Prelude.{if◌then◌else◌}
use Rattle.tex_defs.specs.declared.Token.{Token}
use Rattle.tex_defs.specs.declared.Seen.{Seen}
use Rattle.tex_syntax.specs.declared.words.Want.{Want}
use Rattle.tex_syntax.specs.declared.words.Want.TheVariants.{Expanded}
use Rattle.rows.specs.declared.words.Keyword.{Keyword}
use Rattle.rows.specs.declared.words.Keyword.TheVariants.{By, Plus, Minus, Fil, L, True, Em, Ex, Pt, In, Pc, Cm, Mm, Bp, Dd, Cc, Sp, Mu}
use Rattle.rows.specs.Laws.{is_noted}
use Rattle.rows.specs.Readings.{Fed, Tok, Noted}
use Rattle.plain_readings.specs.declared.asks.KeywordAsk.{KeywordAsk}
use Rattle.plain_readings.specs.declared.asks.KeywordAsk.TheVariants.{More, Puts}
use Rattle.plain_tokens.specs.Tokens.{is_space}
use Rattle.plain_readings.specs.Keywords.{letters, is_letter, is_skipped, ends_found, giving_back, keyword_from, keyword, keyword_ask}
use Rattle.plain_readings.specs.Weights.{value_weight, ask_weight, IsNoted}
use Rattle.plain_readings.proofs.Wants.{IsUncopied}

-- the longest has five letters
pub letters_few : (w : Keyword) → length (letters w) ≤ 5
letters_few By = omega arith
letters_few Plus = omega arith
letters_few Minus = omega arith
letters_few Fil = omega arith
letters_few L = omega arith
letters_few True = omega arith
letters_few Em = omega arith
letters_few Ex = omega arith
letters_few Pt = omega arith
letters_few In = omega arith
letters_few Pc = omega arith
letters_few Cm = omega arith
letters_few Mm = omega arith
letters_few Bp = omega arith
letters_few Dd = omega arith
letters_few Cc = omega arith
letters_few Sp = omega arith
letters_few Mu = omega arith

-- a law speaks of an answer, and of whether a note came last
module _
    (P : Bool → KeywordAsk → Type 0)
    (more : (b : Bool) (want : Want) → IsUncopied want → P b (More want))
    (done : (b found : Bool) → P b (ends_found found))
    (put : (b : Bool) (t : Token) (n : ℕ) → n ≤ 4 → P b (Puts t n))
  where
    either_holds : (b c : Bool) (p q : KeywordAsk) → P b p → P b q → P b (if c then p else q)
    either_holds b true p q h i = h
    either_holds b false p q h i = i

    giving_holds : (ts : List Token) → length ts ≤ 5 → (b : Bool) (fed : List Fed) → P (is_noted b fed) (giving_back ts fed)
    giving_holds [] few b fed = done (is_noted b fed) false
    giving_holds (t ∷ ts) few b [] = put b t (length ts) (omega (arith, few))
    giving_holds (t ∷ ts) few b (Noted ∷ fed) = giving_holds ts (omega (arith, few)) true fed
    giving_holds (t ∷ ts) few b (y ∷ fed) = done _ false

    from_holds : (cs : List ℕ) (ts : List Token) → length cs + length ts ≤ 5 → (b : Bool) (fed : List Fed) → P (is_noted b fed) (keyword_from cs ts fed)
    from_holds [] ts few b fed = done (is_noted b fed) true
    from_holds (c ∷ cs) ts few b [] = more b Expanded tt
    from_holds (c ∷ cs) ts few b (Tok x ∷ fed) =
        either_holds (is_noted false fed) (is_letter c x.token) _ _
        (from_holds cs (x.token ∷ ts) (omega (arith, few)) false fed)
        (either_holds (is_noted false fed) (is_skipped ts x) _ _ (from_holds (c ∷ cs) ts few false fed) (giving_holds (x.token ∷ ts) (omega (arith, few)) false fed))
    from_holds (c ∷ cs) ts few b (y ∷ fed) = done _ false

    pub keyword_holds : (w : Keyword) (b : Bool) (fed : List Fed) → P (is_noted b fed) (keyword w fed)
    keyword_holds w b fed = from_holds (letters w) [] (omega (arith, letters_few w)) b fed

-- WEIGHTS

abbrev weighs : KeywordAsk → ℕ
weighs a = ask_weight value_weight (keyword_ask a)

abbrev Falls : KeywordAsk → KeywordAsk → Type 0
Falls a b = IsNoted (keyword_ask a) → weighs b < weighs a

falls_if : (c : Bool) (p p' q q' : KeywordAsk) → Falls p p' → Falls q q' → Falls (if c then p else q) (if c then p' else q')
falls_if true p p' q q' h i = h
falls_if false p p' q q' h i = i

giving_falls : (ts : List Token) (fed : List Fed) → Falls (giving_back ts fed) (giving_back ts (fed ++ Noted ∷ []))
giving_falls [] fed = λ h. absurd h
giving_falls (t ∷ []) [] = λ h. omega arith
giving_falls (t ∷ u ∷ ts) [] = λ h. omega arith
giving_falls (t ∷ ts) (Noted ∷ fed) = giving_falls ts fed
giving_falls (t ∷ ts) (y ∷ fed) = λ h. absurd h

from_falls : (cs : List ℕ) (ts : List Token) (fed : List Fed) → Falls (keyword_from cs ts fed) (keyword_from cs ts (fed ++ Noted ∷ []))
from_falls [] ts fed = λ h. absurd h
from_falls (c ∷ cs) ts [] = λ h. absurd h
from_falls (c ∷ cs) ts (Tok x ∷ fed) =
    falls_if (is_letter c x.token) _ _ _ _ (from_falls cs (x.token ∷ ts) fed)
    (falls_if (is_skipped ts x) _ _ _ _ (from_falls (c ∷ cs) ts fed) (giving_falls (x.token ∷ ts) fed))
from_falls (c ∷ cs) ts (y ∷ fed) = λ h. absurd h

pub keyword_falls : (w : Keyword) (fed : List Fed) → IsNoted (keyword_ask (keyword w fed)) → weighs (keyword w (fed ++ Noted ∷ [])) < weighs (keyword w fed)
keyword_falls w fed = from_falls (letters w) [] fed

light_if : (c : Bool) (p q : KeywordAsk) → weighs p ≤ 59 → weighs q ≤ 59 → weighs (if c then p else q) ≤ 59
light_if true p q h i = h
light_if false p q h i = i

more_light : (cs : List ℕ) (ts : List Token) → weighs (keyword_from cs ts []) ≤ 59
more_light [] ts = omega arith
more_light (c ∷ cs) ts = omega arith

from_light : (cs : List ℕ) (x : Seen) → weighs (keyword_from cs [] (Tok x ∷ [])) ≤ 59
from_light [] x = omega arith
from_light (c ∷ cs) x = light_if (is_letter c x.token) _ _ (more_light cs (x.token ∷ [])) (light_if (is_space x) _ _ (more_light (c ∷ cs) []) (omega arith))

-- one that began with a token puts back that one alone
pub keyword_light : (w : Keyword) (x : Seen) → weighs (keyword w (Tok x ∷ [])) ≤ 59
keyword_light w x = from_light (letters w) x
