-- The weights of a keyword's frame, by where it stands.
use Rattle.std.proofs.Common.{◌≡◌, ◌≤◌, ◌<◌, ℕ, ◌+◌, ◌-◌, List, [], ◌∷◌, length, drop, arith}
use Rattle.std.proofs.lemmas.List.{length-drop}
use Rattle.tex_defs.specs.declared.Token.{Token}
use Rattle.equivalents.specs.declared.values.Loc.{Loc}
use Rattle.rows.specs.declared.words.Keyword.{Keyword}
use Rattle.rows.specs.Readings.{Noted, Fetches}
use Rattle.plain_readings.specs.declared.asks.KeywordAsk.{KeywordAsk}
use Rattle.plain_readings.specs.Keywords.{letters, giving_back, keyword_from, keyword_ask}
use Rattle.plain_readings.specs.Weights.{value_weight, ask_weight, IsNoted}
use Rattle.plain_readings.proofs.Keywords.{letters_few}
use Rattle.scan_dimens.specs.Views.{letters_at, back_at, kept, kept_at}
use Rattle.scan_dimens.specs.Resumes.{resume, resume_at, kept_in}
use Rattle.scan_dimens.specs.declared.keyword.KeywordPlace.{KeywordPlace}
use Rattle.scan_dimens.specs.declared.keyword.KeywordPlace.TheVariants.{Letters, PutsBack, Ended}
use Rattle.scan_dimens.specs.declared.keyword.KeywordScan.{KeywordScan}
use Rattle.reading_frames.specs.Weights.{IsEnd}

abbrev weighs : KeywordAsk → ℕ
weighs a = ask_weight value_weight (keyword_ask a)

from_light : (cs : List ℕ) (ts : List Token) → weighs (keyword_from cs ts []) ≤ value_weight
from_light [] ts = omega arith
from_light (c ∷ cs) ts = omega arith

giving_light : (ts : List Token) → weighs (giving_back ts []) ≤ value_weight + length ts
giving_light [] = omega arith
giving_light (t ∷ ts) = omega arith

kept_length : (ts : List Token) (n : ℕ) → length ts ≡ 5 → length (kept n ts) ≤ n
kept_length ts n e = omega (arith, e, length-drop (5 - n) ts)

light_at : (w : Keyword) (ts : List Token) (p : KeywordPlace) → length ts ≡ 5 → weighs (resume_at w ts p []) ≤ value_weight + kept_at p
light_at w ts (Letters n) e = omega (arith, from_light (drop n (letters w)) (kept n ts))
light_at w ts (PutsBack n) e = omega (arith, giving_light (kept n ts), kept_length ts n e)
light_at w ts (Ended found) e = omega arith

few_at : (w : Keyword) (p : KeywordPlace) → letters_at p < length (letters w) → back_at p ≤ 5 → kept_at p ≤ 5
few_at w (Letters n) more few = omega (arith, more, letters_few w)
few_at w (PutsBack n) more few = few
few_at w (Ended found) more few = omega arith

-- no more than its end and the tokens that it keeps
pub keyword_light : (s : KeywordScan) → weighs (resume s []) ≤ value_weight + kept_in s
keyword_light s = light_at s.keyword s.tokens s.place s.longest

pub keyword_small : (s : KeywordScan) → weighs (resume s []) ≤ value_weight + 5
keyword_small s = omega (arith, keyword_light s, few_at s.keyword s.place s.more s.few)

-- BEHIND A NOTE

from_unnoted : (cs : List ℕ) (ts : List Token) → IsNoted (keyword_ask (keyword_from cs ts [])) → ⊥
from_unnoted [] ts h = h
from_unnoted (c ∷ cs) ts h = h

giving_noted : (ts : List Token) → IsNoted (keyword_ask (giving_back ts [])) → weighs (giving_back ts (Noted ∷ [])) < weighs (giving_back ts [])
giving_noted [] h = absurd h
giving_noted (t ∷ []) h = omega arith
giving_noted (t ∷ u ∷ ts) h = omega arith

noted_at : (w : Keyword) (ts : List Token) (p : KeywordPlace) → IsNoted (keyword_ask (resume_at w ts p [])) → weighs (resume_at w ts p (Noted ∷ [])) < weighs (resume_at w ts p [])
noted_at w ts (Letters n) h = absurd (from_unnoted (drop n (letters w)) (kept n ts) h)
noted_at w ts (PutsBack n) h = giving_noted (kept n ts) h
noted_at w ts (Ended found) h = absurd h

pub keyword_noted : (s : KeywordScan) → IsNoted (keyword_ask (resume s [])) → weighs (resume s (Noted ∷ [])) < weighs (resume s [])
keyword_noted s h = noted_at s.keyword s.tokens s.place h

-- NOTHING IS FETCHED

from_unfetched : (cs : List ℕ) (ts : List Token) (l : Loc) → keyword_ask (keyword_from cs ts []) ≡ Fetches l → ⊥
from_unfetched [] ts l e = cc
from_unfetched (c ∷ cs) ts l e = cc

giving_unfetched : (ts : List Token) (l : Loc) → keyword_ask (giving_back ts []) ≡ Fetches l → ⊥
giving_unfetched [] l e = cc
giving_unfetched (t ∷ ts) l e = cc

unfetched_at : (w : Keyword) (ts : List Token) (p : KeywordPlace) (l : Loc) → keyword_ask (resume_at w ts p []) ≡ Fetches l → ⊥
unfetched_at w ts (Letters n) l e = from_unfetched (drop n (letters w)) (kept n ts) l e
unfetched_at w ts (PutsBack n) l e = giving_unfetched (kept n ts) l e
unfetched_at w ts (Ended found) l e = cc

pub keyword_unfetched : (s : KeywordScan) (l : Loc) → keyword_ask (resume s []) ≡ Fetches l → ⊥
keyword_unfetched s l e = unfetched_at s.keyword s.tokens s.place l e

-- IT HAS A VALUE

from_unended : (cs : List ℕ) (ts : List Token) → IsEnd (keyword_ask (keyword_from cs ts [])) → ⊥
from_unended [] ts h = h
from_unended (c ∷ cs) ts h = h

giving_unended : (ts : List Token) → IsEnd (keyword_ask (giving_back ts [])) → ⊥
giving_unended [] h = h
giving_unended (t ∷ ts) h = h

unended_at : (w : Keyword) (ts : List Token) (p : KeywordPlace) → IsEnd (keyword_ask (resume_at w ts p [])) → ⊥
unended_at w ts (Letters n) h = from_unended (drop n (letters w)) (kept n ts) h
unended_at w ts (PutsBack n) h = giving_unended (kept n ts) h
unended_at w ts (Ended found) h = h

pub keyword_unended : (s : KeywordScan) → IsEnd (keyword_ask (resume s [])) → ⊥
keyword_unended s h = unended_at s.keyword s.tokens s.place h
