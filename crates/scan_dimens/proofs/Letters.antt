-- What a keyword asks for behind so many letters, and what it puts back.
use Rattle.std.proofs.Common.{◌≡◌, ◌≤◌, ◌<◌, ℕ, ◌+◌, ◌-◌, Bool, true, false, List, [], ◌∷◌, length, drop, get_or, arith, refl, sym, subst, ap, ◌∙◌, slice_set}
use Rattle.std.specs.Prelude.{if◌then◌else◌}
use Rattle.std.proofs.lemmas.List.{drop_more, drop_all, drop-set-lt}
use Rattle.std.proofs.lemmas.Grind.{drop-set_at}
use Rattle.tex_defs.specs.declared.Token.{Token}
use Rattle.tex_defs.specs.declared.Token.TheVariants.{EndPlaces}
use Rattle.tex_defs.specs.declared.Seen.{Seen}
use Rattle.tex_syntax.specs.declared.words.Want.TheVariants.{Expanded}
use Rattle.rows.specs.Readings.{Fed, Tok, Noted}
use Rattle.plain_tokens.specs.Tokens.{is_space}
use Rattle.plain_readings.specs.declared.asks.KeywordAsk.TheVariants.{More}
use Rattle.plain_readings.specs.Keywords.{letters, is_letter, is_skipped, ends_found, giving_back, keyword_from}
use Rattle.scan_dimens.specs.Views.{letters_at, back_at, kept}
use Rattle.scan_dimens.specs.Resumes.{resume, resume_at}
use Rattle.scan_dimens.specs.declared.keyword.KeywordPlace.{KeywordPlace}
use Rattle.scan_dimens.specs.declared.keyword.KeywordPlace.TheVariants.{Letters, PutsBack}
use Rattle.scan_dimens.specs.declared.keyword.KeywordScan.{KeywordScan}

-- AMONG THE LETTERS

pub more_asked : (cs : List ℕ) (n : ℕ) (us : List Token) → n < length cs → keyword_from (drop n cs) us [] ≡ More Expanded
more_asked cs n us h = ap (λ (l : List ℕ). keyword_from l us []) (drop_more cs n 0 h)

-- what is no token ends it
abbrev pub IsNoToken : Fed → Type 0
IsNoToken (Tok x) = ⊥
IsNoToken y = Unit {0}

first_ends : (c : ℕ) (cs : List ℕ) (us : List Token) (y : Fed) (fed : List Fed) → IsNoToken y → keyword_from (c ∷ cs) us (y ∷ fed) ≡ ends_found false
first_ends c cs us (Tok x) fed h = absurd h
first_ends c cs us y fed h = refl

pub letters_stop : (cs : List ℕ) (n : ℕ) (us : List Token) (y : Fed) (fed : List Fed) → IsNoToken y → n < length cs → keyword_from (drop n cs) us (y ∷ fed) ≡ ends_found false
letters_stop cs n us y fed other h =
    ap (λ (l : List ℕ). keyword_from l us (y ∷ fed)) (drop_more cs n 0 h) ∙ first_ends (get_or cs n 0) (drop (n + 1) cs) us y fed other

-- behind a token, which is the next letter, a space before the first or neither
pub letter_met : (cs : List ℕ) (n : ℕ) (us : List Token) (x : Seen) (fed : List Fed) → n < length cs →
    keyword_from (drop n cs) us (Tok x ∷ fed) ≡
    (if is_letter (get_or cs n 0) x.token then keyword_from (drop (n + 1) cs) (x.token ∷ us) fed
    else if is_skipped us x then keyword_from (drop n cs) us fed
    else giving_back (x.token ∷ us) fed)
letter_met cs n us x fed h =
    ap (λ (l : List ℕ). keyword_from l us (Tok x ∷ fed)) (drop_more cs n 0 h) ∙
    ap (λ (l : List ℕ). if is_letter (get_or cs n 0) x.token then keyword_from (drop (n + 1) cs) (x.token ∷ us) fed else if is_skipped us x then keyword_from l us fed else giving_back (x.token ∷ us) fed) (sym (drop_more cs n 0 h))

-- a token more is kept
pub kept_more : (ts : List Token) (t : Token) (n : ℕ) → length ts ≡ 5 → n ≤ 4 → kept (n + 1) (slice_set ts (4 - n) t) ≡ t ∷ kept n ts
kept_more ts t n e h =
    let i : 5 - (n + 1) ≡ 4 - n = omega (arith, h) in
    let j : 4 - n + 1 ≡ 5 - n = omega (arith, h) in
    drop-set_at ts (4 - n) (5 - (n + 1)) t i (omega (arith, e, h)) ∙ ap (λ (m : ℕ). t ∷ drop m ts) j

-- one in front of them changes none
pub kept_same : (ts : List Token) (t : Token) (n : ℕ) → n ≤ 4 → kept n (slice_set ts (4 - n) t) ≡ kept n ts
kept_same ts t n h = drop-set-lt (5 - n) ts (4 - n) t (omega (arith, h))

-- WHAT GOES BACK

abbrev pub IsNoNote : Fed → Type 0
IsNoNote Noted = ⊥
IsNoNote y = Unit {0}

pub back_stop : (us : List Token) (y : Fed) (fed : List Fed) → IsNoNote y → giving_back us (y ∷ fed) ≡ ends_found false
back_stop [] y fed h = refl
back_stop (t ∷ us) Noted fed h = absurd h
back_stop (t ∷ us) y fed h = refl

kept_first : (ts : List Token) (n : ℕ) → length ts ≡ 5 → 1 ≤ n → n ≤ 5 → kept n ts ≡ get_or ts (5 - n) EndPlaces ∷ kept (n - 1) ts
kept_first ts n e least most =
    let j : 5 - n + 1 ≡ 5 - (n - 1) = omega (arith, least, most) in
    drop_more ts (5 - n) EndPlaces (omega (arith, e, least)) ∙ ap (λ (m : ℕ). get_or ts (5 - n) EndPlaces ∷ drop m ts) j

pub back_noted : (ts : List Token) (n : ℕ) (fed : List Fed) → length ts ≡ 5 → 1 ≤ n → n ≤ 5 → giving_back (kept n ts) (Noted ∷ fed) ≡ giving_back (kept (n - 1) ts) fed
back_noted ts n fed e least most = ap (λ (l : List Token). giving_back l (Noted ∷ fed)) (kept_first ts n e least most)

-- WHERE A SCANNER STANDS

left : (s : KeywordScan) (n : ℕ) → s.place ≡ Letters n → n < length (letters s.keyword)
left s n is = subst (λ (p : KeywordPlace). letters_at p < length (letters s.keyword)) is s.more

resumed : (s : KeywordScan) (p : KeywordPlace) (fed : List Fed) → s.place ≡ p → resume s fed ≡ resume_at s.keyword s.tokens p fed
resumed s p fed is = ap (λ (q : KeywordPlace). resume_at s.keyword s.tokens q fed) is

pub asks_more : (s : KeywordScan) (n : ℕ) → s.place ≡ Letters n → More Expanded ≡ resume s []
asks_more s n is = sym (resumed s (Letters n) [] is ∙ more_asked (letters s.keyword) n (kept n s.tokens) (left s n is))

pub letters_end : (s : KeywordScan) (n : ℕ) (y : Fed) (fed : List Fed) → s.place ≡ Letters n → IsNoToken y → resume s (y ∷ fed) ≡ ends_found false
letters_end s n y fed is other = resumed s (Letters n) (y ∷ fed) is ∙ letters_stop (letters s.keyword) n (kept n s.tokens) y fed other (left s n is)

pub back_ends : (s : KeywordScan) (n : ℕ) (y : Fed) (fed : List Fed) → s.place ≡ PutsBack n → IsNoNote y → resume s (y ∷ fed) ≡ ends_found false
back_ends s n y fed is other = resumed s (PutsBack n) (y ∷ fed) is ∙ back_stop (kept n s.tokens) y fed other

pub back_goes_on : (s : KeywordScan) (n : ℕ) (fed : List Fed) → s.place ≡ PutsBack n → resume s (Noted ∷ fed) ≡ giving_back (kept (n - 1) s.tokens) fed
back_goes_on s n fed is =
    resumed s (PutsBack n) (Noted ∷ fed) is ∙
    back_noted s.tokens n fed s.longest (subst (λ (p : KeywordPlace). 1 ≤ back_at p) is s.some) (subst (λ (p : KeywordPlace). back_at p ≤ 5) is s.few)

none_kept : (ts : List Token) (n : ℕ) → length ts ≡ 5 → n ≡ 0 → kept n ts ≡ []
none_kept ts n e z = rw z (drop_all 5 ts (omega (arith, e)))

pub back_over : (s : KeywordScan) (n : ℕ) (fed : List Fed) → s.place ≡ PutsBack n → n ≤ 1 → resume s (Noted ∷ fed) ≡ ends_found false
back_over s n fed is last = back_goes_on s n fed is ∙ ap (λ (l : List Token). giving_back l fed) (none_kept s.tokens (n - 1) s.longest (omega (arith, last)))

-- THE NEXT LETTER

kept_none : (ts : List Token) → length ts ≡ 5 → kept 0 ts ≡ []
kept_none ts e = none_kept ts 0 e refl

-- before the first letter a space is
pub space_skipped : (ts : List Token) (x : Seen) → length ts ≡ 5 → is_skipped (kept 0 ts) x ≡ is_space x
space_skipped ts x e = ap (λ (l : List Token). is_skipped l x) (kept_none ts e)

-- behind a letter no space is skipped
pub none_skipped : (ts : List Token) (n : ℕ) (x : Seen) → length ts ≡ 5 → 1 ≤ n → n ≤ 5 → is_skipped (kept n ts) x ≡ false
none_skipped ts n x e least most = ap (λ (l : List Token). is_skipped l x) (kept_first ts n e least most)

module _ (cs : List ℕ) (ts : List Token) (n : ℕ) (x : Seen) (fed : List Fed) (c : ℕ) (letter : get_or cs n 0 ≡ c) (more : n < length cs) where
  met : (b s : Bool) → is_letter c x.token ≡ b → is_skipped (kept n ts) x ≡ s →
      keyword_from (drop n cs) (kept n ts) (Tok x ∷ fed) ≡
      (if b then keyword_from (drop (n + 1) cs) (x.token ∷ kept n ts) fed else if s then keyword_from (drop n cs) (kept n ts) fed else giving_back (x.token ∷ kept n ts) fed)
  met b s e i =
      letter_met cs n (kept n ts) x fed more ∙
      (ap (λ (b : Bool). if b then keyword_from (drop (n + 1) cs) (x.token ∷ kept n ts) fed else if is_skipped (kept n ts) x then keyword_from (drop n cs) (kept n ts) fed else giving_back (x.token ∷ kept n ts) fed)
      (ap (λ (d : ℕ). is_letter d x.token) letter ∙ e) ∙
      ap (λ (s : Bool). if b then keyword_from (drop (n + 1) cs) (x.token ∷ kept n ts) fed else if s then keyword_from (drop n cs) (kept n ts) fed else giving_back (x.token ∷ kept n ts) fed) i)

  pub refused : is_letter c x.token ≡ false → is_skipped (kept n ts) x ≡ false → length ts ≡ 5 → n ≤ 4 →
      keyword_from (drop n cs) (kept n ts) (Tok x ∷ fed) ≡ giving_back (kept (n + 1) (slice_set ts (4 - n) x.token)) fed
  refused e i five few = met false false e i ∙ ap (λ (l : List Token). giving_back l fed) (sym (kept_more ts x.token n five few))

  pub whole : is_letter c x.token ≡ true → n + 1 ≡ length cs → keyword_from (drop n cs) (kept n ts) (Tok x ∷ fed) ≡ ends_found true
  whole e last = met true (is_skipped (kept n ts) x) e refl ∙ ap (λ (l : List ℕ). keyword_from l (x.token ∷ kept n ts) fed) (drop_all (n + 1) cs (omega (arith, last)))

  pub goes_on : is_letter c x.token ≡ true → length ts ≡ 5 → n ≤ 4 →
      keyword_from (drop n cs) (kept n ts) (Tok x ∷ fed) ≡ keyword_from (drop (n + 1) cs) (kept (n + 1) (slice_set ts (4 - n) x.token)) fed
  goes_on e five few =
      met true (is_skipped (kept n ts) x) e refl ∙
      ap (λ (l : List Token). keyword_from (drop (n + 1) cs) l fed) (sym (kept_more ts x.token n five few))

  pub skipped : is_letter c x.token ≡ false → is_skipped (kept n ts) x ≡ true → n ≤ 4 →
      keyword_from (drop n cs) (kept n ts) (Tok x ∷ fed) ≡ keyword_from (drop n cs) (kept n (slice_set ts (4 - n) x.token)) fed
  skipped e i few = met false true e i ∙ ap (λ (l : List Token). keyword_from (drop n cs) l fed) (sym (kept_same ts x.token n few))
