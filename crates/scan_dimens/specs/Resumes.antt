-- What a scanner will answer on what is still to come.
use Rattle.std.specs.Prelude.{ℕ, List, drop}
use Rattle.tex_defs.specs.declared.Token.{Token}
use Rattle.rows.specs.declared.words.Keyword.{Keyword}
use Rattle.rows.specs.Readings.{Fed}
use Rattle.plain_readings.specs.Keywords.{letters, ends_found, giving_back, keyword_from}
use Rattle.plain_readings.specs.declared.asks.KeywordAsk.{KeywordAsk}
use Rattle.scan_dimens.specs.Views.{kept, kept_at}
use Rattle.scan_dimens.specs.declared.keyword.KeywordPlace.{KeywordPlace}
use Rattle.scan_dimens.specs.declared.keyword.KeywordPlace.TheVariants.{Letters, PutsBack, Ended}
use Rattle.scan_dimens.specs.declared.keyword.KeywordScan.{KeywordScan}

abbrev pub resume_at : Keyword → List Token → KeywordPlace → List Fed → KeywordAsk
resume_at w ts (Letters n) fed = keyword_from (drop n (letters w)) (kept n ts) fed
resume_at w ts (PutsBack n) fed = giving_back (kept n ts) fed
resume_at w ts (Ended found) fed = ends_found found

abbrev pub resume : KeywordScan → List Fed → KeywordAsk
resume scan fed = resume_at scan.keyword scan.tokens scan.place fed

-- how many tokens it keeps
abbrev pub kept_in : KeywordScan → ℕ
kept_in scan = kept_at scan.place
