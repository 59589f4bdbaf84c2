-- How the scanner stands in the present argument.
use Rattle.std.specs.Prelude.{◌≡◌, ℕ, ◌+◌, ◌<◌, ◌≤◌, true, List, [], ◌∷◌, ◌++◌, Option, take, drop, length}
use Rattle.tex_defs.specs.declared.Token.{Token}
use Rattle.token_lists.specs.Table.{Entry, tokens_at}
use Rattle.token_lists.specs.Ids.{build_id}
use Rattle.plain_tokens.specs.Arguments.{is_begin, open_after, all_close, partial, unmatched, in_work, Case, Argument, ExtraBrace, ParEnded, Skipped, Going}
use Rattle.macro_call.specs.declared.present.Present.{Present}
use Rattle.macro_call.specs.declared.present.Step.{Step}
use Rattle.macro_call.specs.declared.present.Step.TheVariants as step

-- The list in work; how many of its tokens stand in front of the last extra brace; how many tokens of the delimiter
-- were matched behind it; and the groups that are open behind these.
pub record Stage : Type 0 where
  pub list : List Token
  pub from : ℕ
  pub matched : ℕ
  pub depth : ℕ

abbrev pub stage_of : List (Option Entry) → Present → Stage
stage_of table present = record { list = tokens_at table (build_id present.build); from = present.from; matched = present.matched; depth = present.depth }

-- all but the list is as it was
pub record IsSamePoint (old new : Present) : Type 0 where
  pub from : new.from ≡ old.from
  pub matched : new.matched ≡ old.matched
  pub next : new.next ≡ old.next
  pub depth : new.depth ≡ old.depth

-- what stood in front of the last extra brace
abbrev pub kept_in : Stage → List Token
kept_in s = take s.from s.list

-- all that was read behind it
abbrev pub read_in : List Token → Stage → List Token
read_in ds s = drop s.from s.list ++ take s.matched ds

-- At a place with a delimiter: the matched tokens are the partial match, and the list is what is left without it.
pub record IsAt (ds list : List Token) (matched depth : ℕ) : Type 0 where
  pub fits : matched < length ds
  pub rest : unmatched ds 0 (list ++ take matched ds) ≡ list
  pub part : partial ds 0 (list ++ take matched ds) ≡ take matched ds
  pub closes : all_close 0 (list ++ take matched ds) ≡ true
  pub opens : open_after 0 (list ++ take matched ds) ≡ depth

-- At a place without one: nothing was read, or a group that is open.
abbrev pub IsPlain : List Token → ℕ → Type 0
IsPlain [] depth = depth ≡ 0
IsPlain (b ∷ us) depth = (is_begin b ≡ true) × (all_close 0 us ≡ true) × (open_after 0 us + 1 ≡ depth)

abbrev pub IsPlainStage : Stage → Type 0
IsPlainStage s = (s.from ≡ 0) × (s.matched ≡ 0) × IsPlain s.list s.depth

abbrev pub IsDelimitedStage : List Token → Stage → Type 0
IsDelimitedStage ds s = (s.from ≤ length s.list) × IsAt ds (drop s.from s.list) s.matched s.depth

abbrev pub IsStage : List Token → Stage → Type 0
IsStage [] s = IsPlainStage s
IsStage (d ∷ ds) s = IsDelimitedStage (d ∷ ds) s

-- Of the matched tokens and then x, the first `out` go out of the match, and the others are the partial match.
pub record Releases (ds : List Token) (s : Stage) (x : Token) (out : ℕ) : Type 0 where
  pub depth : ℕ
  pub before : open_after 0 (drop s.from s.list) ≡ depth
  pub within : out ≤ s.matched + 1
  pub part : partial ds depth (take s.matched ds ++ x ∷ []) ≡ drop out (take s.matched ds ++ x ∷ [])
  pub rest : unmatched ds depth (take s.matched ds ++ x ∷ []) ≡ take out (take s.matched ds ++ x ∷ [])

-- the case of a step that left this list in work
abbrev pub case_of : Step → List Token → Case
case_of step.Argument list = Argument list
case_of step.ExtraBrace list = ExtraBrace
case_of step.ParEnded list = ParEnded
case_of step.Skipped list = Skipped
case_of step.Going list = Going

-- Where `kept` and t were read, and then x: what was read now.
abbrev pub GoesOn : List Token → Step → (kept t : List Token) → Token → Stage → Type 0
GoesOn ds step.Argument kept t x s = Unit {0}
GoesOn ds step.ExtraBrace kept t x s = (kept_in s ≡ kept ++ t) × (read_in ds s ≡ []) × IsStage ds s
GoesOn ds step.ParEnded kept t x s = s.list ≡ kept ++ t
GoesOn ds step.Skipped kept t x s = (kept_in s ≡ kept) × (read_in ds s ≡ t) × IsStage ds s
GoesOn ds step.Going kept t x s = (kept_in s ≡ kept) × (read_in ds s ≡ t ++ x ∷ []) × IsStage ds s

-- What the list in work becomes by a token: the argument; all that was read in front of the token; or what isn't held back.
abbrev pub target_at : List Token → (kept t : List Token) → Token → Case → List Token
target_at ds kept t x (Argument a) = a
target_at ds kept t x ExtraBrace = kept ++ t
target_at ds kept t x ParEnded = kept ++ t
target_at ds kept t x Skipped = in_work ds kept t
target_at ds kept t x Going = in_work ds kept (t ++ x ∷ [])

-- the tokens that go into it then
abbrev pub gained : List Token → Stage → Token → Case → List Token
gained ds s x met = drop (length s.list) (target_at ds (kept_in s) (read_in ds s) x met)

-- what a step at a place comes to
pub record Took (ds : List Token) (before : Stage) (x : Token) (taken : Step) (after : Stage) (met_case : Case) : Type 0 where
  pub met : case_of taken after.list ≡ met_case
  pub goes_on : GoesOn ds taken (kept_in before) (read_in ds before) x after
