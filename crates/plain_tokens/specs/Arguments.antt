-- The arguments of a macro call, as a function of all that stood behind the macro's name.
-- The TeXbook, chapter 20; TeX: The Program, part 25.
use Rattle.std.specs.Prelude.{ℕ, ◌+◌, ◌-◌, Bool, true, false, not, if◌then◌else◌, ◌==◌, ◌&&◌, ◌||◌, List, [], ◌∷◌, ◌++◌, length, take, drop, Option, Some, None}
use Rattle.tex_defs.specs.declared.Token.{Token}
use Rattle.tex_defs.specs.declared.Token.TheVariants.{Char, Named, Marked, Place, Number, EndPlaces}
use Rattle.tex_defs.specs.declared.Name.{Name}
use Rattle.tex_defs.specs.declared.Name.TheVariants.{Active, Single, Empty, Word}
use Rattle.tex_defs.specs.declared.Name.TheVariants as name
use Rattle.tex_defs.specs.declared.Frozen.{Frozen}
use Rattle.tex_defs.specs.declared.Frozen.TheVariants.{Relax, Fi, EndGroup, EndWrite, Inaccessible, Unknown}
use Rattle.plain_tokens.specs.declared.par_mode.ParMode.{ParMode}
use Rattle.plain_tokens.specs.declared.par_mode.ParMode.TheVariants.{Long, Short, Checked}
use Rattle.plain_tokens.specs.Categories.{begin_group, end_group}
use Rattle.plain_tokens.specs.Tokens.{has_category, is_space_token}
use Rattle.plain_tokens.specs.Names.{par_primitive}

-- TOKENS. Two tokens are equal where they are the same character with the same category, or the same name.

abbrev pub frozen_number : Frozen → ℕ
frozen_number Relax = 0
frozen_number Fi = 1
frozen_number EndGroup = 2
frozen_number EndWrite = 3
frozen_number Inaccessible = 4
frozen_number Unknown = 5

abbrev pub same_name : Name → Name → Bool
same_name (Active a) (Active b) = a == b
same_name (Single a) (Single b) = a == b
same_name Empty Empty = true
same_name (Word a) (Word b) = a == b
same_name (name.Frozen f) (name.Frozen g) = frozen_number f == frozen_number g
same_name m n = false

abbrev pub same : Token → Token → Bool
same (Char a b) (Char c d) = (a == c) && (b == d)
same (Named m) (Named n) = same_name m n
same (Marked m) (Marked n) = same_name m n
same (Place a) (Place b) = a == b
same (Number a) (Number b) = a == b
same EndPlaces EndPlaces = true
same x y = false

-- explicit braces
abbrev pub is_begin : Token → Bool
is_begin x = has_category begin_group x

abbrev pub is_end : Token → Bool
is_end x = has_category end_group x

abbrev pub is_par : Token → Bool
is_par x = same x (Named (Word par_primitive))

-- GROUPS

-- the groups that are open behind a token, where n were open in front of it
abbrev pub open_behind : ℕ → Token → ℕ
open_behind n x = if is_begin x then n + 1 else if is_end x then n - 1 else n

abbrev pub open_after : ℕ → List Token → ℕ
open_after n [] = n
open_after n (x ∷ xs) = open_after (open_behind n x) xs

-- each `}` closes a group
abbrev pub all_close : ℕ → List Token → Bool
all_close n [] = true
all_close n (x ∷ xs) = not (is_end x && (n == 0)) && all_close (open_behind n x) xs

abbrev pub is_balanced : List Token → Bool
is_balanced xs = all_close 0 xs && (open_after 0 xs == 0)

abbrev pub without_last : List Token → List Token
without_last [] = []
without_last (x ∷ []) = []
without_last (x ∷ y ∷ ys) = x ∷ without_last (y ∷ ys)

abbrev pub ends_in_brace : List Token → Bool
ends_in_brace [] = false
ends_in_brace (x ∷ []) = is_end x
ends_in_brace (x ∷ y ∷ ys) = ends_in_brace (y ∷ ys)

-- one group and nothing else: a balanced list between two braces
abbrev pub is_group : List Token → Bool
is_group [] = false
is_group (x ∷ xs) = (is_begin x && ends_in_brace xs) && is_balanced (without_last xs)

abbrev pub inner : List Token → List Token
inner [] = []
inner (x ∷ xs) = without_last xs

-- a list that is exactly one group loses its braces
abbrev pub without_braces : List Token → List Token
without_braces a = if is_group a then inner a else a

-- DELIMITERS

abbrev pub is_prefix : List Token → List Token → Bool
is_prefix [] ds = true
is_prefix (x ∷ xs) [] = false
is_prefix (x ∷ xs) (d ∷ ds) = same x d && is_prefix xs ds

abbrev pub are_same : List Token → List Token → Bool
are_same [] [] = true
are_same [] (y ∷ ys) = false
are_same (x ∷ xs) [] = false
are_same (x ∷ xs) (y ∷ ys) = same x y && are_same xs ys

abbrev pub is_nil : List Token → Bool
is_nil [] = true
is_nil (x ∷ xs) = false

-- The partial match, where n groups are open in front: the longest suffix that begins outside all groups and is a
-- prefix of the delimiter.
abbrev pub partial : List Token → ℕ → List Token → List Token
partial ds n [] = []
partial ds n (x ∷ xs) = if (n == 0) && is_prefix (x ∷ xs) ds then x ∷ xs else partial ds (open_behind n x) xs

-- the list without its partial match
abbrev pub unmatched : List Token → ℕ → List Token → List Token
unmatched ds n [] = []
unmatched ds n (x ∷ xs) = if (n == 0) && is_prefix (x ∷ xs) ds then [] else x ∷ unmatched ds (open_behind n x) xs

-- the list without as many tokens as the delimiter has
abbrev pub front : List Token → List Token → List Token
front ds t = take (length t - length ds) t

abbrev pub is_some_place : List (List Token) → Bool
is_some_place [] = false
is_some_place (ds ∷ places) = true

-- t is a balanced list followed by the delimiter
abbrev pub is_delimited : List Token → List Token → Bool
is_delimited ds t = are_same (drop (length t - length ds) t) ds && is_balanced (front ds t)

-- THE CASES that the tokens read at a place may meet

pub data Case : Type 0 where
  Argument : List Token → Case
  ExtraBrace : Case
  ParEnded : Case
  -- a space in front of an argument without a delimiter
  Skipped : Case
  -- none of these
  Going : Case

-- how the call of a macro begins
abbrev pub mode_of : (long : Bool) → ParMode
mode_of true = Long
mode_of false = Short

-- whether a `\par` may end the call: the macro isn't \long, or counts as not \long since a check
abbrev pub is_short : ParMode → Bool
is_short Long = false
is_short Short = true
is_short Checked = true

-- the last token is a `}` that closes nothing
abbrev pub is_extra : List Token → Token → Bool
is_extra t x = is_end x && (open_after 0 t == 0)

-- the last token is a `\par` that extends no partial match
abbrev pub ends_par : ParMode → List Token → List Token → Token → Bool
ends_par mode ds t x = (is_short mode && is_par x) && is_nil (partial ds 0 (t ++ x ∷ []))

-- With a delimiter: the case of the list that is t and then x. What stood before the last extra `}` was kept.
abbrev pub delimited_case : List Token → ParMode → List Token → List Token → Token → Case
delimited_case ds mode kept t x =
    if is_delimited ds (t ++ x ∷ []) then Argument (without_braces (kept ++ front ds (t ++ x ∷ [])))
    else if is_extra t x then ExtraBrace
    else if ends_par mode ds t x then ParEnded
    else Going

-- one token that is no brace
abbrev pub is_single : List Token → Bool
is_single [] = false
is_single (x ∷ []) = not (is_begin x) && not (is_end x)
is_single (x ∷ y ∷ ys) = false

-- Without a delimiter: one token, or one whole group, whose braces go.
abbrev pub undelimited_case : ParMode → List Token → Token → Case
undelimited_case mode t x =
    if is_extra t x then ExtraBrace
    else if is_short mode && is_par x then ParEnded
    else if is_nil t && is_space_token x then Skipped
    else if is_single (t ++ x ∷ []) then Argument (t ++ x ∷ [])
    else if is_group (t ++ x ∷ []) then Argument (inner (t ++ x ∷ []))
    else Going

-- A place without a delimiter has the empty one.
abbrev pub case_at : List Token → ParMode → (kept t : List Token) → Token → Case
case_at [] mode kept t x = undelimited_case mode t x
case_at (d ∷ ds) mode kept t x = delimited_case (d ∷ ds) mode kept t x

-- THE PARAMETER TEXT: the tokens before the end mark, with a place for each parameter

-- the tokens before the first place
abbrev pub start_of : List Token → List Token
start_of [] = []
start_of (Place c ∷ xs) = []
start_of (EndPlaces ∷ xs) = []
start_of (x ∷ xs) = x ∷ start_of xs

-- the delimiters, one for each place
abbrev pub delimiters_of : List Token → List (List Token)
delimiters_of [] = []
delimiters_of (Place c ∷ xs) = start_of xs ∷ delimiters_of xs
delimiters_of (EndPlaces ∷ xs) = []
delimiters_of (x ∷ xs) = delimiters_of xs

-- A macro has nine places at most: no further one is looked for.
abbrev pub places_of : List Token → List (List Token)
places_of text = take 9 (delimiters_of text)

-- THE CALL

-- What a call is fed with: a token; that a check came here (a file's end or an \outer name); that the extra `}` that
-- it answered was put back and reported.
pub data Fed : Type 0 where
  Tok : Token → Fed
  Cut : Fed
  Noted : Fed

-- What it answers, with the arguments that are gathered and the list in work, where a place is reached: more is needed; an
-- extra `}` came; all arguments are there; the tokens before the first place don't match; a `\par` ended it, silently where
-- the macro counts as not \long only since a check, and then all that was read of the present argument is in the list.
pub data Answer : Type 0 where
  More : (args : List (List Token)) → (work : Option (List Token)) → Answer
  ExtraBraceFound : (args : List (List Token)) → (work : List Token) → Answer
  Called : (args : List (List Token)) → Answer
  Mismatch : Answer
  Ended : (silent : Bool) → (args : List (List Token)) → (work : List Token) → Answer

abbrev pub is_checked : ParMode → Bool
is_checked Long = false
is_checked Short = false
is_checked Checked = true

-- the present argument's list, until it is complete: what was read without its partial match
abbrev pub in_work : List Token → (kept t : List Token) → List Token
in_work ds kept t = kept ++ unmatched ds 0 t

-- more is sought, with this list in work, where the last token was an extra `}` or not; the argument; a `\par` ended it
pub data Found : Type 0 where
  Sought : (braced : Bool) → List Token → Found
  Gathered : ParMode → List Token → List Fed → Found
  Failed : ParMode → List Token → Found

-- The first m at which the tokens read meet a case: t was read so far and met none. Behind an extra `}` no match
-- begins before it, and the macro counts as not \long. A `\par` that ends the call isn't in the list; a partial match
-- that it broke off is.
abbrev pub search : List Token → (braced : Bool) → ParMode → (kept t : List Token) → List Fed → Found
search ds braced mode kept t [] = Sought braced (in_work ds kept t)
search ds braced mode kept t (Cut ∷ fed) = search ds false Checked kept t fed
search ds braced mode kept t (Noted ∷ fed) = search ds false mode kept t fed
search ds braced mode kept t (Tok x ∷ fed) =
    elim (case_at ds mode kept t x) [
      | Argument a ↦ Gathered mode a fed
      | ExtraBrace ↦ search ds true Short (kept ++ t) [] fed
      | ParEnded ↦ Failed mode (kept ++ t)
      | Skipped ↦ search ds false mode kept t fed
      | Going ↦ search ds false mode kept (t ++ x ∷ []) fed
    ]

-- what is answered where nothing follows
abbrev pub sought : (args : List (List Token)) → (braced : Bool) → List Token → Answer
sought args true work = ExtraBraceFound args work
sought args false work = More args (Some work)

-- the places one after the other
abbrev pub arguments : ParMode → (args places : List (List Token)) → List Fed → Answer
arguments mode args [] fed = Called args
arguments mode args (ds ∷ places) fed =
    elim (search ds false mode [] [] fed) [
      | Sought braced work ↦ sought args braced work
      | Gathered next a rest ↦ arguments next (args ++ a ∷ []) places rest
      | Failed next list ↦ Ended (is_checked next) args list
    ]

-- once the search in a place has come to this
abbrev pub behind : (args places : List (List Token)) → Found → Answer
behind args places (Sought braced work) = sought args braced work
behind args places (Gathered mode a rest) = arguments mode (args ++ a ∷ []) places rest
behind args places (Failed mode list) = Ended (is_checked mode) args list

-- The tokens before the first place must be equal one by one.
abbrev pub call : ParMode → (start : List Token) → (places : List (List Token)) → List Fed → Answer
call mode [] places fed = arguments mode [] places fed
call mode (d ∷ ds) places [] = More [] None
call mode (d ∷ ds) places (Cut ∷ fed) = call Checked (d ∷ ds) places fed
call mode (d ∷ ds) places (Noted ∷ fed) = call mode (d ∷ ds) places fed
call mode (d ∷ ds) places (Tok x ∷ fed) = if same x d then call mode ds places fed else Mismatch

-- what the call of a macro with this list answers
abbrev pub gathering : (text : List Token) → ParMode → List Fed → Answer
gathering text mode fed = call mode (start_of text) (places_of text) fed

-- the macro has a parameter text: where it has none, nothing is gathered
abbrev pub has_parameters : (text : List Token) → Bool
has_parameters text = not (is_nil (start_of text)) || is_some_place (delimiters_of text)

-- its first argument comes at once
abbrev pub begins_with_place : (text : List Token) → Bool
begins_with_place text = is_nil (start_of text) && is_some_place (delimiters_of text)

-- the arguments and the list in work that an answer has
abbrev pub arguments_in : Answer → List (List Token)
arguments_in (More args work) = args
arguments_in (ExtraBraceFound args work) = args
arguments_in (Called args) = args
arguments_in Mismatch = []
arguments_in (Ended silent args work) = args

abbrev pub work_in : Answer → Option (List Token)
work_in (More args work) = work
work_in (ExtraBraceFound args work) = Some work
work_in (Called args) = None
work_in Mismatch = None
work_in (Ended silent args work) = Some work
