-- What a frame asks for now: a command is begun within it only with a token, and only where it is a command itself; and what it does with a list, as
-- defining a macro, it does only with the list that it owns.
use Rattle.std.proofs.Common.{◌≡◌, ◌+◌, ℕ, Bool, true, false, List, [], ◌∷◌, drop, refl, ap, sym, subst}
use Rattle.std.specs.Prelude.{◌≢◌, Some}
use Rattle.tex_defs.specs.declared.Token.{Token}
use Rattle.plain_state.specs.Definitions as build
use Rattle.conditionals.specs.declared.choice.Aim.{Aim}
use Rattle.rows.specs.declared.words.Datum.{Datum}
use Rattle.rows.specs.declared.words.Phrase.{Phrase}
use Rattle.rows.specs.declared.words.Phrase.TheVariants as phrase
use Rattle.rows.specs.declared.stage.Stage.{Stage}
use Rattle.rows.specs.declared.stage.Stage.TheVariants as stage
use Rattle.rows.specs.declared.stage.Note.{Note}
use Rattle.rows.specs.declared.stage.Note.TheVariants as note
use Rattle.rows.specs.declared.command.Call.{Call}
use Rattle.rows.specs.Commands.{CommandAsk, command_ask}
use Rattle.rows.specs.Readings.{Fed, Ask, Inner, ActsOn, Defines}
use Rattle.rows.specs.Run.{due, started, behind, run}
use Rattle.rows.specs.Stages.{start, location, value_phrase}
use Rattle.rows.specs.Table.{stages_left, value_stage}
use Rattle.row_frames.specs.declared.turn.Kept.{Kept}
use Rattle.row_frames.specs.declared.turn.Kept.TheVariants as kept
use Rattle.row_frames.specs.Data.{values}
use Rattle.row_frames.specs.Resumes.{within, resume_row, turn_of}
use Rattle.scan_numbers.specs.Resumes.{resume as number_at}
use Rattle.scan_numbers.specs.FactorResumes.{resume_factor as factor_at}
use Rattle.plain_readings.specs.declared.asks.NumberAsk.{NumberAsk}
use Rattle.plain_readings.specs.declared.asks.NumberAsk.TheVariants as number
use Rattle.plain_readings.specs.declared.asks.FactorAsk.{FactorAsk}
use Rattle.plain_readings.specs.declared.asks.FactorAsk.TheVariants as factor
use Rattle.plain_readings.specs.declared.asks.KeywordAsk.{KeywordAsk}
use Rattle.plain_readings.specs.declared.asks.KeywordAsk.TheVariants as keyword
use Rattle.plain_readings.specs.Factors.{factor_ask}
use Rattle.plain_readings.specs.Integers.{number_ask}
use Rattle.plain_readings.specs.Keywords.{keyword_ask}
use Rattle.plain_readings.specs.declared.asks.DimenAsk.{DimenAsk}
use Rattle.plain_readings.specs.declared.asks.DimenAsk.TheVariants as dimen_asks
use Rattle.plain_readings.specs.declared.asks.DimenInner.TheVariants as dimen_inners
use Rattle.plain_readings.specs.declared.asks.GlueAsk.{GlueAsk}
use Rattle.plain_readings.specs.declared.asks.GlueAsk.TheVariants as glue_asks
use Rattle.plain_readings.specs.declared.asks.GlueInner.TheVariants as glue_inners
use Rattle.plain_readings.specs.Lists.{build_ask}
use Rattle.plain_readings.specs.Measures.{dimen_ask, glue_ask}
use Rattle.plain_readings.specs.Weights.{act_frame}
use Rattle.scan_dimens.specs.Resumes.{resume as keyword_at}
use Rattle.scan_dimens.specs.DimenResumes as dimen
use Rattle.scan_glue.specs.GlueResumes as glue
use Rattle.reading_frames.specs.Views.{Lists, top_list, kept_list_of}
use Rattle.reading_frames.specs.Resumes.{resume, resume_build, name_at, file_at, skip_at, list_count, listed_count}
use Rattle.reading_frames.specs.Stack.{asks_in, innermost_count}
use Rattle.reading_frames.specs.declared.command.CommandScan.TheVariants as command
use Rattle.reading_frames.specs.declared.file_name.FilePlace.{FilePlace}
use Rattle.reading_frames.specs.declared.file_name.FilePlace.TheVariants as file
use Rattle.reading_frames.specs.declared.frame.Frame.{Frame}
use Rattle.reading_frames.specs.declared.frame.Frame.TheVariants.{Command, Integer, Factor, Dimension, Glue, Keyword as Word, Build, Spelling, FileName, Behind, Skips, Call as Called}
use Rattle.reading_frames.specs.Weights.{own_weight, frames_weight}
use Rattle.reading_frames.specs.declared.skip.SkipPlace.{SkipPlace}
use Rattle.reading_frames.specs.declared.skip.SkipPlace.TheVariants as skip
use Rattle.reading_frames.specs.declared.spelling.SpellPlace.{SpellPlace}
use Rattle.reading_frames.specs.declared.spelling.SpellPlace.TheVariants as spell

-- it begins no command, but perhaps with a token, and defines nothing
abbrev IsModest : Ask → Type 0
IsModest (Inner (phrase.Command c) false) = ⊥
IsModest (Defines c n ts) = ⊥
IsModest a = Unit {0}

-- nor does it do anything with a list
abbrev IsListless : Ask → Type 0
IsListless (Inner (phrase.Command c) false) = ⊥
IsListless (Defines c n ts) = ⊥
IsListless (ActsOn c e ts) = ⊥
IsListless a = Unit {0}

-- it begins no command at all
abbrev IsMeek : Ask → Type 0
IsMeek (Inner (phrase.Command c) begins) = ⊥
IsMeek (Defines c n ts) = ⊥
IsMeek (ActsOn c e ts) = ⊥
IsMeek a = Unit {0}

listless_modest : (a : Ask) → IsListless a → IsModest a
listless_modest (Inner (phrase.Command c) false) h = absurd h
listless_modest (Defines c n ts) h = absurd h
listless_modest a h = tt

due_listless : (n : Note) → IsListless (command_ask (due n))
due_listless (note.Tells report back) = tt
due_listless (note.Inserts t report back) = tt
due_listless (note.Relaxes c n) = tt

with_listless : (k : Phrase) → IsListless (Inner k true)
with_listless (phrase.Command c) = tt
with_listless phrase.Integer = tt
with_listless phrase.Factor = tt
with_listless (phrase.Dimension k) = tt
with_listless (phrase.Glue mu) = tt
with_listless (phrase.Keyword w) = tt
with_listless (phrase.Text name expanded) = tt
with_listless (phrase.Definition name expanded) = tt

value_listless : (s : Stage) → IsListless (Inner (value_phrase s) false)
value_listless stage.Dimension = tt
value_listless (stage.Glue mu) = tt
value_listless s = tt

module _ (turn : Call → List Fed → CommandAsk) (c : Call) (ds : List Datum) (onward : List Datum → List Fed → CommandAsk) where
  started_listless : (s : Stage) → IsListless (command_ask (behind turn c ds onward (started s c (start s c ds) [])))
  started_listless stage.Number = tt
  started_listless (stage.NumberTo greatest complaint) = tt
  started_listless (stage.NumberUpTo greatest) = tt
  started_listless stage.Dimension = tt
  started_listless (stage.Glue mu) = tt
  started_listless stage.Relation = tt
  started_listless stage.Amount = value_listless (value_stage (location 0 ds))
  started_listless stage.Equals = tt
  started_listless stage.ControlSequence = tt
  started_listless stage.NewName = tt
  started_listless stage.Variable = tt
  started_listless stage.InternalValue = tt
  started_listless stage.TokenList = tt
  started_listless (stage.Keyword w) = tt
  started_listless stage.LetEquals = tt
  started_listless stage.Space = tt
  started_listless stage.AnyToken = tt
  started_listless stage.NonblankToken = tt
  started_listless stage.UnenteredToken = tt
  started_listless stage.ExpandedToken = tt
  started_listless (stage.Text expanded) = tt
  started_listless (stage.MacroText expanded) = tt
  started_listless (stage.Prefixes p) = tt

  within_listless : (s : Stage) (k : Kept) → IsListless (command_ask (behind turn c ds onward (within s c ds k [])))
  within_listless s kept.Start = started_listless s
  within_listless s (kept.Looking d want) = tt
  within_listless s (kept.Within k) = with_listless k
  within_listless s (kept.Numbered b) = tt
  within_listless s (kept.Noting n m) = due_listless n
  within_listless s (kept.Retrying d want n) = due_listless n

row_listless : (turn : Call → List Fed → CommandAsk) (c : Call) (ss : List Stage) (ds : List Datum) (k : Kept) → IsListless (command_ask (resume_row turn c ss ds k []))
row_listless turn c [] ds k = tt
row_listless turn c (s ∷ ss) ds k = within_listless turn c ds (λ es more. run turn c ss es more) s k

number_meek : (a : NumberAsk) → IsMeek (number_ask a)
number_meek (number.More want) = tt
number_meek number.Begins = tt
number_meek (number.Fetches l) = tt
number_meek (number.Tells report back) = tt
number_meek (number.Done n back) = tt

factor_meek : (a : FactorAsk) → IsMeek (factor_ask a)
factor_meek (factor.More want) = tt
factor_meek factor.Begins = tt
factor_meek (factor.Fetches l) = tt
factor_meek (factor.Tells report back) = tt
factor_meek (factor.Done n point back) = tt

dimen_meek : (a : DimenAsk) → IsMeek (dimen_ask a)
dimen_meek (dimen_asks.More want) = tt
dimen_meek (dimen_asks.Begins dimen_inners.Factor begins) = tt
dimen_meek (dimen_asks.Begins dimen_inners.Number begins) = tt
dimen_meek (dimen_asks.Begins (dimen_inners.Key w) begins) = tt
dimen_meek (dimen_asks.Fetches l) = tt
dimen_meek dimen_asks.Magnifies = tt
dimen_meek (dimen_asks.Tells report back) = tt
dimen_meek (dimen_asks.Done n order back) = tt

glue_meek : (a : GlueAsk) → IsMeek (glue_ask a)
glue_meek (glue_asks.More want) = tt
glue_meek (glue_asks.Begins (glue_inners.Dimension k) begins) = tt
glue_meek (glue_asks.Begins glue_inners.Number begins) = tt
glue_meek (glue_asks.Begins (glue_inners.Key w) begins) = tt
glue_meek (glue_asks.Fetches l) = tt
glue_meek (glue_asks.Tells report) = tt
glue_meek (glue_asks.Done g) = tt

keyword_meek : (a : KeywordAsk) → IsMeek (keyword_ask a)
keyword_meek (keyword.More want) = tt
keyword_meek (keyword.Puts t more) = tt
keyword_meek (keyword.Done found) = tt

build_meek : (a : build.Answer) → IsMeek (build_ask a)
build_meek (build.More want list) = tt
build_meek (build.Tells report back list) = tt
build_meek (build.Done list) = tt

name_modest : (c : Call) (p : SpellPlace) (list : List Token) → IsModest (command_ask (name_at c p list []))
name_modest c spell.Inside list = tt
name_modest c spell.NoEnd list = tt
name_modest c spell.Whole list = tt
name_modest c spell.Stopped list = tt

file_modest : (c : Call) (p : FilePlace) (list : List Token) → IsModest (command_ask (file_at c p list []))
file_modest c file.Before list = tt
file_modest c file.Inside list = tt
file_modest c (file.Whole back) list = tt
file_modest c file.Stopped list = tt

skip_meek : (c : Call) (a : Aim) (p : SkipPlace) → IsMeek (command_ask (skip_at c a p []))
skip_meek c a (skip.Inside text) = tt
skip_meek c a (skip.Whole e) = tt
skip_meek c a skip.Stopped = tt

not_so : (a b : Ask) → a ≡ b → IsModest a → IsModest b
not_so a b is h = subst IsModest is h

not_meek : (a b : Ask) → a ≡ b → IsMeek a → IsMeek b
not_meek a b is h = subst IsMeek is h

-- WITHIN A FRAME no command is begun without a token
begins_none : (f : Frame) (held : Lists) (c : Call) → resume f held [] ≡ Inner (phrase.Command c) false → ⊥
begins_none (Command (command.Reads f) p) held c is = not_so _ _ is (listless_modest _ (row_listless (λ d more. turn_of f.is_turned d more) f.call (stages_left f.left) (values f.read) f.kept))
begins_none (Command (command.Acts d e) p) held c is = cc
begins_none (Command (command.ActsOn d e listed) p) held c is = cc
begins_none (Command (command.Defines d n listed) p) held c is = cc
begins_none (Command command.Ended p) held c is = cc
begins_none (Integer scan) held c is = not_meek _ _ is (number_meek (number_at scan []))
begins_none (Factor scan) held c is = not_meek _ _ is (factor_meek (factor_at scan []))
begins_none (Dimension scan) held c is = not_meek _ _ is (dimen_meek (dimen.resume scan []))
begins_none (Glue scan) held c is = not_meek _ _ is (glue_meek (glue.resume scan []))
begins_none (Word scan) held c is = not_meek _ _ is (keyword_meek (keyword_at scan []))
begins_none (Build scan) held c is = not_meek _ _ is (build_meek (resume_build scan (top_list held) []))
begins_none (Spelling scan) held c is = not_so _ _ is (name_modest scan.call scan.place (top_list held))
begins_none (FileName scan) held c is = not_so _ _ is (file_modest scan.call scan.place (top_list held))
begins_none (Behind d x) held c is = cc
begins_none (Skips scan) held c is = not_meek _ _ is (skip_meek scan.call scan.aim scan.place)
begins_none (Called name) held c is = cc

-- what begins one is no reading that ends with a value
begins_heavy : (f : Frame) (held : Lists) (c : Call) (begins : Bool) → resume f held [] ≡ Inner (phrase.Command c) begins → own_weight f ≡ act_frame
begins_heavy (Integer scan) held c begins is = absurd (not_meek _ _ is (number_meek (number_at scan [])))
begins_heavy (Factor scan) held c begins is = absurd (not_meek _ _ is (factor_meek (factor_at scan [])))
begins_heavy (Dimension scan) held c begins is = absurd (not_meek _ _ is (dimen_meek (dimen.resume scan [])))
begins_heavy (Glue scan) held c begins is = absurd (not_meek _ _ is (glue_meek (glue.resume scan [])))
begins_heavy (Word scan) held c begins is = absurd (not_meek _ _ is (keyword_meek (keyword_at scan [])))
begins_heavy (Build scan) held c begins is = absurd (not_meek _ _ is (build_meek (resume_build scan (top_list held) [])))
begins_heavy f held c begins is = refl

-- WITH ITS OWN LIST, where that has a token, a frame does something

-- this is the list
abbrev pub HasList : Ask → List Token → Type 0
HasList (Defines c n us) ts = us ≡ ts
HasList (ActsOn c e us) ts = us ≡ ts
HasList a ts = ⊥

listless_not : (a : Ask) (ts : List Token) → IsListless a → HasList a ts → ⊥
listless_not (Defines c n us) ts h i = h
listless_not (ActsOn c e us) ts h i = h
listless_not a ts h i = absurd i

meek_not : (a : Ask) (ts : List Token) → IsMeek a → HasList a ts → ⊥
meek_not (Defines c n us) ts h i = h
meek_not (ActsOn c e us) ts h i = h
meek_not a ts h i = absurd i

owned : (listed : Bool) (held : Lists) (ts : List Token) → kept_list_of listed held ≡ ts → ts ≢ [] → listed_count listed ≡ 1
owned true held ts is some = refl
owned false held ts is some = absurd (some (sym is))

list_own : (f : Frame) (held : Lists) (ts : List Token) → HasList (resume f held []) ts → ts ≢ [] → list_count f ≡ 1
list_own (Command (command.Reads f) p) held ts has some = absurd (listless_not _ ts (row_listless (λ d more. turn_of f.is_turned d more) f.call (stages_left f.left) (values f.read) f.kept) has)
list_own (Command (command.Acts d e) p) held ts has some = absurd has
list_own (Command (command.ActsOn d e listed) p) held ts has some = owned listed held ts has some
list_own (Command (command.Defines d m listed) p) held ts has some = owned listed held ts has some
list_own (Command command.Ended p) held ts has some = absurd has
list_own (Integer scan) held ts has some = absurd (meek_not _ ts (number_meek (number_at scan [])) has)
list_own (Factor scan) held ts has some = absurd (meek_not _ ts (factor_meek (factor_at scan [])) has)
list_own (Dimension scan) held ts has some = absurd (meek_not _ ts (dimen_meek (dimen.resume scan [])) has)
list_own (Glue scan) held ts has some = absurd (meek_not _ ts (glue_meek (glue.resume scan [])) has)
list_own (Word scan) held ts has some = absurd (meek_not _ ts (keyword_meek (keyword_at scan [])) has)
list_own (Build scan) held ts has some = refl
list_own (Spelling scan) held ts has some = refl
list_own (FileName scan) held ts has some = refl
list_own (Behind d x) held ts has some = absurd has
list_own (Skips scan) held ts has some = absurd (meek_not _ ts (skip_meek scan.call scan.aim scan.place) has)
list_own (Called name) held ts has some = absurd has

-- the innermost

pub innermost_begins_none : (fs : List Frame) (held : Lists) (c : Call) → asks_in fs held ≡ Some (Inner (phrase.Command c) false) → ⊥
innermost_begins_none [] held c is = cc
innermost_begins_none (f ∷ fs) held c is = begins_none f held c cc

pub innermost_heavy : (fs : List Frame) (held : Lists) (c : Call) (begins : Bool) → asks_in fs held ≡ Some (Inner (phrase.Command c) begins) → frames_weight fs ≡ act_frame + frames_weight (drop 1 fs)
innermost_heavy [] held c begins is = cc
innermost_heavy (f ∷ fs) held c begins is = ap (λ (n : ℕ). n + frames_weight fs) (begins_heavy f held c begins cc)

pub innermost_own : (fs : List Frame) (held : Lists) (a : Ask) (ts : List Token) → asks_in fs held ≡ Some a → HasList a ts → ts ≢ [] → innermost_count fs ≡ 1
innermost_own [] held a ts is has some = cc
innermost_own (f ∷ fs) held a ts is has some = let same : a ≡ resume f held [] = cc in list_own f held ts (subst (λ (x : Ask). HasList x ts) same has) some
