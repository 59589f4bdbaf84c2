-- One expansion.
use Rattle.std.proofs.Common.{◌≡◌, List, [], ◌∷◌, refl, sym, ap, subst, ◌∙◌, arith}
use Rattle.std.specs.Prelude.{Bool, true, false, not, ◌||◌, if◌then◌else◌, Option, Some, None}
use Rattle.std.proofs.lemmas.Bool.Decides.{nat_tests}
use Rattle.tex_syntax.specs.declared.words.Want.{Want}
use Rattle.tex_syntax.specs.declared.words.Want.TheVariants as want
use Rattle.tex_defs.specs.declared.Token.{Token}
use Rattle.tex_defs.specs.declared.Meaning.{Meaning}
use Rattle.tex_defs.specs.declared.Meaning.TheVariants as means
use Rattle.plain_tokens.specs.Categories.{space}
use Rattle.plain_tokens.specs.Meanings.{is_expandable}
use Rattle.plain_tokens.specs.Names.{means_relax}
use Rattle.plain_tokens.specs.Tokens.{means_category}
use Rattle.plain_readings.specs.Readings.{Reading}
use Rattle.plain_machine.specs.Plan.{Page, expanded, expanded_as, command}
use Rattle.gullet.specs.declared.expansion.Once.{Once}
use Rattle.tex_defs.specs.declared.Seen.{Seen}
use Rattle.tex_defs.specs.declared.Sizes.{Sizes}
use Rattle.tex_defs.specs.Places.{World}
use Rattle.plain_readings.specs.Readings.{Kind, opened}
use Rattle.plain_machine.specs.Demands.{refusal}
use Rattle.plain_machine.specs.States.{State, Move, Begun, made}
use Rattle.plain_machine.proofs.Doing.{did_one}
use Rattle.engine_state.specs.declared.engine.Engine.{Engine}
use Rattle.engine_state.specs.declared.outcome.Ruled.{Ruled}
use Rattle.engine_state.specs.declared.outcome.Ruled.TheVariants as ruled
use Rattle.engine_state.specs.Book.{Book, with_work}
use Rattle.engine_state.specs.Stands.{SameFrames, SameReadings, Stands, state_of, page_of}
use Rattle.engine_state.proofs.Uncalled.{all_of, no_call}
use Rattle.world_io.specs.Contents.{FilesTold, SinkTold}
use Rattle.engine_state.specs.Rules.{world_of, Went, onward_of, feeds_of, DoesOnward}
use Rattle.engine_state.specs.Steps.{IsHalted}
use Rattle.engine_state.proofs.Joining.{quiet_wrote}
use Rattle.gullet.specs.declared.expansion.Expansion.{Expansion}
use Rattle.gullet.specs.declared.expansion.Once.TheVariants as once
use Rattle.gullet.specs.Stepping.{EndsRun, ExpandsOnce, ExpandsTo, IsStayed, Stays, changes, is_expansion, once_by, wants_raw}
use Rattle.gullet.proofs.Stepping.{no}
use Rattle.input_state.specs.Callings.{NotCalling, call_in}

-- WHAT IS EXPANDED

not_yes : (b : Bool) → not b ≡ false → b ≡ true
not_yes true is = refl
not_yes false is = cc

-- a token that is expanded comes to nothing else
expanded_any : (page : Page) (t : Token) (m : Meaning Unit) (moves others : List Move) → is_expandable m ≡ true → expanded_as page t m moves ≡ expanded_as page t m others
expanded_any page t means.Undefined moves others is = refl
expanded_any page t (means.Macro long outer list) moves others is = refl
expanded_any page t (means.Prim n) moves others is = rw is refl
expanded_any page t m moves others is = cc

-- it is neither a space nor `\relax`
space_no : (m : Meaning Unit) → is_expandable m ≡ true → means_category space m ≡ false
space_no means.Undefined is = refl
space_no (means.Macro long outer list) is = refl
space_no (means.Prim n) is = refl
space_no m is = cc

relax_no : (m : Meaning Unit) → is_expandable m ≡ true → means_relax m ≡ false
relax_no means.Undefined is = refl
relax_no (means.Macro long outer list) is = refl
relax_no (means.Prim n) is = grind (arith, nat_tests, is)
relax_no means.RelaxMarked is = cc
relax_no (means.Char category code) is = refl
relax_no (means.CharGiven n) is = cc
relax_no (means.MathGiven n) is = cc
relax_no (means.Register r n) is = cc

-- so it is, where it isn't wanted as it stands
pub onward_expands : (page : Page) (want : Option Want) (work : List Reading) (x : Seen) → wants_raw want ≡ false → is_expandable x.meaning ≡ true → onward_of page want work x ≡ expanded page x []
onward_expands page None work x raw is = expanded_any page x.token x.meaning (command page x.token x.meaning) [] is
onward_expands page (Some want.Raw) work x raw is = cc
onward_expands page (Some want.Unentered) work x raw is = cc
onward_expands page (Some want.Expanded) work x raw is = expanded_any page x.token x.meaning (feeds_of work x) [] is
onward_expands page (Some want.Copied) work x raw is = expanded_any page x.token x.meaning (feeds_of work x) [] is
onward_expands page (Some want.Nonblank) work x raw is =
    ap (λ (b : Bool). if b then [] else expanded page x (feeds_of work x)) (space_no x.meaning is) ∙ expanded_any page x.token x.meaning (feeds_of work x) [] is
onward_expands page (Some want.Command) work x raw is =
    ap (λ (b : Bool). if b || means_relax x.meaning then [] else expanded page x (feeds_of work x)) (space_no x.meaning is)
    ∙ ap (λ (b : Bool). if b then [] else expanded page x (feeds_of work x)) (relax_no x.meaning is) ∙ expanded_any page x.token x.meaning (feeds_of work x) [] is

pub stays_by : (want : Option Want) (x : Seen) → is_expandable x.meaning ≡ false → Stays want x
stays_by None x is = is
stays_by (Some want.Raw) x is = tt
stays_by (Some want.Unentered) x is = tt
stays_by (Some want.Expanded) x is = is
stays_by (Some want.Copied) x is = is
stays_by (Some want.Nonblank) x is = is
stays_by (Some want.Command) x is = is

-- A TOKEN IS EXPANDED

-- by which
pub moves_as : (page : Page) (x : Seen) (moves : List Move) {o : Expansion} {b : Expansion} → o ≡ b → ExpandsTo o page moves (expanded page x moves) → ExpandsTo b page moves (expanded page x moves)
moves_as page x moves is h = subst (λ (y : Expansion). ExpandsTo y page moves (expanded page x moves)) is h

pub expands_as : (x : Seen) {o : Expansion} {b : Expansion} → o ≡ b → is_expansion o ≡ is_expandable x.meaning → is_expandable x.meaning ≡ is_expansion b
expands_as x is h = sym h ∙ ap is_expansion is

-- a report changes something
pub reports_change : (r : Ruled) (n : Once) → n ≡ once_by r → changes n ≡ true
reports_change ruled.Step n is = ap changes is
reports_change ruled.Free n is = ap changes is
reports_change (ruled.Halted o) n is = ap changes is

stays_changes : (n : Once) → IsStayed n → changes n ≡ false
stays_changes once.Expanded h = absurd h
stays_changes once.Stays h = refl
stays_changes (once.Over o) h = absurd h

pub reports_leave : (r : Ruled) (n : Once) → n ≡ once_by r → IsStayed n → ⊥
reports_leave r n is h = no (sym (stays_changes n h) ∙ reports_change r n is)

-- one that ends the run
pub over_halted : (r : Ruled) (n : Once) → n ≡ once_by r → EndsRun n → IsHalted r
over_halted r n is h = by_rule r (subst EndsRun is h) where
  by_rule : (r : Ruled) → EndsRun (once_by r) → IsHalted r
  by_rule ruled.Step h = absurd h
  by_rule ruled.Free h = absurd h
  by_rule (ruled.Halted o) h = tt

-- a report
pub once_reports : (sizes : Sizes) (s : State) (e' : Engine) (book : Book) (w w' : World) (ms ns others : List Move) (r : Ruled) (n : Once) → ns ≡ ms → n ≡ once_by r → DoesOnward sizes s e' book w w' ms r → ExpandsOnce sizes s e' book w w' ns others n
once_reports sizes s e' book w w' ms ns others r n moves is h =
    subst (λ (l : List Move). ExpandsOnce sizes s e' book w w' l others n) (sym moves) (subst (λ (y : Once). ExpandsOnce sizes s e' book w w' ms others y) (sym is) (by_rule r h)) where
      by_rule : (r : Ruled) → DoesOnward sizes s e' book w w' ms r → ExpandsOnce sizes s e' book w w' ms others (once_by r)
      by_rule ruled.Step h = h
      by_rule ruled.Free h = absurd h
      by_rule (ruled.Halted o) h = h

-- the reading of its expansion begins
pub expansion_went : (sizes : Sizes) (e e' : Engine) (book : Book) (f : FilesTold) (s : SinkTold) (k : Kind) → refusal sizes (Begun k) (state_of e book) ≡ None → made (Begun k) (state_of e book) ≡ state_of e' (with_work (opened k book.work) book) →
    e'.in_line ≡ e.in_line → Stands sizes e' (with_work (opened k book.work) book) → Went sizes (state_of e book) e' (world_of f s e) (world_of f s e') (Begun k ∷ []) 0
expansion_went sizes e e' book f s k fits is column st = record {
  book' = with_work (opened k book.work) book;
  stands = all_of sizes e' (with_work (opened k book.work) book) st;
  did = did_one sizes (Begun k) _ _ _ _ fits is (quiet_wrote (Begun k) f s e.in_line e'.in_line tt column);
  count = refl;
}

-- what it came to
pub once_as : (sizes : Sizes) (s : State) (e' : Engine) (book : Book) (w w' : World) (ms others : List Move) (n m : Once) → n ≡ m → ExpandsOnce sizes s e' book w w' ms others n → ExpandsOnce sizes s e' book w w' ms others m
once_as sizes s e' book w w' ms others n m is h = subst (λ (x : Once). ExpandsOnce sizes s e' book w w' ms others x) is h

pub stayed : (n : Once) → n ≡ once.Stays → IsStayed n
stayed n is = subst IsStayed (sym is) tt

-- THE OPEN READINGS

-- where no call gathers its arguments, none does behind what leaves the readings
pub uncalled_still : (e e1 : Engine) → SameReadings e e1 → e.input.call ≡ NotCalling → e1.input.call ≡ NotCalling
uncalled_still e e1 same none = no_call e1.input.call (same.call ∙ ap call_in none)

pub halted_frames : (e e1 e2 : Engine) → SameReadings e e1 → e.input.call ≡ NotCalling → SameFrames e1 e2 → SameFrames e e2
halted_frames e e1 e2 a none b = record { readings = b.readings ∙ a.readings; lists = b.lists ∙ a.lists; call = b.call ∙ uncalled_still e e1 a none ∙ sym none }
