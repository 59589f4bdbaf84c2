-- A conditional begins, goes on by the value of its test, and skips text; and what ends it or a part of it comes.
use Rattle.std.proofs.Common.{◌≡◌, ℕ, List, [], ◌∷◌, ◌++◌, refl, sym, ap, ◌∙◌, arith}
use Rattle.std.proofs.lemmas.Bool.Decides.{nat_tests}
use Rattle.std.specs.Prelude.{Bool, Option, Some, None}
use Rattle.tex_defs.specs.declared.Meaning.TheVariants as means
use Rattle.tex_defs.specs.declared.Sizes.{Sizes}
use Rattle.tex_defs.specs.declared.Token.{Token}
use Rattle.tex_defs.specs.Places.{World}
use Rattle.conditionals.specs.declared.choice.Aim.{Aim}
use Rattle.conditionals.specs.declared.choice.Value.{Value as TestValue}
use Rattle.conditionals.specs.declared.choice.Value.TheVariants.{Truth}
use Rattle.conditionals.specs.declared.limits.Limit.{Limit}
use Rattle.conditionals.specs.declared.limits.Met.{Met}
use Rattle.conditionals.specs.declared.skip.Ender.{Ender}
use Rattle.conditionals.specs.declared.skip.Ender.TheVariants.{Fi, Else, Or}
use Rattle.conditionals.specs.declared.skip.Part.TheVariants.{Ends}
use Rattle.conditionals.specs.Choices as choices
use Rattle.conditionals.specs.Limits as limits
use Rattle.conditionals.specs.Open.{limit_of}
use Rattle.conditionals.specs.Skipping.{part, ender_number}
use Rattle.rows.specs.declared.command.Call.{Call}
use Rattle.rows.specs.declared.words.Phrase.TheVariants.{Command}
use Rattle.plain_readings.specs.Readings.{Kind, Reads, Skips, opened}
use Rattle.plain_machine.specs.declared.broken.Broken.{Broken}
use Rattle.plain_machine.specs.Demands.{refusal}
use Rattle.plain_machine.specs.Does.{Did}
use Rattle.plain_machine.specs.Plan.{Page, chosen, conditional_begun, ender_comes, ender_met, limited_or_skips, skips}
use Rattle.plain_machine.specs.Runs.{steps}
use Rattle.plain_machine.specs.States.{Move, Begun, Closed, ConditionOpened, made}
use Rattle.plain_machine.proofs.Doing.{did_join, did_silent}
use Rattle.engine_state.specs.declared.engine.Engine.{Engine}
use Rattle.engine_state.specs.Book.{Book, with_work}
use Rattle.engine_state.specs.CutReadings.{CutsIn}
use Rattle.engine_state.specs.Rules.{Cuts, Went}
use Rattle.engine_state.specs.Stands.{Stands, SameFrames, state_of, page_of}
use Rattle.engine_state.proofs.Uncalled.{all_of}
use Rattle.engine_state.proofs.CuttingReadings.{in_by, stands_in, later_in}
use Rattle.engine_state.proofs.Joining.{quiet_here, went_by, went_on}
use Rattle.gullet.specs.Stepping.{row_moves}

-- moves that are done, behind which the engine stands for its state
pub went_here : (sizes : Sizes) (e e' : Engine) (book : Book) (w : World) (m : Move) → Did sizes (state_of e book) (state_of e' book) w w (m ∷ []) → steps (m ∷ []) ≡ 0 → Stands sizes e' book → Went sizes (state_of e book) e' w w (m ∷ []) 0
went_here sizes e e' book w m did free st = record { book' = book; stands = all_of sizes e' book st; did = did; count = free }

-- TEXT IS SKIPPED from the present line on

module _ (sizes : Sizes) (e e1 : Engine) (book : Book) (w : World) (c : Call) (a : Aim) (line : ℕ) (is : line ≡ e.input.pending.number) where
  abbrev text : Kind
  text = Skips c a line

  abbrev skipping : Book
  skipping = with_work (opened text book.work) book

  moves : skips (page_of e book) c a ≡ Begun text ∷ []
  moves = ap (λ (n : ℕ). Begun (Skips c a n) ∷ []) (sym is)

  pub skips_went : refusal sizes (Begun text) (state_of e book) ≡ None → made (Begun text) (state_of e book) ≡ state_of e1 skipping → Stands sizes e1 skipping → Went sizes (state_of e book) e1 w w (skips (page_of e book) c a) 0
  skips_went fits state st =
      went_by sizes (state_of e book) e1 w w (Begun text ∷ []) (skips (page_of e book) c a) 0 moves
      (record { book' = skipping; stands = all_of sizes e1 skipping st; did = did_silent sizes (Begun text) (state_of e book) (state_of e1 skipping) w fits state (quiet_here (Begun text) w tt); count = refl })

  pub skips_cuts : (b : Broken) → CutsIn sizes (state_of e book) e1 w w (Begun text ∷ []) b → CutsIn sizes (state_of e book) e1 w w (skips (page_of e book) c a) b
  skips_cuts b h = in_by sizes (state_of e book) e1 w w (Begun text ∷ []) (skips (page_of e book) c a) b moves h

-- THE VALUE OF A TEST

-- by what it seeks, and the limit with which it is read at once
pub chosen_by : (page : Page) (c : Call) (v : TestValue) (a : Aim) (o : Option Limit) → a ≡ choices.aim v → o ≡ choices.start a → chosen page c v ≡ limited_or_skips page c a o
chosen_by page c v a o aim start = ap (λ (b : Aim). limited_or_skips page c b (choices.start b)) (sym aim) ∙ ap (limited_or_skips page c a) (sym start)

-- the moves depend on the line alone
limited_line : (p q : Page) (c : Call) (a : Aim) (o : Option Limit) → p.line ≡ q.line → limited_or_skips p c a o ≡ limited_or_skips q c a o
limited_line p q c a (Some l) is = refl
limited_line p q c a None is = ap (λ (n : ℕ). Begun (Skips c a n) ∷ []) is

chosen_line : (p q : Page) (c : Call) (v : TestValue) → p.line ≡ q.line → chosen p c v ≡ chosen q c v
chosen_line p q c v is = limited_line p q c (choices.aim v) (choices.start (choices.aim v)) is

-- A CONDITIONAL BEGINS

-- what comes behind the reading and the conditional
abbrev pub behind_opened : Page → Call → Option Bool → List Move
behind_opened page c None = []
behind_opened page c (Some truth) = Closed ∷ chosen page c (Truth truth)

pub begun_behind : (page : Page) (c : Call) (n : ℕ) (o : Option Bool) → conditional_begun page c n o ≡ Begun (Reads (Command c)) ∷ ConditionOpened n page.line ∷ behind_opened page c o
begun_behind page c n None = refl
begun_behind page c n (Some truth) = refl

module _ (sizes : Sizes) (e e1 : Engine) (book : Book) (w : World) (c : Call) (n : ℕ) (line : e1.input.pending.number ≡ e.input.pending.number)
    (fits : refusal sizes (Begun (Reads (Command c))) (state_of e book) ≡ None) (is : made (Begun (Reads (Command c))) (state_of e book) ≡ state_of e1 (with_work (opened (Reads (Command c)) book.work) book)) where
  abbrev inner : Book
  inner = with_work (opened (Reads (Command c)) book.work) book

  begun_did : Did sizes (state_of e book) (state_of e1 inner) w w (Begun (Reads (Command c)) ∷ [])
  begun_did = did_silent sizes (Begun (Reads (Command c))) (state_of e book) (state_of e1 inner) w fits is (quiet_here (Begun (Reads (Command c))) w tt)

  -- all moves, by the line at which it opens
  all_moves : (o : Option Bool) → conditional_begun (page_of e book) c n o ≡ Begun (Reads (Command c)) ∷ ConditionOpened n e1.input.pending.number ∷ behind_opened (page_of e book) c o
  all_moves o = begun_behind (page_of e book) c n o ∙ ap (λ (k : ℕ). Begun (Reads (Command c)) ∷ ConditionOpened n k ∷ behind_opened (page_of e book) c o) (sym line)

  -- it has no room
  pub condition_cuts : (e2 : Engine) (o : Option Bool) (b : Broken) → Cuts sizes (state_of e1 inner) e2 inner w w (ConditionOpened n e1.input.pending.number ∷ behind_opened (page_of e book) c o) b → SameFrames e1 e2 → Stands sizes e1 inner →
      CutsIn sizes (state_of e book) e2 w w (conditional_begun (page_of e book) c n o) b
  condition_cuts e2 o b cuts same st =
      in_by sizes (state_of e book) e2 w w (Begun (Reads (Command c)) ∷ ConditionOpened n e1.input.pending.number ∷ behind_opened (page_of e book) c o) (conditional_begun (page_of e book) c n o) b (all_moves o)
      (later_in sizes (state_of e book) (state_of e1 inner) e2 w w w (Begun (Reads (Command c)) ∷ []) (ConditionOpened n e1.input.pending.number ∷ behind_opened (page_of e book) c o) b begun_did
      (stands_in sizes e1 e2 inner w w (ConditionOpened n e1.input.pending.number ∷ behind_opened (page_of e book) c o) b cuts same st))

  module _ (e2 : Engine) (opens : Did sizes (state_of e1 inner) (state_of e2 inner) w w (ConditionOpened n e1.input.pending.number ∷ [])) (st2 : Stands sizes e2 inner) where
    both : Did sizes (state_of e book) (state_of e2 inner) w w (Begun (Reads (Command c)) ∷ ConditionOpened n e1.input.pending.number ∷ [])
    both = did_join sizes (state_of e book) (state_of e1 inner) (state_of e2 inner) w w w (Begun (Reads (Command c)) ∷ []) (ConditionOpened n e1.input.pending.number ∷ []) begun_did opens

    -- it reads what it tests
    pub conditional_went : (o : Option Bool) → o ≡ None → Went sizes (state_of e book) e2 w w (conditional_begun (page_of e book) c n o) 0
    conditional_went o none =
        went_by sizes (state_of e book) e2 w w (Begun (Reads (Command c)) ∷ ConditionOpened n e1.input.pending.number ∷ []) (conditional_begun (page_of e book) c n o) 0
        (ap (conditional_begun (page_of e book) c n) none ∙ all_moves None)
        (record { book' = inner; stands = all_of sizes e2 inner st2; did = both; count = refl })

    -- it reads nothing, and its reading ends
    module _ (e3 : Engine) (o : Option Bool) (truth : Bool) (some : o ≡ Some truth) (closed : made Closed (state_of e2 inner) ≡ state_of e3 (with_work book.work book)) (lines : e3.input.pending.number ≡ e.input.pending.number) where
      abbrev after : Book
      after = with_work book.work book

      abbrev front : List Move
      front = Begun (Reads (Command c)) ∷ ConditionOpened n e1.input.pending.number ∷ Closed ∷ []

      front_did : Did sizes (state_of e book) (state_of e3 after) w w front
      front_did =
          did_join sizes (state_of e book) (state_of e2 inner) (state_of e3 after) w w w (Begun (Reads (Command c)) ∷ ConditionOpened n e1.input.pending.number ∷ []) (Closed ∷ []) both
          (did_silent sizes Closed (state_of e2 inner) (state_of e3 after) w refl closed (quiet_here Closed w tt))

      choice_moves : conditional_begun (page_of e book) c n o ≡ front ++ chosen (page_of e3 after) c (Truth truth)
      choice_moves =
          ap (conditional_begun (page_of e book) c n) some ∙ all_moves (Some truth)
          ∙ ap (λ (ms : List Move). front ++ ms) (chosen_line (page_of e book) (page_of e3 after) c (Truth truth) (sym lines))

      pub constant_went : (e4 : Engine) → Went sizes (state_of e3 after) e4 w w (chosen (page_of e3 after) c (Truth truth)) 0 → Went sizes (state_of e book) e4 w w (conditional_begun (page_of e book) c n o) 0
      constant_went e4 h =
          went_by sizes (state_of e book) e4 w w (front ++ chosen (page_of e3 after) c (Truth truth)) (conditional_begun (page_of e book) c n o) 0 choice_moves
          (went_on sizes (state_of e book) (state_of e3 after) e4 w w w front (chosen (page_of e3 after) c (Truth truth)) 0 0 front_did refl h)

      pub constant_cuts : (e4 : Engine) (b : Broken) → CutsIn sizes (state_of e3 after) e4 w w (chosen (page_of e3 after) c (Truth truth)) b → CutsIn sizes (state_of e book) e4 w w (conditional_begun (page_of e book) c n o) b
      constant_cuts e4 b h =
          in_by sizes (state_of e book) e4 w w (front ++ chosen (page_of e3 after) c (Truth truth)) (conditional_begun (page_of e book) c n o) b choice_moves
          (later_in sizes (state_of e book) (state_of e3 after) e4 w w w front (chosen (page_of e3 after) c (Truth truth)) b front_did h)

-- WHAT ENDS IT OR A PART OF IT, by how far the innermost has come

pub met_by : (page : Page) (t : Token) (c : Call) (e : Ender) (l : Option Limit) (m n : Met) → l ≡ limit_of page.conditionals → m ≡ limits.met l e → m ≡ n → ender_met page t c e ≡ ender_comes page t c e n
met_by page t c e l m n limit is by = ap (λ (o : Option Limit). ender_comes page t c e (limits.met o e)) (sym limit) ∙ ap (ender_comes page t c e) (sym is ∙ by)

-- by the number of its primitive
ender_is : (n : ℕ) (e : Ender) → part (means.Prim n) ≡ Ends e → n ≡ ender_number e
ender_is n Fi is = grind (arith, nat_tests, is)
ender_is n Else is = grind (arith, nat_tests, is)
ender_is n Or is = grind (arith, nat_tests, is)

pub row_ends : (page : Page) (t : Token) (c : Call) (n : ℕ) (e : Ender) → part (means.Prim n) ≡ Ends e → row_moves page t c n ≡ ender_met page t c e
row_ends page t c n e is = ap (row_moves page t c) (ender_is n e is) ∙ by_ender e where
  by_ender : (e : Ender) → row_moves page t c (ender_number e) ≡ ender_met page t c e
  by_ender Fi = refl
  by_ender Else = refl
  by_ender Or = refl
