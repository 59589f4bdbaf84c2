-- Conditionals worked out.
use Rattle.std.specs.Prelude.{ℕ, zero, suc, pos, negsuc, ◌≡◌, Bool, true, false, List, [], ◌∷◌, ◌++◌, Option, Some, None}
use Rattle.tex_defs.specs.declared.Meaning.{Meaning}
use Rattle.tex_defs.specs.declared.Meaning.TheVariants as means
use Rattle.tex_defs.specs.declared.Name.TheVariants.{Single, Word}
use Rattle.tex_defs.specs.declared.RegisterKind.TheVariants as register
use Rattle.tex_defs.specs.declared.Seen.{Seen}
use Rattle.tex_defs.specs.declared.Token.TheVariants as token
use Rattle.conditionals.specs.declared.skip.Ender.{Ender}
use Rattle.conditionals.specs.declared.skip.Ender.TheVariants.{Fi, Else, Or}
use Rattle.conditionals.specs.declared.limits.Limit.TheVariants as limit
use Rattle.conditionals.specs.declared.limits.Met.TheVariants as met
use Rattle.conditionals.specs.declared.choice.Aim.TheVariants as aims
use Rattle.conditionals.specs.declared.choice.Value.{Value}
use Rattle.conditionals.specs.declared.choice.Value.TheVariants.{Truth, Case}
use Rattle.conditionals.specs.declared.choice.End.{End}
use Rattle.conditionals.specs.declared.choice.End.TheVariants.{Reads, Closes}
use Rattle.conditionals.specs.declared.choice.Passing.{Passing}
use Rattle.conditionals.specs.declared.choice.Passing.TheVariants.{Nothing, ClosesAbove, ExtraOr}
use Rattle.conditionals.specs.declared.choice.Step.TheVariants.{Ends}
use Rattle.conditionals.specs.declared.open.Conditional.{Conditional}
use Rattle.conditionals.specs.Skipping.{ender_at, counted}
use Rattle.conditionals.specs.Limits.{met}
use Rattle.conditionals.specs.Choices.{aim, end, passing, skips, step}
use Rattle.conditionals.specs.Open.{opened, limit_of, innermost_test, above, above_sought, with_limit, constant_test}
use Rattle.conditionals.specs.Same.{same_meaning}

-- WHAT COMES: a letter, and names of primitives; `\let\i=\fi` makes `\i` a `\fi`
abbrev pub a_letter : Seen
a_letter = record { token = token.Char 11 97; meaning = means.Char 11 97 }

abbrev pub primitive : ℕ → Seen
primitive n = record { token = token.Named (Word n); meaning = means.Prim n }

abbrev pub an_if : Seen
an_if = primitive 65

abbrev pub an_ifcase : Seen
an_ifcase = primitive 81

abbrev pub a_fi : Seen
a_fi = primitive 82

abbrev pub an_else : Seen
an_else = primitive 83

abbrev pub an_or : Seen
an_or = primitive 84

abbrev pub let_fi : Seen
let_fi = record { token = token.Named (Single 105); meaning = means.Prim 82 }

-- a `\fi` put back by `\noexpand`, which means `\relax`
abbrev pub marked_fi : Seen
marked_fi = record { token = token.Marked (Word 82); meaning = means.RelaxMarked }

-- as what each of the first n tokens ends the text
abbrev pub ends_in : ℕ → List Seen → List (Option Ender)
ends_in zero text = []
ends_in (suc n) text = ends_in n text ++ ender_at text n ∷ []

-- `a\if b\else c\fi d\else`, where the second `\else` ends it; a `\fi` of another name; a conditional within one; `\ifcase` with an `\or`
pub record WorkedTexts : Type 0 where
  pub nested :
      ends_in 8 (a_letter ∷ an_if ∷ a_letter ∷ an_else ∷ a_letter ∷ a_fi ∷ a_letter ∷ an_else ∷ []) ≡
      None ∷ None ∷ None ∷ None ∷ None ∷ None ∷ None ∷ Some Else ∷ []
  pub name : ends_in 4 (an_if ∷ let_fi ∷ marked_fi ∷ let_fi ∷ []) ≡ None ∷ None ∷ None ∷ Some Fi ∷ []
  pub twice : ends_in 7 (an_if ∷ an_if ∷ an_or ∷ a_fi ∷ an_else ∷ a_fi ∷ an_else ∷ []) ≡ None ∷ None ∷ None ∷ None ∷ None ∷ None ∷ Some Else ∷ []
  pub cases : ends_in 5 (an_ifcase ∷ an_or ∷ an_else ∷ a_fi ∷ an_or ∷ []) ≡ None ∷ None ∷ None ∷ None ∷ Some Or ∷ []
  pub counts : counted 0 (an_ifcase ∷ an_or ∷ an_else ∷ a_fi ∷ an_or ∷ []) ≡ Some (4, Or)
  pub goes_on : counted 0 (an_if ∷ an_else ∷ a_fi ∷ []) ≡ None

-- none is open; in a test; behind `\else`; in a true branch; in a case
pub record WorkedLimits : Type 0 where
  pub fi : met None Fi ≡ met.Extra
  pub or : met None Or ≡ met.Extra
  pub test_fi : met (Some limit.Test) Fi ≡ met.RelaxBefore
  pub test_or : met (Some limit.Test) Or ≡ met.RelaxBefore
  pub else_fi : met (Some limit.AfterElse) Fi ≡ met.Closes
  pub else_else : met (Some limit.AfterElse) Else ≡ met.Extra
  pub branch_fi : met (Some limit.Branch) Fi ≡ met.Closes
  pub branch_else : met (Some limit.Branch) Else ≡ met.SkipsToFi
  pub branch_or : met (Some limit.Branch) Or ≡ met.Extra
  pub case_or : met (Some limit.Case) Or ≡ met.SkipsToFi
  pub case_else : met (Some limit.Case) Else ≡ met.SkipsToFi

abbrev pub ended : Value → (above : ℕ) → List Ender → Option End
ended v above es = end (aim v) above es

abbrev pub passed : Value → (above : ℕ) → List Ender → Ender → Passing
passed v above es e = passing (aim v) above es e

-- `\ifcase` 0 and 2, with fewer cases, by `\else`, and with a negative number; `\iffalse` with an `\or`; and with a conditional above: in
-- `\ifnum1=2\iftrue A\else B\fi C\else D\fi` it is D that is read, in `\ifcase1\iftrue A\or B\fi C\or D\fi` too
pub record WorkedChoices : Type 0 where
  pub truth : ended (Truth true) 1 [] ≡ Some (Reads limit.Branch)
  pub first : ended (Case (pos 0)) 1 [] ≡ Some (Reads limit.Case)
  pub second : ended (Case (pos 2)) 0 (Or ∷ []) ≡ None
  pub third : ended (Case (pos 2)) 0 (Or ∷ Or ∷ []) ≡ Some (Reads limit.Case)
  pub few : ended (Case (pos 5)) 0 (Or ∷ Fi ∷ []) ≡ Some Closes
  pub other : ended (Case (pos 1)) 0 (Else ∷ []) ≡ Some (Reads limit.AfterElse)
  pub negative : ended (Case (negsuc 0)) 0 (Or ∷ Else ∷ []) ≡ Some (Reads limit.AfterElse)
  pub silent : passed (Case (negsuc 0)) 0 [] Or ≡ Nothing
  pub reported : passed (Truth false) 0 [] Or ≡ ExtraOr
  pub behind : ended (Truth false) 0 (Or ∷ Else ∷ []) ≡ Some (Reads limit.AfterElse)
  pub opened : ended (Truth false) 1 (Else ∷ Fi ∷ []) ≡ None
  pub ignored : passed (Truth false) 1 [] Or ≡ Nothing
  pub closed : passed (Truth false) 1 (Else ∷ []) Fi ≡ ClosesAbove
  pub above : ended (Truth false) 1 (Else ∷ Fi ∷ Else ∷ []) ≡ Some (Reads limit.AfterElse)
  pub case_above : ended (Case (pos 1)) 1 (Or ∷ Fi ∷ Or ∷ []) ≡ Some (Reads limit.Case)

-- behind the text of a branch that was read its `\fi` is sought, whatever comes before it
pub record WorkedClosings : Type 0 where
  pub passed : end aims.Fi 0 (Else ∷ Or ∷ []) ≡ None
  pub closed : end aims.Fi 0 (Else ∷ Or ∷ Fi ∷ []) ≡ Some Closes
  pub silent : passing aims.Fi 0 [] Or ≡ Nothing

-- one ender: of a conditional above; an `\or` in `\ifcase2`, in `\ifcase1` and in `\iffalse`; where a `\fi` alone is sought
pub record WorkedSteps : Type 0 where
  pub above_fi : step (aims.Other true) 1 Fi ≡ skips ClosesAbove (aims.Other true) 0
  pub above_else : step (aims.Other true) 1 Else ≡ skips Nothing (aims.Other true) 1
  pub above_or : step (aims.Other true) 1 Or ≡ skips Nothing (aims.Other true) 1
  pub second : step (aims.Case 2) 0 Or ≡ skips Nothing (aims.Case 1) 0
  pub third : step (aims.Case 1) 0 Or ≡ Ends (Reads limit.Case)
  pub few : step (aims.Case 5) 0 Fi ≡ Ends Closes
  pub other : step (aims.Case 5) 0 Else ≡ Ends (Reads limit.AfterElse)
  pub reported : step (aims.Other true) 0 Or ≡ skips ExtraOr (aims.Other true) 0
  pub negative : step (aims.Other false) 0 Or ≡ skips Nothing (aims.Other false) 0
  pub passed : step aims.Fi 0 Else ≡ skips Nothing aims.Fi 0
  pub closed : step aims.Fi 0 Fi ≡ Ends Closes

-- in `\ifnum1=2\iftrue` on line 3, where the test of `\ifnum` left `\iftrue` open above its own conditional
abbrev pub an_ifnum : Conditional
an_ifnum = record { number = 67; line = 3; limit = limit.Test }

abbrev pub an_iftrue : Conditional
an_iftrue = record { number = 79; line = 3; limit = limit.Branch }

abbrev pub left_open : List Conditional
left_open = an_iftrue ∷ an_ifnum ∷ []

pub record WorkedStacks : Type 0 where
  pub begun : opened 67 3 [] ≡ an_ifnum ∷ []
  pub none : limit_of [] ≡ None
  pub reads : limit_of left_open ≡ Some limit.Branch
  pub name : innermost_test left_open ≡ 79
  pub left : above left_open ≡ 1
  pub sought : above_sought (aims.Other true) left_open ≡ 1
  pub closing : above_sought aims.Fi left_open ≡ 0
  pub chosen : with_limit limit.AfterElse left_open ≡ an_iftrue ∷ record an_ifnum { limit = limit.AfterElse } ∷ []
  pub innermost : with_limit limit.Branch (an_ifnum ∷ an_ifnum ∷ []) ≡ record an_ifnum { limit = limit.Branch } ∷ an_ifnum ∷ []
  pub unchanged : with_limit limit.Case (an_iftrue ∷ []) ≡ an_iftrue ∷ []

-- `\ifnum`, `\ifodd`, `\ifvmode`, `\ifhmode`, `\ifinner`, `\ifvoid`, `\ifx`, `\iftrue`, `\iffalse`, `\ifcase`
pub record WorkedConstants : Type 0 where
  pub num : constant_test 67 ≡ None
  pub odd : constant_test 69 ≡ None
  pub vmode : constant_test 70 ≡ Some true
  pub hmode : constant_test 71 ≡ Some false
  pub inner : constant_test 73 ≡ Some false
  pub void : constant_test 74 ≡ None
  pub same : constant_test 77 ≡ None
  pub true_test : constant_test 79 ≡ Some true
  pub false_test : constant_test 80 ≡ Some false
  pub cases : constant_test 81 ≡ None

abbrev pub a_macro : (long outer : Bool) → Meaning Unit
a_macro long outer = means.Macro long outer tt

-- two undefined names; macros; `\relax`, and a name behind `\noexpand`; names of `\chardef`, `\mathchardef`, `\countdef` and `\dimendef`
pub record WorkedMeanings : Type 0 where
  pub undefined : same_meaning means.Undefined means.Undefined false ≡ true
  pub macros : same_meaning (a_macro false false) (a_macro false false) true ≡ true
  pub lists : same_meaning (a_macro false false) (a_macro false false) false ≡ false
  pub flags : same_meaning (a_macro false false) (a_macro true false) true ≡ false
  pub outer : same_meaning (a_macro false true) (a_macro true true) true ≡ false
  pub marked : same_meaning means.RelaxMarked means.RelaxMarked false ≡ true
  pub relax : same_meaning means.RelaxMarked (means.Prim 1) true ≡ false
  pub given : same_meaning (means.CharGiven 65) (means.CharGiven 65) false ≡ true
  pub math : same_meaning (means.CharGiven 65) (means.MathGiven 65) true ≡ false
  pub character : same_meaning (means.Char 11 65) (means.CharGiven 65) true ≡ false
  pub count : same_meaning (means.Register register.Count 5) (means.Register register.Count 5) false ≡ true
  pub dimen : same_meaning (means.Register register.Count 5) (means.Register register.Dimen 5) true ≡ false

pub record WorkedConditionals : Type 0 where
  pub texts : WorkedTexts
  pub limits : WorkedLimits
  pub choices : WorkedChoices
  pub closings : WorkedClosings
  pub steps : WorkedSteps
  pub stacks : WorkedStacks
  pub constants : WorkedConstants
  pub meanings : WorkedMeanings
