-- Where a conditional goes on by the value of its test. The TeXbook, chapter 20; TeX: The Program, part 28 (`conditional`, "Skip to \else or \fi").
use Rattle.std.specs.Prelude.{ℕ, zero, suc, pos, ◌≡◌, Bool, true, false, ◌&&◌, if◌then◌else◌, int_lt, unsigned_abs, nat_lt, List, [], ◌∷◌, count_by, Option, Some, None}
use Rattle.conditionals.specs.declared.skip.Ender.{Ender}
use Rattle.conditionals.specs.declared.skip.Ender.TheVariants.{Fi, Else, Or}
use Rattle.conditionals.specs.declared.limits.Limit.{Limit}
use Rattle.conditionals.specs.declared.limits.Limit.TheVariants as limit
use Rattle.conditionals.specs.declared.choice.Value.{Value}
use Rattle.conditionals.specs.declared.choice.Value.TheVariants as value
use Rattle.conditionals.specs.declared.choice.Aim.{Aim}
use Rattle.conditionals.specs.declared.choice.Aim.TheVariants as aims
use Rattle.conditionals.specs.declared.choice.Aim.TheVariants.{Branch, Case, Other}
use Rattle.conditionals.specs.declared.choice.End.{End}
use Rattle.conditionals.specs.declared.choice.End.TheVariants.{Reads, Closes}
use Rattle.conditionals.specs.declared.choice.Passing.{Passing}
use Rattle.conditionals.specs.declared.choice.Passing.TheVariants.{Nothing, ClosesAbove, ExtraOr}
use Rattle.conditionals.specs.declared.choice.Step.{Step}
use Rattle.conditionals.specs.declared.choice.Step.TheVariants.{Skips, Ends}

-- A true test reads on; a false one seeks `\else` or `\fi`, and so does a negative number, which doesn't report `\or`s; another seeks its case.
abbrev pub aim : Value → Aim
aim (value.Truth true) = Branch
aim (value.Truth false) = Other true
aim (value.Case n) = if int_lt n (pos 0) then Other false else Case (unsigned_abs n)

abbrev pub none : Option Limit
none = None

abbrev pub or : Ender
or = Or

-- the limit with which text is read at once
abbrev pub start : Aim → Option Limit
start Branch = Some limit.Branch
start (Case zero) = Some limit.Case
start a = None

-- THE ENDERS that end texts it skips, one after the other. Its own are those behind the `\fi`s of the conditionals above it.
abbrev pub own : (above : ℕ) → List Ender → List Ender
own zero es = es
own (suc n) [] = []
own (suc n) (Fi ∷ es) = own n es
own (suc n) (e ∷ es) = own (suc n) es

-- the first `\else` or `\fi`
abbrev pub other : List Ender → Option End
other [] = None
other (Fi ∷ es) = Some Closes
other (Else ∷ es) = Some (Reads limit.AfterElse)
other (Or ∷ es) = other es

-- the last of so many `\or`s, or an `\else` or `\fi` before it
abbrev pub case : ℕ → List Ender → Option End
case zero es = Some (Reads limit.Case)
case (suc n) [] = None
case (suc n) (Fi ∷ es) = Some Closes
case (suc n) (Else ∷ es) = Some (Reads limit.AfterElse)
case (suc n) (Or ∷ es) = case n es

-- the first `\fi`
abbrev pub closing : List Ender → Option End
closing [] = None
closing (Fi ∷ es) = Some Closes
closing (e ∷ es) = closing es

-- How skipping ends by these enders, if it does.
abbrev pub end : Aim → (above : ℕ) → List Ender → Option End
end Branch above es = Some (Reads limit.Branch)
end (Case zero) above es = Some (Reads limit.Case)
end (Case (suc n)) above es = case (suc n) (own above es)
end (Other reports) above es = other (own above es)
end aims.Fi above es = closing (own above es)

abbrev pub is_fi : Ender → Bool
is_fi Fi = true
is_fi e = false

abbrev pub is_or : Ender → Bool
is_or Or = true
is_or e = false

abbrev pub reports_or : Aim → Bool
reports_or (Other reports) = reports
reports_or a = false

-- What is done at an ender behind these, where skipping goes on: a `\fi` closes a conditional above, as long as fewer came than stand there.
abbrev pub passing : Aim → (above : ℕ) → List Ender → Ender → Passing
passing a above es e =
    if nat_lt (count_by is_fi es) above then (if is_fi e then ClosesAbove else Nothing)
    else if reports_or a && is_or e then ExtraOr
    else Nothing

-- ONE ENDER: what it comes to, where so many conditionals stand above

abbrev pub skips : Passing → Aim → (above : ℕ) → Step
skips p a above = Skips p (record { aim = a; above = above })

-- of a conditional above
abbrev pub above_step : Aim → (above : ℕ) → Ender → Step
above_step a n Fi = skips ClosesAbove a n
above_step a n e = skips Nothing a (suc n)

-- its own `\or`
abbrev pub or_step : Aim → Step
or_step (Case (suc (suc n))) = skips Nothing (Case (suc n)) 0
or_step (Case n) = Ends (Reads limit.Case)
or_step (Other true) = skips ExtraOr (Other true) 0
or_step a = skips Nothing a 0

-- its own ender; what is sought may be its `\fi` alone
abbrev pub own_step : Aim → Ender → Step
own_step a Fi = Ends Closes
own_step aims.Fi e = skips Nothing aims.Fi 0
own_step a Else = Ends (Reads limit.AfterElse)
own_step a Or = or_step a

abbrev pub step_from : Option Limit → Aim → (above : ℕ) → Ender → Step
step_from (Some l) a above e = Ends (Reads l)
step_from None a zero e = own_step a e
step_from None a (suc n) e = above_step a n e

abbrev pub step : Aim → (above : ℕ) → Ender → Step
step a above e = step_from (start a) a above e

-- WHAT WILL COME by what is sought then
abbrev pub end_behind : Step → List Ender → Option End
end_behind (Skips p c) es = end c.aim c.above es
end_behind (Ends how) es = Some how

-- at this ender, and at the later ones
pub record IsPassed (done first rest told : Passing) : Type 0 where
  pub now : done ≡ first
  pub later : rest ≡ told

abbrev pub passing_behind : Step → (first rest : Passing) → List Ender → Ender → Type 0
passing_behind (Skips p c) first rest es e = IsPassed p first rest (passing c.aim c.above es e)
passing_behind (Ends how) first rest es e = Unit {0}

-- Skipping goes on only where it hasn't ended.
abbrev pub IsOpen : Step → Type 0
IsOpen (Skips p c) = end c.aim c.above [] ≡ None
IsOpen (Ends how) = Unit {0}
