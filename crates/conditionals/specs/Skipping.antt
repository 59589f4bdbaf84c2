-- Skipped text. The TeXbook, chapter 20; TeX: The Program, part 28 (`pass_text`).
use Rattle.std.specs.Prelude.{ℕ, suc, ◌+◌, ◌-◌, ◌<◌, ◌==◌, ◌≡◌, Bool, true, false, if◌then◌else◌, List, [], ◌∷◌, take, count_by, slice_get, Option, Some, None}
use Rattle.tex_defs.specs.declared.Meaning.{Meaning}
use Rattle.tex_defs.specs.declared.Meaning.TheVariants as means
use Rattle.tex_defs.specs.declared.Seen.{Seen}
use Rattle.prim_table.specs.declared.Class.TheVariants as class
use Rattle.prim_table.specs.Primitives.{first_number}
use Rattle.plain_tokens.specs.Categories.{is_between}
use Rattle.plain_tokens.specs.Meanings.{fi_primitive}
use Rattle.plain_tokens.specs.Pending.{next_number}
use Rattle.conditionals.specs.declared.skip.Ender.{Ender}
use Rattle.conditionals.specs.declared.skip.Ender.TheVariants.{Fi, Else, Or}
use Rattle.conditionals.specs.declared.skip.Part.{Part}
use Rattle.conditionals.specs.declared.skip.Part.TheVariants.{Conditional, Ends, Plain}

-- THE PRIMITIVES, from `\if` to `\ifcase`, and behind them in their row `\fi`, `\else` and `\or`
abbrev pub first_conditional : ℕ
first_conditional = first_number class.Conditional

abbrev pub last_conditional : ℕ
last_conditional = fi_primitive - 1

abbrev pub else_primitive : ℕ
else_primitive = 83

abbrev pub or_primitive : ℕ
or_primitive = 84

abbrev pub ender_number : Ender → ℕ
ender_number Fi = fi_primitive
ender_number Else = else_primitive
ender_number Or = or_primitive

-- TOKENS count by their meanings
abbrev pub part : Meaning Unit → Part
part (means.Prim n) =
    if is_between first_conditional last_conditional n then Conditional
    else if n == fi_primitive then Ends Fi
    else if n == else_primitive then Ends Else
    else if n == or_primitive then Ends Or
    else Plain
part m = Plain

abbrev pub is_conditional : Part → Bool
is_conditional Conditional = true
is_conditional p = false

abbrev pub is_fi : Part → Bool
is_fi (Ends Fi) = true
is_fi p = false

abbrev pub ender : Part → Option Ender
ender (Ends e) = Some e
ender p = None

-- how many of these tokens are conditionals, and how many are `\fi`
abbrev pub conditionals : List Seen → ℕ
conditionals = count_by (λ x. is_conditional (part x.meaning))

abbrev pub fis : List Seen → ℕ
fis = count_by (λ x. is_fi (part x.meaning))

-- what this token ends, behind so many conditionals and `\fi`s
abbrev pub ender_behind : (conditionals fis : ℕ) → Option Seen → Option Ender
ender_behind c f None = None
ender_behind c f (Some x) = if c == f then ender (part x.meaning) else None

-- THE END: as what the last of the first k + 1 tokens ends the text, if it is a `\fi`, an `\else` or an `\or` with as many conditionals as `\fi`s
-- before it.
abbrev pub ender_at : List Seen → ℕ → Option Ender
ender_at text k = ender_behind (conditionals (take k text)) (fis (take k text)) (slice_get text k)

-- The skipped text is k tokens and their ender, where k is the least.
pub record IsSkipped (text : List Seen) (k : ℕ) (e : Ender) : Type 0 where
  pub ends : ender_at text k ≡ Some e
  pub least : (j : ℕ) → j < k → ender_at text j ≡ None

-- None of these tokens ends the text, and so many conditionals are open behind them.
pub record GoesOn (depth : ℕ) (text : List Seen) : Type 0 where
  pub level : conditionals text ≡ fis text + depth
  pub none : (k : ℕ) → ender_at text k ≡ None

-- BY A COUNT, which stands still at 2^64 - 1, as a line's number does. A text that is shorter has fewer conditionals.

abbrev pub greatest_count : ℕ
greatest_count = 18446744073709551615

-- as what a token ends the text in which so many are open
abbrev pub ends_at : (depth : ℕ) → Part → Option Ender
ends_at n (Ends e) = if n == 0 then Some e else None
ends_at n p = None

-- how many are open behind an ender among them
abbrev pub depth_behind : Ender → ℕ → ℕ
depth_behind Fi n = n - 1
depth_behind e n = n

-- behind a token that doesn't end it
abbrev pub open_behind : (depth : ℕ) → Part → ℕ
open_behind n Conditional = next_number n
open_behind n (Ends e) = depth_behind e n
open_behind n Plain = n

-- how many tokens stand before the ender of this text, where so many are open before it, and which it is
abbrev pub counted_from : Option Ender → (behind : Option (ℕ × Ender)) → Option (ℕ × Ender)
counted_from (Some e) behind = Some (0, e)
counted_from None None = None
counted_from None (Some (k, e)) = Some (suc k, e)

abbrev pub counted : (depth : ℕ) → List Seen → Option (ℕ × Ender)
counted n [] = None
counted n (x ∷ text) = counted_from (ends_at n (part x.meaning)) (counted (open_behind n (part x.meaning)) text)
