-- What skipped text and the comparison of `\ifx` are, said another way.
use Rattle.std.specs.Prelude.{ℕ, ◌+◌, ◌<◌, ◌≤◌, ◌≡◌, Bool, true, List, [], ◌∷◌, ◌++◌, length, take, slice_get, Some, None}
use Rattle.tex_defs.specs.declared.Meaning.{Meaning}
use Rattle.tex_defs.specs.declared.Meaning.TheVariants.{Macro}
use Rattle.tex_defs.specs.declared.Seen.{Seen}
use Rattle.conditionals.specs.declared.skip.Ender.{Ender}
use Rattle.conditionals.specs.declared.skip.Ender.TheVariants.{Fi}
use Rattle.conditionals.specs.declared.skip.Part.TheVariants.{Conditional, Ends, Plain}
use Rattle.conditionals.specs.Skipping.{part, ender, conditionals, fis, ender_at, IsSkipped, greatest_count, counted}
use Rattle.conditionals.specs.Same.{same_meaning}

-- The skipped text of a text is one, and the same whatever follows.
pub record TextsEndOnce : Type 0 where
  pub one : (text : List Seen) (j k : ℕ) (d e : Ender) → IsSkipped text j d → IsSkipped text k e → (j ≡ k) × (d ≡ e)
  pub followed : (text more : List Seen) (k : ℕ) (e : Ender) → IsSkipped text k e → IsSkipped (text ++ more) k e

-- The count ends a text of fewer than 2^64 - 1 tokens where its skipped text does.
pub record TextsAreCounted : Type 0 where
  pub ends : (text : List Seen) (k : ℕ) (e : Ender) → length text < greatest_count → counted 0 text ≡ Some (k, e) → IsSkipped text k e
  pub all : (text : List Seen) (k : ℕ) (e : Ender) → length text < greatest_count → IsSkipped text k e → counted 0 text ≡ Some (k, e)

-- Each conditional in a text has its `\fi` there, and each `\fi`, `\else` and `\or` stands within one.
pub record IsWhole (text : List Seen) : Type 0 where
  pub level : conditionals text ≡ fis text
  pub within : (k : ℕ) (x : Seen) (e : Ender) → slice_get text k ≡ Some x → ender (part x.meaning) ≡ Some e → fis (take k text) < conditionals (take k text)

-- Each conditional in a text has its `\fi` there, and each `\fi` its conditional; an `\else` or an `\or` may stand outside.
pub record IsBranches (text : List Seen) : Type 0 where
  pub level : conditionals text ≡ fis text
  pub fronts : (k : ℕ) → fis (take k text) ≤ conditionals (take k text)

pub record ConditionalsArePassed : Type 0 where
  -- a conditional with its branches and its `\fi` is whole, and so are texts one behind the other
  pub conditional : (c f : Seen) (text : List Seen) → part c.meaning ≡ Conditional → part f.meaning ≡ Ends Fi → IsBranches text → IsWhole (c ∷ text ++ f ∷ [])
  pub joined : (xs ys : List Seen) → IsWhole xs → IsWhole ys → IsWhole (xs ++ ys)
  pub plain : (x : Seen) → part x.meaning ≡ Plain → IsWhole (x ∷ [])
  -- nothing in it ends the text around it
  pub within : (before text after : List Seen) (k : ℕ) → fis before ≤ conditionals before → IsWhole text → k < length text → ender_at (before ++ (text ++ after)) (length before + k) ≡ None
  -- the ender behind it does
  pub passed : (text more : List Seen) (x : Seen) (e : Ender) → IsWhole text → ender (part x.meaning) ≡ Some e → IsSkipped (text ++ x ∷ more) (length text) e

abbrev pub IsListSame : Meaning Unit → (same_list : Bool) → Type 0
IsListSame (Macro long outer list) same = same ≡ true
IsListSame m same = Unit {0}

-- They are equal, with the same list where they are macros.
pub record AreAlike (a b : Meaning Unit) (same_list : Bool) : Type 0 where
  pub equal : a ≡ b
  pub list : IsListSame a same_list

pub record MeaningsAreCompared : Type 0 where
  pub alike : (a b : Meaning Unit) (same_list : Bool) → same_meaning a b same_list ≡ true → AreAlike a b same_list
  pub same : (a b : Meaning Unit) (same_list : Bool) → AreAlike a b same_list → same_meaning a b same_list ≡ true
