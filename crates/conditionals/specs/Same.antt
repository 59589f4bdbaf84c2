-- The comparison of `\ifx`. The TeXbook, chapter 20; TeX: The Program, part 28 ("Test if two tokens match", "Test if two macro texts match").
use Rattle.std.specs.Prelude.{◌==◌, ◌&&◌, Bool, true, false, not}
use Rattle.tex_defs.specs.declared.Meaning.{Meaning}
use Rattle.tex_defs.specs.declared.Meaning.TheVariants.{Undefined, RelaxMarked, Char, CharGiven, MathGiven, Register, Prim, Macro}
use Rattle.tex_defs.specs.declared.RegisterKind.{RegisterKind}
use Rattle.tex_defs.specs.declared.RegisterKind.TheVariants.{Count, Dimen, Skip, Muskip, Toks}

abbrev pub same_kind : RegisterKind → RegisterKind → Bool
same_kind Count Count = true
same_kind Dimen Dimen = true
same_kind Skip Skip = true
same_kind Muskip Muskip = true
same_kind Toks Toks = true
same_kind j k = false

abbrev pub same_flag : Bool → Bool → Bool
same_flag true b = b
same_flag false b = not b

-- The same kind of meaning, with the same numbers; of macros with the same flags and the same list.
abbrev pub same_meaning : Meaning Unit → Meaning Unit → (same_list : Bool) → Bool
same_meaning Undefined Undefined same = true
same_meaning RelaxMarked RelaxMarked same = true
same_meaning (Char c k) (Char d l) same = (c == d) && (k == l)
same_meaning (CharGiven m) (CharGiven n) same = m == n
same_meaning (MathGiven m) (MathGiven n) same = m == n
same_meaning (Register j m) (Register k n) same = same_kind j k && (m == n)
same_meaning (Prim m) (Prim n) same = m == n
same_meaning (Macro l o list) (Macro m p other) same = same_flag l m && (same_flag o p && same)
same_meaning a b same = false
