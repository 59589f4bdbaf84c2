-- A meaning that is no macro's holds no list.
use Rattle.std.proofs.Common.{◌≡◌, ℕ, ◌+◌, ◌≤◌, List, Option, None, refl, ap, ◌∙◌, arith}
use Rattle.tex_defs.specs.declared.Meaning.{Meaning}
use Rattle.tex_defs.specs.declared.Meaning.TheVariants as means
use Rattle.token_lists.specs.Table.{Entry}
use Rattle.token_lists.specs.Accounts.{none, Moves, Covers}
use Rattle.meanings.specs.Kept.{without_list}
use Rattle.meanings.specs.Holding.{list_holds}
use Rattle.equivalents.specs.declared.values.Val.TheVariants as val
use Rattle.equivalents.specs.Holding.{list_of}
use Rattle.eqtb_save.specs.Holding.{val_holds}

lists_none : (m : Meaning Unit) → list_of (without_list m) ≡ None
lists_none means.Undefined = refl
lists_none means.RelaxMarked = refl
lists_none (means.Char cat code) = refl
lists_none (means.CharGiven code) = refl
lists_none (means.MathGiven code) = refl
lists_none (means.Register kind n) = refl
lists_none (means.Prim number) = refl
lists_none (means.Macro long outer list) = refl

holds_none : (kept : Meaning (Option ℕ)) (m : Meaning Unit) → kept ≡ without_list m → (h : ℕ) → val_holds (val.Meant kept) h ≡ 0
holds_none kept m is h = ap (λ (k : Meaning (Option ℕ)). val_holds (val.Meant k) h) is ∙ ap (λ (o : Option ℕ). list_holds o h) (lists_none m)

-- so it asks for no holder
pub holds_within : (kept : Meaning (Option ℕ)) (m : Meaning Unit) → kept ≡ without_list m → (held : ℕ → ℕ) (h : ℕ) → val_holds (val.Meant kept) h ≤ held h
holds_within kept m is held h = omega (arith, holds_none kept m is h)

pub moves_none : (kept : Meaning (Option ℕ)) (m : Meaning Unit) → kept ≡ without_list m → (table : List (Option Entry)) → Moves table table none (val_holds (val.Meant kept))
moves_none kept m is table h = omega (arith, holds_none kept m is h)

pub covers_none : (kept : Meaning (Option ℕ)) (m : Meaning Unit) → kept ≡ without_list m → (table : List (Option Entry)) (held : ℕ → ℕ) → Covers table held → Covers table (λ h. val_holds (val.Meant kept) h + held h)
covers_none kept m is table held covers h = omega (arith, holds_none kept m is h, covers h)
