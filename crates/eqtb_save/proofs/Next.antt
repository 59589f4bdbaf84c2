-- The tokens that a closed group has still to give.
use Rattle.std.proofs.Common.{◌≡◌, ℕ, zero, suc, ◌+◌, ◌<◌, ◌≤◌, List, [], ◌∷◌, length, drop, get_or, sym, ap, ◌∙◌, arith}
use Rattle.std.specs.Prelude.{Option, Some, None}
use Rattle.std.proofs.lemmas.List.{drop_all}
use Rattle.tex_defs.specs.declared.Sizes.{Sizes}
use Rattle.tex_defs.specs.declared.Token.{Token}
use Rattle.save_stack.specs.declared.GroupKind.{GroupKind}
use Rattle.save_stack.specs.declared.Closed.TheVariants.{After, Done}
use Rattle.equivalents.specs.Groups.{Groups}
use Rattle.eqtb_save.specs.Table.{Table, GivesNext}
use Rattle.eqtb_save.proofs.Kept.{mk}

drop_suc : (ts : List Token) (n : ℕ) (t : Token) → n < length ts → t ≡ get_or ts n t → drop n ts ≡ t ∷ drop (suc n) ts
drop_suc [] n t within is = absurd (omega arith)
drop_suc (x ∷ ts) zero t within is = ap (λ (y : Token). y ∷ ts) (sym is)
drop_suc (x ∷ ts) (suc n) t within is = drop_suc ts n t (omega arith) is

drop_next : (ts : List Token) (n : ℕ) (t : Token) → n < length ts → t ≡ get_or ts n t → drop n ts ≡ t ∷ drop (n + 1) ts
drop_next ts n t within is = let next : suc n ≡ n + 1 = omega arith in drop_suc ts n t within is ∙ ap (λ (k : ℕ). t ∷ drop k ts) next

module _ (g : Groups) (ts : List Token) (n : ℕ) (ending : Option GroupKind) (sizes : Sizes) (u : Table) (view : mk g (drop n ts) ending sizes ≡ u) where
  pub next_given : (t : Token) → n < length ts → t ≡ get_or ts n t → GivesNext (After t) u (mk g (drop (n + 1) ts) ending sizes)
  next_given t within is = (
    drop (n + 1) ts,
    (ap (λ (x : Table). x.closing) (sym view) ∙ drop_next ts n t within is, ap (λ (x : Table). mk x.groups (drop (n + 1) ts) x.ending x.sizes) view),
  )

  pub all_given : (kind : GroupKind) → length ts ≤ n → ending ≡ Some kind → GivesNext (Done kind) u (mk g (drop n ts) None sizes)
  all_given kind past is =
      let rest : drop n ts ≡ [] = drop_all n ts past in (
        ap (λ (x : Table). x.closing) (sym view) ∙ rest,
        (ap (λ (x : Table). x.ending) (sym view) ∙ is, ap (λ (us : List Token). mk g us None sizes) rest ∙ ap (λ (x : Table). mk x.groups [] None x.sizes) view),
      )
