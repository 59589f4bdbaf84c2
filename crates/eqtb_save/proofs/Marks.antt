-- Where a holder goes, the table of lists keeps its length, and the lists that are still held their marks.
use Rattle.std.proofs.Common.{◌≡◌, ℕ, zero, suc, ◌<◌, List, [], ◌∷◌, length, Option, None, Some, refl, sym, ap, subst, ◌∙◌, arith, rules}
use Rattle.std.specs.Prelude.{slice_set}
use Rattle.std.proofs.lemmas.List.{length-set}
use Rattle.token_lists.specs.Table.{Entry, entry_at, holders_of, mark_of, holders_at, mark_at, one_less}
use Rattle.token_lists.specs.Accounts.{Moves, none}
use Rattle.meanings.specs.Holding.{without_holder}
use Rattle.eqtb_save.specs.Holding.{MarksLast}

entry_mark : (o : Option Entry) → 0 < holders_of (one_less o) → mark_of (one_less o) ≡ mark_of o
entry_mark None some = refl
entry_mark (Some e) some = search rules

set_mark : (table : List (Option Entry)) (id h : ℕ) → 0 < holders_at (slice_set table id (one_less (entry_at table id))) h → mark_at (slice_set table id (one_less (entry_at table id))) h ≡ mark_at table h
set_mark [] id h some = refl
set_mark (o ∷ os) zero zero some = entry_mark o some
set_mark (o ∷ os) zero (suc h) some = refl
set_mark (o ∷ os) (suc id) zero some = refl
set_mark (o ∷ os) (suc id) (suc h) some = set_mark os id h some

without_marks : (o : Option ℕ) (old : List (Option Entry)) → MarksLast old (without_holder o old)
without_marks None old h some = refl
without_marks (Some id) old h some = set_mark old id h some

pub marks_last : (o : Option ℕ) (old new : List (Option Entry)) → new ≡ without_holder o old → MarksLast old new
marks_last o old new is = subst (λ (t : List (Option Entry)). MarksLast old t) (sym is) (without_marks o old)

without_length : (o : Option ℕ) (old : List (Option Entry)) → length (without_holder o old) ≡ length old
without_length None old = refl
without_length (Some id) old = length-set old id (one_less (entry_at old id))

pub same_length : (o : Option ℕ) (old new : List (Option Entry)) → new ≡ without_holder o old → length new ≡ length old
same_length o old new is = ap (λ (t : List (Option Entry)). length t) is ∙ without_length o old

-- one list after the other
pub then_marks : (first old new : List (Option Entry)) (gone : ℕ → ℕ) → MarksLast first old → Moves old new gone none → MarksLast old new → MarksLast first new
then_marks first old new gone before moves after h some = after h some ∙ before h (omega (arith, some, moves h))
