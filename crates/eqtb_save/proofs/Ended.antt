-- All lists are let go, one value after the other.
use Rattle.std.proofs.Common.{◌≡◌, ℕ, ◌+◌, List, ◌++◌, ◌∷◌, [], length, Option, None, Some, refl, ap, ◌∙◌, arith}
use Rattle.std.specs.Prelude.{sum_by}
use Rattle.std.proofs.lemmas.List.Sums.{sum_by_push}
use Rattle.token_lists.specs.Table.{Entry, holders_at}
use Rattle.token_lists.specs.Accounts.{Covers, Moves, Keeps, none}
use Rattle.save_stack.specs.declared.Saved.{Saved}
use Rattle.save_stack.specs.Accounts.{mark_weight, array_weight}
use Rattle.eqtb_save.specs.Holding.{entry_holds, MarksLast}
use Rattle.eqtb_save.proofs.Held.{K, weight}
use Rattle.eqtb_save.proofs.Marks.{then_marks}

-- of what was held so much is left
pub record AreGoing (lists0 lists : List (Option Entry)) (held left : ℕ → ℕ) : Type 0 where
  pub moves : (h : ℕ) → holders_at lists h + held h ≡ holders_at lists0 h + left h
  pub kept : Keeps lists0 lists held
  pub length : length lists ≡ length lists0
  pub marks : MarksLast lists0 lists

pub first_going : (lists : List (Option Entry)) (held left : ℕ → ℕ) → ((h : ℕ) → held h ≡ left h) → AreGoing lists lists held left
first_going lists held left all = record { moves = λ h. omega (arith, all h); kept = record { tokens = λ h more. refl; places = λ h more. refl }; length = refl; marks = λ h some. refl }

module _ (lists0 lists : List (Option Entry)) (held left left' gone : ℕ → ℕ) (covers : Covers lists0 held) (going : AreGoing lists0 lists held left) (part : (h : ℕ) → left h ≡ left' h + gone h) where
  pub part_covered : Covers lists gone
  part_covered h = omega (arith, covers h, going.moves h, part h)

  pub still_going : (lists' : List (Option Entry)) → Moves lists lists' gone none → Keeps lists lists' gone → length lists' ≡ length lists → MarksLast lists lists' → AreGoing lists0 lists' held left'
  still_going lists' moves keeps long marks = record {
    moves = λ h. omega (arith, going.moves h, part h, moves h);
    kept = record {
      tokens = λ h more. keeps.tokens h (omega (arith, more, covers h, going.moves h, part h)) ∙ going.kept.tokens h more;
      places = λ h more. keeps.places h (omega (arith, more, covers h, going.moves h, part h)) ∙ going.kept.places h more;
    };
    length = long ∙ going.length;
    marks = then_marks lists0 lists lists' gone going.marks moves marks;
  }

-- the last of the values, and of the saved ones

pub last_value : (vs vs' : List K) (v : K) (saved : List (Option (Saved K))) → vs ≡ vs' ++ v ∷ [] → (h : ℕ) → sum_by (weight h) vs + array_weight (weight h) saved ≡ (sum_by (weight h) vs' + array_weight (weight h) saved) + weight h v
last_value vs vs' v saved is h = omega (arith, ap (λ (xs : List K). sum_by (weight h) xs) is, sum_by_push (weight h) vs' v)

entry_weighs : (e : Option (Saved K)) (h : ℕ) → mark_weight (weight h) e ≡ entry_holds e h
entry_weighs None h = refl
entry_weighs (Some e) h = refl

pub last_saved : (es es' : List (Option (Saved K))) (e : Option (Saved K)) → es ≡ es' ++ e ∷ [] → (h : ℕ) → array_weight (weight h) es ≡ array_weight (weight h) es' + entry_holds e h
last_saved es es' e is h = omega (arith, ap (λ (xs : List (Option (Saved K))). array_weight (weight h) xs) is, sum_by_push (λ (o : Option (Saved K)). mark_weight (weight h) o) es' e, entry_weighs e h)

pub none_left : {X : Type 0} (w : X → ℕ) (xs : List X) → length xs ≡ 0 → sum_by w xs ≡ 0
none_left w [] none = refl
none_left w (x ∷ xs) none = absurd (omega arith)
