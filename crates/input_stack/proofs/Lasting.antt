-- A list goes with its last holder.
use Rattle.std.proofs.Common.{◌≡◌, ℕ, ◌-◌, ◌<◌, ◌≤◌, List, length, Option, None, Some, inl, inr, refl, ap, subst, sym, ◌∙◌, arith}
use Rattle.std.specs.Prelude.{slice_set, nat_le, Bool, true, false, cond}
use Rattle.std.proofs.lemmas.Bool.{cases_eq}
use Rattle.std.proofs.lemmas.List.{get_or-set_same, get_or-set_other, length-set}
use Rattle.token_lists.specs.Table.{Entry, entry_at, tokens_of, holders_of, one_less, with_others, IsHeld}
use Rattle.token_lists.proofs.Counts.{held_below}
use Rattle.input_stack.specs.Lasting.{Lasts}

less_test : (b : Bool) (e : Entry) → b ≡ nat_le e.others 0 → (holders_of (cond b None (Some (with_others (e.others - 1) e))) ≤ holders_of (Some e)) × (0 < holders_of (cond b None (Some (with_others (e.others - 1) e))) → tokens_of (cond b None (Some (with_others (e.others - 1) e))) ≡ e.tokens)
less_test true e is = (omega arith, λ some. absurd (omega (arith, some)))
less_test false e is = (omega arith, λ some. refl)

less : (o : Option Entry) → (holders_of (one_less o) ≤ holders_of o) × (0 < holders_of (one_less o) → tokens_of (one_less o) ≡ tokens_of o)
less None = (omega arith, λ some. refl)
less (Some e) = less_test (nat_le e.others 0) e refl

abbrev Lesser : Option Entry → Option Entry → Type 0
Lesser o m = (holders_of m ≤ holders_of o) × (0 < holders_of m → tokens_of m ≡ tokens_of o)

same_at : (o m : Option Entry) → m ≡ o → Lesser o m
same_at o m is = (omega (arith, ap holders_of is), λ some. ap tokens_of is)

lesser : (old new : List (Option Entry)) (id : ℕ) → IsHeld old id → new ≡ slice_set old id (one_less (entry_at old id)) → (h : ℕ) → Lesser (entry_at old h) (entry_at new h)
lesser old new id held after h = elim (cases_eq h id) [
  | inl here ↦
      let at : entry_at new id ≡ one_less (entry_at old id) = ap (λ (t : List (Option Entry)). entry_at t id) after ∙ get_or-set_same old id _ None (held_below old id held) in
      let l : Lesser (entry_at old id) (entry_at new id) = subst (λ (m : Option Entry). Lesser (entry_at old id) m) (sym at) (less (entry_at old id)) in
      subst (λ (k : ℕ). Lesser (entry_at old k) (entry_at new k)) (sym here) l
  | inr other ↦ same_at (entry_at old h) (entry_at new h) (ap (λ (t : List (Option Entry)). entry_at t h) after ∙ get_or-set_other old id h _ None other)
]

-- one holder goes
pub released_lasts : (old new : List (Option Entry)) (id : ℕ) → IsHeld old id → new ≡ slice_set old id (one_less (entry_at old id)) → Lasts old new
released_lasts old new id held after = record {
  size = ap (λ (t : List (Option Entry)). length t) after ∙ length-set old id (one_less (entry_at old id));
  fewer = λ h. (lesser old new id held after h).0;
  tokens = λ h some. (lesser old new id held after h).1 some;
}
