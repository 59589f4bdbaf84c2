-- Arguments keep their tokens where their lists stay.
use Rattle.std.proofs.Common.{◌≡◌, ℕ, ◌<◌, List, length, set, get_or, Option, None, Some, inl, inr, sym, ap, subst, ◌∙◌, arith}
use Rattle.std.proofs.lemmas.Bool.{cases_eq, cases_lt}
use Rattle.std.proofs.lemmas.List.{get_or-set_same, get_or-set_other, get_or_past}
use Rattle.std.proofs.lemmas.List.Sums.{get_or-le-sum_by}
use Rattle.std.proofs.lemmas.Option.{none-some}
use Rattle.token_lists.specs.declared.ListRef.{ListRef}
use Rattle.token_lists.specs.Ids.{id_of}
use Rattle.token_lists.specs.Table.{Entry, entry_at, tokens_of, tokens_at}
use Rattle.token_lists.specs.Accounts.{cell_holds, cells_hold}
use Rattle.macro_args.specs.declared.args.Args.{Args}
use Rattle.macro_args.specs.Args.{args_hold, IsFilled}
use Rattle.macro_call.specs.Listed.{AreListed}
use Rattle.macro_args.proofs.Releases.{holds_own}

-- the list of a cell is counted
cell_counted : (cells : List (Option ListRef)) (i : ℕ) (r : ListRef) → get_or cells i None ≡ Some r → 0 < cells_hold cells (id_of r)
cell_counted cells i r is = elim (cases_lt i (length cells)) [
  | inl below ↦
      let part = get_or-le-sum_by (λ (c : Option ListRef). cell_holds c (id_of r)) cells i None below in
      let one = ap (λ (c : Option ListRef). cell_holds c (id_of r)) is in
      omega (arith, part, one, holds_own (id_of r))
  | inr past ↦ absurd (none-some r (sym (get_or_past cells i None past) ∙ is))
]

-- where the lists that arguments hold stay as they are, each still has a token
pub listed_kept : (old new : List (Option Entry)) (args : Args) → ((h : ℕ) → 0 < args_hold args h → entry_at new h ≡ entry_at old h) → AreListed old args → AreListed new args
listed_kept old new args same listed = record {
  tokens = λ i r is. subst (λ (o : Option Entry). 0 < length (tokens_of o)) (sym (same (id_of r) (cell_counted args.lists i r is))) (listed.tokens i r is);
}

-- no arguments
pub none_listed : (table : List (Option Entry)) (args : Args) → args.count ≡ 0 → IsFilled args → AreListed table args
none_listed table args count filled = record { tokens = λ i r is. absurd (none-some r (sym (filled.free i (omega (arith, count))) ∙ is)) }

-- one argument more, whose list has a token if it has a list
pub kept_listed : (table : List (Option Entry)) (old args : Args) (cell : Option ListRef) → old.count < 9 → args.lists ≡ set old.lists old.count cell → AreListed table old → ((r : ListRef) → cell ≡ Some r → 0 < length (tokens_at table (id_of r))) → AreListed table args
kept_listed table old args cell room lists listed some = record {
  tokens = λ i r is.
      let now : get_or (set old.lists old.count cell) i None ≡ Some r = sym (ap (λ (cs : List (Option ListRef)). get_or cs i None) lists) ∙ is in
      elim (cases_eq i old.count) [
        | inl here ↦ some r (sym (get_or-set_same old.lists old.count cell None (omega (arith, old.nine, room))) ∙ subst (λ (k : ℕ). get_or (set old.lists old.count cell) k None ≡ Some r) here now)
        | inr other ↦ listed.tokens i r (sym (get_or-set_other old.lists old.count i cell None (λ e. other e)) ∙ now)
      ];
}
