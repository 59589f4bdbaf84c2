-- Cells that go one by one, the last first.
use Rattle.std.proofs.Common.{zero, suc, ◌≡◌, ℕ, ◌+◌, ◌<◌, ◌≤◌, List, [], ◌∷◌, ◌++◌, length, take, drop, Option, None, Some, sym, ap, ◌∙◌, subst, arith, append_assoc}
use Rattle.std.specs.Prelude.{IfSome}
use Rattle.std.proofs.lemmas.List.{length-append, take-append-drop}
use Rattle.std.proofs.lemmas.List.Sums.{sum_by-cons, sum_by-take-drop}
use Rattle.std.proofs.Math.Seq.{take-append_seam, drop-append_seam}
use Rattle.token_lists.specs.declared.ListRef.{ListRef}
use Rattle.token_lists.specs.Ids.{id_of}
use Rattle.token_lists.specs.Table.{Entry, IsHeld}
use Rattle.token_lists.specs.Accounts.{none, Moves, Keeps, Covers, cell_holds, cells_hold}
use Rattle.input_stack.proofs.CallKept.{holds_itself}

fewer_hold : (cells : List (Option ListRef)) (j k h : ℕ) → j ≤ k → cells_hold (drop k cells) h ≤ cells_hold (drop j cells) h
fewer_hold cells zero k h l = omega (arith, sum_by-take-drop (λ (c : Option ListRef). cell_holds c h) cells k)
fewer_hold cells (suc j) zero h l = absurd (omega (arith, l))
fewer_hold [] (suc j) (suc k) h l = omega arith
fewer_hold (c ∷ cells) (suc j) (suc k) h l = fewer_hold cells j k h (omega (arith, l))

held_by : (now : List (Option Entry)) (cell : Option ListRef) → Covers now (cell_holds cell) → IfSome cell (λ r. IsHeld now (id_of r))
held_by now None covers = tt
held_by now (Some r) covers = omega (arith, covers (id_of r), holds_itself (id_of r))

-- the last of those that are left has gone
module _ (whole cells rest : List (Option ListRef)) (cell : Option ListRef) (is : cells ≡ take (length cells) whole) (at : cells ≡ rest ++ cell ∷ []) where
  parts : whole ≡ rest ++ (cell ∷ drop (length cells) whole)
  parts =
      sym (take-append-drop (length cells) whole)
      ∙ ap (λ (xs : List (Option ListRef)). xs ++ drop (length cells) whole) (sym is ∙ at)
      ∙ append_assoc rest (cell ∷ []) (drop (length cells) whole)

  pub popped_length : length cells ≡ length rest + 1
  popped_length = ap length at ∙ length-append rest (cell ∷ [])

  pub rest_left : rest ≡ take (length rest) whole
  rest_left = sym (ap (take (length rest)) parts ∙ take-append_seam rest (cell ∷ drop (length cells) whole))

  pub rest_holds : (h : ℕ) → cells_hold (drop (length rest) whole) h ≡ cell_holds cell h + cells_hold (drop (length cells) whole) h
  rest_holds h =
      ap (λ (xs : List (Option ListRef)). cells_hold xs h) (ap (drop (length rest)) parts ∙ drop-append_seam rest (cell ∷ drop (length cells) whole))
      ∙ sum_by-cons (λ (c : Option ListRef). cell_holds c h) cell (drop (length cells) whole)

  -- it was held
  pub cell_held : (old now : List (Option Entry)) (left : ℕ) → left < length cells → Covers old (cells_hold (drop left whole)) → Moves old now (cells_hold (drop (length cells) whole)) none → IfSome cell (λ r. IsHeld now (id_of r))
  cell_held old now left more covers moves =
      held_by now cell (λ h. omega (arith, covers h, moves h, fewer_hold whole left (length rest) h (omega (arith, popped_length, more)), rest_holds h))

  pub more_moved : (old now new : List (Option Entry)) → Moves old now (cells_hold (drop (length cells) whole)) none → Moves now new (cell_holds cell) none → Moves old new (cells_hold (drop (length rest) whole)) none
  more_moved old now new moves one h = omega (arith, moves h, one h, rest_holds h)

  pub more_kept : (old now new : List (Option Entry)) → Moves old now (cells_hold (drop (length cells) whole)) none → Keeps old now (cells_hold (drop (length cells) whole)) → Keeps now new (cell_holds cell) → Keeps old new (cells_hold (drop (length rest) whole))
  more_kept old now new moves keeps one = record {
    tokens = λ h less. one.tokens h (omega (arith, less, moves h, rest_holds h)) ∙ keeps.tokens h (omega (arith, less, rest_holds h));
    places = λ h less. one.places h (omega (arith, less, moves h, rest_holds h)) ∙ keeps.places h (omega (arith, less, rest_holds h));
  }

pub same_drop : (old new : List (Option Entry)) (cells : List (Option ListRef)) (n k : ℕ) → n ≡ k → Moves old new (cells_hold (drop n cells)) none → Moves old new (cells_hold (drop k cells)) none
same_drop old new cells n k is moves = subst (λ (i : ℕ). Moves old new (cells_hold (drop i cells)) none) is moves

pub kept_drop : (old new : List (Option Entry)) (cells : List (Option ListRef)) (n k : ℕ) → n ≡ k → Keeps old new (cells_hold (drop n cells)) → Keeps old new (cells_hold (drop k cells))
kept_drop old new cells n k is keeps = subst (λ (i : ℕ). Keeps old new (cells_hold (drop i cells))) is keeps
