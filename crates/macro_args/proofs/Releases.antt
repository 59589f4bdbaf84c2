-- Holders that go one by one.
use Rattle.std.proofs.Common.{◌≡◌, ℕ, ◌+◌, ◌<◌, List, [], length, drop, Option, None, Some, refl, ap, ◌∙◌, arith, true}
use Rattle.std.specs.Prelude.{slice_index_or, IfSome, ◌==◌}
use Rattle.std.proofs.lemmas.Bool.{eq-eqb}
use Rattle.std.proofs.lemmas.List.{drop_more, drop_all}
use Rattle.std.proofs.lemmas.List.Sums.{sum_by-cons}
use Rattle.token_lists.specs.declared.ListRef.{ListRef}
use Rattle.token_lists.specs.Ids.{id_of}
use Rattle.token_lists.specs.Table.{Entry, holders_at, IsHeld}
use Rattle.token_lists.specs.Accounts.{Moves, Covers, Keeps, none, holds, cell_holds, cells_hold}

-- what was held goes, but for what is left
pub record IsLeft (start now : List (Option Entry)) (before left : ℕ → ℕ) : Type 0 where
  pub moves : Moves start now before left
  pub kept : Keeps start now before

pub left_all : (start : List (Option Entry)) (before : ℕ → ℕ) → IsLeft start start before before
left_all start before = record { moves = λ h. refl; kept = record { tokens = λ h l. refl; places = λ h l. refl } }

pub left_next : (start now next : List (Option Entry)) (before left cell rest : ℕ → ℕ) → IsLeft start now before left → ((h : ℕ) → left h ≡ cell h + rest h) → Moves now next cell none → Keeps now next cell → IsLeft start next before rest
left_next start now next before left cell rest is split moves keeps = record {
  moves = λ h. omega (arith, is.moves h, split h, moves h);
  kept = record {
    tokens = λ h l. keeps.tokens h (omega (arith, is.moves h, split h)) ∙ is.kept.tokens h l;
    places = λ h l. keeps.places h (omega (arith, is.moves h, split h)) ∙ is.kept.places h l;
  };
}

pub holds_own : (id : ℕ) → holds id id ≡ 1
holds_own id = let e : (id == id) ≡ true = eq-eqb id id refl in rw e refl

-- what is left is held
pub left_held : (start now : List (Option Entry)) (before left rest : ℕ → ℕ) (cell : Option ListRef) → Covers start before → IsLeft start now before left → ((h : ℕ) → left h ≡ cell_holds cell h + rest h) → IfSome cell (λ r. IsHeld now (id_of r))
left_held start now before left rest None covers is split = tt
left_held start now before left rest (Some r) covers is split = omega (arith, is.moves (id_of r), split (id_of r), covers (id_of r), holds_own (id_of r))

-- the cells from one on
pub split_at : (cells : List (Option ListRef)) (k : ℕ) → k < length cells → (h : ℕ) → cells_hold (drop k cells) h ≡ cell_holds (slice_index_or cells k None) h + cells_hold (drop (k + 1) cells) h
split_at cells k l h = ap (λ (cs : List (Option ListRef)). cells_hold cs h) (drop_more cells k None l) ∙ sum_by-cons (λ (c : Option ListRef). cell_holds c h) (slice_index_or cells k None) (drop (k + 1) cells)

pub left_none : (start now : List (Option Entry)) (before : ℕ → ℕ) (cells : List (Option ListRef)) → length cells ≡ 9 → IsLeft start now before (cells_hold (drop 9 cells)) → Moves start now before none
left_none start now before cells nine is =
    let e : drop 9 cells ≡ [] = drop_all 9 cells (omega arith) in
    λ h. is.moves h ∙ ap (λ (cs : List (Option ListRef)). holders_at start h + cells_hold cs h) e
