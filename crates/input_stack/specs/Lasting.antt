-- Lists that go with their last holders.
use Rattle.std.specs.Prelude.{◌≡◌, ℕ, ◌+◌, ◌<◌, ◌≤◌, List, length, Option}
use Rattle.token_lists.specs.Table.{Entry, tokens_at, holders_at}

-- the memory has its size, no list has more holders, and what is still held has the tokens that it had
pub record Lasts (old new : List (Option Entry)) : Type 0 where
  pub size : length new ≡ length old
  pub fewer : (h : ℕ) → holders_at new h ≤ holders_at old h
  pub tokens : (h : ℕ) → 0 < holders_at new h → tokens_at new h ≡ tokens_at old h

-- the same, but that some lists have so many more holders
pub record LastsBut (old new : List (Option Entry)) (more : ℕ → ℕ) : Type 0 where
  pub size : length new ≡ length old
  pub fewer : (h : ℕ) → holders_at new h ≤ holders_at old h + more h
  pub tokens : (h : ℕ) → 0 < holders_at new h → tokens_at new h ≡ tokens_at old h
