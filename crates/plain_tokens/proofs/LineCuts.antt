-- A file cut at its first line feed.
use Rattle.std.proofs.Common.{◌≡◌, ◌⊎◌, inl, inr, ℕ, ◌≤◌, true, false, List, [], ◌∷◌, ◌++◌, length, arith, refl, ap, ◌∙◌}
use Rattle.std.specs.Prelude.{◌==◌, if◌then◌else◌}
use Rattle.std.specs.List.{AllByRecursion}
use Rattle.std.proofs.lemmas.Grind.{common_steps}
use Rattle.plain_tokens.specs.Lines.{line_feed, before_feed, behind_feed, has_feed, first_line, cut_lines, onto_first, lines, first_lines, trimmed, without_last}
use Rattle.plain_tokens.proofs.LineEnds.{is_same}

abbrev pub NoFeed : List ℕ → Type 0
NoFeed bytes = AllByRecursion (λ (c : ℕ). c ≡ line_feed → ⊥) bytes

not_feed : (c : ℕ) → (c ≡ line_feed → ⊥) → (c == line_feed) ≡ false
not_feed c ne = grind (arith, common_steps)

-- one line feed behind bytes without any
module _ (ys : List ℕ) where
  pub before_split : (xs : List ℕ) → NoFeed xs → before_feed (xs ++ line_feed ∷ ys) ≡ xs
  before_split [] h = refl
  before_split (c ∷ cs) h = rw (not_feed c h.0) (ap (λ (zs : List ℕ). c ∷ zs) (before_split cs h.1))

  pub behind_split : (xs : List ℕ) → NoFeed xs → behind_feed (xs ++ line_feed ∷ ys) ≡ ys
  behind_split [] h = refl
  behind_split (c ∷ cs) h = rw (not_feed c h.0) (behind_split cs h.1)

  pub has_split : (xs : List ℕ) → NoFeed xs → has_feed (xs ++ line_feed ∷ ys) ≡ true
  has_split [] h = refl
  has_split (c ∷ cs) h = rw (not_feed c h.0) (has_split cs h.1)

before_whole : (xs : List ℕ) → NoFeed xs → before_feed xs ≡ xs
before_whole [] h = refl
before_whole (c ∷ cs) h = rw (not_feed c h.0) (ap (λ (zs : List ℕ). c ∷ zs) (before_whole cs h.1))

pub behind_whole : (xs : List ℕ) → NoFeed xs → behind_feed xs ≡ []
behind_whole [] h = refl
behind_whole (c ∷ cs) h = rw (not_feed c h.0) (behind_whole cs h.1)

has_whole : (xs : List ℕ) → NoFeed xs → has_feed xs ≡ false
has_whole [] h = refl
has_whole (c ∷ cs) h = rw (not_feed c h.0) (has_whole cs h.1)

pub first_whole : (xs : List ℕ) → NoFeed xs → first_line xs ≡ trimmed xs
first_whole xs h = rw (has_whole xs h) (ap trimmed (before_whole xs h))

pub first_split : (xs ys : List ℕ) → NoFeed xs → first_line (xs ++ line_feed ∷ ys) ≡ trimmed (without_last 13 xs)
first_split xs ys h = rw (has_split ys xs h) (ap (λ (zs : List ℕ). trimmed (without_last 13 zs)) (before_split ys xs h))

pub record Split (file : List ℕ) : Type 0 where
  pub front : List ℕ
  pub behind : List ℕ
  pub none : NoFeed front
  pub is : file ≡ front ++ line_feed ∷ behind

pub split : (file : List ℕ) → NoFeed file ⊎ Split file
split [] = inl tt
split (c ∷ cs) = elim (is_same c line_feed) [
  | inl e ↦ inr (record { front = []; behind = cs; none = tt; is = ap (λ (d : ℕ). d ∷ cs) e })
  | inr ne ↦ elim (split cs) [
    | inl h ↦ inl (ne, h)
    | inr s ↦ inr (record { front = c ∷ s.front; behind = s.behind; none = (ne, s.none); is = ap (λ (zs : List ℕ). c ∷ zs) s.is })
  ]
]

pub none_front : (xs ys : List ℕ) → NoFeed (xs ++ ys) → NoFeed xs
none_front [] ys h = tt
none_front (x ∷ xs) ys h = (h.0, none_front xs ys h.1)

pub none_both : (xs ys : List ℕ) → NoFeed xs → NoFeed ys → NoFeed (xs ++ ys)
none_both [] ys h i = i
none_both (x ∷ xs) ys h i = (h.0, none_both xs ys h.1 i)

-- what is behind a line is shorter than the file
pub behind_shorter : (c : ℕ) (cs : List ℕ) → length (behind_feed (c ∷ cs)) ≤ length cs
behind_shorter c [] = elim (c == line_feed) as (λ b. length {A = ℕ} (if b then [] else []) ≤ 0) [ true ↦ omega arith | false ↦ omega arith ]
behind_shorter c (d ∷ ds) =
    let less : length (behind_feed (d ∷ ds)) ≤ length ds = behind_shorter d ds in
    elim (c == line_feed) as (λ b. length {A = ℕ} (if b then d ∷ ds else behind_feed (d ∷ ds)) ≤ length (d ∷ ds)) [ true ↦ omega arith | false ↦ omega arith ]

-- the first line as it stands in the file, with its line feed
abbrev pub first_piece : List ℕ → List ℕ
first_piece [] = []
first_piece (c ∷ cs) = if c == line_feed then c ∷ [] else c ∷ first_piece cs

cut_piece : (c : ℕ) (cs : List ℕ) → cut_lines (c ∷ cs) ≡ first_piece (c ∷ cs) ∷ cut_lines (behind_feed (c ∷ cs))
cut_piece c [] =
    elim (c == line_feed) as (λ b. (if b then (c ∷ []) ∷ [] else (c ∷ []) ∷ []) ≡ (if b then c ∷ [] else c ∷ []) ∷ cut_lines (if b then [] else [])) [ true ↦ refl | false ↦ refl ]
cut_piece c (d ∷ ds) =
    let h : cut_lines (d ∷ ds) ≡ first_piece (d ∷ ds) ∷ cut_lines (behind_feed (d ∷ ds)) = cut_piece d ds in
    elim (c == line_feed) as (λ b. (if b then (c ∷ []) ∷ cut_lines (d ∷ ds) else onto_first c (cut_lines (d ∷ ds)))
    ≡ (if b then c ∷ [] else c ∷ first_piece (d ∷ ds)) ∷ cut_lines (if b then d ∷ ds else behind_feed (d ∷ ds))) [ true ↦ refl | false ↦ ap (onto_first c) h ]

before_piece : (file : List ℕ) → before_feed (first_piece file) ≡ before_feed file
before_piece [] = refl
before_piece (c ∷ cs) = elim (is_same c line_feed) [
  | inl e ↦ rw e refl
  | inr ne ↦ simp (not_feed c ne) (ap (λ (zs : List ℕ). c ∷ zs) (before_piece cs))
]

has_piece : (file : List ℕ) → has_feed (first_piece file) ≡ has_feed file
has_piece [] = refl
has_piece (c ∷ cs) = elim (is_same c line_feed) [
  | inl e ↦ rw e refl
  | inr ne ↦ simp (not_feed c ne) (has_piece cs)
]

first_of_piece : (file : List ℕ) → first_line (first_piece file) ≡ first_line file
first_of_piece file = rw (before_piece file, has_piece file) refl

pub in_turn : (c : ℕ) (cs : List ℕ) → lines (c ∷ cs) ≡ first_line (c ∷ cs) ∷ lines (behind_feed (c ∷ cs))
in_turn c cs = ap first_lines (cut_piece c cs) ∙ ap (λ (line : List ℕ). line ∷ lines (behind_feed (c ∷ cs))) (first_of_piece (c ∷ cs))
