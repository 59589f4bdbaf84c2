-- What stands at the end of a line: spaces and a carriage return.
use Rattle.std.proofs.Common.{◌≡◌, ◌⊎◌, inl, inr, ℕ, List, [], ◌∷◌, ◌++◌, arith, refl, sym, ap, ◌∙◌}
use Rattle.std.specs.List.{AllByRecursion}
use Rattle.std.proofs.lemmas.Bool.{cases_order}
use Rattle.std.proofs.lemmas.Grind.{common_steps}
use Rattle.plain_tokens.specs.Lines.{trimmed, trimmed_on, without_last}
use Rattle.plain_tokens.specs.LineLaws.{EndsWith}

pub is_same : (a b : ℕ) → (a ≡ b) ⊎ (a ≡ b → ⊥)
is_same a b = elim (cases_order a b) [ inl e ↦ inl e | inr (inl l) ↦ inr (λ e. omega arith) | inr (inr l) ↦ inr (λ e. omega arith) ]

abbrev pub Spaces : List ℕ → Type 0
Spaces bytes = AllByRecursion (λ (c : ℕ). c ≡ 32) bytes

nil_ends : (d : ℕ) (ys : List ℕ) → [] ≡ ys ++ d ∷ [] → ⊥
nil_ends d [] e = cc
nil_ends d (y ∷ ys) e = cc

last_same : (d e : ℕ) (xs ys : List ℕ) → xs ++ d ∷ [] ≡ ys ++ e ∷ [] → d ≡ e
last_same d e [] [] h = cc
last_same d e [] (y ∷ ys) h = let g : [] ≡ ys ++ e ∷ [] = cc in absurd (nil_ends e ys g)
last_same d e (x ∷ xs) [] h = let g : [] ≡ xs ++ d ∷ [] = cc in absurd (nil_ends d xs g)
last_same d e (x ∷ xs) (y ∷ ys) h = last_same d e xs ys (cc)

-- nothing, or something with a last character
record Last (xs : List ℕ) : Type 0 where
  front : List ℕ
  d : ℕ
  is : xs ≡ front ++ d ∷ []

last_of : (xs : List ℕ) → (xs ≡ []) ⊎ Last xs
last_of [] = inl refl
last_of (x ∷ xs) = elim (last_of xs) [
  | inl e ↦ inr (record { front = []; d = x; is = ap (λ (ys : List ℕ). x ∷ ys) e })
  | inr l ↦ inr (record { front = x ∷ l.front; d = l.d; is = ap (λ (ys : List ℕ). x ∷ ys) l.is })
]

trimmed_on_full : (c d : ℕ) (xs : List ℕ) → trimmed_on c (xs ++ d ∷ []) ≡ c ∷ (xs ++ d ∷ [])
trimmed_on_full c d [] = refl
trimmed_on_full c d (x ∷ xs) = refl

trimmed_one : (d : ℕ) → (d ≡ 32 → ⊥) → trimmed (d ∷ []) ≡ d ∷ []
trimmed_one d ne = grind (arith, common_steps)

trimmed_other : (xs : List ℕ) (d : ℕ) → (d ≡ 32 → ⊥) → trimmed (xs ++ d ∷ []) ≡ xs ++ d ∷ []
trimmed_other [] d ne = trimmed_one d ne
trimmed_other (c ∷ xs) d ne = ap (trimmed_on c) (trimmed_other xs d ne) ∙ trimmed_on_full c d xs

without_one_same : (d : ℕ) → without_last d (d ∷ []) ≡ []
without_one_same d = grind (arith, common_steps)

pub without_same : (d : ℕ) (xs : List ℕ) → without_last d (xs ++ d ∷ []) ≡ xs
without_same d [] = without_one_same d
without_same d (x ∷ []) = ap (λ (ys : List ℕ). x ∷ ys) (without_one_same d)
without_same d (x ∷ y ∷ ys) = ap (λ (zs : List ℕ). x ∷ zs) (without_same d (y ∷ ys))

without_one : (d c : ℕ) → (c ≡ d → ⊥) → without_last d (c ∷ []) ≡ c ∷ []
without_one d c ne = grind (arith, common_steps)

without_other : (d : ℕ) (xs : List ℕ) (c : ℕ) → (c ≡ d → ⊥) → without_last d (xs ++ c ∷ []) ≡ xs ++ c ∷ []
without_other d [] c ne = without_one d c ne
without_other d (x ∷ []) c ne = ap (λ (ys : List ℕ). x ∷ ys) (without_one d c ne)
without_other d (x ∷ y ∷ ys) c ne = ap (λ (zs : List ℕ). x ∷ zs) (without_other d (y ∷ ys) c ne)

-- a line that doesn't end with this character stays
pub nothing_trimmed : (xs : List ℕ) → (EndsWith 32 xs → ⊥) → trimmed xs ≡ xs
nothing_trimmed xs h = elim (last_of xs) [
  | inl e ↦ rw e refl
  | inr l ↦ ap trimmed l.is ∙ trimmed_other l.front l.d (λ e. h (l.front, l.is ∙ ap (λ (d : ℕ). l.front ++ d ∷ []) e)) ∙ sym l.is
]

pub nothing_goes : (d : ℕ) (xs : List ℕ) → (EndsWith d xs → ⊥) → without_last d xs ≡ xs
nothing_goes d xs h = elim (last_of xs) [
  | inl e ↦ rw e refl
  | inr l ↦ ap (without_last d) l.is ∙ without_other d l.front l.d (λ e. h (l.front, l.is ∙ ap (λ (c : ℕ). l.front ++ c ∷ []) e)) ∙ sym l.is
]

-- a last character of this code, or none
pub ends_or_not : (d : ℕ) (xs : List ℕ) → EndsWith d xs ⊎ (EndsWith d xs → ⊥)
ends_or_not d xs = elim (last_of xs) [
  | inl e ↦ inr (λ h. nil_ends d h.0 (sym e ∙ h.1))
  | inr l ↦ elim (is_same l.d d) [
    | inl e ↦ inl (l.front, l.is ∙ ap (λ (c : ℕ). l.front ++ c ∷ []) e)
    | inr ne ↦ inr (λ h. ne (last_same l.d d l.front h.0 (sym l.is ∙ h.1)))
  ]
]

spaces_go : (spaces : List ℕ) → Spaces spaces → trimmed spaces ≡ []
spaces_go [] h = refl
spaces_go (c ∷ cs) h = rw (h.0, spaces_go cs h.1) refl

pub trimmed_spaces : (xs spaces : List ℕ) → Spaces spaces → trimmed (xs ++ spaces) ≡ trimmed xs
trimmed_spaces [] spaces h = spaces_go spaces h
trimmed_spaces (x ∷ xs) spaces h = ap (trimmed_on x) (trimmed_spaces xs spaces h)

-- a line is what is left of it and the spaces that go
pub record Trim (xs ts : List ℕ) : Type 0 where
  pub spaces : List ℕ
  pub are : Spaces spaces
  pub is : xs ≡ ts ++ spaces
  pub ends : EndsWith 32 ts → ⊥

ends_one : (c : ℕ) → (c ≡ 32 → ⊥) → EndsWith 32 (c ∷ []) → ⊥
ends_one c ne h = ne (last_same c 32 [] h.0 h.1)

ends_less : (c e : ℕ) (es ys : List ℕ) → c ∷ e ∷ es ≡ ys ++ 32 ∷ [] → EndsWith 32 (e ∷ es)
ends_less c e es [] h = absurd (cc)
ends_less c e es (y ∷ ys) h = (ys, cc)

trim_on : (c : ℕ) (cs ts spaces : List ℕ) → Spaces spaces → cs ≡ ts ++ spaces → (EndsWith 32 ts → ⊥) → Trim (c ∷ cs) (trimmed_on c ts)
trim_on c cs [] spaces are is ends = elim (is_same c 32) [
  | inl e ↦ rw e (record { spaces = 32 ∷ spaces; are = (refl, are); is = ap (λ (ys : List ℕ). 32 ∷ ys) is; ends = λ h. nil_ends 32 h.0 h.1 })
  | inr ne ↦ rw (trimmed_one c ne) (record { spaces = spaces; are = are; is = ap (λ (ys : List ℕ). c ∷ ys) is; ends = ends_one c ne })
]
trim_on c cs (t ∷ ts) spaces are is ends = record {
  spaces = spaces;
  are = are;
  is = ap (λ (ys : List ℕ). c ∷ ys) is;
  ends = λ h. ends (ends_less c t ts h.0 h.1);
}

pub trim : (xs : List ℕ) → Trim xs (trimmed xs)
trim [] = record { spaces = []; are = tt; is = refl; ends = λ h. nil_ends 32 h.0 h.1 }
trim (c ∷ cs) = let t : Trim cs (trimmed cs) = trim cs in trim_on c cs (trimmed cs) t.spaces t.are t.is t.ends
