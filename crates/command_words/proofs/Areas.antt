-- What stands behind the area of a file's name, and in front of its first `.`, character by character.
use Rattle.std.proofs.Common.{◌≡◌, ℕ, ◌+◌, ◌<◌, List, [], ◌∷◌, ◌++◌, refl, ap, sym, Bool, true, false, take, drop, length, get_or, ◌∙◌}
use Rattle.std.specs.Prelude.{◌==◌, ◌||◌, if◌then◌else◌}
use Rattle.std.specs.List.{list_any}
use Rattle.std.proofs.lemmas.List.{append-nil, append_assoc, drop_more, take_more}
use Rattle.command_words.specs.Words.{has, behind_area, before_dot}

-- behind the area, where these characters are left, and `behind` stands behind the last `/` before them
abbrev pub area_left : List ℕ → List ℕ → List ℕ
area_left behind xs = if has 47 xs then behind_area xs else behind

by_tests : (slash slashes : Bool) (behind x y z : List ℕ) →
    (if (if slash then true else slashes) then (if slashes then x else (if slash then y else z)) else behind) ≡ (if slashes then x else (if slash then y else behind))
by_tests true true behind x y z = refl
by_tests true false behind x y z = refl
by_tests false true behind x y z = refl
by_tests false false behind x y z = refl

pub area_on : (behind : List ℕ) (c : ℕ) (cs : List ℕ) → area_left behind (c ∷ cs) ≡ area_left (if c == 47 then cs else behind) cs
area_on behind c cs = by_tests (c == 47) (has 47 cs) behind (behind_area cs) cs (c ∷ cs)

-- a name without a `/` is behind its area
no_area : (xs : List ℕ) (b : Bool) → has 47 xs ≡ b → (if b then behind_area xs else xs) ≡ behind_area xs
no_area xs true e = refl
no_area [] false e = refl
no_area (c ∷ cs) false e = in_front (c == 47) (has 47 cs) e where
  in_front : (slash slashes : Bool) → (if slash then true else slashes) ≡ false → c ∷ cs ≡ (if slashes then behind_area cs else (if slash then cs else c ∷ cs))
  in_front true slashes h = cc
  in_front false true h = cc
  in_front false false h = refl

pub area_whole : (xs : List ℕ) → area_left xs xs ≡ behind_area xs
area_whole xs = no_area xs (has 47 xs) refl

-- `has` is std's test of the elements
has_step : (b r s : Bool) → r ≡ s → (if b then true else r) ≡ (b || s)
has_step true r s e = refl
has_step false r s e = e

pub has_any : (c : ℕ) (xs : List ℕ) → has c xs ≡ list_any (λ x. x == c) xs
has_any c [] = refl
has_any c (d ∷ ds) = has_step (d == c) _ _ (has_any c ds)

-- the first characters of a name, and behind them those before the first `.` of the others
abbrev pub dot_left : List ℕ → ℕ → List ℕ
dot_left xs i = take i xs ++ before_dot (drop i xs)

-- a `.` ends the name, another character belongs to it
pub dot_here : (xs : List ℕ) (i : ℕ) → i < length xs → get_or xs i 0 ≡ 46 → dot_left xs i ≡ take i xs
dot_here xs i inside dot =
    ap (λ (ys : List ℕ). take i xs ++ before_dot ys) (drop_more xs i 0 inside) ∙ (rw dot (append-nil (take i xs)))

pub dot_on : (xs : List ℕ) (i : ℕ) → i < length xs → (get_or xs i 0 == 46) ≡ false → dot_left xs i ≡ dot_left xs (i + 1)
dot_on xs i inside other =
    ap (λ (ys : List ℕ). take i xs ++ before_dot ys) (drop_more xs i 0 inside)
    ∙ (rw other (sym (ap (λ (ys : List ℕ). ys ++ before_dot (drop (i + 1) xs)) (take_more xs i 0 inside) ∙ append_assoc (take i xs) _ _)))
