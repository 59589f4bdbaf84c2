-- What holds of the strings that are cut out of one list of bytes.
use Rattle.std.proofs.Common.{◌≡◌, ℕ, zero, suc, ◌+◌, ◌-◌, ◌<◌, ◌≤◌, Bool, false, ◌^◌, List, [], ◌∷◌, ◌++◌, length, take, drop, get_or, Some, slice_get, refl, ap, sym, ◌∙◌, zero-add, arith}
use Rattle.std.specs.List.{sum_by}
use Rattle.std.proofs.lemmas.List.{take-append-le, drop-append-le, length-drop, take-append-drop, length-take-le}
use Rattle.std.proofs.lemmas.List.Sums.{sum_by-append}
use Rattle.string_pool.specs.Pieces.{pieces, last_end, AreInOrder, IsSound, start_of, pool_of}
use Rattle.string_pool.specs.Pool.{empty_pool}

pub length-pieces : (bytes : List ℕ) (from : ℕ) (ends : List ℕ) → length (pieces bytes from ends) ≡ length ends
unfolding pieces
length-pieces bytes from [] = refl
length-pieces bytes from (end ∷ ends) = ap suc (length-pieces bytes end ends)

pub last_end-push : (from : ℕ) (ends : List ℕ) (end : ℕ) → last_end from (ends ++ end ∷ []) ≡ end
unfolding last_end
last_end-push from [] end = refl
last_end-push from (e ∷ ends) end = last_end-push e ends end

pub AreInOrder-push : (from : ℕ) (ends : List ℕ) (end : ℕ) → AreInOrder from ends → last_end from ends ≤ end → AreInOrder from (ends ++ end ∷ [])
unfolding AreInOrder last_end
AreInOrder-push from [] end order below = (below, tt)
AreInOrder-push from (e ∷ ends) end order below = (order.0, AreInOrder-push e ends end order.1 below)

-- no end lies beyond the last
pub last_end-above : (from : ℕ) (ends : List ℕ) → AreInOrder from ends → from ≤ last_end from ends
unfolding AreInOrder last_end
last_end-above from [] order = omega arith
last_end-above from (e ∷ ends) order = omega (arith, order.0, last_end-above e ends order.1)

-- the cut of one string doesn't see bytes behind it
cut-append : (n from : ℕ) (bytes more : List ℕ) → from ≤ n → n ≤ length bytes → take (n - from) (drop from (bytes ++ more)) ≡ take (n - from) (drop from bytes)
cut-append n from bytes more below within =
    let starts : from ≤ length bytes = omega arith in
    let fits : n - from ≤ length (drop from bytes) = omega (arith, length-drop from bytes) in
    ap (take (n - from)) (drop-append-le from bytes more starts) ∙ take-append-le (n - from) (drop from bytes) more fits

pub pieces-append : (bytes more : List ℕ) (from : ℕ) (ends : List ℕ) → AreInOrder from ends → last_end from ends ≤ length bytes → pieces (bytes ++ more) from ends ≡ pieces bytes from ends
unfolding AreInOrder last_end pieces
pieces-append bytes more from [] order within = refl
pieces-append bytes more from (e ∷ ends) order within =
    let inside : e ≤ length bytes = omega (arith, last_end-above e ends order.1) in
    let head : take (e - from) (drop from (bytes ++ more)) ≡ take (e - from) (drop from bytes) = cut-append e from bytes more order.0 inside in
    let tail : pieces (bytes ++ more) e ends ≡ pieces bytes e ends = pieces-append bytes more e ends order.1 within in
    cc

-- the bytes behind the last end may go
pub pieces-take : (bytes : List ℕ) (n from : ℕ) (ends : List ℕ) → AreInOrder from ends → last_end from ends ≤ n → n ≤ length bytes → pieces (take n bytes) from ends ≡ pieces bytes from ends
pieces-take bytes n from ends order below within =
    let front : length (take n bytes) ≡ n = length-take-le n bytes within in
    let fits : last_end from ends ≤ length (take n bytes) = omega arith in
    sym (pieces-append (take n bytes) (drop n bytes) from ends order fits) ∙ ap (λ (bs : List ℕ). pieces bs from ends) (take-append-drop n bytes)

pub pieces-push : (bytes : List ℕ) (from : ℕ) (ends : List ℕ) (end : ℕ) → pieces bytes from (ends ++ end ∷ []) ≡ pieces bytes from ends ++ take (end - last_end from ends) (drop (last_end from ends) bytes) ∷ []
unfolding pieces last_end
pieces-push bytes from [] end = refl
pieces-push bytes from (e ∷ ends) end = ap (λ (rest : List (List ℕ)). take (e - from) (drop from bytes) ∷ rest) (pieces-push bytes e ends end)

-- the strings have as many bytes as lie before the last end
pub sum-pieces : (bytes : List ℕ) (from : ℕ) (ends : List ℕ) → AreInOrder from ends → last_end from ends ≤ length bytes → from + sum_by length (pieces bytes from ends) ≡ last_end from ends
unfolding pieces last_end AreInOrder
sum-pieces bytes from [] order within = omega arith
sum-pieces bytes from (e ∷ ends) order within =
    let above : e ≤ last_end e ends = last_end-above e ends order.1 in
    let cut : length (take (e - from) (drop from bytes)) ≡ e - from = length-take-le (e - from) (drop from bytes) (omega (arith, length-drop from bytes)) in
    let rest : e + sum_by length (pieces bytes e ends) ≡ last_end e ends = sum-pieces bytes e ends order.1 within in
    let step : sum_by length (pieces bytes from (e ∷ ends)) ≡ length (take (e - from) (drop from bytes)) + sum_by length (pieces bytes e ends) =
    sum_by-append length (take (e - from) (drop from bytes) ∷ []) (pieces bytes e ends) ∙ ap (λ n. n + sum_by length (pieces bytes e ends)) (zero-add (length (take (e - from) (drop from bytes)))) in
    omega (arith, order.0)

pub pieces-get : (bytes : List ℕ) (from : ℕ) (ends : List ℕ) (k : ℕ) → k < length ends → slice_get (pieces bytes from ends) k ≡ Some (take (get_or ends k 0 - start_of from ends k) (drop (start_of from ends k) bytes))
unfolding pieces
pieces-get bytes from [] k below = absurd (omega arith)
pieces-get bytes from (e ∷ ends) zero below = refl
pieces-get bytes from (e ∷ ends) (suc zero) below = pieces-get bytes e ends zero (omega arith)
pieces-get bytes from (e ∷ ends) (suc (suc k)) below = pieces-get bytes e ends (suc k) (omega arith)

-- each string begins at or before its end, which isn't beyond the last
pub cut-in_order : (from : ℕ) (ends : List ℕ) (k : ℕ) → AreInOrder from ends → k < length ends → (start_of from ends k ≤ get_or ends k 0) × (get_or ends k 0 ≤ last_end from ends)
unfolding AreInOrder last_end
cut-in_order from [] k order below = absurd (omega arith)
cut-in_order from (e ∷ ends) zero order below = (order.0, last_end-above e ends order.1)
cut-in_order from (e ∷ ends) (suc zero) order below = cut-in_order e ends zero order.1 (omega arith)
cut-in_order from (e ∷ ends) (suc (suc k)) order below = cut-in_order e ends (suc k) order.1 (omega arith)

-- what callers see of a sound pool

pub kept_bytes_of : (bytes ends : List ℕ) (kept : ℕ) (is_open : Bool) (p n b s : ℕ) → IsSound bytes ends kept is_open p n b s → sum_by length (pieces bytes 0 ends) ≡ kept
kept_bytes_of bytes ends kept is_open p n b s sound =
    let h : last_end 0 ends ≤ length bytes = omega (arith, sound.last, sound.within) in
    omega (arith, sum-pieces bytes 0 ends sound.in_order h, sound.last)

-- the bytes behind the kept ones are the open string's
pub length-open : (bytes ends : List ℕ) (kept : ℕ) (is_open : Bool) (p n b s : ℕ) → IsSound bytes ends kept is_open p n b s → sum_by length (pieces bytes 0 ends) + length (drop kept bytes) ≡ length bytes
length-open bytes ends kept is_open p n b s sound =
    omega (arith, kept_bytes_of bytes ends kept is_open p n b s sound, length-drop kept bytes, sound.within)

pub sound_empty : (p n b s : ℕ) → p < 2 ^ 32 → n < 2 ^ 32 → p ≤ b → n ≤ s → IsSound [] [] 0 false p n b s
unfolding AreInOrder last_end
sound_empty p n b s small few bytes strings = record {
  in_order = tt;
  last = refl;
  within = omega arith;
  nothing_open = λ _. refl;
  bytes_fit = omega arith;
  strings_fit = omega arith;
  small_pool = small;
  few_strings = few;
  bytes_reserved = bytes;
  strings_reserved = strings;
}

pub empty_is : (p n : ℕ) → pool_of [] [] 0 false p n ≡ empty_pool p n
unfolding pieces
empty_is p n = refl
