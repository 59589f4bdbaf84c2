-- One token more at a place with a delimiter.
use Rattle.std.proofs.Common.{zero, suc, ◌≡◌, ℕ, ◌+◌, ◌-◌, ◌<◌, ◌≤◌, List, [], ◌∷◌, ◌++◌, length, take, drop, refl, sym, ap, ◌∙◌, arith, Bool, true, false, ◌&&◌, append_assoc, length-append, length-drop}
use Rattle.std.specs.Prelude.{◌==◌}
use Rattle.std.proofs.lemmas.Bool.{and_parts, and_from, eq-eqb, eqb-true, false_from_ne_true}
use Rattle.std.proofs.lemmas.List.{take-append-drop, append-nil, length-take-le, take_all, take_at}
use Rattle.tex_defs.specs.declared.Token.{Token}
use Rattle.plain_tokens.specs.declared.par_mode.ParMode.{ParMode}
use Rattle.plain_tokens.specs.Arguments.{is_end, is_par, is_short, open_behind, open_after, all_close, is_balanced, is_prefix, is_nil, partial, unmatched, front, is_delimited, is_extra, ends_par, delimited_case, without_braces, Argument, ExtraBrace, ParEnded, Going}
use Rattle.macro_call.proofs.ArgumentMatches.{partial_on, unmatched_on, front_is_take, is_match, begins_outside, open_after_on, all_close_on, all_close_front, delimited_is, is_delimited_by, partial_of}
use Rattle.macro_call.specs.Stages.{IsAt, Stage, IsDelimitedStage, IsStage}

pub at_begin : (ds : List Token) → 0 < length ds → IsAt ds [] 0 0
at_begin ds some = record { fits = some; rest = refl; part = refl; closes = refl; opens = refl }

module _ (ds list : List Token) (m depth : ℕ) (at : IsAt ds list m depth) where
  count : length (take m ds) ≡ m
  count = length-take-le m ds (omega (arith, at.fits))

  begins : 0 < m → open_after 0 list ≡ 0
  begins h =
      let l : length (partial ds 0 (list ++ take m ds)) ≡ m = ap length at.part ∙ count in
      ap (open_after 0) (sym at.rest) ∙ begins_outside ds 0 (list ++ take m ds) (omega (arith, l))

  flat : m ≡ 0 → open_after 0 list ≡ depth
  flat z =
      let e : list ++ take m ds ≡ list = ap (λ (k : ℕ). list ++ take k ds) z ∙ append-nil list in
      ap (open_after 0) (sym e) ∙ at.opens

  -- the groups that are open in front of the match
  pub before_is : (n : ℕ) → (0 < m → n ≡ 0) → (m ≡ 0 → n ≡ depth) → open_after 0 list ≡ n
  before_is n a b = by m refl
    where
      by : (k : ℕ) → m ≡ k → open_after 0 list ≡ n
      by zero e = flat e ∙ sym (b e)
      by (suc k) e = begins (omega arith) ∙ sym (a (omega arith))

module _ (ds list : List Token) (m depth : ℕ) (x : Token) (at : IsAt ds list m depth) (n i : ℕ) (before : open_after 0 list ≡ n) (within : i ≤ m + 1)
    (matches : partial ds n (take m ds ++ x ∷ []) ≡ drop i (take m ds ++ x ∷ [])) (leaves : unmatched ds n (take m ds ++ x ∷ []) ≡ take i (take m ds ++ x ∷ [])) where
  new_part : partial ds 0 ((list ++ take m ds) ++ x ∷ []) ≡ drop i (take m ds ++ x ∷ [])
  new_part = partial_on ds 0 (list ++ take m ds) x ∙ ap (λ (l : List Token). partial ds (open_after 0 l) (partial ds 0 (list ++ take m ds) ++ x ∷ [])) at.rest
      ∙ ap (λ (p : List Token). partial ds (open_after 0 list) (p ++ x ∷ [])) at.part ∙ ap (λ (k : ℕ). partial ds k (take m ds ++ x ∷ [])) before ∙ matches

  pub new_rest : unmatched ds 0 ((list ++ take m ds) ++ x ∷ []) ≡ list ++ take i (take m ds ++ x ∷ [])
  new_rest = unmatched_on ds 0 (list ++ take m ds) x ∙ ap (λ (l : List Token). l ++ unmatched ds (open_after 0 l) (partial ds 0 (list ++ take m ds) ++ x ∷ [])) at.rest
      ∙ ap (λ (p : List Token). list ++ unmatched ds (open_after 0 list) (p ++ x ∷ [])) at.part ∙ ap (λ (k : ℕ). list ++ unmatched ds k (take m ds ++ x ∷ [])) before ∙ ap (λ (l : List Token). list ++ l) leaves

  whole_length : length (take m ds ++ x ∷ []) ≡ m + 1
  whole_length = length-append (take m ds) (x ∷ []) ∙ omega (arith, count ds list m depth at)

  left_length : length (drop i (take m ds ++ x ∷ [])) ≡ m + 1 - i
  left_length = omega (arith, length-drop i (take m ds ++ x ∷ []), whole_length)

  pub new_match : take (m + 1 - i) ds ≡ drop i (take m ds ++ x ∷ [])
  new_match = front_is_take ds (drop i (take m ds ++ x ∷ [])) (m + 1 - i) (ap (λ (p : List Token). is_prefix p ds) (sym new_part) ∙ is_match ds 0 ((list ++ take m ds) ++ x ∷ [])) left_length

  pub new_whole : (list ++ take i (take m ds ++ x ∷ [])) ++ take (m + 1 - i) ds ≡ (list ++ take m ds) ++ x ∷ []
  new_whole = ap (λ (p : List Token). (list ++ take i (take m ds ++ x ∷ [])) ++ p) new_match ∙ append_assoc list (take i (take m ds ++ x ∷ [])) (drop i (take m ds ++ x ∷ []))
      ∙ ap (λ (l : List Token). list ++ l) (take-append-drop i (take m ds ++ x ∷ [])) ∙ sym (append_assoc list (take m ds) (x ∷ []))

  -- the delimiter is whole
  pub met_argument : (mode : ParMode) (kept : List Token) → i ≡ 0 → m + 1 ≡ length ds → Argument (without_braces (kept ++ list)) ≡ delimited_case ds mode kept (list ++ take m ds) x
  met_argument mode kept z e =
      let k : m + 1 - i ≡ length ds = omega arith in
      let whole : (list ++ take m ds) ++ x ∷ [] ≡ list ++ ds =
      sym new_whole ∙ ap (λ (j : ℕ). (list ++ take j (take m ds ++ x ∷ [])) ++ take (m + 1 - i) ds) z ∙ ap (λ (l : List Token). l ++ take (m + 1 - i) ds) (append-nil list)
      ∙ ap (λ (j : ℕ). list ++ take j ds) k ∙ ap (λ (l : List Token). list ++ l) (take_all (length ds) ds (omega arith)) in
      let part : partial ds 0 ((list ++ take m ds) ++ x ∷ []) ≡ ds = new_part ∙ sym new_match ∙ ap (λ (j : ℕ). take j ds) k ∙ take_all (length ds) ds (omega arith) in
      let rest : unmatched ds 0 ((list ++ take m ds) ++ x ∷ []) ≡ list = new_rest ∙ ap (λ (j : ℕ). list ++ take j (take m ds ++ x ∷ [])) z ∙ append-nil list in
      let long : 0 < length (partial ds 0 ((list ++ take m ds) ++ x ∷ [])) = omega (arith, ap length part) in
      let o : open_after 0 list ≡ 0 = ap (open_after 0) (sym rest) ∙ begins_outside ds 0 ((list ++ take m ds) ++ x ∷ []) long in
      let c : all_close 0 list ≡ true = all_close_front 0 list (take m ds) at.closes in
      let balanced : is_balanced list ≡ true = and_from (all_close 0 list) (open_after 0 list == 0) c (eq-eqb (open_after 0 list) 0 o) in
      let yes : is_delimited ds ((list ++ take m ds) ++ x ∷ []) ≡ true = is_delimited_by ds ((list ++ take m ds) ++ x ∷ []) list whole balanced in
      let f : front ds ((list ++ take m ds) ++ x ∷ []) ≡ list = ap (front ds) whole ∙ take_at list ds (length (list ++ ds) - length ds) (omega (arith, length-append list ds)) in
      sym (rw (yes, f) refl)

  -- it isn't
  module _ (open_yet : m + 1 - i < length ds) where
    no_argument : is_delimited ds ((list ++ take m ds) ++ x ∷ []) ≡ false
    no_argument = false_from_ne_true (is_delimited ds ((list ++ take m ds) ++ x ∷ [])) (λ h.
        let (a, p, q) = delimited_is ds ((list ++ take m ds) ++ x ∷ []) h in
        let o : open_after 0 a ≡ 0 = balanced_opens a q in
        let e : partial ds 0 ((list ++ take m ds) ++ x ∷ []) ≡ ds = ap (partial ds 0) p ∙ partial_of ds 0 a o in
        omega (arith, ap length (sym new_part ∙ e), left_length))
      where
        balanced_opens : (a : List Token) → is_balanced a ≡ true → open_after 0 a ≡ 0
        balanced_opens a q = eqb-true (open_after 0 a) 0 (and_parts (all_close 0 a) (open_after 0 a == 0) q).1

    pub met_extra : (mode : ParMode) (kept : List Token) → is_end x ≡ true → depth ≡ 0 → ExtraBrace ≡ delimited_case ds mode kept (list ++ take m ds) x
    met_extra mode kept e z =
        let n : is_delimited ds ((list ++ take m ds) ++ x ∷ []) ≡ false = no_argument in
        let o : (open_after 0 (list ++ take m ds) == 0) ≡ true = eq-eqb (open_after 0 (list ++ take m ds)) 0 (at.opens ∙ z) in
        sym (rw (n, e, o) refl)

    module _ (inside : (is_end x && (depth == 0)) ≡ false) where
      not_extra : is_extra (list ++ take m ds) x ≡ false
      not_extra = ap (λ (k : ℕ). is_end x && (k == 0)) at.opens ∙ inside

      pub met_par : (mode : ParMode) (kept : List Token) → i ≡ m + 1 → (is_short mode && is_par x) ≡ true → ParEnded ≡ delimited_case ds mode kept (list ++ take m ds) x
      met_par mode kept a p =
          let n : is_delimited ds ((list ++ take m ds) ++ x ∷ []) ≡ false = no_argument in
          let e : is_extra (list ++ take m ds) x ≡ false = not_extra in
          let z : partial ds 0 ((list ++ take m ds) ++ x ∷ []) ≡ [] = new_part ∙ none (drop i (take m ds ++ x ∷ [])) (omega (arith, left_length)) in
          sym (rw (n, e, p, z) refl)
        where
          none : (l : List Token) → length l ≡ 0 → l ≡ []
          none [] h = refl
          none (y ∷ ys) h = absurd (omega arith)

      pub met_going : (mode : ParMode) (kept : List Token) → (i ≡ m + 1 → (is_short mode && is_par x) ≡ false) → Going ≡ delimited_case ds mode kept (list ++ take m ds) x
      met_going mode kept p =
          let n : is_delimited ds ((list ++ take m ds) ++ x ∷ []) ≡ false = no_argument in
          let e : is_extra (list ++ take m ds) x ≡ false = not_extra in
          let z : ends_par mode ds (list ++ take m ds) x ≡ false = ap (λ (l : List Token). (is_short mode && is_par x) && is_nil l) new_part ∙ by (drop i (take m ds ++ x ∷ [])) refl in
          sym (rw (n, e, z) refl)
        where
          both : (b : Bool) → (b && false) ≡ false
          both true = refl
          both false = refl

          first : (b c : Bool) → b ≡ false → (b && c) ≡ false
          first b c h = rw h refl

          by : (l : List Token) → drop i (take m ds ++ x ∷ []) ≡ l → ((is_short mode && is_par x) && is_nil l) ≡ false
          by [] h = first (is_short mode && is_par x) true (p (omega (arith, ap length h, left_length)))
          by (y ∷ ys) h = both (is_short mode && is_par x)

      pub at_on : IsAt ds (list ++ take i (take m ds ++ x ∷ [])) (m + 1 - i) (open_behind depth x)
      at_on =
          let e : (is_end x && (open_after 0 (list ++ take m ds) == 0)) ≡ false = not_extra in
          record {
            fits = open_yet;
            rest = ap (unmatched ds 0) new_whole ∙ new_rest;
            part = ap (partial ds 0) new_whole ∙ new_part ∙ sym new_match;
            closes = ap (all_close 0) new_whole ∙ all_close_on 0 (list ++ take m ds) x at.closes e;
            opens = ap (open_after 0) new_whole ∙ open_after_on 0 (list ++ take m ds) x ∙ ap (λ (k : ℕ). open_behind k x) at.opens;
          }

pub stands_from : (ds : List Token) (s : Stage) → 0 < length ds → IsDelimitedStage ds s → IsStage ds s
stands_from [] s h at = absurd (omega arith)
stands_from (d ∷ ds) s h at = at

pub stands_at : (ds : List Token) (s : Stage) → 0 < length ds → IsStage ds s → IsDelimitedStage ds s
stands_at [] s h at = absurd (omega arith)
stands_at (d ∷ ds) s h at = at
