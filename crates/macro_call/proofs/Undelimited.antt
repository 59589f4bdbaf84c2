-- One token more at a place without a delimiter.
use Rattle.std.proofs.Common.{◌≡◌, ℕ, zero, suc, ◌+◌, ◌-◌, ◌<◌, ◌≤◌, List, [], ◌∷◌, ◌++◌, length, take, drop, refl, sym, ap, ap₂, subst, ◌∙◌, arith, Bool, true, false, not, ◌&&◌, inl, inr}
use Rattle.std.specs.Prelude.{◌==◌, if◌then◌else◌}
use Rattle.std.proofs.lemmas.Bool.{and_parts, and_right, eq-eqb, ne_eqb, true≢false, cases_eq}
use Rattle.std.proofs.lemmas.List.{append-nil}
use Rattle.tex_defs.specs.declared.Token.{Token}
use Rattle.plain_tokens.specs.Tokens.{is_space_token}
use Rattle.plain_tokens.specs.declared.par_mode.ParMode.{ParMode}
use Rattle.plain_tokens.specs.declared.par_mode.ParMode.TheVariants.{Long}
use Rattle.plain_tokens.specs.Arguments.{is_begin, is_end, is_par, is_short, open_behind, open_after, unmatched, all_close, is_group, inner, undelimited_case, is_single, is_extra, Case, Argument, ExtraBrace, ParEnded, Skipped, Going}
use Rattle.macro_call.proofs.ArgumentTokens.{no_par_end}
use Rattle.macro_call.proofs.ArgumentGroups.{without_last_on, ends_in_brace_on}
use Rattle.macro_call.proofs.ArgumentMatches.{open_after_on, all_close_on}
use Rattle.macro_call.specs.Stages.{IsPlain, Stage, IsPlainStage, kept_in, read_in, target_at, gained, Took}
use Rattle.macro_call.specs.Tables.{IsGrownByPart}
use Rattle.macro_call.proofs.Fronts.{behind_bound}
use Rattle.macro_call.proofs.Tables.{part_last, part_to}
use Rattle.macro_call.specs.declared.present.Step.TheVariants as step

up_by : (b e : Bool) (n : ℕ) → not (e && (n == 0)) ≡ true → (if b then (n + 1) + 1 else if e then (n + 1) - 1 else n + 1) ≡ (if b then n + 1 else if e then n - 1 else n) + 1
up_by true e n h = refl
up_by false true zero h = absurd (true≢false (sym h))
up_by false true (suc n) h = omega arith
up_by false false n h = refl

up : (y : Token) (n : ℕ) → not (is_end y && (n == 0)) ≡ true → open_behind (n + 1) y ≡ open_behind n y + 1
up y n h = up_by (is_begin y) (is_end y) n h

-- behind a brace one group more is open
one_more : (l : List Token) (n : ℕ) → all_close n l ≡ true → open_after (n + 1) l ≡ open_after n l + 1
one_more [] n h = refl
one_more (y ∷ ys) n h =
    let parts : (not (is_end y && (n == 0)) ≡ true) × (all_close (open_behind n y) ys ≡ true) = and_parts (not (is_end y && (n == 0))) (all_close (open_behind n y) ys) h in
    ap (λ (k : ℕ). open_after k ys) (up y n parts.0) ∙ one_more ys (open_behind n y) parts.1

two : (b x : Token) (l : List Token) → is_single (b ∷ l ++ x ∷ []) ≡ false
two b x [] = refl
two b x (y ∷ ys) = refl

and_true : (b : Bool) → (b && true) ≡ b
and_true true = refl
and_true false = refl

and_false : (b : Bool) → (b && false) ≡ false
and_false true = refl
and_false false = refl

-- the case, once each of its tests is known
by_tests : (mode : ParMode) (b x : Token) (us : List Token) (extra par single group : Bool) → is_extra (b ∷ us) x ≡ extra → (is_short mode && is_par x) ≡ par → is_single (b ∷ us ++ x ∷ []) ≡ single → is_group (b ∷ us ++ x ∷ []) ≡ group →
    undelimited_case mode (b ∷ us) x ≡ (if extra then ExtraBrace else if par then ParEnded else if single then Argument (b ∷ us ++ x ∷ []) else if group then Argument (inner (b ∷ us ++ x ∷ [])) else Going)
by_tests mode b x us extra par single group e p s g =
    ap (λ (v : Bool). if v then ExtraBrace else if is_short mode && is_par x then ParEnded else if is_single (b ∷ us ++ x ∷ []) then Argument (b ∷ us ++ x ∷ []) else if is_group (b ∷ us ++ x ∷ []) then Argument (inner (b ∷ us ++ x ∷ [])) else Going) e
    ∙ ap (λ (v : Bool). if extra then ExtraBrace else if v then ParEnded else if is_single (b ∷ us ++ x ∷ []) then Argument (b ∷ us ++ x ∷ []) else if is_group (b ∷ us ++ x ∷ []) then Argument (inner (b ∷ us ++ x ∷ [])) else Going) p
    ∙ ap (λ (v : Bool). if extra then ExtraBrace else if par then ParEnded else if v then Argument (b ∷ us ++ x ∷ []) else if is_group (b ∷ us ++ x ∷ []) then Argument (inner (b ∷ us ++ x ∷ [])) else Going) s
    ∙ ap (λ (v : Bool). if extra then ExtraBrace else if par then ParEnded else if single then Argument (b ∷ us ++ x ∷ []) else if v then Argument (inner (b ∷ us ++ x ∷ [])) else Going) g

-- in a group, where the first token is its brace
module _ (mode : ParMode) (b x : Token) (us : List Token) (depth : ℕ) (at : IsPlain (b ∷ us) depth) where
  opens : open_after 0 (b ∷ us) ≡ depth
  opens = let h : is_begin b ≡ true = at.0 in rw h (one_more us 0 at.1 ∙ at.2)

  no_extra : is_extra (b ∷ us) x ≡ false
  no_extra = and_right (is_end x) (open_after 0 (b ∷ us) == 0) (ne_eqb (open_after 0 (b ∷ us)) 0 (λ e. omega (arith, opens, at.2)))

  -- whether x closes the group
  group_if : is_group (b ∷ us ++ x ∷ []) ≡ (is_end x && (open_after 0 us == 0))
  group_if =
      let h : is_begin b ≡ true = at.0 in
      let c : all_close 0 us ≡ true = at.1 in
      rw (h, ends_in_brace_on us x, without_last_on us x, c) refl

  closing : ((depth == 1) && is_end x) ≡ (is_end x && (open_after 0 us == 0))
  closing = elim (cases_eq depth 1) [
    | inl e ↦ let z : (open_after 0 us == 0) ≡ true = eq-eqb (open_after 0 us) 0 (omega (arith, at.2)) in let o : (depth == 1) ≡ true = eq-eqb depth 1 e in rw (z, o) (sym (and_true (is_end x)))
    | inr n ↦ let z : (open_after 0 us == 0) ≡ false = ne_eqb (open_after 0 us) 0 (λ q. n (omega (arith, at.2))) in let o : (depth == 1) ≡ false = ne_eqb depth 1 n in rw (z, o) (sym (and_false (is_end x)))
  ]

  closes_in : depth ≡ 1 → is_end x ≡ true → Argument us ≡ undelimited_case mode (b ∷ us) x
  closes_in one e =
      let p : is_par x ≡ false = no_par_end x e in
      let s : (is_short mode && is_par x) ≡ false = and_right (is_short mode) (is_par x) p in
      let o : (depth == 1) ≡ true = eq-eqb depth 1 one in
      let h : ((depth == 1) && is_end x) ≡ true = rw (o, e) refl in
      let g : is_group (b ∷ us ++ x ∷ []) ≡ true = group_if ∙ sym closing ∙ h in
      ap Argument (sym (without_last_on us x)) ∙ sym (by_tests mode b x us false false false true no_extra s (two b x us) g)

  ends_in : (is_short mode && is_par x) ≡ true → ParEnded ≡ undelimited_case mode (b ∷ us) x
  ends_in s = sym (by_tests mode b x us false true false (is_group (b ∷ us ++ x ∷ [])) no_extra s (two b x us) refl)

  goes_in : (is_short mode && is_par x) ≡ false → ((depth == 1) && is_end x) ≡ false → Going ≡ undelimited_case mode (b ∷ us) x
  goes_in s h = sym (by_tests mode b x us false false false false no_extra s (two b x us) (group_if ∙ sym closing ∙ h))

  pushed_in : ((depth == 1) && is_end x) ≡ false → IsPlain (b ∷ us ++ x ∷ []) (open_behind depth x)
  pushed_in h =
      let q : (is_end x && (open_after 0 us == 0)) ≡ false = sym closing ∙ h in
      let v : not (is_end x && (open_after 0 us == 0)) ≡ true = ap not q in
      (at.0, all_close_on 0 us x at.1 q, ap (λ (k : ℕ). k + 1) (open_after_on 0 us x) ∙ sym (up x (open_after 0 us) v) ∙ ap (λ (k : ℕ). open_behind k x) at.2)

-- the same of any list
pub plain_closes : (mode : ParMode) (list : List Token) (depth : ℕ) (x : Token) → IsPlain list depth → depth ≡ 1 → is_end x ≡ true → Argument (drop 1 list) ≡ undelimited_case mode list x
plain_closes mode [] depth x at one e = absurd (omega (arith, at))
plain_closes mode (b ∷ us) depth x at one e = closes_in mode b x us depth at one e

pub plain_ends : (mode : ParMode) (list : List Token) (depth : ℕ) (x : Token) → IsPlain list depth → 0 < depth → (is_short mode && is_par x) ≡ true → ParEnded ≡ undelimited_case mode list x
plain_ends mode [] depth x at l s = absurd (omega (arith, at))
plain_ends mode (b ∷ us) depth x at l s = ends_in mode b x us depth at s

pub plain_goes : (mode : ParMode) (list : List Token) (depth : ℕ) (x : Token) → IsPlain list depth → 0 < depth → (is_short mode && is_par x) ≡ false → ((depth == 1) && is_end x) ≡ false → Going ≡ undelimited_case mode list x
plain_goes mode [] depth x at l s h = absurd (omega (arith, at))
plain_goes mode (b ∷ us) depth x at l s h = goes_in mode b x us depth at s h

pub plain_on : (list : List Token) (depth : ℕ) (x : Token) → IsPlain list depth → 0 < depth → ((depth == 1) && is_end x) ≡ false → IsPlain (list ++ x ∷ []) (open_behind depth x)
plain_on [] depth x at l h = absurd (omega (arith, at))
plain_on (b ∷ us) depth x at l h = pushed_in Long b x us depth at h

pub plain_some : (list : List Token) (depth : ℕ) → IsPlain list depth → 0 < depth → 0 < length list
plain_some [] depth at l = absurd (omega (arith, at))
plain_some (b ∷ us) depth at l = omega arith

pub plain_none : (list : List Token) (depth : ℕ) → IsPlain list depth → depth ≡ 0 → list ≡ []
plain_none [] depth at z = refl
plain_none (b ∷ us) depth at z = absurd (omega (arith, at.2))

-- outside all groups
module _ (mode : ParMode) (x : Token) where
  pub first_extra : is_end x ≡ true → ExtraBrace ≡ undelimited_case mode [] x
  first_extra e = sym (rw e refl)

  pub first_ends : is_end x ≡ false → (is_short mode && is_par x) ≡ true → ParEnded ≡ undelimited_case mode [] x
  first_ends e s = sym (rw (e, s) refl)

  pub first_skips : is_end x ≡ false → (is_short mode && is_par x) ≡ false → is_space_token x ≡ true → Skipped ≡ undelimited_case mode [] x
  first_skips e s b = sym (rw (e, s, b) refl)

  pub first_begins : is_end x ≡ false → (is_short mode && is_par x) ≡ false → is_space_token x ≡ false → is_begin x ≡ true → Going ≡ undelimited_case mode [] x
  first_begins e s b g = sym (rw (e, s, b, g) refl)

  pub first_single : is_end x ≡ false → (is_short mode && is_par x) ≡ false → is_space_token x ≡ false → is_begin x ≡ false → Argument (x ∷ []) ≡ undelimited_case mode [] x
  first_single e s b g = sym (rw (e, s, b, g) refl)

pub plain_begins : (x : Token) → is_begin x ≡ true → IsPlain (x ∷ []) 1
plain_begins x g = (g, refl, refl)

-- the stage
pub plain_kept : (s : Stage) → IsPlainStage s → kept_in s ≡ []
plain_kept s h = ap (λ (k : ℕ). take k s.list) h.0

pub plain_read : (s : Stage) → IsPlainStage s → read_in [] s ≡ s.list
plain_read s h = ap (λ (k : ℕ). drop k s.list ++ take s.matched []) h.0 ∙ ap (λ (k : ℕ). s.list ++ take k []) h.1 ∙ append-nil s.list

module _ (old new : Stage) (x : Token) (met : Case) (stands : IsPlainStage old) where
  pub took_argument : (value : List Token) → new.list ≡ value → Argument value ≡ met → Took [] old x step.Argument new met
  took_argument value e c = record { met = ap Argument e ∙ c; goes_on = tt }

  pub took_end : new.list ≡ old.list → ParEnded ≡ met → Took [] old x step.ParEnded new met
  took_end e c = record { met = c; goes_on = e ∙ sym (plain_read old stands) ∙ sym (ap (λ (l : List Token). l ++ read_in [] old) (plain_kept old stands)) }

  pub took_space : new ≡ old → Skipped ≡ met → Took [] old x step.Skipped new met
  took_space e c = record { met = c; goes_on = (ap kept_in e, ap (read_in []) e, subst IsPlainStage (sym e) stands) }

  pub took_extra : new ≡ old → old.list ≡ [] → ExtraBrace ≡ met → Took [] old x step.ExtraBrace new met
  took_extra e z c = record {
    met = c;
    goes_on = (
      ap kept_in e ∙ plain_kept old stands ∙ sym (ap (λ (l : List Token). l ++ read_in [] old) (plain_kept old stands) ∙ plain_read old stands ∙ z),
      ap (read_in []) e ∙ plain_read old stands ∙ z,
      subst IsPlainStage (sym e) stands,
    );
  }

  pub took_more : new.list ≡ old.list ++ x ∷ [] → new.from ≡ old.from → new.matched ≡ old.matched → IsPlain new.list new.depth → Going ≡ met → Took [] old x step.Going new met
  took_more e f m p c =
      let s : IsPlainStage new = (f ∙ stands.0, m ∙ stands.1, p) in
      record {
        met = c;
        goes_on = (
          plain_kept new s ∙ sym (plain_kept old stands),
          plain_read new s ∙ e ∙ ap (λ (l : List Token). l ++ x ∷ []) (sym (plain_read old stands)),
          s,
        );
      }

-- a match of nothing holds nothing back
pub unmatched_nil : (n : ℕ) (t : List Token) → unmatched [] n t ≡ t
unmatched_nil n [] = refl
unmatched_nil n (x ∷ xs) = let e : ((n == 0) && false) ≡ false = and_false (n == 0) in rw e (ap (λ (ys : List Token). x ∷ ys) (unmatched_nil (open_behind n x) xs))

-- Where the memory is full the list in work is as it was, and the token should have gone into it.
module _ (s : Stage) (x : Token) (now : List Token) (stands : IsPlainStage s) (same : now ≡ s.list) where
  by_token : (met : Case) → target_at [] (kept_in s) (read_in [] s) x met ≡ s.list ++ x ∷ [] → IsGrownByPart s.list now (gained [] s x met)
  by_token met e = part_to s.list now (x ∷ []) (target_at [] (kept_in s) (read_in [] s) x met) e (part_last s.list now [] x (same ∙ sym (append-nil s.list)))

  pub cut_going : (met : Case) → Going ≡ met → IsGrownByPart s.list now (gained [] s x met)
  cut_going met is = subst (λ (c : Case). IsGrownByPart s.list now (gained [] s x c)) is
      (by_token Going (ap₂ (λ (k t : List Token). k ++ unmatched [] 0 (t ++ x ∷ [])) (plain_kept s stands) (plain_read s stands) ∙ unmatched_nil 0 (s.list ++ x ∷ [])))

pub plain_by : (list list' : List Token) (depth depth' : ℕ) → IsPlain list depth → list' ≡ list → depth' ≡ depth → IsPlain list' depth'
plain_by list list' depth depth' at l d = subst (λ (n : ℕ). IsPlain list' n) (sym d) (subst (λ (ts : List Token). IsPlain ts depth) (sym l) at)

pub depth_bound : (list : List Token) (depth : ℕ) → IsPlain list depth → depth ≤ length list
depth_bound [] depth at = omega arith
depth_bound (b ∷ us) depth at = omega (arith, at.2, open_bound us 0)
  where
    open_bound : (l : List Token) (n : ℕ) → open_after n l ≤ n + length l
    open_bound [] n = omega arith
    open_bound (y ∷ ys) n = omega (arith, open_bound ys (open_behind n y), behind_bound n y)

pub not_first : (a b : Bool) → a ≡ false → (a && b) ≡ false
not_first a b h = rw h refl

pub not_second : (a b : Bool) → b ≡ false → (a && b) ≡ false
not_second a b h = and_right a b h

pub both : (a b : Bool) → a ≡ true → b ≡ true → (a && b) ≡ true
both a b h k = rw (h, k) refl
