-- What a token comes to at a place with a delimiter.
use Rattle.std.proofs.Common.{zero, suc, inl, inr, ◌⊎◌, Bool, ◌≡◌, ℕ, ◌+◌, ◌-◌, ◌<◌, ◌≤◌, List, [], ◌∷◌, ◌++◌, length, take, drop, refl, sym, ap, subst, ◌∙◌, arith, true, false, ◌&&◌, append_assoc, length-append, length-drop}
use Rattle.std.specs.Prelude.{◌==◌, IsTrue, ◌↔◌}
use Rattle.std.proofs.lemmas.Bool.{cases_lt, true≢false}
use Rattle.std.proofs.lemmas.List.{take-append-drop, append-nil, take-append-le, drop-append-le, take_all, drop_all, length-take-le}
use Rattle.tex_defs.specs.declared.Token.{Token}
use Rattle.plain_tokens.specs.declared.par_mode.ParMode.{ParMode}
use Rattle.plain_tokens.specs.Arguments.{is_end, is_par, is_short, open_behind, open_after, partial, unmatched, in_work, delimited_case, without_braces, Case, Argument, ExtraBrace, ParEnded, Going}
use Rattle.macro_call.specs.Stages.{IsAt, Stage, IsDelimitedStage, Took, Releases, kept_in, read_in, target_at, gained}
use Rattle.macro_call.specs.Tables.{IsGrownByPart}
use Rattle.macro_call.specs.declared.present.Step.TheVariants as step
use Rattle.macro_call.proofs.Fronts.{behind_bound}
use Rattle.macro_call.proofs.Tables.{take_front, part_more, part_last, part_to}
use Rattle.macro_call.proofs.Delimited.{at_begin, before_is, met_argument, met_extra, met_par, met_going, at_on, new_rest, new_whole, stands_from}

open_bound : (l : List Token) (n : ℕ) → open_after n l ≤ n + length l
open_bound [] n = omega arith
open_bound (y ∷ ys) n = omega (arith, open_bound ys (open_behind n y), behind_bound n y)

-- no more groups are open than tokens were read
pub depth_within : (ds : List Token) (s : Stage) → IsDelimitedStage ds s → s.depth ≤ length s.list + s.matched
depth_within ds s at =
    omega (arith, open_bound (drop s.from s.list ++ take s.matched ds) 0, at.1.opens, length-append (drop s.from s.list) (take s.matched ds), length-drop s.from s.list, length-take-le s.matched ds (omega (arith, at.1.fits)))

pub released_by : (ds : List Token) (s : Stage) (x : Token) (n out : ℕ) → IsDelimitedStage ds s → (0 < s.matched → n ≡ 0) → (s.matched ≡ 0 → n ≡ s.depth) → out ≤ s.matched + 1 →
    partial ds n (take s.matched ds ++ x ∷ []) ≡ drop out (take s.matched ds ++ x ∷ []) →
    unmatched ds n (take s.matched ds ++ x ∷ []) ≡ take out (take s.matched ds ++ x ∷ []) → Releases ds s x out
released_by ds s x n out at a b within part rest = record { depth = n; before = before_is ds (drop s.from s.list) s.matched s.depth at.1 n a b; within = within; part = part; rest = rest }

at_by : (ds list now : List Token) (m k d e : ℕ) → now ≡ list → k ≡ m → e ≡ d → IsAt ds list m d → IsAt ds now k e
at_by ds list now m k d e l p q at =
    subst (λ (ts : List Token). IsAt ds ts k e) (sym l) (subst (λ (n : ℕ). IsAt ds list n e) (sym p) (subst (λ (n : ℕ). IsAt ds list m n) (sym q) at))

-- the list is what was kept and what was read since
list_whole : (s : Stage) → kept_in s ++ drop s.from s.list ≡ s.list
list_whole s = take-append-drop s.from s.list

-- with the matched tokens it is all that was read
all_kept : (ds : List Token) (s : Stage) → s.list ++ take s.matched ds ≡ kept_in s ++ read_in ds s
all_kept ds s = ap (λ (ts : List Token). ts ++ take s.matched ds) (sym (list_whole s)) ∙ append_assoc (kept_in s) (drop s.from s.list) (take s.matched ds)

module _ (ds : List Token) (old new : Stage) (x : Token) (mode : ParMode) (out : ℕ) (at : IsDelimitedStage ds old) (rel : Releases ds old x out) where
  pub took_whole : new.list ≡ without_braces old.list → out ≡ 0 → old.matched + 1 ≡ length ds → Took ds old x step.Argument new (delimited_case ds mode (kept_in old) (read_in ds old) x)
  took_whole e z l = record {
    met = ap Argument e ∙ ap (λ (ts : List Token). Argument (without_braces ts)) (sym (list_whole old))
        ∙ met_argument ds (drop old.from old.list) old.matched old.depth x at.1 rel.depth out rel.before rel.within rel.part rel.rest mode (kept_in old) z l;
    goes_on = tt;
  }

  module _ (open_yet : old.matched + 1 < length ds + out) where
    short : old.matched + 1 - out < length ds
    short = omega (arith, at.1.fits)

    some : 0 < length ds
    some = omega (arith, at.1.fits)

    pub took_brace : new.list ≡ old.list ++ take old.matched ds → new.from ≡ length new.list → new.matched ≡ 0 → new.depth ≡ old.depth → is_end x ≡ true → old.depth ≡ 0 →
        Took ds old x step.ExtraBrace new (delimited_case ds mode (kept_in old) (read_in ds old) x)
    took_brace l f m d e z =
        let nothing : drop new.from new.list ≡ [] = drop_all new.from new.list (omega (arith, f)) in
        record {
          met = met_extra ds (drop old.from old.list) old.matched old.depth x at.1 rel.depth out rel.before rel.within rel.part rel.rest short mode (kept_in old) e z;
          goes_on = (
            take_all new.from new.list (omega (arith, f)) ∙ l ∙ all_kept ds old,
            ap (λ (k : ℕ). drop new.from new.list ++ take k ds) m ∙ append-nil (drop new.from new.list) ∙ nothing,
            stands_from ds new some (omega (arith, f), at_by ds [] (drop new.from new.list) 0 new.matched 0 new.depth nothing m (d ∙ z) (at_begin ds some)),
          );
        }

    module _ (inside : (is_end x && (old.depth == 0)) ≡ false) where
      pub took_par : new.list ≡ old.list ++ take old.matched ds → out ≡ old.matched + 1 → (is_short mode && is_par x) ≡ true →
          Took ds old x step.ParEnded new (delimited_case ds mode (kept_in old) (read_in ds old) x)
      took_par l o p = record {
        met = met_par ds (drop old.from old.list) old.matched old.depth x at.1 rel.depth out rel.before rel.within rel.part rel.rest short inside mode (kept_in old) o p;
        goes_on = l ∙ all_kept ds old;
      }

      pub took_on : new.list ≡ old.list ++ take out (take old.matched ds ++ x ∷ []) → new.from ≡ old.from → new.matched ≡ old.matched + 1 - out → new.depth ≡ open_behind old.depth x →
          (out ≡ old.matched + 1 → (is_short mode && is_par x) ≡ false) → Took ds old x step.Going new (delimited_case ds mode (kept_in old) (read_in ds old) x)
      took_on l f m d p =
          let u : List Token = take out (take old.matched ds ++ x ∷ []) in
          let left : drop new.from new.list ≡ drop old.from old.list ++ u = ap (λ (k : ℕ). drop k new.list) f ∙ ap (drop old.from) l ∙ drop-append-le old.from old.list u at.0 in
          let here : take new.from new.list ≡ take old.from old.list = ap (λ (k : ℕ). take k new.list) f ∙ ap (take old.from) l ∙ take-append-le old.from old.list u at.0 in
          record {
            met = met_going ds (drop old.from old.list) old.matched old.depth x at.1 rel.depth out rel.before rel.within rel.part rel.rest short inside mode (kept_in old) p;
            goes_on = (
              here,
              ap (λ (ts : List Token). ts ++ take new.matched ds) left ∙ ap (λ (k : ℕ). (drop old.from old.list ++ u) ++ take k ds) m
                  ∙ new_whole ds (drop old.from old.list) old.matched old.depth x at.1 rel.depth out rel.before rel.within rel.part rel.rest,
              stands_from ds new some (
                omega (arith, f, ap length l, length-append old.list u, at.0),
                at_by ds (drop old.from old.list ++ u) (drop new.from new.list) (old.matched + 1 - out) new.matched (open_behind old.depth x) new.depth left m d
                    (at_on ds (drop old.from old.list) old.matched old.depth x at.1 rel.depth out rel.before rel.within rel.part rel.rest short inside),
              ),
            );
          }

-- Where the memory is full the list in work has some of the tokens that go into it.
module _ (ds : List Token) (old : Stage) (x : Token) (mode : ParMode) (out : ℕ) (at : IsDelimitedStage ds old) (rel : Releases ds old x out) (open_yet : old.matched + 1 < length ds + out) (now : List Token) where
  yet : old.matched + 1 - out < length ds
  yet = omega (arith, at.1.fits)

  within : old.matched ≤ length ds
  within = omega (arith, at.1.fits)

  -- without its partial match it has what went out of the match
  goes_into : in_work ds (kept_in old) (read_in ds old ++ x ∷ []) ≡ old.list ++ take out (take old.matched ds ++ x ∷ [])
  goes_into =
      ap (λ (ts : List Token). kept_in old ++ ts) (new_rest ds (drop old.from old.list) old.matched old.depth x at.1 rel.depth out rel.before rel.within rel.part rel.rest)
      ∙ sym (append_assoc (kept_in old) (drop old.from old.list) (take out (take old.matched ds ++ x ∷ [])))
      ∙ ap (λ (ts : List Token). ts ++ take out (take old.matched ds ++ x ∷ [])) (list_whole old)

  met_part : (met : Case) (tokens : List Token) → target_at ds (kept_in old) (read_in ds old) x met ≡ old.list ++ tokens → met ≡ delimited_case ds mode (kept_in old) (read_in ds old) x → IsGrownByPart old.list now tokens →
      IsGrownByPart old.list now (gained ds old x (delimited_case ds mode (kept_in old) (read_in ds old) x))
  met_part met tokens e is part = subst (λ (c : Case). IsGrownByPart old.list now (gained ds old x c)) is (part_to old.list now tokens (target_at ds (kept_in old) (read_in ds old) x met) e part)

  -- an extra brace: all matched tokens go into it
  pub cut_brace : is_end x ≡ true → old.depth ≡ 0 → IsGrownByPart old.list now (take old.matched ds) → IsGrownByPart old.list now (gained ds old x (delimited_case ds mode (kept_in old) (read_in ds old) x))
  cut_brace e z part =
      met_part ExtraBrace (take old.matched ds) (sym (all_kept ds old))
      (met_extra ds (drop old.from old.list) old.matched old.depth x at.1 rel.depth out rel.before rel.within rel.part rel.rest yet mode (kept_in old) e z) part

  module _ (inside : (is_end x && (old.depth == 0)) ≡ false) where
    is_going : (out ≡ old.matched + 1 → (is_short mode && is_par x) ≡ false) → Going ≡ delimited_case ds mode (kept_in old) (read_in ds old) x
    is_going p = met_going ds (drop old.from old.list) old.matched old.depth x at.1 rel.depth out rel.before rel.within rel.part rel.rest yet inside mode (kept_in old) p

    -- a match goes on: what went out of it
    pub cut_out : out ≤ old.matched → IsGrownByPart old.list now (take out ds) → IsGrownByPart old.list now (gained ds old x (delimited_case ds mode (kept_in old) (read_in ds old) x))
    cut_out o part =
        met_part Going (take out ds) (goes_into ∙ ap (λ (ts : List Token). old.list ++ ts) (take_front out old.matched ds (x ∷ []) o within)) (is_going (λ e. absurd (omega arith))) part

    module _ (last : out ≡ old.matched + 1) where
      goes_all : in_work ds (kept_in old) (read_in ds old ++ x ∷ []) ≡ old.list ++ (take old.matched ds ++ x ∷ [])
      goes_all = goes_into ∙ ap (λ (ts : List Token). old.list ++ ts) (take_all out (take old.matched ds ++ x ∷ []) (omega (arith, length-append (take old.matched ds) (x ∷ []), length-take-le old.matched ds within)))

      -- it is broken off, and only its tokens go into the list in front of a `\par` that ends the call
      pub cut_all : IsGrownByPart old.list now (take old.matched ds) → IsGrownByPart old.list now (gained ds old x (delimited_case ds mode (kept_in old) (read_in ds old) x))
      cut_all part = by (is_short mode && is_par x) refl
        where
          by : (b : Bool) → (is_short mode && is_par x) ≡ b → IsGrownByPart old.list now (gained ds old x (delimited_case ds mode (kept_in old) (read_in ds old) x))
          by true p =
              met_part ParEnded (take old.matched ds) (sym (all_kept ds old))
              (met_par ds (drop old.from old.list) old.matched old.depth x at.1 rel.depth out rel.before rel.within rel.part rel.rest yet inside mode (kept_in old) last p) part
          by false p = met_part Going (take old.matched ds ++ x ∷ []) goes_all (is_going (λ e. p)) (part_more old.list now (take old.matched ds) (x ∷ []) part)

      -- else the token too
      pub cut_last : (is_short mode && is_par x) ≡ false → now ≡ old.list ++ take old.matched ds → IsGrownByPart old.list now (gained ds old x (delimited_case ds mode (kept_in old) (read_in ds old) x))
      cut_last p e = met_part Going (take old.matched ds ++ x ∷ []) goes_all (is_going (λ e. p)) (part_last old.list now (take old.matched ds) x e)

-- the list behind the matched tokens, of which some went out of the match
pub out_front : (items now : List Token) (m out : ℕ) (ds : List Token) (x : Token) → out ≤ m → m ≤ length ds → now ≡ items ++ take out ds → now ≡ items ++ take out (take m ds ++ x ∷ [])
out_front items now m out ds x h l e = e ∙ ap (λ (ts : List Token). items ++ ts) (sym (take_front out m ds (x ∷ []) h l))

-- or all, and the token behind them
pub out_all : (items stored now : List Token) (m out : ℕ) (ds : List Token) (x : Token) → out ≡ m + 1 → m ≤ length ds → stored ≡ items ++ take m ds → now ≡ stored ++ x ∷ [] → now ≡ items ++ take out (take m ds ++ x ∷ [])
out_all items stored now m out ds x o l e f =
    let a : take out (take m ds ++ x ∷ []) ≡ take m ds ++ x ∷ [] = take_all out (take m ds ++ x ∷ []) (omega (arith, length-append (take m ds) (x ∷ []), length-take-le m ds l)) in
    f ∙ ap (λ (ts : List Token). ts ++ x ∷ []) e ∙ append_assoc items (take m ds) (x ∷ []) ∙ ap (λ (ts : List Token). items ++ ts) (sym a)

pub not_whole : (ds : List Token) (m out : ℕ) (b : Bool) → m < length ds → IsTrue b ↔ ((out ≡ 0) × (m + 1 ≡ length ds)) → b ≡ false → m + 1 < length ds + out
not_whole ds m out true fits iff f = absurd (true≢false f)
not_whole ds m zero false fits iff f = by (cases_lt (m + 1) (length ds))
  where
    by : (m + 1 < length ds) ⊎ (length ds ≤ m + 1) → m + 1 < length ds + zero
    by (inl h) = omega arith
    by (inr h) = absurd (true≢false (sym (iff.1 (refl, omega arith))))
not_whole ds m (suc k) false fits iff f = omega arith

-- a match that stays is whole where nothing of the delimiter is behind it
pub whole_by : (ds rest : List Token) (m out : ℕ) (b : Bool) → m < length ds → rest ≡ drop (m + 1 - out) ds → IsTrue b ↔ ((out ≡ 0) × (rest ≡ [])) → IsTrue b ↔ ((out ≡ 0) × (m + 1 ≡ length ds))
whole_by ds rest m out b fits behind iff = (
  λ yes. let p = iff.0 yes in (p.0, omega (arith, p.0, ap length p.1, ap length behind, length-drop (m + 1 - out) ds, fits)),
  λ both. iff.1 (both.0, behind ∙ drop_all (m + 1 - out) ds (omega (arith, both.0, both.1))),
)
